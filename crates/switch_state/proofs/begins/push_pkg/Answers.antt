use Rattle.std.proofs.Common.{◌≡◌, ◌∙◌, ◌≤◌, List, [], ◌∷◌, ◌++◌, ap, arith, refl, sym}
use Rattle.opam_names.specs.declared.packages.Pkg.{Pkg}
use Rattle.switch_state.proofs.Beginning.{and_none, pkg_nowhere}
use Rattle.switch_state.proofs.begins.push_pkg.Goals as goal

pub returns-else-place-members : goal.returns-else-place-members
returns-else-place-members c = let out = c.if-place-members.false in and_none c.args.pkgs.now (pkg_nowhere c.args.members.now c.args.place (omega (arith, out)))
