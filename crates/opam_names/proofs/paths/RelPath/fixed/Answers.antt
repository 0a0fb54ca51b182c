use Rattle.std.proofs.Common.{subst, sym}
use Rattle.opam_names.specs.Paths.{IsRelative}
use Rattle.opam_names.proofs.Parts.{plain_relative}
use Rattle.opam_names.proofs.paths.RelPath.fixed.Goals as goal

pub invariant_of-result : goal.invariant_of-result
invariant_of-result c = subst IsRelative (sym c.in_ok-from_str.ensures.ok) (plain_relative c.args.text.now c.requires)
