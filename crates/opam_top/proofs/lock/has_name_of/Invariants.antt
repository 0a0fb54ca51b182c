use Rattle.std.proofs.Common.{◌≡◌, drop}
use Rattle.std.specs.Prelude.{bytes_eq}
use Rattle.std.specs.List.{list_any}
use Rattle.opam_top.proofs.lock.has_name_of.Given as goal

abbrev pub invariant-loop-other : goal.invariant-loop-other
invariant-loop-other l = list_any (λ other. bytes_eq l.pkg.name other.name) (drop l.other-index l.pkgs) ≡ list_any (λ other. bytes_eq l.pkg.name other.name) l.pkgs
