use Rattle.std.proofs.Common.{◌≡◌, string_bytes, take}
use Rattle.std.specs.List.{flat_map}
use Rattle.opam_top.specs.Refusals.{unknown_line}
use Rattle.opam_top.proofs.stops.text_of_unknown.Given as goal

abbrev pub invariant-loop-pkg : goal.invariant-loop-pkg
invariant-loop-pkg l = string_bytes l.text ≡ flat_map unknown_line (take l.pkg-index l.pkgs)
