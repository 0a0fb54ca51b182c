use Rattle.std.proofs.Common.{◌≡◌, ◌∷◌, ◌++◌, drop}
use Rattle.std.specs.List.{flat_map}
use Rattle.opam_syntax.specs.Spelling.{byte_text}
use Rattle.opam_syntax.proofs.printing.print_text.Given as goal

-- what is printed, and then what is left
abbrev pub invariant-loop-byte : goal.invariant-loop-byte
invariant-loop-byte l = l.out.items ++ flat_map byte_text (drop l.byte-index l.bytes) ≡ l.fn.out.items ++ 34 ∷ flat_map byte_text l.bytes
