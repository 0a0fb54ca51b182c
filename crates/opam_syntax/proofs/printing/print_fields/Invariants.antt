use Rattle.std.proofs.Common.{◌≡◌, ◌++◌}
use Rattle.opam_syntax.specs.Spelling.{fields_text}
use Rattle.opam_syntax.proofs.printing.print_fields.Given as goal

-- what is printed, and then what is left
abbrev pub invariant-loop-name : goal.invariant-loop-name
invariant-loop-name l = l.out.items ++ fields_text l.name-iterator ≡ l.fn.out.items ++ fields_text l.fields.entries
