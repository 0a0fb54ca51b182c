use Rattle.std.proofs.Common.{◌≡◌, drop}
use Rattle.std.specs.List.{list_all}
use Rattle.opam_names.specs.Names.{is_digit}
use Rattle.opam_names.specs.Orders.{number, number_after}
use Rattle.syntax_trees.proofs.words.small_number.Given as goal

-- what the digits so far write, and that the others go on
abbrev pub invariant-loop-digit : goal.invariant-loop-digit
invariant-loop-digit l =
    (number_after l.number (drop l.digit-index l.digits) ≡ number l.digits)
    × (list_all is_digit (drop l.digit-index l.digits) ≡ list_all is_digit l.digits)
