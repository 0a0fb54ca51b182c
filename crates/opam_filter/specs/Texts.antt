-- Texts with variables in them, as `%{name}%`, `%{scope:name}%` and `%{name?yes:no}%` (opam manual, interpolation).
use Rattle.std.specs.Prelude.{ℕ, zero, suc, List, [], ◌∷◌, ◌++◌, length, Bool, ◌==◌, ◌&&◌, if◌then◌else◌}
use Rattle.std.specs.List.{before_first, after_first, flat_map, list_any}
use Rattle.std.specs.Option.{option_map}
use Rattle.std.specs.declared.option.Option.{Option}
use Rattle.std.specs.declared.option.Option.TheVariants.{None, Some}
use Rattle.syntax_trees.specs.declared.tree.Var.{Var}
use Rattle.opam_filter.specs.Scopes.{plain, scoped, value_at}
use Rattle.opam_filter.specs.Truths.{is_yes, truth_of, word_of}
use Rattle.opam_filter.specs.Variables.{Values}
use Rattle.opam_filter.specs.declared.truth.VarValue.{VarValue}

-- what stands before two bytes where they first stand beside each other, and what stands after them
pub record Cut : Type 0 where
  pub before : List ℕ
  pub after : List ℕ

-- a byte before the cut
abbrev pub behind : ℕ → Cut → Cut
behind b cut = record { before = b ∷ cut.before; after = cut.after }

-- where the two bytes first stand beside each other
abbrev pub cut_at : ℕ → ℕ → List ℕ → Option Cut
cut_at first second [] = None
cut_at first second (a ∷ []) = None
cut_at first second (a ∷ b ∷ bytes) =
    if a == first && b == second then Some (record { before = []; after = bytes })
    else option_map (behind a) (cut_at first second (b ∷ bytes))

-- `%{`
abbrev pub opened : List ℕ → Option Cut
opened = cut_at 37 123

-- `}%`
abbrev pub closed : List ℕ → Option Cut
closed = cut_at 125 37

-- what stands before an interpolation, and what is in it
pub record Hole : Type 0 where
  pub before : List ℕ
  pub inside : List ℕ

-- the interpolations of a text, and what stands after the last
pub record Parts : Type 0 where
  pub holes : List Hole
  pub rest : List ℕ

-- a text with no interpolation, and one that begins with an interpolation
abbrev pub without_holes : List ℕ → Parts
without_holes text = record { holes = []; rest = text }

-- an interpolation before other parts
abbrev pub with_hole : List ℕ → List ℕ → Parts → Parts
with_hole before inside parts = record { holes = record { before = before; inside = inside } ∷ parts.holes; rest = parts.rest }

-- the first interpolation goes from the first `%{` up to the next `}%`, and what follows it is cut in the same way
abbrev pub parts_after : (List ℕ → Parts) → List ℕ → Cut → Option Cut → Parts
parts_after others text opening None = without_holes text
parts_after others text opening (Some closing) = with_hole opening.before closing.before (others closing.after)

-- the same where a `%{` may stand
abbrev pub parts_from : (List ℕ → Parts) → List ℕ → Option Cut → Parts
parts_from others text None = without_holes text
parts_from others text (Some opening) = parts_after others text opening (closed opening.after)

-- of a text with so many interpolations at most
abbrev pub parts_up_to : ℕ → List ℕ → Parts
parts_up_to zero text = without_holes text
parts_up_to (suc count) text = parts_from (parts_up_to count) text (opened text)

-- each interpolation has at least four bytes
abbrev pub parts_of : List ℕ → Parts
parts_of text = parts_up_to (length text) text

-- the byte `?`
abbrev pub is_question : ℕ → Bool
is_question b = b == 63

-- the byte `:`
abbrev pub is_colon : ℕ → Bool
is_colon b = b == 58

-- what stands before the first `:` is the scope
abbrev pub variable_of : List ℕ → Var
variable_of text = if list_any is_colon text then scoped (before_first is_colon text) (after_first is_colon text) else plain text

-- the variable that is asked for goes up to the first `?`
abbrev pub asked_for : List ℕ → Var
asked_for inside = variable_of (before_first is_question inside)

-- an undefined value is the empty text
abbrev pub shown : Option VarValue → List ℕ
shown None = []
shown (Some value) = word_of value

-- the first text where the value is true, else what stands after the first `:`
abbrev pub chosen : Bool → List ℕ → List ℕ
chosen first choice = if first then before_first is_colon choice else after_first is_colon choice

-- what stands for an interpolation
abbrev pub filled : Values → List ℕ → List ℕ
filled values inside =
    let value = value_at values (asked_for inside) in
    if list_any is_question inside then chosen (is_yes (truth_of value)) (after_first is_question inside) else shown value

-- each interpolation is replaced, and nothing is looked at twice
abbrev pub expanded : Values → List ℕ → List ℕ
expanded values text = flat_map (λ hole. hole.before ++ filled values hole.inside) (parts_of text).holes ++ (parts_of text).rest
