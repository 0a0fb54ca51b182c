-- The parts of a scope, as std splits a text.
use Rattle.std.proofs.Common.{◌≡◌, ℕ, ◌==◌, ◌≤◌, ◌&&◌, Bool, true, cond, List, [], ◌∷◌, length, refl, sym, ap, ◌∙◌, Bor, map, nat_le, arith, le-leb}
use Rattle.std.proofs.lemmas.List.{length-map}
use Rattle.std.proofs.lemmas.List.Folds.{list_all-map}
use Rattle.std.specs.List.{list_all, slice_split}
use Rattle.std.specs.List as list
use Rattle.opam_names.specs.Paths.{onto_first}
use Rattle.syntax_trees.specs.Words.{scope_parts}
use Rattle.opam_filter.specs.Scopes.{is_package_part}

same_onto : (b : ℕ) (parts : List (List ℕ)) → list.onto_first b parts ≡ onto_first b parts
same_onto b [] = refl
same_onto b (part ∷ more) = refl

abbrev is_plus : ℕ → Bool
is_plus b = b == 43

pub split_at_plus : (scope : List ℕ) → slice_split is_plus scope ≡ scope_parts scope
split_at_plus [] = refl
split_at_plus (b ∷ bytes) =
    ap (λ parts. cond (is_plus b) ([] ∷ parts) (list.onto_first b parts)) (split_at_plus bytes)
    ∙ ap (λ parts. cond (is_plus b) ([] ∷ scope_parts bytes) parts) (same_onto b (scope_parts bytes))

abbrev text_of : Bor (List ℕ) → List ℕ
text_of part = part.now

-- two parts or more are joined where each may be a part
pub two_joined : (parts : List (Bor (List ℕ))) (r : Bool) → 2 ≤ length parts → r ≡ list_all (λ part. is_package_part part.now) parts
    → r ≡ (nat_le 2 (length (map text_of parts)) && list_all is_package_part (map text_of parts))
two_joined parts r h e =
    let many : nat_le 2 (length (map text_of parts)) ≡ true = le-leb 2 (length (map text_of parts)) (omega (arith, length-map parts text_of)) in
    e ∙ sym (list_all-map is_package_part text_of parts) ∙ sym (ap (λ b. b && list_all is_package_part (map text_of parts)) many)
