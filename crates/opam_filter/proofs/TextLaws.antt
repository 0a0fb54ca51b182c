-- The parts of a text are the text.
use Rattle.std.proofs.Common.{◌≡◌, ℕ, zero, suc, ◌<◌, ◌≤◌, ◌&&◌, true, List, [], ◌∷◌, ◌++◌, length, refl, sym, ap, ◌∙◌, arith, append_assoc}
use Rattle.std.specs.List.{flat_map, list_all}
use Rattle.std.specs.Option.{is_none, option_and_then}
use Rattle.std.specs.declared.option.Option.{Option}
use Rattle.std.specs.declared.option.Option.TheVariants.{None, Some}
use Rattle.opam_filter.specs.Laws.{AreParts, TextsAreCut, hole_text, is_first}
use Rattle.opam_filter.specs.Texts.{Cut, Hole, Parts, closed, opened, parts_after, parts_from, parts_up_to, with_hole, without_holes}
use Rattle.opam_filter.proofs.Cuts.{cut_shorter, is_cut}

no_holes : (text : List ℕ) → option_and_then (λ opening. closed opening.after) (opened text) ≡ None → AreParts text (without_holes text)
no_holes text h = record { whole = refl; each = refl; rest = h }

one_more : (text : List ℕ) (opening closing : Cut) (others : Parts) → opened text ≡ Some opening → closed opening.after ≡ Some closing → AreParts closing.after others
    → AreParts text (with_hole opening.before closing.before others)
one_more text opening closing others h k are = record { whole = whole; each = each; rest = are.rest }
  where
    hole : Hole
    hole = record { before = opening.before; inside = closing.before }

    whole : (hole_text hole ++ flat_map hole_text others.holes) ++ others.rest ≡ text
    whole =
        let first = (is_cut 37 123 text opening h).whole in
        let next = (is_cut 125 37 opening.after closing k).whole in
        let all : opening.before ++ (37 ∷ 123 ∷ (closing.before ++ (125 ∷ 37 ∷ (flat_map hole_text others.holes ++ others.rest)))) ≡ text =
        ap (λ s. opening.before ++ (37 ∷ 123 ∷ (closing.before ++ (125 ∷ 37 ∷ s)))) are.whole ∙ ap (λ s. opening.before ++ (37 ∷ 123 ∷ s)) (sym next) ∙ sym first in
        simp append_assoc all

    each : (is_first hole && list_all is_first others.holes) ≡ true
    each = ap (λ o. (is_none o && is_none (closed closing.before)) && list_all is_first others.holes) (is_cut 37 123 text opening h).first
        ∙ ap (λ o. is_none o && list_all is_first others.holes) (is_cut 125 37 opening.after closing k).first
        ∙ are.each

are_parts_after : (others : List ℕ → Parts) (text : List ℕ) (opening : Cut) (o : Option Cut) → opened text ≡ Some opening → closed opening.after ≡ o
    → ((s : List ℕ) → length s < length text → AreParts s (others s)) → AreParts text (parts_after others text opening o)
are_parts_after others text opening None h k are = no_holes text (ap (option_and_then (λ cut. closed cut.after)) h ∙ k)
are_parts_after others text opening (Some closing) h k are =
    let one = cut_shorter 37 123 text opening h in
    let two = cut_shorter 125 37 opening.after closing k in
    one_more text opening closing (others closing.after) h k (are closing.after (omega arith))

are_parts_from : (others : List ℕ → Parts) (text : List ℕ) (o : Option Cut) → opened text ≡ o
    → ((s : List ℕ) → length s < length text → AreParts s (others s)) → AreParts text (parts_from others text o)
are_parts_from others text None h are = no_holes text (ap (option_and_then (λ cut. closed cut.after)) h)
are_parts_from others text (Some opening) h are = are_parts_after others text opening (closed opening.after) h refl are

are_parts : (n : ℕ) (text : List ℕ) → length text ≤ n → AreParts text (parts_up_to n text)
are_parts zero [] h = no_holes [] refl
are_parts zero (b ∷ text) h = absurd (omega arith)
are_parts (suc n) text h = are_parts_from (parts_up_to n) text (opened text) refl (λ s l. are_parts n s (omega arith))

pub texts_are_cut : TextsAreCut
texts_are_cut text = are_parts (length text) text (omega arith)
