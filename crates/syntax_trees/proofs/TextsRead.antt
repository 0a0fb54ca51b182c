-- How texts are read.
use Rattle.std.proofs.Common.{◌≡◌, ℕ, ◌+◌, ◌-◌, ◌<◌, ◌≤◌, Bool, List, [], ◌++◌, length, take, drop, refl, sym, ap, subst, ◌∙◌, append_assoc, arith, length-drop}
use Rattle.std.proofs.Math.ListN.{drop_of_length-le}
use Rattle.std.proofs.lemmas.List.{drop-drop, take_all}
use Rattle.syntax_trees.specs.Texts.{Closes, Gives, NoPiece, piece, IsInside, closes, gives}
use Rattle.syntax_trees.proofs.OneTokens.{no_inside}
use Rattle.syntax_trees.proofs.WordsRead.{append_nil}

-- a text of which the first bytes were read: what goes on with it goes on, and it goes on if it is one
pub record ReadsText (long : Bool) (bytes : List ℕ) (at : ℕ) (text : List ℕ) : Type 0 where
  pub onto : {more rest : List ℕ} → IsInside long (drop at bytes) more rest → IsInside long bytes (text ++ more) rest
  pub only : {all rest : List ℕ} → IsInside long bytes all rest → (more : List ℕ) × (left : List ℕ) × IsInside long (drop at bytes) more left

pub text_begins : (long : Bool) (bytes : List ℕ) → ReadsText long bytes 0 []
text_begins long bytes = record { onto = λ p. p; only = λ {all} {rest} p. (all, rest, p) }

after_piece : {long : Bool} {bytes part rest all left : List ℕ} → piece long bytes ≡ Gives part rest → IsInside long bytes all left
    → (more : List ℕ) × IsInside long rest more left
after_piece e (closes f) = absurd (let g = sym e ∙ f in cc)
after_piece {long} {rest = rest} {left = left} e (gives {more = others} {text = t} f p) =
    let g = sym e ∙ f in
    let same : others ≡ rest = cc in
    let Here : List ℕ → Type 0 = λ l. IsInside long l t left in
    (t, subst Here same p)

-- what is left of the bytes, as a slice
pub slice_rest : (bytes : List ℕ) (at : ℕ) → take (length bytes - at) (drop at bytes) ≡ drop at bytes
slice_rest bytes at = take_all _ (drop at bytes) (omega (arith, length-drop at bytes))

-- a part of what is left ends within the bytes
pub part_within : (bytes rest : List ℕ) (at n : ℕ) → rest ≡ drop at bytes → at < length bytes → n ≤ length rest → at + n ≤ length bytes
part_within bytes rest at n e l h = omega (arith, ap length e, length-drop at bytes)

pub text_goes_on : (long : Bool) (bytes text part rest : List ℕ) (at n : ℕ) → rest ≡ drop at bytes → Gives part (drop n rest) ≡ piece long rest
    → ReadsText long bytes at text → ReadsText long bytes (at + n) (text ++ part)
text_goes_on long bytes text part rest at n r e s =
    let left : drop n rest ≡ drop (at + n) bytes = ap (drop n) r ∙ drop-drop n at bytes in
    let found : piece long (drop at bytes) ≡ Gives part (drop (at + n) bytes) = ap (piece long) (sym r) ∙ sym e ∙ ap (λ l. Gives part l) left in
    record {
      onto = λ {more} {rest = end} p.
          let All : List ℕ → Type 0 = λ t. IsInside long bytes t end in
          subst All (sym (append_assoc text part more)) (s.onto (gives found p));
      only = λ p.
          let before = s.only p in
          let after = after_piece found before.2 in
          (after.0, before.1, after.1);
    }

pub text_closes : (long : Bool) (bytes text rest : List ℕ) (at n : ℕ) → rest ≡ drop at bytes → Closes (drop n rest) ≡ piece long rest
    → ReadsText long bytes at text → IsInside long bytes text (drop (at + n) bytes)
text_closes long bytes text rest at n r e s =
    let left : drop n rest ≡ drop (at + n) bytes = ap (drop n) r ∙ drop-drop n at bytes in
    let found : piece long (drop at bytes) ≡ Closes (drop (at + n) bytes) = ap (piece long) (sym r) ∙ sym e ∙ ap (λ l. Closes l) left in
    let All : List ℕ → Type 0 = λ t. IsInside long bytes t (drop (at + n) bytes) in
    subst All (append_nil text) (s.onto (closes found))

pub text_stops : (long : Bool) (bytes text rest : List ℕ) (at : ℕ) → rest ≡ drop at bytes → NoPiece ≡ piece long rest → ReadsText long bytes at text
    → (all left : List ℕ) → IsInside long bytes all left → ⊥
text_stops long bytes text rest at r e s all left p = no_inside (ap (piece long) (sym r) ∙ sym e) (s.only p).2

pub text_ends : (long : Bool) (bytes text : List ℕ) (at : ℕ) → length bytes ≤ at → ReadsText long bytes at text
    → (all rest : List ℕ) → IsInside long bytes all rest → ⊥
text_ends long bytes text at l s = text_stops long bytes text [] at (sym (drop_of_length-le bytes l)) refl s
