-- Words of commands.
use Rattle.std.proofs.Common.{◌≡◌, ℕ, List, Bool, true, false, Some, None, inl, inr, refl, ◌∙◌, ap}
use Rattle.std.specs.Prelude.{◌&&◌, if◌then◌else◌}
use Rattle.std.specs.List.{list_all}
use Rattle.std.specs.Str.{IsUtf8, is_utf8}
use Rattle.std.proofs.lemmas.Bool.{cases_Bool}
use Rattle.std.proofs.lemmas.Str.{IsUtf8-from_is_utf8, is_utf8-from_IsUtf8}
use Rattle.opam_top.specs.OpamFiles.{is_word, is_word_byte}

taken : (a b : Bool) (word : List ℕ) → a ≡ true → b ≡ true → Some word ≡ (if a && b then Some word else None)
taken a b word p q = rw (p, q) refl

left : (a b : Bool) (word : List ℕ) → a ≡ false → None ≡ (if a && b then Some word else None)
left a b word p = rw p refl

-- bytes that are a word
pub word_is_read : (word text : List ℕ) → text ≡ word → IsUtf8 word → list_all is_word_byte word ≡ true → Some text ≡ (if is_word word then Some word else None)
word_is_read word text is utf8 all = ap (λ (t : List ℕ). Some t) is ∙ taken (is_utf8 word) (list_all is_word_byte word) word (is_utf8-from_IsUtf8 word utf8) all

no_test : (word : List ℕ) → (IsUtf8 word → ⊥) → is_utf8 word ≡ false
no_test word bad = elim (cases_Bool (is_utf8 word)) [ inl is ↦ absurd (bad (IsUtf8-from_is_utf8 word is)) | inr is ↦ is ]

-- bytes that are no text
pub no_word_is_read : (word : List ℕ) → (IsUtf8 word → ⊥) → None ≡ (if is_word word then Some word else None)
no_word_is_read word bad = left (is_utf8 word) (list_all is_word_byte word) word (no_test word bad)
