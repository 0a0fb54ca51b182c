-- Whether bytes are UTF-8, as a test and as std says it.
use Rattle.std.proofs.Common.{◌≡◌, ℕ, Bool, true, false, ◌&&◌, IsTrue, List, sym, refl}
use Rattle.std.specs.Result.{is_ok, MatchResult}
use Rattle.std.specs.declared.result.Result.{Result}
use Rattle.std.specs.declared.result.Result.TheVariants.{Ok, Err}
use Rattle.std.specs.Str.{is_utf8, IsUtf8}
use Rattle.std.proofs.lemmas.Bool.{false≢true}
use Rattle.std.proofs.lemmas.Str.{IsUtf8-from_is_utf8, is_utf8-from_IsUtf8}
use Rattle.opam_filter.specs.Faults.{is_text}

-- where the bytes are not UTF-8 the test says so
not_utf8 : (bytes : List ℕ) (b : Bool) → is_utf8 bytes ≡ b → ¬ IsUtf8 bytes → false ≡ b
not_utf8 bytes true is refused = absurd (refused (IsUtf8-from_is_utf8 bytes is))
not_utf8 bytes false is refused = refl

-- what the test of std says
pub utf8_told : {X E : Type 0} (A : X → Type 0) (B : E → Type 0) (r : Result X E) (bytes : List ℕ)
    → MatchResult r (λ s. A s × IsUtf8 bytes) (λ e. ¬ IsUtf8 bytes × B e) → is_ok r ≡ is_utf8 bytes
utf8_told A B (Ok s) bytes told = sym (is_utf8-from_IsUtf8 bytes told.1)
utf8_told A B (Err e) bytes told = not_utf8 bytes (is_utf8 bytes) refl told.0

-- of two tests that both hold the first holds
utf8_part : (b : Bool) (bytes : List ℕ) (other : Bool) → is_utf8 bytes ≡ b → IsTrue (b && other) → IsUtf8 bytes
utf8_part true bytes other is told = IsUtf8-from_is_utf8 bytes is
utf8_part false bytes other is told = absurd (false≢true told)

-- a text is UTF-8
pub text_is_utf8 : (bytes : List ℕ) → IsTrue (is_text bytes) → IsUtf8 bytes
text_is_utf8 bytes is = utf8_part (is_utf8 bytes) bytes _ refl is
