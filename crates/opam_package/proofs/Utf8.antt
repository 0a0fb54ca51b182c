-- Whether bytes are a text, as a test and as std says it.
use Rattle.std.proofs.Common.{◌≡◌, ℕ, Bool, true, false, ◌&&◌, List, if◌then◌else◌, sym, ap, refl, ◌∙◌}
use Rattle.std.specs.List.{list_all}
use Rattle.std.specs.declared.option.Option.TheVariants.{None, Some}
use Rattle.std.specs.Str.{is_utf8, IsUtf8}
use Rattle.std.proofs.lemmas.Str.{IsUtf8-from_is_utf8, is_utf8-from_IsUtf8}
use Rattle.opam_names.specs.Paths.{is_not_zero}
use Rattle.opam_package.specs.Forms.{text_of_bytes}

both_hold : (b z : Bool) → b ≡ true → z ≡ true → (b && z) ≡ true
both_hold true z first second = second
both_hold false z first second = first

-- what was told as UTF-8 and has no zero byte is a text
pub told_text : (bytes text : List ℕ) → text ≡ bytes → IsUtf8 bytes → list_all is_not_zero bytes ≡ true → Some text ≡ text_of_bytes bytes
told_text bytes text same utf8 zero =
    ap Some same ∙ sym (ap (λ t. if t then Some bytes else None) (both_hold (is_utf8 bytes) (list_all is_not_zero bytes) (is_utf8-from_IsUtf8 bytes utf8) zero))

-- where the bytes are not UTF-8 the test says so
not_utf8 : (bytes : List ℕ) (b : Bool) → is_utf8 bytes ≡ b → ¬ IsUtf8 bytes → false ≡ b
not_utf8 bytes true is refused = absurd (refused (IsUtf8-from_is_utf8 bytes is))
not_utf8 bytes false is refused = refl

pub not_told : (bytes : List ℕ) → ¬ IsUtf8 bytes → None ≡ text_of_bytes bytes
not_told bytes refused = ap (λ t. if t && list_all is_not_zero bytes then Some bytes else None) (not_utf8 bytes (is_utf8 bytes) refl refused)
