-- Bytes that all pass a test, and which of them are text.
use Rattle.std.proofs.Common.{◌≡◌, ℕ, zero, suc, ◌<◌, ◌&&◌, Bool, true, false, List, [], ◌∷◌, get_or, refl, arith, lit<}
use Rattle.std.proofs.lemmas.Bool.Decides.{nat_tests}
use Rattle.std.proofs.lemmas.Str.{IsUtf8-from_ascii}
use Rattle.std.specs.List.{list_all}
use Rattle.std.specs.Str.{IsUtf8}
use Rattle.opam_names.specs.Names.{is_name_byte, is_version_byte, IsName, IsVersion}
use Rattle.opam_names.specs.Paths.{is_plain_byte, is_not_zero}

pub both_left : (x y : Bool) → (x && y) ≡ true → x ≡ true
both_left true y h = refl
both_left false y h = h

pub both_right : (x y : Bool) → (x && y) ≡ true → y ≡ true
both_right true y h = h
both_right false y h = cc

pub all_ascii : (p : ℕ → Bool) → ((b : ℕ) → p b ≡ true → b < 128) → (bytes : List ℕ) → list_all p bytes ≡ true → (i : ℕ) → get_or bytes i 0 < 128
all_ascii p low [] h i = lit< tt
all_ascii p low (x ∷ xs) h zero = low x (both_left (p x) (list_all p xs) h)
all_ascii p low (x ∷ xs) h (suc i) = all_ascii p low xs (both_right (p x) (list_all p xs) h) i

version_byte_low : (b : ℕ) → is_version_byte b ≡ true → b < 128
version_byte_low b h = grind (arith, nat_tests)

name_byte_low : (b : ℕ) → is_name_byte b ≡ true → b < 128
name_byte_low b h = grind (arith, nat_tests)

pub name_is_text : (bytes : List ℕ) → IsName bytes → IsUtf8 bytes
name_is_text bytes n = IsUtf8-from_ascii bytes (all_ascii is_name_byte name_byte_low bytes n.all)

pub version_is_text : (bytes : List ℕ) → IsVersion bytes → IsUtf8 bytes
version_is_text bytes n = IsUtf8-from_ascii bytes (all_ascii is_version_byte version_byte_low bytes n.all)

plain_byte_not_zero : (b : ℕ) → is_plain_byte b ≡ true → is_not_zero b ≡ true
plain_byte_not_zero b h = grind (arith, nat_tests)

pub plain_no_zero : (bytes : List ℕ) → list_all is_plain_byte bytes ≡ true → list_all is_not_zero bytes ≡ true
plain_no_zero [] h = refl
plain_no_zero (x ∷ xs) h =
    let now : is_not_zero x ≡ true = plain_byte_not_zero x (both_left (is_plain_byte x) (list_all is_plain_byte xs) h) in
    let later : list_all is_not_zero xs ≡ true = plain_no_zero xs (both_right (is_plain_byte x) (list_all is_plain_byte xs) h) in
    rw now later
