-- Items as paths.
use Rattle.std.proofs.Common.{◌≡◌, ℕ, suc, ◌<◌, Bool, true, false, List, [], ◌∷◌, length, cond, refl, ap, ◌∙◌, arith}
use Rattle.std.specs.Prelude.{nat_le, ◌&&◌, ◌==◌}
use Rattle.std.specs.List.{list_all}
use Rattle.std.specs.Str.{IsUtf8}
use Rattle.std.proofs.lemmas.Bool.Decides.{nat_tests}
use Rattle.std.proofs.lemmas.Str.{IsUtf8-from_ascii}
use Rattle.std.proofs.Math.Bool.{and-true}
use Rattle.opam_names.specs.Paths.{parts, onto_first, is_part, is_plain_byte, is_plain_path}
use Rattle.opam_top.proofs.Tests.{all_ascii, both_left, both_right}
use Rattle.opam_top.specs.InstallTexts.{is_item, is_item_byte}
use Rattle.opam_top.specs.Placements.{bin_path}

-- the three parts of the test
pub item_bytes : (item : List ℕ) → is_item item ≡ true → list_all is_item_byte item ≡ true
item_bytes item is = both_left (list_all is_item_byte item) (is_part item) (both_left (list_all is_item_byte item && is_part item) (nat_le (length item) 1020) is)

pub item_part : (item : List ℕ) → is_item item ≡ true → is_part item ≡ true
item_part item is = both_right (list_all is_item_byte item) (is_part item) (both_left (list_all is_item_byte item && is_part item) (nat_le (length item) 1020) is)

pub item_short : (item : List ℕ) → is_item item ≡ true → nat_le (length item) 1020 ≡ true
item_short item is = both_right (list_all is_item_byte item && is_part item) (nat_le (length item) 1020) is

item_byte_low : (b : ℕ) → is_item_byte b ≡ true → b < 128
item_byte_low b is = grind (arith, nat_tests)

item_byte_plain : (b : ℕ) → is_item_byte b ≡ true → is_plain_byte b ≡ true
item_byte_plain b is = grind (arith, nat_tests)

pub item_byte_no_slash : (b : ℕ) → is_item_byte b ≡ true → (b == 47) ≡ false
item_byte_no_slash b is = grind (arith, nat_tests)

pub item_is_text : (item : List ℕ) → is_item item ≡ true → IsUtf8 item
item_is_text item is = IsUtf8-from_ascii item (all_ascii is_item_byte item_byte_low item (item_bytes item is))

bytes_plain : (item : List ℕ) → list_all is_item_byte item ≡ true → list_all is_plain_byte item ≡ true
bytes_plain [] is = refl
bytes_plain (b ∷ bytes) is =
    let here : is_plain_byte b ≡ true = item_byte_plain b (both_left (is_item_byte b) (list_all is_item_byte bytes) is) in
    let later : list_all is_plain_byte bytes ≡ true = bytes_plain bytes (both_right (is_item_byte b) (list_all is_item_byte bytes) is) in
    rw here later

-- a text without a slash is one part
one_part : (item : List ℕ) → list_all is_item_byte item ≡ true → parts item ≡ item ∷ []
one_part [] is = refl
one_part (b ∷ bytes) is =
    ap (λ c. cond c ([] ∷ parts bytes) (onto_first b (parts bytes))) (item_byte_no_slash b (both_left (is_item_byte b) (list_all is_item_byte bytes) is))
    ∙ ap (onto_first b) (one_part bytes (both_right (is_item_byte b) (list_all is_item_byte bytes) is))

good_parts : (item : List ℕ) → is_item item ≡ true → list_all is_part (parts item) ≡ true
good_parts item is = ap (list_all is_part) (one_part item (item_bytes item is)) ∙ and-true (is_part item) ∙ item_part item is

all_three : (a b c : Bool) → a ≡ true → b ≡ true → c ≡ true → (a && b && c) ≡ true
all_three a b c p q r = rw (p, q, r) refl

shorter : (n : ℕ) → nat_le n 1020 ≡ true → nat_le n 1024 ≡ true
shorter n is = grind (arith, nat_tests)

four_more : (n : ℕ) → nat_le n 1020 ≡ true → nat_le (suc (suc (suc (suc n)))) 1024 ≡ true
four_more n is = grind (arith, nat_tests)

pub item_is_path : (item : List ℕ) → is_item item ≡ true → is_plain_path item ≡ true
item_is_path item is = all_three (list_all is_plain_byte item) (list_all is_part (parts item)) (nat_le (length item) 1024) (bytes_plain item (item_bytes item is)) (good_parts item is) (shorter (length item) (item_short item is))

pub bin_path_is_path : (item : List ℕ) → is_item item ≡ true → is_plain_path (bin_path item) ≡ true
bin_path_is_path item is =
    let path = bin_path item in
    all_three (list_all is_plain_byte path) (list_all is_part (parts path)) (nat_le (length path) 1024) (bytes_plain item (item_bytes item is)) (good_parts item is) (four_more (length item) (item_short item is))
