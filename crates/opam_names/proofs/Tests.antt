-- Tests that compute say the same as the definitions that they test.
use Rattle.std.proofs.Common.{◌≡◌, ℕ, ◌≤◌, List, length, Bool, true, false, ◌&&◌, IsTrue, refl, sym, ◌∙◌, ap, arith}
use Rattle.std.specs.Result.{is_ok, MatchResult}
use Rattle.std.specs.declared.result.Result.{Result}
use Rattle.std.specs.declared.result.Result.TheVariants.{Ok, Err}
use Rattle.std.specs.Str.{is_utf8, IsUtf8}
use Rattle.std.specs.List.{list_all, list_any}
use Rattle.std.specs.Prelude.{nat_le}
use Rattle.std.proofs.lemmas.Bool.Decides.{nat_tests}
use Rattle.std.proofs.lemmas.Str.{IsUtf8-from_is_utf8, is_utf8-from_IsUtf8}
use Rattle.opam_names.specs.declared.limits.TheConstants.{NAME_LIMIT, PATH_LIMIT, VERSION_LIMIT}
use Rattle.opam_names.specs.Names.{IsName, IsVersion, is_letter, is_name, is_name_byte, is_version, is_version_byte}
use Rattle.opam_names.specs.Paths.{IsPath, IsRelative, is_not_zero, is_part, is_relative, is_relative_path, parts}
use Rattle.opam_names.specs.TestLaws.{TestsSayTheSame}
use Rattle.opam_names.proofs.Bytes.{both_left, both_right}

-- where the bytes are not UTF-8 the test says so
not_utf8 : (bytes : List ℕ) (b : Bool) → is_utf8 bytes ≡ b → ¬ IsUtf8 bytes → false ≡ b
not_utf8 bytes true is refused = absurd (refused (IsUtf8-from_is_utf8 bytes is))
not_utf8 bytes false is refused = refl

-- what the test of std says
pub utf8_told : {X E : Type 0} (A : X → Type 0) (B : E → Type 0) (r : Result X E) (bytes : List ℕ)
    → MatchResult r (λ s. A s × IsUtf8 bytes) (λ e. ¬ IsUtf8 bytes × B e) → is_ok r ≡ is_utf8 bytes
utf8_told A B (Ok s) bytes told = sym (is_utf8-from_IsUtf8 bytes told.1)
utf8_told A B (Err e) bytes told = not_utf8 bytes (is_utf8 bytes) refl told.0

-- ---- names, versions and paths

both_of : (a b : Bool) → a ≡ true → b ≡ true → (a && b) ≡ true
both_of true b is other = other
both_of false b is other = is

within_test : (n m : ℕ) → nat_le n m ≡ true → n ≤ m
within_test n m is = grind (arith, nat_tests)

test_within : (n m : ℕ) → n ≤ m → nat_le n m ≡ true
test_within n m is = grind (arith, nat_tests)

name_of : (bytes : List ℕ) → IsTrue (is_name bytes) → IsName bytes
name_of bytes is =
    let all = list_all is_name_byte bytes in
    let some = list_any is_letter bytes in
    let short = nat_le (length bytes) NAME_LIMIT in
    let front : (all && some) ≡ true = both_left (all && some) short is in
    record { all = both_left all some front; letter = both_right all some front; short = within_test (length bytes) NAME_LIMIT (both_right (all && some) short is) }

name_test : (bytes : List ℕ) → IsName bytes → IsTrue (is_name bytes)
name_test bytes is =
    both_of (list_all is_name_byte bytes && list_any is_letter bytes) (nat_le (length bytes) NAME_LIMIT)
    (both_of (list_all is_name_byte bytes) (list_any is_letter bytes) is.all is.letter) (test_within (length bytes) NAME_LIMIT is.short)

version_of : (bytes : List ℕ) → IsTrue (is_version bytes) → IsVersion bytes
version_of bytes is =
    let all = list_all is_version_byte bytes in
    let some = nat_le 1 (length bytes) in
    let short = nat_le (length bytes) VERSION_LIMIT in
    let front : (all && some) ≡ true = both_left (all && some) short is in
    record {
      all = both_left all some front;
      some = let one : 1 ≤ length bytes = within_test 1 (length bytes) (both_right all some front) in omega arith;
      short = within_test (length bytes) VERSION_LIMIT (both_right (all && some) short is);
    }

version_test : (bytes : List ℕ) → IsVersion bytes → IsTrue (is_version bytes)
version_test bytes is =
    let some = is.some in
    both_of (list_all is_version_byte bytes && nat_le 1 (length bytes)) (nat_le (length bytes) VERSION_LIMIT)
    (both_of (list_all is_version_byte bytes) (nat_le 1 (length bytes)) is.all (test_within 1 (length bytes) (omega arith))) (test_within (length bytes) VERSION_LIMIT is.short)

relative_of : (bytes : List ℕ) → is_relative bytes ≡ true → IsRelative bytes
relative_of bytes is =
    let short = nat_le (length bytes) PATH_LIMIT in
    let whole = list_all is_not_zero bytes in
    let good = list_all is_part (parts bytes) in
    let front : (short && whole) ≡ true = both_left (short && whole) good is in
    record { no_zero = both_right short whole front; good_parts = both_right (short && whole) good is; short = within_test (length bytes) PATH_LIMIT (both_left short whole front) }

relative_test : (bytes : List ℕ) → IsRelative bytes → is_relative bytes ≡ true
relative_test bytes is =
    both_of (nat_le (length bytes) PATH_LIMIT && list_all is_not_zero bytes) (list_all is_part (parts bytes))
    (both_of (nat_le (length bytes) PATH_LIMIT) (list_all is_not_zero bytes) (test_within (length bytes) PATH_LIMIT is.short) is.no_zero) is.good_parts

path_of : (bytes : List ℕ) → IsTrue (is_relative_path bytes) → IsPath bytes
path_of bytes is =
    (IsUtf8-from_is_utf8 bytes (both_left (is_utf8 bytes) (is_relative bytes) is), relative_of bytes (both_right (is_utf8 bytes) (is_relative bytes) is))

path_test : (bytes : List ℕ) → IsPath bytes → IsTrue (is_relative_path bytes)
path_test bytes is = both_of (is_utf8 bytes) (is_relative bytes) (is_utf8-from_IsUtf8 bytes is.0) (relative_test bytes is.1)

pub tests_say_the_same : TestsSayTheSame
tests_say_the_same = record {
  names = λ bytes. (name_of bytes, name_test bytes);
  versions = λ bytes. (version_of bytes, version_test bytes);
  paths = λ bytes. (path_of bytes, path_test bytes);
}
