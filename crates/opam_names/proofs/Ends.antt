-- Which fronts of bytes begin names and versions.
use Rattle.std.proofs.Common.{◌≡◌, ℕ, ◌+◌, ◌<◌, ◌≤◌, Bool, true, false, List, [], ◌∷◌, ◌++◌, length, take, refl, sym, ap, ◌∙◌, subst, arith, append-nil, length-append}
use Rattle.std.proofs.Math.Bool.{or-true}
use Rattle.std.proofs.lemmas.Bool.{and_from}
use Rattle.std.proofs.lemmas.List.{length-take-le}
use Rattle.std.proofs.lemmas.List.Folds.{list_all-append, list_any-append, length-prefix_len}
use Rattle.std.proofs.lemmas.List.Sums.{prefix_len-le-length}
use Rattle.std.specs.List.{list_all, list_any, prefix_len, take_while}
use Rattle.opam_names.specs.Faults.{Begins, IsLongestBegin, IsBadAt}
use Rattle.opam_names.specs.Names.{IsName, IsVersion, is_letter, is_name_byte, is_version_byte}
use Rattle.opam_names.proofs.Bytes.{both_left}
use Rattle.opam_names.proofs.Runs.{run_passes, run_ends}

pub bad_at : (IsValue : List ℕ → Type 0) (bytes : List ℕ) (at : ℕ) → (IsValue bytes → ⊥) → IsLongestBegin IsValue bytes at → IsBadAt IsValue bytes at
bad_at IsValue bytes at none end = record { no_value = none; within = end.within; begins = end.begins; longest = end.longest }

pub all_front : (p : ℕ → Bool) (xs ys : List ℕ) → list_all p (xs ++ ys) ≡ true → list_all p xs ≡ true
all_front p xs ys h = both_left (list_all p xs) (list_all p ys) (sym (list_all-append p xs ys) ∙ h)

pub nothing_more : (ys : List ℕ) → length ys ≤ 0 → ys ≡ []
nothing_more [] h = refl
nothing_more (y ∷ ys) h = absurd (omega arith)

-- a front that is no name yet takes an `a`
name_goes_on : (xs : List ℕ) → list_all is_name_byte xs ≡ true → length xs < 120 → Begins IsName xs
name_goes_on xs all short = (
  97 ∷ [],
  record {
    all = list_all-append is_name_byte xs (97 ∷ []) ∙ and_from (list_all is_name_byte xs) true all refl;
    letter = list_any-append is_letter xs (97 ∷ []) ∙ or-true (list_any is_letter xs);
    short = rw (length-append xs (97 ∷ [])) (omega arith);
  },
)

name_is_full : (xs : List ℕ) → list_all is_name_byte xs ≡ true → list_any is_letter xs ≡ true → length xs ≤ 120 → Begins IsName xs
name_is_full xs all letter short = ([], subst IsName (sym (append-nil xs)) (record { all = all; letter = letter; short = short }))

name_bytes : (xs : List ℕ) → Begins IsName xs → list_all is_name_byte xs ≡ true
name_bytes xs (more, n) = all_front is_name_byte xs more n.all

pub name_short : (xs : List ℕ) → Begins IsName xs → length xs ≤ 120
name_short xs (more, n) = let e = length-append xs more in omega (arith, n.short)

name_letter : (xs : List ℕ) → Begins IsName xs → 120 ≤ length xs → list_any is_letter xs ≡ true
name_letter xs (more, n) full =
    let e = length-append xs more in
    let end : xs ++ more ≡ xs = ap (λ l. xs ++ l) (nothing_more more (omega (arith, n.short))) ∙ append-nil xs in
    sym (ap (list_any is_letter) end) ∙ n.letter

-- the run of name bytes ends below the limit
pub name_end_run : (bytes : List ℕ) (at : ℕ) → at ≡ length (take_while is_name_byte bytes) → at < 120 → IsLongestBegin IsName bytes at
name_end_run bytes at e short =
    let is : at ≡ prefix_len is_name_byte bytes = e ∙ length-prefix_len is_name_byte bytes in
    let within : at ≤ length bytes = omega (arith, prefix_len-le-length is_name_byte bytes) in
    record {
      within = within;
      begins = name_goes_on (take at bytes) (run_passes is_name_byte bytes at (omega arith)) (rw (length-take-le at bytes within) short);
      longest = λ n above inside b. let no : n ≤ prefix_len is_name_byte bytes = run_ends is_name_byte bytes n inside (name_bytes (take n bytes) b) in absurd (omega arith);
    }

pub name_end_letter : (bytes : List ℕ) (run : ℕ) → run ≡ length (take_while is_name_byte bytes) → 120 ≤ run → list_any is_letter (take 120 bytes) ≡ true → IsLongestBegin IsName bytes 120
name_end_letter bytes run e long letter =
    let is : run ≡ prefix_len is_name_byte bytes = e ∙ length-prefix_len is_name_byte bytes in
    let within : 120 ≤ length bytes = omega (arith, prefix_len-le-length is_name_byte bytes) in
    let size : length (take 120 bytes) ≡ 120 = length-take-le 120 bytes within in
    record {
      within = within;
      begins = name_is_full (take 120 bytes) (run_passes is_name_byte bytes 120 (omega arith)) letter (omega arith);
      longest = λ n above inside b. let size : length (take n bytes) ≡ n = length-take-le n bytes inside in absurd (omega (arith, name_short (take n bytes) b));
    }

pub name_end_none : (bytes : List ℕ) (run : ℕ) → run ≡ length (take_while is_name_byte bytes) → 120 ≤ run → list_any is_letter (take 120 bytes) ≡ false → IsLongestBegin IsName bytes 119
name_end_none bytes run e long none =
    let is : run ≡ prefix_len is_name_byte bytes = e ∙ length-prefix_len is_name_byte bytes in
    let within : 120 ≤ length bytes = omega (arith, prefix_len-le-length is_name_byte bytes) in
    let size : length (take 119 bytes) ≡ 119 = length-take-le 119 bytes (omega arith) in
    record {
      within = omega arith;
      begins = name_goes_on (take 119 bytes) (run_passes is_name_byte bytes 119 (omega arith)) (omega arith);
      longest = λ n above inside b.
          let size : length (take n bytes) ≡ n = length-take-le n bytes inside in
          let last : n ≡ 120 = omega (arith, name_short (take n bytes) b) in
          let letter : list_any is_letter (take n bytes) ≡ true = name_letter (take n bytes) b (omega arith) in
          let same : list_any is_letter (take n bytes) ≡ list_any is_letter (take 120 bytes) = ap (λ m. list_any is_letter (take m bytes)) last in
          let apart : true ≡ false = sym letter ∙ same ∙ none in cc;
    }

version_goes_on : (xs : List ℕ) → list_all is_version_byte xs ≡ true → length xs < 120 → Begins IsVersion xs
version_goes_on xs all short =
    let e : length (xs ++ 48 ∷ []) ≡ length xs + 1 = length-append xs (48 ∷ []) in (
      48 ∷ [],
      record {
        all = list_all-append is_version_byte xs (48 ∷ []) ∙ and_from (list_all is_version_byte xs) true all refl;
        some = omega arith;
        short = omega arith;
      },
    )

version_is_full : (xs : List ℕ) → list_all is_version_byte xs ≡ true → length xs ≡ 120 → Begins IsVersion xs
version_is_full xs all full = ([], subst IsVersion (sym (append-nil xs)) (record { all = all; some = omega arith; short = omega arith }))

version_bytes : (xs : List ℕ) → Begins IsVersion xs → list_all is_version_byte xs ≡ true
version_bytes xs (more, n) = all_front is_version_byte xs more n.all

version_short : (xs : List ℕ) → Begins IsVersion xs → length xs ≤ 120
version_short xs (more, n) = let e = length-append xs more in omega (arith, n.short)

pub version_end_run : (bytes : List ℕ) (at : ℕ) → at ≡ length (take_while is_version_byte bytes) → at < 120 → IsLongestBegin IsVersion bytes at
version_end_run bytes at e short =
    let is : at ≡ prefix_len is_version_byte bytes = e ∙ length-prefix_len is_version_byte bytes in
    let within : at ≤ length bytes = omega (arith, prefix_len-le-length is_version_byte bytes) in
    record {
      within = within;
      begins = version_goes_on (take at bytes) (run_passes is_version_byte bytes at (omega arith)) (rw (length-take-le at bytes within) short);
      longest = λ n above inside b. let no : n ≤ prefix_len is_version_byte bytes = run_ends is_version_byte bytes n inside (version_bytes (take n bytes) b) in absurd (omega arith);
    }

pub version_end_full : (bytes : List ℕ) (run : ℕ) → run ≡ length (take_while is_version_byte bytes) → 120 ≤ run → IsLongestBegin IsVersion bytes 120
version_end_full bytes run e long =
    let is : run ≡ prefix_len is_version_byte bytes = e ∙ length-prefix_len is_version_byte bytes in
    let within : 120 ≤ length bytes = omega (arith, prefix_len-le-length is_version_byte bytes) in
    record {
      within = within;
      begins = version_is_full (take 120 bytes) (run_passes is_version_byte bytes 120 (omega arith)) (length-take-le 120 bytes within);
      longest = λ n above inside b. let size : length (take n bytes) ≡ n = length-take-le n bytes inside in absurd (omega (arith, version_short (take n bytes) b));
    }

pub run_reaches : (p : ℕ → Bool) (bytes : List ℕ) (run : ℕ) → run ≡ length (take_while p bytes) → 120 ≤ run → length (take 120 bytes) ≡ 120
run_reaches p bytes run e long =
    let is : run ≡ prefix_len p bytes = e ∙ length-prefix_len p bytes in
    length-take-le 120 bytes (omega (arith, prefix_len-le-length p bytes))
