-- Where the name of a package ends, and which fronts of bytes begin packages.
use Rattle.std.proofs.Common.{◌≡◌, ℕ, zero, suc, ◌+◌, ◌-◌, ◌<◌, ◌≤◌, ◌&&◌, Bool, true, false, cond, not, List, [], ◌∷◌, ◌++◌, length, take, drop, get_or, refl, sym, ap, ◌∙◌, subst, arith, add-one, None, Some, drop-cons, append_assoc, length-append, le_trans, ◌⊎◌, inl, inr}
use Rattle.std.proofs.Math.Seq.{take-append-add}
use Rattle.std.proofs.lemmas.Bool.Decides.{nat_tests}
use Rattle.std.proofs.lemmas.List.{take_rest, take-append-drop, take-append-le, length-take-le, take_all}
use Rattle.std.proofs.lemmas.List.Quantifiers.{position-Some}
use Rattle.std.specs.List.{list_all, position, prefix_len}
use Rattle.std.specs.Prelude.{nat_lt}
use Rattle.opam_names.specs.Names.{is_name_byte, IsName, IsVersion}
use Rattle.opam_names.specs.Packages.{IsPkg, is_dot}
use Rattle.opam_names.specs.Faults.{Begins, IsBadAt, IsLongestBegin}
use Rattle.opam_names.proofs.Bytes.{both_left, both_right}
use Rattle.opam_names.proofs.Runs.{run_passes, run_ends}

abbrev pub no_dot : ℕ → Bool
no_dot b = not (is_dot b)

name_byte_no_dot : (x : ℕ) → is_name_byte x ≡ true → no_dot x ≡ true
name_byte_no_dot x a = grind (arith, nat_tests)

name_no_dots : (xs : List ℕ) → list_all is_name_byte xs ≡ true → list_all no_dot xs ≡ true
name_no_dots [] h = refl
name_no_dots (x ∷ xs) h =
    let first : no_dot x ≡ true = name_byte_no_dot x (both_left (is_name_byte x) (list_all is_name_byte xs) h) in
    let later : list_all no_dot xs ≡ true = name_no_dots xs (both_right (is_name_byte x) (list_all is_name_byte xs) h) in
    ap (λ b. b && list_all no_dot xs) first ∙ later

dot_apart : no_dot 46 ≡ true → ⊥
dot_apart h = let e : false ≡ true = h in cc

-- two texts with one first dot
same_split : (front name tail version : List ℕ) → list_all no_dot front ≡ true → list_all no_dot name ≡ true → front ++ 46 ∷ tail ≡ name ++ 46 ∷ version
    → (front ≡ name) × (tail ≡ version)
same_split [] [] tail version a b e = (refl, cc)
same_split [] (y ∷ name) tail version a b e = let h : 46 ≡ y = cc in absurd (dot_apart (ap no_dot h ∙ both_left (no_dot y) (list_all no_dot name) b))
same_split (x ∷ front) [] tail version a b e = let h : 46 ≡ x = cc in absurd (dot_apart (ap no_dot h ∙ both_left (no_dot x) (list_all no_dot front) a))
same_split (x ∷ front) (y ∷ name) tail version a b e =
    let first : x ≡ y = cc in
    let rest : front ++ 46 ∷ tail ≡ name ++ 46 ∷ version = cc in
    let s = same_split front name tail version (both_right (no_dot x) (list_all no_dot front) a) (both_right (no_dot y) (list_all no_dot name) b) rest in
    let same : front ≡ name = s.0 in
    (cc, s.1)

-- a front with no dot stands in the name
in_name : (xs more name version : List ℕ) → list_all no_dot xs ≡ true → xs ++ more ≡ name ++ 46 ∷ version → (m : List ℕ) × (name ≡ xs ++ m)
in_name [] more name version a e = (name, refl)
in_name (x ∷ xs) more [] version a e = let h : 46 ≡ x = cc in absurd (dot_apart (ap no_dot h ∙ both_left (no_dot x) (list_all no_dot xs) a))
in_name (x ∷ xs) more (y ∷ name) version a e =
    let first : x ≡ y = cc in
    let rest : xs ++ more ≡ name ++ 46 ∷ version = cc in
    let s = in_name xs more name version (both_right (no_dot x) (list_all no_dot xs) a) rest in
    let same : name ≡ xs ++ s.0 = s.1 in
    (s.0, cc)

zero_version : IsVersion (48 ∷ [])
zero_version = record { all = refl; some = omega arith; short = omega arith }

name_begins_pkg : (xs : List ℕ) → Begins IsName xs → Begins IsPkg xs
name_begins_pkg xs (more, n) =
    (more ++ 46 ∷ 48 ∷ [], (record { name = xs ++ more; version = 48 ∷ [] }, record { name = n; version = zero_version; text = sym (append_assoc xs more (46 ∷ 48 ∷ [])) }))

pkg_begins_name : (xs : List ℕ) → list_all no_dot xs ≡ true → Begins IsPkg xs → Begins IsName xs
pkg_begins_name xs a (more, p) =
    let m = in_name xs more p.0.name p.0.version a p.1.text in
    (m.0, subst IsName m.1 p.1.name)

-- a front past the dot begins a package where the name is one and the rest begins a version
pkg_begins_version : (front tail : List ℕ) → list_all no_dot front ≡ true → Begins IsPkg (front ++ 46 ∷ tail) → IsName front × Begins IsVersion tail
pkg_begins_version front tail a (more, p) =
    let s = same_split front p.0.name (tail ++ more) p.0.version a (name_no_dots p.0.name p.1.name.all) (sym (append_assoc front (46 ∷ tail) more) ∙ p.1.text) in
    (subst IsName (sym s.0) p.1.name, (more, subst IsVersion (sym s.1) p.1.version))

version_begins_pkg : (front tail : List ℕ) → IsName front → Begins IsVersion tail → Begins IsPkg (front ++ 46 ∷ tail)
version_begins_pkg front tail n (more, v) =
    (more, (record { name = front; version = tail ++ more }, record { name = n; version = v; text = append_assoc front (46 ∷ tail) more }))

pkg_splits : (front tail : List ℕ) → list_all no_dot front ≡ true → IsPkg (front ++ 46 ∷ tail) → IsName front × IsVersion tail
pkg_splits front tail a (pkg, t) =
    let s = same_split front pkg.name tail pkg.version a (name_no_dots pkg.name t.name.all) t.text in
    (subst IsName (sym s.0) t.name, subst IsVersion (sym s.1) t.version)

pkg_has_dot : (xs name version : List ℕ) → list_all no_dot xs ≡ true → xs ≡ name ++ 46 ∷ version → ⊥
pkg_has_dot [] [] version a e = cc
pkg_has_dot [] (y ∷ name) version a e = cc
pkg_has_dot (x ∷ xs) [] version a e = let h : 46 ≡ x = cc in dot_apart (ap no_dot h ∙ both_left (no_dot x) (list_all no_dot xs) a)
pkg_has_dot (x ∷ xs) (y ∷ name) version a e = let rest : xs ≡ name ++ 46 ∷ version = cc in pkg_has_dot xs name version (both_right (no_dot x) (list_all no_dot xs) a) rest

short_no_dot : (xs : List ℕ) (n : ℕ) → list_all no_dot xs ≡ true → n ≤ length xs → list_all no_dot (take n xs) ≡ true
short_no_dot xs n a l =
    let whole : take (length xs) xs ≡ xs = take_all (length xs) xs (omega arith) in
    run_passes no_dot xs n (le_trans l (run_ends no_dot xs (length xs) (omega arith) (ap (list_all no_dot) whole ∙ a)))

-- no dot at all
pub no_dot_bad : (bytes : List ℕ) (at : ℕ) → list_all no_dot bytes ≡ true → IsLongestBegin IsName bytes at → IsBadAt IsPkg bytes at
no_dot_bad bytes at a end = record {
  no_value = λ (pkg, t). pkg_has_dot bytes pkg.name pkg.version a t.text;
  within = end.within;
  begins = name_begins_pkg (take at bytes) end.begins;
  longest = λ n above inside b. end.longest n above inside (pkg_begins_name (take n bytes) (short_no_dot bytes n a inside) b);
}

take_past : (front tail : List ℕ) (m n : ℕ) → n ≡ length front + suc m → take n (front ++ 46 ∷ tail) ≡ front ++ 46 ∷ take m tail
take_past front tail m n e = ap (λ k. take k (front ++ 46 ∷ tail)) e ∙ take-append-add front (46 ∷ tail) (suc m)

past : (front tail : List ℕ) (n : ℕ) → length front < n → n ≤ length (front ++ 46 ∷ tail) → (m : ℕ) × (n ≡ length front + suc m) × (m ≤ length tail)
past front tail n above inside =
    let size : length (front ++ 46 ∷ tail) ≡ length front + suc (length tail) = length-append front (46 ∷ tail) in
    (n - length front - 1, omega arith, omega arith)

cases_le : (n m : ℕ) → (n ≤ m) ⊎ (m < n)
cases_le zero m = inl (omega arith)
cases_le (suc n) zero = inr (omega arith)
cases_le (suc n) (suc m) = elim (cases_le n m) [ inl h ↦ inl (omega arith) | inr h ↦ inr (omega arith) ]

name_longest : (front tail : List ℕ) (at n : ℕ) → list_all no_dot front ≡ true → IsBadAt IsName front at → at < n → n ≤ length (front ++ 46 ∷ tail)
    → Begins IsPkg (take n (front ++ 46 ∷ tail)) → (n ≤ length front) ⊎ (length front < n) → ⊥
name_longest front tail at n a bad above inside b (inl short) =
    bad.longest n above short (pkg_begins_name (take n front) (short_no_dot front n a short) (subst (Begins IsPkg) (take-append-le n front (46 ∷ tail) short) b))
name_longest front tail at n a bad above inside b (inr long) =
    let m = past front tail n long inside in
    bad.no_value (pkg_begins_version front (take m.0 tail) a (subst (Begins IsPkg) (take_past front tail m.0 n m.1) b)).0

-- what stands before the dot is no name
pub name_bad : (front tail : List ℕ) (at : ℕ) → list_all no_dot front ≡ true → IsBadAt IsName front at → IsBadAt IsPkg (front ++ 46 ∷ tail) at
name_bad front tail at a bad =
    let size : length (front ++ 46 ∷ tail) ≡ length front + suc (length tail) = length-append front (46 ∷ tail) in
    record {
      no_value = λ p. bad.no_value (pkg_splits front tail a p).0;
      within = omega (arith, bad.within);
      begins = subst (Begins IsPkg) (sym (take-append-le at front (46 ∷ tail) bad.within)) (name_begins_pkg (take at front) bad.begins);
      longest = λ n above inside b. name_longest front tail at n a bad above inside b (cases_le n (length front));
    }

-- what stands after it is no version
pub version_bad : (front tail : List ℕ) (at : ℕ) → list_all no_dot front ≡ true → IsName front → IsBadAt IsVersion tail at → IsBadAt IsPkg (front ++ 46 ∷ tail) (length front + 1 + at)
version_bad front tail at a name bad =
    let size : length (front ++ 46 ∷ tail) ≡ length front + suc (length tail) = length-append front (46 ∷ tail) in
    record {
      no_value = λ p. bad.no_value (pkg_splits front tail a p).1;
      within = omega (arith, bad.within);
      begins = subst (Begins IsPkg) (sym (take_past front tail at (length front + 1 + at) (omega arith))) (version_begins_pkg front (take at tail) name bad.begins);
      longest = λ n above inside b.
          let m = past front tail n (omega arith) inside in
          let e : n ≡ length front + suc m.0 = m.1 in
          bad.longest m.0 (omega arith) m.2 (pkg_begins_version front (take m.0 tail) a (subst (Begins IsPkg) (take_past front tail m.0 n e) b)).1;
    }

-- the parts that the first dot makes
abbrev pub IsSplit : List ℕ → ℕ → Type 0
IsSplit bytes n = (list_all no_dot (take n bytes) ≡ true) × (length (take n bytes) ≡ n) × (bytes ≡ take n bytes ++ 46 ∷ drop (n + 1) bytes)

is_46 : (b : ℕ) → is_dot b ≡ true → b ≡ 46
is_46 b h = grind (arith, nat_tests)

place_is : (b : Bool) (e n : ℕ) → cond b (Some e) None ≡ Some n → e ≡ n
place_is true e n h = cc
place_is false e n h = cc

pub split_at_dot : (bytes : List ℕ) (n : ℕ) → position is_dot bytes ≡ Some n → IsSplit bytes n
split_at_dot bytes n h =
    let at = position-Some is_dot bytes n 0 h in
    let within : n < length bytes = at.0 in
    let run : prefix_len no_dot bytes ≡ n = place_is (nat_lt (prefix_len no_dot bytes) (length bytes)) (prefix_len no_dot bytes) n h in
    let rest : drop (suc n) bytes ≡ drop (n + 1) bytes = ap (λ m. drop m bytes) (sym (add-one n)) in
    let here : drop n bytes ≡ 46 ∷ drop (n + 1) bytes = drop-cons bytes n 0 within ∙ ap (λ x. x ∷ drop (suc n) bytes) (is_46 (get_or bytes n 0) at.1) ∙ ap (λ l. 46 ∷ l) rest in
    (run_passes no_dot bytes n (omega arith), length-take-le n bytes (omega arith), sym (take-append-drop n bytes) ∙ ap (λ l. take n bytes ++ l) here)

no_place : (b : Bool) (e : ℕ) → cond b (Some e) None ≡ None → b ≡ false
no_place true e h = cc
no_place false e h = refl

pub no_dot_at_all : (bytes : List ℕ) → position is_dot bytes ≡ None → list_all no_dot bytes ≡ true
no_dot_at_all bytes h =
    let none : nat_lt (prefix_len no_dot bytes) (length bytes) ≡ false = no_place (nat_lt (prefix_len no_dot bytes) (length bytes)) (prefix_len no_dot bytes) h in
    let all : length bytes ≤ prefix_len no_dot bytes = grind (arith, nat_tests, none) in
    sym (ap (list_all no_dot) (take_all (length bytes) bytes (omega arith))) ∙ run_passes no_dot bytes (length bytes) all

-- the same at the first dot
pub name_fault : (bytes : List ℕ) (n at : ℕ) → position is_dot bytes ≡ Some n → IsBadAt IsName (take n bytes) at → IsBadAt IsPkg bytes at
name_fault bytes n at h bad =
    let s = split_at_dot bytes n h in
    let P : List ℕ → Type 0 = λ xs. IsBadAt IsPkg xs at in
    subst P (sym s.2) (name_bad (take n bytes) (drop (n + 1) bytes) at s.0 bad)

pub version_fault : (bytes : List ℕ) (n at : ℕ) → position is_dot bytes ≡ Some n → IsName (take n bytes)
    → IsBadAt IsVersion (take (length bytes - (n + 1)) (drop (n + 1) bytes)) at → IsBadAt IsPkg bytes (n + 1 + at)
version_fault bytes n at h name bad =
    let s = split_at_dot bytes n h in
    let Q : List ℕ → Type 0 = λ xs. IsBadAt IsVersion xs at in
    let P : List ℕ → Type 0 = λ xs. IsBadAt IsPkg xs (n + 1 + at) in
    let N : ℕ → Type 0 = λ k. IsBadAt IsPkg (take n bytes ++ 46 ∷ drop (n + 1) bytes) (k + 1 + at) in
    subst P (sym s.2) (subst N s.1 (version_bad (take n bytes) (drop (n + 1) bytes) at s.0 name (subst Q (take_rest bytes (n + 1)) bad)))

pub pkg_made : (bytes : List ℕ) (n : ℕ) (name version : List ℕ) → position is_dot bytes ≡ Some n → name ≡ take n bytes
    → version ≡ take (length bytes - (n + 1)) (drop (n + 1) bytes) → bytes ≡ name ++ 46 ∷ version
pkg_made bytes n name version h a b =
    let s = split_at_dot bytes n h in
    s.2 ∙ ap (λ l. l ++ 46 ∷ drop (n + 1) bytes) (sym a) ∙ ap (λ l. name ++ 46 ∷ l) (sym (b ∙ take_rest bytes (n + 1)))
