-- Exactly the canonical spellings of locks are read.
use Rattle.std.proofs.Common.{◌≡◌, inl, inr, ℕ, ◌≤◌, List, [], ◌∷◌, ◌++◌, length, Bool, true, false, Option, Some, None, refl, sym, ◌∙◌, ap, arith, append_assoc}
use Rattle.std.specs.Prelude.{nat_le, bytes_eq, codes, not, ◌&&◌, ◌||◌, if◌then◌else◌}
use Rattle.std.specs.List.{AllByRecursion, IsDistinct, list_all, list_any}
use Rattle.std.proofs.lemmas.Bool.{not-true, not_from_false}
use Rattle.std.proofs.lemmas.Bool.Decides.{nat_tests}
use Rattle.std.proofs.lemmas.List.{append_cancel_right}
use Rattle.opam_names.specs.Names.{is_letter, is_name, is_name_byte, is_version, is_version_byte}
use Rattle.opam_names.specs.declared.packages.Pkg.{Pkg}
use Rattle.opam_top.proofs.Spelled.{chosen, inside, is_spelling, name_no_quote, spelled, version_no_quote}
use Rattle.opam_top.proofs.Tests.{both, both_left, both_right}
use Rattle.opam_top.specs.Locks.{are_bound, are_named_once, bound_as_spelled, further_pkgs, in_name_order, lock_text, pkg_item, prepended, read_pkgs, spaced_pkgs, with_pkg}
use Rattle.opam_top.specs.Readings.{IsLockOf, IsLockText, IsSpelling, LocksAreRead, is_pkg, names_of}
use Rattle.opam_top.specs.Spellings.{in_quotes, is_spelled, quoted, quoted_from}

-- a name and a version in quotes, and what follows the item
name_bytes : (name : List ℕ) → is_name name ≡ true → list_all is_name_byte name ≡ true
name_bytes name is = both_left (list_all is_name_byte name) (list_any is_letter name) (both_left (list_all is_name_byte name && list_any is_letter name) (nat_le (length name) 120) is)

version_bytes : (version : List ℕ) → is_version version ≡ true → list_all is_version_byte version ≡ true
version_bytes version is = both_left (list_all is_version_byte version) (nat_le 1 (length version)) (both_left (list_all is_version_byte version && nat_le 1 (length version)) (nat_le (length version) 120) is)

item_split : (name version rest : List ℕ) → ((((name ++ 34 ∷ []) ++ codes " {= ") ++ in_quotes version) ++ codes "}") ++ rest ≡ name ++ 34 ∷ (codes " {= " ++ (in_quotes version ++ (codes "}" ++ rest)))
item_split name version rest =
    append_assoc (((name ++ 34 ∷ []) ++ codes " {= ") ++ in_quotes version) (codes "}") rest
    ∙ append_assoc ((name ++ 34 ∷ []) ++ codes " {= ") (in_quotes version) (codes "}" ++ rest)
    ∙ append_assoc (name ++ 34 ∷ []) (codes " {= ") (in_quotes version ++ (codes "}" ++ rest))
    ∙ append_assoc name (34 ∷ []) (codes " {= " ++ (in_quotes version ++ (codes "}" ++ rest)))

version_first : (version rest : List ℕ) → list_all is_version_byte version ≡ true → quoted_from true ((version ++ 34 ∷ []) ++ (codes "}" ++ rest)) ≡ version ∷ quoted rest
version_first version rest all =
    ap (quoted_from true) (append_assoc version (34 ∷ []) (codes "}" ++ rest)) ∙ inside is_version_byte version_no_quote version (codes "}" ++ rest) all

item_first : (pkg : Pkg) (rest : List ℕ) → is_pkg pkg ≡ true → quoted (pkg_item pkg ++ rest) ≡ pkg.name ∷ pkg.version ∷ quoted rest
item_first pkg rest is =
    let name = name_bytes pkg.name (both_left (is_name pkg.name) (is_version pkg.version) is) in
    let version = version_bytes pkg.version (both_right (is_name pkg.name) (is_version pkg.version) is) in
    ap (quoted_from true) (item_split pkg.name pkg.version rest)
    ∙ inside is_name_byte name_no_quote pkg.name (codes " {= " ++ (in_quotes pkg.version ++ (codes "}" ++ rest))) name
    ∙ ap (λ (l : List (List ℕ)). pkg.name ∷ l) (version_first pkg.version rest version)

-- names and versions by turns
abbrev texts_of : List Pkg → List (List ℕ)
texts_of [] = []
texts_of (pkg ∷ pkgs) = pkg.name ∷ pkg.version ∷ texts_of pkgs

further_first : (pkgs : List Pkg) (rest : List ℕ) → list_all is_pkg pkgs ≡ true → quoted rest ≡ [] → quoted (further_pkgs pkgs ++ rest) ≡ texts_of pkgs
further_first [] rest all none = none
further_first (pkg ∷ pkgs) rest all none =
    ap quoted (append_assoc (pkg_item pkg) (further_pkgs pkgs) rest)
    ∙ item_first pkg (further_pkgs pkgs ++ rest) (both_left (is_pkg pkg) (list_all is_pkg pkgs) all)
    ∙ ap (λ (l : List (List ℕ)). pkg.name ∷ pkg.version ∷ l) (further_first pkgs rest (both_right (is_pkg pkg) (list_all is_pkg pkgs) all) none)

spaced_first : (pkgs : List Pkg) (rest : List ℕ) → list_all is_pkg pkgs ≡ true → quoted rest ≡ [] → quoted (spaced_pkgs pkgs ++ rest) ≡ texts_of pkgs
spaced_first [] rest all none = none
spaced_first (pkg ∷ pkgs) rest all none =
    ap quoted (append_assoc (pkg_item pkg) (further_pkgs pkgs) rest)
    ∙ item_first pkg (further_pkgs pkgs ++ rest) (both_left (is_pkg pkg) (list_all is_pkg pkgs) all)
    ∙ ap (λ (l : List (List ℕ)). pkg.name ∷ pkg.version ∷ l) (further_first pkgs rest (both_right (is_pkg pkg) (list_all is_pkg pkgs) all) none)

-- the spelling without its last newline
abbrev opened : List Pkg → List ℕ
opened pkgs = codes "depends: [" ++ spaced_pkgs pkgs ++ codes "]"

newline_last : (pkgs : List Pkg) → opened pkgs ++ 10 ∷ [] ≡ lock_text pkgs
newline_last pkgs = append_assoc (codes "depends: [" ++ spaced_pkgs pkgs) (codes "]") (10 ∷ [])

texts_of_lock : (bytes : List ℕ) (pkgs : List Pkg) → list_all is_pkg pkgs ≡ true → IsSpelling bytes (lock_text pkgs) → quoted bytes ≡ texts_of pkgs
texts_of_lock bytes pkgs all is =
    elim is [
      | inl whole ↦ ap quoted whole ∙ spaced_first pkgs (codes "]\n") all refl
      | inr part ↦ ap quoted (append_cancel_right bytes (opened pkgs) (10 ∷ []) (part ∙ sym (newline_last pkgs))) ∙ spaced_first pkgs (codes "]") all refl
    ]

-- the texts give the packages back
pkgs_of_texts : (pkgs : List Pkg) → list_all is_pkg pkgs ≡ true → read_pkgs (texts_of pkgs) ≡ Some pkgs
pkgs_of_texts [] all = refl
pkgs_of_texts (pkg ∷ pkgs) all =
    ap (λ b. with_pkg (if b then Some pkg else None) (read_pkgs (texts_of pkgs))) (both_left (is_pkg pkg) (list_all is_pkg pkgs) all)
    ∙ ap (λ more. prepended (pkg ∷ []) more) (pkgs_of_texts pkgs (both_right (is_pkg pkg) (list_all is_pkg pkgs) all))

-- what texts give are packages
valid_by : (test : Bool) (pkg : Pkg) (more : Option (List Pkg)) (pkgs : List Pkg) → (test ≡ true → is_pkg pkg ≡ true) → ((found : List Pkg) → more ≡ Some found → list_all is_pkg found ≡ true)
    → with_pkg (if test then Some pkg else None) more ≡ Some pkgs → list_all is_pkg pkgs ≡ true
valid_by true pkg None pkgs here later is = absurd (cc)
valid_by true pkg (Some found) pkgs here later is =
    let e : pkg ∷ found ≡ pkgs = cc in ap (list_all is_pkg) (sym e) ∙ both (is_pkg pkg) (list_all is_pkg found) (here refl) (later found refl)
valid_by false pkg more pkgs here later is = absurd (cc)

read_are_valid : (texts : List (List ℕ)) (pkgs : List Pkg) → read_pkgs texts ≡ Some pkgs → list_all is_pkg pkgs ≡ true
read_are_valid [] pkgs is = let e : [] ≡ pkgs = cc in ap (list_all is_pkg) (sym e)
read_are_valid (name ∷ []) pkgs is = absurd (cc)
read_are_valid (name ∷ version ∷ texts) pkgs is =
    let pkg : Pkg = record { name = name; version = version } in
    valid_by (is_name name && is_version version) pkg (read_pkgs texts) pkgs (λ e. e) (read_are_valid texts) is

-- the test that no name stands twice
or_left : (a b : Bool) → (a || b) ≡ false → a ≡ false
or_left true b is = is
or_left false b is = refl

or_right : (a b : Bool) → (a || b) ≡ false → b ≡ false
or_right true b is = absurd (cc)
or_right false b is = is

neither : (a b : Bool) → a ≡ false → b ≡ false → (a || b) ≡ false
neither a b p q = rw (p, q) refl

apart_names : (name : List ℕ) (pkgs : List Pkg) → list_any (λ other. bytes_eq name other.name) pkgs ≡ false → AllByRecursion (λ y. bytes_eq name y ≡ false) (names_of pkgs)
apart_names name [] none = tt
apart_names name (pkg ∷ pkgs) none =
    let here = bytes_eq name pkg.name in
    let later = list_any (λ other. bytes_eq name other.name) pkgs in (or_left here later none, apart_names name pkgs (or_right here later none))

names_apart : (name : List ℕ) (pkgs : List Pkg) → AllByRecursion (λ y. bytes_eq name y ≡ false) (names_of pkgs) → list_any (λ other. bytes_eq name other.name) pkgs ≡ false
names_apart name [] all = refl
names_apart name (pkg ∷ pkgs) all = neither (bytes_eq name pkg.name) (list_any (λ other. bytes_eq name other.name) pkgs) all.0 (names_apart name pkgs all.1)

once : (pkgs : List Pkg) → are_named_once pkgs ≡ true → IsDistinct bytes_eq (names_of pkgs)
unfolding IsDistinct
once [] is = tt
once (pkg ∷ pkgs) is =
    let has = list_any (λ other. bytes_eq pkg.name other.name) pkgs in
    (apart_names pkg.name pkgs (not-true has (both_left (not has) (are_named_once pkgs) is)), once pkgs (both_right (not has) (are_named_once pkgs) is))

is_once : (pkgs : List Pkg) → IsDistinct bytes_eq (names_of pkgs) → are_named_once pkgs ≡ true
unfolding IsDistinct
is_once [] all = refl
is_once (pkg ∷ pkgs) all =
    let has = list_any (λ other. bytes_eq pkg.name other.name) pkgs in
    both (not has) (are_named_once pkgs) (not_from_false has (names_apart pkg.name pkgs all.0)) (is_once pkgs all.1)

few_enough : (n : ℕ) → nat_le n 64 ≡ true → n ≤ 64
few_enough n is = grind (arith, nat_tests)

is_few : (n : ℕ) → n ≤ 64 → nat_le n 64 ≡ true
is_few n few = grind (arith, nat_tests)

bound_is : (bytes : List ℕ) (found : Option (List Pkg)) (pkgs : List Pkg) → ((items : List Pkg) → found ≡ Some items → list_all is_pkg items ≡ true) → bound_as_spelled bytes found ≡ Some pkgs → IsLockOf bytes pkgs
bound_is bytes None pkgs all is = absurd (cc)
bound_is bytes (Some items) pkgs all is =
    let holds = chosen (are_bound items && is_spelled bytes (lock_text items)) (in_name_order items) pkgs is in
    let bound = both_left (are_bound items) (is_spelled bytes (lock_text items)) holds.0 in
    let text = both_right (are_bound items) (is_spelled bytes (lock_text items)) holds.0 in
    let lock : IsLockText bytes items = record {
      all = all items refl;
      few = few_enough (length items) (both_left (nat_le (length items) 64) (are_named_once items) bound);
      once = once items (both_right (nat_le (length items) 64) (are_named_once items) bound);
      text = spelled bytes (lock_text items) text;
    } in (items, lock, sym holds.1)

lock_is_bound : (bytes : List ℕ) (items : List Pkg) → IsLockText bytes items → bound_as_spelled bytes (read_pkgs (quoted bytes)) ≡ Some (in_name_order items)
lock_is_bound bytes items is =
    let bound = both (nat_le (length items) 64) (are_named_once items) (is_few (length items) is.few) (is_once items is.once) in
    ap (λ texts. bound_as_spelled bytes (read_pkgs texts)) (texts_of_lock bytes items is.all is.text)
    ∙ ap (bound_as_spelled bytes) (pkgs_of_texts items is.all)
    ∙ ap (λ b. if b then Some (in_name_order items) else None) (both (are_bound items) (is_spelled bytes (lock_text items)) bound (is_spelling bytes (lock_text items) is.text))

not_empty : (items : List Pkg) → IsSpelling [] (lock_text items) → ⊥
not_empty items is = elim is [ inl whole ↦ cc | inr part ↦ cc ]

of_empty : (pkgs : List Pkg) → IsLockOf [] pkgs → ⊥
of_empty pkgs is = let lock : IsLockText [] is.0 = is.1 in not_empty is.0 lock.text

of_lock : (bytes : List ℕ) (pkgs : List Pkg) → IsLockOf bytes pkgs → bound_as_spelled bytes (read_pkgs (quoted bytes)) ≡ Some pkgs
of_lock bytes pkgs is = lock_is_bound bytes is.0 is.1 ∙ ap (λ (l : List Pkg). Some l) (sym is.2)

pub locks_read : LocksAreRead
locks_read [] pkgs = (λ is. inl (refl, cc), λ is. elim is [ inl empty ↦ ap (λ (l : List Pkg). Some l) (sym empty.1) | inr lock ↦ absurd (of_empty pkgs lock) ])
locks_read (b ∷ bytes) pkgs = (
  λ is. inr (bound_is (b ∷ bytes) (read_pkgs (quoted (b ∷ bytes))) pkgs (read_are_valid (quoted (b ∷ bytes))) is),
  λ is. elim is [ inl empty ↦ absurd (cc) | inr lock ↦ of_lock (b ∷ bytes) pkgs lock ],
)
