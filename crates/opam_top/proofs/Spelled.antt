-- Exactly the canonical spellings are read.
use Rattle.std.proofs.Common.{◌≡◌, ◌⊎◌, inl, inr, ℕ, ◌≤◌, List, [], ◌∷◌, ◌++◌, length, Bool, true, false, Some, None, refl, sym, ◌∙◌, ap, subst, arith, append_assoc}
use Rattle.std.specs.Prelude.{nat_le, bytes_eq, codes, ◌==◌, ◌&&◌, ◌||◌, if◌then◌else◌}
use Rattle.std.specs.List.{list_all}
use Rattle.std.proofs.lemmas.List.{append_cancel_right}
use Rattle.std.proofs.lemmas.Bool.Decides.{nat_tests}
use Rattle.std.proofs.lemmas.Slice.Eq.{bytes_eq-Decides}
use Rattle.opam_top.proofs.Tests.{both_left, both_right}
use Rattle.opam_names.specs.Names.{is_name_byte, is_version_byte}
use Rattle.opam_top.specs.InstallTexts.{are_items, further, install_text, is_item, is_item_byte, read_items, read_spelled, spaced}
use Rattle.opam_top.specs.Readings.{IsInstallText, IsSpelling, InstallTextsAreRead}
use Rattle.opam_top.specs.Spellings.{in_quotes, is_spelled, onto_first, quoted, quoted_from}
use Rattle.opam_top.proofs.ItemPaths.{item_bytes}

both : (a b : Bool) → a ≡ true → b ≡ true → (a && b) ≡ true
both a b p q = rw (p, q) refl

-- the test of a spelling decides it
one_of : (a b : Bool) → (a || b) ≡ true → (a ≡ true) ⊎ (b ≡ true)
one_of true b is = inl refl
one_of false b is = inr is

first_of : (a b : Bool) → a ≡ true → (a || b) ≡ true
first_of true b is = refl
first_of false b is = absurd (cc)

second_of : (a b : Bool) → b ≡ true → (a || b) ≡ true
second_of true b is = refl
second_of false b is = is

pub spelled : (bytes text : List ℕ) → is_spelled bytes text ≡ true → IsSpelling bytes text
spelled bytes text is =
    elim (one_of (bytes_eq bytes text) (bytes_eq (bytes ++ 10 ∷ []) text) is) [
      | inl whole ↦ inl ((bytes_eq-Decides bytes text).0 whole)
      | inr part ↦ inr ((bytes_eq-Decides (bytes ++ 10 ∷ []) text).0 part)
    ]

pub is_spelling : (bytes text : List ℕ) → IsSpelling bytes text → is_spelled bytes text ≡ true
is_spelling bytes text is =
    elim is [
      | inl whole ↦ first_of (bytes_eq bytes text) (bytes_eq (bytes ++ 10 ∷ []) text) ((bytes_eq-Decides bytes text).1 whole)
      | inr part ↦ second_of (bytes_eq bytes text) (bytes_eq (bytes ++ 10 ∷ []) text) ((bytes_eq-Decides (bytes ++ 10 ∷ []) text).1 part)
    ]

-- a text without a quote, up to the next one
inside_by : (is_quote : Bool) (b : ℕ) (text rest : List ℕ) → is_quote ≡ false → quoted_from true (text ++ 34 ∷ rest) ≡ text ∷ quoted rest
    → (if is_quote then [] ∷ quoted (text ++ 34 ∷ rest) else onto_first b (quoted_from true (text ++ 34 ∷ rest))) ≡ (b ∷ text) ∷ quoted rest
inside_by true b text rest is later = absurd (cc)
inside_by false b text rest is later = ap (onto_first b) later

pub inside : (test : ℕ → Bool) → ((b : ℕ) → test b ≡ true → (b == 34) ≡ false) → (text rest : List ℕ) → list_all test text ≡ true → quoted_from true (text ++ 34 ∷ rest) ≡ text ∷ quoted rest
inside test apart [] rest all = refl
inside test apart (b ∷ text) rest all =
    inside_by (b == 34) b text rest (apart b (both_left (test b) (list_all test text) all)) (inside test apart text rest (both_right (test b) (list_all test text) all))

item_no_quote : (b : ℕ) → is_item_byte b ≡ true → (b == 34) ≡ false
item_no_quote b is = grind (arith, nat_tests)

pub name_no_quote : (b : ℕ) → is_name_byte b ≡ true → (b == 34) ≡ false
name_no_quote b is = grind (arith, nat_tests)

pub version_no_quote : (b : ℕ) → is_version_byte b ≡ true → (b == 34) ≡ false
version_no_quote b is = grind (arith, nat_tests)

-- an item in quotes, and what follows it
item_first : (item rest : List ℕ) → is_item item ≡ true → quoted (in_quotes item ++ rest) ≡ item ∷ quoted rest
item_first item rest is = ap (quoted_from true) (append_assoc item (34 ∷ []) rest) ∙ inside is_item_byte item_no_quote item rest (item_bytes item is)

further_first : (items : List (List ℕ)) (rest : List ℕ) → list_all is_item items ≡ true → quoted rest ≡ [] → quoted (further items ++ rest) ≡ items
further_first [] rest all none = none
further_first (item ∷ items) rest all none =
    ap quoted (append_assoc (in_quotes item) (further items) rest)
    ∙ item_first item (further items ++ rest) (both_left (is_item item) (list_all is_item items) all)
    ∙ ap (λ (l : List (List ℕ)). item ∷ l) (further_first items rest (both_right (is_item item) (list_all is_item items) all) none)

spaced_first : (items : List (List ℕ)) (rest : List ℕ) → list_all is_item items ≡ true → quoted rest ≡ [] → quoted (spaced items ++ rest) ≡ items
spaced_first [] rest all none = none
spaced_first (item ∷ items) rest all none =
    ap quoted (append_assoc (in_quotes item) (further items) rest)
    ∙ item_first item (further items ++ rest) (both_left (is_item item) (list_all is_item items) all)
    ∙ ap (λ (l : List (List ℕ)). item ∷ l) (further_first items rest (both_right (is_item item) (list_all is_item items) all) none)

-- the spelling without its last newline
abbrev opened : List (List ℕ) → List ℕ
opened items = codes "bin: [" ++ spaced items ++ codes "]"

newline_last : (items : List (List ℕ)) → opened items ++ 10 ∷ [] ≡ install_text items
newline_last items = append_assoc (codes "bin: [" ++ spaced items) (codes "]") (10 ∷ [])

items_of_text : (bytes : List ℕ) (items : List (List ℕ)) → list_all is_item items ≡ true → IsSpelling bytes (install_text items) → quoted bytes ≡ items
items_of_text bytes items all is =
    elim is [
      | inl whole ↦ ap quoted whole ∙ spaced_first items (codes "]\n") all refl
      | inr part ↦ ap quoted (append_cancel_right bytes (opened items) (10 ∷ []) (part ∙ sym (newline_last items))) ∙ spaced_first items (codes "]") all refl
    ]

pub chosen : {X : Type 0} (b : Bool) (x y : X) → (if b then Some x else None) ≡ Some y → (b ≡ true) × (x ≡ y)
chosen true x y is = (refl, cc)
chosen false x y is = absurd (cc)

few_enough : (n : ℕ) → nat_le n 65536 ≡ true → n ≤ 65536
few_enough n is = grind (arith, nat_tests)

is_few : (n : ℕ) → n ≤ 65536 → nat_le n 65536 ≡ true
is_few n few = grind (arith, nat_tests)

read_is : (bytes : List ℕ) (found items : List (List ℕ)) → read_spelled bytes found ≡ Some items → IsInstallText bytes items
read_is bytes found items is =
    let both_hold = chosen (are_items found && is_spelled bytes (install_text found)) found items is in
    let are = both_left (are_items found) (is_spelled bytes (install_text found)) both_hold.0 in
    let text = both_right (are_items found) (is_spelled bytes (install_text found)) both_hold.0 in
    let all_of = λ (l : List (List ℕ)). IsInstallText bytes l in
    subst all_of both_hold.1 (record {
      all = both_right (nat_le (length found) 65536) (list_all is_item found) are;
      few = few_enough (length found) (both_left (nat_le (length found) 65536) (list_all is_item found) are);
      text = spelled bytes (install_text found) text;
    })

spelled_is_read : (bytes : List ℕ) (items : List (List ℕ)) → IsInstallText bytes items → read_spelled bytes (quoted bytes) ≡ Some items
spelled_is_read bytes items is =
    let test = both (are_items items) (is_spelled bytes (install_text items)) (both (nat_le (length items) 65536) (list_all is_item items) (is_few (length items) is.few) is.all) (is_spelling bytes (install_text items) is.text) in
    ap (read_spelled bytes) (items_of_text bytes items is.all is.text)
    ∙ ap (λ b. if b then Some items else None) test

not_empty : (items : List (List ℕ)) → IsSpelling [] (install_text items) → ⊥
not_empty items is = elim is [ inl whole ↦ cc | inr part ↦ cc ]

pub install_texts_read : InstallTextsAreRead
install_texts_read [] items = (λ is. inl (refl, cc), λ is. elim is [ inl empty ↦ ap (λ (l : List (List ℕ)). Some l) (sym empty.1) | inr text ↦ absurd (not_empty items text.text) ])
install_texts_read (b ∷ bytes) items = (
  λ is. inr (read_is (b ∷ bytes) (quoted (b ∷ bytes)) items is),
  λ is. elim is [ inl empty ↦ absurd (cc) | inr text ↦ spelled_is_read (b ∷ bytes) items text ],
)

-- what is read are items
pub read_are_items : (bytes : List ℕ) (items : List (List ℕ)) → read_items bytes ≡ Some items → list_all is_item items ≡ true
read_are_items bytes items is =
    elim ((install_texts_read bytes items).0 is) [
      | inl empty ↦ ap (list_all is_item) empty.1
      | inr text ↦ text.all
    ]

pub read_are_few : (bytes : List ℕ) (items : List (List ℕ)) → read_items bytes ≡ Some items → length items ≤ 65536
read_are_few bytes items is =
    elim ((install_texts_read bytes items).0 is) [
      | inl empty ↦ omega (arith, ap length empty.1)
      | inr text ↦ text.few
    ]
