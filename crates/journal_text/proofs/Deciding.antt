-- Whether bytes spell a record, or a slot, is decided: they are read, and what is read is looked at.
use Rattle.std.proofs.Common.{◌≡◌, ◌∙◌, ℕ, ◌^◌, ◌<◌, ◌≤◌, List, [], ◌∷◌, length, map, Bool, true, false, Option, Some, None, refl, sym, subst, ap, arith, ◌⊎◌, inl, inr, bytes_eq}
use Rattle.std.specs.List.{All, AllByRecursion, IsDistinct, list_all, list_any}
use Rattle.std.specs.List.Sorted.{IsStrictlySortedBy}
use Rattle.std.specs.declared.cmp.Ordering.{Ordering}
use Rattle.std.specs.declared.cmp.Ordering.TheVariants.{Less, Equal, Greater}
use Rattle.std.proofs.lemmas.Bool.{cases_lt}
use Rattle.std.proofs.lemmas.List.Elements.{recursion_from_All, All-from_recursion}
use Rattle.std.proofs.lemmas.Slice.Eq.{bytes_eq-Decides}
use Rattle.opam_names.specs.ByteOrders.{byte_order}
use Rattle.opam_names.specs.Names.{IsName, IsVersion, is_name, is_version}
use Rattle.opam_names.specs.Paths.{IsPath, is_above, is_relative_path}
use Rattle.opam_names.specs.declared.packages.Pkg.{Pkg}
use Rattle.opam_names.proofs.Tests.{tests_say_the_same}
use Rattle.path_order.specs.Apart.{AreApart}
use Rattle.journal_text.specs.Parts.{AreFree, IsComingValid, IsEntry, IsPackage, IsPlaced, IsRemovalValid, IsRequestInOrder, IsRequestValid, entry_name, is_own, names_of, own_name, paths_of}
use Rattle.journal_text.specs.Reading.{old_record_at, record_at}
use Rattle.journal_text.specs.Records.{HasValidParts, IsInOrder, IsOldSpelledBy, IsSpelledBy, old_bytes, record_bytes}
use Rattle.journal_text.specs.SlotReading.{old_slot_at, slot_at}
use Rattle.journal_text.specs.Slots.{AreListsValid, AreNamesInOrder, IsOldSlotSpelledBy, IsOwned, IsSlotInOrder, IsSlotSpelledBy, IsSlotValid, entry_names, has_owner, is_among, old_slot_bytes, owned_paths, slot_bytes}
use Rattle.journal_text.specs.declared.record.Entry.{Entry}
use Rattle.journal_text.specs.declared.record.KeptFiles.{KeptFiles}
use Rattle.journal_text.specs.declared.record.Placed.{Placed}
use Rattle.journal_text.specs.declared.record.Rec.{Rec}
use Rattle.journal_text.specs.declared.record.Rec.TheVariants.{Install, PutBack, Remove, Begin, End}
use Rattle.journal_text.specs.declared.record.TheConstants.{RECORD_LIMIT}
use Rattle.journal_text.specs.declared.slot.Owned.{Owned}
use Rattle.journal_text.specs.declared.slot.Snapshot.{Snapshot}
use Rattle.journal_text.specs.declared.slot.TheConstants.{SLOT_LIMIT}
use Rattle.journal_text.proofs.Decoded.{is_read, old_is_read}
use Rattle.journal_text.proofs.SlotsRead.{old_slot_is_read, slot_is_read}
use Rattle.journal_text.proofs.Words.{some_is}

-- it is so, or it is not
abbrev pub Decided : Type 0 → Type 0
Decided P = P ⊎ ¬ P

pub decided_as : {P Q : Type 0} → (P → Q) → (Q → P) → Decided P → Decided Q
decided_as f g (inl p) = inl (f p)
decided_as f g (inr n) = inr (λ q. n (g q))

pub both_decided : {P Q : Type 0} → Decided P → Decided Q → Decided (P × Q)
both_decided (inl p) (inl q) = inl (p, q)
both_decided (inl p) (inr n) = inr (λ h. n h.1)
both_decided (inr n) q = inr (λ h. n h.0)

pub true_decided : (b : Bool) → Decided (b ≡ true)
true_decided true = inl refl
true_decided false = inr (λ is. absurd cc)

pub false_decided : (b : Bool) → Decided (b ≡ false)
false_decided true = inr (λ is. absurd cc)
false_decided false = inl refl

pub at_most_decided : (n m : ℕ) → Decided (n ≤ m)
at_most_decided n m = elim (cases_lt m n) [ inl less ↦ inr (λ most. absurd (omega (arith, less, most))) | inr most ↦ inl most ]

pub less_decided : (n m : ℕ) → Decided (n < m)
less_decided n m = elim (cases_lt n m) [ inl less ↦ inl less | inr most ↦ inr (λ less. absurd (omega (arith, less, most))) ]

-- ---- lists

each_decided : {X : Type 0} (P : X → Type 0) → ((x : X) → Decided (P x)) → (xs : List X) → Decided (AllByRecursion P xs)
each_decided P decided [] = inl tt
each_decided P decided (x ∷ xs) = both_decided (decided x) (each_decided P decided xs)

all_decided : {X : Type 0} (P : X → Type 0) → ((x : X) → Decided (P x)) → (xs : List X) → Decided (All P xs)
all_decided P decided xs = decided_as (λ each. All-from_recursion P xs each) (λ all. recursion_from_All P xs all) (each_decided P decided xs)

same_decided : (one other : List ℕ) → Decided (one ≡ other)
same_decided one other = decided_as (bytes_eq-Decides one other).0 (bytes_eq-Decides one other).1 (true_decided (bytes_eq one other))

some_decided : (one : Option (List ℕ)) (other : List ℕ) → Decided (one ≡ Some other)
some_decided None other = inr (λ is. absurd cc)
some_decided (Some one) other = decided_as (λ is. ap (λ (bytes : List ℕ). Some bytes) is) (λ is. some_is one other is) (same_decided one other)

before_decided : (order : Ordering) → Decided (order ≡ Less)
before_decided Less = inl refl
before_decided Equal = inr (λ is. absurd cc)
before_decided Greater = inr (λ is. absurd cc)

rise_decided : (keys : List (List ℕ)) → Decided (IsStrictlySortedBy byte_order keys)
unfolding IsStrictlySortedBy
rise_decided [] = inl tt
rise_decided (key ∷ keys) = both_decided (each_decided (λ other. byte_order key other ≡ Less) (λ other. before_decided (byte_order key other)) keys) (rise_decided keys)

distinct_decided : (test : List ℕ → List ℕ → Bool) (keys : List (List ℕ)) → Decided (IsDistinct test keys)
unfolding IsDistinct
distinct_decided test [] = inl tt
distinct_decided test (key ∷ keys) = both_decided (each_decided (λ other. test key other ≡ false) (λ other. false_decided (test key other)) keys) (distinct_decided test keys)

apart_decided : (paths : List (List ℕ)) → Decided (AreApart paths)
apart_decided paths = decided_as (λ h. record { rise = h.0; apart = h.1 }) (λ is. (is.rise, is.apart)) (both_decided (rise_decided paths) (distinct_decided is_above paths))

free_decided : (paths : List (List ℕ)) → Decided (AreFree paths)
free_decided paths = decided_as (λ h. record { apart = h.0; free = h.1 }) (λ is. (is.apart, is.free)) (both_decided (apart_decided paths) (false_decided (list_any is_own paths)))

-- ---- parts

name_decided : (bytes : List ℕ) → Decided (IsName bytes)
name_decided bytes = decided_as (tests_say_the_same.names bytes).0 (tests_say_the_same.names bytes).1 (true_decided (is_name bytes))

version_decided : (bytes : List ℕ) → Decided (IsVersion bytes)
version_decided bytes = decided_as (tests_say_the_same.versions bytes).0 (tests_say_the_same.versions bytes).1 (true_decided (is_version bytes))

path_decided : (bytes : List ℕ) → Decided (IsPath bytes)
path_decided bytes = decided_as (tests_say_the_same.paths bytes).0 (tests_say_the_same.paths bytes).1 (true_decided (is_relative_path bytes))

package_decided : (pkg : Pkg) → Decided (IsPackage pkg)
package_decided pkg = decided_as (λ h. record { name = h.0; version = h.1 }) (λ is. (is.name, is.version)) (both_decided (name_decided pkg.name) (version_decided pkg.version))

entries_decided : (entries : List Entry) → Decided (All IsEntry entries)
entries_decided entries = all_decided IsEntry (λ entry. package_decided entry.pkg) entries

names_decided : (names : List (List ℕ)) → Decided (All IsName names)
names_decided names = all_decided IsName name_decided names

coming_decided : (pkg : Pkg) (files : List Placed) → Decided (IsComingValid pkg files)
coming_decided pkg files =
    decided_as (λ h. record { is_package = h.0; are_placed = h.1 }) (λ is. (is.is_package, is.are_placed)) (both_decided (package_decided pkg) (all_decided IsPlaced (λ file. path_decided file.path) files))

removal_decided : (pkg : Pkg) (kept : Option KeptFiles) → Decided (IsRemovalValid pkg kept)
removal_decided pkg None = package_decided pkg
removal_decided pkg (Some kept) = coming_decided pkg kept.files

request_decided : (roots : List (List ℕ)) (target : List Entry) (removals : List Pkg) → Decided (IsRequestValid roots target removals)
request_decided roots target removals =
    decided_as (λ h. record { roots_are = h.0; target_is = h.1.0; removals_are = h.1.1 }) (λ is. (is.roots_are, (is.target_is, is.removals_are)))
    (both_decided (names_decided roots) (both_decided (entries_decided target) (all_decided IsPackage package_decided removals)))

order_decided : (roots : List (List ℕ)) (target : List Entry) (removals : List Pkg) → Decided (IsRequestInOrder roots target removals)
order_decided roots target removals =
    decided_as (λ h. record { roots_rise = h.0; target_rises = h.1.0; removals_differ = h.1.1 }) (λ is. (is.roots_rise, (is.target_rises, is.removals_differ)))
    (both_decided (rise_decided (map own_name roots)) (both_decided (rise_decided (map entry_name target)) (distinct_decided bytes_eq (names_of removals))))

-- ---- records

parts_decided : (entry : Rec) → Decided (HasValidParts entry)
parts_decided (Install pkg opam files) = coming_decided pkg files
parts_decided (PutBack pkg opam files) = coming_decided pkg files
parts_decided (Remove pkg kept) = removal_decided pkg kept
parts_decided (Begin roots target removals) = request_decided roots target removals
parts_decided End = inl tt

in_order_decided : (entry : Rec) → Decided (IsInOrder entry)
in_order_decided (Install pkg opam files) = free_decided (paths_of files)
in_order_decided (PutBack pkg opam files) = free_decided (paths_of files)
in_order_decided (Remove pkg None) = inl tt
in_order_decided (Remove pkg (Some kept)) = free_decided (paths_of kept.files)
in_order_decided (Begin roots target removals) = order_decided roots target removals
in_order_decided End = inl tt

-- what is known of a record that is read, but for its bytes
right_decided : (entry : Rec) (bytes : List ℕ) → Decided ((HasValidParts entry × IsInOrder entry) × (length bytes ≤ RECORD_LIMIT))
right_decided entry bytes = both_decided (both_decided (parts_decided entry) (in_order_decided entry)) (at_most_decided (length bytes) RECORD_LIMIT)

spelled_decided : (entry : Rec) (bytes : List ℕ) → Decided (IsSpelledBy entry bytes)
spelled_decided entry bytes =
    decided_as (λ h. record { valid = h.0.0.0; ordered = h.0.0.1; short = h.0.1; bytes_are = h.1 }) (λ is. (((is.valid, is.ordered), is.short), is.bytes_are))
    (both_decided (right_decided entry bytes) (same_decided bytes (record_bytes entry)))

old_spelled_decided : (entry : Rec) (bytes : List ℕ) → Decided (IsOldSpelledBy entry bytes)
old_spelled_decided entry bytes =
    decided_as (λ h. record { valid = h.0.0.0; ordered = h.0.0.1; short = h.0.1; bytes_are = h.1 }) (λ is. (((is.valid, is.ordered), is.short), is.bytes_are))
    (both_decided (right_decided entry bytes) (some_decided (old_bytes entry) bytes))

-- a value is spelled by the bytes, or none is
abbrev pub EitherWay : {X : Type 0} → (X → List ℕ → Type 0) → List ℕ → Type 0
EitherWay {X} Spelled bytes = ((x : X) × Spelled x bytes) ⊎ ((x : X) → ¬ (Spelled x bytes))

apart_from_each : {X : Type 0} (Spelled : X → List ℕ → Type 0) (bytes : List ℕ) → Decided ((x : X) × Spelled x bytes) → EitherWay Spelled bytes
apart_from_each Spelled bytes (inl some) = inl some
apart_from_each Spelled bytes (inr none) = inr (λ x spelled. none (x, spelled))

-- bytes are read as one value: it is spelled by them, or nothing is
module _ {X : Type 0} (Spelled : X → List ℕ → Type 0) (at : List ℕ → Option X) (reads : (x : X) (bytes : List ℕ) → Spelled x bytes → at bytes ≡ Some x) (decided : (x : X) (bytes : List ℕ) → Decided (Spelled x bytes)) where
  by_reading : (bytes : List ℕ) (found : Option X) → at bytes ≡ found → EitherWay Spelled bytes
  by_reading bytes None is = inr (λ x spelled. let read : None ≡ Some x = sym is ∙ reads x bytes spelled in absurd cc)
  by_reading bytes (Some x) is = apart_from_each Spelled bytes (decided_as (λ spelled. (x, spelled)) (λ h. subst (λ (y : X). Spelled y bytes) (some_is h.0 x (sym (reads h.0 bytes h.1) ∙ is)) h.1) (decided x bytes))

  pub one_or_none : (bytes : List ℕ) → EitherWay Spelled bytes
  one_or_none bytes = by_reading bytes (at bytes) refl

pub record_or_none : (bytes : List ℕ) → ((entry : Rec) × IsSpelledBy entry bytes) ⊎ ((entry : Rec) → ¬ (IsSpelledBy entry bytes))
record_or_none bytes = one_or_none IsSpelledBy record_at is_read spelled_decided bytes

pub old_record_or_none : (bytes : List ℕ) → ((entry : Rec) × IsOldSpelledBy entry bytes) ⊎ ((entry : Rec) → ¬ (IsOldSpelledBy entry bytes))
old_record_or_none bytes = one_or_none IsOldSpelledBy old_record_at old_is_read old_spelled_decided bytes

-- ---- slots

lists_decided : (entries : List Entry) (roots : List (List ℕ)) (owned : List Owned) → Decided (AreListsValid entries roots owned)
lists_decided entries roots owned =
    decided_as (λ h. record { entries_are = h.0; roots_are = h.1.0; paths_are = h.1.1 }) (λ is. (is.entries_are, (is.roots_are, is.paths_are)))
    (both_decided (entries_decided entries) (both_decided (names_decided roots) (all_decided IsOwned (λ o. path_decided o.path) owned)))

valid_decided : (slot : Snapshot) → Decided (IsSlotValid slot)
valid_decided slot =
    decided_as (λ h. record { number_fits = h.0; lists_are = h.1 }) (λ is. (is.number_fits, is.lists_are)) (both_decided (less_decided slot.number (2 ^ 64)) (lists_decided slot.entries slot.roots slot.owned))

in_names_decided : (names roots : List (List ℕ)) → Decided (AreNamesInOrder names roots)
in_names_decided names roots =
    decided_as (λ h. record { entries_differ = h.0; roots_rise = h.1.0; roots_are_among = h.1.1 }) (λ is. (is.entries_differ, (is.roots_rise, is.roots_are_among)))
    (both_decided (distinct_decided bytes_eq names) (both_decided (rise_decided (map own_name roots)) (true_decided (list_all (is_among names) roots))))

slot_order_decided : (slot : Snapshot) → Decided (IsSlotInOrder slot)
slot_order_decided slot =
    decided_as (λ h. record { names_in_order = h.0; paths_free = h.1.0; owners_are_among = h.1.1 }) (λ is. (is.names_in_order, (is.paths_free, is.owners_are_among)))
    (both_decided (in_names_decided (entry_names slot.entries) slot.roots) (both_decided (free_decided (owned_paths slot.owned)) (true_decided (list_all (has_owner (length slot.entries)) slot.owned))))

slot_right_decided : (slot : Snapshot) (bytes : List ℕ) → Decided ((IsSlotValid slot × IsSlotInOrder slot) × (length bytes ≤ SLOT_LIMIT))
slot_right_decided slot bytes = both_decided (both_decided (valid_decided slot) (slot_order_decided slot)) (at_most_decided (length bytes) SLOT_LIMIT)

slot_spelled_decided : (slot : Snapshot) (bytes : List ℕ) → Decided (IsSlotSpelledBy slot bytes)
slot_spelled_decided slot bytes =
    decided_as (λ h. record { valid = h.0.0.0; ordered = h.0.0.1; short = h.0.1; bytes_are = h.1 }) (λ is. (((is.valid, is.ordered), is.short), is.bytes_are))
    (both_decided (slot_right_decided slot bytes) (same_decided bytes (slot_bytes slot)))

none_decided : (roots : List (List ℕ)) → Decided (roots ≡ [])
none_decided [] = inl refl
none_decided (root ∷ roots) = inr (λ is. absurd cc)

old_slot_spelled_decided : (slot : Snapshot) (bytes : List ℕ) → Decided (IsOldSlotSpelledBy slot bytes)
old_slot_spelled_decided slot bytes =
    decided_as (λ h. record { valid = h.0.0.0; ordered = h.0.0.1; no_roots = h.1.0; short = h.0.1; bytes_are = h.1.1 })
    (λ is. (((is.valid, is.ordered), is.short), (is.no_roots, is.bytes_are)))
    (both_decided (slot_right_decided slot bytes) (both_decided (none_decided slot.roots) (same_decided bytes (old_slot_bytes slot))))

pub slot_or_none : (bytes : List ℕ) → ((slot : Snapshot) × IsSlotSpelledBy slot bytes) ⊎ ((slot : Snapshot) → ¬ (IsSlotSpelledBy slot bytes))
slot_or_none bytes = one_or_none IsSlotSpelledBy slot_at slot_is_read slot_spelled_decided bytes

pub old_slot_or_none : (bytes : List ℕ) → ((slot : Snapshot) × IsOldSlotSpelledBy slot bytes) ⊎ ((slot : Snapshot) → ¬ (IsOldSlotSpelledBy slot bytes))
old_slot_or_none bytes = one_or_none IsOldSlotSpelledBy old_slot_at old_slot_is_read old_slot_spelled_decided bytes
