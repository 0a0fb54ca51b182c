-- Slots are read where they are spelled, in both formats, and nowhere else.
use Rattle.std.proofs.Common.{◌≡◌, ℕ, ◌^◌, ◌<◌, ◌≤◌, true, List, [], ◌∷◌, ◌++◌, length, Option, Some, None, Result, Ok, Err, refl, sym, ap, subst, ◌∙◌, arith}
use Rattle.std.specs.Prelude.{IfOk, IfSome, IfNone, codes}
use Rattle.std.specs.Int.{w32, w64, to_be_bytes}
use Rattle.std.specs.List.{AllByRecursion, list_all}
use Rattle.std.proofs.lemmas.Bool.{ltb-true}
use Rattle.std.proofs.lemmas.List.{append-nil, length-append}
use Rattle.std.proofs.lemmas.List.Elements.{All-from_recursion, recursion_from_All}
use Rattle.std.proofs.lemmas.Nat.{be_bytes_8, from_be_bytes-to_be_bytes_8}
use Rattle.opam_names.specs.Names.{IsName}
use Rattle.opam_names.specs.Paths.{IsPath}
use Rattle.opam_names.proofs.Bytes.{both_left, both_right}
use Rattle.opam_names.specs.declared.fault.OutOfMemory.{OutOfMemory}
use Rattle.journal_text.specs.Words.{counted, short_text}
use Rattle.journal_text.specs.Parts.{IsEntry, entry_bytes}
use Rattle.journal_text.specs.Slots.{IsOldSlotSpelledBy, IsSlotInOrder, IsSlotSpelledBy, IsOwned, IsSlotValid, has_owner, lists_bytes, old_slot_bytes, owned_bytes, slot_body, slot_bytes}
use Rattle.journal_text.specs.Reading.{counted_at, entry_at, name_at, number_at, path_at}
use Rattle.journal_text.specs.SlotReading.{back_at, front_at, old_slot_at, old_slot_body_at, owned_at, slot_at, slot_body_at, with_roots, without_roots}
use Rattle.journal_text.specs.declared.record.Entry.{Entry}
use Rattle.journal_text.specs.declared.slot.Owned.{Owned}
use Rattle.journal_text.specs.declared.slot.Snapshot.{Snapshot}
use Rattle.journal_text.specs.declared.slot.TheConstants.{SLOT_LIMIT}
use Rattle.journal_text.proofs.Words.{IsBytes, IsWide, ListFits, Reads, Takes, both_again, both_takes, reads_counted, reads_number, some_is, wide32}
use Rattle.journal_text.proofs.PartsRead.{EntryFits, reads_entry, reads_name, reads_path}
use Rattle.journal_text.proofs.RecordsRead.{whole_again, whole_takes}
use Rattle.journal_text.proofs.Lengths.{CountedLens, HasBytes, back_len, counted_lens, entries_fit, entries_valid, front_len, names_fit, target_lens}

-- ---- numbers of records

wide64 : IsWide w64 (2 ^ 64)
wide64 = record {
  len = λ n. refl;
  back = λ bytes len fits. be_bytes_8 bytes _ len fits refl;
  again = λ n lt. from_be_bytes-to_be_bytes_8 n lt;
  below = λ bytes fits. omega (arith, fits 0, fits 1, fits 2, fits 3, fits 4, fits 5, fits 6, fits 7);
}

reads_word : Reads (to_be_bytes w32) (λ n. n < 2 ^ 32) (number_at w32)
reads_word = reads_number w32 (2 ^ 32) wide32

reads_long_word : Reads (to_be_bytes w64) (λ n. n < 2 ^ 64) (number_at w64)
reads_long_word = reads_number w64 (2 ^ 64) wide64

-- ---- owned paths

pub record OwnedFits (owned : Owned) : Type 0 where
  pub is_path : IsPath owned.path
  pub owner_fits : owned.owner < 2 ^ 32

abbrev make_owned : List ℕ → ℕ → Owned
make_owned path owner = record { path = path; owner = owner }

owned_takes : (bytes : List ℕ) (x : Owned) (rest : List ℕ) → IsBytes bytes → owned_at bytes ≡ Some (x, rest) → Takes bytes (owned_bytes x) rest × OwnedFits x
owned_takes bytes x rest fits e =
    let t = both_takes make_owned short_text (to_be_bytes w32) IsPath (λ n. n < 2 ^ 32) path_at (number_at w32) reads_path reads_word bytes x rest fits e in
    subst (λ (q : Owned). Takes bytes (owned_bytes q) rest × OwnedFits q) t.2 (t.3, record { is_path = t.4; owner_fits = t.5 })

owned_again : (x : Owned) (rest : List ℕ) → OwnedFits x → owned_at (owned_bytes x ++ rest) ≡ Some (x, rest)
owned_again x rest is = both_again make_owned short_text (to_be_bytes w32) IsPath (λ n. n < 2 ^ 32) path_at (number_at w32) reads_path reads_word x.path x.owner rest is.is_path is.owner_fits

reads_owned : Reads owned_bytes OwnedFits owned_at
reads_owned = record { takes = owned_takes; again = owned_again }

reads_entries : Reads (counted entry_bytes) (ListFits EntryFits) (counted_at entry_at)
reads_entries = reads_counted entry_bytes EntryFits entry_at reads_entry

reads_names : Reads (counted short_text) (ListFits IsName) (counted_at name_at)
reads_names = reads_counted short_text IsName name_at reads_name

reads_owned_list : Reads (counted owned_bytes) (ListFits OwnedFits) (counted_at owned_at)
reads_owned_list = reads_counted owned_bytes OwnedFits owned_at reads_owned

-- ---- fronts and backs

record FrontFits (front : ℕ × List Entry) : Type 0 where
  number_fits : front.0 < 2 ^ 64
  entries_fit : ListFits EntryFits front.1

abbrev pair : ℕ → List Entry → ℕ × List Entry
pair number entries = (number, entries)

abbrev front_bytes : ℕ → List Entry → List ℕ
front_bytes number entries = to_be_bytes w64 number ++ counted entry_bytes entries

abbrev front_text : ℕ × List Entry → List ℕ
front_text front = front_bytes front.0 front.1

front_takes : (bytes : List ℕ) (x : ℕ × List Entry) (rest : List ℕ) → IsBytes bytes → front_at bytes ≡ Some (x, rest) → Takes bytes (front_text x) rest × FrontFits x
front_takes bytes x rest fits e =
    let t = both_takes pair (to_be_bytes w64) (counted entry_bytes) (λ n. n < 2 ^ 64) (ListFits EntryFits) (number_at w64) (counted_at entry_at) reads_long_word reads_entries bytes x rest fits e in
    subst (λ (q : ℕ × List Entry). Takes bytes (front_text q) rest × FrontFits q) t.2 (t.3, record { number_fits = t.4; entries_fit = t.5 })

front_again : (x : ℕ × List Entry) (rest : List ℕ) → FrontFits x → front_at (front_text x ++ rest) ≡ Some (x, rest)
front_again x rest is =
    both_again pair (to_be_bytes w64) (counted entry_bytes) (λ n. n < 2 ^ 64) (ListFits EntryFits) (number_at w64) (counted_at entry_at) reads_long_word reads_entries x.0 x.1 rest is.number_fits is.entries_fit

reads_front : Reads front_text FrontFits front_at
reads_front = record { takes = front_takes; again = front_again }

record BackFits (back : List (List ℕ) × List Owned) : Type 0 where
  roots_fit : ListFits IsName back.0
  owned_fit : ListFits OwnedFits back.1

abbrev both : List (List ℕ) → List Owned → List (List ℕ) × List Owned
both roots owned = (roots, owned)

abbrev back_text : List (List ℕ) × List Owned → List ℕ
back_text back = counted short_text back.0 ++ counted owned_bytes back.1

back_takes : (bytes : List ℕ) (x : List (List ℕ) × List Owned) (rest : List ℕ) → IsBytes bytes → back_at bytes ≡ Some (x, rest) → Takes bytes (back_text x) rest × BackFits x
back_takes bytes x rest fits e =
    let t = both_takes both (counted short_text) (counted owned_bytes) (ListFits IsName) (ListFits OwnedFits) (counted_at name_at) (counted_at owned_at) reads_names reads_owned_list bytes x rest fits e in
    subst (λ (q : List (List ℕ) × List Owned). Takes bytes (back_text q) rest × BackFits q) t.2 (t.3, record { roots_fit = t.4; owned_fit = t.5 })

back_again : (x : List (List ℕ) × List Owned) (rest : List ℕ) → BackFits x → back_at (back_text x ++ rest) ≡ Some (x, rest)
back_again x rest is =
    both_again both (counted short_text) (counted owned_bytes) (ListFits IsName) (ListFits OwnedFits) (counted_at name_at) (counted_at owned_at) reads_names reads_owned_list x.0 x.1 rest is.roots_fit is.owned_fit

reads_back : Reads back_text BackFits back_at
reads_back = record { takes = back_takes; again = back_again }

-- ---- slots

-- what has a spelling, its order aside
pub record SlotFits (slot : Snapshot) : Type 0 where
  pub number_fits : slot.number < 2 ^ 64
  pub entries_fit : ListFits EntryFits slot.entries
  pub roots_fit : ListFits IsName slot.roots
  pub owned_fit : ListFits OwnedFits slot.owned

slot_takes : (bytes : List ℕ) (slot : Snapshot) → IsBytes bytes → slot_at bytes ≡ Some slot → (bytes ≡ slot_bytes slot) × SlotFits slot
slot_takes bytes slot fits e =
    let w = whole_takes (codes "OPAMSNP2") slot_body_at bytes slot fits e in
    let t = both_takes with_roots front_text back_text FrontFits BackFits front_at back_at reads_front reads_back w.rest slot [] w.behind.rest_fits w.reads in
    let whole : bytes ≡ codes "OPAMSNP2" ++ (front_text t.0 ++ back_text t.1) = w.behind.parts ∙ ap (λ (x : List ℕ). codes "OPAMSNP2" ++ x) (t.3.parts ∙ append-nil (front_text t.0 ++ back_text t.1)) in
    subst (λ (q : Snapshot). (bytes ≡ slot_bytes q) × SlotFits q) t.2 (whole, record { number_fits = t.4.number_fits; entries_fit = t.4.entries_fit; roots_fit = t.5.roots_fit; owned_fit = t.5.owned_fit })

slot_again : (slot : Snapshot) → SlotFits slot → slot_at (slot_bytes slot) ≡ Some slot
slot_again slot fits =
    let front : FrontFits (slot.number, slot.entries) = record { number_fits = fits.number_fits; entries_fit = fits.entries_fit } in
    let back : BackFits (slot.roots, slot.owned) = record { roots_fit = fits.roots_fit; owned_fit = fits.owned_fit } in
    whole_again (codes "OPAMSNP2") slot_body_at (slot_body slot) slot
    (ap slot_body_at (sym (append-nil (slot_body slot))) ∙ both_again with_roots front_text back_text FrontFits BackFits front_at back_at reads_front reads_back (slot.number, slot.entries) (slot.roots, slot.owned) [] front back)

-- ---- old slots

abbrev old_body : Snapshot → List ℕ
old_body slot = front_bytes slot.number slot.entries ++ counted owned_bytes slot.owned

no_names : ListFits IsName []
no_names = record { few = omega arith; each = tt }

old_slot_takes : (bytes : List ℕ) (slot : Snapshot) → IsBytes bytes → old_slot_at bytes ≡ Some slot → (bytes ≡ old_slot_bytes slot) × (slot.roots ≡ []) × SlotFits slot
old_slot_takes bytes slot fits e =
    let w = whole_takes (codes "OPAMSNP1") old_slot_body_at bytes slot fits e in
    let t = both_takes without_roots front_text (counted owned_bytes) FrontFits (ListFits OwnedFits) front_at (counted_at owned_at) reads_front reads_owned_list w.rest slot [] w.behind.rest_fits w.reads in
    let whole : bytes ≡ codes "OPAMSNP1" ++ (front_text t.0 ++ counted owned_bytes t.1) = w.behind.parts ∙ ap (λ (x : List ℕ). codes "OPAMSNP1" ++ x) (t.3.parts ∙ append-nil (front_text t.0 ++ counted owned_bytes t.1)) in
    subst (λ (q : Snapshot). (bytes ≡ old_slot_bytes q) × (q.roots ≡ []) × SlotFits q) t.2 (whole, refl, record { number_fits = t.4.number_fits; entries_fit = t.4.entries_fit; roots_fit = no_names; owned_fit = t.5 })

old_slot_again : (slot : Snapshot) → slot.roots ≡ [] → SlotFits slot → old_slot_at (old_slot_bytes slot) ≡ Some slot
old_slot_again slot none fits =
    let front : FrontFits (slot.number, slot.entries) = record { number_fits = fits.number_fits; entries_fit = fits.entries_fit } in
    let bare : Snapshot = record { number = slot.number; entries = slot.entries; roots = []; owned = slot.owned } in
    let same : bare ≡ slot = λ i. record { number = slot.number; entries = slot.entries; roots = sym none i; owned = slot.owned } in
    whole_again (codes "OPAMSNP1") old_slot_body_at (old_body slot) bare
    (ap old_slot_body_at (sym (append-nil (old_body slot))) ∙ both_again without_roots front_text (counted owned_bytes) FrontFits (ListFits OwnedFits) front_at (counted_at owned_at) reads_front reads_owned_list (slot.number, slot.entries) slot.owned [] front fits.owned_fit)
    ∙ ap (λ (s : Snapshot). Some s) same

-- ---- what is valid and short fits

owned_has : HasBytes owned_bytes
owned_has = record { some = λ owned. omega arith }

pub owned_lens : (owned : List Owned) → length (counted owned_bytes owned) < 2 ^ 32 → CountedLens owned_bytes owned (2 ^ 32)
owned_lens owned lt = counted_lens owned_bytes owned_has owned (2 ^ 32) lt

-- an owner that is among few entries fits four bytes
each_owned : (count : ℕ) → count < 2 ^ 32 → (owned : List Owned) → AllByRecursion IsOwned owned → list_all (has_owner count) owned ≡ true → AllByRecursion OwnedFits owned
each_owned count few [] valid among = tt
each_owned count few (o ∷ owned) valid among =
    let lt : o.owner < count = ltb-true o.owner count (both_left (has_owner count o) (list_all (has_owner count) owned) among) in
    (record { is_path = valid.0; owner_fits = omega arith }, each_owned count few owned valid.1 (both_right (has_owner count o) (list_all (has_owner count) owned) among))

slot_fits : (slot : Snapshot) → IsSlotValid slot → IsSlotInOrder slot → length (counted entry_bytes slot.entries) < 2 ^ 32 → length (counted short_text slot.roots) < 2 ^ 32 → length (counted owned_bytes slot.owned) < 2 ^ 32 → SlotFits slot
slot_fits slot valid ordered entries roots owned = record {
  number_fits = valid.number_fits;
  entries_fit = entries_fit slot.entries valid.lists_are.entries_are entries;
  roots_fit = names_fit slot.roots valid.lists_are.roots_are roots;
  owned_fit = record {
    few = (owned_lens slot.owned owned).few;
    each = each_owned (length slot.entries) (target_lens slot.entries entries).few slot.owned (recursion_from_All IsOwned slot.owned valid.lists_are.paths_are) ordered.owners_are_among;
  };
}

-- the lists of a slot
pub record ListLens (entries : List Entry) (roots : List (List ℕ)) (owned : List Owned) : Type 0 where
  pub entries_are : length (counted entry_bytes entries) < 2 ^ 32
  pub roots_are : length (counted short_text roots) < 2 ^ 32
  pub owned_are : length (counted owned_bytes owned) < 2 ^ 32

pub list_lens : (entries : List Entry) (roots : List (List ℕ)) (owned : List Owned) → length (lists_bytes entries roots owned) < 2 ^ 32 → ListLens entries roots owned
list_lens entries roots owned lt =
    let back = back_len (counted entry_bytes entries) (counted short_text roots ++ counted owned_bytes owned) (2 ^ 32) lt in
    record {
      entries_are = front_len (counted entry_bytes entries) (counted short_text roots ++ counted owned_bytes owned) (2 ^ 32) lt;
      roots_are = front_len (counted short_text roots) (counted owned_bytes owned) (2 ^ 32) back;
      owned_are = back_len (counted short_text roots) (counted owned_bytes owned) (2 ^ 32) back;
    }

pub body_lens : (slot : Snapshot) → length (slot_body slot) < 2 ^ 32 → length (lists_bytes slot.entries slot.roots slot.owned) < 2 ^ 32
body_lens slot lt = back_len (to_be_bytes w64 slot.number) (lists_bytes slot.entries slot.roots slot.owned) (2 ^ 32) lt

old_slot_lens : (slot : Snapshot) → slot.roots ≡ [] → length (old_body slot) < 2 ^ 32 → ListLens slot.entries slot.roots slot.owned
old_slot_lens slot none lt =
    let front = front_len (front_bytes slot.number slot.entries) (counted owned_bytes slot.owned) (2 ^ 32) lt in
    record {
      entries_are = back_len (to_be_bytes w64 slot.number) (counted entry_bytes slot.entries) (2 ^ 32) front;
      roots_are = subst (λ (names : List (List ℕ)). length (counted short_text names) < 2 ^ 32) (sym none) (omega arith);
      owned_are = back_len (front_bytes slot.number slot.entries) (counted owned_bytes slot.owned) (2 ^ 32) lt;
    }

-- ---- what fits is valid

each_path : (owned : List Owned) → AllByRecursion OwnedFits owned → AllByRecursion IsOwned owned
each_path [] fits = tt
each_path (o ∷ owned) fits = (fits.0.is_path, each_path owned fits.1)

slot_valid : (slot : Snapshot) → SlotFits slot → IsSlotValid slot
slot_valid slot fits = record {
  number_fits = fits.number_fits;
  lists_are = record {
    entries_are = All-from_recursion IsEntry slot.entries (entries_valid slot.entries fits.entries_fit.each);
    roots_are = All-from_recursion IsName slot.roots fits.roots_fit.each;
    paths_are = All-from_recursion IsOwned slot.owned (each_path slot.owned fits.owned_fit.each);
  };
}

-- ---- decoding

abbrev pub SlotChosen : Snapshot → Result (Option Snapshot) OutOfMemory → Type 0
SlotChosen slot r = IfOk r (λ found. IfSome found (λ s. (s ≡ slot) × IsSlotInOrder slot))

abbrev pub SlotRefused : Snapshot → Result (Option Snapshot) OutOfMemory → Type 0
SlotRefused slot r = IfOk r (λ found. IfNone found (¬ (IsSlotInOrder slot)))

pub slot_is_read : (slot : Snapshot) (bytes : List ℕ) → IsSlotSpelledBy slot bytes → slot_at bytes ≡ Some slot
slot_is_read slot bytes is =
    let lens = list_lens slot.entries slot.roots slot.owned (body_lens slot (omega (arith, is.short, ap length is.bytes_are, length-append (codes "OPAMSNP2") (slot_body slot)))) in
    ap slot_at is.bytes_are ∙ slot_again slot (slot_fits slot is.valid is.ordered lens.entries_are lens.roots_are lens.owned_are)

pub slot_decoded : (bytes : List ℕ) (slot : Snapshot) (r : Result (Option Snapshot) OutOfMemory) → IsBytes bytes → length bytes ≤ SLOT_LIMIT → slot_at bytes ≡ Some slot → SlotChosen slot r → IfOk r (λ found. IfSome found (λ s. IsSlotSpelledBy s bytes))
slot_decoded bytes slot (Err e) fits short is chosen = tt
slot_decoded bytes slot (Ok None) fits short is chosen = tt
slot_decoded bytes slot (Ok (Some s)) fits short is chosen =
    let t = slot_takes bytes slot fits is in
    subst (λ (x : Snapshot). IsSlotSpelledBy x bytes) (sym chosen.0) (record { valid = slot_valid slot t.1; ordered = chosen.1; short = short; bytes_are = t.0 })

pub slot_refused : (bytes : List ℕ) (slot : Snapshot) (r : Result (Option Snapshot) OutOfMemory) → slot_at bytes ≡ Some slot → SlotRefused slot r → IfOk r (λ found. IfNone found ((s : Snapshot) → ¬ (IsSlotSpelledBy s bytes)))
slot_refused bytes slot (Err e) is none = tt
slot_refused bytes slot (Ok (Some s)) is none = tt
slot_refused bytes slot (Ok None) is none = λ s spelled. none (subst IsSlotInOrder (some_is s slot (sym (slot_is_read s bytes spelled) ∙ is)) spelled.ordered)

pub slot_unread : (bytes : List ℕ) → slot_at bytes ≡ None → (s : Snapshot) → ¬ (IsSlotSpelledBy s bytes)
slot_unread bytes is s spelled = let read = slot_is_read s bytes spelled in absurd cc

pub one_slot : (a b : Snapshot) (bytes : List ℕ) → IsSlotSpelledBy a bytes → IsSlotSpelledBy b bytes → a ≡ b
one_slot a b bytes one other = some_is a b (sym (slot_is_read a bytes one) ∙ slot_is_read b bytes other)

pub old_slot_is_read : (slot : Snapshot) (bytes : List ℕ) → IsOldSlotSpelledBy slot bytes → old_slot_at bytes ≡ Some slot
old_slot_is_read slot bytes is =
    let lens = old_slot_lens slot is.no_roots (omega (arith, is.short, ap length is.bytes_are, length-append (codes "OPAMSNP1") (old_body slot))) in
    ap old_slot_at is.bytes_are ∙ old_slot_again slot is.no_roots (slot_fits slot is.valid is.ordered lens.entries_are lens.roots_are lens.owned_are)

pub old_slot_decoded : (bytes : List ℕ) (slot : Snapshot) (r : Result (Option Snapshot) OutOfMemory) → IsBytes bytes → length bytes ≤ SLOT_LIMIT → old_slot_at bytes ≡ Some slot → SlotChosen slot r → IfOk r (λ found. IfSome found (λ s. IsOldSlotSpelledBy s bytes))
old_slot_decoded bytes slot (Err e) fits short is chosen = tt
old_slot_decoded bytes slot (Ok None) fits short is chosen = tt
old_slot_decoded bytes slot (Ok (Some s)) fits short is chosen =
    let t = old_slot_takes bytes slot fits is in
    subst (λ (x : Snapshot). IsOldSlotSpelledBy x bytes) (sym chosen.0) (record { valid = slot_valid slot t.2; ordered = chosen.1; no_roots = t.1; short = short; bytes_are = t.0 })

pub old_slot_refused : (bytes : List ℕ) (slot : Snapshot) (r : Result (Option Snapshot) OutOfMemory) → old_slot_at bytes ≡ Some slot → SlotRefused slot r → IfOk r (λ found. IfNone found ((s : Snapshot) → ¬ (IsOldSlotSpelledBy s bytes)))
old_slot_refused bytes slot (Err e) is none = tt
old_slot_refused bytes slot (Ok (Some s)) is none = tt
old_slot_refused bytes slot (Ok None) is none = λ s spelled. none (subst IsSlotInOrder (some_is s slot (sym (old_slot_is_read s bytes spelled) ∙ is)) spelled.ordered)

pub old_slot_unread : (bytes : List ℕ) → old_slot_at bytes ≡ None → (s : Snapshot) → ¬ (IsOldSlotSpelledBy s bytes)
old_slot_unread bytes is s spelled = let read = old_slot_is_read s bytes spelled in absurd cc

pub one_old_slot : (a b : Snapshot) (bytes : List ℕ) → IsOldSlotSpelledBy a bytes → IsOldSlotSpelledBy b bytes → a ≡ b
one_old_slot a b bytes one other = some_is a b (sym (old_slot_is_read a bytes one) ∙ old_slot_is_read b bytes other)
