-- What a slot says can be given to a journal piece by piece.
use Rattle.std.proofs.Common.{◌≡◌, ◌∙◌, ℕ, suc, zero, ◌+◌, ◌≤◌, ◌<◌, ◌^◌, List, [], ◌∷◌, ◌++◌, length, map, take, drop, get_or, Bool, true, false, refl, sym, ap, subst, arith, Option, Some, None}
use Rattle.std.specs.Prelude.{◌&&◌, nat_le}
use Rattle.std.proofs.Math.Seq.{drop-cons}
use Rattle.std.specs.List.{cons_option, filter_map, list_all}
use Rattle.std.proofs.lemmas.Bool.Decides.{nat_tests}
use Rattle.std.proofs.lemmas.List.{append_assoc, length-append, take_more}
use Rattle.journal_text.specs.Slots.{IsSlotInOrder, IsSlotSpelledBy}
use Rattle.journal_text.specs.declared.record.Entry.{Entry}
use Rattle.journal_text.specs.declared.slot.Owned.{Owned}
use Rattle.journal_text.specs.declared.slot.Snapshot.{Snapshot}
use Rattle.owner_map.specs.declared.owned.OwnedPath.{OwnedPath}
use Rattle.switch_journal.specs.Applying.{are_few, are_few_paths, text_total}
use Rattle.switch_journal.specs.Contents as contents
use Rattle.switch_journal.specs.Journal.{Head}
use Rattle.switch_journal.specs.Reading.{owned_with, slot_contents, standing_of}
use Rattle.switch_journal.specs.SlotPieces.{CanFinish, Pieces, is_owner_given, with_entry, with_root}
use Rattle.switch_journal.specs.declared.request.TheConstants.{ENTRY_LIMIT, OWNED_LIMIT, TEXT_LIMIT}
use Rattle.switch_journal.proofs.Formed.{slot_formed}
use Rattle.rows.specs.Pieces.{with_entries, with_roots}

-- ---- in the loops

pub entry_step : (entries : List Entry) (i : ℕ) (entry : Entry) (first now next : Pieces) → i < length entries → entry ≡ get_or entries i entry → now ≡ with_entries (take i entries) first → next ≡ with_entry entry.pkg entry.opam now → next ≡ with_entries (take (i + 1) entries) first
entry_step entries i entry first now next within is so_far new =
    new
    ∙ ap (with_entry entry.pkg entry.opam) so_far
    ∙ (λ j. record { head = first.head; asked = first.asked; entries = (append_assoc first.entries (take i entries) (entry ∷ []) ∙ ap (λ (es : List Entry). first.entries ++ es) (sym more)) j; roots = first.roots })
  where
    more : take (i + 1) entries ≡ take i entries ++ entry ∷ []
    more = take_more entries i entry within ∙ (λ j. take i entries ++ sym is j ∷ [])

pub entry_fits : (entries : List Entry) (i : ℕ) (first now : Pieces) → i < length entries → length first.entries + length entries ≤ first.asked → now ≡ with_entries (take i entries) first → length now.entries < now.asked
entry_fits entries i first now within room so_far =
    let count = ap (λ (p : Pieces). length p.entries) so_far in
    let asked = ap (λ (p : Pieces). p.asked) so_far in
    let sum = length-append first.entries (take i entries) in
    let part = length_take entries i within in
    omega (arith, count, asked, sum, part, room, within)
  where
    length_take : {X : Type 0} (xs : List X) (i : ℕ) → i < length xs → length (take i xs) ≡ i
    length_take [] i within = absurd (omega (arith, within))
    length_take (x ∷ xs) zero within = refl
    length_take (x ∷ xs) (suc i) within = let rest = length_take xs i (omega (arith, within)) in omega (arith, rest)

pub entry_short : (entries : List Entry) (i : ℕ) (entry : Entry) → i < length entries → entry ≡ get_or entries i entry → text_total entries ≤ TEXT_LIMIT → length entry.opam < 2 ^ 32
entry_short entries i entry within is few = let short = part entries i within is in omega (arith, short, few)
  where
    part : (es : List Entry) (i : ℕ) → i < length es → entry ≡ get_or es i entry → length entry.opam ≤ text_total es
    part [] i within is = absurd (omega (arith, within))
    part (e ∷ es) zero within is = let same = ap (λ (x : Entry). length x.opam) is in omega (arith, same)
    part (e ∷ es) (suc i) within is = let rest = part es i (omega (arith, within)) is in omega (arith, rest)

pub root_step : (roots : List (List ℕ)) (i : ℕ) (root : List ℕ) (first now next : Pieces) → i < length roots → root ≡ get_or roots i root → now ≡ with_roots (take i roots) first → next ≡ with_root root now → next ≡ with_roots (take (i + 1) roots) first
root_step roots i root first now next within is so_far new =
    new
    ∙ ap (with_root root) so_far
    ∙ (λ j. record { head = first.head; asked = first.asked; entries = first.entries; roots = (append_assoc first.roots (take i roots) (root ∷ []) ∙ ap (λ (rs : List (List ℕ)). first.roots ++ rs) (sym more)) j })
  where
    more : take (i + 1) roots ≡ take i roots ++ root ∷ []
    more = take_more roots i root within ∙ (λ j. take i roots ++ sym is j ∷ [])

-- ---- the paths that are left

pub next_left : {X : Type 0} (whole : List X) (i : ℕ) (one : X) → i < length whole → one ≡ get_or whole i one → drop i whole ≡ one ∷ drop (i + 1) whole
next_left whole i one below is =
    let next : suc i ≡ i + 1 = omega arith in
    drop-cons whole i one below ∙ (λ j. sym is j ∷ drop (next j) whole)

-- ---- the slot

stood : (from : List ℕ) (es : List Entry) → map contents.entry_of (map (standing_of from) es) ≡ es
stood from [] = refl
stood from (e ∷ es) = ap (λ (more : List Entry). e ∷ more) (stood from es)

owners_len : (entries : List Entry) (owned : List Owned) → length (filter_map (owned_with entries) owned) ≤ length owned
owners_len entries [] = omega arith
owners_len entries (o ∷ owned) = by (owned_with entries o) (owners_len entries owned)
  where
    by : (found : Option OwnedPath) → length (filter_map (owned_with entries) owned) ≤ length owned → length (cons_option found (filter_map (owned_with entries) owned)) ≤ length (o ∷ owned)
    by None rest = omega (arith, rest)
    by (Some p) rest = omega (arith, rest)

pub can_finish : (head : Head) (slot : Snapshot) (pieces : Pieces) (owned : List OwnedPath) → IsSlotInOrder slot → pieces ≡ record { head = head; asked = length slot.entries; entries = slot.entries; roots = slot.roots } → owned ≡ filter_map (owned_with slot.entries) slot.owned
    → length slot.entries ≤ ENTRY_LIMIT → nat_le (text_total slot.entries) TEXT_LIMIT ≡ true → length slot.owned ≤ OWNED_LIMIT → CanFinish pieces owned
can_finish head slot pieces owned ordered are owns few texts paths =
    subst (λ (p : Pieces). CanFinish p owned) (sym are) (subst (CanFinish given) (sym owns) can)
  where
    given : Pieces
    given = record { head = head; asked = length slot.entries; entries = slot.entries; roots = slot.roots }

    can : CanFinish (record { head = head; asked = length slot.entries; entries = slot.entries; roots = slot.roots }) (filter_map (owned_with slot.entries) slot.owned)
    can =
        let formed = slot_formed true [] slot (slot_contents [] slot) refl ordered in
        let count : nat_le (length slot.entries) ENTRY_LIMIT ≡ true = grind (arith, nat_tests) in
        let len = owners_len slot.entries slot.owned in
        record {
          given = refl;
          names = ordered.names_in_order;
          free = formed.installed.free;
          owners = ap (λ (es : List Entry). list_all (is_owner_given es) (filter_map (owned_with slot.entries) slot.owned)) (sym (stood [] slot.entries)) ∙ formed.installed.owners;
          few = rw (count, texts) refl;
          few_paths = grind (arith, nat_tests);
        }
