-- The paths that a slot lists go to their owners one by one, in their order.
use Rattle.std.proofs.Common.{◌≡◌, ◌∙◌, ℕ, suc, ◌+◌, ◌<◌, ◌≤◌, List, [], ◌∷◌, ◌++◌, length, get_or, Bool, true, false, refl, sym, subst, ap, arith, append_assoc, Option, Some, if◌then◌else◌}
use Rattle.std.specs.List.{AllByRecursion, IsDistinct, cons_option, filter_map, list_all, list_any}
use Rattle.std.specs.List.Sorted.{IsStrictlySortedBy}
use Rattle.std.specs.Option.{option_map}
use Rattle.std.specs.Ordering.{is_lt}
use Rattle.std.specs.declared.cmp.Ordering.TheVariants.{Less}
use Rattle.std.proofs.lemmas.Bool.{and_parts, ltb-true, or_from}
use Rattle.std.proofs.lemmas.List.{append-nil}
use Rattle.std.proofs.lemmas.Option.{slice_get-get_or}
use Rattle.opam_names.specs.ByteOrders.{put_by}
use Rattle.opam_names.specs.Paths.{is_above}
use Rattle.path_order.specs.Apart.{AreApart, meets}
use Rattle.path_order.proofs.Fronts.{C}
use Rattle.journal_text.specs.Parts.{AreFree}
use Rattle.journal_text.specs.Slots.{has_owner, owned_paths}
use Rattle.journal_text.specs.declared.record.Entry.{Entry}
use Rattle.journal_text.specs.declared.slot.Owned.{Owned}
use Rattle.owner_map.specs.Owning as owning
use Rattle.owner_map.specs.Owning.{Owning, owned_by, path_of}
use Rattle.owner_map.specs.declared.owned.OwnedPath.{OwnedPath}
use Rattle.switch_journal.specs.Reading.{owned_with}
use Rattle.switch_journal.proofs.Coming.{apart_free}

abbrev Paths : Type 0
Paths = List (List ℕ)

at_place : (P : List ℕ → Type 0) (ps : Paths) (q : List ℕ) (rest : Paths) → AllByRecursion P (ps ++ q ∷ rest) → P q
at_place P [] q rest all = all.0
at_place P (p ∷ ps) q rest all = at_place P ps q rest all.1

-- those before a path precede it, and are not above it
before_rise : (ps : Paths) (q : List ℕ) (rest : Paths) → AreApart (ps ++ q ∷ rest) → AllByRecursion (λ p. C p q ≡ Less) ps
unfolding IsStrictlySortedBy IsDistinct
before_rise [] q rest apart = tt
before_rise (p ∷ ps) q rest apart = (at_place (λ r. C p r ≡ Less) ps q rest apart.rise.0, before_rise ps q rest (record { rise = apart.rise.1; apart = apart.apart.1 }))

before_apart : (ps : Paths) (q : List ℕ) (rest : Paths) → AreApart (ps ++ q ∷ rest) → AllByRecursion (λ p. is_above p q ≡ false) ps
unfolding IsStrictlySortedBy IsDistinct
before_apart [] q rest apart = tt
before_apart (p ∷ ps) q rest apart = (at_place (λ r. is_above p r ≡ false) ps q rest apart.apart.0, before_apart ps q rest (record { rise = apart.rise.1; apart = apart.apart.1 }))

-- so it meets none of them
meets_none : (q : List ℕ) (ps : Paths) → AllByRecursion (λ p. C p q ≡ Less) ps → AllByRecursion (λ p. is_above p q ≡ false) ps → list_any (meets q) ps ≡ false
meets_none q [] rise apart = refl
meets_none q (p ∷ ps) rise apart = or_from (meets q p) (list_any (meets q) ps) (apart_free p q rise.0 apart.0) (meets_none q ps rise.1 apart.1)

-- and it comes last
put_last : (x : OwnedPath) (xs : List OwnedPath) → AllByRecursion (λ p. C p x.path ≡ Less) (owning.paths_of xs) → put_by path_of x xs ≡ xs ++ x ∷ []
put_last x [] rise = refl
put_last x (y ∷ ys) rise =
    ap (λ (b : Bool). if b then y ∷ put_by path_of x ys else x ∷ y ∷ ys) (ap is_lt rise.0) ∙ ap (λ (l : List OwnedPath). y ∷ l) (put_last x ys rise.1)

paths_with : (xs : List OwnedPath) (x : OwnedPath) → owning.paths_of (xs ++ x ∷ []) ≡ owning.paths_of xs ++ x.path ∷ []
paths_with [] x = refl
paths_with (y ∷ ys) x = ap (λ (l : Paths). y.path ∷ l) (paths_with ys x)

-- what is owned already, and what is left
pub record IsSlotting (entries : List Entry) (whole left : List Owned) (owners : Owning) : Type 0 where
  pub same : owners.owned ++ filter_map (owned_with entries) left ≡ filter_map (owned_with entries) whole
  pub room : length left ≤ owners.spare
  pub apart : AreApart (owning.paths_of owners.owned ++ owned_paths left)
  pub among : list_all (has_owner (length entries)) left ≡ true

pub slotting_first : (entries : List Entry) (whole left : List Owned) (owners : Owning) → left ≡ whole → owners.owned ≡ [] → length whole ≤ owners.spare → AreFree (owned_paths whole) → list_all (has_owner (length entries)) whole ≡ true
    → IsSlotting entries whole left owners
slotting_first entries whole left owners same none room free among = record {
  same = λ i. none i ++ filter_map (owned_with entries) (same i);
  room = subst (λ (l : List Owned). length l ≤ owners.spare) (sym same) room;
  apart = subst (λ (l : List OwnedPath). AreApart (owning.paths_of l ++ owned_paths left)) (sym none) (subst (λ (l : List Owned). AreApart (owned_paths l)) (sym same) free.apart);
  among = ap (list_all (has_owner (length entries))) same ∙ among;
}

module _ (entries : List Entry) (whole left rest : List Owned) (one : Owned) (owners : Owning) (next : left ≡ one ∷ rest) (is : IsSlotting entries whole left owners) where
  apart_here : AreApart (owning.paths_of owners.owned ++ one.path ∷ owned_paths rest)
  apart_here = subst (λ (l : List Owned). AreApart (owning.paths_of owners.owned ++ owned_paths l)) next is.apart

  among_here : list_all (has_owner (length entries)) (one ∷ rest) ≡ true
  among_here = ap (list_all (has_owner (length entries))) (sym next) ∙ is.among

  rises : AllByRecursion (λ p. C p one.path ≡ Less) (owning.paths_of owners.owned)
  rises = before_rise (owning.paths_of owners.owned) one.path (owned_paths rest) apart_here

  pub slotting_within : one.owner < length entries
  slotting_within = ltb-true one.owner (length entries) (and_parts (has_owner (length entries) one) (list_all (has_owner (length entries)) rest) among_here).0

  room_here : suc (length rest) ≤ owners.spare
  room_here = subst (λ (l : List Owned). length l ≤ owners.spare) next is.room

  pub slotting_spare : 0 < owners.spare
  slotting_spare = let room = room_here in omega (arith, room)

  pub slotting_free : list_any (meets one.path) (owning.paths_of owners.owned) ≡ false
  slotting_free = meets_none one.path (owning.paths_of owners.owned) rises (before_apart (owning.paths_of owners.owned) one.path (owned_paths rest) apart_here)

  owned_here : (entry : Entry) → entry ≡ get_or entries one.owner entry → owned_with entries one ≡ Some (owned_by one.path entry.pkg)
  owned_here entry at =
      ap (option_map (λ (e : Entry). owned_by one.path e.pkg)) (slice_get-get_or entries one.owner entry slotting_within ∙ ap (λ (e : Entry). Some e) (sym at))

  pub slotting_more : (entry : Entry) (after : Owning) → entry ≡ get_or entries one.owner entry → after.owned ≡ put_by path_of (owned_by one.path entry.pkg) owners.owned → after.spare + 1 ≡ owners.spare → IsSlotting entries whole rest after
  slotting_more entry after at puts fewer =
      let new : OwnedPath = owned_by one.path entry.pkg in
      let last : after.owned ≡ owners.owned ++ new ∷ [] = puts ∙ put_last new owners.owned rises in
      record {
        same = ap (λ (l : List OwnedPath). l ++ filter_map (owned_with entries) rest) last ∙ append_assoc owners.owned (new ∷ []) (filter_map (owned_with entries) rest)
            ∙ ap (λ (o : Option OwnedPath). owners.owned ++ cons_option o (filter_map (owned_with entries) rest)) (sym (owned_here entry at))
            ∙ ap (λ (l : List Owned). owners.owned ++ filter_map (owned_with entries) l) (sym next) ∙ is.same;
        room = let room = room_here in omega (arith, fewer, room);
        apart = subst AreApart (sym (append_assoc (owning.paths_of owners.owned) (one.path ∷ []) (owned_paths rest)) ∙ ap (λ (l : Paths). l ++ owned_paths rest) (sym (ap owning.paths_of last ∙ paths_with owners.owned new))) apart_here;
        among = (and_parts (has_owner (length entries) one) (list_all (has_owner (length entries)) rest) among_here).1;
      }

pub slotting_last : (entries : List Entry) (whole left : List Owned) (owners : Owning) → left ≡ [] → IsSlotting entries whole left owners → owners.owned ≡ filter_map (owned_with entries) whole
slotting_last entries whole left owners none is =
    sym (append-nil owners.owned) ∙ ap (λ (l : List Owned). owners.owned ++ filter_map (owned_with entries) l) (sym none) ∙ is.same
