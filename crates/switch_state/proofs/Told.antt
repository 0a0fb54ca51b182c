-- What a well-formed state has can be given to a slot, and tells the state.
use Rattle.std.proofs.Common.{◌≡◌, ◌∙◌, ℕ, suc, zero, ◌+◌, ◌≤◌, ◌<◌, ◌^◌, List, [], ◌∷◌, ◌++◌, length, map, take, get_or, Bool, true, false, refl, sym, ap, subst, arith, Option, Some, None}
use Rattle.std.specs.Prelude.{◌&&◌, ◌||◌, IfOk, bytes_eq, nat_le}
use Rattle.std.specs.declared.result.Result.{Result}
use Rattle.std.specs.declared.result.Result.TheVariants.{Err, Ok}
use Rattle.std.specs.List.{IsDistinct, list_all, list_any}
use Rattle.std.specs.Option.{option_map}
use Rattle.std.proofs.lemmas.Bool.{false≢true}
use Rattle.std.proofs.lemmas.Bool.Decides.{nat_tests}
use Rattle.std.proofs.lemmas.List.{append-nil, append_assoc, length-append, length-map, map-append, take_more}
use Rattle.std.proofs.lemmas.Slice.Eq.{bytes_eq-Decides}
use Rattle.opam_package.specs.declared.package.Member.{Member}
use Rattle.owner_map.specs.Owning.{is_same_pkg}
use Rattle.owner_map.specs.declared.owned.OwnedPath.{OwnedPath}
use Rattle.opam_names.specs.declared.packages.Pkg.{Pkg}
use Rattle.journal_text.specs.Slots.{entry_names, is_among}
use Rattle.journal_text.specs.declared.record.Entry.{Entry}
use Rattle.switch_journal.specs.Applying.{are_few, are_few_paths, entries_of, is_of, text_total}
use Rattle.switch_journal.specs.Contents as contents
use Rattle.switch_journal.specs.Contents.{Contents}
use Rattle.switch_journal.specs.Journal.{Head}
use Rattle.switch_journal.specs.Places.{slot_path}
use Rattle.switch_journal.specs.Reading.{is_small, standing_of}
use Rattle.switch_journal.specs.SlotPieces.{CanFinish, IsSlotGiven, Pieces, begun, contents_given, is_owner_given, with_entry, with_root}
use Rattle.switch_journal.specs.Snapshots.{IsSameSwitch, IsSlotReady, contents_by, place_for}
use Rattle.switch_journal.specs.declared.request.TheConstants.{ENTRY_LIMIT, TEXT_LIMIT}
use Rattle.switch_journal.specs.declared.slots.ReadySlot.{ReadySlot}
use Rattle.switch_state.specs.Ends.{is_called, is_entry_name}
use Rattle.switch_state.specs.Sound.{member_pkg, name_of}
use Rattle.switch_state.specs.State.{Now, SwitchState, contents_in, member_entry, open_of}
use Rattle.switch_state.specs.Telling.{IsSlotOf, pieces_of, with_entries, with_roots}
use Rattle.switch_state.specs.WellFormed.{IsWellFormed}
use Rattle.switch_state.proofs.Acting.{entries_said}
use Rattle.switch_state.proofs.Adding.{same_bytes}
use Rattle.switch_state.proofs.SoundKept.{and_left, and_right, is_false}

-- ---- names

names_are : (members : List Member) → entry_names (map member_entry members) ≡ map name_of members
names_are [] = refl
names_are (m ∷ members) = ap (λ (ns : List (List ℕ)). name_of m ∷ ns) (names_are members)

flipped : (a b : List ℕ) → bytes_eq a b ≡ bytes_eq b a
flipped a b = by (bytes_eq a b) refl
  where
    by : (t : Bool) → bytes_eq a b ≡ t → bytes_eq a b ≡ bytes_eq b a
    by true is = is ∙ sym ((bytes_eq-Decides b a).1 (sym (same_bytes a b is)))
    by false is = is ∙ sym (is_false (bytes_eq b a) (λ same. false≢true (sym is ∙ (bytes_eq-Decides a b).1 (sym (same_bytes b a same)))))

among_is : (members : List Member) (name : List ℕ) → is_among (map name_of members) name ≡ is_entry_name members name
among_is [] name = refl
among_is (m ∷ members) name = λ i. flipped (name_of m) name i || among_is members name i

all_among : (members : List Member) (roots : List (List ℕ)) → list_all (is_among (map name_of members)) roots ≡ list_all (is_entry_name members) roots
all_among members [] = refl
all_among members (root ∷ roots) = λ i. among_is members root i && all_among members roots i

-- ---- in the loops

-- a member more is given
pub entry_step : (members : List Member) (i : ℕ) (m : Member) (first now next : Pieces) → i < length members → m ≡ get_or members i m → now ≡ with_entries (map member_entry (take i members)) first → next ≡ with_entry m.package.pkg m.opam now → next ≡ with_entries (map member_entry (take (i + 1) members)) first
entry_step members i m first now next within is so_far new =
    new
    ∙ ap (with_entry m.package.pkg m.opam) so_far
    ∙ (λ j. record { head = first.head; asked = first.asked; entries = entries j; roots = first.roots })
  where
    more : take (i + 1) members ≡ take i members ++ m ∷ []
    more = take_more members i m within ∙ (λ j. take i members ++ sym is j ∷ [])

    entries : (first.entries ++ map member_entry (take i members)) ++ member_entry m ∷ [] ≡ first.entries ++ map member_entry (take (i + 1) members)
    entries =
        append_assoc first.entries (map member_entry (take i members)) (member_entry m ∷ [])
        ∙ ap (λ (es : List Entry). first.entries ++ es) (sym (map-append member_entry (take i members) (m ∷ [])) ∙ ap (map member_entry) (sym more))

-- there is room for it
pub entry_fits : (members : List Member) (i : ℕ) (first now : Pieces) → i < length members → length first.entries + length members ≤ first.asked → now ≡ with_entries (map member_entry (take i members)) first → length now.entries < now.asked
entry_fits members i first now within room so_far =
    let count = ap (λ (p : Pieces). length p.entries) so_far in
    let asked = ap (λ (p : Pieces). p.asked) so_far in
    let sum = length-append first.entries (map member_entry (take i members)) in
    let some = length-map (take i members) member_entry in
    let part = length_take members i within in
    omega (arith, count, asked, sum, some, part, room, within)
  where
    length_take : {X : Type 0} (xs : List X) (i : ℕ) → i < length xs → length (take i xs) ≡ i
    length_take [] i within = absurd (omega (arith, within))
    length_take (x ∷ xs) zero within = refl
    length_take (x ∷ xs) (suc i) within = let rest = length_take xs i (omega (arith, within)) in omega (arith, rest)

-- its text is not too long
pub entry_short : (members : List Member) (i : ℕ) (m : Member) → i < length members → m ≡ get_or members i m → text_total (map member_entry members) ≤ TEXT_LIMIT → length m.opam < 2 ^ 32
entry_short members i m within is few = let short = part members i within is in omega (arith, short, few)
  where
    part : (ms : List Member) (i : ℕ) → i < length ms → m ≡ get_or ms i m → length m.opam ≤ text_total (map member_entry ms)
    part [] i within is = absurd (omega (arith, within))
    part (x ∷ ms) zero within is = let same = ap (λ (y : Member). length y.opam) is in omega (arith, same)
    part (x ∷ ms) (suc i) within is = let rest = part ms i (omega (arith, within)) is in omega (arith, rest)

-- a root more is given
pub root_step : (roots : List (List ℕ)) (i : ℕ) (root : List ℕ) (first now next : Pieces) → i < length roots → root ≡ get_or roots i root → now ≡ with_roots (take i roots) first → next ≡ with_root root now → next ≡ with_roots (take (i + 1) roots) first
root_step roots i root first now next within is so_far new =
    new
    ∙ ap (with_root root) so_far
    ∙ (λ j. record { head = first.head; asked = first.asked; entries = first.entries; roots = (append_assoc first.roots (take i roots) (root ∷ []) ∙ ap (λ (rs : List (List ℕ)). first.roots ++ rs) (sym more)) j })
  where
    more : take (i + 1) roots ≡ take i roots ++ root ∷ []
    more = take_more roots i root within ∙ (λ j. take i roots ++ sym is j ∷ [])

-- ---- the slot

owner_is : (members : List Member) (owner : Pkg) → list_any (is_of owner) (map member_entry members) ≡ list_any (λ (m : Member). is_same_pkg (member_pkg m) owner) members
owner_is [] owner = refl
owner_is (m ∷ members) owner = ap (λ b. is_same_pkg (member_pkg m) owner || b) (owner_is members owner)

owners_are : (members : List Member) (owned : List OwnedPath) → list_all (is_owner_given (map member_entry members)) owned ≡ list_all (λ (o : OwnedPath). list_any (λ (m : Member). is_same_pkg (member_pkg m) o.owner) members) owned
owners_are members [] = refl
owners_are members (o ∷ owned) = λ i. owner_is members o.owner i && owners_are members owned i

module _ (head : Head) (state : SwitchState) (formed : IsWellFormed state) (free : state.request ≡ None) (small : is_small (contents_in state) ≡ true) where
  few : are_few (map member_entry state.members) ≡ true
  few = sym (ap are_few (entries_said state)) ∙ and_left (are_few (entries_of (contents_in state))) (are_few_paths state.owned) small

  pub few_members : length state.members ≤ ENTRY_LIMIT
  few_members =
      let count = and_left (nat_le (length (map member_entry state.members)) ENTRY_LIMIT) (nat_le (text_total (map member_entry state.members)) TEXT_LIMIT) few in
      let same = length-map state.members member_entry in
      grind (arith, nat_tests)

  pub few_texts : text_total (map member_entry state.members) ≤ TEXT_LIMIT
  few_texts =
      let count = and_right (nat_le (length (map member_entry state.members)) ENTRY_LIMIT) (nat_le (text_total (map member_entry state.members)) TEXT_LIMIT) few in
      grind (arith, nat_tests)

  pub can_finish : CanFinish (pieces_of head state) state.owned
  can_finish = record {
    given = length-map state.members member_entry;
    names = record {
      entries_differ = subst (IsDistinct bytes_eq) (sym (names_are state.members)) formed.names;
      roots_rise = formed.roots;
      roots_are_among = ap (λ (ns : List (List ℕ)). list_all (is_among ns) state.roots) (names_are state.members) ∙ all_among state.members state.roots ∙ formed.asked free;
    };
    free = formed.paths.free;
    owners = owners_are state.members state.owned ∙ formed.owners;
    few = few;
    few_paths = and_right (are_few (entries_of (contents_in state))) (are_few_paths state.owned) small;
  }

pub pieces_are : (head : Head) (state : SwitchState) (asked : ℕ) (members : List Member) (roots : List (List ℕ)) (one two three : Pieces) → one ≡ begun head asked → asked ≡ length members → two ≡ with_entries (map member_entry members) one → three ≡ with_roots roots two → members ≡ state.members → roots ≡ state.roots
    → three ≡ pieces_of head state
pieces_are head state asked members roots one two three first count second third same same_roots =
    third
    ∙ ap (with_roots roots) (second ∙ ap (with_entries (map member_entry members)) first)
    ∙ (λ i. record { head = head; asked = (count ∙ ap length same) i; entries = map member_entry (same i); roots = same_roots i })

stood : (from : List ℕ) (es : List Entry) → map contents.entry_of (map (standing_of from) es) ≡ es
stood from [] = refl
stood from (e ∷ es) = ap (λ (more : List Entry). e ∷ more) (stood from es)

given_says : (head : Head) (state : SwitchState) → state.request ≡ None → IsSameSwitch (contents_in state) (contents_given (pieces_of head state) state.owned)
given_says head state free = record {
  entries = stood (slot_path (place_for head)) (map member_entry state.members) ∙ sym (entries_said state);
  owned = refl;
  roots = λ name. refl;
  request = ap (option_map open_of) (sym free);
}

pub slot_of : (now : Now) (ready : ReadySlot) → now.state.request ≡ None → IsSlotGiven (pieces_of now.head now.state) now.state.owned ready → IsSlotOf now ready
slot_of now ready free given = record {
  snapshot = given.snapshot;
  made = given.made;
  says = subst (IsSameSwitch (contents_in now.state)) (sym given.says) (given_says now.head now.state free);
}

pub if_told : {T E : Type 0} {P Q : T → Type 0} (result : Result T E) → IfOk result P → ((x : T) → P x → Q x) → IfOk result Q
if_told (Ok x) is more = more x is
if_told (Err e) is more = tt
