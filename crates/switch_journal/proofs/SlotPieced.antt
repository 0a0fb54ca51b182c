-- A slot that was given piece by piece is spelled, stands in order, and says what was given.
use Rattle.std.proofs.Common.{◌≡◌, ◌∙◌, ℕ, ◌+◌, ◌*◌, ◌-◌, ◌^◌, ◌<◌, ◌≤◌, suc, zero, List, [], ◌∷◌, ◌++◌, length, map, take, drop, get_or, Bool, true, false, refl, sym, ap, subst, arith, None}
use Rattle.std.specs.Prelude.{◌&&◌, ◌||◌, IfOk, bytes_eq, codes, nat_le, slice_get}
use Rattle.std.specs.Int.{to_be_bytes, w32, w64}
use Rattle.std.specs.List.{All, AllByRecursion, cons_option, filter_map, flat_map, list_all, list_any}
use Rattle.std.specs.List.Sorted.{IsStrictlySortedBy}
use Rattle.std.specs.Option.{option_map}
use Rattle.std.specs.declared.cmp.Ordering.TheVariants.{Less}
use Rattle.std.specs.declared.result.Result.{Result}
use Rattle.std.specs.declared.result.Result.TheVariants.{Err, Ok}
use Rattle.std.proofs.lemmas.Bool.{false≢true}
use Rattle.std.proofs.lemmas.Bool.Decides.{nat_tests}
use Rattle.std.proofs.lemmas.List.{append_assoc, length-append, length-map, map-append, take_all, take_more}
use Rattle.std.proofs.lemmas.List.Elements.{All-from_recursion, recursion_from_All}
use Rattle.std.proofs.lemmas.Slice.Eq.{bytes_eq-Decides}
use Rattle.path_order.proofs.Fronts.{not_itself}
use Rattle.path_order.specs.Apart.{AreApart}
use Rattle.opam_names.specs.ByteOrders.{byte_order}
use Rattle.opam_names.specs.Names.{IsName}
use Rattle.opam_names.specs.declared.packages.Pkg.{Pkg}
use Rattle.owner_map.specs.Owning.{is_same_pkg, owned_by, paths_of, path_of}
use Rattle.owner_map.specs.declared.owned.OwnedPath.{OwnedPath}
use Rattle.journal_text.specs.Parts.{AreFree, IsEntry, IsPackage, entry_bytes, own_name, pkg_bytes}
use Rattle.journal_text.specs.Slots.{IsOwned, IsSlotInOrder, entry_names, has_owner, is_among, lists_bytes, owned_bytes, slot_body, slot_bytes}
use Rattle.journal_text.specs.Words.{counted, long_text, short_text}
use Rattle.journal_text.specs.declared.record.Entry.{Entry}
use Rattle.journal_text.specs.declared.slot.Owned.{Owned}
use Rattle.journal_text.specs.declared.slot.Snapshot.{Snapshot}
use Rattle.journal_text.specs.declared.slot.TheConstants.{SLOT_LIMIT}
use Rattle.switch_journal.specs.Applying.{is_of, text_total}
use Rattle.switch_journal.specs.Journal.{Head}
use Rattle.switch_journal.specs.Pieced.{ArePathsAdded, IsPieced, IsWithin, entries_in, entry_in, has_given, owned_as, slot_front}
use Rattle.switch_journal.specs.Places.{slot_path}
use Rattle.switch_journal.specs.Reading.{owned_with, standing_of}
use Rattle.switch_journal.specs.SlotPieces.{CanFinish, IsSlotGiven, Pieces, is_owner_given}
use Rattle.switch_journal.specs.Snapshots.{place_for, slot_for}
use Rattle.switch_journal.specs.declared.request.TheConstants.{ENTRY_LIMIT, OWNED_LIMIT, TEXT_LIMIT}
use Rattle.switch_journal.specs.declared.slot_owners.Given.{Given}
use Rattle.switch_journal.specs.declared.slots.ReadySlot.{ReadySlot}
use Rattle.switch_journal.proofs.SlotOwners.{and_left, and_right, each_more, spelled_more}

-- ---- parts of a text that grows

take_front : (len : ℕ) (text more : List ℕ) → len ≤ length text → take len (text ++ more) ≡ take len text
take_front zero text more fits = refl
take_front (suc len) [] more fits = absurd (omega (arith, fits))
take_front (suc len) (x ∷ text) more fits = ap (λ (l : List ℕ). x ∷ l) (take_front len text more (omega (arith, fits)))

part_same : (from len : ℕ) (text more : List ℕ) → from + len ≤ length text → take len (drop from (text ++ more)) ≡ take len (drop from text)
part_same zero len text more fits = take_front len text more (omega (arith, fits))
part_same (suc from) zero text more fits = refl
part_same (suc from) (suc len) [] more fits = absurd (omega (arith, fits))
part_same (suc from) (suc len) (x ∷ text) more fits = part_same from (suc len) text more (omega (arith, fits))

part_there : (front body : List ℕ) (from len : ℕ) → from ≡ length front → len ≡ length body → take len (drop from (front ++ body)) ≡ body
part_there [] body zero len at long = take_all len body (omega (arith, long))
part_there [] body (suc from) len at long = absurd (omega (arith, at))
part_there (x ∷ front) body zero len at long = absurd (omega (arith, at))
part_there (x ∷ front) body (suc from) len at long = part_there front body from len (omega (arith, at)) long

entries_same : (text more : List ℕ) (given : List Given) → AllByRecursion (IsWithin (length text)) given → entries_in (text ++ more) given ≡ entries_in text given
entries_same text more [] within = refl
entries_same text more (g ∷ given) within =
    λ i. (record { pkg = g.pkg; opam = part_same g.from g.len text more within.0 i }) ∷ entries_same text more given within.1 i

-- ---- an entry more

module _ (head : Head) (asked : ℕ) (text piece : List ℕ) (given : List Given) (pkg : Pkg) (opam : List ℕ) (from len : ℕ) (so_far : IsPieced head asked text given) (spells : piece ≡ pkg_bytes pkg ++ long_text opam) (valid : IsPackage pkg) (at : from ≡ length text + (length piece - length opam)) (long : len ≡ length opam) where
  abbrev one : Given
  one = record { pkg = pkg; from = from; len = len }

  abbrev entry : Entry
  entry = record { pkg = pkg; opam = opam }

  abbrev before : List ℕ
  before = (text ++ pkg_bytes pkg) ++ to_be_bytes w32 (length opam)

  whole : text ++ piece ≡ before ++ opam
  whole =
      ap (λ (l : List ℕ). text ++ l) spells
      ∙ sym (append_assoc text (pkg_bytes pkg) (long_text opam))
      ∙ sym (append_assoc (text ++ pkg_bytes pkg) (to_be_bytes w32 (length opam)) opam)

  from_is : from ≡ length before
  from_is =
      let a = length-append text (pkg_bytes pkg) in
      let b = length-append (text ++ pkg_bytes pkg) (to_be_bytes w32 (length opam)) in
      let c = ap length spells in
      let d = length-append (pkg_bytes pkg) (long_text opam) in
      let e = length-append (to_be_bytes w32 (length opam)) opam in
      omega (arith, at, a, b, c, d, e)

  here : entry_in (text ++ piece) one ≡ entry
  here = λ i. record { pkg = pkg; opam = (ap (λ (l : List ℕ). take len (drop from l)) whole ∙ part_there before opam from len from_is long) i }

  pub pieced_entries : entries_in (text ++ piece) (given ++ one ∷ []) ≡ entries_in text given ++ entry ∷ []
  pieced_entries = map-append (entry_in (text ++ piece)) given (one ∷ []) ∙ (λ i. entries_same text piece given so_far.within i ++ here i ∷ [])

  pub pieced_more : IsPieced head asked (text ++ piece) (given ++ one ∷ [])
  pieced_more = record {
    numbered = so_far.numbered;
    spelled =
        ap (λ (l : List ℕ). l ++ piece) so_far.spelled
        ∙ ap (λ (l : List ℕ). (slot_front head asked ++ flat_map entry_bytes (entries_in text given)) ++ l) (spells ∙ entry_spelled)
        ∙ spelled_more entry_bytes (slot_front head asked) (entries_in text given) entry
        ∙ ap (λ (es : List Entry). slot_front head asked ++ flat_map entry_bytes es) (sym pieced_entries);
    within = each_more (IsWithin (length (text ++ piece))) given one (wider given so_far.within) one_within;
    valid = subst (AllByRecursion IsEntry) (sym pieced_entries) (each_more IsEntry (entries_in text given) entry so_far.valid valid);
  }
    where
      entry_spelled : pkg_bytes pkg ++ long_text opam ≡ entry_bytes entry
      entry_spelled = refl

      one_within : from + len ≤ length (text ++ piece)
      one_within =
          let a = ap length whole in
          let b = length-append before opam in
          let c = from_is in
          omega (arith, a, b, c, long)

      wider : (gs : List Given) → AllByRecursion (IsWithin (length text)) gs → AllByRecursion (IsWithin (length (text ++ piece))) gs
      wider [] within = tt
      wider (g ∷ gs) within = (let size = length-append text piece in let fits = within.0 in omega (arith, size, fits), wider gs within.1)

pub pieced_first : (head : Head) (asked : ℕ) (text : List ℕ) → head.next ≤ 2 ^ 63 → text ≡ slot_front head asked → IsPieced head asked text []
pieced_first head asked text few is = record { numbered = few; spelled = is ∙ sym (append_nil (slot_front head asked)); within = tt; valid = tt }
  where
    append_nil : (l : List ℕ) → l ++ [] ≡ l
    append_nil [] = refl
    append_nil (x ∷ l) = ap (λ (m : List ℕ). x ∷ m) (append_nil l)

-- the same of what the code has
module _ (head : Head) (asked : ℕ) (text : List ℕ) (given : List Given) (pkg : Pkg) (opam : List ℕ) (so_far : IsPieced head asked text given) (valid : IsPackage pkg) (piece : List ℕ) (spells : piece ≡ pkg_bytes pkg ++ long_text opam) (copy : Pkg) (same : copy ≡ pkg) (from : ℕ) (at : from ≡ length text + (length piece - length opam)) (text_now : List ℕ) (is_text : text_now ≡ text ++ piece) (given_room given_now : List Given) (is_room : given_room ≡ given) (is_given : given_now ≡ given_room ++ record { pkg = copy; from = from; len = length opam } ∷ []) where
  given_is : given_now ≡ given ++ record { pkg = pkg; from = from; len = length opam } ∷ []
  given_is = is_given ∙ (λ i. is_room i ++ record { pkg = same i; from = from; len = length opam } ∷ [])

  pub entries_now : entries_in text_now given_now ≡ entries_in text given ++ record { pkg = pkg; opam = opam } ∷ []
  entries_now = (λ i. entries_in (is_text i) (given_is i)) ∙ pieced_entries head asked text piece given pkg opam from (length opam) so_far spells valid at refl

  pub pieced_now : IsPieced head asked text_now given_now
  pieced_now =
      subst (λ (t : List ℕ). IsPieced head asked t given_now) (sym is_text)
      (subst (IsPieced head asked (text ++ piece)) (sym given_is) (pieced_more head asked text piece given pkg opam from (length opam) so_far spells valid at refl))

-- ---- the roots

pub names_step : (names : List (List ℕ)) (i : ℕ) (name before now next : List ℕ) → i < length names → name ≡ get_or names i name → now ≡ before ++ flat_map short_text (take i names) → next ≡ now ++ short_text name → next ≡ before ++ flat_map short_text (take (i + 1) names)
names_step names i name before now next within is so_far new =
    let more : take (i + 1) names ≡ take i names ++ name ∷ [] = take_more names i name within ∙ (λ j. take i names ++ sym is j ∷ []) in
    new ∙ ap (λ (l : List ℕ). l ++ short_text name) so_far ∙ spelled_more short_text before (take i names) name ∙ ap (λ (ns : List (List ℕ)). before ++ flat_map short_text ns) (sym more)

pub names_valid : (names : List (List ℕ)) (i : ℕ) (name : List ℕ) → i < length names → name ≡ get_or names i name → All IsName (take i names) → IsName name → All IsName (take (i + 1) names)
names_valid names i name within is so_far valid =
    let more : take (i + 1) names ≡ take i names ++ name ∷ [] = take_more names i name within ∙ (λ j. take i names ++ sym is j ∷ []) in
    All-from_recursion IsName (take (i + 1) names) (subst (AllByRecursion IsName) (sym more) (each_more IsName (take i names) name (recursion_from_All IsName (take i names) so_far) valid))

-- ---- no more roots than entries

same_bytes : (a b : List ℕ) → bytes_eq a b ≡ true → a ≡ b
same_bytes a b is = (bytes_eq-Decides a b).0 is

is_false : (b : Bool) → (b ≡ true → ⊥) → b ≡ false
is_false true no_way = absurd (no_way refl)
is_false false no_way = refl

both_true : (a b : Bool) → a ≡ true → b ≡ true → (a && b) ≡ true
both_true a b one other = rw (one, other) refl

-- the names without the first that is this one
abbrev taken_by : Bool → List ℕ → List (List ℕ) → List (List ℕ) → List (List ℕ)
taken_by true x xs rest = xs
taken_by false x xs rest = x ∷ rest

abbrev taken : List ℕ → List (List ℕ) → List (List ℕ)
taken name [] = []
taken name (x ∷ xs) = taken_by (bytes_eq x name) x xs (taken name xs)

taken_len : (name : List ℕ) (xs : List (List ℕ)) → is_among xs name ≡ true → length (taken name xs) + 1 ≡ length xs
taken_len name [] is = absurd (false≢true is)
taken_len name (x ∷ xs) is = by (bytes_eq x name) is (taken_len name xs)
  where
    by : (b : Bool) → (b || is_among xs name) ≡ true → (is_among xs name ≡ true → length (taken name xs) + 1 ≡ length xs) → length (taken_by b x xs (taken name xs)) + 1 ≡ length (x ∷ xs)
    by true is later = omega arith
    by false is later = let rest = later is in omega (arith, rest)

taken_other : (name other : List ℕ) (xs : List (List ℕ)) → bytes_eq name other ≡ false → is_among xs other ≡ true → is_among (taken name xs) other ≡ true
taken_other name other [] apart is = is
taken_other name other (x ∷ xs) apart is = by (bytes_eq x name) refl is (taken_other name other xs apart)
  where
    none : bytes_eq x name ≡ true → bytes_eq x other ≡ false
    none same = ap (λ (y : List ℕ). bytes_eq y other) (same_bytes x name same) ∙ apart

    more : (c : Bool) → (c || is_among xs other) ≡ true → (is_among xs other ≡ true → is_among (taken name xs) other ≡ true) → (c || is_among (taken name xs) other) ≡ true
    more true is later = refl
    more false is later = later is

    by : (b : Bool) → bytes_eq x name ≡ b → (bytes_eq x other || is_among xs other) ≡ true → (is_among xs other ≡ true → is_among (taken name xs) other ≡ true) → is_among (taken_by b x xs (taken name xs)) other ≡ true
    by true same is later = sym (ap (λ c. c || is_among xs other) (none same)) ∙ is
    by false same is later = more (bytes_eq x other) is later

all_taken : (name : List ℕ) (roots xs : List (List ℕ)) → AllByRecursion (λ q. byte_order name q ≡ Less) (map own_name roots) → list_all (is_among xs) roots ≡ true → list_all (is_among (taken name xs)) roots ≡ true
all_taken name [] xs less all = refl
all_taken name (root ∷ roots) xs less all =
    both_true (is_among (taken name xs) root) (list_all (is_among (taken name xs)) roots)
    (taken_other name root xs (is_false (bytes_eq name root) (λ same. not_itself name (ap (byte_order name) (same_bytes name root same) ∙ less.0))) (and_left (is_among xs root) (list_all (is_among xs) roots) all))
    (all_taken name roots xs less.1 (and_right (is_among xs root) (list_all (is_among xs) roots) all))

roots_fit : (roots xs : List (List ℕ)) → IsStrictlySortedBy byte_order (map own_name roots) → list_all (is_among xs) roots ≡ true → length roots ≤ length xs
unfolding IsStrictlySortedBy
roots_fit [] xs rise all = omega arith
roots_fit (root ∷ roots) xs rise all =
    let here = and_left (is_among xs root) (list_all (is_among xs) roots) all in
    let rest = roots_fit roots (taken root xs) rise.1 (all_taken root roots xs rise.0 (and_right (is_among xs root) (list_all (is_among xs) roots) all)) in
    let len = taken_len root xs here in
    omega (arith, rest, len)

-- ---- how long it is

entries_len : (entries : List Entry) → AllByRecursion IsEntry entries → length (flat_map entry_bytes entries) ≤ 248 * length entries + text_total entries
entries_len [] valid = omega arith
entries_len (e ∷ entries) valid =
    let rest = entries_len entries valid.1 in
    let name = valid.0.name.short in
    let version = valid.0.version.short in
    let a = length-append (pkg_bytes e.pkg) (long_text e.opam) in
    let b = length-append (short_text e.pkg.name) (short_text e.pkg.version) in
    let c = length-append (entry_bytes e) (flat_map entry_bytes entries) in
    omega (arith, c, a, b, rest, name, version)

names_len : (names : List (List ℕ)) → AllByRecursion IsName names → length (flat_map short_text names) ≤ 122 * length names
names_len [] valid = omega arith
names_len (n ∷ names) valid =
    let rest = names_len names valid.1 in
    let short = valid.0.short in
    let c = length-append (short_text n) (flat_map short_text names) in
    omega (arith, c, rest, short)

paths_len : (placed : List Owned) → AllByRecursion IsOwned placed → length (flat_map owned_bytes placed) ≤ 1030 * length placed
paths_len [] valid = omega arith
paths_len (o ∷ placed) valid =
    let rest = paths_len placed valid.1 in
    let short = valid.0.1.short in
    let a = length-append (short_text o.path) (to_be_bytes w32 o.owner) in
    let c = length-append (owned_bytes o) (flat_map owned_bytes placed) in
    omega (arith, c, a, rest, short)

-- ---- the slot that was given

-- the owner was given
given_is_entry : (text : List ℕ) (given : List Given) (pkg : Pkg) → list_any (is_of pkg) (entries_in text given) ≡ has_given given pkg
given_is_entry text [] pkg = refl
given_is_entry text (g ∷ given) pkg = ap (λ b. is_same_pkg g.pkg pkg || b) (given_is_entry text given pkg)

owners_given : (text : List ℕ) (given : List Given) (owned : List OwnedPath) → list_all (is_owner_given (entries_in text given)) owned ≡ list_all (λ (o : OwnedPath). has_given given o.owner) owned
owners_given text given [] = refl
owners_given text given (o ∷ owned) = λ i. given_is_entry text given o.owner i && owners_given text given owned i

-- a place has the same owner among entries
told_with : (text : List ℕ) (given : List Given) (placed : Owned) → owned_with (entries_in text given) placed ≡ owned_as given placed
told_with text given placed = at given placed.owner
  where
    at : (gs : List Given) (place : ℕ) → option_map (λ (e : Entry). owned_by placed.path e.pkg) (slice_get (entries_in text gs) place) ≡ option_map (λ (g : Given). owned_by placed.path g.pkg) (slice_get gs place)
    at [] place = refl
    at (g ∷ gs) zero = refl
    at (g ∷ gs) (suc place) = at gs place

all_told : (text : List ℕ) (given : List Given) (placed : List Owned) → filter_map (owned_with (entries_in text given)) placed ≡ filter_map (owned_as given) placed
all_told text given [] = refl
all_told text given (o ∷ placed) = λ i. cons_option (told_with text given o i) (all_told text given placed i)

regrouped : (c n a e r k p : List ℕ) → ((((c ++ (n ++ a)) ++ e) ++ r) ++ k) ++ p ≡ c ++ (n ++ ((a ++ e) ++ (r ++ (k ++ p))))
regrouped c n a e r k p =
    append_assoc (((c ++ (n ++ a)) ++ e) ++ r) k p
    ∙ append_assoc ((c ++ (n ++ a)) ++ e) r (k ++ p)
    ∙ append_assoc (c ++ (n ++ a)) e (r ++ (k ++ p))
    ∙ append_assoc c (n ++ a) (e ++ (r ++ (k ++ p)))
    ∙ ap (λ (l : List ℕ). c ++ l) (append_assoc n a (e ++ (r ++ (k ++ p))))
    ∙ ap (λ (l : List ℕ). c ++ (n ++ l)) (sym (append_assoc a e (r ++ (k ++ p))))

counted_len : {X : Type 0} (spell : X → List ℕ) (xs : List X) → length (counted spell xs) ≡ 4 + length (flat_map spell xs)
counted_len spell xs = length-append {A = ℕ} (to_be_bytes w32 (length xs)) (flat_map spell xs)

module _ (pieces : Pieces) (owned : List OwnedPath) (can : CanFinish pieces owned) where
  few_entries : length pieces.entries ≤ ENTRY_LIMIT
  few_entries = let few = and_left (nat_le (length pieces.entries) ENTRY_LIMIT) (nat_le (text_total pieces.entries) TEXT_LIMIT) can.few in grind (arith, nat_tests)

  few_bytes : text_total pieces.entries ≤ TEXT_LIMIT
  few_bytes = let few = and_right (nat_le (length pieces.entries) ENTRY_LIMIT) (nat_le (text_total pieces.entries) TEXT_LIMIT) can.few in grind (arith, nat_tests)

  few_owned : length owned ≤ OWNED_LIMIT
  few_owned = let few = can.few_paths in grind (arith, nat_tests)

  few_roots : length pieces.roots ≤ length pieces.entries
  few_roots =
      let fit = roots_fit pieces.roots (entry_names pieces.entries) can.names.roots_rise can.names.roots_are_among in
      let count = length-map pieces.entries (λ (e : Entry). e.pkg.name) in
      omega (arith, fit, count)

  pub roots_count : length pieces.roots < 2 ^ 32
  roots_count = let one = few_roots in let other = few_entries in omega (arith, one, other)

  pub paths_count : length owned < 2 ^ 32
  paths_count = let few = few_owned in omega (arith, few)

module _ (head : Head) (asked : ℕ) (text : List ℕ) (given : List Given) (roots : List (List ℕ)) (owned : List OwnedPath) (so_far : IsPieced head asked text given) where
  abbrev pieces : Pieces
  pieces = record { head = head; asked = asked; entries = entries_in text given; roots = roots }

  pub few_given : CanFinish pieces owned → length given < 2 ^ 32
  few_given can = let few = few_entries pieces owned can in let count = length-map given (entry_in text) in omega (arith, few, count)

  pub all_given : CanFinish pieces owned → list_all (λ (o : OwnedPath). has_given given o.owner) owned ≡ true
  all_given can = sym (owners_given text given owned) ∙ can.owners

  module _ (can : CanFinish pieces owned) (valid : All IsName roots) (apart : AreApart (paths_of owned)) (out : List ℕ) (added : ArePathsAdded given owned ((text ++ counted short_text roots) ++ to_be_bytes w32 (length owned)) out) where
    abbrev snapshot : Snapshot
    snapshot = record { number = head.next - 1; entries = pieces.entries; roots = roots; owned = added.placed }

    count_is : length owned ≡ length added.placed
    count_is = sym (length-map owned path_of) ∙ ap length (sym added.are.paths) ∙ length-map added.placed (λ (o : Owned). o.path)

    bytes : out ≡ slot_bytes snapshot
    bytes =
        added.text
        ∙ (λ i. (((so_far.spelled i ++ counted short_text roots) ++ to_be_bytes w32 (count_is i)) ++ flat_map owned_bytes added.placed))
        ∙ regrouped (codes "OPAMSNP2") (to_be_bytes w64 (head.next - 1)) (to_be_bytes w32 asked) (flat_map entry_bytes pieces.entries) (counted short_text roots) (to_be_bytes w32 (length added.placed)) (flat_map owned_bytes added.placed)
        ∙ (λ i. codes "OPAMSNP2" ++ (to_be_bytes w64 (head.next - 1) ++ ((to_be_bytes w32 (sym can.given i) ++ flat_map entry_bytes pieces.entries) ++ (counted short_text roots ++ counted owned_bytes added.placed))))

    short : length out ≤ SLOT_LIMIT
    short =
        let same = ap length bytes in
        let e = counted_len entry_bytes pieces.entries in
        let r = counted_len short_text roots in
        let o = counted_len owned_bytes added.placed in
        let ro = length-append {A = ℕ} (counted short_text roots) (counted owned_bytes added.placed) in
        let ero = length-append {A = ℕ} (counted entry_bytes pieces.entries) (counted short_text roots ++ counted owned_bytes added.placed) in
        let body = length-append {A = ℕ} (to_be_bytes w64 (head.next - 1)) (lists_bytes pieces.entries roots added.placed) in
        let whole = length-append {A = ℕ} (codes "OPAMSNP2") (slot_body snapshot) in
        let short_e = entries_len pieces.entries so_far.valid in
        let short_r = names_len roots (recursion_from_All IsName roots valid) in
        let short_o = paths_len added.placed added.are.valid in
        let one = few_entries pieces owned can in
        let two = few_bytes pieces owned can in
        let three = few_owned pieces owned can in
        let four = few_roots pieces owned can in
        let count = count_is in
        omega (arith, same, e, r, o, ro, ero, body, whole, short_e, short_r, short_o, one, two, three, four, count)

    ordered : IsSlotInOrder snapshot
    ordered = record {
      names_in_order = can.names;
      paths_free = subst AreFree (sym added.are.paths) (record { apart = apart; free = can.free });
      owners_are_among = ap (λ (n : ℕ). list_all (has_owner n) added.placed) (length-map given (entry_in text)) ∙ added.are.owners;
    }

    fits : head.next - 1 < 2 ^ 64
    fits = let few = so_far.numbered in omega (arith, few)

    pub slot_given : (ready : ReadySlot) → ready ≡ slot_for head out → IsSlotGiven pieces owned ready
    slot_given ready is = record {
      snapshot = snapshot;
      made = record {
        text = out;
        spelled = record {
          valid = record {
            number_fits = fits;
            lists_are = record {
              entries_are = All-from_recursion IsEntry pieces.entries so_far.valid;
              roots_are = valid;
              paths_are = All-from_recursion IsOwned added.placed added.are.valid;
            };
          };
          ordered = ordered;
          short = short;
          bytes_are = bytes;
        };
        number = refl;
        parts = is;
      };
      says = λ i. record { standing = map (standing_of (slot_path (place_for head))) pieces.entries; owned = (all_told text given added.placed ∙ added.are.told) i; roots = roots; request = None };
    }

pub if_given : {T E : Type 0} {P Q : T → Type 0} (result : Result T E) → IfOk result P → ((x : T) → P x → Q x) → IfOk result Q
if_given (Ok x) is more = more x is
if_given (Err e) is more = tt
