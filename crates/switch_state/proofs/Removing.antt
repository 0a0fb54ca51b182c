-- A removal that keeps files follows where one that keeps nothing does, and is prepared so.
use Rattle.std.proofs.Common.{◌≡◌, ◌∙◌, ℕ, ◌+◌, ◌<◌, ◌≤◌, List, [], ◌∷◌, ◌++◌, length, map, Bool, true, false, not, refl, sym, ap, subst, arith, Option, Some, None}
use Rattle.std.specs.Prelude.{◌&&◌, ◌||◌, bytes_eq, if◌then◌else◌, nat_le, IfSome, IsSome, codes, is_some, IsTrue}
use Rattle.std.specs.Option.{option_map}
use Rattle.std.specs.List.{find, flat_map, list_all, list_any}
use Rattle.std.proofs.lemmas.List.{length-append}
use Rattle.opam_names.specs.Names.{IsName, IsVersion}
use Rattle.opam_names.specs.declared.packages.Pkg.{Pkg}
use Rattle.opam_package.specs.declared.package.Member.{Member}
use Rattle.owner_map.specs.Owning as owning
use Rattle.owner_map.specs.declared.owned.OwnedPath.{OwnedPath}
use Rattle.std.specs.Int.{to_be_bytes, w16, w32}
use Rattle.journal_text.specs.Parts.{AreFree, contents_bytes, paths_of, pkg_bytes, placed_bytes, removal_bytes}
use Rattle.journal_text.specs.Words.{counted, flag, long_text, short_text}
use Rattle.journal_text.specs.Records.{IsInOrder, record_bytes}
use Rattle.journal_text.specs.declared.record.KeptFiles.{KeptFiles}
use Rattle.journal_text.specs.declared.record.Placed.{Placed}
use Rattle.journal_text.specs.declared.record.Rec.TheVariants.{Remove}
use Rattle.journal_text.specs.declared.record.TheConstants.{RECORD_LIMIT}
use Rattle.switch_journal.specs.Applying.{are_few, are_few_paths, are_kept_right, entries_of, has_pkg, is_entry_with, is_next, next_removal, removed, with_done, without_package}
use Rattle.switch_journal.specs.Contents.{Contents}
use Rattle.switch_journal.specs.Journal.{Head, removal_of, work_with}
use Rattle.switch_journal.specs.Steps.{IsReady}
use Rattle.switch_journal.specs.declared.request.Done.TheVariants as done
use Rattle.switch_state.specs.Actions.{CanFollow, Removes, record_of, work_in}
use Rattle.switch_state.specs.Gathering.{IsKeepable, IsPart}
use Rattle.switch_state.specs.Prepares.{CanTake, IsAsBefore, IsPrepared}
use Rattle.switch_state.specs.State.{Now, Request, SwitchState, contents_in, member_entry, open_of}
use Rattle.switch_state.specs.WellFormed.{IsWellFormed}
use Rattle.switch_state.specs.declared.prepared.Change.{Change}
use Rattle.switch_state.specs.declared.prepared.Change.TheVariants.{Goes}
use Rattle.switch_state.specs.declared.prepared.Prepared.{Prepared}
use Rattle.switch_state.proofs.Acting.{entries_said}
use Rattle.switch_state.proofs.Alike.{both_hold, only}
use Rattle.switch_state.proofs.Parts.{free_part, owned_free, part_owned}
use Rattle.switch_state.proofs.SoundKept.{and_left, and_right, both_true, bytes_self}
use Rattle.switch_state.specs.Keeps.{is_member_of, kept_if_short}
use Rattle.std.proofs.lemmas.Bool.Decides.{nat_tests}

-- ---- how long it is

short_len : (text : List ℕ) → length (short_text text) ≡ 2 + length text
short_len text = length-append {A = ℕ} (to_be_bytes w16 (length text)) text

long_len : (text : List ℕ) → length (long_text text) ≡ 4 + length text
long_len text = length-append {A = ℕ} (to_be_bytes w32 (length text)) text

pkg_len : (pkg : Pkg) → length (pkg_bytes pkg) ≡ 4 + length pkg.name + length pkg.version
pkg_len pkg = let n = short_len pkg.name in let v = short_len pkg.version in let all = length-append {A = ℕ} (short_text pkg.name) (short_text pkg.version) in omega (arith, n, v, all)

placed_len : (file : Placed) → length (placed_bytes file) ≡ 7 + length file.path + length file.bytes
placed_len file =
    let p = short_len file.path in
    let b = long_len file.bytes in
    let pb = length-append {A = ℕ} (short_text file.path) (long_text file.bytes) in
    let all = length-append {A = ℕ} (flag file.exec) (short_text file.path ++ long_text file.bytes) in
    let f = flag_len file.exec in
    omega (arith, p, b, pb, all, f)
  where
    flag_len : (b : Bool) → length (flag b) ≡ 1
    flag_len true = refl
    flag_len false = refl

kept_len : (opam : List ℕ) (files : List Placed) → length (contents_bytes opam files) ≡ 8 + length opam + length (flat_map placed_bytes files)
kept_len opam files =
    let o = long_len opam in
    let f = length-append {A = ℕ} (to_be_bytes w32 (length files)) (flat_map placed_bytes files) in
    let all = length-append {A = ℕ} (long_text opam) (counted placed_bytes files) in
    omega (arith, o, f, all)

-- a removal with what it keeps
pub removal_len : (pkg : Pkg) (opam : List ℕ) (files : List Placed) → length (record_bytes (Remove pkg (Some (record { opam = opam; files = files })))) ≡ 22 + length pkg.name + length pkg.version + length opam + length (flat_map placed_bytes files)
removal_len pkg opam files =
    let p = pkg_len pkg in
    let k = kept_len opam files in
    let all = length-append {A = ℕ} (pkg_bytes pkg) (1 ∷ contents_bytes opam files) in
    let whole = length-append {A = ℕ} (codes "OPAMREC2") (2 ∷ removal_bytes pkg (Some (record { opam = opam; files = files }))) in
    omega (arith, p, k, all, whole)

-- a removal alone
pub bare_len : (pkg : Pkg) → length (record_bytes (Remove pkg None)) ≡ 14 + length pkg.name + length pkg.version
bare_len pkg =
    let p = pkg_len pkg in
    let all = length-append {A = ℕ} (pkg_bytes pkg) (0 ∷ []) in
    let whole = length-append {A = ℕ} (codes "OPAMREC2") (2 ∷ removal_bytes pkg None) in
    omega (arith, p, all, whole)

-- ---- that it follows

no_contents : (after : Contents) {P : Type 0} → None ≡ Some after → P
no_contents after is = absurd (cc)

-- it can be applied, and a request is open
record Follows (number : ℕ) (pkg : Pkg) (kept : Option KeptFiles) (c : Contents) (request : Option Request) : Type 0 where
  next : Contents
  is : removed number pkg kept c (option_map open_of request) ≡ Some next
  asked : IsSome request

goes_by : (number : ℕ) (pkg : Pkg) (kept : Option KeptFiles) (c : Contents) (request : Option Request) (after : Contents) → removed number pkg None c (option_map open_of request) ≡ Some after → are_kept_right pkg kept c ≡ true → Follows number pkg kept c request
goes_by number pkg kept c None after is right = no_contents after is
goes_by number pkg kept c (Some request) after is right =
    let r = open_of request in
    let front = is_next pkg (next_removal r) && has_pkg c pkg in
    let it = only (front && true) (with_done (done.Removed pkg number false) r (without_package pkg c)) after is in
    let next = with_done (done.Removed pkg number (is_some kept)) r (without_package pkg c) in
    record {
      next = next;
      is = both_hold (front && are_kept_right pkg kept c) (are_few (entries_of next) && are_few_paths next.owned) next (both_true front (are_kept_right pkg kept c) (and_left front true it.can_be) right) it.few;
      asked = refl;
    }

-- what is kept is right
kept_right : (state : SwitchState) (pkg : Pkg) (kept : Option KeptFiles) → IsWellFormed state → IfSome kept (IsKeepable state.members pkg (owning.paths_owned_by pkg state.owned)) → are_kept_right pkg kept (contents_in state) ≡ true
kept_right state pkg None formed keep = refl
kept_right state pkg (Some kept) formed keep =
    both_true (list_any (is_entry_with pkg kept.opam) (entries_of (contents_in state))) _
    (ap (list_any (is_entry_with pkg kept.opam)) (entries_said state) ∙ keep.opam)
    (part_owned pkg state.owned (paths_of kept.files) formed.paths.apart.rise keep.part)

-- ---- that it can be spelled

pub removal_ordered : (state : SwitchState) (pkg : Pkg) (kept : Option KeptFiles) (takes : List (List ℕ)) → IsWellFormed state → takes ≡ owning.paths_owned_by pkg state.owned → IfSome kept (IsKeepable state.members pkg takes) → IsInOrder (Remove pkg kept)
removal_ordered state pkg None takes formed same keep = tt
removal_ordered state pkg (Some kept) takes formed same keep =
    free_part keep.part (subst AreFree (sym same) (owned_free pkg state.owned formed.paths))

pub removal_short : (members : List Member) (pkg : Pkg) (kept : Option KeptFiles) (takes : List (List ℕ)) → length (record_bytes (Remove pkg None)) ≤ RECORD_LIMIT → IfSome kept (IsKeepable members pkg takes) → length (record_bytes (Remove pkg kept)) ≤ RECORD_LIMIT
removal_short members pkg None takes bare keep = bare
removal_short members pkg (Some kept) takes bare keep = keep.short

-- ---- that it is prepared

pub removal_prepared : {before now : Now} (pkg : Pkg) (kept : Option KeptFiles) (takes : List (List ℕ)) (prepared : Prepared) → IsAsBefore before now → CanFollow before.head.next (Removes pkg None) before.state → IsWellFormed before.state
    → takes ≡ owning.paths_owned_by pkg now.state.owned → IfSome kept (IsKeepable now.state.members pkg takes) → (IsSome now.state.request → 0 < now.room.done)
    → prepared.change ≡ Goes pkg (done.Removed pkg now.head.next (is_some kept)) → IsReady now.head.next (Remove pkg kept) (work_with (Remove pkg kept) takes) prepared.ready → IsPrepared (Removes pkg kept) now prepared
removal_prepared {before} {now} pkg kept takes prepared same follows formed takes_are keep room change ready =
    let right = kept_right now.state pkg kept (subst IsWellFormed (sym same.state) formed) (subst (λ (ps : List (List ℕ)). IfSome kept (IsKeepable now.state.members pkg ps)) takes_are keep) in
    let there = subst (λ (s : SwitchState). CanFollow now.head.next (Removes pkg None) s) (sym same.state) (subst (λ (h : Head). CanFollow h.next (Removes pkg None) before.state) (sym same.head) follows) in
    let it = goes_by now.head.next pkg kept (contents_in now.state) now.state.request there.0 there.1 right in
    record {
      follows = (it.next, it.is);
      change = change;
      takes = subst (λ (ch : Change). CanTake ch now) (sym change) (record { fits = tt; done_room = room it.asked });
      ready = subst (λ (ps : List (List ℕ)). IsReady now.head.next (Remove pkg kept) (map removal_of ps) prepared.ready) takes_are ready;
    }

-- ---- what is kept

opam_there : (pkg : Pkg) (members : List Member) (member : Member) → find (is_member_of pkg) members ≡ Some member → list_any (is_entry_with pkg member.opam) (map member_entry members) ≡ true
opam_there pkg [] member is = absurd (cc)
opam_there pkg (m ∷ members) member is = by (is_member_of pkg m) refl is (opam_there pkg members member)
  where
    here : is_member_of pkg m ≡ true → m ≡ member → is_entry_with pkg member.opam (member_entry m) ≡ true
    here same at = both_true (is_member_of pkg m) (bytes_eq m.opam member.opam) same (ap (λ (k : Member). bytes_eq m.opam k.opam) (sym at) ∙ bytes_self m.opam)

    by : (b : Bool) → is_member_of pkg m ≡ b → (if b then Some m else find (is_member_of pkg) members) ≡ Some member → (find (is_member_of pkg) members ≡ Some member → list_any (is_entry_with pkg member.opam) (map member_entry members) ≡ true) → (is_entry_with pkg member.opam (member_entry m) || list_any (is_entry_with pkg member.opam) (map member_entry members)) ≡ true
    by true same is later = ap (λ b. b || list_any (is_entry_with pkg member.opam) (map member_entry members)) (here same (let e = is in cc))
    by false other is later = or_true (is_entry_with pkg member.opam (member_entry m)) (list_any (is_entry_with pkg member.opam) (map member_entry members)) (later is)
      where
        or_true : (a b : Bool) → b ≡ true → (a || b) ≡ true
        or_true true b is = refl
        or_true false b is = is

pub keep_part : (members : List Member) (pkg : Pkg) (paths : List (List ℕ)) (member : Member) (files : List Placed) (kept : Option KeptFiles) → find (is_member_of pkg) members ≡ Some member → IsPart (paths_of files) paths
    → kept ≡ kept_if_short pkg (record { opam = member.opam; files = files }) → IfSome kept (IsKeepable members pkg paths)
keep_part members pkg paths member files kept found part is = subst (λ (k : Option KeptFiles). IfSome k (IsKeepable members pkg paths)) (sym is) (by (nat_le (length (record_bytes (Remove pkg (Some (record { opam = member.opam; files = files }))))) RECORD_LIMIT) refl)
  where
    short : nat_le (length (record_bytes (Remove pkg (Some (record { opam = member.opam; files = files }))))) RECORD_LIMIT ≡ true → length (record_bytes (Remove pkg (Some (record { opam = member.opam; files = files })))) ≤ RECORD_LIMIT
    short is = grind (arith, nat_tests)

    by : (b : Bool) → nat_le (length (record_bytes (Remove pkg (Some (record { opam = member.opam; files = files }))))) RECORD_LIMIT ≡ b → IfSome (if b then Some (record { opam = member.opam; files = files }) else None) (IsKeepable members pkg paths)
    by true is = record { opam = opam_there pkg members member found; part = part; short = short is }
    by false is = tt
