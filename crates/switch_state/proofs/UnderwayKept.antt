-- An open request removes first, and so its next removal is needed by no other entry.
use Rattle.std.proofs.Common.{◌≡◌, ◌∙◌, ℕ, List, [], ◌∷◌, ◌++◌, inl, inr, map, filter, drop, length, reverse, Bool, true, false, not, cond, refl, sym, ap, subst, Option, Some, None, append_assoc}
use Rattle.std.specs.Prelude.{◌&&◌, ◌||◌, ◌⊎◌, IfSome, IsFalse, IsTrue, bytes_eq, is_some}
use Rattle.std.specs.List.{AllByRecursion, IsDistinct, list_all, list_any}
use Rattle.std.specs.Option.{option_map}
use Rattle.std.proofs.lemmas.Bool.{false≢true}
use Rattle.std.proofs.lemmas.List.{append-nil, reverse-append}
use Rattle.std.proofs.lemmas.List.Elements.{filter-append}
use Rattle.std.proofs.lemmas.List.Folds.{list_any-append}
use Rattle.std.proofs.lemmas.Slice.Eq.{bytes_eq-Decides}
use Rattle.opam_names.specs.declared.packages.Pkg.{Pkg}
use Rattle.opam_package.specs.Dependencies.{is_edge, is_run_with, meets_one}
use Rattle.opam_package.specs.declared.package.Member.{Member}
use Rattle.owner_map.specs.Owning.{is_same_pkg}
use Rattle.journal_text.specs.declared.record.KeptFiles.{KeptFiles}
use Rattle.journal_text.specs.declared.record.Placed.{Placed}
use Rattle.switch_journal.specs.Applying.{are_removed, installed, is_kept_removal, is_next, next_removal, put_back, removed}
use Rattle.switch_journal.specs.Contents.{Contents}
use Rattle.switch_journal.specs.Places.{record_path}
use Rattle.switch_journal.specs.declared.request.Done.{Done}
use Rattle.switch_journal.specs.declared.request.Done.TheVariants as done
use Rattle.switch_state.specs.Actions.{Action, CanFollow, Installs, PutsBack, Removes, and_noted, is_other_member, noted, state_after, without_pkg}
use Rattle.switch_state.specs.Begins.{Asking, state_begun}
use Rattle.switch_state.specs.Sound.{EdgesPointBefore, LeaveInReverse, NamesDiffer, RequestIsSound, coming, has_edge, installs_of, is_apart, is_removal_done, member_pkg, member_pkgs, name_of, removals_left, stays}
use Rattle.switch_state.specs.SoundLaws.{IsUnneeded}
use Rattle.switch_state.specs.State.{Request, SwitchState, contents_in, open_of}
use Rattle.switch_state.specs.Underway.{IsUnderway, OnlyRemoves, RemovesFirst, is_absent, removed_of}
use Rattle.switch_state.proofs.Asked.{asked_after, back_asks, install_asks, removal_asks}
use Rattle.switch_state.proofs.RequestKept.{all_last, all_more, left_is, none_left, none_of, opposite, same_pkg}
use Rattle.switch_state.proofs.SoundKept.{and_left, and_right, any_at, bytes_back, is_false, or_left, or_right, pkg_self}
use Rattle.switch_state.proofs.SoundLeft.{any_left}

-- ---- it is kept

removed_more : (dones more : List Done) → removed_of (dones ++ more) ≡ removed_of dones ++ removed_of more
removed_more [] more = refl
removed_more (done.Removed pkg number kept ∷ dones) more = ap (λ (ps : List Pkg). pkg ∷ ps) (removed_more dones more)
removed_more (done.Installed pkg ∷ dones) more = removed_more dones more
removed_more (done.PutBack pkg ∷ dones) more = removed_more dones more

-- whatever else is done once all are removed
stays_underway : (state after : SwitchState) (request : Request) (what : Done) → is_removal_done what ≡ false → removed_of (what ∷ []) ≡ [] → are_removed (open_of request) ≡ true → IsUnderway state request → IsUnderway after (and_noted what request)
stays_underway state after request what other none all under =
    let same : filter is_removal_done (request.done ++ what ∷ []) ≡ filter is_removal_done request.done =
    filter-append is_removal_done request.done (what ∷ []) ∙ ap (λ b. filter is_removal_done request.done ++ cond b (what ∷ []) []) other ∙ append-nil (filter is_removal_done request.done) in
    let removed : removed_of (request.done ++ what ∷ []) ≡ removed_of request.done = removed_more request.done (what ∷ []) ∙ ap (λ (ps : List Pkg). removed_of request.done ++ ps) none ∙ append-nil (removed_of request.done) in
    record {
      removed = (λ i. removed i ++ drop (length (same i)) request.removals) ∙ under.removed;
      first = inl (none_left request what other all);
    }

module _ {X : Type 0} (t : X → Bool) where
  any_gone : (xs : List X) → list_any t (filter (λ (x : X). not (t x)) xs) ≡ false
  any_gone [] = refl
  any_gone (x ∷ xs) = by (t x) refl (any_gone xs)
    where
      by : (b : Bool) → t x ≡ b → list_any t (filter (λ (y : X). not (t y)) xs) ≡ false → list_any t (cond (not b) (x ∷ filter (λ (y : X). not (t y)) xs) (filter (λ (y : X). not (t y)) xs)) ≡ false
      by true is later = later
      by false is later = ap (λ b. b || list_any t (filter (λ (y : X). not (t y)) xs)) is ∙ later

no_removals : (pkg : Pkg) (rest : List Pkg) {P : Type 0} → [] ≡ pkg ∷ rest → P
no_removals pkg rest is = absurd (cc)

-- where some are left it has only removed
only_removes : (state : SwitchState) (request : Request) (pkg : Pkg) (rest : List Pkg) → removals_left request ≡ pkg ∷ rest → (removals_left request ≡ []) ⊎ OnlyRemoves state request → OnlyRemoves state request
only_removes state request pkg rest left (inl none) = no_removals pkg rest (sym none ∙ left)
only_removes state request pkg rest left (inr only) = only

removes_underway : (pkg : Pkg) (number : ℕ) (kept : Bool) (state : SwitchState) (request : Request) → is_next pkg (next_removal (open_of request)) ≡ true → IsUnderway state request
    → IsUnderway (without_pkg pkg (done.Removed pkg number kept) state) (and_noted (done.Removed pkg number kept) request)
removes_underway pkg number kept state request next under =
    let what = done.Removed pkg number kept in
    let after = without_pkg pkg what state in
    let rest = removals_left (and_noted what request) in
    let left = left_is pkg number kept state request next in
    let only = only_removes state request pkg rest left under.first in
    let removed : removed_of (request.done ++ what ∷ []) ≡ removed_of request.done ++ pkg ∷ [] = removed_more request.done (what ∷ []) in
    record {
      removed = ap (λ (ps : List Pkg). ps ++ rest) removed ∙ append_assoc (removed_of request.done) (pkg ∷ []) rest ∙ ap (λ (ps : List Pkg). removed_of request.done ++ ps) (sym left) ∙ under.removed;
      first = inr (record {
        removals = all_last is_removal_done request.done what only.removals refl;
        absent =
            ap (list_all (is_absent after)) removed
            ∙ all_last (is_absent after) (removed_of request.done) pkg
            (all_more (λ (p : Pkg). false) (is_absent state) (is_absent after) (removed_of request.done)
            (λ p none is. ap not (any_left (is_other_member pkg) (λ (m : Member). is_same_pkg (member_pkg m) p) state.members (opposite (list_any (λ (m : Member). is_same_pkg (member_pkg m) p) state.members) is)))
            (none_of (removed_of request.done)) only.absent)
            (ap not (any_gone (λ (m : Member). is_same_pkg (member_pkg m) pkg) state.members));
      });
    }

pub actions_underway : (number : ℕ) (action : Action) (state : SwitchState) → CanFollow number action state → RemovesFirst state → RemovesFirst (state_after number action state)
actions_underway number (Installs member placed) state follows under =
    let pkg = member_pkg member in
    let what = done.Installed pkg in
    let after = state_after number (Installs member placed) state in
    asked_after (IsUnderway state) (IsUnderway after) what state.request under
    (λ r is old.
    let asks = install_asks (record_path number) pkg member.opam placed (contents_in state) follows.0 (open_of r) (subst (λ (o : Option Request). installed (record_path number) pkg member.opam placed (contents_in state) (option_map open_of o) ≡ Some follows.0) is follows.1) in
    stays_underway state after r what refl refl asks old)
actions_underway number (PutsBack member placed) state follows under =
    let pkg = member_pkg member in
    let what = done.PutBack pkg in
    let after = state_after number (PutsBack member placed) state in
    asked_after (IsUnderway state) (IsUnderway after) what state.request under
    (λ r is old.
    let asks = back_asks (record_path number) pkg member.opam placed (contents_in state) follows.0 (open_of r) (subst (λ (o : Option Request). put_back (record_path number) pkg member.opam placed (contents_in state) (option_map open_of o) ≡ Some follows.0) is follows.1) in
    stays_underway state after r what refl refl asks.0 old)
actions_underway number (Removes pkg kept) state follows under =
    let what = done.Removed pkg number (is_some kept) in
    let after = state_after number (Removes pkg kept) state in
    asked_after (IsUnderway state) (IsUnderway after) what state.request under
    (λ r is old.
    let next = removal_asks number pkg kept (contents_in state) follows.0 (open_of r) (subst (λ (o : Option Request). removed number pkg kept (contents_in state) (option_map open_of o) ≡ Some follows.0) is follows.1) in
    removes_underway pkg number (is_some kept) state r next old)

pub begun_underway : (number : ℕ) (asking : Asking) (state : SwitchState) → RemovesFirst (state_begun number asking state)
begun_underway number asking state = record { removed = refl; first = inr (record { removals = refl; absent = refl }) }

-- ---- a package that is put back is a removal

or_true : (a b : Bool) → b ≡ true → (a || b) ≡ true
or_true true b is = refl
or_true false b is = is

kept_removed : (pkg : Pkg) (dones : List Done) → list_any (is_kept_removal pkg) dones ≡ true → list_any (is_same_pkg pkg) (removed_of dones) ≡ true
kept_removed pkg [] is = absurd (false≢true is)
kept_removed pkg (done.Removed gone number kept ∷ dones) is = by (kept && is_same_pkg gone pkg) refl is (kept_removed pkg dones)
  where
    by : (b : Bool) → (kept && is_same_pkg gone pkg) ≡ b → (b || list_any (is_kept_removal pkg) dones) ≡ true → (list_any (is_kept_removal pkg) dones ≡ true → list_any (is_same_pkg pkg) (removed_of dones) ≡ true) → (is_same_pkg pkg gone || list_any (is_same_pkg pkg) (removed_of dones)) ≡ true
    by true here any later =
        let same = same_pkg gone pkg (and_right kept (is_same_pkg gone pkg) here) in
        ap (λ b. b || list_any (is_same_pkg pkg) (removed_of dones)) (ap (is_same_pkg pkg) same ∙ pkg_self pkg)
    by false here any later = or_true (is_same_pkg pkg gone) (list_any (is_same_pkg pkg) (removed_of dones)) (later any)
kept_removed pkg (done.Installed other ∷ dones) is = kept_removed pkg dones is
kept_removed pkg (done.PutBack other ∷ dones) is = kept_removed pkg dones is

any_front : {X : Type 0} (t : X → Bool) (xs ys : List X) → list_any t xs ≡ true → list_any t (xs ++ ys) ≡ true
any_front t xs ys is = list_any-append t xs ys ∙ ap (λ b. b || list_any t ys) is

pub back_is_removal : (state : SwitchState) (request : Request) (pkg : Pkg) → list_any (is_kept_removal pkg) request.done ≡ true → IsUnderway state request → list_any (is_same_pkg pkg) request.removals ≡ true
back_is_removal state request pkg kept under = ap (list_any (is_same_pkg pkg)) (sym under.removed) ∙ any_front (is_same_pkg pkg) (removed_of request.done) (removals_left request) (kept_removed pkg request.done kept)

-- ---- the next removal is needed by no other entry

module _ {X : Type 0} (t : X → Bool) where
  -- where one that passes stands
  record IsAmong (xs : List X) : Type 0 where
    before : List X
    one : X
    after : List X
    stands : xs ≡ before ++ one ∷ after
    passes : t one ≡ true

  among : (xs : List X) → list_any t xs ≡ true → IsAmong xs
  among [] is = absurd (false≢true is)
  among (x ∷ xs) is = by (t x) refl is (among xs)
    where
      by : (b : Bool) → t x ≡ b → (b || list_any t xs) ≡ true → (list_any t xs ≡ true → IsAmong xs) → IsAmong (x ∷ xs)
      by true here any later = record { before = []; one = x; after = xs; stands = refl; passes = here }
      by false here any later =
          let more = later any in
          record { before = x ∷ more.before; one = more.one; after = more.after; stands = ap (λ (ys : List X). x ∷ ys) more.stands; passes = more.passes }

  all_here : (before : List X) (x : X) (after : List X) → list_all t (before ++ x ∷ after) ≡ true → t x ≡ true
  all_here [] x after all = and_left (t x) (list_all t after) all
  all_here (y ∷ before) x after all = all_here before x after (and_right (t y) (list_all t (before ++ x ∷ after)) all)

  any_here : (before : List X) (x : X) (after : List X) → t x ≡ true → list_any t (before ++ x ∷ after) ≡ true
  any_here [] x after is = ap (λ b. b || list_any t after) is
  any_here (y ∷ before) x after is = or_true (t y) (list_any t (before ++ x ∷ after)) (any_here before x after is)

  any_chosen : (keep : X → Bool) (xs : List X) → list_any t (filter keep xs) ≡ true → list_any t xs ≡ true
  any_chosen keep [] is = is
  any_chosen keep (x ∷ xs) is = by (keep x) is (any_chosen keep xs)
    where
      or_either : (a b c : Bool) → (a || b) ≡ true → (b ≡ true → c ≡ true) → (a || c) ≡ true
      or_either true b c is more = refl
      or_either false b c is more = more is

      by : (b : Bool) → list_any t (cond b (x ∷ filter keep xs) (filter keep xs)) ≡ true → (list_any t (filter keep xs) ≡ true → list_any t xs ≡ true) → (t x || list_any t xs) ≡ true
      by true any later = or_either (t x) (list_any t (filter keep xs)) (list_any t xs) any later
      by false any later = or_true (t x) (list_any t xs) (later any)

-- the last of a list, or another package where there is none
abbrev last_pkg : Pkg → List Pkg → Pkg
last_pkg other [] = other
last_pkg other (p ∷ ps) = last_pkg p ps

last_end : (other : Pkg) (before : List Pkg) (p : Pkg) (after : List Pkg) → last_pkg other (before ++ p ∷ after) ≡ last_pkg p after
last_end other [] p after = refl
last_end other (q ∷ before) p after = last_end q before p after

last_among : (p : Pkg) (ps : List Pkg) → list_any (is_same_pkg (last_pkg p ps)) (p ∷ ps) ≡ true
last_among p [] = ap (λ b. b || false) (pkg_self p)
last_among p (q ∷ ps) = or_true (is_same_pkg (last_pkg q ps) p) (list_any (is_same_pkg (last_pkg q ps)) (q ∷ ps)) (last_among q ps)

-- what ends a list stands after each other one
ends_after : (before after front : List Pkg) (p last : Pkg) → before ++ p ∷ after ≡ front ++ last ∷ [] → is_same_pkg p last ≡ false → list_any (is_same_pkg last) after ≡ true
ends_after before after front p last is other =
    let same : last_pkg p after ≡ last = sym (last_end p before p after) ∙ ap (last_pkg p) is ∙ last_end p front last [] in
    by after same
  where
    by : (ps : List Pkg) → last_pkg p ps ≡ last → list_any (is_same_pkg last) ps ≡ true
    by [] same = absurd (false≢true (sym other ∙ ap (is_same_pkg p) (sym same) ∙ pkg_self p))
    by (q ∷ ps) same = ap (λ (l : Pkg). list_any (is_same_pkg l) (q ∷ ps)) (sym same) ∙ last_among q ps

pkgs_split : (before : List Member) (m : Member) (after : List Member) → member_pkgs (before ++ m ∷ after) ≡ member_pkgs before ++ member_pkg m ∷ member_pkgs after
pkgs_split [] m after = refl
pkgs_split (k ∷ before) m after = ap (λ (ps : List Pkg). member_pkg k ∷ ps) (pkgs_split before m after)

any_pkgs : (t : Pkg → Bool) (members : List Member) → list_any t (member_pkgs members) ≡ list_any (λ (m : Member). t (member_pkg m)) members
any_pkgs t [] = refl
any_pkgs t (m ∷ members) = ap (λ b. t (member_pkg m) || b) (any_pkgs t members)

-- ---- entries of two packages have two names

all_not : (name : List ℕ) (members : List Member) (p : Pkg) → AllByRecursion (λ y. bytes_eq name y ≡ false) (map name_of members) → list_any (is_same_pkg p) (member_pkgs members) ≡ true → bytes_eq name p.name ≡ false
all_not name [] p all is = absurd (false≢true is)
all_not name (m ∷ members) p all is = by (is_same_pkg p (member_pkg m)) refl is (all_not name members p all.1)
  where
    by : (b : Bool) → is_same_pkg p (member_pkg m) ≡ b → (b || list_any (is_same_pkg p) (member_pkgs members)) ≡ true → (list_any (is_same_pkg p) (member_pkgs members) ≡ true → bytes_eq name p.name ≡ false) → bytes_eq name p.name ≡ false
    by true here any later = ap (λ (q : Pkg). bytes_eq name q.name) (same_pkg p (member_pkg m) here) ∙ all.0
    by false here any later = later any

names_apart : (members : List Member) (p q : Pkg) → NamesDiffer members → list_any (is_same_pkg p) (member_pkgs members) ≡ true → list_any (is_same_pkg q) (member_pkgs members) ≡ true → is_same_pkg p q ≡ false → bytes_eq p.name q.name ≡ false
unfolding IsDistinct
names_apart [] p q differ one two other = absurd (false≢true one)
names_apart (m ∷ members) p q differ one two other = by (is_same_pkg p (member_pkg m)) (is_same_pkg q (member_pkg m)) refl refl one two (λ first second. names_apart members p q differ.1 first second other)
  where
    back : (a b : List ℕ) → bytes_eq a b ≡ false → bytes_eq b a ≡ false
    back a b apart = is_false (bytes_eq b a) (λ same. false≢true (sym apart ∙ (bytes_eq-Decides a b).1 (sym ((bytes_eq-Decides b a).0 same))))

    by : (a b : Bool) → is_same_pkg p (member_pkg m) ≡ a → is_same_pkg q (member_pkg m) ≡ b → (a || list_any (is_same_pkg p) (member_pkgs members)) ≡ true → (b || list_any (is_same_pkg q) (member_pkgs members)) ≡ true
        → (list_any (is_same_pkg p) (member_pkgs members) ≡ true → list_any (is_same_pkg q) (member_pkgs members) ≡ true → bytes_eq p.name q.name ≡ false) → bytes_eq p.name q.name ≡ false
    by true true here there one two later =
        absurd (false≢true (sym other ∙ (λ i. is_same_pkg (same_pkg p (member_pkg m) here i) (same_pkg q (member_pkg m) there i)) ∙ pkg_self (member_pkg m)))
    by true false here there one two later = ap (λ (k : Pkg). bytes_eq k.name q.name) (same_pkg p (member_pkg m) here) ∙ all_not (name_of m) members q differ.0 two
    by false true here there one two later = back q.name p.name (ap (λ (k : Pkg). bytes_eq k.name p.name) (same_pkg q (member_pkg m) there) ∙ all_not (name_of m) members p differ.0 one)
    by false false here there one two later = later one two

-- ---- the whole of it

no_installs : (dones : List Done) → list_all is_removal_done dones ≡ true → installs_of dones ≡ []
no_installs [] all = refl
no_installs (done.Removed pkg number kept ∷ dones) all = no_installs dones all
no_installs (done.Installed pkg ∷ dones) all = absurd (false≢true all)
no_installs (done.PutBack pkg ∷ dones) all = absurd (false≢true all)

no_contents : (after : Contents) {P : Type 0} → None ≡ Some after → P
no_contents after is = absurd (cc)

module _ (pkg : Pkg) (state : SwitchState) (request : Request) (rest : List Pkg) (left : removals_left request ≡ pkg ∷ rest) (names : NamesDiffer state.members) (sound : RequestIsSound state request) where
  abbrev leaves : Pkg → Bool
  leaves p = list_any (is_same_pkg p) (pkg ∷ rest)

  leave : filter leaves (member_pkgs state.members) ≡ reverse rest ++ pkg ∷ []
  leave = subst (λ (ps : List Pkg). filter (λ (p : Pkg). list_any (is_same_pkg p) ps) (member_pkgs state.members) ≡ reverse ps) left sound.removals ∙ reverse-append (pkg ∷ []) rest

  -- it is an entry
  stands_there : list_any (is_same_pkg pkg) (member_pkgs state.members) ≡ true
  stands_there = any_chosen (is_same_pkg pkg) leaves (member_pkgs state.members) (ap (list_any (is_same_pkg pkg)) leave ∙ any_here (is_same_pkg pkg) (reverse rest) pkg [] (pkg_self pkg))

  module _ (before after : List Member) (m : Member) (stands : state.members ≡ before ++ m ∷ after) (other : is_same_pkg (member_pkg m) pkg ≡ false) where
    names_other : bytes_eq pkg.name (name_of m) ≡ false
    names_other =
        bytes_back (name_of m) pkg.name
        (names_apart state.members (member_pkg m) pkg names
        (ap (λ (ms : List Member). list_any (is_same_pkg (member_pkg m)) (member_pkgs ms)) stands ∙ ap (list_any (is_same_pkg (member_pkg m))) (pkgs_split before m after) ∙ any_here (is_same_pkg (member_pkg m)) (member_pkgs before) (member_pkg m) (member_pkgs after) (pkg_self (member_pkg m)))
        stands_there other)

    no_edge : is_edge m.package pkg ≡ false → is_run_with m.package.items pkg.name ≡ false
    no_edge none =
        or_left (is_run_with m.package.items pkg.name) (meets_one m.package.depopts pkg)
        (sym (ap (λ b. not b && (is_run_with m.package.items pkg.name || meets_one m.package.depopts pkg)) names_other) ∙ none)

    -- an entry that leaves later stands before it, and has no edge to what stands after
    later_leaves : EdgesPointBefore state.members → leaves (member_pkg m) ≡ true → is_edge m.package pkg ≡ false
    later_leaves edges is =
        let split : filter leaves (member_pkgs before) ++ member_pkg m ∷ filter leaves (member_pkgs after) ≡ reverse rest ++ pkg ∷ [] =
        ap (λ b. filter leaves (member_pkgs before) ++ cond b (member_pkg m ∷ filter leaves (member_pkgs after)) (filter leaves (member_pkgs after))) (sym is)
        ∙ sym (filter-append leaves (member_pkgs before) (member_pkg m ∷ member_pkgs after))
        ∙ ap (filter leaves) (sym (pkgs_split before m after))
        ∙ ap (λ (ms : List Member). filter leaves (member_pkgs ms)) (sym stands)
        ∙ leave in
        let behind = any_chosen (is_same_pkg pkg) leaves (member_pkgs after) (ends_after (filter leaves (member_pkgs before)) (filter leaves (member_pkgs after)) (reverse rest) (member_pkg m) pkg split other) in
        let at = among (λ (k : Member). is_same_pkg pkg (member_pkg k)) after (sym (any_pkgs (is_same_pkg pkg) after) ∙ behind) in
        let none = any_at (λ (k : Member). is_edge m.package (member_pkg k)) at.before at.one at.after (subst (λ (ks : List Member). list_any (λ (k : Member). is_edge m.package (member_pkg k)) ks ≡ false) at.stands (edges before after m stands)) in
        ap (is_edge m.package) (same_pkg pkg (member_pkg at.one) at.passes) ∙ none

    -- an entry that stays has no edge to what leaves
    stays_apart : stays request m ≡ true → is_edge m.package pkg ≡ false
    stays_apart is =
        let apart = all_here (is_apart state request) before m after (subst (λ (ms : List Member). list_all (is_apart state request) ms ≡ true) stands sound.apart) in
        let both = ap (λ b. not b || (not (has_edge m (removals_left request)) && not (has_edge m (member_pkgs (coming state request))))) (sym is) ∙ apart in
        let none = opposite (has_edge m (removals_left request)) (and_left (not (has_edge m (removals_left request))) (not (has_edge m (member_pkgs (coming state request)))) both) in
        or_left (is_edge m.package pkg) (has_edge m rest) (sym (ap (has_edge m) left) ∙ none)

    -- any other entry stays or leaves later, where the request has only removed
    stays_or_leaves : IsUnderway state request → OnlyRemoves state request → leaves (member_pkg m) ≡ false → stays request m ≡ true
    stays_or_leaves under only none =
        let it = is_same_pkg (member_pkg m) in
        let not_removed : list_any it (removed_of request.done) ≡ false =
        is_false (list_any it (removed_of request.done)) (λ is.
        let at = among it (removed_of request.done) is in
        let gone = opposite (list_any (λ (k : Member). is_same_pkg (member_pkg k) at.one) state.members) (all_here (is_absent state) at.before at.one at.after (subst (λ (ps : List Pkg). list_all (is_absent state) ps ≡ true) at.stands only.absent)) in
        let there = ap (list_any (λ (k : Member). is_same_pkg (member_pkg k) at.one)) stands ∙ any_here (λ (k : Member). is_same_pkg (member_pkg k) at.one) before m after at.passes in
        false≢true (sym gone ∙ there)) in
        let not_one : list_any it request.removals ≡ false =
        ap (list_any it) (sym under.removed ∙ ap (λ (ps : List Pkg). removed_of request.done ++ ps) left)
        ∙ list_any-append it (removed_of request.done) (pkg ∷ rest)
        ∙ (λ i. not_removed i || none i) in
        (λ i. not (list_any it (no_installs request.done only.removals i)) && not (not_one i))

    runs_not : EdgesPointBefore state.members → IsUnderway state request → OnlyRemoves state request → is_run_with m.package.items pkg.name ≡ false
    runs_not edges under only = no_edge (by (leaves (member_pkg m)) refl)
      where
        by : (b : Bool) → leaves (member_pkg m) ≡ b → is_edge m.package pkg ≡ false
        by true is = later_leaves edges is
        by false is = stays_apart (stays_or_leaves under only is)

  pub unneeded : EdgesPointBefore state.members → IsUnderway state request → IsUnneeded pkg state
  unneeded edges under =
      let only = only_removes state request pkg rest left under.first in
      is_false (list_any (λ (m : Member). is_other_member pkg m && is_run_with m.package.items pkg.name) state.members) (λ is.
      let at = among (λ (m : Member). is_other_member pkg m && is_run_with m.package.items pkg.name) state.members is in
      let other = opposite (is_same_pkg (member_pkg at.one) pkg) (and_left (is_other_member pkg at.one) (is_run_with at.one.package.items pkg.name) at.passes) in
      false≢true (sym (runs_not at.before at.after at.one at.stands other edges under only) ∙ and_right (is_other_member pkg at.one) (is_run_with at.one.package.items pkg.name) at.passes))

-- by a removal that can follow
pub next_unneeded : (number : ℕ) (pkg : Pkg) (kept : Option KeptFiles) (state : SwitchState) → CanFollow number (Removes pkg kept) state → RemovesFirst state → EdgesPointBefore state.members → NamesDiffer state.members → IfSome state.request (RequestIsSound state) → IsUnneeded pkg state
next_unneeded number pkg kept state follows under edges names sound = by state.request refl
  where
    by : (o : Option Request) → state.request ≡ o → IsUnneeded pkg state
    by None is = no_contents follows.0 (subst (λ (o : Option Request). removed number pkg kept (contents_in state) (option_map open_of o) ≡ Some follows.0) is follows.1)
    by (Some r) is =
        let next = removal_asks number pkg kept (contents_in state) follows.0 (open_of r) (subst (λ (o : Option Request). removed number pkg kept (contents_in state) (option_map open_of o) ≡ Some follows.0) is follows.1) in
        unneeded pkg state r (removals_left (and_noted (done.Removed pkg number (is_some kept)) r)) (left_is pkg number (is_some kept) state r next) names
        (subst (λ (o : Option Request). IfSome o (RequestIsSound state)) is sound) edges (subst (λ (o : Option Request). IfSome o (IsUnderway state)) is under)
