-- While a change installs packages: the next install can follow, where its files can be placed.
use Rattle.std.proofs.Common.{◌≡◌, ℕ, zero, suc, ◌+◌, ◌<◌, ◌≤◌, List, [], ◌∷◌, ◌++◌, map, filter, drop, length, Bool, true, false, not, Option, Some, None, refl, sym, ap, ◌∙◌, subst, arith, append_assoc}
use Rattle.std.specs.Prelude.{◌&&◌, ◌||◌, ◌==◌, bytes_eq, fold, slice_get, if◌then◌else◌}
use Rattle.std.specs.List.{IsDistinct, list_any}
use Rattle.std.specs.Option.{option_map}
use Rattle.std.proofs.lemmas.Bool.Decides.{nat_tests}
use Rattle.std.proofs.lemmas.List.{append-nil, length-append, length-map, length_push, map-append}
use Rattle.std.proofs.lemmas.Slice.Eq.{bytes_eq-Decides}
use Rattle.opam_names.specs.ByteOrders.{precedes, put_by}
use Rattle.opam_names.specs.declared.packages.Pkg.{Pkg}
use Rattle.opam_package.specs.declared.package.Member.{Member}
use Rattle.owner_map.specs.Owning.{is_same_pkg, owned_by, path_of}
use Rattle.owner_map.specs.declared.owned.OwnedPath.{OwnedPath}
use Rattle.journal_text.specs.Parts.{paths_of}
use Rattle.journal_text.specs.declared.record.Placed.{Placed}
use Rattle.switch_journal.specs.Applying.{are_few, are_few_paths, are_removed, can_come, entries_of, has_name, installed, is_named, is_put_back, is_removal, is_same_entry, meets_owned, own, text_total, with_done, with_package}
use Rattle.switch_journal.specs.Contents.{Contents, entry_of}
use Rattle.switch_journal.specs.Places.{record_path}
use Rattle.switch_journal.specs.declared.request.Done.TheVariants as done
use Rattle.switch_journal.specs.declared.request.TheConstants.{OWNED_LIMIT}
use Rattle.switch_state.specs.Actions.{CanFollow, Installs, and_noted}
use Rattle.switch_state.specs.Sound.{is_removal_done, member_pkg, name_of}
use Rattle.switch_state.specs.State.{Request, contents_in, member_entry, open_of}
use Rattle.change_verdict.specs.Verdicts.{CanBePlaced}
use Rattle.change_outcome.specs.Changes.{Change, Point, point_after}
use Rattle.change_outcome.specs.Running.{CanRun, coming, leaving, staying, stays_by}
use Rattle.change_outcome.proofs.Clearing.{Cleared, entries_in, fewer, of_le, removals_counted, same_self, stood}
use Rattle.change_outcome.proofs.Lists.{any_front, any_map, any_push, both, count_same, distinct_at, or_left, or_right}

-- ---- lists of members

text_more : (xs ys : List Member) → text_total (map member_entry (xs ++ ys)) ≡ text_total (map member_entry xs) + text_total (map member_entry ys)
text_more [] ys = omega arith
text_more (x ∷ xs) ys = (let e = text_more xs ys in omega (arith, e))

any_at : {X : Type 0} (t : X → Bool) (xs : List X) (n : ℕ) (x : X) → slice_get xs n ≡ Some x → t x ≡ true → list_any t xs ≡ true
any_at t [] n x is here = absurd cc
any_at t (y ∷ xs) zero x is here = (let e : y ≡ x = cc in let holds : t y ≡ true = ap t e ∙ here in rw holds refl)
any_at t (y ∷ xs) (suc n) x is here = or_true (t y) (list_any t xs) (any_at t xs n x is here)
  where
    or_true : (a b : Bool) → b ≡ true → (a || b) ≡ true
    or_true true b is = refl
    or_true false b is = is

same_count : (n m : ℕ) → n ≡ m → (n == m) ≡ true
same_count n m is = grind (arith, nat_tests)

length_put : (x : OwnedPath) (ys : List OwnedPath) → length (put_by path_of x ys) ≡ suc (length ys)
length_put x [] = refl
length_put x (y ∷ ys) = by (precedes y.path x.path) (length_put x ys)
  where
    by : (b : Bool) → length (put_by path_of x ys) ≡ suc (length ys) → length (if b then y ∷ put_by path_of x ys else x ∷ y ∷ ys) ≡ suc (suc (length ys))
    by true later = ap suc later
    by false later = refl

pub length_own : (pkg : Pkg) (paths : List (List ℕ)) (owned : List OwnedPath) → length (fold (own pkg) owned paths) ≡ length owned + length paths
length_own pkg [] owned = omega arith
length_own pkg (path ∷ paths) owned = (let e = length_own pkg paths (own pkg owned path) in let f = length_put (owned_by path pkg) owned in omega (arith, e, f))

-- ---- where the change stands after so many of its installs
pub record Filled (change : Change) (front : List Member) (point : Point) : Type 0 where
  pub none : (t : Member → Bool) → list_any t (staying change ++ front) ≡ false → list_any t point.state.members ≡ false
  pub count : length point.state.members ≤ length (staying change ++ front)
  pub text : text_total (map member_entry point.state.members) ≤ text_total (map member_entry (staying change ++ front))
  pub now : Request
  pub is_open : point.state.request ≡ Some now
  pub target : now.target ≡ change.members
  pub removed : length (filter is_removal now.done) ≡ length now.removals
  pub backs : list_any is_put_back now.done ≡ false

pub length_left : {X : Type 0} (k : ℕ) (xs : List X) → k ≤ length xs → k + length (drop k xs) ≡ length xs
length_left zero xs within = omega arith
length_left (suc k) [] within = absurd (omega arith)
length_left (suc k) (x ∷ xs) within = (let e = length_left k xs (omega arith) in omega (arith, e))

pub filled_first : (change : Change) (start : Point) (can : CanRun change start) (gone : List Pkg) (point : Point) → leaving change ≡ gone → 0 < length change.plan.installs → Cleared change can.request gone [] point → Filled change [] point
filled_first change start can gone point all some cleared =
    let members : point.state.members ≡ staying change ++ [] = cleared.members ∙ ap (λ ps. filter (stays_by ps) change.entries) (sym all) ∙ sym (append-nil (staying change)) in
    record {
      none = λ t none. ap (list_any t) members ∙ none;
      count = (let e = ap length members in omega (arith, e));
      text = (let e = ap (λ ms. text_total (map member_entry ms)) members in omega (arith, e));
      now = cleared.now;
      is_open = cleared.is_open;
      target = cleared.target ∙ can.target;
      removed =
          (let counted = ap length (removals_counted can.request.done) in
          let left = length_left (length (filter is_removal_done can.request.done)) can.request.removals can.done_first in
          let lies = ap length (can.left ∙ all) in
          let e = cleared.removed in
          let f = ap length cleared.removals in
          omega (arith, counted, left, lies, e, f));
      backs = cleared.backs ∙ can.back some;
    }

module _ (change : Change) (start : Point) (can : CanRun change start) (front more : List Member) (member : Member) (split : coming change ≡ front ++ member ∷ more) (point : Point) (filled : Filled change front point) where
  -- nothing was installed
  pub filled_same : Filled change (front ++ member ∷ []) point
  filled_same = record {
    none = λ t none. filled.none t (any_front t (staying change ++ front) (member ∷ []) (ap (list_any t) (append_assoc (staying change) front (member ∷ [])) ∙ none));
    count = (let e = filled.count in let a = length-append (staying change) front in let b = length-append (staying change) (front ++ member ∷ []) in let c = length_push front member in omega (arith, e, a, b, c));
    text = (let e = filled.text in let a = text_more (staying change) front in let b = text_more (staying change) (front ++ member ∷ []) in let c = text_more front (member ∷ []) in omega (arith, e, a, b, c));
    now = filled.now;
    is_open = filled.is_open;
    target = filled.target;
    removed = filled.removed;
    backs = filled.backs;
  }

  -- the member was installed
  pub filled_more : (files : List Placed) → Filled change (front ++ member ∷ []) (point_after point (Installs member files))
  filled_more files = record {
    none = λ t none.
        (let whole = ap (list_any t) (append_assoc (staying change) front (member ∷ [])) ∙ none in
        any_push t point.state.members member (last t (staying change ++ front) whole) ∙ filled.none t (any_front t (staying change ++ front) (member ∷ []) whole));
    count = (let e = filled.count in let a = length-append (staying change) front in let b = length-append (staying change) (front ++ member ∷ []) in let c = length_push front member in let d = length_push point.state.members member in omega (arith, e, a, b, c, d));
    text = (let e = filled.text in let a = text_more (staying change) front in let b = text_more (staying change) (front ++ member ∷ []) in let c = text_more front (member ∷ []) in let d = text_more point.state.members (member ∷ []) in omega (arith, e, a, b, c, d));
    now = and_noted (done.Installed (member_pkg member)) filled.now;
    is_open = ap (option_map (and_noted (done.Installed (member_pkg member)))) filled.is_open;
    target = filled.target;
    removed = count_same is_removal filled.now.done (done.Installed (member_pkg member)) refl ∙ filled.removed;
    backs = any_push is_put_back filled.now.done (done.Installed (member_pkg member)) refl ∙ filled.backs;
  }
    where
      last : (t : Member → Bool) (xs : List Member) → list_any t (xs ++ member ∷ []) ≡ false → t member ≡ false
      last t [] none = or_left (t member) false none
      last t (x ∷ xs) none = last t xs (or_right (t x) (list_any t (xs ++ member ∷ [])) none)

  absent : has_name (member_pkg member).name (contents_in point.state) ≡ false
  absent =
      ap (list_any (is_named (member_pkg member).name)) (entries_in point.state) ∙ any_map member_entry (is_named (member_pkg member).name) point.state.members
      ∙ filled.none (λ m. bytes_eq (member_pkg member).name (name_of m))
      (sym (any_map name_of (bytes_eq (member_pkg member).name) (staying change ++ front))
      ∙ distinct_at (map name_of (staying change ++ front)) (name_of member) (map name_of more)
      (subst (IsDistinct bytes_eq)
      (ap (λ ms. map name_of (staying change ++ ms)) split ∙ ap (map name_of) (sym (append_assoc (staying change) front (member ∷ more))) ∙ map-append name_of (staying change ++ front) (member ∷ more))
      can.fresh))

  few_members : are_few (map member_entry (point.state.members ++ member ∷ [])) ≡ true
  few_members =
      fewer (point.state.members ++ member ∷ []) (staying change ++ coming change)
      (let e = filled.count in let a = length-append (staying change) front in let b = length-append (staying change) (coming change) in let c = ap length split in let d = length_push point.state.members member in let f = length-append front (member ∷ more) in omega (arith, e, a, b, c, d, f))
      (let e = filled.text in let a = text_more (staying change) front in let b = text_more (staying change) (coming change) in let c = ap (λ ms. text_total (map member_entry ms)) split in let d = text_more point.state.members (member ∷ []) in let f = text_more front (member ∷ more) in omega (arith, e, a, b, c, d, f))
      can.few_then

  module _ (files : List Placed) (placed : CanBePlaced point.state.owned files) where
    abbrev after : Contents
    after = with_done (done.Installed (member_pkg member)) (open_of filled.now) (with_package (record_path point.number) (member_pkg member) member.opam files (contents_in point.state))

    entries_after : entries_of after ≡ map member_entry (point.state.members ++ member ∷ [])
    entries_after =
        map-append entry_of (contents_in point.state).standing (record { entry = member_entry member; from = record_path point.number } ∷ [])
        ∙ ap (λ es. es ++ member_entry member ∷ []) (stood (map member_entry point.state.members)) ∙ sym (map-append member_entry point.state.members (member ∷ []))

    few_after : (are_few (entries_of after) && are_few_paths after.owned) ≡ true
    few_after =
        (let long = length_own (member_pkg member) (paths_of files) point.state.owned in
        let as_many = length-map files (λ (file : Placed). file.path) in
        let room = placed.roomy in
        both (are_few (entries_of after)) (are_few_paths after.owned) (ap are_few entries_after ∙ few_members)
        (of_le (length (fold (own (member_pkg member)) point.state.owned (paths_of files))) OWNED_LIMIT (omega (arith, long, as_many, room))))

    pub install_follows : (at : ℕ) → slice_get change.members at ≡ Some member → CanFollow point.number (Installs member files) point.state
    install_follows at there =
        let r = open_of filled.now in
        let c = contents_in point.state in
        let removed = same_count (length (filter is_removal filled.now.done)) (length filled.now.removals) filled.removed in
        let wanted : list_any (is_same_entry (member_entry member)) r.target ≡ true =
        ap (λ ms. list_any (is_same_entry (member_entry member)) (map member_entry ms)) filled.target ∙ any_map member_entry (is_same_entry (member_entry member)) change.members
        ∙ any_at (λ m. is_same_entry (member_entry member) (member_entry m)) change.members at member there (both (is_same_pkg (member_pkg member) (member_pkg member)) (bytes_eq member.opam member.opam) (same_self (member_pkg member)) ((bytes_eq-Decides member.opam member.opam).1 refl)) in
        let comes = both (not (has_name (member_pkg member).name c)) (not (list_any (meets_owned c) (paths_of files))) (ap not absent) (ap not placed.unmet) in
        let first = both (are_removed r) (not (list_any is_put_back r.done)) removed (ap not filled.backs) in
        let second = both (are_removed r && not (list_any is_put_back r.done)) (list_any (is_same_entry (member_entry member)) r.target) first wanted in
        let can_be = both (are_removed r && not (list_any is_put_back r.done) && list_any (is_same_entry (member_entry member)) r.target) (can_come (member_pkg member) files c) second comes in
        let whole = both (are_removed r && not (list_any is_put_back r.done) && list_any (is_same_entry (member_entry member)) r.target && can_come (member_pkg member) files c) (are_few (entries_of after) && are_few_paths after.owned) can_be few_after in
        (after, ap (λ (o : Option Request). installed (record_path point.number) (member_pkg member) member.opam files c (option_map open_of o)) filled.is_open ∙ ap (λ b. if b then Some after else None) whole)
