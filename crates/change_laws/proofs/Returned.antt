-- What is left to be put back once some packages are.
use Rattle.std.proofs.Common.{◌≡◌, ◌∙◌, ℕ, zero, suc, List, [], ◌∷◌, ◌++◌, drop, filter, length, reverse, Bool, true, false, not, cond, Option, Some, None, refl, sym, ap, subst, append_assoc}
use Rattle.std.specs.Prelude.{◌&&◌, IfSome, bytes_eq, find, is_some, slice_get, take_while, if◌then◌else◌}
use Rattle.std.specs.List.{All, AllByRecursion, IsDistinct, list_any}
use Rattle.std.specs.Option.{option_map}
use Rattle.std.proofs.lemmas.Bool.{false≢true}
use Rattle.std.proofs.lemmas.List.{append-nil, reverse-append, reverse-reverse}
use Rattle.std.proofs.lemmas.List.Elements.{All-cons, All-filter, All-head, All-nil, All-push, All-tail, All-weaker}
use Rattle.std.proofs.lemmas.List.Sorted.{All-permutation, IsPermutation-reverse}
use Rattle.std.proofs.lemmas.List.Sums.{take_while-cons}
use Rattle.opam_names.specs.declared.packages.Pkg.{Pkg}
use Rattle.opam_package.specs.declared.package.Member.{Member}
use Rattle.owner_map.specs.Owning.{is_same_pkg}
use Rattle.journal_text.specs.Parts.{names_of}
use Rattle.journal_text.specs.declared.record.KeptFiles.{KeptFiles}
use Rattle.journal_text.specs.declared.record.Placed.{Placed}
use Rattle.switch_journal.specs.Applying.{puts_back}
use Rattle.switch_journal.specs.declared.request.Done.{Done}
use Rattle.switch_journal.specs.declared.request.Done.TheVariants as done
use Rattle.switch_state.specs.Actions.{Action, Installs, PutsBack, Removes, and_noted, noted}
use Rattle.switch_state.specs.Ends.{is_called, is_entry_name}
use Rattle.switch_state.specs.Keeps.{is_member_of, wants}
use Rattle.switch_state.specs.Sound.{is_removal_done, member_pkg, removals_left}
use Rattle.switch_state.specs.State.{Request}
use Rattle.switch_state.proofs.RequestKept.{same_pkg}
use Rattle.switch_state.proofs.SoundKept.{bytes_back, head_is, nothing, pkg_self, tail_is}
use Rattle.back_verdict.specs.Backs.{why_of}
use Rattle.back_verdict.specs.declared.why.Why.{Why}
use Rattle.change_outcome.specs.Changes.{Point, Removal, kept_entry, point_after, point_after_all, things_done}
use Rattle.change_outcome.specs.PossibleLaws.{IsKeptFor}
use Rattle.change_outcome.specs.PutBacks.{backs_left, is_back, is_missed, with_backs}
use Rattle.change_outcome.specs.Steps.{Decided, back_of, back_with, point_then}
use Rattle.change_outcome.proofs.Following.{step_point, then_next}
use Rattle.change_outcome.proofs.Lists.{any_push, count_same, neither, or_left, or_right}
use Rattle.change_outcome.proofs.Returning.{all_while, gone_pkgs, or_second, rest_while}
use Rattle.change_laws.proofs.Allowed.{backs_push}
use Rattle.change_laws.proofs.Needs.{all_place, none_at}

-- ---- what can be put back is the package that was removed

abbrev pub IsOfItself : Removal → Type 0
IsOfItself removal = IfSome removal.kept (λ kept. member_pkg kept.0 ≡ removal.pkg)

abbrev pub AreOfThemselves : Point → Type 0
AreOfThemselves point = All IsOfItself point.removals

found_is : (t : Member → Bool) (members : List Member) (m : Member) → find t members ≡ Some m → t m ≡ true
found_is t [] m is = absurd cc
found_is t (x ∷ members) m is = by (t x) refl is (found_is t members m)
  where
    by : (b : Bool) → t x ≡ b → (if b then Some x else find t members) ≡ Some m → (find t members ≡ Some m → t m ≡ true) → t m ≡ true
    by true here is later = (let e : x ≡ m = cc in ap t (sym e) ∙ here)
    by false here is later = later is

kept_itself : (pkg : Pkg) (members : List Member) (kept : Option KeptFiles) → IsOfItself (record { pkg = pkg; kept = kept_entry (find (is_member_of pkg) members) kept })
kept_itself pkg members kept = by (find (is_member_of pkg) members) kept refl
  where
    by : (o : Option Member) (k : Option KeptFiles) → find (is_member_of pkg) members ≡ o → IfSome (kept_entry o k) (λ old. member_pkg old.0 ≡ pkg)
    by None k is = tt
    by (Some entry) None is = tt
    by (Some entry) (Some k) is = same_pkg (member_pkg entry) pkg (found_is (is_member_of pkg) members entry is)

itself_next : (point : Point) (action : Action) → AreOfThemselves point → AreOfThemselves (point_after point action)
itself_next point (Installs member placed) all = all
itself_next point (Removes pkg kept) all = All-push IsOfItself point.removals (record { pkg = pkg; kept = kept_entry (find (is_member_of pkg) point.state.members) kept }) all (kept_itself pkg point.state.members kept)
itself_next point (PutsBack member placed) all = all

pub itself_after : (point : Point) (actions : List Action) → AreOfThemselves point → AreOfThemselves (point_after_all point actions)
itself_after point [] all = all
itself_after point (action ∷ actions) all = itself_after (point_after point action) actions (itself_next point action all)

pub itself_first : (things : List Done) (removals : List Removal) → All (IsKeptFor things) removals → All IsOfItself removals
itself_first things removals all = All-weaker (IsKeptFor things) IsOfItself (λ removal kept. by removal.pkg removal.kept kept) removals all
  where
    by : (pkg : Pkg) (kept : Option (Member × List Placed)) → IsKeptFor things (record { pkg = pkg; kept = kept }) → IfSome kept (λ old. member_pkg old.0 ≡ pkg)
    by pkg None is = tt
    by pkg (Some old) is = is.0

-- ---- lists

any_reverse : {X : Type 0} (t : X → Bool) (xs : List X) → list_any t xs ≡ false → list_any t (reverse xs) ≡ false
any_reverse t [] none = refl
any_reverse t (x ∷ xs) none =
    ap (list_any t) (reverse-append (x ∷ []) xs)
    ∙ any_push t (reverse xs) x (or_left (t x) (list_any t xs) none)
    ∙ any_reverse t xs (or_right (t x) (list_any t xs) none)

any_chosen : {X : Type 0} (t keep : X → Bool) (xs : List X) → list_any t xs ≡ false → list_any t (filter keep xs) ≡ false
any_chosen t keep [] none = refl
any_chosen t keep (x ∷ xs) none = by (keep x) (any_chosen t keep xs (or_right (t x) (list_any t xs) none))
  where
    by : (b : Bool) → list_any t (filter keep xs) ≡ false → list_any t (cond b (x ∷ filter keep xs) (filter keep xs)) ≡ false
    by true later = neither (t x) (list_any t (filter keep xs)) (or_left (t x) (list_any t xs) none) later
    by false later = later

-- where what passes is split
record Split {X : Type 0} (t : X → Bool) (xs before : List X) (x : X) (behind : List X) : Type 0 where
  front : List X
  back : List X
  is : xs ≡ front ++ x ∷ back
  before_is : filter t front ≡ before
  behind_is : filter t back ≡ behind

split_by : {X : Type 0} (t : X → Bool) (y : X) (ys before : List X) (x : X) (behind : List X) (b : Bool) → t y ≡ b → cond b (y ∷ filter t ys) (filter t ys) ≡ before ++ x ∷ behind
    → ((before : List X) → filter t ys ≡ before ++ x ∷ behind → Split t ys before x behind) → Split t (y ∷ ys) before x behind
split_by t y ys [] x behind true here is more = record {
  front = [];
  back = ys;
  is = ap (λ z. z ∷ ys) (head_is y x (filter t ys) behind is);
  before_is = refl;
  behind_is = tail_is y x (filter t ys) behind is;
}
split_by t y ys (z ∷ before) x behind true here is more =
    let later = more before (tail_is y z (filter t ys) (before ++ x ∷ behind) is) in
    record {
      front = y ∷ later.front;
      back = later.back;
      is = ap (λ zs. y ∷ zs) later.is;
      before_is = ap (λ b. cond b (y ∷ filter t later.front) (filter t later.front)) here ∙ (λ i. head_is y z (filter t ys) (before ++ x ∷ behind) is i ∷ later.before_is i);
      behind_is = later.behind_is;
    }
split_by t y ys before x behind false here is more =
    let later = more before is in
    record {
      front = y ∷ later.front;
      back = later.back;
      is = ap (λ zs. y ∷ zs) later.is;
      before_is = ap (λ b. cond b (y ∷ filter t later.front) (filter t later.front)) here ∙ later.before_is;
      behind_is = later.behind_is;
    }

split_at : {X : Type 0} (t : X → Bool) (xs before : List X) (x : X) (behind : List X) → filter t xs ≡ before ++ x ∷ behind → Split t xs before x behind
split_at t [] before x behind is = absurd (nothing before x behind is)
split_at t (y ∷ ys) before x behind is = split_by t y ys before x behind (t y) refl is (λ front later. split_at t ys front x behind later)

while_at : {X : Type 0} (t : X → Bool) (xs : List X) (x : X) (ys : List X) → list_any (λ y. not (t y)) xs ≡ false → t x ≡ false → take_while t (xs ++ x ∷ ys) ≡ xs
while_at t [] x ys all here = take_while-cons t x ys ∙ ap (λ b. cond b (x ∷ take_while t ys) []) here
while_at t (y ∷ xs) x ys all here =
    take_while-cons t y (xs ++ x ∷ ys)
    ∙ ap (λ b. cond b (y ∷ take_while t (xs ++ x ∷ ys)) []) (passes (t y) (or_left (not (t y)) (list_any (λ z. not (t z)) xs) all))
    ∙ ap (λ zs. y ∷ zs) (while_at t xs x ys (or_right (not (t y)) (list_any (λ z. not (t z)) xs) all) here)
  where
    passes : (b : Bool) → not b ≡ false → b ≡ true
    passes true is = refl
    passes false is = absurd (false≢true (sym is))

filter_each : {X : Type 0} (s t : X → Bool) (xs : List X) → ((k : ℕ) (x : X) → slice_get xs k ≡ Some x → s x ≡ t x) → filter s xs ≡ filter t xs
filter_each s t [] same = refl
filter_each s t (x ∷ xs) same = (let later = filter_each s t xs (λ k y is. same (suc k) y is) in let here = same 0 x refl in λ i. cond (here i) (x ∷ later i) (later i))

get_front : {X : Type 0} (xs ys : List X) (k : ℕ) (x : X) → slice_get xs k ≡ Some x → slice_get (xs ++ ys) k ≡ Some x
get_front [] ys k x is = absurd cc
get_front (y ∷ xs) ys zero x is = is
get_front (y ∷ xs) ys (suc k) x is = get_front xs ys k x is

any_each : {X : Type 0} (t : X → Bool) (xs : List X) → ((k : ℕ) (x : X) → slice_get xs k ≡ Some x → t x ≡ false) → list_any t xs ≡ false
any_each t [] none = refl
any_each t (x ∷ xs) none = neither (t x) (list_any t xs) (none 0 x refl) (any_each t xs (λ k y is. none (suc k) y is))

-- ---- names of removals

-- it is of the same name
abbrev shares_name : Removal → Removal → Bool
shares_name removal other = bytes_eq removal.pkg.name other.pkg.name

apart_later : (removals : List Removal) (name : List ℕ) → AllByRecursion (λ y. bytes_eq name y ≡ false) (names_of (gone_pkgs removals)) → list_any (λ (r : Removal). bytes_eq name r.pkg.name) removals ≡ false
apart_later [] name all = refl
apart_later (r ∷ removals) name all = neither (bytes_eq name r.pkg.name) (list_any (λ (r : Removal). bytes_eq name r.pkg.name) removals) all.0 (apart_later removals name all.1)

-- those that stand behind a removal have other names
behind_apart : (front more : List Removal) (k : ℕ) (x : Removal) → IsDistinct bytes_eq (names_of (gone_pkgs (front ++ more))) → slice_get front k ≡ Some x → list_any (shares_name x) more ≡ false
unfolding IsDistinct
behind_apart [] more k x apart is = absurd cc
behind_apart (y ∷ front) more zero x apart is =
    (let e : y ≡ x = cc in
    subst (λ (r : Removal). list_any (shares_name r) more ≡ false) e (back front (apart_later (front ++ more) y.pkg.name apart.0)))
  where
    back : (xs : List Removal) → list_any (λ (r : Removal). bytes_eq y.pkg.name r.pkg.name) (xs ++ more) ≡ false → list_any (shares_name y) more ≡ false
    back [] none = none
    back (r ∷ xs) none = back xs (or_right (bytes_eq y.pkg.name r.pkg.name) (list_any (λ (r : Removal). bytes_eq y.pkg.name r.pkg.name) (xs ++ more)) none)
behind_apart (y ∷ front) more (suc k) x apart is = behind_apart front more k x apart.1 is

all_front : {X : Type 0} (P : X → Type 0) (xs ys : List X) → All P (xs ++ ys) → All P xs
all_front P [] ys all = All-nil P
all_front P (x ∷ xs) ys all = All-cons P x xs (All-head P x (xs ++ ys) all) (all_front P xs ys (All-tail P x (xs ++ ys) all))

-- a request is open
abbrev pub IsOpenAt : Point → Type 0
IsOpenAt point = (now : Request) × (point.state.request ≡ Some now)

-- ---- some are put back

module _ (start : Point) (before : List Decided) where
  -- where the put backs begin
  abbrev first : Point
  first = point_then start before

  -- where they are after some of them
  abbrev after_backs : List Removal → Point
  after_backs front = point_then start (with_backs start before front)

  -- of other names all is as it was
  pub record Returns (front : List Removal) (point : Point) : Type 0 where
    pub removals : point.removals ≡ (point_then start before).removals
    pub backs : (x : Removal) → list_any (shares_name x) front ≡ false → is_back point.state x ≡ is_back (point_then start before).state x
    pub names : (x : Removal) → list_any (shares_name x) front ≡ false → is_entry_name point.state.members x.pkg.name ≡ is_entry_name (point_then start before).state.members x.pkg.name
    pub wanted : (name : List ℕ) → wants name point.state.request ≡ wants name (point_then start before).state.request
    pub none_left : IfSome point.state.request (λ now. removals_left now ≡ [])
    pub asks : IsOpenAt point

  more_named : (x r : Removal) (front : List Removal) → list_any (shares_name x) (front ++ r ∷ []) ≡ false → (list_any (shares_name x) front ≡ false) × (shares_name x r ≡ false)
  more_named x r [] none = (refl, or_left (shares_name x r) false none)
  more_named x r (y ∷ front) none =
      (let later = more_named x r front (or_right (shares_name x y) (list_any (shares_name x) (front ++ r ∷ [])) none) in
      (neither (shares_name x y) (list_any (shares_name x) front) (or_left (shares_name x y) (list_any (shares_name x) (front ++ r ∷ [])) none) later.0, later.1))

  other_back : (x r : Removal) → shares_name x r ≡ false → is_same_pkg r.pkg x.pkg ≡ false
  other_back x r other = ap (λ b. b && bytes_eq r.pkg.version x.pkg.version) (bytes_back x.pkg.name r.pkg.name other)

  things_after : (pkg : Pkg) (t : Done → Bool) (request : Option Request) → t (done.PutBack pkg) ≡ false → list_any t (things_done (noted (done.PutBack pkg) request)) ≡ list_any t (things_done request)
  things_after pkg t None other = refl
  things_after pkg t (Some now) other = any_push t now.done (done.PutBack pkg) other

  wanted_after : (pkg : Pkg) (name : List ℕ) (request : Option Request) → wants name (noted (done.PutBack pkg) request) ≡ wants name request
  wanted_after pkg name None = refl
  wanted_after pkg name (Some now) = refl

  left_after : (pkg : Pkg) (request : Option Request) → IfSome request (λ now. removals_left now ≡ []) → IfSome (noted (done.PutBack pkg) request) (λ now. removals_left now ≡ [])
  left_after pkg None none = tt
  left_after pkg (Some now) none = ap (λ n. drop n now.removals) (count_same is_removal_done now.done (done.PutBack pkg) refl) ∙ none

  returns_same : (front : List Removal) (removal : Removal) (point : Point) → Returns front point → Returns (front ++ removal ∷ []) point
  returns_same front removal point so = record {
    removals = so.removals;
    backs = λ x none. so.backs x (more_named x removal front none).0;
    names = λ x none. so.names x (more_named x removal front none).0;
    wanted = so.wanted;
    none_left = so.none_left;
    asks = so.asks;
  }

  returns_with : (front : List Removal) (removal : Removal) (point : Point) (old : Member) (files : List Placed) → member_pkg old ≡ removal.pkg → Returns front point → Returns (front ++ removal ∷ []) (point_after point (PutsBack old files))
  returns_with front removal point old files same so = record {
    removals = so.removals;
    backs = λ x none.
        things_after (member_pkg old) (puts_back x.pkg) point.state.request (ap (λ p. is_same_pkg p x.pkg) same ∙ other_back x removal (more_named x removal front none).1)
        ∙ so.backs x (more_named x removal front none).0;
    names = λ x none.
        any_push (is_called x.pkg.name) point.state.members old (ap (λ (p : Pkg). bytes_eq x.pkg.name p.name) same ∙ (more_named x removal front none).1)
        ∙ so.names x (more_named x removal front none).0;
    wanted = λ name. wanted_after (member_pkg old) name point.state.request ∙ so.wanted name;
    none_left = left_after (member_pkg old) point.state.request so.none_left;
    asks = (and_noted (done.PutBack (member_pkg old)) so.asks.0, ap (option_map (and_noted (done.PutBack (member_pkg old)))) so.asks.1);
  }

  pub returns_next : (front : List Removal) (removal : Removal) (point : Point) → IsOfItself removal → Returns front point → Returns (front ++ removal ∷ []) (step_point point (back_of point removal).does)
  returns_next front removal point itself so = by removal.kept (why_of point.files point.state.owned point.state.members removal.kept) itself
    where
      by : (kept : Option (Member × List Placed)) (why : Option Why) → IfSome kept (λ old. member_pkg old.0 ≡ removal.pkg) → Returns (front ++ removal ∷ []) (step_point point (back_with removal kept why).does)
      by kept (Some why) itself = returns_same front removal point so
      by None None itself = returns_same front removal point so
      by (Some old) None itself = returns_with front removal point old.0 old.1 itself so

  -- the package is put back where something is done
  pub is_back_then : (removal : Removal) (point : Point) (now : Request) → point.state.request ≡ Some now → IsOfItself removal → is_some (back_of point removal).does ≡ true → is_back (step_point point (back_of point removal).does).state removal ≡ true
  is_back_then removal point now opened itself does = by removal.kept (why_of point.files point.state.owned point.state.members removal.kept) itself does
    where
      last : (t : Done → Bool) (xs : List Done) (x : Done) → t x ≡ true → list_any t (xs ++ x ∷ []) ≡ true
      last t [] x here = rw here refl
      last t (y ∷ xs) x here = or_second (t y) (list_any t (xs ++ x ∷ [])) (last t xs x here)

      by : (kept : Option (Member × List Placed)) (why : Option Why) → IfSome kept (λ old. member_pkg old.0 ≡ removal.pkg) → is_some (back_with removal kept why).does ≡ true → is_back (step_point point (back_with removal kept why).does).state removal ≡ true
      by kept (Some why) itself does = absurd (false≢true does)
      by None None itself does = absurd (false≢true does)
      by (Some old) None itself does =
          ap (λ (r : Option Request). list_any (puts_back removal.pkg) (things_done (noted (done.PutBack (member_pkg old.0)) r))) opened
          ∙ last (puts_back removal.pkg) now.done (done.PutBack (member_pkg old.0)) (ap (λ p. is_same_pkg p removal.pkg) itself ∙ pkg_self removal.pkg)

  returns_first : IsOpenAt (point_then start before) → IfSome (point_then start before).state.request (λ now. removals_left now ≡ []) → Returns [] (point_then start before)
  returns_first opened none = record { removals = refl; backs = λ x other. refl; names = λ x other. refl; wanted = λ name. refl; none_left = none; asks = opened }

  returns_on : (gone left : List Removal) → ((k : ℕ) (removal : Removal) → slice_get left k ≡ Some removal → IsOfItself removal) → Returns gone (point_then start (with_backs start before gone))
      → Returns (gone ++ left) (point_then start (with_backs start before (gone ++ left)))
  returns_on gone [] itself so = subst (λ rs. Returns rs (point_then start (with_backs start before rs))) (sym (append-nil gone)) so
  returns_on gone (removal ∷ left) itself so =
      let point : Point = point_then start (with_backs start before gone) in
      let next = returns_next gone removal point (itself 0 removal refl) so in
      let there : point_then start (with_backs start before (gone ++ removal ∷ [])) ≡ step_point point (back_of point removal).does =
      ap (point_then start) (backs_push start before gone removal) ∙ then_next start (with_backs start before gone) (back_of point removal) in
      subst (λ rs. Returns rs (point_then start (with_backs start before rs))) (append_assoc gone (removal ∷ []) left)
      (returns_on (gone ++ removal ∷ []) left (λ k r is. itself (suc k) r is) (subst (Returns (gone ++ removal ∷ [])) (sym there) next))

  pub returns_all : (front : List Removal) → ((k : ℕ) (removal : Removal) → slice_get front k ≡ Some removal → IsOfItself removal) → IsOpenAt (point_then start before)
      → IfSome (point_then start before).state.request (λ now. removals_left now ≡ []) → Returns front (point_then start (with_backs start before front))
  returns_all front itself opened none = returns_on [] front itself (returns_first opened none)

  -- what is left to be put back after a package that was
  module _ (apart : IsDistinct bytes_eq (names_of (gone_pkgs (point_then start before).removals))) (all : AreOfThemselves (point_then start before)) (none : IfSome (point_then start before).state.request (λ now. removals_left now ≡ []))
      (opened : IsOpenAt (point_then start before))
      (front left : List Removal) (removal : Removal) (split : backs_left (point_then start before) ≡ front ++ removal ∷ left) where
    abbrev xs : List Removal
    xs = take_while (λ (r : Removal). not (is_back (point_then start before).state r)) (point_then start before).removals

    parts : Split (is_missed (point_then start before).state) xs (reverse left) removal (reverse front)
    parts =
        split_at (is_missed (point_then start before).state) xs (reverse left) removal (reverse front)
        (sym (reverse-reverse (filter (is_missed (point_then start before).state) xs)) ∙ ap reverse split ∙ reverse-append front (removal ∷ left) ∙ ap (λ rs. rs ++ reverse front) (reverse-append (removal ∷ []) left) ∙ append_assoc (reverse left) (removal ∷ []) (reverse front))

    rest : (more : List Removal) × ((point_then start before).removals ≡ xs ++ more)
    rest = rest_while (λ (r : Removal). not (is_back (point_then start before).state r)) (point_then start before).removals

    -- all that were removed: those before it, itself, and those behind it
    whole : (point_then start before).removals ≡ parts.front ++ removal ∷ (parts.back ++ rest.0)
    whole = rest.1 ∙ ap (λ rs. rs ++ rest.0) parts.is ∙ append_assoc parts.front (removal ∷ parts.back) rest.0

    names_apart : IsDistinct bytes_eq (names_of (gone_pkgs (parts.front ++ removal ∷ (parts.back ++ rest.0))))
    names_apart = subst (λ rs. IsDistinct bytes_eq (names_of (gone_pkgs rs))) whole apart

    -- one that stands before it has another name than those that were tried
    untried : (k : ℕ) (x : Removal) → slice_get parts.front k ≡ Some x → list_any (shares_name x) (front ++ removal ∷ []) ≡ false
    untried k x is =
        let none_later = behind_apart parts.front (removal ∷ (parts.back ++ rest.0)) k x names_apart is in
        let other = or_left (shares_name x removal) (list_any (shares_name x) (parts.back ++ rest.0)) none_later in
        let back = first_part (shares_name x) parts.back rest.0 (or_right (shares_name x removal) (list_any (shares_name x) (parts.back ++ rest.0)) none_later) in
        let behind = any_chosen (shares_name x) (is_missed (point_then start before).state) parts.back back in
        let turned : list_any (shares_name x) front ≡ false =
        ap (list_any (shares_name x)) (sym (reverse-reverse front)) ∙ any_reverse (shares_name x) (reverse front) (ap (list_any (shares_name x)) (sym parts.behind_is) ∙ behind) in
        any_push (shares_name x) front removal other ∙ turned
      where
        first_part : (t : Removal → Bool) (ys zs : List Removal) → list_any t (ys ++ zs) ≡ false → list_any t ys ≡ false
        first_part t [] zs none = refl
        first_part t (y ∷ ys) zs none = neither (t y) (list_any t ys) (or_left (t y) (list_any t (ys ++ zs)) none) (first_part t ys zs (or_right (t y) (list_any t (ys ++ zs)) none))

    itself_all : All IsOfItself (backs_left (point_then start before))
    itself_all =
        let kept = all_front IsOfItself xs rest.0 (subst (All IsOfItself) rest.1 all) in
        All-permutation IsOfItself (filter (is_missed (point_then start before).state) xs) (backs_left (point_then start before)) (IsPermutation-reverse (filter (is_missed (point_then start before).state) xs))
        (All-filter (is_missed (point_then start before).state) IsOfItself xs kept)

    tried_itself : (k : ℕ) (r : Removal) → slice_get (front ++ removal ∷ []) k ≡ Some r → IsOfItself r
    tried_itself k r is =
        all_place IsOfItself (backs_left (point_then start before)) k r itself_all
        (ap (λ rs. slice_get rs k) (split ∙ sym (append_assoc front (removal ∷ []) left)) ∙ get_front (front ++ removal ∷ []) left k r is)

    -- where the switch stands then
    abbrev pub then_at : Point
    then_at = point_then start (with_backs start before (front ++ removal ∷ []))

    pub so : Returns (front ++ removal ∷ []) then_at
    so = returns_all (front ++ removal ∷ []) tried_itself opened none

    module _ (does : is_some (back_of (point_then start (with_backs start before front)) removal).does ≡ true) where
      pub was_back : is_back then_at.state removal ≡ true
      was_back =
          let point : Point = point_then start (with_backs start before front) in
          let earlier = returns_all front (λ k r is. tried_itself k r (get_front front (removal ∷ []) k r is)) opened none in
          let here = tried_itself (length front) removal (get_at front removal) in
          ap (λ (p : Point). is_back p.state removal) (ap (point_then start) (backs_push start before front removal) ∙ then_next start (with_backs start before front) (back_of point removal))
          ∙ is_back_then removal point earlier.asks.0 earlier.asks.1 here does
        where
          get_at : (ys : List Removal) (y : Removal) → slice_get (ys ++ y ∷ []) (length ys) ≡ Some y
          get_at [] y = refl
          get_at (z ∷ ys) y = get_at ys y

      pub left_then : backs_left then_at ≡ left
      left_then =
          let state = then_at.state in
          let all_removals = so.removals ∙ whole in
          let unreturned = any_each (λ (r : Removal). not (not (is_back state r))) parts.front
          (λ k x is.
          ap (λ b. not (not b)) (so.backs x (untried k x is))
          ∙ none_at (λ (r : Removal). not (not (is_back (point_then start before).state r))) xs k x (all_while (λ (r : Removal). not (is_back (point_then start before).state r)) (point_then start before).removals)
          (ap (λ rs. slice_get rs k) parts.is ∙ get_front parts.front (removal ∷ parts.back) k x is)) in
          let taken : take_while (λ (r : Removal). not (is_back state r)) then_at.removals ≡ parts.front =
          ap (take_while (λ (r : Removal). not (is_back state r))) all_removals ∙ while_at (λ (r : Removal). not (is_back state r)) parts.front removal (parts.back ++ rest.0) unreturned (ap not was_back) in
          let missed : filter (is_missed state) parts.front ≡ filter (is_missed (point_then start before).state) parts.front =
          filter_each (is_missed state) (is_missed (point_then start before).state) parts.front (λ k x is. λ i. so.wanted x.pkg.name i && not (so.names x (untried k x is) i)) in
          ap (λ rs. reverse (filter (is_missed state) rs)) taken ∙ ap reverse (missed ∙ parts.before_is) ∙ reverse-reverse left
