-- What is left of an open request stays sound.
use Rattle.std.proofs.Common.{◌≡◌, ◌∙◌, ℕ, zero, suc, ◌+◌, ◌≤◌, List, [], ◌∷◌, ◌++◌, map, filter, drop, length, reverse, Bool, true, false, not, cond, refl, sym, ap, subst, arith, Option, Some, None}
use Rattle.std.specs.Prelude.{◌&&◌, ◌||◌, bytes_eq, slice_get, IsTrue}
use Rattle.std.specs.List.{AllByRecursion, IsDistinct, list_all, list_any}
use Rattle.std.proofs.lemmas.Bool.{false≢true}
use Rattle.std.proofs.lemmas.Bool.Decides.{Decides-eqb}
use Rattle.std.proofs.lemmas.List.{append-nil, drop_all, length-append, reverse-append}
use Rattle.std.proofs.lemmas.List.Elements.{filter-append}
use Rattle.std.proofs.lemmas.List.Folds.{list_all-append, list_any-append}
use Rattle.std.proofs.lemmas.Slice.Eq.{bytes_eq-Decides}
use Rattle.opam_names.specs.declared.packages.Pkg.{Pkg}
use Rattle.opam_package.specs.declared.package.Member.{Member}
use Rattle.owner_map.specs.Owning.{is_same_pkg}
use Rattle.switch_journal.specs.Applying.{are_removed, is_next, is_removal, next_removal}
use Rattle.switch_journal.specs.declared.request.Done.{Done}
use Rattle.switch_journal.specs.declared.request.Done.TheVariants as done
use Rattle.switch_state.specs.Actions.{and_member, and_noted, is_other_member, without_pkg}
use Rattle.switch_state.specs.Sound.{AreInOrder, LeaveInReverse, NamesDiffer, RequestIsSound, comes, coming, has_edge, installs_of, is_apart, is_kept_entry, is_removal_done, member_pkg, member_pkgs, name_of, removals_left, stays}
use Rattle.switch_state.specs.State.{Request, SwitchState, open_of}
use Rattle.switch_state.proofs.SoundKept.{and_left, and_right, any_end, both_true, bytes_back, is_false, or_left, or_right, pkg_self}
use Rattle.switch_state.proofs.SoundLeft.{distinct_left}

-- ---- lists

or_none : (a b : Bool) → b ≡ false → (a || (b || false)) ≡ a
or_none true b is = refl
or_none false b is = ap (λ k. k || false) is

and_none : (a b : Bool) → b ≡ false → (a && b) ≡ false
and_none true b is = is
and_none false b is = refl

pub opposite : (b : Bool) → not b ≡ true → b ≡ false
opposite true is = absurd (false≢true is)
opposite false is = refl

module _ {X : Type 0} where
  filter_same : (s t : X → Bool) (xs : List X) → ((x : X) → s x ≡ t x) → filter s xs ≡ filter t xs
  filter_same s t [] same = refl
  filter_same s t (x ∷ xs) same = λ i. cond (same x i) (x ∷ filter_same s t xs same i) (filter_same s t xs same i)

  filter_none : (xs : List X) → filter (λ (x : X). false) xs ≡ []
  filter_none [] = refl
  filter_none (x ∷ xs) = filter_none xs

  filter_whole : (t : X → Bool) (xs : List X) → list_all t xs ≡ true → filter t xs ≡ xs
  filter_whole t [] all = refl
  filter_whole t (x ∷ xs) all = λ i. cond (and_left (t x) (list_all t xs) all i) (x ∷ filter_whole t xs (and_right (t x) (list_all t xs) all) i) (filter_whole t xs (and_right (t x) (list_all t xs) all) i)

  push : (t : X → Bool) (b : Bool) (x : X) (xs : List X) → filter t (cond b (x ∷ xs) xs) ≡ cond b (cond (t x) (x ∷ filter t xs) (filter t xs)) (filter t xs)
  push t true x xs = refl
  push t false x xs = refl

  swap_by : (o b c : Bool) (x : X) (ones others : List X) → (o ≡ true → b ≡ c) → ones ≡ others → cond b (cond o (x ∷ ones) ones) ones ≡ cond o (cond c (x ∷ others) others) others
  swap_by true b c x ones others same later = λ i. cond (same refl i) (x ∷ later i) (later i)
  swap_by false true c x ones others same later = later
  swap_by false false c x ones others same later = later

  -- what is left of a choice is the choice of what is left
  filter_swap : (keep s t : X → Bool) (xs : List X) → ((x : X) → keep x ≡ true → s x ≡ t x) → filter keep (filter s xs) ≡ filter t (filter keep xs)
  filter_swap keep s t [] same = refl
  filter_swap keep s t (x ∷ xs) same =
      push keep (s x) x (filter s xs)
      ∙ swap_by (keep x) (s x) (t x) x (filter keep (filter s xs)) (filter t (filter keep xs)) (same x) (filter_swap keep s t xs same)
      ∙ sym (push t (keep x) x (filter keep xs))

  any_left_by : (keep t : X → Bool) (x : X) (xs : List X) (b : Bool) → keep x ≡ b → (keep x ≡ false → t x ≡ false) → list_any t (filter keep xs) ≡ list_any t xs → list_any t (cond b (x ∷ filter keep xs) (filter keep xs)) ≡ (t x || list_any t xs)
  any_left_by keep t x xs true is none later = ap (λ b. t x || b) later
  any_left_by keep t x xs false is none later = later ∙ sym (ap (λ b. b || list_any t xs) (none is))

  -- what is left has one where the whole does, if none that goes is one
  any_left_same : (keep t : X → Bool) (xs : List X) → ((x : X) → keep x ≡ false → t x ≡ false) → list_any t (filter keep xs) ≡ list_any t xs
  any_left_same keep t [] none = refl
  any_left_same keep t (x ∷ xs) none = any_left_by keep t x xs (keep x) refl (none x) (any_left_same keep t xs none)

  any_same : (p s t : X → Bool) (xs : List X) → ((x : X) → p x ≡ false → s x ≡ t x) → list_any p xs ≡ false → list_any s xs ≡ list_any t xs
  any_same p s t [] same none = refl
  any_same p s t (x ∷ xs) same none = λ i. same x (or_left (p x) (list_any p xs) none) i || any_same p s t xs same (or_right (p x) (list_any p xs) none) i

  pub all_more : (p s t : X → Bool) (xs : List X) → ((x : X) → p x ≡ false → s x ≡ true → t x ≡ true) → list_any p xs ≡ false → list_all s xs ≡ true → list_all t xs ≡ true
  all_more p s t [] more none all = refl
  all_more p s t (x ∷ xs) more none all =
      both_true (t x) (list_all t xs) (more x (or_left (p x) (list_any p xs) none) (and_left (s x) (list_all s xs) all))
      (all_more p s t xs more (or_right (p x) (list_any p xs) none) (and_right (s x) (list_all s xs) all))

  pub none_of : (xs : List X) → list_any (λ (x : X). false) xs ≡ false
  none_of [] = refl
  none_of (x ∷ xs) = none_of xs

  all_kept : (keep t : X → Bool) (xs : List X) → list_all t xs ≡ true → list_all t (filter keep xs) ≡ true
  all_kept keep t [] all = refl
  all_kept keep t (x ∷ xs) all = by (keep x) (all_kept keep t xs (and_right (t x) (list_all t xs) all))
    where
      by : (b : Bool) → list_all t (filter keep xs) ≡ true → list_all t (cond b (x ∷ filter keep xs) (filter keep xs)) ≡ true
      by true later = both_true (t x) (list_all t (filter keep xs)) (and_left (t x) (list_all t xs) all) later
      by false later = later

  pub all_last : (t : X → Bool) (xs : List X) (x : X) → list_all t xs ≡ true → t x ≡ true → list_all t (xs ++ x ∷ []) ≡ true
  all_last t xs x all here = list_all-append t xs (x ∷ []) ∙ both_true (list_all t xs) (t x && true) all (both_true (t x) true here refl)

  drop_next : (xs : List X) (n : ℕ) (x : X) → slice_get xs n ≡ Some x → drop n xs ≡ x ∷ drop (suc n) xs
  drop_next [] n x is = absurd (cc)
  drop_next (y ∷ xs) zero x is = let same : y ≡ x = cc in ap (λ (k : X). k ∷ xs) same
  drop_next (y ∷ xs) (suc n) x is = drop_next xs n x is

  any_at : (t : X → Bool) (xs : List X) (n : ℕ) (x : X) → slice_get xs n ≡ Some x → t x ≡ true → list_any t xs ≡ true
  any_at t [] n x is here = absurd (cc)
  any_at t (y ∷ xs) zero x is here = let same : y ≡ x = cc in λ i. (ap t same ∙ here) i || list_any t xs
  any_at t (y ∷ xs) (suc n) x is here = later (t y) (any_at t xs n x is here)
    where
      later : (b : Bool) → list_any t xs ≡ true → (b || list_any t xs) ≡ true
      later true is = refl
      later false is = is

-- ---- packages

pub same_pkg : (a b : Pkg) → is_same_pkg a b ≡ true → a ≡ b
same_pkg a b is =
    let name = (bytes_eq-Decides a.name b.name).0 (and_left (bytes_eq a.name b.name) (bytes_eq a.version b.version) is) in
    let version = (bytes_eq-Decides a.version b.version).0 (and_right (bytes_eq a.name b.name) (bytes_eq a.version b.version) is) in
    λ i. record { name = name i; version = version i }

-- packages of two names are two
other_pkg : (a b : Pkg) → bytes_eq b.name a.name ≡ false → is_same_pkg a b ≡ false
other_pkg a b other = ap (λ k. k && bytes_eq a.version b.version) (bytes_back b.name a.name other)

-- ---- what the request has done

pub installs_more : (dones more : List Done) → installs_of (dones ++ more) ≡ installs_of dones ++ installs_of more
installs_more [] more = refl
installs_more (done.Removed pkg number kept ∷ dones) more = installs_more dones more
installs_more (done.Installed pkg ∷ dones) more = ap (λ (ps : List Pkg). pkg ∷ ps) (installs_more dones more)
installs_more (done.PutBack pkg ∷ dones) more = installs_more dones more

removal_same : (what : Done) → is_removal what ≡ is_removal_done what
removal_same (done.Removed pkg number kept) = refl
removal_same (done.Installed pkg) = refl
removal_same (done.PutBack pkg) = refl

-- as many removals are done as the journal counts
counted_same : (dones : List Done) → length (filter is_removal dones) ≡ length (filter is_removal_done dones)
counted_same dones = ap (λ (ds : List Done). length ds) (filter_same is_removal is_removal_done dones removal_same)

module _ (request : Request) (what : Done) where
  pub installs_as : installs_of (what ∷ []) ≡ [] → installs_of (request.done ++ what ∷ []) ≡ installs_of request.done
  installs_as none = installs_more request.done (what ∷ []) ∙ ap (λ (ps : List Pkg). installs_of request.done ++ ps) none ∙ append-nil (installs_of request.done)

  pub stays_as : installs_of (what ∷ []) ≡ [] → (m : Member) → stays (and_noted what request) m ≡ stays request m
  stays_as none m = ap (λ (ps : List Pkg). not (list_any (is_same_pkg (member_pkg m)) ps) && not (list_any (is_same_pkg (member_pkg m)) request.removals)) (installs_as none)

  -- where all removals are done none is left, whatever is done next
  pub none_left : is_removal_done what ≡ false → are_removed (open_of request) ≡ true → removals_left (and_noted what request) ≡ []
  none_left other removed =
      let count : length (filter is_removal_done request.done) ≡ length request.removals = sym (counted_same request.done) ∙ (Decides-eqb (length (filter is_removal request.done)) (length request.removals)).0 removed in
      let later : filter is_removal_done (request.done ++ what ∷ []) ≡ filter is_removal_done request.done =
      filter-append is_removal_done request.done (what ∷ []) ∙ ap (λ b. filter is_removal_done request.done ++ cond b (what ∷ []) []) other ∙ append-nil (filter is_removal_done request.done) in
      let all : length request.removals ≤ length (filter is_removal_done (request.done ++ what ∷ [])) = let long = ap (λ (ds : List Done). length ds) later in omega (arith, long, count) in
      drop_all (length (filter is_removal_done (request.done ++ what ∷ []))) request.removals all

module _ (request : Request) (pkg : Pkg) where
  pub stays_other : (m : Member) → is_same_pkg (member_pkg m) pkg ≡ false → stays (and_noted (done.Installed pkg) request) m ≡ stays request m
  stays_other m other =
      let t = is_same_pkg (member_pkg m) in
      ap (λ b. not b && not (list_any t request.removals))
      (ap (list_any t) (installs_more request.done (done.Installed pkg ∷ [])) ∙ list_any-append t (installs_of request.done) (pkg ∷ []) ∙ or_none (list_any t (installs_of request.done)) (t pkg) other)

  -- what it installs does not stay
  pub goes_itself : (m : Member) → is_same_pkg (member_pkg m) pkg ≡ true → stays (and_noted (done.Installed pkg) request) m ≡ false
  goes_itself m same =
      let t = is_same_pkg (member_pkg m) in
      ap (λ b. not b && not (list_any t request.removals)) (ap (list_any t) (installs_more request.done (done.Installed pkg ∷ [])) ∙ any_end t (installs_of request.done) pkg same)

-- nor does what it removes
pub removal_goes : (request : Request) (m : Member) → list_any (is_same_pkg (member_pkg m)) request.removals ≡ true → stays request m ≡ false
removal_goes request m is = and_none (not (list_any (is_same_pkg (member_pkg m)) (installs_of request.done))) (not (list_any (is_same_pkg (member_pkg m)) request.removals)) (ap not is)

-- ---- an entry stands apart as before

apart_by : (s t e f c d : Bool) → t ≡ s → (e ≡ false → f ≡ false) → d ≡ c → (not s || (not e && not c)) ≡ true → (not t || (not f && not d)) ≡ true
apart_by false t e f c d stay less same is = ap (λ b. not b || (not f && not d)) stay
apart_by true t e f c d stay less same is =
    let edge = less (opposite e (and_left (not e) (not c) is)) in
    let target = same ∙ opposite c (and_right (not e) (not c) is) in
    λ i. not (stay i) || (not (edge i) && not (target i))

module _ (state after : SwitchState) (request later : Request) (target : later.target ≡ request.target) where
  coming_as : ((name : List ℕ) → list_any (is_kept_entry later name) after.members ≡ list_any (is_kept_entry request name) state.members) → coming after later ≡ coming state request
  coming_as same = ap (filter (comes after later)) target ∙ filter_same (comes after later) (comes state request) request.target (λ t. ap not (same (name_of t)))

  apart_as : coming after later ≡ coming state request → (m : Member) → stays later m ≡ stays request m → (has_edge m (removals_left request) ≡ false → has_edge m (removals_left later) ≡ false) → is_apart state request m ≡ true → is_apart after later m ≡ true
  apart_as same m stay less is =
      apart_by (stays request m) (stays later m) (has_edge m (removals_left request)) (has_edge m (removals_left later)) (has_edge m (member_pkgs (coming state request))) (has_edge m (member_pkgs (coming after later))) stay less
      (ap (λ (ms : List Member). has_edge m (member_pkgs ms)) same) is

  apart_not : (m : Member) → stays later m ≡ false → is_apart after later m ≡ true
  apart_not m goes = ap (λ b. not b || (not (has_edge m (removals_left later)) && not (has_edge m (member_pkgs (coming after later))))) goes

-- ---- a package comes

module _ (member : Member) (paths : List (List ℕ)) (what : Done) (state : SwitchState) (request : Request) where
  abbrev pub came : SwitchState
  came = and_member member paths what state

  abbrev pub later : Request
  later = and_noted what request

  pub comes_left : removals_left later ≡ [] → list_any (λ (m : Member). bytes_eq (name_of member) (name_of m)) state.members ≡ false → ((m : Member) → is_same_pkg (member_pkg m) (member_pkg member) ≡ false → stays later m ≡ stays request m) → stays later member ≡ false
      → RequestIsSound state request → (AreInOrder (coming state request) (installs_of request.done) → AreInOrder (coming state request) (installs_of later.done)) → RequestIsSound came later
  comes_left none absent stay goes sound ordered =
      let is_it = λ (m : Member). bytes_eq (name_of member) (name_of m) in
      let others = λ (m : Member) (other : is_it m ≡ false). stay m (other_pkg (member_pkg m) (member_pkg member) other) in
      let entries : (name : List ℕ) → list_any (is_kept_entry later name) (state.members ++ member ∷ []) ≡ list_any (is_kept_entry request name) state.members =
      λ name.
      list_any-append (is_kept_entry later name) state.members (member ∷ [])
      ∙ or_none (list_any (is_kept_entry later name) state.members) (is_kept_entry later name member) (and_none (bytes_eq (name_of member) name) (stays later member) goes)
      ∙ any_same is_it (is_kept_entry later name) (is_kept_entry request name) state.members (λ m other. ap (λ b. bytes_eq (name_of m) name && b) (others m other)) absent in
      let same = coming_as state came request later refl entries in
      record {
        target = sound.target;
        removals = subst (λ (ps : List Pkg). filter (λ (pkg : Pkg). list_any (is_same_pkg pkg) ps) (member_pkgs (state.members ++ member ∷ [])) ≡ reverse ps) (sym none) (filter_none (member_pkgs (state.members ++ member ∷ [])));
        apart =
            all_last (is_apart came later) state.members member
            (all_more is_it (is_apart state request) (is_apart came later) state.members (λ m other is. apart_as state came request later refl same m (others m other) (λ edge. ap (has_edge m) none) is) absent sound.apart)
            (apart_not state came request later refl member goes);
        order = subst (λ (ms : List Member). AreInOrder ms (installs_of later.done)) (sym same) (ordered sound.order);
      }

-- ---- a package goes

abbrev pkg_name : Pkg → List ℕ
pkg_name pkg = pkg.name

names_are : (members : List Member) → map pkg_name (member_pkgs members) ≡ map name_of members
names_are [] = refl
names_are (m ∷ members) = ap (λ (names : List (List ℕ)). name_of m ∷ names) (names_are members)

all_end : (P : List ℕ → Type 0) (xs : List Pkg) (pkg : Pkg) → AllByRecursion P (map pkg_name (xs ++ pkg ∷ [])) → P pkg.name
all_end P [] pkg all = all.0
all_end P (x ∷ xs) pkg all = all_end P xs pkg all.1

module _ (pkg : Pkg) where
  abbrev is_other : Pkg → Bool
  is_other p = not (is_same_pkg p pkg)

  pkgs_left : (members : List Member) → member_pkgs (filter (is_other_member pkg) members) ≡ filter is_other (member_pkgs members)
  pkgs_left [] = refl
  pkgs_left (m ∷ members) = by (is_other_member pkg m) (pkgs_left members)
    where
      by : (b : Bool) → member_pkgs (filter (is_other_member pkg) members) ≡ filter is_other (member_pkgs members)
          → member_pkgs (cond b (m ∷ filter (is_other_member pkg) members) (filter (is_other_member pkg) members)) ≡ cond b (member_pkg m ∷ filter is_other (member_pkgs members)) (filter is_other (member_pkgs members))
      by true later = ap (λ (ps : List Pkg). member_pkg m ∷ ps) later
      by false later = later

  -- those before it in a list without a name twice are others
  front_other : (xs : List Pkg) → IsDistinct bytes_eq (map pkg_name (xs ++ pkg ∷ [])) → list_all is_other xs ≡ true
  unfolding IsDistinct
  front_other [] apart = refl
  front_other (x ∷ xs) apart =
      both_true (is_other x) (list_all is_other xs)
      (ap (λ b. not (b && bytes_eq x.version pkg.version)) (all_end (λ y. bytes_eq x.name y ≡ false) xs pkg apart.0))
      (front_other xs apart.1)

  -- where these leave in reverse, and the first of them goes, the rest do
  reverse_left : (rest ps : List Pkg) → IsDistinct bytes_eq (map pkg_name ps) → filter (λ (p : Pkg). list_any (is_same_pkg p) (pkg ∷ rest)) ps ≡ reverse (pkg ∷ rest) → filter (λ (p : Pkg). list_any (is_same_pkg p) rest) (filter is_other ps) ≡ reverse rest
  reverse_left rest ps apart leave =
      let all = λ (p : Pkg). list_any (is_same_pkg p) (pkg ∷ rest) in
      let some = λ (p : Pkg). list_any (is_same_pkg p) rest in
      let whole : filter all ps ≡ reverse rest ++ pkg ∷ [] = leave ∙ reverse-append (pkg ∷ []) rest in
      let differ : IsDistinct bytes_eq (map pkg_name (reverse rest ++ pkg ∷ [])) = subst (λ (qs : List Pkg). IsDistinct bytes_eq (map pkg_name qs)) whole (distinct_left all pkg_name ps apart) in
      sym (filter_swap is_other all some ps (λ p other. ap (λ b. b || some p) (opposite (is_same_pkg p pkg) other)))
      ∙ ap (filter is_other) whole
      ∙ filter-append is_other (reverse rest) (pkg ∷ [])
      ∙ (λ i. filter_whole is_other (reverse rest) (front_other (reverse rest) differ) i ++ cond (not (pkg_self pkg i)) (pkg ∷ []) [])
      ∙ append-nil (reverse rest)

  -- the next removal
  next_at : (next : Option Pkg) → is_next pkg next ≡ true → next ≡ Some pkg
  next_at None is = absurd (false≢true is)
  next_at (Some next) is = ap (λ (p : Pkg). Some p) (same_pkg next pkg is)

  not_other : (b : Bool) → not b ≡ false → b ≡ true
  not_other true is = refl
  not_other false is = absurd (false≢true (sym is))

  module _ (number : ℕ) (kept : Bool) (state : SwitchState) (request : Request) (next : is_next pkg (next_removal (open_of request)) ≡ true) where
    abbrev what : Done
    what = done.Removed pkg number kept

    abbrev pub gone : SwitchState
    gone = without_pkg pkg what state

    abbrev pub then_left : Request
    then_left = and_noted what request

    abbrev count : ℕ
    count = length (filter is_removal_done request.done)

    next_is : slice_get request.removals count ≡ Some pkg
    next_is = ap (slice_get request.removals) (sym (counted_same request.done)) ∙ next_at (next_removal (open_of request)) next

    one_more : length (filter is_removal_done (request.done ++ what ∷ [])) ≡ suc count
    one_more =
        let all = ap (λ (ds : List Done). length ds) (filter-append is_removal_done request.done (what ∷ [])) in
        let long = length-append (filter is_removal_done request.done) (what ∷ []) in
        omega (arith, all, long)

    pub left_is : removals_left request ≡ pkg ∷ removals_left then_left
    left_is = drop_next request.removals count pkg next_is ∙ ap (λ n. pkg ∷ drop n request.removals) (sym one_more)

    pub is_removal_of : list_any (is_same_pkg pkg) request.removals ≡ true
    is_removal_of = any_at (is_same_pkg pkg) request.removals count pkg next_is (pkg_self pkg)

    its_goes : (m : Member) → is_other_member pkg m ≡ false → stays request m ≡ false
    its_goes m gone_too =
        removal_goes request m (ap (λ (p : Pkg). list_any (is_same_pkg p) request.removals) (same_pkg (member_pkg m) pkg (not_other (is_same_pkg (member_pkg m) pkg) gone_too)) ∙ is_removal_of)

    pub goes_left : NamesDiffer state.members → RequestIsSound state request → RequestIsSound gone then_left
    goes_left names sound =
        let stay = stays_as request what refl in
        let entries : (name : List ℕ) → list_any (is_kept_entry then_left name) (filter (is_other_member pkg) state.members) ≡ list_any (is_kept_entry request name) state.members =
        λ name.
        any_left_same (is_other_member pkg) (is_kept_entry then_left name) state.members (λ m gone_too. and_none (bytes_eq (name_of m) name) (stays then_left m) (stay m ∙ its_goes m gone_too))
        ∙ any_same (λ (m : Member). false) (is_kept_entry then_left name) (is_kept_entry request name) state.members (λ m none. ap (λ b. bytes_eq (name_of m) name && b) (stay m)) (none_of state.members) in
        let same = coming_as state gone request then_left refl entries in
        let leave : filter (λ (p : Pkg). list_any (is_same_pkg p) (pkg ∷ removals_left then_left)) (member_pkgs state.members) ≡ reverse (pkg ∷ removals_left then_left) =
        subst (λ (ps : List Pkg). filter (λ (p : Pkg). list_any (is_same_pkg p) ps) (member_pkgs state.members) ≡ reverse ps) left_is sound.removals in
        record {
          target = sound.target;
          removals =
              ap (filter (λ (p : Pkg). list_any (is_same_pkg p) (removals_left then_left))) (pkgs_left state.members)
              ∙ reverse_left (removals_left then_left) (member_pkgs state.members) (subst (IsDistinct bytes_eq) (sym (names_are state.members)) names) leave;
          apart =
              all_kept (is_other_member pkg) (is_apart gone then_left) state.members
              (all_more (λ (m : Member). false) (is_apart state request) (is_apart gone then_left) state.members
              (λ m none is. apart_as state gone request then_left refl same m (stay m) (λ edge. or_right _ (has_edge m (removals_left then_left)) (sym (ap (has_edge m) left_is) ∙ edge)) is)
              (none_of state.members) sound.apart);
          order = subst (λ (ms : List Member). AreInOrder ms (installs_of then_left.done)) (sym same) (subst (AreInOrder (coming state request)) (sym (installs_as request what refl)) sound.order);
        }
