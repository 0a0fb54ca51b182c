-- What a request installs, done or not, stays the same with each of its actions.
use Rattle.std.proofs.Common.{◌≡◌, ◌∙◌, ℕ, List, [], ◌∷◌, ◌++◌, filter, Bool, true, false, not, cond, Option, Some, refl, sym, ap, subst}
use Rattle.std.specs.Prelude.{◌&&◌, ◌||◌, IfSome, bytes_eq, is_some}
use Rattle.std.specs.List.{list_any}
use Rattle.std.specs.Option.{option_map}
use Rattle.std.proofs.lemmas.Bool.{false≢true}
use Rattle.opam_names.specs.declared.packages.Pkg.{Pkg}
use Rattle.opam_package.specs.declared.package.Member.{Member}
use Rattle.owner_map.specs.Owning.{is_same_pkg}
use Rattle.journal_text.specs.declared.record.KeptFiles.{KeptFiles}
use Rattle.journal_text.specs.declared.record.Placed.{Placed}
use Rattle.switch_journal.specs.Applying.{are_removed, can_come, installed, is_named, is_put_back, is_same_entry, put_back, removed, with_done, with_package}
use Rattle.switch_journal.specs.Places.{record_path}
use Rattle.switch_journal.specs.declared.request.Done.TheVariants as done
use Rattle.switch_journal.specs.declared.request.Done.{Done}
use Rattle.switch_state.specs.Actions.{Action, CanFollow, Installs, PutsBack, Removes, and_noted, is_other_member, state_after}
use Rattle.switch_state.specs.Sound.{comes, coming, is_kept_entry, member_pkg, name_of, stays}
use Rattle.switch_state.specs.State.{Request, SwitchState, contents_in, member_entry, open_of}
use Rattle.switch_state.specs.Underway.{IsUnderway, RemovesFirst}
use Rattle.switch_state.proofs.Alike.{only}
use Rattle.switch_state.proofs.Asked.{back_asks, removal_asks}
use Rattle.switch_state.proofs.RequestKept.{goes_itself, is_removal_of, removal_goes, same_pkg, stays_as, stays_other}
use Rattle.switch_state.proofs.SoundKept.{absent, bytes_back, pkg_self}
use Rattle.switch_state.proofs.UnderwayKept.{back_is_removal}
use Rattle.change_outcome.proofs.Lists.{and_right, any_map, any_push, or_left, or_right}

-- ---- lists

and_none : (a b : Bool) → b ≡ false → (a && b) ≡ false
and_none true b is = is
and_none false b is = refl

is_not : (b : Bool) → not b ≡ false → b ≡ true
is_not true is = refl
is_not false is = absurd (false≢true (sym is))

module _ {X : Type 0} where
  any_left_same : (keep t : X → Bool) (xs : List X) → ((x : X) → keep x ≡ false → t x ≡ false) → list_any t (filter keep xs) ≡ list_any t xs
  any_left_same keep t [] none = refl
  any_left_same keep t (x ∷ xs) none = by (keep x) refl (any_left_same keep t xs none)
    where
      by : (b : Bool) → keep x ≡ b → list_any t (filter keep xs) ≡ list_any t xs → list_any t (cond b (x ∷ filter keep xs) (filter keep xs)) ≡ (t x || list_any t xs)
      by true is later = ap (λ b. t x || b) later
      by false is later = later ∙ sym (ap (λ b. b || list_any t xs) (none x is))

  any_same : (p s t : X → Bool) (xs : List X) → ((x : X) → p x ≡ false → s x ≡ t x) → list_any p xs ≡ false → list_any s xs ≡ list_any t xs
  any_same p s t [] same none = refl
  any_same p s t (x ∷ xs) same none = λ i. same x (or_left (p x) (list_any p xs) none) i || any_same p s t xs same (or_right (p x) (list_any p xs) none) i

  any_each : (s t : X → Bool) (xs : List X) → ((x : X) → s x ≡ t x) → list_any s xs ≡ list_any t xs
  any_each s t [] same = refl
  any_each s t (x ∷ xs) same = λ i. same x i || any_each s t xs same i

-- ---- what comes

-- what an action notes in the request
abbrev pub thing_of : ℕ → Action → Done
thing_of number (Installs member placed) = done.Installed (member_pkg member)
thing_of number (Removes pkg kept) = done.Removed pkg number (is_some kept)
thing_of number (PutsBack member placed) = done.PutBack (member_pkg member)

-- the open request afterwards: of each name as many entries stay
pub record GoesOn (number : ℕ) (state : SwitchState) (request : Request) (action : Action) (after : SwitchState) : Type 0 where
  pub later : Request
  pub is_open : after.request ≡ Some later
  pub target : later.target ≡ request.target
  pub removals : later.removals ≡ request.removals
  pub done_is : later.done ≡ request.done ++ thing_of number action ∷ []
  pub entries : (name : List ℕ) → list_any (is_kept_entry later name) after.members ≡ list_any (is_kept_entry request name) state.members

-- so the same members come
pub comes_same : (state after : SwitchState) (request later : Request) → later.target ≡ request.target → ((name : List ℕ) → list_any (is_kept_entry later name) after.members ≡ list_any (is_kept_entry request name) state.members) → coming after later ≡ coming state request
comes_same state after request later target same = ap (filter (comes after later)) target ∙ (λ i. filter (λ (m : Member). not (same (name_of m) i)) request.target)

-- no other package stands there whose name is that of the one that comes
others : (member : Member) (members : List Member) (m : Member) → bytes_eq (name_of member) (name_of m) ≡ false → is_same_pkg (member_pkg m) (member_pkg member) ≡ false
others member members m other = ap (λ k. k && bytes_eq (member_pkg m).version (member_pkg member).version) (bytes_back (name_of member) (name_of m) other)

none_named : (member : Member) (placed : List Placed) (state : SwitchState) → can_come (member_pkg member) placed (contents_in state) ≡ true → list_any (λ (m : Member). bytes_eq (name_of member) (name_of m)) state.members ≡ false
none_named member placed state can = sym (any_map member_entry (is_named (name_of member)) state.members) ∙ absent member placed state can

module _ (number : ℕ) (state : SwitchState) (request : Request) (opened : state.request ≡ Some request) where
  removes_on : (pkg : Pkg) (kept : Option KeptFiles) → CanFollow number (Removes pkg kept) state → GoesOn number state request (Removes pkg kept) (state_after number (Removes pkg kept) state)
  removes_on pkg kept follows =
      let what : Done = done.Removed pkg number (is_some kept) in
      let next = removal_asks number pkg kept (contents_in state) follows.0 (open_of request) (subst (λ (o : Option Request). removed number pkg kept (contents_in state) (option_map open_of o) ≡ Some follows.0) opened follows.1) in
      let stay = stays_as request what refl in
      record {
        later = and_noted what request;
        is_open = ap (option_map (and_noted what)) opened;
        target = refl;
        removals = refl;
        done_is = refl;
        entries =
            λ name.
            any_left_same (is_other_member pkg) (is_kept_entry (and_noted what request) name) state.members
            (λ m gone.
            and_none (bytes_eq (name_of m) name) (stays (and_noted what request) m)
            (stay m
            ∙ removal_goes request m
            (ap (λ (p : Pkg). list_any (is_same_pkg p) request.removals) (same_pkg (member_pkg m) pkg (is_not (is_same_pkg (member_pkg m) pkg) gone)) ∙ is_removal_of pkg number (is_some kept) state request next)))
            ∙ any_each (is_kept_entry (and_noted what request) name) (is_kept_entry request name) state.members (λ m. ap (λ b. bytes_eq (name_of m) name && b) (stay m));
      }

  installs_on : (member : Member) (placed : List Placed) → CanFollow number (Installs member placed) state → GoesOn number state request (Installs member placed) (state_after number (Installs member placed) state)
  installs_on member placed follows =
      let pkg = member_pkg member in
      let what : Done = done.Installed pkg in
      let r = open_of request in
      let c = contents_in state in
      let it = only (are_removed r && not (list_any is_put_back r.done) && list_any (is_same_entry (member_entry member)) r.target && can_come pkg placed c) (with_done what r (with_package (record_path number) pkg member.opam placed c)) follows.0
      (subst (λ (o : Option Request). installed (record_path number) pkg member.opam placed (contents_in state) (option_map open_of o) ≡ Some follows.0) opened follows.1) in
      let can = and_right (are_removed r && not (list_any is_put_back r.done) && list_any (is_same_entry (member_entry member)) r.target) (can_come pkg placed c) it.can_be in
      record {
        later = and_noted what request;
        is_open = ap (option_map (and_noted what)) opened;
        target = refl;
        removals = refl;
        done_is = refl;
        entries =
            λ name.
            any_push (is_kept_entry (and_noted what request) name) state.members member (and_none (bytes_eq (name_of member) name) (stays (and_noted what request) member) (goes_itself request pkg member (pkg_self pkg)))
            ∙ any_same (λ (m : Member). bytes_eq (name_of member) (name_of m)) (is_kept_entry (and_noted what request) name) (is_kept_entry request name) state.members
            (λ m other. ap (λ b. bytes_eq (name_of m) name && b) (stays_other request pkg m (others member state.members m other))) (none_named member placed state can);
      }

  backs_on : (member : Member) (placed : List Placed) → CanFollow number (PutsBack member placed) state → RemovesFirst state → GoesOn number state request (PutsBack member placed) (state_after number (PutsBack member placed) state)
  backs_on member placed follows first =
      let pkg = member_pkg member in
      let what : Done = done.PutBack pkg in
      let asks = back_asks (record_path number) pkg member.opam placed (contents_in state) follows.0 (open_of request)
      (subst (λ (o : Option Request). put_back (record_path number) pkg member.opam placed (contents_in state) (option_map open_of o) ≡ Some follows.0) opened follows.1) in
      let stay = stays_as request what refl in
      let one = back_is_removal state request pkg asks.1 (subst (λ (o : Option Request). IfSome o (IsUnderway state)) opened first) in
      record {
        later = and_noted what request;
        is_open = ap (option_map (and_noted what)) opened;
        target = refl;
        removals = refl;
        done_is = refl;
        entries =
            λ name.
            any_push (is_kept_entry (and_noted what request) name) state.members member (and_none (bytes_eq (name_of member) name) (stays (and_noted what request) member) (stay member ∙ removal_goes request member one))
            ∙ any_each (is_kept_entry (and_noted what request) name) (is_kept_entry request name) state.members (λ m. ap (λ b. bytes_eq (name_of m) name && b) (stay m));
      }

  pub goes_on : (action : Action) → CanFollow number action state → RemovesFirst state → GoesOn number state request action (state_after number action state)
  goes_on (Installs member placed) follows first = installs_on member placed follows
  goes_on (Removes pkg kept) follows first = removes_on pkg kept follows
  goes_on (PutsBack member placed) follows first = backs_on member placed follows first
