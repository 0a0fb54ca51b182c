-- One step of a begin after another.
use Rattle.std.proofs.Common.{◌≡◌, ◌∙◌, inl, inr, ℕ, ◌+◌, ◌<◌, ◌^◌, min, List, [], ◌∷◌, filter, cond, Bool, true, false, refl, sym, ap, subst, arith, Option, Some, None, Result, Ok, Err}
use Rattle.std.specs.Prelude.{◌&&◌, IsFalse, IsTrue, OnOk, if◌then◌else◌, is_some}
use Rattle.std.specs.List.{list_all}
use Rattle.crash_disk.specs.Disks.{State as Told, Tree}
use Rattle.opam_names.proofs.RisingLists.{chosen_rise}
use Rattle.journal_text.specs.Parts.{own_name}
use Rattle.opam_package.specs.declared.package.Member.{Member}
use Rattle.opam_package.specs.declared.package.Target.{Target}
use Rattle.switch_journal.specs.Journal.{Head, is_due}
use Rattle.switch_journal.specs.Snapshots.{with_slot}
use Rattle.switch_journal.specs.Steps.{with_one_more}
use Rattle.switch_state.specs.Begins.{Asking, CanOpen, IsAroundBegin, IsAroundClose, IsAroundNext, asking_for, begin_number, pkgs_at, begun_from, head_closed, head_slotted, state_begun, state_closed}
use Rattle.switch_state.specs.Ends.{is_entry_name, state_ended}
use Rattle.switch_state.specs.Prepares.{CanAct}
use Rattle.switch_state.specs.State.{Now, Recovers, Request, SwitchStands, SwitchState}
use Rattle.switch_state.specs.WellFormed.{IsWellFormed}
use Rattle.switch_state.proofs.SoundKept.{both_true}

pub on_more : {T E : Type 0} {P Q : Type 0} (r : Result T E) → OnOk r P → (P → Q) → OnOk r Q
on_more (Ok x) one more = more one
on_more (Err e) one more = tt

-- ---- a slot, and then the record

next_slotted : (head : Head) → (head_slotted head).next ≡ head.next
next_slotted head = by (is_due head)
  where
    by : (b : Bool) → (if b then with_slot head else head).next ≡ head.next
    by true = refl
    by false = refl

module _ {now later : Now} {files : Tree} {told : Option Told} (head : later.head ≡ head_slotted now.head) (state : later.state ≡ now.state) where
  pub can_next : CanAct now files told → (told_then : Option Told) → SwitchStands (head_slotted now.head) now.state files told_then → CanAct later files told_then
  can_next can told_then stands = record {
    few = let few = can.few in subst (λ (n : ℕ). n < 2 ^ 63) (sym (ap (λ (h : Head). h.next) head ∙ next_slotted now.head)) few;
    stands = subst (λ (h : Head). SwitchStands h later.state files told_then) (sym head) (subst (λ (s : SwitchState). SwitchStands (head_slotted now.head) s files told_then) (sym state) stands);
  }

number_same : (now later : Now) → later.head ≡ head_slotted now.head → later.head.next ≡ now.head.next
number_same now later head = ap (λ (h : Head). h.next) head ∙ next_slotted now.head

begun_same : (now later : Now) (target : Target) (places : List ℕ) → later.head ≡ head_slotted now.head → later.state ≡ now.state → state_begun later.head.next (asking_for target places later.state) later.state ≡ state_begun now.head.next (asking_for target places now.state) now.state
begun_same now later target places head state = λ i. state_begun (number_same now later head i) (asking_for target places (state i)) (state i)

pub around_next : (now later : Now) {files : Tree} (target : Target) (places : List ℕ) → later.head ≡ head_slotted now.head → later.state ≡ now.state → (image : Tree) → IsAroundNext (asking_for target places later.state) later files image → IsAroundNext (asking_for target places now.state) now files image
around_next now later {files} target places head state image (inl before) = inl (subst (λ (s : SwitchState). Recovers s files image) state before)
around_next now later {files} target places head state image (inr after) = inr (subst (λ (s : SwitchState). Recovers s files image) (begun_same now later target places head state) after)

pub stands_next : (now later : Now) {files : Tree} {told : Option Told} (target : Target) (places : List ℕ) → later.head ≡ head_slotted now.head → later.state ≡ now.state → SwitchStands (with_one_more later.head) (state_begun later.head.next (asking_for target places later.state) later.state) files told
    → SwitchStands (with_one_more (head_slotted now.head)) (state_begun now.head.next (asking_for target places now.state) now.state) files told
stands_next now later {files} {told} target places head state stands =
    subst (λ (h : Head). SwitchStands (with_one_more h) (state_begun now.head.next (asking_for target places now.state) now.state) files told) head
    (subst (λ (s : SwitchState). SwitchStands (with_one_more later.head) s files told) (begun_same now later target places head state) stands)

-- ---- an earlier request is ended first

few_first : (now : Now) → begin_number now < 2 ^ 63 → now.head.next < 2 ^ 63
few_first now few = by (is_some now.state.request) few
  where
    by : (b : Bool) → (if b then with_one_more now.head else now.head).next < 2 ^ 63 → now.head.next < 2 ^ 63
    by true few = omega (arith, few)
    by false few = few

pub can_first : {now : Now} {files : Tree} {told : Option Told} → CanOpen now files told → CanAct now files told
can_first {now} can = record { few = few_first now can.few; stands = can.stands }

module _ {now later : Now} {files : Tree} {told : Option Told} (head : later.head ≡ head_closed now.state now.head) (state : later.state ≡ state_closed now.state) where
  pub can_closed : CanOpen now files told → (told_then : Option Told) → SwitchStands (head_closed now.state now.head) (state_closed now.state) files told_then → CanAct later files told_then
  can_closed can told_then stands = record {
    few = subst (λ (h : Head). h.next < 2 ^ 63) (sym head) can.few;
    stands = subst (λ (h : Head). SwitchStands h later.state files told_then) (sym head) (subst (λ (s : SwitchState). SwitchStands (head_closed now.state now.head) s files told_then) (sym state) stands);
  }

members_closed : (state : SwitchState) → (state_closed state).members ≡ state.members
members_closed state = by (is_some state.request)
  where
    by : (b : Bool) → (if b then state_ended state else state).members ≡ state.members
    by true = refl
    by false = refl

-- the packages are those of the state before
asking_same : (now later : Now) (target : Target) (places : List ℕ) → later.state ≡ state_closed now.state → asking_for target places later.state ≡ asking_for target places now.state
asking_same now later target places state = λ i. record { roots = target.roots; target = target.members; removals = pkgs_at ((ap (λ (s : SwitchState). s.members) state ∙ members_closed now.state) i) places }

begun_closed : (now later : Now) (target : Target) (places : List ℕ) → later.head ≡ head_closed now.state now.head → later.state ≡ state_closed now.state
    → state_begun later.head.next (asking_for target places later.state) later.state ≡ begun_from (asking_for target places now.state) now
begun_closed now later target places head state = λ i. state_begun (head i).next (asking_same now later target places state i) (state i)

pub around_first : (now : Now) {files : Tree} (asking : Asking) (image : Tree) → IsAroundClose now.state files image → IsAroundBegin asking now files image
around_first now asking image (inl before) = inl before
around_first now asking image (inr after) = inr (inl after)

pub around_closed : (now later : Now) {files : Tree} (target : Target) (places : List ℕ) → later.head ≡ head_closed now.state now.head → later.state ≡ state_closed now.state → (image : Tree) → IsAroundNext (asking_for target places later.state) later files image
    → IsAroundBegin (asking_for target places now.state) now files image
around_closed now later {files} target places head state image (inl before) = inr (inl (subst (λ (s : SwitchState). Recovers s files image) state before))
around_closed now later {files} target places head state image (inr after) = inr (inr (subst (λ (s : SwitchState). Recovers s files image) (begun_closed now later target places head state) after))

pub stands_closed : (now later : Now) {files : Tree} {told : Option Told} (target : Target) (places : List ℕ) → later.head ≡ head_closed now.state now.head → later.state ≡ state_closed now.state
    → SwitchStands (with_one_more (head_slotted later.head)) (state_begun later.head.next (asking_for target places later.state) later.state) files told
    → SwitchStands (with_one_more (head_slotted (head_closed now.state now.head))) (begun_from (asking_for target places now.state) now) files told
stands_closed now later {files} {told} target places head state stands =
    subst (λ (h : Head). SwitchStands (with_one_more (head_slotted h)) (begun_from (asking_for target places now.state) now) files told) head
    (subst (λ (s : SwitchState). SwitchStands (with_one_more (head_slotted later.head)) s files told) (begun_closed now later target places head state) stands)

-- ---- a well-formed state stays so

all_chosen : (t : List ℕ → Bool) (names : List (List ℕ)) → list_all t (filter t names) ≡ true
all_chosen t [] = refl
all_chosen t (name ∷ names) = by (t name) refl (all_chosen t names)
  where
    by : (b : Bool) → t name ≡ b → list_all t (filter t names) ≡ true → list_all t (cond b (name ∷ filter t names) (filter t names)) ≡ true
    by true is later = both_true (t name) (list_all t (filter t names)) is later
    by false is later = later

pub ended_formed : (state : SwitchState) → IsWellFormed state → IsWellFormed (state_ended state)
ended_formed state formed = record {
  names = formed.names;
  paths = formed.paths;
  owners = formed.owners;
  roots = chosen_rise own_name (is_entry_name state.members) state.roots formed.roots;
  asked = λ none. all_chosen (is_entry_name state.members) state.roots;
}

pub closed_formed : (state : SwitchState) → IsWellFormed state → IsWellFormed (state_closed state)
closed_formed state formed = by (is_some state.request)
  where
    by : (b : Bool) → IsWellFormed (if b then state_ended state else state)
    by true = ended_formed state formed
    by false = formed
