-- Where nothing is wanting, nothing is put back.
use Rattle.std.proofs.Common.{◌≡◌, ℕ, List, [], ◌∷◌, ◌++◌, filter, reverse, Bool, true, false, not, cond, Option, Some, None, refl, sym, ap, ◌∙◌}
use Rattle.std.specs.Prelude.{◌&&◌, ◌||◌, is_some, take_while, if◌then◌else◌}
use Rattle.std.specs.List.{list_all, list_any}
use Rattle.std.proofs.lemmas.Bool.{false≢true}
use Rattle.opam_package.specs.declared.package.Member.{Member}
use Rattle.switch_journal.specs.declared.request.Done.{Done}
use Rattle.switch_journal.specs.declared.request.Done.TheVariants as done
use Rattle.switch_state.specs.Actions.{Action, Installs, PutsBack, Removes, noted}
use Rattle.switch_state.specs.Ends.{is_called, is_entry_name}
use Rattle.switch_state.specs.Keeps.{wants}
use Rattle.switch_state.specs.Sound.{name_of}
use Rattle.switch_state.specs.State.{Request}
use Rattle.change_outcome.specs.Changes.{Change, Point, Removal, point_after, point_after_all}
use Rattle.change_outcome.specs.Outcomes.{actions_decided, all_decided}
use Rattle.change_outcome.specs.PutBacks.{backs_left, is_back, is_missed, with_backs}
use Rattle.change_outcome.specs.Decisions.{status_of}
use Rattle.change_outcome.specs.Running.{CanRun, coming, staying}
use Rattle.change_outcome.specs.Steps.{done_in, point_then, told_in}
use Rattle.change_outcome.specs.SuccessLaws.{AllAreNamed, SuccessIsWholeInAll}
use Rattle.change_outcome.proofs.Lists.{and_left, and_right}
use Rattle.change_outcome.proofs.Returning.{bytes_same}
use Rattle.change_outcome.proofs.Whole.{success}

-- what a request wants stays
wants_noted : (name : List ℕ) (what : Done) (request : Option Request) → wants name (noted what request) ≡ wants name request
wants_noted name what None = refl
wants_noted name what (Some request) = refl

wants_after : (name : List ℕ) (point : Point) (action : Action) → wants name (point_after point action).state.request ≡ wants name point.state.request
wants_after name point (Installs member files) = wants_noted name (done.Installed member.package.pkg) point.state.request
wants_after name point (Removes pkg kept) = wants_noted name (done.Removed pkg point.number (is_some kept)) point.state.request
wants_after name point (PutsBack member files) = wants_noted name (done.PutBack member.package.pkg) point.state.request

pub wants_then : (name : List ℕ) (point : Point) (actions : List Action) → wants name (point_after_all point actions).state.request ≡ wants name point.state.request
wants_then name point [] = refl
wants_then name point (action ∷ actions) = wants_then name (point_after point action) actions ∙ wants_after name point action

-- a member's name is that of an entry
named_there : (name : List ℕ) (members entries : List Member) → list_any (is_called name) members ≡ true → list_all (λ (m : Member). is_entry_name entries (name_of m)) members ≡ true → is_entry_name entries name ≡ true
named_there name [] entries there all = absurd (false≢true there)
named_there name (m ∷ members) entries there all = by (is_called name m) refl there (λ later. named_there name members entries later (and_right (is_entry_name entries (name_of m)) (list_all (λ (m : Member). is_entry_name entries (name_of m)) members) all))
  where
    by : (b : Bool) → is_called name m ≡ b → (b || list_any (is_called name) members) ≡ true → (list_any (is_called name) members ≡ true → is_entry_name entries name ≡ true) → is_entry_name entries name ≡ true
    by true is there later = ap (is_entry_name entries) (bytes_same name (name_of m) is) ∙ and_left (is_entry_name entries (name_of m)) (list_all (λ (m : Member). is_entry_name entries (name_of m)) members) all
    by false is there later = later there

none_kept : {X : Type 0} (t : X → Bool) (xs : List X) → ((x : X) → t x ≡ false) → filter t xs ≡ []
none_kept t [] none = refl
none_kept t (x ∷ xs) none = ap (λ b. cond b (x ∷ filter t xs) (filter t xs)) (none x) ∙ none_kept t xs none

none_missed : (change : Change) (start : Point) → CanRun change start → AllAreNamed change → (point : Point) → ((name : List ℕ) → wants name point.state.request ≡ wants name start.state.request) → point.state.members ≡ staying change ++ coming change
    → (removal : Removal) → is_missed point.state removal ≡ false
none_missed change start can named point same members removal = by (wants removal.pkg.name point.state.request) refl
  where
    by : (b : Bool) → wants removal.pkg.name point.state.request ≡ b → (b && not (is_entry_name point.state.members removal.pkg.name)) ≡ false
    by true is =
        let wanted = ap (λ (ms : List Member). list_any (is_called removal.pkg.name) ms) (sym can.target) ∙ ap (wants removal.pkg.name) (sym can.is_open) ∙ sym (same removal.pkg.name) ∙ is in
        ap not (ap (λ ms. is_entry_name ms removal.pkg.name) members ∙ named_there removal.pkg.name change.members (staying change ++ coming change) wanted named)
    by false is = refl

pub success_in_all : SuccessIsWholeInAll
success_in_all change start can needs named none =
    let whole = success change start can needs none in
    let point : Point = point_then start (actions_decided change start) in
    let left : backs_left point ≡ [] =
    ap reverse (none_kept (is_missed point.state) (take_while (λ removal. not (is_back point.state removal)) point.removals)
    (none_missed change start can named point (λ name. wants_then name start (done_in (actions_decided change start))) whole.members)) in
    let ends : all_decided change start ≡ actions_decided change start = ap (with_backs start (actions_decided change start)) left in
    record {
      ends = ends;
      status = ap (λ ds. status_of (told_in ds)) ends ∙ ap (λ b. if b then 31 else 0) whole.told;
      members = ap (λ ds. (point_then start ds).state.members) ends ∙ whole.members;
    }
