-- Every action that a change commits was decided where the switch stood then.
use Rattle.std.proofs.Common.{◌≡◌, ℕ, zero, suc, ◌+◌, List, [], ◌∷◌, ◌++◌, take, length, Option, Some, None, refl, sym, ap, subst}
use Rattle.std.specs.Prelude.{filter_map, slice_get}
use Rattle.std.specs.List.{cons_option}
use Rattle.std.proofs.lemmas.List.{append-nil}
use Rattle.opam_package.specs.declared.package.Member.{Member}
use Rattle.change_floor.specs.Floors.{install_place}
use Rattle.change_floor.specs.declared.turn.Turn.{Turn}
use Rattle.change_floor.specs.declared.turn.Turn.TheVariants.{Remove, Abort, Decide, Wait, Done}
use Rattle.journal_text.specs.declared.record.Placed.{Placed}
use Rattle.switch_state.specs.Actions.{Action, Installs, PutsBack, Removes}
use Rattle.switch_state.specs.Keeps.{kept_of}
use Rattle.switch_state.specs.Sound.{member_pkg}
use Rattle.change_verdict.specs.Verdicts.{install_verdict}
use Rattle.change_verdict.specs.declared.verdict.Sources.{Sources}
use Rattle.change_verdict.specs.declared.verdict.Verdict.{Verdict}
use Rattle.change_verdict.specs.declared.verdict.Verdict.TheVariants.{Places, Fails}
use Rattle.back_verdict.specs.Backs.{why_away, why_of}
use Rattle.back_verdict.specs.declared.why.Why.{Why}
use Rattle.change_outcome.specs.Changes.{Built, Change, Point, Removal, point_after, point_after_all}
use Rattle.change_outcome.specs.Outcomes.{actions_decided, all_decided, first_decided, turn_after}
use Rattle.change_outcome.specs.PutBacks.{backs_left, with_backs}
use Rattle.change_outcome.specs.Steps.{Decided, abort_of, back_of, back_with, decided_on, done_in, install_of, install_with, point_then, removal_of}

-- what a decision may do: an entry is removed, a member comes whose files are placed, or a package comes back against which nothing is told
pub data IsMade (point : Point) : Action → Type 0 where
  removes : (entry : Member) → IsMade point (Removes (member_pkg entry) (kept_of point.state (member_pkg entry) point.files))
  installs : (member : Member) (brings : Sources) (files : List Placed) → install_verdict point.files point.state.owned (member_pkg member) brings ≡ Places files → IsMade point (Installs member files)
  puts_back : (old : Member) (files : List Placed) → why_away point.files point.state.owned point.state.members old files ≡ None → IsMade point (PutsBack old files)

-- the same, if anything is done
abbrev pub IfMade : Point → Option Action → Type 0
IfMade point None = Unit {0}
IfMade point (Some action) = IsMade point action

-- actions one after another
abbrev pub AreMade : Point → List Action → Type 0
AreMade point [] = Unit {0}
AreMade point (action ∷ actions) = IsMade point action × AreMade (point_after point action) actions

-- ---- one decision

made_removal : (point : Point) (entry : Option Member) → IfMade point (removal_of point entry).does
made_removal point None = tt
made_removal point (Some entry) = removes entry

made_abort : (point : Point) (member need : Option Member) → IfMade point (abort_of member need).does
made_abort point None need = tt
made_abort point (Some member) None = tt
made_abort point (Some member) (Some need) = tt

made_install : (point : Point) (member : Member) (brings : Sources) (verdict : Verdict) → install_verdict point.files point.state.owned (member_pkg member) brings ≡ verdict → IfMade point (install_with member verdict).does
made_install point member brings (Places files) is = installs member brings files is
made_install point member brings (Fails reason) is = tt

made_maybe : (point : Point) (member : Option Member) (built : Built) → IfMade point (install_of point member built).does
made_maybe point None built = tt
made_maybe point (Some member) built = made_install point member built.brings (install_verdict point.files point.state.owned (member_pkg member) built.brings) refl

made_on : (change : Change) (point : Point) (turn : Turn) → IfMade point (decided_on change point turn).does
made_on change point (Remove entry) = made_removal point (slice_get change.entries entry)
made_on change point (Abort member need) = made_abort point (slice_get change.members member) (slice_get change.members need)
made_on change point (Decide member fate) = made_maybe point (slice_get change.members member) (change.built (install_place change.plan.installs member))
made_on change point Wait = tt
made_on change point Done = tt

made_back : (point : Point) (removal : Removal) (kept : Option (Member × List Placed)) (why : Option Why) → why_of point.files point.state.owned point.state.members kept ≡ why → IfMade point (back_with removal kept why).does
made_back point removal kept (Some why) is = tt
made_back point removal None None is = tt
made_back point removal (Some kept) None is = puts_back kept.0 kept.1 is

-- ---- many of them

pub fold_made : (start : Point) (actions : List Action) (action : Action) → AreMade start actions → IsMade (point_after_all start actions) action → AreMade start (actions ++ action ∷ [])
fold_made start [] action made here = (here, tt)
fold_made start (first ∷ actions) action made here = (made.0, fold_made (point_after start first) actions action made.1 here)

pub filter_push : {X Y : Type 0} (f : X → Option Y) (xs : List X) (x : X) (y : Option Y) → f x ≡ y → filter_map f (xs ++ x ∷ []) ≡ filter_map f xs ++ filter_map f (x ∷ [])
filter_push f [] x y is = refl
filter_push f (z ∷ xs) x y is = by (f z) (filter_push f xs x y is)
  where
    by : (o : Option _) → filter_map f (xs ++ x ∷ []) ≡ filter_map f xs ++ filter_map f (x ∷ []) → cons_option o (filter_map f (xs ++ x ∷ [])) ≡ cons_option o (filter_map f xs) ++ filter_map f (x ∷ [])
    by None later = later
    by (Some z) later = ap (λ ys. z ∷ ys) later

pub one_more : (start : Point) (before : List Decided) (next : Decided) → AreMade start (done_in before) → IfMade (point_then start before) next.does → AreMade start (done_in (before ++ next ∷ []))
one_more start before next made here = subst (AreMade start) (sym (filter_push (λ (one : Decided). one.does) before next next.does refl)) (by next.does here)
  where
    by : (does : Option Action) → IfMade (point_then start before) does → AreMade start (done_in before ++ cons_option does [])
    by None here = subst (AreMade start) (sym (append-nil (done_in before))) made
    by (Some action) here = fold_made start (done_in before) action made here

made_first : (change : Change) (start : Point) (n : ℕ) → AreMade start (done_in (first_decided change start n))
made_first change start zero = tt
made_first change start (suc n) =
    let before : List Decided = first_decided change start n in
    one_more start before (decided_on change (point_then start before) (turn_after change before)) (made_first change start n) (made_on change (point_then start before) (turn_after change before))

made_backs : (start : Point) (before : List Decided) (removals : List Removal) → AreMade start (done_in before) → AreMade start (done_in (with_backs start before removals))
made_backs start before [] made = made
made_backs start before (removal ∷ removals) made =
    let point : Point = point_then start before in
    made_backs start (before ++ back_of point removal ∷ []) removals
    (one_more start before (back_of point removal) made (made_back point removal removal.kept (why_of point.files point.state.owned point.state.members removal.kept) refl))

pub all_made : (change : Change) (start : Point) → AreMade start (done_in (all_decided change start))
all_made change start =
    let before : List Decided = actions_decided change start in
    made_backs start before (backs_left (point_then start before)) (made_first change start (length change.plan.removals + length change.plan.installs))

-- what holds as the change begins, and stays with each action that is made, holds after each of them
module _ (P : Point → Type 0) (stays : (point : Point) (action : Action) → IsMade point action → P point → P (point_after point action)) where
  pub after_made : (point : Point) (actions : List Action) (count : ℕ) → AreMade point actions → P point → P (point_after_all point (take count actions))
  after_made point [] zero made here = here
  after_made point [] (suc count) made here = here
  after_made point (action ∷ actions) zero made here = here
  after_made point (action ∷ actions) (suc count) made here = after_made (point_after point action) actions count made.1 (stays point action made.0 here)
