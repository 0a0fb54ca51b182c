-- A request begins: its step in the journal, and what a stop leaves of it.
use Rattle.std.proofs.Common.{◌≡◌, ◌∙◌, inl, inr, ℕ, ◌+◌, ◌<◌, ◌≤◌, List, [], ◌∷◌, ◌++◌, map, length, take, get_or, Bool, true, false, refl, sym, ap, subst, Option, Some, None}
use Rattle.std.specs.Prelude.{◌&&◌, IsFalse, is_some, slice_get}
use Rattle.std.proofs.lemmas.Option.{slice_get-get_or, slice_get_past}
use Rattle.std.specs.List.{list_all}
use Rattle.std.specs.Option.{option_map}
use Rattle.std.proofs.lemmas.List.{take_more}
use Rattle.std.proofs.lemmas.List.Elements.{filter_map-append}
use Rattle.journal_text.specs.declared.record.Rec.TheVariants.{Begin}
use Rattle.opam_names.specs.declared.packages.Pkg.{Pkg}
use Rattle.opam_package.specs.declared.package.Member.{Member}
use Rattle.switch_state.specs.declared.request.OpenRequest.{OpenRequest}
use Rattle.crash_disk.specs.Disks.{State as Told, Tree}
use Rattle.switch_journal.specs.Applying.{applied, are_few, begun, entries_of, has_pkg, may_stand}
use Rattle.switch_journal.specs.Contents.{Contents}
use Rattle.switch_journal.specs.Journal.{StandsFor, is_due}
use Rattle.switch_journal.specs.Places.{record_path}
use Rattle.switch_journal.specs.Snapshots.{IsSameSwitch}
use Rattle.switch_journal.specs.Steps as steps
use Rattle.switch_journal.specs.Steps.{IsAround, IsReady, Step, with_one_more}
use Rattle.switch_journal.specs.declared.commits.Ready.{Ready}
use Rattle.switch_state.specs.Begins.{Asking, BeginFits, IsAroundNext, begin_by, begin_record, pkg_at, pkgs_at, request_begun, state_begun}
use Rattle.switch_state.specs.Prepares.{CanAct}
use Rattle.switch_state.specs.State.{Now, Request, SwitchStands, SwitchState, contents_in, member_entry, open_of, request_in}
use Rattle.switch_state.proofs.Alike.{GoesAlike, alike, only, same_self, same_then}

no_contents : (after : Contents) {P : Type 0} → None ≡ Some after → P
no_contents after is = absurd (cc)

-- what the record makes of a state
begun_said : (number : ℕ) (asking : Asking) (state : SwitchState) (request : Option Request) (after : Contents) → begun (record_path number) asking.roots (map member_entry asking.target) asking.removals (contents_in state) (option_map open_of request) ≡ Some after
    → IsSameSwitch (contents_in (state_begun number asking state)) after
begun_said number asking state (Some request) after is = no_contents after is
begun_said number asking state None after is =
    let c = contents_in state in
    let target = map member_entry asking.target in
    let it = only (list_all (has_pkg c) asking.removals && list_all (may_stand target asking.removals) (entries_of c) && are_few target) (contents_in (state_begun number asking state)) after is in
    subst (IsSameSwitch (contents_in (state_begun number asking state))) it.same (same_self (contents_in (state_begun number asking state)))

module _ {now : Now} {files : Tree} {told : Option Told} {ready : Ready} (asking : Asking) (can : CanAct now files told) (fits : BeginFits now.head.next asking now.state) (made : IsReady now.head.next (begin_record asking) [] ready) (due : IsFalse (is_due now.head)) where
  abbrev pub goes : GoesAlike fits.after (applied now.head.next (record_path now.head.next) (begin_record asking) can.stands.contents)
  goes = alike now.head.next (record_path now.head.next) (begin_record asking) fits.after can.stands.same fits.follows

  abbrev pub step : Step
  step = record { before = can.stands.contents; entry = begin_record asking; after = goes.next; files = files }

  pub can_step : steps.CanCommit now.head step ready told
  can_step = record { few = can.few; made = made; applies = goes.is; begins = λ is. due; stands = can.stands.journal }

  same_after : IsSameSwitch (contents_in (state_begun now.head.next asking now.state)) goes.next
  same_after = same_then (begun_said now.head.next asking now.state now.state.request fits.after fits.follows) goes.same

  pub around : (image : Tree) → IsAround step image → IsAroundNext asking now files image
  around image (inl before) = inl (record { contents = can.stands.contents; same = can.stands.same; comes = before })
  around image (inr after) = inr (record { contents = goes.next; same = same_after; comes = after })

  pub stands_after : (told_then : Option Told) → StandsFor (with_one_more now.head) goes.next files told_then → SwitchStands (with_one_more now.head) (state_begun now.head.next asking now.state) files told_then
  stands_after told_then stands = record { contents = goes.next; same = same_after; journal = stands }

-- ---- the packages at places

pub pkgs_more : (members : List Member) (places : List ℕ) (i : ℕ) (was now : List Pkg) → i < length places → was ≡ pkgs_at members (take i places) → now ≡ was ++ pkgs_at members (get_or places i 0 ∷ []) → now ≡ pkgs_at members (take (i + 1) places)
pkgs_more members places i was now within old new =
    new ∙ (λ j. old j ++ pkgs_at members (get_or places i 0 ∷ []))
    ∙ sym (filter_map-append (pkg_at members) (take i places) (get_or places i 0 ∷ []))
    ∙ ap (pkgs_at members) (sym (take_more places i 0 within))

pub pkg_there : (members : List Member) (place : ℕ) (m : Member) → place < length members → m ≡ get_or members place m → pkgs_at members (place ∷ []) ≡ m.package.pkg ∷ []
pkg_there members place m within is = let there = slice_get-get_or members place m within ∙ ap (λ (k : Member). Some k) (sym is) in rw there refl

pub pkg_nowhere : (members : List Member) (place : ℕ) → length members ≤ place → pkgs_at members (place ∷ []) ≡ []
pkg_nowhere members place out = let none = slice_get_past members place out in rw none refl

pub and_none : {more : List Pkg} (pkgs : List Pkg) → more ≡ [] → pkgs ≡ pkgs ++ more
and_none pkgs none = sym (ap (λ (ps : List Pkg). pkgs ++ ps) none ∙ append_nil pkgs)
  where
    append_nil : (pkgs : List Pkg) → pkgs ++ [] ≡ pkgs
    append_nil [] = refl
    append_nil (p ∷ pkgs) = ap (λ (ps : List Pkg). p ∷ ps) (append_nil pkgs)

pub begin_same : (number : ℕ) (asking : Asking) (roots : List (List ℕ)) (request : OpenRequest) → request_in request ≡ request_begun number asking → roots ≡ asking.roots → begin_by roots request ≡ begin_record asking
begin_same number asking roots request is names = λ i. Begin (names i) (map member_entry (is i).target) (is i).removals
