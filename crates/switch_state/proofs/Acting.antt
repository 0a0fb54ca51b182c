-- What an action makes of a state is what its record makes of the contents.
use Rattle.std.proofs.Common.{◌≡◌, ◌∙◌, ℕ, List, [], ◌∷◌, ◌++◌, map, filter, Bool, true, false, not, cond, refl, sym, ap, subst, Option, Some, None}
use Rattle.std.specs.Prelude.{◌&&◌, is_some}
use Rattle.std.specs.List.{list_any}
use Rattle.std.proofs.lemmas.List.{map-append}
use Rattle.journal_text.specs.Parts.{paths_of}
use Rattle.journal_text.specs.declared.record.Entry.{Entry}
use Rattle.journal_text.specs.declared.record.Placed.{Placed}
use Rattle.opam_names.specs.declared.packages.Pkg.{Pkg}
use Rattle.opam_package.specs.declared.package.Member.{Member}
use Rattle.owner_map.specs.declared.owned.OwnedPath.{OwnedPath}
use Rattle.switch_journal.specs.Applying.{applied, are_kept_right, are_removed, can_come, entries_of, has_pkg, is_before_all_back, is_kept_removal, is_named, is_next, is_put_back, is_same_entry, next_removal, with_done, with_package, without_package}
use Rattle.switch_journal.specs.Applying as applying
use Rattle.switch_journal.specs.Contents.{Contents}
use Rattle.switch_journal.specs.Contents as contents
use Rattle.switch_journal.specs.Places.{record_path}
use Rattle.switch_journal.specs.Reading.{standing_of}
use Rattle.switch_journal.specs.Snapshots.{IsSameSwitch}
use Rattle.switch_journal.specs.declared.request.Done.{Done}
use Rattle.switch_journal.specs.declared.request.Done.TheVariants as done
use Rattle.switch_state.specs.Actions.{Action, Installs, PutsBack, Removes, is_other_member, noted, record_of, state_after, and_member, without_pkg}
use Rattle.switch_state.specs.Prepares.{change_of, state_changed}
use Rattle.switch_state.specs.State.{Request, SwitchState, contents_in, member_entry, open_of}
use Rattle.switch_state.proofs.Adding.{folds}
use Rattle.switch_state.proofs.Alike.{only}

-- ---- the entries of a state

stood : (entries : List Entry) → map contents.entry_of (map (standing_of []) entries) ≡ entries
stood [] = refl
stood (entry ∷ entries) = ap (λ (es : List Entry). entry ∷ es) (stood entries)

pub entries_said : (state : SwitchState) → entries_of (contents_in state) ≡ map member_entry state.members
entries_said state = stood (map member_entry state.members)

no_contents : (after : Contents) {P : Type 0} → None ≡ Some after → P
no_contents after is = absurd (cc)

-- ---- what each action makes

module _ (members : List Member) (owned : List OwnedPath) (roots : List (List ℕ)) where
  abbrev with_it : Option Request → SwitchState
  with_it request = record { members = members; owned = owned; roots = roots; request = request }

  come_said : (from : List ℕ) (member : Member) (files : List Placed) (what : Done) (request : Request)
      → IsSameSwitch (contents_in (and_member member (paths_of files) what (with_it (Some request)))) (with_done what (open_of request) (with_package from member.package.pkg member.opam files (contents_in (with_it (Some request)))))
  come_said from member files what request = record {
    entries =
        map-append contents.entry_of (map (standing_of []) (map member_entry members)) ((record { entry = member_entry member; from = from }) ∷ [])
        ∙ ap (λ (es : List Entry). es ++ member_entry member ∷ []) (stood (map member_entry members))
        ∙ sym (map-append member_entry members (member ∷ []))
        ∙ sym (stood (map member_entry (members ++ member ∷ [])));
    owned = refl;
    roots = λ name. refl;
    request = refl;
  }

  gone : (pkg : Pkg) (ms : List Member) → map contents.entry_of (filter (applying.is_another pkg) (map (standing_of []) (map member_entry ms))) ≡ map contents.entry_of (map (standing_of []) (map member_entry (filter (is_other_member pkg) ms)))
  gone pkg [] = refl
  gone pkg (m ∷ ms) = by (is_other_member pkg m) (gone pkg ms)
    where
      by : (b : Bool) → map contents.entry_of (filter (applying.is_another pkg) (map (standing_of []) (map member_entry ms))) ≡ map contents.entry_of (map (standing_of []) (map member_entry (filter (is_other_member pkg) ms)))
          → map contents.entry_of (cond b (standing_of [] (member_entry m) ∷ filter (applying.is_another pkg) (map (standing_of []) (map member_entry ms))) (filter (applying.is_another pkg) (map (standing_of []) (map member_entry ms))))
          ≡ map contents.entry_of (map (standing_of []) (map member_entry (cond b (m ∷ filter (is_other_member pkg) ms) (filter (is_other_member pkg) ms))))
      by true later = ap (λ (es : List Entry). member_entry m ∷ es) later
      by false later = later

  go_said : (pkg : Pkg) (what : Done) (request : Request) → IsSameSwitch (contents_in (without_pkg pkg what (with_it (Some request)))) (with_done what (open_of request) (without_package pkg (contents_in (with_it (Some request)))))
  go_said pkg what request = record { entries = gone pkg members; owned = refl; roots = λ name. refl; request = refl }

  acts_by : (number : ℕ) (action : Action) (request : Option Request) (after : Contents) → applied number (record_path number) (record_of action) (contents_in (with_it request)) ≡ Some after
      → IsSameSwitch (contents_in (state_after number action (with_it request))) after
  acts_by number (Installs member files) None after is = no_contents after is
  acts_by number (Installs member files) (Some request) after is =
      let c = contents_in (with_it (Some request)) in
      let r = open_of request in
      let it = only (are_removed r && not (list_any is_put_back r.done) && list_any (is_same_entry (member_entry member)) r.target && can_come member.package.pkg files c) (with_done (done.Installed member.package.pkg) r (with_package (record_path number) member.package.pkg member.opam files c)) after is in
      subst (IsSameSwitch (contents_in (state_after number (Installs member files) (with_it (Some request))))) it.same (come_said (record_path number) member files (done.Installed member.package.pkg) request)
  acts_by number (PutsBack member files) None after is = no_contents after is
  acts_by number (PutsBack member files) (Some request) after is =
      let c = contents_in (with_it (Some request)) in
      let r = open_of request in
      let pkg = member.package.pkg in
      let it = only (are_removed r && list_any (is_kept_removal pkg) r.done && list_any (is_named pkg.name) r.target && is_before_all_back pkg r && can_come pkg files c) (with_done (done.PutBack pkg) r (with_package (record_path number) pkg member.opam files c)) after is in
      subst (IsSameSwitch (contents_in (state_after number (PutsBack member files) (with_it (Some request))))) it.same (come_said (record_path number) member files (done.PutBack pkg) request)
  acts_by number (Removes pkg kept) None after is = no_contents after is
  acts_by number (Removes pkg kept) (Some request) after is =
      let c = contents_in (with_it (Some request)) in
      let r = open_of request in
      let it = only (is_next pkg (next_removal r) && has_pkg c pkg && are_kept_right pkg kept c) (with_done (done.Removed pkg number (is_some kept)) r (without_package pkg c)) after is in
      subst (IsSameSwitch (contents_in (state_after number (Removes pkg kept) (with_it (Some request))))) it.same (go_said pkg (done.Removed pkg number (is_some kept)) request)

pub acts : (number : ℕ) (action : Action) (state : SwitchState) (after : Contents) → applied number (record_path number) (record_of action) (contents_in state) ≡ Some after → IsSameSwitch (contents_in (state_after number action state)) after
acts number action state after is = acts_by state.members state.owned state.roots number action state.request after is

-- the change in memory is the action
pub changed_is : (number : ℕ) (action : Action) (state : SwitchState) → state_changed (change_of number action) state ≡ state_after number action state
changed_is number (Installs member files) state = λ i. record { members = state.members ++ member ∷ []; owned = folds member.package.pkg files state.owned i; roots = state.roots; request = noted (done.Installed member.package.pkg) state.request }
changed_is number (PutsBack member files) state = λ i. record { members = state.members ++ member ∷ []; owned = folds member.package.pkg files state.owned i; roots = state.roots; request = noted (done.PutBack member.package.pkg) state.request }
changed_is number (Removes pkg kept) state = refl
