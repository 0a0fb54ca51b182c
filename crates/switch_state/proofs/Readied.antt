-- What is prepared fits the switch.
use Rattle.std.proofs.Common.{◌≡◌, ℕ, ◌<◌, ◌≤◌, List, [], length, Bool, true, false, not, refl, sym, subst, arith, Option, Some, None}
use Rattle.std.specs.Prelude.{◌&&◌, IfOk, IsSome, Result, Ok, Err}
use Rattle.std.specs.List.{list_any}
use Rattle.std.specs.Option.{option_map}
use Rattle.std.proofs.lemmas.List.{length-map}
use Rattle.opam_names.specs.declared.packages.Pkg.{Pkg}
use Rattle.opam_package.specs.declared.package.Member.{Member}
use Rattle.owner_map.specs.Owning as owning
use Rattle.owner_map.specs.OwningLaws.{AdditionsAreMet}
use Rattle.path_order.specs.Apart.{meets}
use Rattle.journal_text.specs.Parts.{AreFree, paths_of}
use Rattle.journal_text.specs.declared.record.Placed.{Placed}
use Rattle.switch_journal.specs.Applying.{are_removed, can_come, has_name, installed, is_before_all_back, is_kept_removal, is_named, is_put_back, is_same_entry, put_back, with_done, with_package}
use Rattle.switch_journal.specs.Contents.{Contents}
use Rattle.switch_journal.specs.Journal.{Head, work_with}
use Rattle.switch_journal.specs.Places.{record_path}
use Rattle.switch_journal.specs.Steps.{IsReady}
use Rattle.switch_journal.specs.declared.request.Done.TheVariants as done
use Rattle.switch_state.specs.Actions.{CanFollow, Installs, PutsBack, record_of}
use Rattle.switch_state.specs.Prepares.{CanTake, IsAsBefore, IsPrepared, owned_files}
use Rattle.switch_state.specs.State.{Now, Request, SwitchState, contents_in, member_entry, open_of}
use Rattle.switch_state.specs.declared.prepared.Change.{Change}
use Rattle.switch_state.specs.declared.prepared.Change.TheVariants.{Comes}
use Rattle.switch_state.specs.declared.prepared.Prepared.{Prepared}
use Rattle.switch_state.proofs.Adding.{FreeOf, can_add}
use Rattle.switch_state.proofs.Alike.{only}

no_contents : (after : Contents) {P : Type 0} → None ≡ Some after → P
no_contents after is = absurd (cc)

and_right : (a b : Bool) → (a && b) ≡ true → b ≡ true
and_right true b is = is
and_right false b is = absurd (cc)

not_any : (b : Bool) → not b ≡ true → b ≡ false
not_any true is = absurd (cc)
not_any false is = refl

-- a package that can come meets no owned path
pub free_of_come : (pkg : Pkg) (files : List Placed) (c : Contents) → can_come pkg files c ≡ true → FreeOf c.owned (paths_of files)
free_of_come pkg files c can = not_any (list_any (λ path. list_any (meets path) (owning.paths_of c.owned)) (paths_of files)) (and_right (not (has_name pkg.name c)) (not (list_any (λ path. list_any (meets path) (owning.paths_of c.owned)) (paths_of files))) can)

-- what a package that comes asks
pub installs_come : (number : ℕ) (member : Member) (files : List Placed) (state : SwitchState) (request : Option Request) (after : Contents) → installed (record_path number) member.package.pkg member.opam files (contents_in state) (option_map open_of request) ≡ Some after → (can_come member.package.pkg files (contents_in state) ≡ true) × IsSome request
installs_come number member files state None after is = no_contents after is
installs_come number member files state (Some request) after is =
    let r = open_of request in
    let pkg = member.package.pkg in
    let c = contents_in state in
    let front = are_removed r && not (list_any is_put_back r.done) && list_any (is_same_entry (member_entry member)) r.target in
    let it = only (front && can_come pkg files c) (with_done (done.Installed pkg) r (with_package (record_path number) pkg member.opam files c)) after is in
    (and_right front (can_come pkg files c) it.can_be, refl)

pub backs_come : (number : ℕ) (member : Member) (files : List Placed) (state : SwitchState) (request : Option Request) (after : Contents) → put_back (record_path number) member.package.pkg member.opam files (contents_in state) (option_map open_of request) ≡ Some after → (can_come member.package.pkg files (contents_in state) ≡ true) × IsSome request
backs_come number member files state None after is = no_contents after is
backs_come number member files state (Some request) after is =
    let r = open_of request in
    let pkg = member.package.pkg in
    let c = contents_in state in
    let front = are_removed r && list_any (is_kept_removal pkg) r.done && list_any (is_named pkg.name) r.target && is_before_all_back pkg r in
    let it = only (front && can_come pkg files c) (with_done (done.PutBack pkg) r (with_package (record_path number) pkg member.opam files c)) after is in
    (and_right front (can_come pkg files c) it.can_be, refl)

-- the room that was made
pub record HasRoom (paths : ℕ) (now : Now) : Type 0 where
  pub entry_room : 1 ≤ now.room.entries
  pub path_room : paths ≤ now.room.paths
  pub done_room : IsSome now.state.request → 0 < now.room.done

module _ (met : AdditionsAreMet) (member : Member) (files : List Placed) {before now : Now} (same : IsAsBefore before now) (apart : AreFree (paths_of files)) (room : HasRoom (length files) now) where
  abbrev pkg : Pkg
  pkg = member.package.pkg

  takes_it : FreeOf before.state.owned (paths_of files) → IsSome before.state.request → (what : _) → CanTake (Comes member (owned_files pkg files) what) now
  takes_it free asked what = record {
    fits = record {
      can = can_add met pkg files now.state.owned apart.apart (subst (λ (s : SwitchState). FreeOf s.owned (paths_of files)) (sym same.state) free);
      path_room = let e = length-map files (λ (file : Placed). owning.owned_by file.path pkg) in let r = room.path_room in omega (arith, e, r);
      entry_room = let r = room.entry_room in omega (arith, r);
    };
    done_room = room.done_room (subst (λ (s : SwitchState). IsSome s.request) (sym same.state) asked);
  }

  pub install_prepared : (prepared : Prepared) → CanFollow before.head.next (Installs member files) before.state → prepared.change ≡ Comes member (owned_files pkg files) (done.Installed pkg)
      → IsReady now.head.next (record_of (Installs member files)) (work_with (record_of (Installs member files)) []) prepared.ready → IsPrepared (Installs member files) now prepared
  install_prepared prepared follows change ready =
      let asks = installs_come before.head.next member files before.state before.state.request follows.0 follows.1 in
      record {
        follows = subst (λ (s : SwitchState). CanFollow now.head.next (Installs member files) s) (sym same.state) (subst (λ (h : Head). CanFollow h.next (Installs member files) before.state) (sym same.head) follows);
        change = change;
        takes = subst (λ (ch : Change). CanTake ch now) (sym change) (takes_it (free_of_come pkg files (contents_in before.state) asks.0) asks.1 (done.Installed pkg));
        ready = ready;
      }

  pub back_prepared : (prepared : Prepared) → CanFollow before.head.next (PutsBack member files) before.state → prepared.change ≡ Comes member (owned_files pkg files) (done.PutBack pkg)
      → IsReady now.head.next (record_of (PutsBack member files)) (work_with (record_of (PutsBack member files)) []) prepared.ready → IsPrepared (PutsBack member files) now prepared
  back_prepared prepared follows change ready =
      let asks = backs_come before.head.next member files before.state before.state.request follows.0 follows.1 in
      record {
        follows = subst (λ (s : SwitchState). CanFollow now.head.next (PutsBack member files) s) (sym same.state) (subst (λ (h : Head). CanFollow h.next (PutsBack member files) before.state) (sym same.head) follows);
        change = change;
        takes = subst (λ (ch : Change). CanTake ch now) (sym change) (takes_it (free_of_come pkg files (contents_in before.state) asks.0) asks.1 (done.PutBack pkg));
        ready = ready;
      }

pub room_made : (entries paths count : ℕ) (now : Now) → entries ≤ now.room.entries → 1 ≤ entries → paths ≤ now.room.paths → count ≡ paths → (IsSome now.state.request → 0 < now.room.done) → HasRoom count now
room_made entries paths count now some one many same done_room = record {
  entry_room = omega (arith, some, one);
  path_room = omega (arith, many, same);
  done_room = done_room;
}

-- what two clauses say of a value, and a third thing that follows
pub both_ok : {T E : Type 0} (r : Result T E) {P Q R : T → Type 0} → IfOk r P → IfOk r Q → ((x : T) → P x → Q x → R x) → IfOk r R
both_ok (Ok x) one two more = more x one two
both_ok (Err e) one two more = tt
