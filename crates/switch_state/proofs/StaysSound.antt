-- A state stays sound, with what is left of its open request.
use Rattle.std.proofs.Common.{◌≡◌, ◌∙◌, ℕ, List, [], ◌∷◌, ◌++◌, filter, map, reverse, Bool, true, false, not, refl, sym, ap, subst, Option, Some, None}
use Rattle.std.specs.Prelude.{◌&&◌, ◌||◌, IfSome, IsFalse, bytes_eq, if◌then◌else◌, is_some}
use Rattle.std.specs.List.{list_all, list_any}
use Rattle.std.specs.Option.{option_map}
use Rattle.opam_names.specs.declared.packages.Pkg.{Pkg}
use Rattle.opam_package.specs.declared.package.Member.{Member}
use Rattle.path_order.specs.Apart.{AreApart, meets}
use Rattle.owner_map.specs.Owning.{is_same_pkg}
use Rattle.owner_map.specs.Owning as owning
use Rattle.owner_map.specs.declared.owned.OwnedPath.{OwnedPath}
use Rattle.owner_map.specs.OwningLaws.{AdditionsAreMet}
use Rattle.journal_text.specs.Parts.{paths_of}
use Rattle.journal_text.specs.declared.record.Entry.{Entry}
use Rattle.journal_text.specs.declared.record.KeptFiles.{KeptFiles}
use Rattle.journal_text.specs.declared.record.Placed.{Placed}
use Rattle.crash_disk.specs.Disks.{Tree}
use Rattle.switch_journal.specs.Applying.{can_come, installed, is_named, put_back, removed}
use Rattle.switch_journal.specs.Places.{record_path}
use Rattle.switch_journal.specs.declared.request.Done.{Done}
use Rattle.switch_journal.specs.declared.request.Done.TheVariants as done
use Rattle.switch_state.specs.Actions.{CanBeSpelled, CanFollow, Installs, PutsBack, Removes, and_member, and_noted, noted, own_files_after, state_after, without_pkg}
use Rattle.switch_state.specs.Begins.{Asking, request_begun, state_begun, state_closed}
use Rattle.switch_state.specs.Ends.{state_ended}
use Rattle.switch_state.specs.Sound.{Agree, AreInOrder, EdgesPointBefore, InstalledIsSound, NamesDiffer, RunOnEarlier, RequestIsSound, Sound, coming, has_edge, installs_of, is_apart, member_pkg, member_pkgs, name_of}
use Rattle.switch_state.specs.SoundLaws.{AsksSoundly, ComesInTurn, arriving, is_leaving, is_left_apart, is_left_entry}
use Rattle.switch_state.specs.State.{Request, SwitchState, contents_in, member_entry, open_of}
use Rattle.switch_state.specs.Underway.{IsUnderway, RemovesFirst}
use Rattle.switch_state.proofs.Asked.{asked_after, back_asks, install_asks, removal_asks}
use Rattle.switch_state.proofs.RequestKept.{all_more, comes_left, goes_itself, goes_left, installs_as, installs_more, none_left, none_of, removal_goes, stays_as, stays_other}
use Rattle.switch_state.proofs.SoundKept.{absent, pkg_self}
use Rattle.switch_state.proofs.UnderwayKept.{back_is_removal}

-- ---- a package comes

named_as : (name : List ℕ) (members : List Member) → list_any (is_named name) (map member_entry members) ≡ list_any (λ (m : Member). bytes_eq name (name_of m)) members
named_as name [] = refl
named_as name (m ∷ members) = ap (λ b. bytes_eq name (name_of m) || b) (named_as name members)

module _ (number : ℕ) (member : Member) (placed : List Placed) (state : SwitchState) where
  abbrev pkg : Pkg
  pkg = member_pkg member

  abbrev path : List ℕ
  path = record_path number

  none_named : can_come pkg placed (contents_in state) ≡ true → list_any (λ (m : Member). bytes_eq (name_of member) (name_of m)) state.members ≡ false
  none_named can = sym (named_as (name_of member) state.members) ∙ absent member placed state can

  pub installed_request : CanFollow number (Installs member placed) state → can_come pkg placed (contents_in state) ≡ true → ComesInTurn pkg state → IfSome state.request (RequestIsSound state)
      → IfSome (noted (done.Installed pkg) state.request) (RequestIsSound (and_member member (paths_of placed) (done.Installed pkg) state))
  installed_request follows can turn sound =
      let what = done.Installed pkg in
      asked_after (RequestIsSound state) (RequestIsSound (and_member member (paths_of placed) what state)) what state.request sound
      (λ r is old.
      let asks = install_asks path pkg member.opam placed (contents_in state) follows.0 (open_of r) (subst (λ (o : Option Request). installed path pkg member.opam placed (contents_in state) (option_map open_of o) ≡ Some follows.0) is follows.1) in
      let now = subst (λ (o : Option Request). IfSome o (λ request. AreInOrder (coming state request) (installs_of request.done ++ pkg ∷ []))) is turn in
      comes_left member (paths_of placed) what state r (none_left r what refl asks) (none_named can) (stays_other r pkg) (goes_itself r pkg member (pkg_self pkg)) old
      (λ before. subst (AreInOrder (coming state r)) (sym (installs_more r.done (what ∷ []))) now))

  pub back_request : CanFollow number (PutsBack member placed) state → can_come pkg placed (contents_in state) ≡ true → RemovesFirst state → IfSome state.request (RequestIsSound state)
      → IfSome (noted (done.PutBack pkg) state.request) (RequestIsSound (and_member member (paths_of placed) (done.PutBack pkg) state))
  back_request follows can first sound =
      let what = done.PutBack pkg in
      asked_after (RequestIsSound state) (RequestIsSound (and_member member (paths_of placed) what state)) what state.request sound
      (λ r is old.
      let asks = back_asks path pkg member.opam placed (contents_in state) follows.0 (open_of r) (subst (λ (o : Option Request). put_back path pkg member.opam placed (contents_in state) (option_map open_of o) ≡ Some follows.0) is follows.1) in
      let one = back_is_removal state r pkg asks.1 (subst (λ (o : Option Request). IfSome o (IsUnderway state)) is first) in
      comes_left member (paths_of placed) what state r (none_left r what refl asks.0) (none_named can) (λ m other. stays_as r what refl m) (stays_as r what refl member ∙ removal_goes r member one) old
      (λ before. subst (AreInOrder (coming state r)) (sym (installs_as r what refl)) before))

-- ---- a package goes

pub gone_request : (number : ℕ) (pkg : Pkg) (kept : Option KeptFiles) (state : SwitchState) (files : Tree) → CanFollow number (Removes pkg kept) state → InstalledIsSound state files → IfSome state.request (RequestIsSound state)
    → IfSome (noted (done.Removed pkg number (is_some kept)) state.request) (RequestIsSound (without_pkg pkg (done.Removed pkg number (is_some kept)) state))
gone_request number pkg kept state files follows installed sound =
    let what = done.Removed pkg number (is_some kept) in
    asked_after (RequestIsSound state) (RequestIsSound (without_pkg pkg what state)) what state.request sound
    (λ r is old.
    let next = removal_asks number pkg kept (contents_in state) follows.0 (open_of r) (subst (λ (o : Option Request). removed number pkg kept (contents_in state) (option_map open_of o) ≡ Some follows.0) is follows.1) in
    goes_left pkg number (is_some kept) state r next installed.names old)

-- ---- a request ends, and one begins

module _ (state after : SwitchState) (files : Tree) (members : after.members ≡ state.members) (owned : after.owned ≡ state.owned) where
  -- what is installed is sound by its entries and paths alone
  pub installed_as : InstalledIsSound state files → InstalledIsSound after files
  installed_as sound = record {
    names = subst NamesDiffer (sym members) sound.names;
    run = subst RunOnEarlier (sym members) sound.run;
    edges = subst EdgesPointBefore (sym members) sound.edges;
    agree = subst Agree (sym members) sound.agree;
    owners = (λ i. list_all (λ (o : OwnedPath). list_any (λ (m : Member). is_same_pkg (member_pkg m) o.owner) (members i)) (owned i)) ∙ sound.owners;
    paths = record {
      owned = subst (λ (os : List OwnedPath). AreApart (owning.paths_of os)) (sym owned) sound.paths.owned;
      foreign = λ path is.
          subst (λ (os : List OwnedPath). IsFalse (list_any (meets path) (owning.paths_of os))) (sym owned)
          (sound.paths.foreign path (is.0, is.1, subst (λ (os : List OwnedPath). IsFalse (list_any (bytes_eq path) (owning.paths_of os))) owned is.2));
    };
  }

pub ended_sound : (state : SwitchState) (files : Tree) → InstalledIsSound state files → Sound (state_ended state) files
ended_sound state files sound = record { installed = installed_as state (state_ended state) files refl refl sound; request = tt }

twice : (b : Bool) → not (not b) ≡ b
twice true = refl
twice false = refl

pub begun_sound : (number : ℕ) (asking : Asking) (state : SwitchState) (files : Tree) → AsksSoundly state asking → InstalledIsSound state files → Sound (state_begun number asking state) files
begun_sound number asking state files asks sound =
    let after = state_begun number asking state in
    let request = request_begun number asking in
    record {
      installed = installed_as state after files refl refl sound;
      request = record {
        target = asks.target;
        removals = asks.removals;
        apart =
            all_more (λ (m : Member). false) (is_left_apart state asking) (is_apart after request) state.members
            (λ m none is. ap (λ b. b || (not (has_edge m asking.removals) && not (has_edge m (member_pkgs (arriving state asking))))) (twice (is_leaving asking m)) ∙ is)
            (none_of state.members) asks.apart;
        order = asks.order;
      };
    }

-- the entries and paths of a state whose request is ended
closed_members : (state : SwitchState) → (state_closed state).members ≡ state.members
closed_members state = by (is_some state.request)
  where
    by : (b : Bool) → (if b then state_ended state else state).members ≡ state.members
    by true = refl
    by false = refl

closed_owned : (state : SwitchState) → (state_closed state).owned ≡ state.owned
closed_owned state = by (is_some state.request)
  where
    by : (b : Bool) → (if b then state_ended state else state).owned ≡ state.owned
    by true = refl
    by false = refl

-- what comes, by the entries alone
abbrev came_to : Asking → List Member → List Member
came_to asking ms = filter (λ (member : Member). not (list_any (is_left_entry asking (name_of member)) ms)) asking.target

asks_as : (state after : SwitchState) (asking : Asking) → after.members ≡ state.members → AsksSoundly state asking → AsksSoundly after asking
asks_as state after asking members asks = record {
  target = asks.target;
  removals = subst (λ (ms : List Member). filter (λ (pkg : Pkg). list_any (is_same_pkg pkg) asking.removals) (member_pkgs ms) ≡ reverse asking.removals) (sym members) asks.removals;
  apart = (λ i. list_all (λ (m : Member). is_leaving asking m || (not (has_edge m asking.removals) && not (has_edge m (member_pkgs (came_to asking (members i)))))) (members i)) ∙ asks.apart;
  order = subst (λ (ms : List Member). AreInOrder (came_to asking ms) []) (sym members) asks.order;
}

pub closed_begun : (number : ℕ) (asking : Asking) (state : SwitchState) (files : Tree) → AsksSoundly state asking → InstalledIsSound state files → Sound (state_begun number asking (state_closed state)) files
closed_begun number asking state files asks sound =
    begun_sound number asking (state_closed state) files (asks_as state (state_closed state) asking (closed_members state) asks)
    (installed_as state (state_closed state) files (closed_members state) (closed_owned state) sound)
