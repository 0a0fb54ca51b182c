-- Well-formed states stay so.
use Rattle.std.proofs.Common.{◌≡◌, ℕ, List, [], true, refl, Option, Some, None}
use Rattle.std.specs.Prelude.{IsSome, is_some}
use Rattle.std.specs.Option.{option_map}
use Rattle.std.specs.List.Sorted.{IsStrictlySortedBy}
use Rattle.opam_names.specs.ByteOrders.{RisesBy}
use Rattle.opam_names.specs.declared.packages.Pkg.{Pkg}
use Rattle.opam_package.specs.declared.package.Member.{Member}
use Rattle.path_order.proofs.Lists.{apart_none}
use Rattle.owner_map.specs.Owning.{is_of_another, path_of}
use Rattle.owner_map.specs.OwningLaws.{AdditionsAreMet}
use Rattle.journal_text.specs.Parts.{AreFree, is_own, own_name, paths_of}
use Rattle.journal_text.specs.declared.record.KeptFiles.{KeptFiles}
use Rattle.journal_text.specs.declared.record.Placed.{Placed}
use Rattle.switch_journal.specs.Applying.{can_come, removed}
use Rattle.switch_journal.specs.Contents.{Contents}
use Rattle.switch_journal.specs.declared.request.Done.{Done}
use Rattle.switch_journal.specs.declared.request.Done.TheVariants as done
use Rattle.switch_state.specs.Actions.{Action, CanBeSpelled, CanFollow, Installs, PutsBack, Removes, and_member, is_other_member, noted, state_after, without_pkg}
use Rattle.switch_state.specs.Begins.{Asking, BeginFits, state_begun}
use Rattle.switch_state.specs.Sound.{name_of}
use Rattle.switch_state.specs.SoundLaws.{empty_state}
use Rattle.switch_state.specs.State.{Request, SwitchState, contents_in, open_of}
use Rattle.switch_state.specs.WellFormed.{IsWellFormed}
use Rattle.switch_state.proofs.Aparts.{chosen_apart, comes_apart}
use Rattle.switch_state.proofs.Readied.{backs_come, installs_come}
use Rattle.switch_state.proofs.SoundKept.{absent, fold_none, names_kept, none_differ, owners_kept}
use Rattle.switch_state.proofs.SoundLeft.{distinct_left, owners_left, paths_left}

none_rise : RisesBy own_name []
unfolding IsStrictlySortedBy
none_rise = tt

pub empty_formed : IsWellFormed empty_state
empty_formed = record {
  names = none_differ;
  paths = record { apart = apart_none; free = refl };
  owners = refl;
  roots = none_rise;
  asked = λ none. refl;
}

-- ---- an action

-- a request that has done one thing more is open
still_open : (what : Done) (request : Option Request) {P : Type 0} → IsSome request → noted what request ≡ None → P
still_open what None asked none = absurd (cc)
still_open what (Some request) asked none = absurd (cc)

comes_formed : AdditionsAreMet → (member : Member) (placed : List Placed) (what : Done) (state : SwitchState) → (can_come member.package.pkg placed (contents_in state) ≡ true) × IsSome state.request → AreFree (paths_of placed) → IsWellFormed state
    → IsWellFormed (and_member member (paths_of placed) what state)
comes_formed met member placed what state asks free formed = record {
  names = names_kept state.members member (absent member placed state asks.0) formed.names;
  paths = record {
    apart = comes_apart met member placed state asks.0 free.apart formed.paths.apart;
    free = fold_none is_own member.package.pkg (paths_of placed) state.owned free.free formed.paths.free;
  };
  owners = owners_kept state.members member (paths_of placed) state.owned formed.owners;
  roots = formed.roots;
  asked = λ none. still_open what state.request asks.1 none;
}

goes_formed : (pkg : Pkg) (what : Done) (state : SwitchState) → IsSome state.request → IsWellFormed state → IsWellFormed (without_pkg pkg what state)
goes_formed pkg what state asked formed = record {
  names = distinct_left (is_other_member pkg) name_of state.members formed.names;
  paths = record {
    apart = chosen_apart path_of (is_of_another pkg) state.owned formed.paths.apart;
    free = paths_left pkg is_own state.owned formed.paths.free;
  };
  owners = owners_left pkg state.members state.owned formed.owners;
  roots = formed.roots;
  asked = λ none. still_open what state.request asked none;
}

-- a removal asks that a request is open
removes_asked : (number : ℕ) (pkg : Pkg) (kept : Option KeptFiles) (c : Contents) (request : Option Request) (after : Contents) → removed number pkg kept c (option_map open_of request) ≡ Some after → IsSome request
removes_asked number pkg kept c None after is = absurd (cc)
removes_asked number pkg kept c (Some request) after is = refl

pub acts_formed : AdditionsAreMet → (number : ℕ) (action : Action) (state : SwitchState) → CanFollow number action state → CanBeSpelled action → IsWellFormed state → IsWellFormed (state_after number action state)
acts_formed met number (Installs member placed) state follows spelled formed =
    comes_formed met member placed (done.Installed member.package.pkg) state (installs_come number member placed state state.request follows.0 follows.1) spelled.ordered formed
acts_formed met number (PutsBack member placed) state follows spelled formed =
    comes_formed met member placed (done.PutBack member.package.pkg) state (backs_come number member placed state state.request follows.0 follows.1) spelled.ordered formed
acts_formed met number (Removes pkg kept) state follows spelled formed =
    goes_formed pkg (done.Removed pkg number (is_some kept)) state (removes_asked number pkg kept (contents_in state) state.request follows.0 follows.1) formed

-- ---- a begin

pub begun_formed : (number : ℕ) (asking : Asking) (state : SwitchState) → BeginFits number asking state → IsWellFormed state → IsWellFormed (state_begun number asking state)
begun_formed number asking state fits formed = record {
  names = formed.names;
  paths = formed.paths;
  owners = formed.owners;
  roots = fits.ordered.roots_rise;
  asked = λ none. absurd (cc);
}
