use Rattle.std.proofs.Common.{◌∙◌, List, ℕ, ap, subst, sym, Option}
use Rattle.std.specs.Prelude.{IfSome}
use Rattle.journal_text.specs.declared.record.KeptFiles.{KeptFiles}
use Rattle.owner_map.specs.Owning.{paths_owned_by}
use Rattle.owner_map.specs.declared.owned.OwnedPath.{OwnedPath}
use Rattle.switch_state.specs.Gathering.{IsKeepable}
use Rattle.switch_state.specs.Keeps.{few_files, kept_from}
use Rattle.switch_state.specs.State.{Now, SwitchState}
use Rattle.switch_state.specs.WellFormed.{IsWellFormed}
use Rattle.switch_state.proofs.Removing.{removal_ordered, removal_prepared, removal_short}
use Rattle.switch_state.proofs.switch.Switch.prepare_remove.Goals as goal

pub removal_with-requires-clause-ordered : goal.removal_with-requires-clause-ordered
removal_with-requires-clause-ordered g c =
    let now = c.make_room.new.self in
    let takes = c.in_ok-takes.ensures ∙ ap (λ (n : Now). paths_owned_by c.args.pkg.now n.state.owned) c.self.view_is in
    let part = subst (λ (ps : List (List ℕ)). IfSome c.in_ok-kept.kept (IsKeepable now.state.members c.args.pkg.now ps)) c.as_slice.ensures c.in_ok-kept.ensures.part in
    removal_ordered now.state c.args.pkg.now c.in_ok-kept.kept c.in_ok-takes.takes (subst IsWellFormed (sym c.make_room.ensures.before.state) c.requires.formed) takes part

pub removal_with-requires-clause-short : goal.removal_with-requires-clause-short
removal_with-requires-clause-short g c =
    removal_short c.make_room.new.self.state.members c.args.pkg.now c.in_ok-kept.kept c.as_slice.result.now c.is_bare_removal_short.ensures c.in_ok-kept.ensures.part

pub returns-clause-prepared : goal.returns-clause-prepared
returns-clause-prepared g c =
    let now = c.make_room.new.self in
    let pkg = c.args.pkg.now in
    let takes = c.in_ok-takes.ensures ∙ ap (λ (n : Now). paths_owned_by pkg n.state.owned) c.self.view_is in
    let part = subst (λ (ps : List (List ℕ)). IfSome c.in_ok-kept.kept (IsKeepable now.state.members pkg ps)) c.as_slice.ensures c.in_ok-kept.ensures.part in
    record {
      kept = c.in_ok-kept.kept;
      keeps = λ s is. c.in_ok-kept.ensures.told s is ∙ ap (λ (ps : List (List ℕ)). kept_from now.state pkg (few_files s.files ps)) (c.as_slice.ensures ∙ takes);
      prepares =
          removal_prepared pkg c.in_ok-kept.kept c.in_ok-takes.takes c.in_ok-removal_with.field-0 c.make_room.ensures.before c.requires.follows c.requires.formed takes part c.in_ok-make_room.ensures.done
          c.in_ok-removal_with.ensures.change c.in_ok-removal_with.ensures.ready;
    }
