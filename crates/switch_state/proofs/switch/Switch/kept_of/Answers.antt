use Rattle.std.proofs.Common.{◌∙◌, List, ap, subst, sym, Option}
use Rattle.std.specs.Prelude.{IfSome}
use Rattle.std.specs.List.{find}
use Rattle.journal_text.specs.Parts.{paths_of}
use Rattle.journal_text.specs.declared.record.Placed.{Placed}
use Rattle.opam_package.specs.declared.package.Member.{Member}
use Rattle.switch_state.specs.Gathering.{IsPart}
use Rattle.switch_state.specs.Keeps.{is_member_of}
use Rattle.switch_state.specs.State.{Now}
use Rattle.switch_state.proofs.Removing.{keep_part}
use Rattle.switch_state.proofs.switch.Switch.kept_of.Goals as goal

pub returns-in_ok-keep_if_short-in-Some-2-clause-part : goal.returns-in_ok-keep_if_short-in-Some-2-clause-part
returns-in_ok-keep_if_short-in-Some-2-clause-part g c =
    let members = c.as_slice.ensures ∙ ap (λ (n : Now). n.state.members) c.self.view_is in
    let found = ap (λ (ms : List Member). find (is_member_of c.args.pkg.now) ms) (sym members) ∙ sym c.in-Some.ensures in
    let part = subst (λ (o : Option (List Placed)). IfSome o (λ files. IsPart (paths_of files) c.args.paths.now)) c.in-Some-2.is c.in_ok-standing_files-in-Some.ensures.part in
    keep_part c.args.self.now.state.members c.args.pkg.now c.args.paths.now c.in-Some.member.now c.in-Some-2.files c.in_ok-keep_if_short-in-Some-2.field-0 found part c.in_ok-keep_if_short-in-Some-2.ensures
