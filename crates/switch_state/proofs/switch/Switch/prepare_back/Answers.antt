use Rattle.std.proofs.Common.{◌≤◌, ◌∙◌, List, [], ap, arith, length, subst, sym}
use Rattle.journal_text.specs.Records.{IsInOrder, record_bytes}
use Rattle.journal_text.specs.declared.record.Rec.{Rec}
use Rattle.journal_text.specs.declared.record.TheConstants.{RECORD_LIMIT}
use Rattle.switch_journal.specs.Journal.{work_with}
use Rattle.switch_journal.specs.Steps.{IsReady}
use Rattle.journal_text.specs.declared.record.Placed.{Placed}
use Rattle.switch_journal.specs.declared.request.Done.TheVariants as done
use Rattle.switch_state.specs.Prepares.{owned_files}
use Rattle.switch_state.specs.declared.prepared.Change.TheVariants.{Comes}
use Rattle.switch_state.proofs.Readied.{back_prepared, both_ok, room_made}
use Rattle.switch_state.proofs.switch.Switch.prepare_back.Goals as goal

pub with_record-requires-clause-ordered : goal.with_record-requires-clause-ordered
with_record-requires-clause-ordered c = subst IsInOrder (sym c.in_ok-entry.ensures) c.requires.spelled.ordered

pub with_record-requires-clause-short : goal.with_record-requires-clause-short
with_record-requires-clause-short c = subst (λ (e : Rec). length (record_bytes e) ≤ RECORD_LIMIT) (sym c.in_ok-entry.ensures) c.requires.spelled.short

pub returns-clause-prepared : goal.returns-clause-prepared
returns-clause-prepared c =
    let now = c.make_room.new.self in
    let room = room_made 1 c.len.result (length c.args.files) now c.in_ok-make_room.ensures.entries (omega arith) c.in_ok-make_room.ensures.paths (sym c.len.ensures) c.in_ok-make_room.ensures.done in
    both_ok c.with_record.result c.with_record.ensures.change c.with_record.ensures.ready (λ p change ready.
    back_prepared c.additions_are_met.ensures c.args.member.now c.args.files c.make_room.ensures.before c.requires.spelled.ordered room p c.requires.follows (change ∙ c.in_ok-change.ensures ∙ ap (λ (fs : List Placed). Comes c.args.member.now (owned_files c.args.member.now.package.pkg fs) (done.PutBack c.args.member.now.package.pkg)) c.as_slice.ensures)
    (subst (λ (e : Rec). IsReady now.head.next e (work_with e []) p.ready) c.in_ok-entry.ensures ready))
