use Rattle.std.proofs.Common.{◌≤◌, ◌∙◌, List, [], ap, length, subst, sym}
use Rattle.journal_text.specs.Records.{IsInOrder, record_bytes}
use Rattle.journal_text.specs.declared.record.Rec.{Rec}
use Rattle.journal_text.specs.declared.record.TheConstants.{RECORD_LIMIT}
use Rattle.switch_journal.specs.Steps.{IsReady}
use Rattle.switch_state.specs.Begins.{asking_for}
use Rattle.switch_state.proofs.Beginning.{begin_same}
use Rattle.switch_state.proofs.switch.Switch.ready_opening.Goals as goal

pub ready_begin-requires-clause-ordered : goal.ready_begin-requires-clause-ordered
ready_begin-requires-clause-ordered c =
    let same = begin_same c.args.self.now.head.next (asking_for c.args.target.now c.args.removals.now c.args.self.now.state) c.in_ok-roots.roots c.in_ok-request.request c.in_ok-request.ensures (c.in_ok-roots.ensures ∙ c.as_slice.ensures) in
    subst IsInOrder (sym same) c.requires.ordered

pub ready_begin-requires-clause-short : goal.ready_begin-requires-clause-short
ready_begin-requires-clause-short c =
    let same = begin_same c.args.self.now.head.next (asking_for c.args.target.now c.args.removals.now c.args.self.now.state) c.in_ok-roots.roots c.in_ok-request.request c.in_ok-request.ensures (c.in_ok-roots.ensures ∙ c.as_slice.ensures) in
    subst (λ (e : Rec). length (record_bytes e) ≤ RECORD_LIMIT) (sym same) c.requires.short

pub returns-clause-ready : goal.returns-clause-ready
returns-clause-ready c =
    let same = begin_same c.args.self.now.head.next (asking_for c.args.target.now c.args.removals.now c.args.self.now.state) c.in_ok-roots.roots c.in_ok-request.request c.in_ok-request.ensures (c.in_ok-roots.ensures ∙ c.as_slice.ensures) in
    subst (λ (e : Rec). IsReady c.args.self.now.head.next e [] c.in_ok-ready.ready) same c.in_ok-ready.ensures
