use Rattle.std.proofs.Common.{subst, arith}
use Rattle.journal_text.specs.Reading.{Fails}
use Rattle.journal_text.specs.SlotReading.{slot_at}
use Rattle.journal_text.specs.declared.stop.Stop.{Stop}
use Rattle.journal_text.proofs.SlotsRead.{slot_decoded, slot_refused, slot_unread}
use Rattle.journal_text.proofs.slot_decoding.decode_slot.Goals as goal

pub returns-in-Ok-clause-some : goal.returns-in-Ok-clause-some
returns-in-Ok-clause-some c = slot_decoded c.args.bytes.now c.in-Ok.slot c.in_order.result (λ i. omega (arith, c.type_inv.bytes i)) (omega arith) c.in-Ok.ensures c.in_order.ensures.some

pub returns-in-Ok-clause-none : goal.returns-in-Ok-clause-none
returns-in-Ok-clause-none c = slot_refused c.args.bytes.now c.in-Ok.slot c.in_order.result c.in-Ok.ensures c.in_order.ensures.none

pub returns-in-Err-Bad-clause-none : goal.returns-in-Err-Bad-clause-none
returns-in-Err-Bad-clause-none c = slot_unread c.args.bytes.now (subst (λ (e : Stop). Fails e (slot_at c.args.bytes.now)) c.in-Err-Bad.field-0-is c.in-Err-Bad.ensures)
