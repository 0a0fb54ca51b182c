use Rattle.std.proofs.Common.{◌∙◌, List, Option, ap, subst, sym}
use Rattle.std.specs.Option.{option_map}
use Rattle.opam_names.specs.ByteOrders.{in_order_by}
use Rattle.journal_text.specs.Parts.{own_name}
use Rattle.switch_journal.specs.declared.request.Open.{Open}
use Rattle.switch_journal.specs.declared.standing.Standing.{Standing}
use Rattle.switch_state.specs.Recovery.{AreRead, IsFirstRefused, IsOpenRead, target_texts}
use Rattle.switch_state.specs.State.{Room, done_room, request_in}
use Rattle.switch_state.proofs.Recovered.{entry_refused, recovered, target_refused}
use Rattle.switch_state.proofs.recovery.switch_of.Goals as goal

pub returns-in-Ok-Refused : goal.returns-in-Ok-Refused
returns-in-Ok-Refused c =
    let first = rw c.in-Ok-Refused.field-0-is at c.in-Ok-Refused.ensures in
    entry_refused c.in-Ok-Refused.from c.args.kept (subst (IsFirstRefused c.in-Ok-Refused.from) c.into_parts-standing.ensures.standing first)

pub returns-in-Ok-Refused-read_request : goal.returns-in-Ok-Refused-read_request
returns-in-Ok-Refused-read_request c =
    let are = rw c.in-Ok-Whole.field-0-is at c.in-Ok-Whole.ensures in
    let all = subst (λ (texts : List Standing). AreRead c.args.globals.now texts c.in-Ok-Whole.members) c.into_parts-standing.ensures.standing are in
    let first = rw c.in-Ok-Refused-read_request.field-0-is at c.in-Ok-Refused-read_request.ensures in
    target_refused c.in-Ok-Refused-read_request.from c.args.kept all.accepted
    (subst (λ (r : Option Open). IsFirstRefused c.in-Ok-Refused-read_request.from (target_texts r)) c.into_parts-standing.ensures.request first)

pub returns-in-Ok : goal.returns-in-Ok
returns-in-Ok c =
    let are = rw c.in-Ok-Whole.field-0-is at c.in-Ok-Whole.ensures in
    let all = subst (λ (texts : List Standing). AreRead c.args.globals.now texts c.in-Ok-Whole.members) c.into_parts-standing.ensures.standing are in
    let read = rw c.in-Ok-Whole-read_request.field-0-is at c.in-Ok-Whole-read_request.ensures in
    let asked = subst (λ (r : Option Open). IsOpenRead c.args.globals.now r (option_map request_in c.in-Ok-Whole-read_request.request)) c.into_parts-standing.ensures.request read in
    let room : Room = record { entries = c.from_items.result.room; paths = c.into_parts-standing.result.1.spare; done = done_room c.in-Ok-Whole-read_request.request } in
    recovered c.args.globals.now c.args.journal c.args.kept c.from_items.result.items c.into_parts-standing.result.1.owned c.in-Ok.roots (option_map request_in c.in-Ok-Whole-read_request.request) room c.requires
    (subst (AreRead c.args.globals.now c.args.kept.standing) (sym c.from_items.ensures) all) asked c.into_parts-standing.ensures.owned c.stand_apart.ensures
    (c.in-Ok.ensures ∙ ap (in_order_by own_name) c.into_parts-standing.ensures.roots)
