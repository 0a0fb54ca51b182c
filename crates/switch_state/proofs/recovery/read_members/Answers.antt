use Rattle.std.proofs.Common.{subst, sym}
use Rattle.switch_state.proofs.Recovered.{IsReading, reading_more, reading_none}
use Rattle.switch_state.proofs.recovery.read_members.Goals as goal

pub returns-in-None-2 : goal.returns-in-None-2
returns-in-None-2 c =
    reading_none c.args.globals.now c.args.standing c.loop-one.one-iterator.rest.items c.next.new.self.rest.items c.loop-one.members c.in-Some.one c.in_ok-read_member.field-0 c.in-Some.ensures.steps.0 c.in-None-2.is c.in_ok-read_member.ensures c.loop-one.invariant

pub loop-one-preserved : goal.loop-one-preserved
loop-one-preserved c =
    subst (IsReading c.args.globals.now c.args.standing c.next.new.self.rest.items) (sym c.in_ok-push-in-Some-2.ensures.ok)
    (reading_more c.args.globals.now c.args.standing c.loop-one.one-iterator.rest.items c.next.new.self.rest.items c.loop-one.members c.in-Some.one c.in-Some-2.member c.in_ok-read_member.field-0 c.in-Some.ensures.steps.0 c.in-Some-2.is c.in_ok-read_member.ensures
    c.loop-one.invariant)
