use Rattle.std.proofs.Common.{ap, map, subst, sym}
use Rattle.switch_journal.specs.Reading.{standing_of}
use Rattle.switch_state.proofs.Recovered.{IsReading, reading_more, reading_none}
use Rattle.switch_state.proofs.recovery.read_target.Goals as goal

pub returns-in-None-2 : goal.returns-in-None-2
returns-in-None-2 c =
    reading_none c.args.globals.now (map (standing_of c.args.from.now) c.args.target) (map (standing_of c.args.from.now) c.loop-entry.entry-iterator.rest.items) (map (standing_of c.args.from.now) c.next.new.self.rest.items) c.loop-entry.members
    (standing_of c.args.from.now c.in-Some.entry) c.in_ok-read_member.field-0 (ap (map (standing_of c.args.from.now)) c.in-Some.ensures.steps.0) c.in-None-2.is c.in_ok-read_member.ensures c.loop-entry.invariant

pub loop-entry-preserved : goal.loop-entry-preserved
loop-entry-preserved c =
    subst (IsReading c.args.globals.now (map (standing_of c.args.from.now) c.args.target) (map (standing_of c.args.from.now) c.next.new.self.rest.items)) (sym c.in_ok-push-in-Some-2.ensures.ok)
    (reading_more c.args.globals.now (map (standing_of c.args.from.now) c.args.target) (map (standing_of c.args.from.now) c.loop-entry.entry-iterator.rest.items) (map (standing_of c.args.from.now) c.next.new.self.rest.items) c.loop-entry.members
    (standing_of c.args.from.now c.in-Some.entry) c.in-Some-2.member c.in_ok-read_member.field-0 (ap (map (standing_of c.args.from.now)) c.in-Some.ensures.steps.0) c.in-Some-2.is c.in_ok-read_member.ensures c.loop-entry.invariant)
