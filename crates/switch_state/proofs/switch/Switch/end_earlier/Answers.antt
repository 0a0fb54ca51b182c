use Rattle.std.proofs.Common.{◌∙◌, ap, inl, inr, subst, sym}
use Rattle.std.specs.Prelude.{if◌then◌else◌, is_some, Bool}
use Rattle.crash_disk.proofs.Stops.{stops_more}
use Rattle.switch_state.specs.Begins.{IsAroundClose}
use Rattle.switch_state.specs.State.{Now}
use Rattle.switch_state.proofs.Closings.{around_close, is_open_there}
use Rattle.switch_state.proofs.Inside.{inside_none, stays_now}
use Rattle.switch_state.proofs.switch.Switch.end_earlier.Goals as goal

pub returns-then-is_some-clause-crash : goal.returns-then-is_some-clause-crash
returns-then-is_some-clause-crash g c = λ files can. stops_more (IsAroundClose c.args.self.now.state files) (around_close c.args.self.now.state files (is_open_there c.self.inside.request c.args.self.now.state c.is_some.result c.if-is_some.true c.is_some.ensures (ap (λ (n : Now). n.state.request) c.self.view_is))) (c.end.ensures.crash files can)

pub returns-else-is_some-clause-inside : goal.returns-else-is_some-clause-inside
returns-else-is_some-clause-inside g c = inside_none c.args.disk.now

pub returns-else-is_some-clause-crash : goal.returns-else-is_some-clause-crash
returns-else-is_some-clause-crash g c = λ files can. stops_more (IsAroundClose c.args.self.now.state files) (λ image is. inl is) (stays_now g.D.Disk g.met.D.Disk.now_is c.args.self.now files c.args.disk.now can)
