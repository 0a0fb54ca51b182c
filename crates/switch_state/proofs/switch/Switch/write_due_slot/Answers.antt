use Rattle.switch_state.proofs.Inside.{inside_none, stays_now}
use Rattle.switch_state.proofs.switch.Switch.write_due_slot.Goals as goal

pub returns-else-due-clause-inside : goal.returns-else-due-clause-inside
returns-else-due-clause-inside g c = inside_none c.args.disk.now

pub returns-else-due-clause-crash : goal.returns-else-due-clause-crash
returns-else-due-clause-crash g c = λ files can. stays_now g.D.Disk g.met.D.Disk.now_is c.args.self.now files c.args.disk.now can
