use Rattle.std.proofs.Common.{subst, sym}
use Rattle.switch_journal.specs.Contents.{Contents}
use Rattle.switch_journal.specs.Journal.{Head}
use Rattle.switch_state.specs.Recovery.{TellsDamage}
use Rattle.switch_state.specs.declared.fault.SwitchFault.{SwitchFault}
use Rattle.switch_state.specs.State.{Now}
use Rattle.std.specs.Prelude.{Err}
use Rattle.switch_state.proofs.Recovered.{made_stands, made_tells, told_bad}
use Rattle.switch_state.proofs.switch.Switch.recover.Goals as goal

pub switch_of-requires : goal.switch_of-requires
switch_of-requires g c = c.in-Ok.ensures.formed

pub returns-in-Err-clause-damaged : goal.returns-in-Err-clause-damaged
returns-in-Err-clause-damaged g c = λ s is.
    subst (λ (f : SwitchFault). TellsDamage {T = Now} (Err f) s.files) (sym c.told_fault.ensures) (told_bad (Head × Contents) c.in-Err.fault s.files (c.in-Err.ensures.bad s is))

pub returns-in-Ok-clause-stands : goal.returns-in-Ok-clause-stands
returns-in-Ok-clause-stands g c = λ s is.
    made_stands c.args.globals.now c.in-Ok.journal c.in-Ok.kept s.files (g.D.Disk.told c.recover.new.disk) c.switch_of.result c.switch_of.ensures (c.in-Ok.ensures.opens s is)

pub returns-in-Ok-clause-damaged : goal.returns-in-Ok-clause-damaged
returns-in-Ok-clause-damaged g c = λ s is.
    made_tells c.what_is_read_is_said.ensures c.readings_are_determined.ensures c.args.globals.now c.in-Ok.journal c.in-Ok.kept s.files (g.D.Disk.told c.recover.new.disk) c.switch_of.result c.switch_of.ensures (c.in-Ok.ensures.opens s is)
