use Rattle.switch_journal.specs.Places.{gate_path, record_path}
use Rattle.switch_journal.proofs.GatedTells.{tells_at}
use Rattle.switch_journal.proofs.gated.read_record.Goals as goal

pub returns-clause-told : goal.returns-clause-told
returns-clause-told g c =
    tells_at (g.D.Disk.told c.args.disk.now) c.in_ok-gate.gate (gate_path c.args.number) c.in_ok-path.path (record_path c.args.number) c.args.limit c.read_gated.result c.in_ok-gate.ensures c.in_ok-path.ensures c.read_gated.ensures.told
