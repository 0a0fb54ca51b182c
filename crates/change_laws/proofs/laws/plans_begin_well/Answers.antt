use Rattle.change_laws.proofs.Beginning.{plans_begin}
use Rattle.change_laws.proofs.laws.plans_begin_well.Goals as goal

pub returns : goal.returns
returns c = plans_begin
