use Rattle.change_outcome.proofs.Spelling.{backs_spelled, installs_spelled}
use Rattle.change_outcome.proofs.laws.records_are_spelled.Goals as goal

pub returns-clause-installs : goal.returns-clause-installs
returns-clause-installs c = installs_spelled

pub returns-clause-put_backs : goal.returns-clause-put_backs
returns-clause-put_backs c = backs_spelled
