use Rattle.change_outcome.proofs.Foreign.{foreign_stay}
use Rattle.change_outcome.proofs.laws.foreign_files_stay.Goals as goal

pub returns : goal.returns
returns c = foreign_stay
