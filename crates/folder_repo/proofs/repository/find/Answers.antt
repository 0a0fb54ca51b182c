use Rattle.folder_repo.specs.Repository.{starved}
use Rattle.folder_repo.proofs.repository.find.Goals as goal

pub returns-in-Err-clause-told : goal.returns-in-Err-clause-told
returns-in-Err-clause-told g c = λ files is. starved
