use Rattle.install_sections.proofs.FileLaws.{files_are_limited}
use Rattle.install_sections.proofs.laws.files_are_limited.Goals as goal

pub returns : goal.returns
returns c = files_are_limited
