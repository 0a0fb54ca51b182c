use Rattle.install_sections.proofs.FileLaws.{files_stay_below}
use Rattle.install_sections.proofs.laws.files_stay_below.Goals as goal

pub returns : goal.returns
returns c = files_stay_below
