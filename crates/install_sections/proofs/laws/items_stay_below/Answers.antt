use Rattle.install_sections.proofs.ItemLaws.{items_stay_below}
use Rattle.install_sections.proofs.laws.items_stay_below.Goals as goal

pub returns : goal.returns
returns c = items_stay_below
