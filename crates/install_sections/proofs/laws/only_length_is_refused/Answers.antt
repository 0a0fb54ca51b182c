use Rattle.install_sections.proofs.Lengths.{only_length_is_refused}
use Rattle.install_sections.proofs.laws.only_length_is_refused.Goals as goal

pub returns : goal.returns
returns c = only_length_is_refused
