use Rattle.syntax_faults.proofs.DeepPlaces.{deep_places_are_told}
use Rattle.syntax_faults.proofs.laws.deep_places_are_told.Goals as goal

pub returns : goal.returns
returns c = deep_places_are_told
