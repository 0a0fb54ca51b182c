use Rattle.syntax_places.proofs.Endings.{none_begin}
use Rattle.syntax_places.proofs.beginnings.begin_near.Goals as goal

pub returns : goal.returns
returns c = none_begin c.args.bytes.now
