use Rattle.change_floor.proofs.Keeping.{jobs_see_their_views}
use Rattle.change_floor.proofs.laws.jobs_see_their_views.Goals as goal

pub returns : goal.returns
returns c = jobs_see_their_views
