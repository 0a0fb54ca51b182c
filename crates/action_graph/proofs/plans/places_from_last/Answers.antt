use Rattle.action_graph.specs.Listing.{IsMarked}
use Rattle.action_graph.proofs.Planning.{places_back}
use Rattle.action_graph.proofs.plans.places_from_last.Goals as goal

pub returns : goal.returns
returns c =
    places_back (IsMarked c.args.marks.now) c.in_ok-marked_places.field-0 c.into_vec-places.result.items c.reverse.new.self.items c.from_vec.result c.in_ok-marked_places.ensures c.into_vec-places.ensures
    c.reverse.ensures.items c.from_vec.ensures
