use Rattle.run_answers.specs.Stops.{refusal_stop}
use Rattle.opam_queries.proofs.Asked.{refused_or}
use Rattle.opam_queries.proofs.asking.refused.Goals as goal

pub returns : goal.returns
returns c = refused_or (refusal_stop c.args.refusal.now) c.stop_of_refusal.result c.stop_of_refusal.ensures
