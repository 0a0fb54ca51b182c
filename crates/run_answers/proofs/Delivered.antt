-- What a sink has got of a text.
use Rattle.std.proofs.Common.{ℕ, List, Bool, true, false, refl, arith}
use Rattle.outside_io.specs.SinkEffects.{IsTold}
use Rattle.outside_io.specs.declared.sink.Sink.{Ghosts}
use Rattle.run_answers.specs.Deliveries.{Delivers}

module _ {S : Type 0} {g : Ghosts S} where
  pub delivered : (stopped : Bool) (text : List ℕ) {old new : S} → IsTold g text false stopped old new → Delivers g text old new
  delivered false text told = record { later = told.later; whole = λ quiet. told.all refl; part = told.part }
  delivered true text told = record {
    later = told.later;
    whole = λ quiet. let rose = told.rose refl refl in absurd (omega (arith, quiet, rose));
    part = told.part;
  }
