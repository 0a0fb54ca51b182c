-- What sinks have got at the end of a run. This project's own. A word takes the ghost members of whole sinks.
use Rattle.std.specs.Prelude.{◌≡◌, ◌≤◌, ℕ, List, Bool, false, Result}
use Rattle.outside_io.specs.Counts.{Quiet}
use Rattle.outside_io.specs.SinkEffects.{IsTold}
use Rattle.outside_io.specs.Sinks.{Got, GotPrefix}
use Rattle.outside_io.specs.declared.sink.Sink.{Ghosts}
use Rattle.run_answers.specs.Ends.{status_at_end, text_at_end}
use Rattle.run_answers.specs.declared.end.End.{End}
use Rattle.run_answers.specs.declared.status.Status.{Status}
use Rattle.run_answers.specs.declared.stop.Stop.{Stop}

-- all of the text where the sink has not failed, and its first bytes in any case
pub record Delivers {S : Type 0} (g : Ghosts S) (text : List ℕ) (old new : S) : Type 0 where
  pub later : g.faults old ≤ g.faults new
  pub whole : Quiet (g.faults old) (g.faults new) → Got (g.written old) (g.written new) text
  pub part : GotPrefix (g.written old) (g.written new) text

-- the output has got the text as far as it took it, the status is that of the end where the output was broken or not, and standard
-- error has got what is said of that
pub record Answers {O E : Type 0} (o : Ghosts O) (e : Ghosts E) (end : Result End Stop) (text : List ℕ) (status : Status) (out_old out_new : O) (err_old err_new : E) : Type 0 where
  pub broken : Bool
  pub told : IsTold o text false broken out_old out_new
  pub ends : status ≡ status_at_end broken end
  pub said : Delivers e (text_at_end broken end) err_old err_new
