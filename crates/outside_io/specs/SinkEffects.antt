-- What a teller was told between two moments, and what its sink has got of it, in one word. This project's own. It takes the
-- ghost members of a whole sink, handed over as `S.Sink`.
use Rattle.std.specs.Prelude.{◌≡◌, ◌≤◌, ℕ, List, Bool, true, false}
use Rattle.outside_io.specs.Counts.{Rose}
use Rattle.outside_io.specs.Sinks.{Got, GotPrefix}
use Rattle.outside_io.specs.declared.sink.Sink.{Ghosts}

-- all of the bytes where it has not stopped, their first where it has, and none where it had before
pub record IsTold {S : Type 0} (g : Ghosts S) (bytes : List ℕ) (was_stopped stopped : Bool) (old new : S) : Type 0 where
  pub later : g.faults old ≤ g.faults new
  pub all : stopped ≡ false → Got (g.written old) (g.written new) bytes
  pub quiet : stopped ≡ false → g.faults new ≡ g.faults old
  pub rose : was_stopped ≡ false → stopped ≡ true → Rose (g.faults old) (g.faults new)
  pub part : GotPrefix (g.written old) (g.written new) bytes
  pub stays : was_stopped ≡ true → stopped ≡ true
  pub silent : was_stopped ≡ true → g.written new ≡ g.written old
  pub unmoved : was_stopped ≡ true → g.faults new ≡ g.faults old
