-- How a run ends, with which status, and what is then said. This project's own.
use Rattle.std.specs.Prelude.{ℕ, List, [], Bool, codes, if◌then◌else◌, Result, Ok, Err}
use Rattle.run_answers.specs.Stops.{status_of_stop, text_of_stop}
use Rattle.run_answers.specs.declared.end.Answer.{Answer}
use Rattle.run_answers.specs.declared.end.End.{End}
use Rattle.run_answers.specs.declared.end.End.TheVariants.{Done, Findings, Actions}
use Rattle.run_answers.specs.declared.status.Status.{Status}
use Rattle.run_answers.specs.declared.status.Status.TheVariants as status
use Rattle.run_answers.specs.declared.stop.Stop.{Stop}

-- its status, where the output was broken or not: that counts only where all else is done
abbrev pub status_at_end : Bool → Result End Stop → Status
status_at_end broken (Ok Done) = if broken then status.OutFailed else status.Done
status_at_end broken (Ok Findings) = status.Findings
status_at_end broken (Ok Actions) = status.Actions
status_at_end broken (Err stop) = status_of_stop stop

-- what is then said on standard error
abbrev pub text_at_end : Bool → Result End Stop → List ℕ
text_at_end broken (Ok Done) = if broken then codes "output fault\n" else []
text_at_end broken (Ok Findings) = []
text_at_end broken (Ok Actions) = []
text_at_end broken (Err stop) = text_of_stop stop

-- how a run ends with an answer, or is stopped
abbrev pub end_of : Result Answer Stop → Result End Stop
end_of (Ok answer) = Ok answer.end
end_of (Err stop) = Err stop

-- what it writes to the output: where it is stopped, nothing
abbrev pub out_of : Result Answer Stop → List ℕ
out_of (Ok answer) = answer.text
out_of (Err stop) = []
