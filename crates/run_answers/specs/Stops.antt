-- Why a run comes to no answer: its status, and what is then said. This project's own.
use Rattle.std.specs.Prelude.{◌≡◌, ◌⊎◌, ℕ, List, [], ◌++◌, codes}
use Rattle.command_words.specs.Texts.{fault_text}
use Rattle.command_words.specs.declared.fault.WordFault.{WordFault}
use Rattle.command_words.specs.declared.fault.WordFault.TheVariants as word_fault
use Rattle.change_front.specs.RefusalTexts.{refusal_text}
use Rattle.change_front.specs.Refusals.{kind_of}
use Rattle.change_front.specs.declared.refusal.Kind.{Kind}
use Rattle.change_front.specs.declared.refusal.Kind.TheVariants as kind
use Rattle.change_front.specs.declared.refusal.Refusal.{Refusal}
use Rattle.run_answers.specs.declared.status.Status.{Status}
use Rattle.run_answers.specs.declared.status.Status.TheVariants as status
use Rattle.run_answers.specs.declared.stop.Cause.{Cause}
use Rattle.run_answers.specs.declared.stop.Cause.TheVariants as cause
use Rattle.run_answers.specs.declared.stop.Stop.{Stop}
use Rattle.run_answers.specs.declared.stop.Stop.TheVariants.{Refused, Locked, HostFailed, DiskFailed, Memory}

-- each cause of a refusal has a status of its own
abbrev pub status_of_cause : Cause → Status
status_of_cause cause.Words = status.Words
status_of_cause cause.NotFound = status.NotFound
status_of_cause cause.NoSolution = status.NoSolution
status_of_cause cause.BadFile = status.BadFile
status_of_cause cause.Damaged = status.Damaged

-- the status of a run that is stopped
abbrev pub status_of_stop : Stop → Status
status_of_stop (Refused why text) = status_of_cause why
status_of_stop Locked = status.Locked
status_of_stop HostFailed = status.HostFailed
status_of_stop DiskFailed = status.DiskFailed
status_of_stop Memory = status.Memory

-- what is then said on standard error: of want of memory nothing
abbrev pub text_of_stop : Stop → List ℕ
text_of_stop (Refused why text) = text
text_of_stop Locked = codes "the switch is locked\n"
text_of_stop HostFailed = codes "host fault\n"
text_of_stop DiskFailed = codes "disk fault\n"
text_of_stop Memory = []

-- the cause of each kind of refusal
abbrev pub cause_of_kind : Kind → Cause
cause_of_kind kind.Missing = cause.NotFound
cause_of_kind kind.NoSolution = cause.NoSolution
cause_of_kind kind.BadFile = cause.BadFile

-- the stop of a run whose files, names or packages are refused
abbrev pub refusal_stop : Refusal → Stop
refusal_stop refusal = Refused (cause_of_kind (kind_of refusal)) (refusal_text refusal)

-- the stop of a run whose words are no command, with this said of them
abbrev pub bad_words : List ℕ → Stop
bad_words said = Refused cause.Words (said ++ codes "\n")

-- the same by their fault; want of memory is no such fault
abbrev pub words_stop : WordFault → Stop
words_stop word_fault.Memory = Memory
words_stop fault = bad_words (fault_text fault)

-- the journal of the switch is damaged at this path
abbrev pub damage_stop : List ℕ → Stop
damage_stop path = Refused cause.Damaged (path ++ codes ": damaged\n")

-- it is this stop, or memory was wanting to say so
abbrev pub IsStopFor : Stop → Stop → Type 0
IsStopFor expected stop = (stop ≡ expected) ⊎ (stop ≡ Memory)
