-- What each question is answered, by the state of the switch and the files of the host. This project's own.
use Rattle.std.specs.Prelude.{◌≡◌, ◌<◌, ◌≤◌, ℕ, List, length, Bool, bytes_eq, if◌then◌else◌, Result, Ok, Err}
use Rattle.std.specs.FinMap.{get}
use Rattle.std.specs.List.{find, list_any}
use Rattle.std.specs.declared.option.Option.{Option}
use Rattle.std.specs.declared.option.Option.TheVariants.{None, Some}
use Rattle.opam_names.specs.Packages.{pkg_text}
use Rattle.opam_names.specs.declared.packages.Pkg.{Pkg}
use Rattle.command_words.specs.declared.command.Query.{Query}
use Rattle.command_words.specs.declared.command.Query.TheVariants as query
use Rattle.command_words.specs.declared.command.Shown.{Shown}
use Rattle.command_words.specs.declared.command.Shown.TheVariants.{Name, Exact}
use Rattle.opam_filter.specs.Variables.{Values}
use Rattle.opam_package.specs.declared.limits.TheConstants.{OPAM_LIMIT}
use Rattle.opam_package.specs.declared.package.Member.{Member}
use Rattle.opam_lint.specs.FindingTexts.{findings_text, is_error}
use Rattle.opam_lint.specs.Linted.{IsLinted}
use Rattle.opam_lint.specs.declared.finding.Finding.{Finding}
use Rattle.outside_io.specs.Counts.{Files}
use Rattle.owner_map.specs.Owning.{Owning, is_same_pkg}
use Rattle.folder_repo.specs.OpamPaths.{path_in_repo}
use Rattle.folder_repo.specs.Repository.{IsMemberOf}
use Rattle.change_front.specs.Reading.{IsPackageRefusal}
use Rattle.change_front.specs.declared.limits.TheConstants.{READ_LIMIT}
use Rattle.change_front.specs.declared.refusal.Refusal.{Refusal}
use Rattle.change_front.specs.declared.refusal.Refusal.TheVariants.{NotFound, TooLong}
use Rattle.action_report.specs.Queries.{list_text, show_text}
use Rattle.crash_disk.specs.Disks as disks
use Rattle.crash_disk.specs.Disks.{Tree}
use Rattle.package_vars.specs.BuildVariables.{global_rows, variables_of}
use Rattle.package_vars.specs.declared.facts.Facts.{Facts}
use Rattle.switch_state.specs.Recovery.{AreMembersRead, IsDamagedAt, OpensSwitch}
use Rattle.switch_state.specs.State.{Now, SwitchState}
use Rattle.run_answers.specs.Stops.{damage_stop, refusal_stop}
use Rattle.run_answers.specs.declared.end.Answer.{Answer}
use Rattle.run_answers.specs.declared.end.End.{End}
use Rattle.run_answers.specs.declared.end.End.TheVariants.{Done, Findings}
use Rattle.run_answers.specs.declared.stop.Stop.{Stop}

-- a run's answer, or why it comes to none
abbrev pub Answered : Type 0
Answered = Result Answer Stop

-- all is done, and this is written
abbrev pub told_answer : List ℕ → Answer
told_answer text = record { end = Done; text = text }

-- this word names nothing that is there
abbrev pub nothing_found : List ℕ → Answered
nothing_found word = Err (refusal_stop (NotFound word))

-- ---- list

-- what is installed
abbrev pub list_answer : SwitchState → Answer
list_answer state = told_answer (list_text state.members)

-- ---- show

-- the entry is asked for: it has the name, whatever its version, or it is just that package
abbrev pub is_asked : Shown → Member → Bool
is_asked (Name name) member = bytes_eq member.package.pkg.name name
is_asked (Exact pkg) member = is_same_pkg member.package.pkg pkg

-- the entry that is asked for
abbrev pub asked_entry : Shown → List Member → Option Member
asked_entry what members = find (is_asked what) members

-- whose the paths of the switch are
abbrev pub owning_of : SwitchState → Owning
owning_of state = record { owned = state.owned; spare = 0 }

-- a package that is installed
abbrev pub installed_answer : SwitchState → Member → Answer
installed_answer state member = told_answer (show_text member (Some (owning_of state)))

-- a package that is not: the file in the repository is absent, it is that of the package, or it is refused
pub data IsAvailable (globals : Values) (repo : List ℕ) (pkg : Pkg) : Option (List ℕ) → Answered → Type 0 where
  absent : IsAvailable globals repo pkg None (nothing_found (pkg_text pkg))
  present : {bytes : List ℕ} {member : Member} → IsMemberOf bytes pkg READ_LIMIT globals member
      → IsAvailable globals repo pkg (Some bytes) (Ok (told_answer (show_text member None)))
  refused : {bytes : List ℕ} {refusal : Refusal} → IsPackageRefusal (path_in_repo repo pkg) pkg READ_LIMIT (Some bytes) refusal
      → IsAvailable globals repo pkg (Some bytes) (Err (refusal_stop refusal))

-- of what is not installed a name is not found, and a package is looked for in the repository
abbrev pub IsNotInstalled : Files → Values → List ℕ → Shown → Answered → Type 0
IsNotInstalled files globals repo (Name name) answer = answer ≡ nothing_found name
IsNotInstalled files globals repo (Exact pkg) answer = IsAvailable globals repo pkg (get files (path_in_repo repo pkg)) answer

-- where this entry is the one that is asked for, or none is
abbrev pub IsShown : Files → Values → List ℕ → SwitchState → Shown → Option Member → Answered → Type 0
IsShown files globals repo state what (Some member) answer = answer ≡ Ok (installed_answer state member)
IsShown files globals repo state what None answer = IsNotInstalled files globals repo what answer

-- ---- lint

-- how a run ends that has found an error or not
abbrev pub end_of_findings : Bool → End
end_of_findings has_error = if has_error then Findings else Done

-- these findings in the file of this name
abbrev pub lint_answer : List ℕ → List Finding → Answer
lint_answer file findings = record {
  end = end_of_findings (list_any is_error findings);
  text = findings_text file findings;
}

-- the file is absent, it is too long, or these are its findings
pub data IsLintAnswer (file : List ℕ) : Option (List ℕ) → Answered → Type 0 where
  no_file : IsLintAnswer file None (nothing_found file)
  too_long : {bytes : List ℕ} → OPAM_LIMIT < length bytes → IsLintAnswer file (Some bytes) (Err (refusal_stop (TooLong file)))
  linted : {bytes : List ℕ} {findings : List Finding} → length bytes ≤ OPAM_LIMIT → IsLinted bytes findings
      → IsLintAnswer file (Some bytes) (Ok (lint_answer file findings))

-- ---- all

-- the variables by which the packages of a run are read
abbrev pub run_globals : Facts → Values
run_globals facts = variables_of (global_rows facts.globals)

-- a switch was opened of these files, and stands for the disk
pub record IsOpened (facts : Facts) (tree : Tree) (told : Option disks.State) (now : Now) : Type 0 where
  pub opens : OpensSwitch now tree told
  pub members : AreMembersRead (run_globals facts) now.state

-- what a question is answered: `list` and `show` of the switch that the disk has, if it is not damaged; `lint` of the file alone
pub data IsReply (facts : Facts) (files : Files) (tree : Tree) (told : Option disks.State) : Query → Answered → Type 0 where
  lists : {now : Now} → IsOpened facts tree told now → IsReply facts files tree told query.List (Ok (list_answer now.state))
  shows : {now : Now} {repo : List ℕ} {what : Shown} {answer : Answered} → IsOpened facts tree told now
      → IsShown files (run_globals facts) repo now.state what (asked_entry what now.state.members) answer
      → IsReply facts files tree told (query.Show repo what) answer
  lints : {file : List ℕ} {answer : Answered} → IsLintAnswer file (get files file) answer → IsReply facts files tree told (query.Lint file) answer
  list_damaged : {path : List ℕ} → IsDamagedAt tree path → IsReply facts files tree told query.List (Err (damage_stop path))
  show_damaged : {path repo : List ℕ} {what : Shown} → IsDamagedAt tree path → IsReply facts files tree told (query.Show repo what) (Err (damage_stop path))
