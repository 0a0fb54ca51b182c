-- What holds of what a journal says, whatever the disk tells: names stand once, and owners and roots are installed. This project's own.
use Rattle.std.specs.Prelude.{◌≡◌, List, ℕ, Bool, true, false, map, bytes_eq, IfSome}
use Rattle.std.specs.List.{IsDistinct, list_all, list_any}
use Rattle.std.specs.declared.option.Option.{Option}
use Rattle.std.specs.declared.option.Option.TheVariants.{None}
use Rattle.journal_text.specs.Parts.{is_own}
use Rattle.owner_map.specs.Owning as owning
use Rattle.owner_map.specs.declared.owned.OwnedPath.{OwnedPath}
use Rattle.switch_journal.specs.Applying.{has_name, has_pkg}
use Rattle.switch_journal.specs.Contents.{Contents}
use Rattle.switch_journal.specs.Reading.{name_of_standing}
use Rattle.switch_journal.specs.declared.opening.Opened.{Opened}
use Rattle.switch_journal.specs.declared.opening.Opened.TheVariants as opened
use Rattle.switch_journal.specs.declared.walk.First.{First}
use Rattle.switch_journal.specs.declared.walk.Turn.{Turn}
use Rattle.switch_journal.specs.declared.walk.Turn.TheVariants as turn
use Rattle.switch_journal.specs.declared.walk.Walk.{Walk}
use Rattle.switch_journal.specs.declared.walk.Walked.{Walked}
use Rattle.switch_journal.specs.declared.walk.Walked.TheVariants as walked

-- the names of what is installed
abbrev pub standing_names : Contents → List (List ℕ)
standing_names c = map name_of_standing c.standing

-- the owner of the path is installed
abbrev pub has_owner_of : Contents → OwnedPath → Bool
has_owner_of c owned = has_pkg c owned.owner

-- each name stands once, no owned path is the switch's own folder or lies below it, and each owner is installed
pub record IsInstalledFormed (c : Contents) : Type 0 where
  pub names : IsDistinct bytes_eq (standing_names c)
  pub free : list_any is_own (owning.paths_of c.owned) ≡ false
  pub owners : list_all (has_owner_of c) c.owned ≡ true

-- each name was asked for once, and while no request is open it is installed
pub record AreRootsFormed (c : Contents) : Type 0 where
  pub differ : IsDistinct bytes_eq c.roots
  pub asked : c.request ≡ None → list_all (λ name. has_name name c) c.roots ≡ true

-- both
pub record IsFormed (c : Contents) : Type 0 where
  pub installed : IsInstalledFormed c
  pub roots : AreRootsFormed c

-- ---- for private clauses

-- in an old journal roots are made at the end alone
pub record IsFormedIn (old : Bool) (c : Contents) : Type 0 where
  pub installed : IsInstalledFormed c
  pub roots : old ≡ false → AreRootsFormed c

-- what a step, a first record, a turn, a walk and a reading say, where they say anything
abbrev pub IsStepFormed : Bool → Option Walk → Type 0
IsStepFormed old step = IfSome step (λ walk. IsFormedIn old walk.kept)

abbrev pub IsFirstFormed : First → Type 0
IsFirstFormed first = IsStepFormed first.old first.step

abbrev pub IsTurnFormed : Bool → Turn → Type 0
IsTurnFormed old (turn.End walk) = IsFormedIn old walk.kept
IsTurnFormed old turn.Bad = Unit {0}
IsTurnFormed old (turn.On walk) = IsFormedIn old walk.kept

abbrev pub IsWalkFormed : Walked → Type 0
IsWalkFormed (walked.Bad number) = Unit {0}
IsWalkFormed (walked.Whole old next walk) = IsFormedIn old walk.kept

abbrev pub IsOpenedFormed : Opened → Type 0
IsOpenedFormed (opened.Bad path) = Unit {0}
IsOpenedFormed (opened.Whole head c work) = IsFormed c
