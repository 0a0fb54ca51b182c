-- What a journal says of a switch. This project's own.
use Rattle.std.specs.Prelude.{ℕ, List}
use Rattle.std.specs.declared.option.Option.{Option}
use Rattle.journal_text.specs.declared.record.Entry.{Entry}
use Rattle.owner_map.specs.declared.owned.OwnedPath.{OwnedPath}
use Rattle.switch_journal.specs.declared.request.Open.{Open}
use Rattle.switch_journal.specs.declared.standing.Standing.{Standing}

-- what is installed, in the order of installation; whose each path is; what was asked for; and the request that is open
pub record Contents : Type 0 where
  pub standing : List Standing
  pub owned : List OwnedPath
  pub roots : List (List ℕ)
  pub request : Option Open

-- the package alone, with its opam text
abbrev pub entry_of : Standing → Entry
entry_of s = s.entry
