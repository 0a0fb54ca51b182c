-- States that a journal can tell. This project's own.
use Rattle.std.specs.Prelude.{◌≡◌, IsTrue}
use Rattle.std.specs.List.{list_all}
use Rattle.std.specs.declared.option.Option.TheVariants.{None}
use Rattle.opam_names.specs.ByteOrders.{RisesBy}
use Rattle.owner_map.specs.Owning.{paths_of}
use Rattle.journal_text.specs.Parts.{AreFree, own_name}
use Rattle.switch_state.specs.Ends.{is_entry_name}
use Rattle.switch_state.specs.Sound.{NamesDiffer, OwnersAreEntries}
use Rattle.switch_state.specs.State.{SwitchState}

-- each name stands once, owned paths stand apart and none is the journal's, each owner is an entry, what was asked for rises by name,
-- and while no request is open it is installed
pub record IsWellFormed (state : SwitchState) : Type 0 where
  pub names : NamesDiffer state.members
  pub paths : AreFree (paths_of state.owned)
  pub owners : OwnersAreEntries state
  pub roots : RisesBy own_name state.roots
  pub asked : state.request ≡ None → IsTrue (list_all (is_entry_name state.members) state.roots)
