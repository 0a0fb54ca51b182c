use Rattle.std.proofs.Common.{List, subst, sym}
use Rattle.opam_names.specs.ByteOrders.{NeverFallsBy}
use Rattle.opam_names.proofs.ByteOrders.{order_up}
use Rattle.switch_journal.specs.Pieced.{place_name}
use Rattle.switch_journal.specs.declared.slot_owners.NamePlace.{NamePlace}
use Rattle.switch_journal.proofs.slot_owners.sorted_names.Goals as goal

pub returns : goal.returns
returns c = subst (λ (names : List NamePlace). NeverFallsBy place_name names) (sym c.in_ok-sort_by_bytes.ensures.ok) (order_up place_name c.loop-at.names.items)
