-- What a stop at any moment of writing a slot leaves, and what the writing leaves.
use Rattle.std.proofs.Common.{ℕ, ◌<◌, ◌^◌, List, Bool, length}
use Rattle.std.specs.Prelude.{is_some}
use Rattle.crash_disk.specs.Effects.{Touches}
use Rattle.crash_disk.specs.Stops.{StopsLeave}
use Rattle.crash_disk.specs.Writes.{paths_of, with_writes}
use Rattle.crash_disk.specs.declared.batch.Write.{Write}
use Rattle.crash_disk.specs.declared.disk.Disk.{Ghosts}
use Rattle.crash_disk.proofs.Stops.{NowIs, Stage, Wrote, stage_first, stage_next, stage_stops, stops_by}
use Rattle.switch_journal.specs.Slots.{IsSlotStage, old_writes, shut_writes, slot_gate_writes, slot_writes, slot_written}
use Rattle.switch_journal.specs.Texts.{Journal, RestsAs, next_number}
use Rattle.switch_journal.proofs.Slotted.{first_part, fourth_part, old_tree, second_part, third_part, whole_after}

module _ {D : Type 0} (g : Ghosts D) (now_is : NowIs g) (j : Journal) (slot : Bool) (text : List ℕ) (few : next_number j < 2 ^ 63) {a : D} (rest : RestsAs j (g.told a)) where
  abbrev shut : List Write
  shut = shut_writes slot (is_some (j.slots slot))

  abbrev put : List Write
  put = slot_writes slot text

  abbrev gate : List Write
  gate = slot_gate_writes slot

  abbrev old : List Write
  old = old_writes j.first (length j.records)

  pub stops_shut : {b : D} → Touches g (paths_of shut) a b → StopsLeave g (IsSlotStage j slot text) a b
  stops_shut touches = stops_by now_is (IsSlotStage j slot text) (paths_of shut) rest.tree rest.tells touches (first_part j slot text rest.tree rest.whole)

  after_shut : {b : D} → Wrote g shut a b → Stage g (IsSlotStage j slot text) a b (with_writes shut rest.tree)
  after_shut one = stage_first now_is shut rest.tree rest.tells one (first_part j slot text rest.tree rest.whole)

  pub stops_put : {b c : D} → Wrote g shut a b → Touches g (paths_of put) b c → StopsLeave g (IsSlotStage j slot text) a c
  stops_put one touches = stage_stops now_is put (after_shut one) touches (second_part j slot text rest.tree rest.whole)

  after_put : {b c : D} → Wrote g shut a b → Wrote g put b c → Stage g (IsSlotStage j slot text) a c (with_writes put (with_writes shut rest.tree))
  after_put one two = stage_next now_is put (after_shut one) two (second_part j slot text rest.tree rest.whole)

  pub stops_gate : {b c d : D} → Wrote g shut a b → Wrote g put b c → Touches g (paths_of gate) c d → StopsLeave g (IsSlotStage j slot text) a d
  stops_gate one two touches = stage_stops now_is gate (after_put one two) touches (third_part j slot text rest.tree rest.whole)

  after_gate : {b c d : D} → Wrote g shut a b → Wrote g put b c → Wrote g gate c d → Stage g (IsSlotStage j slot text) a d (with_writes gate (with_writes put (with_writes shut rest.tree)))
  after_gate one two three = stage_next now_is gate (after_put one two) three (third_part j slot text rest.tree rest.whole)

  pub stops_old : {b c d e : D} → Wrote g shut a b → Wrote g put b c → Wrote g gate c d → Touches g (paths_of old) d e → StopsLeave g (IsSlotStage j slot text) a e
  stops_old one two three touches = stage_stops now_is old (after_gate one two three) touches (fourth_part j slot text rest.tree rest.whole few)

  pub rests_old : {b c d e : D} → Wrote g shut a b → Wrote g put b c → Wrote g gate c d → Wrote g old d e → RestsAs (slot_written j slot text) (g.told e)
  rests_old one two three four = record {
    tree = old_tree j slot text rest.tree rest.whole;
    tells = (stage_next now_is old (after_gate one two three) four (fourth_part j slot text rest.tree rest.whole few)).told;
    whole = whole_after j slot text rest.tree rest.whole few;
  }
