-- What a stop at any moment of a commit leaves, and what the commit leaves.
use Rattle.std.proofs.Common.{◌≡◌, inl, inr, ℕ, ◌<◌, ◌^◌, List, true}
use Rattle.std.specs.List.{list_all}
use Rattle.crash_disk.specs.Effects.{Touches}
use Rattle.crash_disk.specs.Stops.{StopsLeave}
use Rattle.crash_disk.specs.Writes.{paths_of, with_writes}
use Rattle.crash_disk.specs.declared.batch.Write.{Write}
use Rattle.crash_disk.specs.declared.disk.Disk.{Ghosts}
use Rattle.crash_disk.proofs.Stops.{NowIs, Stage, Wrote, stage_first, stage_next, stage_stops, stops_by}
use Rattle.switch_journal.specs.Commits.{entry_writes, gate_writes, is_outside}
use Rattle.switch_journal.specs.Texts.{IsBeforeOrAfter, Journal, RestsAs, next_number, with_record}
use Rattle.switch_journal.proofs.Committed.{first_part, second_part, third_part, three, whole_after}

module _ {D : Type 0} (g : Ghosts D) (now_is : NowIs g) (j : Journal) (text : List ℕ) (writes : List Write) (apart : list_all is_outside writes ≡ true) (few : next_number j < 2 ^ 63) {a : D} (rest : RestsAs j (g.told a)) where
  pub stops_first : {b : D} → Touches g (paths_of (entry_writes (next_number j) text)) a b → StopsLeave g (IsBeforeOrAfter j text writes) a b
  stops_first touches =
      stops_by now_is (IsBeforeOrAfter j text writes) (paths_of (entry_writes (next_number j) text)) rest.tree rest.tells touches
      (λ image same. inl (first_part j text writes rest.tree few apart rest.whole image same))

  after_first : {b : D} → Wrote g (entry_writes (next_number j) text) a b → Stage g (IsBeforeOrAfter j text writes) a b (with_writes (entry_writes (next_number j) text) rest.tree)
  after_first batch =
      stage_first now_is (entry_writes (next_number j) text) rest.tree rest.tells batch
      (λ image same. inl (first_part j text writes rest.tree few apart rest.whole image same))

  pub stops_second : {b c : D} → Wrote g (entry_writes (next_number j) text) a b → Touches g (paths_of (gate_writes (next_number j))) b c → StopsLeave g (IsBeforeOrAfter j text writes) a c
  stops_second batch touches = stage_stops now_is (gate_writes (next_number j)) (after_first batch) touches (second_part j text writes rest.tree few apart rest.whole)

  after_second : {b c : D} → Wrote g (entry_writes (next_number j) text) a b → Wrote g (gate_writes (next_number j)) b c
      → Stage g (IsBeforeOrAfter j text writes) a c (with_writes (gate_writes (next_number j)) (with_writes (entry_writes (next_number j) text) rest.tree))
  after_second batch next = stage_next now_is (gate_writes (next_number j)) (after_first batch) next (second_part j text writes rest.tree few apart rest.whole)

  pub stops_third : {b c d : D} → Wrote g (entry_writes (next_number j) text) a b → Wrote g (gate_writes (next_number j)) b c → Touches g (paths_of writes) c d → StopsLeave g (IsBeforeOrAfter j text writes) a d
  stops_third batch next touches = stage_stops now_is writes (after_second batch next) touches (λ image same. inr (third_part j text writes rest.tree few apart rest.whole image same))

  pub rests_after : {b c d : D} → Wrote g (entry_writes (next_number j) text) a b → Wrote g (gate_writes (next_number j)) b c → Wrote g writes c d → RestsAs (with_record j text writes) (g.told d)
  rests_after batch next last = record {
    tree = three j text writes rest.tree few apart rest.whole;
    tells = (stage_next now_is writes (after_second batch next) last (λ image same. inr (third_part j text writes rest.tree few apart rest.whole image same))).told;
    whole = whole_after j text writes rest.tree few apart rest.whole;
  }
