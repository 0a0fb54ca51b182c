-- What a stop at any moment of an opening leaves, and what the opening leaves.
use Rattle.std.proofs.Common.{◌≡◌, inl, inr, [], true, Some, refl}
use Rattle.std.specs.List.{list_all}
use Rattle.crash_disk.specs.Effects.{Leaves, Touches, at_rest, unchanged}
use Rattle.crash_disk.specs.Stops.{StopsLeave}
use Rattle.crash_disk.specs.Writes.{paths_of, with_writes}
use Rattle.crash_disk.specs.declared.disk.Disk.{Ghosts}
use Rattle.crash_disk.proofs.Stops.{NowIs, rests_then, stops_by, stops_off, stops_then}
use Rattle.switch_journal.specs.Commits.{is_outside}
use Rattle.switch_journal.specs.Texts.{IsOldOrSame, Journal, RestsAs, TellsAs}
use Rattle.switch_journal.proofs.Read.{reads_again, whole_again}

module _ {D : Type 0} (g : Ghosts D) (now_is : NowIs g) (j : Journal) {a : D} (apart : list_all is_outside j.last ≡ true) (tells : TellsAs j (g.told a)) where
  -- while the first sync goes on, a stop leaves what one before might have left
  pub stops_sync : {b : D} → Touches g [] a b → StopsLeave g (IsOldOrSame j (g.told a)) a b
  stops_sync touches = stops_off now_is (IsOldOrSame j (g.told a)) [] tells.now tells.tells touches (λ image off. inl (tells.now, tells.tells, λ q firm. off q refl firm))

  told_synced : {b : D} → Leaves g unchanged a b → g.told b ≡ Some (at_rest tells.now.files)
  told_synced {b} leaves = rests_then g unchanged a b tells.now leaves tells.tells

  pub stops_again : {b c : D} → Touches g [] a b → Leaves g unchanged a b → Touches g (paths_of j.last) b c → StopsLeave g (IsOldOrSame j (g.told a)) a c
  stops_again synced leaves touches =
      stops_then synced.goes touches.goes (stops_sync synced)
      (stops_by now_is (IsOldOrSame j (g.told a)) (paths_of j.last) tells.now.files (told_synced leaves) touches
      (λ image same. inr (reads_again j tells.now.files image apart tells.reads same)))

  pub rests_again : {b c : D} → Leaves g unchanged a b → Leaves g (with_writes j.last) b c → RestsAs j (g.told c)
  rests_again {b} {c} leaves again = record {
    tree = with_writes j.last tells.now.files;
    tells = rests_then g (with_writes j.last) b c (at_rest tells.now.files) again (told_synced leaves);
    whole = whole_again j tells.now.files apart tells.reads;
  }
