use Rattle.opam_top.specs.Switches.{empty_switch}
use Rattle.opam_top.specs.Outcomes.{outcome}
use Rattle.outside_io.specs.Counts.{last_count}
use Rattle.std.proofs.Common.{◌≡◌, ◌≤◌, ℕ, [], length, Some, true, ◌<◌, take}
use Rattle.std.specs.List.{flat_map}
use Rattle.opam_top.specs.Reports.{line_of}
use Rattle.child_pool.specs.Crews.{IsFresh}
use Rattle.outside_io.specs.Shops.{Told}
use Rattle.crash_disk.specs.Disks.{State}
use Rattle.opam_top.specs.Pasts.{Passes}
use Rattle.opam_top.specs.Changes.{AreReceipts, IsRegular, Says, AreDated}
use Rattle.opam_top.specs.Holdings.{KeepsOthers}
use Rattle.opam_top.specs.Journals.{is_fresh}
use Rattle.opam_top.proofs.Looped.{HasCome}
use Rattle.opam_top.proofs.change.install_members.Given as goal

-- the first packages are decided and reported, no call of the disk has failed, and the crew is idle
abbrev pub invariant-loop-id : goal.invariant-loop-id
invariant-loop-id g l =
    let C = g.C.Crew in let D = g.D.Disk in let O = g.O.Sink in
    record {
      fit : C.fit l.crew;
      idle : C.running l.crew ≡ [];
      size : C.size l.crew ≡ C.size l.fn.crew;
      shop : C.told l.crew ≡ C.told l.fn.crew;
      fresh : (k : ℕ) → l.id ≤ k → IsFresh k (C.events l.crew);
      sink : l.out.sink.ghost_name ≡ l.fn.out.sink.ghost_name;
      faults : D.faults l.disk ≡ D.faults l.fn.disk;
      time : Passes (D.moment l.fn.disk) (D.moment l.disk) (D.past l.fn.disk) (D.past l.disk);
      kept : (s : State) → D.told l.fn.disk ≡ Some s → (new : State) × (D.told l.disk ≡ Some new) × KeepsOthers s.files new.files;
      regular : IsRegular l.progress;
      count : length l.progress.decisions.items ≡ l.id;
      receipts : AreReceipts (D.moment l.fn.disk) (D.moment l.disk) l.progress.receipts.items;
      said : Says l.fn.out.stopped l.out.stopped (O.faults l.fn.out.sink.now) (O.faults l.out.sink.now) (O.written l.fn.out.sink.now) (O.written l.out.sink.now) (flat_map line_of l.progress.decisions.items);
      dated : (told : Told) (s : State) → g.W.Workshop.told l.fn.shop ≡ Some told → D.told l.fn.disk ≡ Some s → is_fresh s.files ≡ true → D.moment l.disk < last_count → AreDated (D.past l.disk) (outcome told (empty_switch s.files) (take l.id l.members)).records l.progress.receipts.items;
      come : (told : Told) (s : State) → g.W.Workshop.told l.fn.shop ≡ Some told → D.told l.fn.disk ≡ Some s → is_fresh s.files ≡ true → HasCome told s.files l.members l.id l.progress (D.told l.disk);
    }
