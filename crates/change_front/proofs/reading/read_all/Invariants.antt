use Rattle.std.proofs.Common.{◌≡◌, Some}
use Rattle.outside_io.specs.Counts.{Files}
use Rattle.outside_io.specs.HostEffects.{HostFails, OnlyReadsHost}
use Rattle.change_front.specs.Reading.{Reads}
use Rattle.change_front.specs.Turns.{AreRead}
use Rattle.change_front.specs.declared.limits.TheConstants.{READ_LIMIT}
use Rattle.change_front.specs.declared.reading.End.{End}
use Rattle.change_front.proofs.Shrinking.{unread}
use Rattle.change_front.proofs.reading.read_all.Given as goal

-- the host has not failed, and what ends reading from here ends it from the start
abbrev pub invariant-packages : goal.invariant-packages
invariant-packages g l =
    let H = g.H.Host in
    record {
      quiet : H.faults l.host ≡ H.faults l.fn.host;
      reads : OnlyReadsHost H l.fn.host l.host;
      on : (files : Files) → H.files l.fn.host ≡ Some files → (end : End) → Reads files l.repo l.globals l.reader.chase l.reader.room end → Reads files l.repo l.globals l.fn.begun READ_LIMIT end;
      stays : l.reader.chase.installed ≡ l.fn.begun.installed;
      read : AreRead l.globals l.reader.chase.known;
    }

abbrev pub decreases-packages : goal.decreases-packages
decreases-packages g l = unread l.reader.chase
