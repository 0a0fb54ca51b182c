use Rattle.std.proofs.Common.{◌≡◌, map, take}
use Rattle.crash_disk.specs.Traces.{listing}
use Rattle.crash_disk.proofs.memory_disk.images.copy_files.Given as goal

-- the first files are copied
abbrev pub invariant-loop-file : goal.invariant-loop-file
invariant-loop-file l = map listing l.copies.items ≡ map listing (take l.file-index l.files)
