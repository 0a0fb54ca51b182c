use Rattle.std.proofs.Common.{◌≡◌, length, take, min}
use Rattle.std.specs.List.{flat_map}
use Rattle.journal_text.specs.Parts.{placed_bytes}
use Rattle.switch_state.proofs.removals.files_len.Given as goal

-- the bytes of the first files, up to the greatest number
abbrev pub invariant-loop-file : goal.invariant-loop-file
invariant-loop-file l = l.len ≡ min (length (flat_map placed_bytes (take l.file-index l.files))) 18446744073709551615
