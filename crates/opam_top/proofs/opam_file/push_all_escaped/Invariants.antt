use Rattle.std.proofs.Common.{◌≡◌, ◌++◌, drop}
use Rattle.opam_top.specs.OpamFiles.{all_escaped}
use Rattle.opam_top.proofs.opam_file.push_all_escaped.Given as goal

abbrev pub invariant-loop-byte : goal.invariant-loop-byte
invariant-loop-byte l = l.text.items ++ all_escaped (drop l.byte-index l.bytes) ≡ l.initial.text.items ++ all_escaped l.bytes
