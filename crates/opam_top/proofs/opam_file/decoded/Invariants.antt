use Rattle.std.proofs.Common.{◌≡◌, drop}
use Rattle.std.specs.List.{fold}
use Rattle.opam_top.specs.OpamFiles.{decode_byte, fresh_decoder}
use Rattle.opam_top.proofs.opam_file.decoded.Given as goal

abbrev pub invariant-loop-byte : goal.invariant-loop-byte
invariant-loop-byte l = fold decode_byte l.decoder (drop l.byte-index l.bytes) ≡ fold decode_byte fresh_decoder l.bytes
