use Rattle.std.proofs.Common.{◌≡◌, ◌+◌, ◌<◌, length, string_bytes, subst, sym, ap, arith}
use Rattle.opam_names.specs.Paths.{joined, IsRelative}
use Rattle.opam_names.proofs.Parts.{joined_relative}
use Rattle.opam_names.proofs.paths.RelPath.join.Goals as goal

pub invariant_of-result : goal.invariant_of-result
invariant_of-result c =
    let e : string_bytes c.in_ok-joined_text.field-0 ≡ joined c.as_str.result.now c.as_str-2.result.now = c.in_ok-joined_text.ensures in
    let above : IsRelative c.as_str.result.now = subst IsRelative (sym c.as_str.ensures.value) c.self.invariant in
    let below : IsRelative c.as_str-2.result.now = subst IsRelative (sym c.as_str-2.ensures.value) c.below.invariant in
    let first = ap length c.as_str.ensures.value in
    let second = ap length c.as_str-2.ensures.value in
    let short : length c.as_str.result.now + length c.as_str-2.result.now < 1024 = omega (arith, first, second, c.len.ensures, c.len-2.ensures, c.if-len-ge-PATH_LIMIT.false) in
    subst IsRelative (sym e) (joined_relative c.as_str.result.now c.as_str-2.result.now above below short)
