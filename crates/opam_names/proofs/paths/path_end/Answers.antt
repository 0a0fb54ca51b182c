use Rattle.std.proofs.Common.{◌≡◌, ◌-◌, ◌/◌, true, false, arith}
use Rattle.opam_names.proofs.Places.{empty_begins, shorter}
use Rattle.opam_names.proofs.paths.path_end.Goals as goal

pub loop-least-init : goal.loop-least-init
loop-least-init c = (omega arith, omega arith, empty_begins c.args.bytes.now, λ n above inside b. absurd (omega arith))

pub loop-least-preserved : goal.loop-least-preserved
loop-least-preserved c =
    let within = c.loop-least.invariant.1 in (
      omega arith,
      omega arith,
      c.loop-least.invariant.2,
      λ n above inside b.
          let e : false ≡ true = c.if-begins_path.ensures.1 (shorter c.args.bytes.now (c.loop-least.most - (c.loop-least.most - c.loop-least.least) / 2) n (omega arith) b) in cc,
    )

pub returns : goal.returns
returns c =
    let first = c.loop-least.invariant.0 in
    let within = c.loop-least.invariant.1 in
    record {
      within = omega arith;
      begins = c.loop-least.invariant.2;
      longest = λ n above inside b. c.loop-least.invariant.3 n (omega arith) inside b;
    }
