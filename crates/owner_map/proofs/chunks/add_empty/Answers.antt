use Rattle.std.proofs.Common.{◌≡◌, List, [], ◌∷◌, ◌++◌, length, refl, sym, ap, subst, arith, rules}
use Rattle.std.specs.Vec.{vec_len}
use Rattle.std.proofs.lemmas.List.{length-append}
use Rattle.owner_map.proofs.Chunking.{shaped_within}
use Rattle.owner_map.proofs.Splitting.{IsLonger, longer_push}
use Rattle.owner_map.proofs.chunks.add_empty.Goals as goal

pub loop-init : goal.loop-init
loop-init g c =
    let len : vec_len c.args.chunks.now ≡ length c.args.chunks.now.items = search rules in
    record {
      longer = record { shaped = c.requires; joins = refl; debts = refl; longer = omega arith };
      free = omega (arith, c.saturating_sub-counter.ensures, c.len.ensures, len);
    }

pub returns-in_err-new-clause-shaped : goal.returns-in_err-new-clause-shaped
returns-in_err-new-clause-shaped g c = c.loop.invariant.longer.shaped

pub returns-in_err-new-clause-joined : goal.returns-in_err-new-clause-joined
returns-in_err-new-clause-joined g c = c.loop.invariant.longer.joins

pub returns-in_err-new-clause-debt : goal.returns-in_err-new-clause-debt
returns-in_err-new-clause-debt g c = c.loop.invariant.longer.debts

pub returns-in_err-new-clause-kept : goal.returns-in_err-new-clause-kept
returns-in_err-new-clause-kept g c = c.loop.invariant.longer.longer

pub loop-preserved : goal.loop-preserved
loop-preserved g c =
    let pushed : c.push.new.self.items ≡ c.loop.chunks.items ++ c.in_ok-new.field-0 ∷ [] = search rules in
    let P : List (List g.row.T.Denot) → Type 0 = λ cs. IsLonger c.args.used c.args.chunks.now.items cs in
    record {
      longer = subst P (sym pushed) (longer_push c.args.used c.args.chunks.now.items c.loop.chunks.items c.in_ok-new.field-0 c.in_ok-new.ensures c.loop.invariant.longer);
      free = omega (arith, ap length pushed, length-append c.loop.chunks.items (c.in_ok-new.field-0 ∷ []), c.loop.invariant.free, shaped_within c.args.used c.loop.chunks.items c.loop.invariant.longer.shaped);
    }

pub returns-clause-ok : goal.returns-clause-ok
returns-clause-ok g c = omega (arith, c.loop.invariant.free, c.loop-test.false, shaped_within c.args.used c.loop.chunks.items c.loop.invariant.longer.shaped)

pub returns-clause-shaped : goal.returns-clause-shaped
returns-clause-shaped g c = c.loop.invariant.longer.shaped

pub returns-clause-joined : goal.returns-clause-joined
returns-clause-joined g c = c.loop.invariant.longer.joins

pub returns-clause-debt : goal.returns-clause-debt
returns-clause-debt g c = c.loop.invariant.longer.debts

pub returns-clause-kept : goal.returns-clause-kept
returns-clause-kept g c = c.loop.invariant.longer.longer
