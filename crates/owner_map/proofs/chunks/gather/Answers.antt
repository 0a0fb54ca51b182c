use Rattle.std.proofs.Common.{◌≡◌, ◌+◌, ◌<◌, ℕ, List, [], drop, get_or, length, refl, sym, ◌∙◌, ap, subst, arith, rules}
use Rattle.std.specs.List.{swap}
use Rattle.owner_map.specs.Chunks.{AllEmpty}
use Rattle.owner_map.proofs.Splitting.{IsGathered, chunk_is, gathered_at, gathered_debt, gathered_empty, gathered_joined, gathered_length, gathered_next, gathered_none, gathered_shaped, gathered_swap, short_at}
use Rattle.owner_map.proofs.chunks.gather.Goals.{then-len-gt0, then-filled-i, else-filled-i, else-len-gt0}
use Rattle.owner_map.proofs.chunks.gather.Goals as goal

pub loop-i-init : goal.loop-i-init
loop-i-init g c = record { gathered = gathered_none c.args.chunks.now.items; less = omega arith; same = refl }

pub overflow_add-filled : goal.overflow_add-filled
overflow_add-filled g c = omega (arith, c.loop-i.invariant.less, c.loop-i-test.true, c.ranges.used)

pub loop-i-preserved : goal.loop-i-preserved
loop-i-preserved g c =
    let old = c.args.chunks.now.items in
    let cs = c.loop-i.chunks.items in
    let i = c.loop-i.i in
    let inside : i < length old = omega (arith, c.loop-i-test.true, c.requires.within) in
    let within : i < length cs = omega (arith, inside, c.loop-i.invariant.same) in
    let one : c.index.result.now ≡ get_or old i [] = chunk_is cs i c.index.result.now within c.index.ensures ∙ gathered_at old cs c.loop-i.filled i inside c.loop-i.invariant.gathered in
    let short = short_at old i c.requires.short in
    let size : c.len.result ≡ length (get_or old i []) = c.len.ensures ∙ ap length one in
    let done : (new : List (List g.row.T.Denot)) (filled : ℕ) → IsGathered old new filled (i + 1) → length new ≡ length old = λ new filled given. gathered_length old new filled (i + 1) (omega (arith, inside)) given in
    elim c.if-len-gt0.branch [
      | then-len-gt0 w ↦ elim w.if-filled-i.branch [
        | then-filled-i w' ↦
            let new : c.if-len-gt0.chunks.items ≡ swap cs c.loop-i.filled i = search rules in
            let P : List (List g.row.T.Denot) → Type 0 = λ l. IsGathered old l (c.loop-i.filled + 1) (i + 1) in
            let Q : ℕ → Type 0 = λ n. IsGathered old c.if-len-gt0.chunks.items n (i + 1) in
            let given = subst Q (sym w.filled-is) (subst P (sym new) (gathered_swap old cs c.loop-i.filled i inside (omega (arith, size, w.if-len-gt0.true)) short w'.if-filled-i.true c.loop-i.invariant.gathered)) in
            record { gathered = given; less = omega (arith, w.filled-is, w'.if-filled-i.true); same = done c.if-len-gt0.chunks.items c.if-len-gt0.filled given }
        | else-filled-i w' ↦
            let new : c.if-len-gt0.chunks.items ≡ cs = search rules in
            let P : List (List g.row.T.Denot) → Type 0 = λ l. IsGathered old l (c.loop-i.filled + 1) (i + 1) in
            let Q : ℕ → Type 0 = λ n. IsGathered old c.if-len-gt0.chunks.items n (i + 1) in
            let given = subst Q (sym w.filled-is) (subst P (sym new) (gathered_next old cs c.loop-i.filled i inside (omega (arith, size, w.if-len-gt0.true)) short (omega (arith, w'.if-filled-i.false, c.loop-i.invariant.less)) c.loop-i.invariant.gathered)) in
            record { gathered = given; less = omega (arith, w.filled-is, c.loop-i.invariant.less); same = done c.if-len-gt0.chunks.items c.if-len-gt0.filled given }
      ]
      | else-len-gt0 w ↦
          let new : c.if-len-gt0.chunks.items ≡ cs = search rules in
          let P : List (List g.row.T.Denot) → Type 0 = λ l. IsGathered old l c.loop-i.filled (i + 1) in
          let Q : ℕ → Type 0 = λ n. IsGathered old c.if-len-gt0.chunks.items n (i + 1) in
          let given = subst Q (sym w.filled-is) (subst P (sym new) (gathered_empty old cs c.loop-i.filled i inside (omega (arith, size, w.if-len-gt0.false)) c.loop-i.invariant.gathered)) in
          record { gathered = given; less = omega (arith, w.filled-is, c.loop-i.invariant.less); same = done c.if-len-gt0.chunks.items c.if-len-gt0.filled given }
    ]

pub returns-clause-shaped : goal.returns-clause-shaped
returns-clause-shaped g c =
    let at : c.loop-i.i ≡ c.args.used = omega (arith, c.loop-i-test.false, c.loop-i.auto.i-end) in
    let P : ℕ → Type 0 = λ n. AllEmpty (drop n c.args.chunks.now.items) in
    gathered_shaped c.args.chunks.now.items c.loop-i.chunks.items c.loop-i.filled c.loop-i.i (subst P (sym at) c.requires.empty) c.loop-i.invariant.gathered

pub returns-clause-less : goal.returns-clause-less
returns-clause-less g c = omega (arith, c.loop-i.invariant.less, c.loop-i.auto.i-end)

pub returns-clause-joined : goal.returns-clause-joined
returns-clause-joined g c = gathered_joined c.args.chunks.now.items c.loop-i.chunks.items c.loop-i.filled c.loop-i.i c.loop-i.invariant.gathered

pub returns-clause-debt : goal.returns-clause-debt
returns-clause-debt g c = gathered_debt c.args.chunks.now.items c.loop-i.chunks.items c.loop-i.filled c.loop-i.i c.loop-i.invariant.gathered

pub returns-clause-length : goal.returns-clause-length
returns-clause-length g c = c.loop-i.invariant.same
