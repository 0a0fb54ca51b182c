use Rattle.std.proofs.Common.{◌≡◌, ◌∙◌, ℕ, ◌≤◌, ◌^◌, sym, subst, arith}
use Rattle.crash_disk.proofs.Effects.{reads_then}
use Rattle.switch_journal.specs.Walks.{IsWalked}
use Rattle.switch_journal.specs.declared.walk.Walked.{Walked}
use Rattle.switch_journal.specs.declared.walk.Walked.TheVariants as walked
use Rattle.switch_journal.proofs.Walked.{last_open, last_shut, turn_bad, turn_end, turn_on}
use Rattle.switch_journal.proofs.walk.walk_from.Goals as goal

pub returns-in-End-clause-told : goal.returns-in-End-clause-told
returns-in-End-clause-told g c = λ s is.
    let told = c.loop-number.invariant.reads.same ∙ is in
    c.loop-number.invariant.on s is (walked.Whole c.args.old c.loop-number.number c.in-End.walk)
    (turn_end c.args.old s.files c.loop-number.number c.loop-number.walk c.in-End.walk (rw c.in-End.is at c.in_ok-walk.ensures.told s told))

pub returns-in-Bad-clause-told : goal.returns-in-Bad-clause-told
returns-in-Bad-clause-told g c = λ s is.
    let told = c.loop-number.invariant.reads.same ∙ is in
    c.loop-number.invariant.on s is (walked.Bad c.loop-number.number) (turn_bad c.args.old s.files c.loop-number.number c.loop-number.walk (rw c.in-Bad.is at c.in_ok-walk.ensures.told s told))

pub loop-number-preserved : goal.loop-number-preserved
loop-number-preserved g c = record {
  quiet = c.in_ok-walk.ensures.cause.ok ∙ c.loop-number.invariant.quiet;
  reads = reads_then c.loop-number.invariant.reads c.in_ok-walk.ensures.reads;
  formed = rw c.in-On.is at c.in_ok-walk.ensures.formed;
  on = λ s is w more.
      let told = c.loop-number.invariant.reads.same ∙ is in
      c.loop-number.invariant.on s is w
      (turn_on c.args.old s.files c.loop-number.number c.loop-number.walk c.in-On.after (rw c.in-On.is at c.in_ok-walk.ensures.told s told) w more);
}

pub returns-then-branch-clause-told : goal.returns-then-branch-clause-told
returns-then-branch-clause-told g c = λ s is.
    let told = c.loop-number.invariant.reads.same ∙ is in
    let last : c.loop-number.number ≡ 2 ^ 63 = omega (arith, c.loop-number-test.false, c.loop-number.auto.number-end, c.requires.small) in
    let large : 2 ^ 63 ≤ 2 ^ 63 = omega arith in
    subst (λ (n : ℕ). (w : Walked) → IsWalked c.args.old s.files n c.loop-number.walk.kept c.loop-number.walk.work w → IsWalked c.args.old s.files c.args.from c.args.walk.kept c.args.walk.work w) last (c.loop-number.invariant.on s is)
    (walked.Bad (2 ^ 63)) (last_open c.args.old s.files (2 ^ 63) c.loop-number.walk large (sym (c.in_ok-is_record_open.ensures.told s told) ∙ c.if-branch.true))

pub returns-else-branch-clause-told : goal.returns-else-branch-clause-told
returns-else-branch-clause-told g c = λ s is.
    let told = c.loop-number.invariant.reads.same ∙ is in
    let last : c.loop-number.number ≡ 2 ^ 63 = omega (arith, c.loop-number-test.false, c.loop-number.auto.number-end, c.requires.small) in
    subst (λ (n : ℕ). (w : Walked) → IsWalked c.args.old s.files n c.loop-number.walk.kept c.loop-number.walk.work w → IsWalked c.args.old s.files c.args.from c.args.walk.kept c.args.walk.work w) last (c.loop-number.invariant.on s is)
    (walked.Whole c.args.old (2 ^ 63) c.loop-number.walk) (last_shut c.args.old s.files (2 ^ 63) c.loop-number.walk (sym (c.in_ok-is_record_open.ensures.told s told) ∙ c.if-branch.false))

pub returns-in-End-clause-formed : goal.returns-in-End-clause-formed
returns-in-End-clause-formed g c = rw c.in-End.is at c.in_ok-walk.ensures.formed
