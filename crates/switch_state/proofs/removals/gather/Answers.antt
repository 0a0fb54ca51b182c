use Rattle.std.proofs.Common.{◌≤◌, ◌-◌, List, [], ◌∷◌, ◌++◌, ℕ, arith, subst, sym}
use Rattle.crash_disk.specs.Disks.{State}
use Rattle.journal_text.specs.declared.record.Placed.{Placed}
use Rattle.switch_state.specs.Gathering.{IsAt, IsGathered, IsReadOf}
use Rattle.switch_state.specs.Keeps.{standing_file}
use Rattle.switch_state.specs.declared.removals.Standing.{Standing}
use Rattle.switch_state.proofs.Gathered.{gathered_file, gathered_none, too_much}
use Rattle.switch_state.proofs.removals.gather.Goals as goal

pub returns-in-Absent-clause-goes : goal.returns-in-Absent-clause-goes
returns-in-Absent-clause-goes g c = λ paths so_far.
    gathered_none (g.D.Disk.told c.args.disk.now) paths c.args.path.now c.args.files.now c.args.left so_far
    (λ s is. subst (λ (seen : Standing). IsReadOf (standing_file s.files c.args.path.now) c.args.left seen) c.in-Absent.is (c.in_ok-standing_file.ensures.told s is))

pub returns-in-TooLong-clause-much : goal.returns-in-TooLong-clause-much
returns-in-TooLong-clause-much g c = λ paths so_far.
    too_much (g.D.Disk.told c.args.disk.now) paths c.args.path.now c.args.files.now c.args.left so_far
    (λ s is. subst (λ (seen : Standing). IsReadOf (standing_file s.files c.args.path.now) c.args.left seen) c.in-TooLong.is (c.in_ok-standing_file.ensures.told s is))

pub returns-in_ok-push-in-File-clause-goes : goal.returns-in_ok-push-in-File-clause-goes
returns-in_ok-push-in-File-clause-goes g c = λ paths so_far.
    let part = subst (λ (seen : Standing). IsAt c.args.path.now c.args.left seen) c.in-File.is c.in_ok-standing_file.ensures.part in
    let fits = part.1 in
    let len = c.len.ensures in
    subst (λ (files : List Placed). IsGathered (g.D.Disk.told c.args.disk.now) (paths ++ c.args.path.now ∷ []) files (c.args.left - c.len.result)) (sym c.in_ok-push-in-File.ensures.ok)
    (gathered_file (g.D.Disk.told c.args.disk.now) paths c.args.path.now c.args.files.now c.args.left so_far c.in-File.file (c.args.left - c.len.result) part.0 part.1 (omega (arith, fits, len))
    (λ s is. subst (λ (seen : Standing). IsReadOf (standing_file s.files c.args.path.now) c.args.left seen) c.in-File.is (c.in_ok-standing_file.ensures.told s is)))
