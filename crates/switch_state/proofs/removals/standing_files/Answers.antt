use Rattle.std.proofs.Common.{◌≡◌, ◌∙◌, ◌+◌, List, [], ℕ, ap, drop, refl, subst, sym, take, Option, None}
use Rattle.std.specs.Prelude.{IfNone, length}
use Rattle.crash_disk.specs.Disks.{State}
use Rattle.crash_disk.proofs.Effects.{reads_none}
use Rattle.journal_text.specs.declared.record.Placed.{Placed}
use Rattle.switch_state.specs.Gathering.{AreTooMuch, IsGathered}
use Rattle.switch_state.specs.Keeps.{few_files}
use Rattle.switch_state.specs.declared.removals.TheConstants.{KEPT_LIMIT}
use Rattle.switch_state.proofs.Gathered.{gathered_first, split_at}
use Rattle.switch_state.proofs.removals.standing_files.Goals as goal

pub loop-path-init : goal.loop-path-init
loop-path-init g c = record {
  quiet = refl;
  reads = reads_none c.args.disk.now;
  so_far = subst (λ (files : List Placed). IsGathered (g.D.Disk.told c.args.disk.now) [] files KEPT_LIMIT) (sym c.new-files.ensures) (gathered_first (g.D.Disk.told c.args.disk.now));
}

pub returns-in-None-clause-told : goal.returns-in-None-clause-told
returns-in-None-clause-told g c = λ s is.
    let paths = c.args.paths.now in
    let i = c.loop-path.path-index in
    let same = c.loop-path.invariant.reads.same in
    let so_far = subst (λ (t : Option State). IsGathered t (take i paths) c.loop-path.files c.loop-path.left) (sym same) c.loop-path.invariant.so_far in
    let much = subst (λ (o : Option ℕ). IfNone o (AreTooMuch (g.D.Disk.told c.loop-path.disk) (take i paths) c.path-item.result)) c.in-None.is (c.in_ok-gather.ensures.much (take i paths) so_far) in
    sym (ap (few_files s.files) (sym (split_at paths i c.path-item.result c.loop-path-test.true c.path-item.is)) ∙ much s (drop (i + 1) paths) (same ∙ is))
