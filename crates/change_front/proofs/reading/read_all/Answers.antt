use Rattle.std.proofs.Common.{◌≡◌, ◌∙◌, Some, refl, subst}
use Rattle.outside_io.proofs.HostEffects.{reads_host_then}
use Rattle.outside_io.specs.Counts.{Files}
use Rattle.change_front.specs.Turns.{IsOwnTurn, IsTurn}
use Rattle.change_front.specs.declared.reading.End.TheVariants.{Stops, Whole}
use Rattle.change_front.specs.declared.reading.Turn.{Turn}
use Rattle.change_front.proofs.Shrinking.{shrinks}
use Rattle.change_front.proofs.Turned.{still_read, turn_end, turn_on, turn_refused}
use Rattle.change_front.proofs.reading.read_all.Goals as goal

pub returns-in-End-clause-told : goal.returns-in-End-clause-told
returns-in-End-clause-told g c = λ files is.
    let P : Turn → Type 0 = λ t. IsTurn files c.args.repo.now c.args.globals.now c.packages.reader t in
    c.packages.invariant.on files is (Whole c.in-End.chase)
    (turn_end files c.args.repo.now c.args.globals.now c.packages.reader c.in-End.chase
    (subst P c.in-End.is (c.in_ok-chase.ensures.told files (c.packages.invariant.reads.same ∙ is))))

pub returns-in-Refused-clause-told : goal.returns-in-Refused-clause-told
returns-in-Refused-clause-told g c = λ files is.
    let P : Turn → Type 0 = λ t. IsTurn files c.args.repo.now c.args.globals.now c.packages.reader t in
    c.packages.invariant.on files is (Stops c.in-Refused.refusal)
    (turn_refused files c.args.repo.now c.args.globals.now c.packages.reader c.in-Refused.refusal
    (subst P c.in-Refused.is (c.in_ok-chase.ensures.told files (c.packages.invariant.reads.same ∙ is))))

pub packages-smaller : goal.packages-smaller
packages-smaller g c =
    let P : Turn → Type 0 = λ t. IsOwnTurn c.args.globals.now c.packages.reader t in
    let own = subst P c.in-On.is c.in_ok-chase.ensures.own in
    shrinks c.packages.reader.chase c.in-On.after.chase own.0 own.1 own.2 own.3.0 own.4

pub packages-preserved : goal.packages-preserved
packages-preserved g c =
    let P : Turn → Type 0 = λ t. IsOwnTurn c.args.globals.now c.packages.reader t in
    let own = subst P c.in-On.is c.in_ok-chase.ensures.own in
    record {
      quiet = c.in_ok-chase.ensures.cause.still refl ∙ c.packages.invariant.quiet;
      reads = reads_host_then c.packages.invariant.reads c.in_ok-chase.ensures.reads;
      on = λ files is end more.
          let Q : Turn → Type 0 = λ t. IsTurn files c.args.repo.now c.args.globals.now c.packages.reader t in
          c.packages.invariant.on files is end
          (turn_on files c.args.repo.now c.args.globals.now c.packages.reader c.in-On.after
          (subst Q c.in-On.is (c.in_ok-chase.ensures.told files (c.packages.invariant.reads.same ∙ is))) end more);
      stays = own.4.same_installed ∙ c.packages.invariant.stays;
      read = still_read c.args.globals.now c.packages.reader.chase c.in-On.after.chase own.1 c.packages.invariant.read own.3.2 own.4;
    }
