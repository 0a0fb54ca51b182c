use Rattle.std.proofs.Common.{◌∙◌}
use Rattle.opam_top.specs.Fronts.{answer_of}
use Rattle.opam_top.proofs.Answered.{answered_at, counted_more, short_more}
use Rattle.opam_top.proofs.repository.answers_of.Goals as goal

pub loop-pkg-preserved : goal.loop-pkg-preserved
loop-pkg-preserved g c =
    let got = c.loop-pkg.answers in
    let more = c.push.new.self in
    let answer = c.in_ok-answer.answer in
    let before = c.loop-pkg.invariant in
    let grows = c.in_ok-push.ensures.ok in
    record {
      faults = c.in_ok-answer.ensures.cause.same (λ e. cc) ∙ before.faults;
      same = c.answer_of.ensures.same ∙ before.same;
      told = λ files tells.
          answered_at (answer_of files c.args.repo.now) got more c.args.pkgs.now c.loop-pkg.pkg-index c.pkg-item.result answer c.loop-pkg-test.true c.pkg-item.is (before.told files tells)
          (c.in_ok-answer.ensures.told files (before.same ∙ tells)) grows;
      each = counted_more got more answer c.loop-pkg.pkg-index grows before.each;
      short = short_more got more answer grows before.short c.in_ok-answer.ensures.short;
    }
