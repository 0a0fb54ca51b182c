use Rattle.std.proofs.Common.{◌≡◌, ◌∙◌, ◌+◌, ◌-◌, ℕ, length, arith, drop, ap, sym}
use Rattle.change_verdict.specs.Sources.{files_of}
use Rattle.change_verdict.specs.Verdicts.{bytes_total}
use Rattle.change_verdict.specs.declared.limits.TheConstants.{FILES_LIMIT}
use Rattle.change_verdict.proofs.Files.{and_files, few_more, file_more, free_more, lacks_more, passed_more, total_grows}
use Rattle.change_verdict.proofs.sources.files_of.Goals as goal
use Rattle.change_verdict.proofs.sources.files_of.Goals.{in-File+in_ok-push-in-File, in-Passed}

pub loop-placement-preserved : goal.loop-placement-preserved
loop-placement-preserved g c =
    let placements = c.args.placements.now in
    let placement = c.placement-item.result in
    let here = c.placement-item.is in
    let within = c.loop-placement-test.true in
    let i = c.loop-placement.placement-index in
    let files = c.loop-placement.files in
    let room = c.loop-placement.room in
    let now = c.match-branch-2.files in
    let so_far = c.loop-placement.invariant in
    elim c.match-branch-2.branch [
      | in-File+in_ok-push-in-File w ↦
          let file = w.in-File.file in
          let grows = w.files-is ∙ w.in_ok-push-in-File.ensures.ok in
          let kind = rw w.in-File.is at c.in_ok-file.ensures.kind in
          let left : c.match-branch-2.room ≡ room - length file.bytes = w.room-is ∙ ap (λ (n : ℕ). room - n) w.len-room.ensures in
          record {
            few = few_more files now file i grows so_far.few;
            total = ap (λ (n : ℕ). bytes_total now + n) left ∙ total_grows files now file room FILES_LIMIT grows kind.1 so_far.total;
            free = free_more files now file placements i placement grows kind.0 here within c.requires.free so_far.free;
            told = λ told tells.
                let folder = told.files c.args.job.now in
                ap (λ (n : ℕ). and_files now (files_of folder n (drop (i + 1) placements))) left
                ∙ file_more folder room files placements i placement here within file (files_of folder FILES_LIMIT placements) now grows (sym w.in-File.is ∙ c.in_ok-file.ensures.told told tells) (so_far.told told tells);
          }
      | in-Passed w ↦
          record {
            few = let is = ap length w.files-is in let few = so_far.few in omega (arith, is, few);
            total = ap (λ (n : ℕ). bytes_total now + n) w.room-is ∙ ap (λ l. bytes_total l + room) w.files-is ∙ so_far.total;
            free = rw w.files-is so_far.free;
            told = λ told tells.
                let folder = told.files c.args.job.now in
                ap (λ (n : ℕ). and_files now (files_of folder n (drop (i + 1) placements))) w.room-is
                ∙ ap (λ l. and_files l (files_of folder room (drop (i + 1) placements))) w.files-is
                ∙ passed_more folder room files placements i placement here within (files_of folder FILES_LIMIT placements) (sym w.in-Passed.is ∙ c.in_ok-file.ensures.told told tells) (so_far.told told tells);
          }
    ]

pub returns-in-Lacks-clause-told : goal.returns-in-Lacks-clause-told
returns-in-Lacks-clause-told g c = λ told tells.
    let folder = told.files c.args.job.now in
    lacks_more folder c.loop-placement.room c.loop-placement.files c.args.placements.now c.loop-placement.placement-index c.placement-item.result c.placement-item.is c.loop-placement-test.true
    c.in-Lacks.reason (files_of folder FILES_LIMIT c.args.placements.now) (sym c.in-Lacks.is ∙ c.in_ok-file.ensures.told told tells) (c.loop-placement.invariant.told told tells)
