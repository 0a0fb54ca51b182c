use Rattle.opam_top.proofs.Dates.{dated_later, dated_same}
use Rattle.outside_io.specs.Counts.{last_count}
use Rattle.std.proofs.Common.{◌∙◌, List, ℕ, sym, ap, subst, Ok, Err, OnOk, arith, ◌<◌}
use Rattle.std.proofs.lemmas.Result.{on_ok_weaker}
use Rattle.opam_names.specs.declared.packages.Pkg.{Pkg}
use Rattle.outside_io.specs.Shops.{fate_of}
use Rattle.opam_top.specs.Changes.{AreReceipts, Stands, Tracks, AreDated}
use Rattle.opam_top.specs.Installs.{job_of, placed_by}
use Rattle.opam_top.specs.Outcomes.{Outcome}
use Rattle.opam_top.specs.Owners.{owners_of}
use Rattle.opam_top.specs.declared.status.Receipt.{Receipt}
use Rattle.opam_top.proofs.Committed.{keeps_same}
use Rattle.opam_top.proofs.Progressed.{always, receipts_later, stands_failed, stands_same, tracks_failed, verdict_is, always_err}
use Rattle.opam_top.proofs.change.decide_member.Goals as goal

pub install_files-requires-clause-vacant : goal.install_files-requires-clause-vacant
install_files-requires-clause-vacant g c = λ s told. rw c.in-Ok-Ok.field-0-is at (c.in-Ok-Ok.ensures.vacant s (sym c.files_to_place.ensures.same ∙ told))

pub returns-in-Ok-Ok-clause-kept : goal.returns-in-Ok-Ok-clause-kept
returns-in-Ok-Ok-clause-kept g c = λ s told. c.install_files.ensures.kept s (c.files_to_place.ensures.same ∙ told)

pub returns-in-Ok-Ok-clause-receipts : goal.returns-in-Ok-Ok-clause-receipts
returns-in-Ok-Ok-clause-receipts g c = λ from are.
    let D = g.D.Disk in
    c.install_files.ensures.receipts from (receipts_later from (D.moment c.args.disk.now) (D.moment c.files_to_place.new.disk) c.args.progress.now.receipts.items c.files_to_place.ensures.time.later are)

pub returns-in-Ok-Ok-clause-done : goal.returns-in-Ok-Ok-clause-done
returns-in-Ok-Ok-clause-done g c = λ told o start shop is_job is_fate tracks stands.
    let member = c.args.member.now in let built = c.args.built.now in let items = c.args.progress.now.owners.items in
    let found = sym c.in-Ok-Ok.field-0-is ∙ c.in-Ok-Ok.ensures.told told stands.0 shop stands.1 ∙ ap (λ (l : List (List ℕ × Pkg)). placed_by told stands.0.files (owners_of l) built.job built.fate) c.as_slice.ensures.value in
    let is = verdict_is told o start stands.0.files member built.job built.fate items (Ok c.in-Ok-Ok.files) found tracks.owners is_job is_fate stands.2 in
    subst (λ (next : Outcome). OnOk c.install_files.result (Tracks c.install_files.new.progress next)) (sym is)
    (c.install_files.ensures.done o start (fate_of told (job_of member)) tracks (stands_same (g.D.Disk.told c.args.disk.now) (g.D.Disk.told c.files_to_place.new.disk) o start c.files_to_place.ensures.same stands))

pub returns-in-Ok-Ok-clause-left : goal.returns-in-Ok-Ok-clause-left
returns-in-Ok-Ok-clause-left g c = λ told o start shop is_job is_fate tracks stands.
    let member = c.args.member.now in let built = c.args.built.now in let items = c.args.progress.now.owners.items in
    let found = sym c.in-Ok-Ok.field-0-is ∙ c.in-Ok-Ok.ensures.told told stands.0 shop stands.1 ∙ ap (λ (l : List (List ℕ × Pkg)). placed_by told stands.0.files (owners_of l) built.job built.fate) c.as_slice.ensures.value in
    let is = verdict_is told o start stands.0.files member built.job built.fate items (Ok c.in-Ok-Ok.files) found tracks.owners is_job is_fate stands.2 in
    subst (λ (next : Outcome). OnOk c.install_files.result (Stands (g.D.Disk.told c.install_files.new.disk) next start)) (sym is)
    (c.install_files.ensures.left o start (fate_of told (job_of member)) tracks (stands_same (g.D.Disk.told c.args.disk.now) (g.D.Disk.told c.files_to_place.new.disk) o start c.files_to_place.ensures.same stands))

pub returns-in-Ok-Err-clause-kept : goal.returns-in-Ok-Err-clause-kept
returns-in-Ok-Err-clause-kept g c = λ s told. (s, c.files_to_place.ensures.same ∙ told, keeps_same s.files)

pub returns-in-Ok-Err-clause-receipts : goal.returns-in-Ok-Err-clause-receipts
returns-in-Ok-Err-clause-receipts g c = λ from are.
    let D = g.D.Disk in
    subst (λ (l : List Receipt). AreReceipts from (D.moment c.files_to_place.new.disk) l) (sym c.fail.ensures.receipts)
    (receipts_later from (D.moment c.args.disk.now) (D.moment c.files_to_place.new.disk) c.args.progress.now.receipts.items c.files_to_place.ensures.time.later are)

pub returns-in-Ok-Err-clause-done : goal.returns-in-Ok-Err-clause-done
returns-in-Ok-Err-clause-done g c = λ told o start shop is_job is_fate tracks stands.
    let member = c.args.member.now in let built = c.args.built.now in let items = c.args.progress.now.owners.items in
    let found = sym c.in-Ok-Err.field-0-is ∙ c.in-Ok-Err.ensures.told told stands.0 shop stands.1 ∙ ap (λ (l : List (List ℕ × Pkg)). placed_by told stands.0.files (owners_of l) built.job built.fate) c.as_slice.ensures.value in
    let is = verdict_is told o start stands.0.files member built.job built.fate items (Err c.in-Ok-Err.reason) found tracks.owners is_job is_fate stands.2 in
    subst (λ (next : Outcome). OnOk c.fail.result (Tracks c.fail.new.progress next)) (sym is)
    (on_ok_weaker c.fail.result (λ decisions. tracks_failed c.args.progress.now c.fail.new.progress o member (fate_of told (job_of member)) c.in-Ok-Err.reason tracks (ap (λ owners. owners.items) c.fail.ensures.owners) decisions c.fail.ensures.receipts) c.fail.ensures.decided)

pub returns-in-Ok-Err-clause-left : goal.returns-in-Ok-Err-clause-left
returns-in-Ok-Err-clause-left g c = λ told o start shop is_job is_fate tracks stands.
    let member = c.args.member.now in let built = c.args.built.now in let items = c.args.progress.now.owners.items in
    let found = sym c.in-Ok-Err.field-0-is ∙ c.in-Ok-Err.ensures.told told stands.0 shop stands.1 ∙ ap (λ (l : List (List ℕ × Pkg)). placed_by told stands.0.files (owners_of l) built.job built.fate) c.as_slice.ensures.value in
    let is = verdict_is told o start stands.0.files member built.job built.fate items (Err c.in-Ok-Err.reason) found tracks.owners is_job is_fate stands.2 in
    subst (λ (next : Outcome). OnOk c.fail.result (Stands (g.D.Disk.told c.files_to_place.new.disk) next start)) (sym is)
    (always c.fail.result (stands_failed (g.D.Disk.told c.args.disk.now) (g.D.Disk.told c.files_to_place.new.disk) o start member (fate_of told (job_of member)) c.in-Ok-Err.reason c.files_to_place.ensures.same stands))

pub returns-in-Err-clause-kept : goal.returns-in-Err-clause-kept
returns-in-Err-clause-kept g c = λ s told. (s, c.files_to_place.ensures.same ∙ told, keeps_same s.files)

pub returns-in-Err-clause-receipts : goal.returns-in-Err-clause-receipts
returns-in-Err-clause-receipts g c = λ from are.
    let D = g.D.Disk in
    receipts_later from (D.moment c.args.disk.now) (D.moment c.files_to_place.new.disk) c.args.progress.now.receipts.items c.files_to_place.ensures.time.later are

pub returns-in-Ok-Ok-clause-dated : goal.returns-in-Ok-Ok-clause-dated
returns-in-Ok-Ok-clause-dated g c = λ told o start from shop is_job is_fate tracks stands are short dated.
    let D = g.D.Disk in let old = c.args.progress.now in
    let member = c.args.member.now in let built = c.args.built.now in
    let found = sym c.in-Ok-Ok.field-0-is ∙ c.in-Ok-Ok.ensures.told told stands.0 shop stands.1 ∙ ap (λ (l : List (List ℕ × Pkg)). placed_by told stands.0.files (owners_of l) built.job built.fate) c.as_slice.ensures.value in
    let is = verdict_is told o start stands.0.files member built.job built.fate old.owners.items (Ok c.in-Ok-Ok.files) found tracks.owners is_job is_fate stands.2 in
    let before : D.moment c.files_to_place.new.disk < last_count = let later = c.install_files.ensures.time.later in omega (arith, later, short) in
    let mid_are = receipts_later from (D.moment c.args.disk.now) (D.moment c.files_to_place.new.disk) old.receipts.items c.files_to_place.ensures.time.later are in
    let mid_dated = dated_later (D.moment c.args.disk.now) (D.moment c.files_to_place.new.disk) from (D.past c.args.disk.now) (D.past c.files_to_place.new.disk) o.records old.receipts.items c.files_to_place.ensures.time before are dated in
    subst (λ (next : Outcome). OnOk c.install_files.result (AreDated (D.past c.install_files.new.disk) next.records c.install_files.new.progress.receipts.items)) (sym is)
    (c.install_files.ensures.dated o start from tracks (stands_same (D.told c.args.disk.now) (D.told c.files_to_place.new.disk) o start c.files_to_place.ensures.same stands) mid_are short mid_dated)

pub returns-in-Ok-Ok-clause-still_dated : goal.returns-in-Ok-Ok-clause-still_dated
returns-in-Ok-Ok-clause-still_dated g c = λ o from are short dated.
    let D = g.D.Disk in let old = c.args.progress.now in
    let before : D.moment c.files_to_place.new.disk < last_count = let later = c.install_files.ensures.time.later in omega (arith, later, short) in
    let mid_are = receipts_later from (D.moment c.args.disk.now) (D.moment c.files_to_place.new.disk) old.receipts.items c.files_to_place.ensures.time.later are in
    c.install_files.ensures.still_dated o from mid_are short
    (dated_later (D.moment c.args.disk.now) (D.moment c.files_to_place.new.disk) from (D.past c.args.disk.now) (D.past c.files_to_place.new.disk) o.records old.receipts.items c.files_to_place.ensures.time before are dated)

pub returns-in-Ok-Err-clause-dated : goal.returns-in-Ok-Err-clause-dated
returns-in-Ok-Err-clause-dated g c = λ told o start from shop is_job is_fate tracks stands are short dated.
    let D = g.D.Disk in let old = c.args.progress.now in
    let member = c.args.member.now in let built = c.args.built.now in
    let found = sym c.in-Ok-Err.field-0-is ∙ c.in-Ok-Err.ensures.told told stands.0 shop stands.1 ∙ ap (λ (l : List (List ℕ × Pkg)). placed_by told stands.0.files (owners_of l) built.job built.fate) c.as_slice.ensures.value in
    let is = verdict_is told o start stands.0.files member built.job built.fate old.owners.items (Err c.in-Ok-Err.reason) found tracks.owners is_job is_fate stands.2 in
    subst (λ (next : Outcome). OnOk c.fail.result (AreDated (D.past c.files_to_place.new.disk) next.records c.fail.new.progress.receipts.items)) (sym is)
    (always c.fail.result (dated_same (D.past c.files_to_place.new.disk) o.records old.receipts.items c.fail.new.progress.receipts.items c.fail.ensures.receipts
    (dated_later (D.moment c.args.disk.now) (D.moment c.files_to_place.new.disk) from (D.past c.args.disk.now) (D.past c.files_to_place.new.disk) o.records old.receipts.items c.files_to_place.ensures.time short are dated)))

pub returns-in-Ok-Err-clause-still_dated : goal.returns-in-Ok-Err-clause-still_dated
returns-in-Ok-Err-clause-still_dated g c = λ o from are short dated.
    let D = g.D.Disk in let old = c.args.progress.now in
    always_err c.fail.result (dated_same (D.past c.files_to_place.new.disk) o.records old.receipts.items c.fail.new.progress.receipts.items c.fail.ensures.receipts
    (dated_later (D.moment c.args.disk.now) (D.moment c.files_to_place.new.disk) from (D.past c.args.disk.now) (D.past c.files_to_place.new.disk) o.records old.receipts.items c.files_to_place.ensures.time short are dated))

pub returns-in-Err-clause-still_dated : goal.returns-in-Err-clause-still_dated
returns-in-Err-clause-still_dated g c = λ o from are short dated.
    let D = g.D.Disk in
    dated_later (D.moment c.args.disk.now) (D.moment c.files_to_place.new.disk) from (D.past c.args.disk.now) (D.past c.files_to_place.new.disk) o.records c.args.progress.now.receipts.items c.files_to_place.ensures.time short are dated
