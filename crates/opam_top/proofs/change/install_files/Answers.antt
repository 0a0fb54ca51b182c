use Rattle.std.proofs.Common.{rules, arith, ◌+◌, ◌≤◌, ℕ, List, length, sym, ap, subst, ◌≡◌, ◌∙◌, ◌++◌, [], ◌∷◌, Some}
use Rattle.opam_top.specs.Commits.{TouchesOnly, is_of_commit}
use Rattle.opam_top.specs.Changes.{AreReceipts, IsDated}
use Rattle.outside_io.specs.declared.workshop.Fate.TheVariants.{Built}
use Rattle.opam_top.specs.Records.{record_bytes}
use Rattle.opam_top.specs.declared.commit.Encoded.{Encoded}
use Rattle.opam_top.specs.declared.records.Rec.TheVariants.{Install}
use Rattle.opam_top.specs.declared.status.Receipt.{Receipt}
use Rattle.opam_top.proofs.Committed.{commit_keeps}
use Rattle.opam_top.proofs.Dates.{dated_later, dated_more, dated_same}
use Rattle.opam_top.proofs.Progressed.{receipt_added, receipts_later, regular_installed, stands_installed, tracks_installed}
use Rattle.opam_top.proofs.change.install_files.Goals as goal

pub returns-in-Ok-commit-clause-kept : goal.returns-in-Ok-commit-clause-kept
returns-in-Ok-commit-clause-kept g c = λ s told.
    let D = g.D.Disk in
    let touches = subst (λ (ready : Encoded). TouchesOnly (is_of_commit ready) (D.told c.args.disk.now) (D.told c.commit.new.disk)) c.in-Ok.ensures.ready c.commit.ensures.touches in
    commit_keeps (length c.args.progress.now.receipts.items + 1) (record_bytes (Install c.args.member.now.pkg c.args.member.now.opam c.args.files)) c.args.files (D.told c.args.disk.now) (D.told c.commit.new.disk) touches s told (c.requires.vacant s told)

pub returns-in-Ok-commit-clause-regular : goal.returns-in-Ok-commit-clause-regular
returns-in-Ok-commit-clause-regular g c =
    let receipt : Receipt = record { index = length c.prepare.new.progress.receipts.items; moment = c.clock.result } in
    regular_installed c.args.progress.now c.note_commit.new.self c.args.member.now.pkg c.args.files receipt c.requires.regular c.requires.unowned c.requires.apart c.requires.paths
    (search (rules, c.note_commit.ensures.owners, c.in-Ok.ensures.owners)) (grind (arith, c.note_commit.ensures.decisions, c.in-Ok.ensures.decision, c.prepare.ensures.decisions)) (grind (arith, c.note_commit.ensures.receipts, c.prepare.ensures.receipts))

pub returns-in-Ok-commit-clause-receipts : goal.returns-in-Ok-commit-clause-receipts
returns-in-Ok-commit-clause-receipts g c = λ from are.
    let D = g.D.Disk in
    let now = c.clock.result in
    let receipt : Receipt = record { index = length c.prepare.new.progress.receipts.items; moment = now } in
    let later : D.moment c.args.disk.now ≤ now = omega (arith, c.commit.ensures.time.later, c.clock.ensures) in
    subst (λ (n : ℕ). AreReceipts from n c.note_commit.new.self.receipts.items) c.clock.ensures
    (receipt_added from (D.moment c.args.disk.now) c.args.progress.now.receipts.items c.note_commit.new.self.receipts.items receipt (grind (arith, c.note_commit.ensures.receipts, c.prepare.ensures.receipts)) later (ap length c.prepare.ensures.receipts) are)

pub returns-in-Ok-commit-clause-done : goal.returns-in-Ok-commit-clause-done
returns-in-Ok-commit-clause-done g c = λ o start fate tracks stands.
    let receipt : Receipt = record { index = length c.prepare.new.progress.receipts.items; moment = c.clock.result } in
    tracks_installed c.args.progress.now c.note_commit.new.self o c.args.member.now fate c.args.files receipt tracks c.requires.unowned c.requires.apart
    (search (rules, c.note_commit.ensures.owners, c.in-Ok.ensures.owners)) (grind (arith, c.note_commit.ensures.decisions, c.in-Ok.ensures.decision, c.prepare.ensures.decisions)) (grind (arith, c.note_commit.ensures.receipts, c.prepare.ensures.receipts))

pub returns-in-Ok-commit-clause-left : goal.returns-in-Ok-commit-clause-left
returns-in-Ok-commit-clause-left g c = λ o start fate tracks stands.
    let D = g.D.Disk in
    stands_installed o start c.args.member.now fate c.args.files (length c.args.progress.now.receipts.items) c.in-Ok.prepared.ready (D.told c.args.disk.now) (D.told c.commit.new.disk) (omega (arith, c.requires.few, tracks.number)) c.requires.paths tracks.number c.in-Ok.ensures.ready c.in-Ok-commit.ensures.done stands

pub returns-in-Err-clause-kept : goal.returns-in-Err-clause-kept
returns-in-Err-clause-kept g c = λ s told.
    let D = g.D.Disk in
    let touches = subst (λ (ready : Encoded). TouchesOnly (is_of_commit ready) (D.told c.args.disk.now) (D.told c.commit.new.disk)) c.in-Ok.ensures.ready c.commit.ensures.touches in
    commit_keeps (length c.args.progress.now.receipts.items + 1) (record_bytes (Install c.args.member.now.pkg c.args.member.now.opam c.args.files)) c.args.files (D.told c.args.disk.now) (D.told c.commit.new.disk) touches s told (c.requires.vacant s told)

pub returns-in-Err-clause-receipts : goal.returns-in-Err-clause-receipts
returns-in-Err-clause-receipts g c = λ from are.
    let D = g.D.Disk in
    subst (λ (l : List Receipt). AreReceipts from (D.moment c.commit.new.disk) l) (sym c.prepare.ensures.receipts) (receipts_later from (D.moment c.args.disk.now) (D.moment c.commit.new.disk) c.args.progress.now.receipts.items c.commit.ensures.time.later are)

pub returns-in-Ok-commit-clause-dated : goal.returns-in-Ok-commit-clause-dated
returns-in-Ok-commit-clause-dated g c = λ o start from tracks stands are short dated.
    let D = g.D.Disk in let old = c.args.progress.now in let member = c.args.member.now in
    let entry = Install member.pkg member.opam c.args.files in
    let now = c.clock.result in
    let receipt : Receipt = record { index = length c.prepare.new.progress.receipts.items; moment = now } in
    let left = stands_installed o start member Built c.args.files (length old.receipts.items) c.in-Ok.prepared.ready (D.told c.args.disk.now) (D.told c.commit.new.disk) (omega (arith, c.requires.few, tracks.number)) c.requires.paths tracks.number c.in-Ok.ensures.ready c.in-Ok-commit.ensures.done stands in
    let here : D.past c.commit.new.disk now ≡ Some left.0 = ap (D.past c.commit.new.disk) c.clock.ensures ∙ g.met.D.Disk.now_is c.commit.new.disk short ∙ left.1 in
    let one : IsDated (D.past c.commit.new.disk) (o.records ++ entry ∷ []) now = (left.0, here, c.in-Ok-commit.ensures.settled left.0 left.1, left.2.journal) in
    dated_more (D.past c.commit.new.disk) o.records entry old.receipts.items c.note_commit.new.self.receipts.items receipt tracks.number (grind (arith, c.note_commit.ensures.receipts, c.prepare.ensures.receipts)) one
    (dated_later (D.moment c.args.disk.now) (D.moment c.commit.new.disk) from (D.past c.args.disk.now) (D.past c.commit.new.disk) o.records old.receipts.items c.commit.ensures.time short are dated)

pub returns-in-Err-clause-still_dated : goal.returns-in-Err-clause-still_dated
returns-in-Err-clause-still_dated g c = λ o from are short dated.
    let D = g.D.Disk in let old = c.args.progress.now in
    dated_same (D.past c.commit.new.disk) o.records old.receipts.items c.prepare.new.progress.receipts.items c.prepare.ensures.receipts
    (dated_later (D.moment c.args.disk.now) (D.moment c.commit.new.disk) from (D.past c.args.disk.now) (D.past c.commit.new.disk) o.records old.receipts.items c.commit.ensures.time short are dated)
