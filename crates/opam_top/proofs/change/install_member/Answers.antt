use Rattle.opam_top.proofs.Dates.{dated_same, receipts_same}
use Rattle.std.proofs.Common.{◌∙◌, ap}
use Rattle.opam_top.proofs.Progressed.{tracks_same}
use Rattle.opam_top.proofs.change.install_member.Goals as goal

pub returns-in-Ok-clause-done : goal.returns-in-Ok-clause-done
returns-in-Ok-clause-done g c = λ told o start shop tracks stands.
    c.decide_member.ensures.done told o start shop c.in-Ok.ensures.job (c.in-Ok.ensures.fate told (c.requires.shop ∙ shop))
    (tracks_same c.args.progress.now c.hear.new.progress o (ap (λ v. v.items) c.hear.ensures.decisions) (ap (λ v. v.items) c.hear.ensures.receipts) (ap (λ v. v.items) c.hear.ensures.owners) tracks) stands

pub returns-in-Ok-clause-dated : goal.returns-in-Ok-clause-dated
returns-in-Ok-clause-dated g c = λ told o start from shop tracks stands are short dated.
    let D = g.D.Disk in let old = c.args.progress.now.receipts.items in let now = c.hear.new.progress.receipts.items in
    let same = ap (λ v. v.items) c.hear.ensures.receipts in
    c.decide_member.ensures.dated told o start from shop c.in-Ok.ensures.job (c.in-Ok.ensures.fate told (c.requires.shop ∙ shop))
    (tracks_same c.args.progress.now c.hear.new.progress o (ap (λ v. v.items) c.hear.ensures.decisions) same (ap (λ v. v.items) c.hear.ensures.owners) tracks) stands
    (receipts_same from (D.moment c.args.disk.now) old now same are) short (dated_same (D.past c.args.disk.now) o.records old now same dated)

pub returns-in-Ok-clause-still_dated : goal.returns-in-Ok-clause-still_dated
returns-in-Ok-clause-still_dated g c = λ o from are short dated.
    let D = g.D.Disk in let old = c.args.progress.now.receipts.items in let now = c.hear.new.progress.receipts.items in
    let same = ap (λ v. v.items) c.hear.ensures.receipts in
    c.decide_member.ensures.still_dated o from (receipts_same from (D.moment c.args.disk.now) old now same are) short (dated_same (D.past c.args.disk.now) o.records old now same dated)

pub returns-in-Err-clause-still_dated : goal.returns-in-Err-clause-still_dated
returns-in-Err-clause-still_dated g c = λ o from are short dated.
    let D = g.D.Disk in
    dated_same (D.past c.args.disk.now) o.records c.args.progress.now.receipts.items c.hear.new.progress.receipts.items (ap (λ v. v.items) c.hear.ensures.receipts) dated
