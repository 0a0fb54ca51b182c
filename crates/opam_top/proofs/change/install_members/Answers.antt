use Rattle.opam_top.proofs.Dates.{dated_none, dated_part}
use Rattle.outside_io.specs.Counts.{last_count}
use Rattle.std.proofs.Common.{arith, ◌≡◌, ◌∙◌, ℕ, List, length, take, refl, sym, ap, subst, ◌<◌, []}
use Rattle.std.specs.List.{flat_map}
use Rattle.opam_top.specs.Reports.{line_of}
use Rattle.opam_top.proofs.Passed.{passes_none, passes_then}
use Rattle.opam_top.specs.Changes.{Says, Stands, AreDated}
use Rattle.opam_top.specs.Outcomes.{Outcome, outcome}
use Rattle.opam_top.specs.Switches.{empty_switch}
use Rattle.opam_top.proofs.Committed.{keeps_same}
use Rattle.opam_top.proofs.Looped.{come_all, come_at_first, come_more, kept_then, one_longer, lines_more, part_of, receipts_at_first, regular_at_first, says_none, says_then, one_step, records_from}
use Rattle.opam_top.proofs.Progressed.{always_err}
use Rattle.opam_top.proofs.change.install_members.Goals as goal

pub loop-id-init : goal.loop-id-init
loop-id-init g c = record {
  fit = c.requires.fit;
  idle = c.requires.idle;
  size = refl;
  shop = refl;
  fresh = λ k le j d lt. absurd (let none : length (g.C.Crew.events c.args.crew.now) ≡ 0 = ap length c.requires.fresh in omega (arith, none, lt));
  sink = refl;
  faults = refl;
  time = passes_none (g.D.Disk.moment c.args.disk.now) (g.D.Disk.past c.args.disk.now);
  kept = λ s told. (s, told, keeps_same s.files);
  regular = regular_at_first c.args.progress.now c.requires.undecided c.requires.uncommitted c.requires.unowned;
  count = ap length c.requires.undecided;
  receipts = receipts_at_first (g.D.Disk.moment c.args.disk.now) c.args.progress.now.receipts.items c.requires.uncommitted;
  said =
      subst (λ (l : List ℕ). Says c.args.out.now.stopped c.args.out.now.stopped (g.O.Sink.faults c.args.out.now.sink.now) (g.O.Sink.faults c.args.out.now.sink.now) (g.O.Sink.written c.args.out.now.sink.now) (g.O.Sink.written c.args.out.now.sink.now) l)
      (sym (ap (flat_map line_of) c.requires.undecided)) (says_none c.args.out.now.stopped (g.O.Sink.faults c.args.out.now.sink.now) (g.O.Sink.written c.args.out.now.sink.now));
  dated = λ told s shop disk fresh short. dated_none (g.D.Disk.past c.args.disk.now) [] c.args.progress.now.receipts.items c.requires.uncommitted;
  come = λ told s shop disk fresh. come_at_first told s c.args.members.now c.args.progress.now (g.D.Disk.told c.args.disk.now) c.requires.undecided c.requires.unheard c.requires.uncommitted c.requires.unowned disk fresh;
}

pub returns-in_err-install_member-clause-kept : goal.returns-in_err-install_member-clause-kept
returns-in_err-install_member-clause-kept g c =
    let D = g.D.Disk in
    kept_then (D.told c.args.disk.now) (D.told c.loop-id.disk) (D.told c.install_member.new.disk) c.loop-id.invariant.kept c.install_member.ensures.kept

pub returns-in_err-install_member-clause-halted : goal.returns-in_err-install_member-clause-halted
returns-in_err-install_member-clause-halted g c = λ told s shop disk fresh.
    let member = c.index-members-id.result in
    let come = c.loop-id.invariant.come told s shop disk fresh in
    always_err c.from_residual.result
    (part_of told c.install_member.new.progress (empty_switch s.files) c.args.members.now c.loop-id.id member c.loop-id.progress.heard.items c.index-members-id.is c.loop-id-test.true
    (c.in_err-install_member.ensures.undecided ∙ come.tracks.decisions) come.heard (c.in_err-install_member.ensures.heard_or_not told shop))

pub loop-id-preserved : goal.loop-id-preserved
loop-id-preserved g c =
    let D = g.D.Disk in let O = g.O.Sink in let member = c.index-members-id.result in
    let said = c.in_ok-install_member.ensures.said in
    record {
      fit = c.install_member.ensures.fit;
      idle = c.install_member.ensures.idle;
      size = c.install_member.ensures.size ∙ c.loop-id.invariant.size;
      shop = c.install_member.ensures.shop ∙ c.loop-id.invariant.shop;
      fresh = λ k le. c.install_member.ensures.fresh k (omega (arith, le));
      sink = c.install_member.ensures.sink ∙ c.loop-id.invariant.sink;
      faults = c.in_ok-install_member.ensures.cause.same (λ is. absurd (cc)) ∙ c.loop-id.invariant.faults;
      time = passes_then (D.moment c.args.disk.now) (D.moment c.loop-id.disk) (D.moment c.install_member.new.disk) (D.past c.args.disk.now) (D.past c.loop-id.disk) (D.past c.install_member.new.disk) c.loop-id.invariant.time c.install_member.ensures.time;
      kept = kept_then (D.told c.args.disk.now) (D.told c.loop-id.disk) (D.told c.install_member.new.disk) c.loop-id.invariant.kept c.install_member.ensures.kept;
      regular = c.in_ok-install_member.ensures.regular;
      count = one_longer c.loop-id.progress.decisions.items c.install_member.new.progress.decisions.items said.0 said.1 c.loop-id.id c.loop-id.invariant.count;
      receipts = c.install_member.ensures.receipts (D.moment c.args.disk.now) c.loop-id.invariant.receipts;
      said =
          subst (λ (l : List ℕ). Says c.args.out.now.stopped c.install_member.new.out.stopped (O.faults c.args.out.now.sink.now) (O.faults c.install_member.new.out.sink.now) (O.written c.args.out.now.sink.now) (O.written c.install_member.new.out.sink.now) l)
          (sym (lines_more c.loop-id.progress.decisions.items c.install_member.new.progress.decisions.items said.0 said.1))
          (says_then c.args.out.now.stopped c.loop-id.out.stopped c.install_member.new.out.stopped (O.faults c.args.out.now.sink.now) (O.faults c.loop-id.out.sink.now) (O.faults c.install_member.new.out.sink.now)
          (O.written c.args.out.now.sink.now) (O.written c.loop-id.out.sink.now) (O.written c.install_member.new.out.sink.now) (flat_map line_of c.loop-id.progress.decisions.items) (line_of said.0) c.loop-id.invariant.said said.2);
      dated = λ told s shop disk fresh short.
          let come = c.loop-id.invariant.come told s shop disk fresh in
          let o = outcome told (empty_switch s.files) (take c.loop-id.id c.args.members.now) in
          let before : D.moment c.loop-id.disk < last_count = let later = c.install_member.ensures.time.later in omega (arith, later, short) in
          subst (λ (next : Outcome). AreDated (D.past c.install_member.new.disk) next.records c.install_member.new.progress.receipts.items) (sym (one_step told (empty_switch s.files) c.args.members.now c.loop-id.id member c.index-members-id.is c.loop-id-test.true))
          (c.in_ok-install_member.ensures.dated told o s.files (D.moment c.args.disk.now) shop come.tracks come.stands c.loop-id.invariant.receipts short (c.loop-id.invariant.dated told s shop disk fresh before));
      come = λ told s shop disk fresh.
          let come = c.loop-id.invariant.come told s shop disk fresh in
          let o = outcome told (empty_switch s.files) (take c.loop-id.id c.args.members.now) in
          come_more told s.files c.args.members.now c.loop-id.id member c.install_member.new.progress (D.told c.install_member.new.disk) c.loop-id.progress.heard.items c.index-members-id.is c.loop-id-test.true
          (c.in_ok-install_member.ensures.done told o s.files shop come.tracks come.stands) (c.in_ok-install_member.ensures.left told o s.files shop come.tracks come.stands) come.heard (c.in_ok-install_member.ensures.heard told shop);
    }

pub returns-clause-left : goal.returns-clause-left
returns-clause-left g c = λ told s shop disk fresh.
    let come = c.loop-id.invariant.come told s shop disk fresh in
    subst (λ (o : Outcome). Stands (g.D.Disk.told c.loop-id.disk) o s.files) (come_all told s.files c.args.members.now c.loop-id.id c.loop-id-test.false) come.stands

pub returns-in_err-install_member-clause-dated : goal.returns-in_err-install_member-clause-dated
returns-in_err-install_member-clause-dated g c = λ told s shop disk fresh short.
    let D = g.D.Disk in
    let o = outcome told (empty_switch s.files) (take c.loop-id.id c.args.members.now) in
    let before : D.moment c.loop-id.disk < last_count = let later = c.install_member.ensures.time.later in omega (arith, later, short) in
    let rest = records_from told (empty_switch s.files) c.args.members.now c.loop-id.id in
    dated_part (D.past c.install_member.new.disk) o.records rest.0 (outcome told (empty_switch s.files) c.args.members.now).records c.install_member.new.progress.receipts.items rest.1
    (c.in_err-install_member.ensures.still_dated o (D.moment c.args.disk.now) c.loop-id.invariant.receipts short (c.loop-id.invariant.dated told s shop disk fresh before))

pub returns-clause-dated : goal.returns-clause-dated
returns-clause-dated g c = λ told s shop disk fresh short.
    subst (λ (o : Outcome). AreDated (g.D.Disk.past c.loop-id.disk) o.records c.loop-id.progress.receipts.items) (come_all told s.files c.args.members.now c.loop-id.id c.loop-id-test.false) (c.loop-id.invariant.dated told s shop disk fresh short)
