use Rattle.std.proofs.Common.{◌∙◌, sym, ap, Ok, None}
use Rattle.opam_top.proofs.Passed.{passes_then}
use Rattle.opam_top.specs.Owners.{owners_of}
use Rattle.opam_top.specs.Placements.{first_clash}
use Rattle.opam_top.proofs.Apart.{differ_next}
use Rattle.opam_top.proofs.Clashes.{clash_next}
use Rattle.opam_top.proofs.Owned.{first_in_bin, unowned_next}
use Rattle.opam_top.proofs.placing.first_in_the_folder.Goals as goal

pub in_the_way-requires-clause-paths : goal.in_the_way-requires-clause-paths
in_the_way-requires-clause-paths g c = first_in_bin c.args.files.now c.loop-place.place c.requires.paths

pub loop-place-preserved : goal.loop-place-preserved
loop-place-preserved g c =
    let owners = owners_of c.args.owners.now in
    let files = c.args.files.now in
    let i = c.loop-place.place in
    let file = c.index-files-place.result in
    let here = c.index-files-place.is in
    let within = c.loop-place-test.true in
    let reason = c.in_ok-reason.field-0 in
    let free = ap Ok c.in_default.is in
    record {
      faults = c.in_ok-reason.ensures.cause.same (λ e. absurd (cc)) ∙ c.loop-place.invariant.faults;
      time = let D = g.D.Disk in passes_then (D.moment c.args.disk.now) (D.moment c.loop-place.disk) (D.moment c.in_the_way.new.disk) (D.past c.args.disk.now) (D.past c.loop-place.disk) (D.past c.in_the_way.new.disk) c.loop-place.invariant.time c.in_ok-reason.ensures.time;
      same = c.in_ok-reason.ensures.same ∙ c.loop-place.invariant.same;
      unowned = unowned_next owners files i file here within (c.in_ok-reason.ensures.unowned free) c.loop-place.invariant.unowned;
      apart = differ_next files i file here within (c.in_ok-reason.ensures.apart free) c.loop-place.invariant.apart;
      told = λ s told bare.
          let before = sym c.in_ok-reason.ensures.same ∙ told in
          let whole = first_clash s.files owners c.args.pkg.now files in
          clash_next s.files owners c.args.pkg.now files i file None whole here within
          (sym c.in_default.is ∙ c.in_ok-reason.ensures.told s before bare) (c.loop-place.invariant.told s before bare);
    }
