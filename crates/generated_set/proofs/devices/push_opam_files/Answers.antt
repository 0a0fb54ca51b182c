use Rattle.std.proofs.Common.{◌∙◌, ap, sym, rules}
use Rattle.outside_io.specs.Memories.{pairs_of}
use Rattle.generated_set.specs.Texts.{opam_path, opam_text}
use Rattle.generated_set.proofs.Files.{files_next, moved, pairs_with}
use Rattle.generated_set.proofs.devices.push_opam_files.Goals as goal

pub loop-place-preserved : goal.loop-place-preserved
loop-place-preserved c =
    moved (pairs_of c.loop-place.files.items) (pairs_of c.push.new.self.items) _ _ _ (opam_path c.loop-place.place, opam_text c.index-needs-place.result)
    (ap pairs_of c.in_ok-push.ensures.items ∙ pairs_with c.loop-place.files.items _ ∙ search (rules))
    (files_next c.args.needs.now c.loop-place.place c.index-needs-place.result c.loop-place-test.true (sym c.index-needs-place.is))
    c.loop-place.invariant
