use Rattle.change_verdict.proofs.Placements.{accepted_text, refused_text, text_free}
use Rattle.change_verdict.proofs.sources.text_sources.Goals as goal

pub files_of-requires-clause-free : goal.files_of-requires-clause-free
files_of-requires-clause-free g c =
    rw c.as_slice.ensures (text_free c.files_stay_below.ensures c.args.text.now c.args.job.now.pkg.name c.in-Ok.placements c.in-Ok.ensures.ok)

pub returns-in-Ok-clause-told : goal.returns-in-Ok-clause-told
returns-in-Ok-clause-told g c = λ told tells.
    accepted_text (told.files c.args.job.now) c.args.text.now c.args.job.now.pkg.name c.in-Ok.placements c.files_of.result c.in-Ok.ensures.ok
    (rw c.as_slice.ensures at (c.files_of.ensures.told told tells))

pub returns-in-Err-clause-told : goal.returns-in-Err-clause-told
returns-in-Err-clause-told g c = λ told tells.
    refused_text (told.files c.args.job.now) c.args.text.now c.args.job.now.pkg.name c.in-Err.fault c.refused_sources.result c.in-Err.ensures.err c.refused_sources.ensures.fault c.refused_sources.ensures.told
