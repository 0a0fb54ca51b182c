use Rattle.std.proofs.Common.{◌∙◌, sym, length}
use Rattle.owner_map.specs.Clashes.{NoneClash}
use Rattle.owner_map.specs.Owning as owning
use Rattle.journal_text.specs.Parts.{paths_of}
use Rattle.back_verdict.proofs.Rooms.{can_be_put_back, given_none}
use Rattle.back_verdict.proofs.back.why_in_the_way.Goals as goal

pub returns-in-None-clause-none : goal.returns-in-None-clause-none
returns-in-None-clause-none g c =
    let owned = c.args.owners.now.owned in
    let files = c.args.files.now in
    let none = given_none (NoneClash (owning.paths_of owned) (paths_of files) (length files)) c.in_ok-reason.field-0 c.in-None.is c.in_ok-reason.ensures.none in
    can_be_put_back owned c.args.entries.now c.args.old.now files (sym c.is_full.ensures ∙ c.if-is_full.false) none
