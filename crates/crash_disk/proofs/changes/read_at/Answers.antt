use Rattle.std.proofs.Common.{◌≡◌, Some, sym, ◌∙◌, ap, refl}
use Rattle.std.specs.FinMap.{get}
use Rattle.std.specs.Option.{option_map}
use Rattle.crash_disk.specs.Log.{kept, replay, first_state}
use Rattle.crash_disk.proofs.Files.{get_stored}
use Rattle.crash_disk.proofs.Below.{none_kept}
use Rattle.crash_disk.proofs.changes.read_at.Goals as goal

pub returns-in-None-clause-read : goal.returns-in-None-clause-read
returns-in-None-clause-read c = rw (none_kept c.args.first.now c.args.log.now c.args.path.now (sym c.in-None.ensures)) refl

pub returns-in-Some-clause-read : goal.returns-in-Some-clause-read
returns-in-Some-clause-read c =
    let here : get (replay c.args.log.now (first_state c.args.first.now)).files c.args.path.now ≡ Some (kept c.in-Some.listed.now) =
    get_stored c.args.first.now c.args.log.now c.args.path.now ∙ ap (option_map kept) (sym c.in-Some.ensures) in
    rw here c.read_listed.ensures.read
