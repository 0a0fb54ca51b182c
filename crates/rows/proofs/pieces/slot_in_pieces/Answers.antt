use Rattle.std.proofs.Common.{◌∙◌, ap, rules, arith}
use Rattle.rows.specs.Pieces.{with_entries, with_roots}
use Rattle.rows.proofs.GivenPieces.{can_finish}
use Rattle.rows.proofs.pieces.slot_in_pieces.Goals as goal

pub finish-requires : goal.finish-requires
finish-requires c =
    can_finish c.args.journal.now c.args.slot.now _ _ c.requires.ordered
    (search (rules)) (search (rules)) (search (rules, arith)) (search (rules)) (search (rules, arith))
