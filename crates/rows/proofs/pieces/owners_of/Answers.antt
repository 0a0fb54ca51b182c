use Rattle.std.proofs.Common.{◌≡◌, ◌∙◌, false, List, ℕ, ap, subst, sym}
use Rattle.std.specs.List.{list_any}
use Rattle.opam_names.specs.ByteOrders.{put_by}
use Rattle.opam_names.specs.declared.packages.Pkg.{Pkg}
use Rattle.path_order.specs.Apart.{meets}
use Rattle.journal_text.specs.declared.record.Entry.{Entry}
use Rattle.owner_map.specs.Owning.{owned_by, path_of, paths_of}
use Rattle.switch_journal.proofs.Slotting.{slotting_free, slotting_more}
use Rattle.rows.proofs.GivenPieces.{next_left}
use Rattle.rows.proofs.pieces.owners_of.Goals as goal

pub add-requires-clause-free : goal.add-requires-clause-free
add-requires-clause-free c =
    subst (λ (path : List ℕ). list_any (meets path) (paths_of c.loop-one.owners.owned) ≡ false) (sym c.in_ok-copy.ensures)
    (slotting_free c.args.entries.now c.args.owned.now _ _ c.one-item.result c.loop-one.owners (next_left c.args.owned.now c.loop-one.one-index c.one-item.result c.loop-one-test.true c.one-item.is) c.loop-one.invariant)

pub loop-one-preserved : goal.loop-one-preserved
loop-one-preserved c =
    slotting_more c.args.entries.now c.args.owned.now _ _ c.one-item.result c.loop-one.owners
    (next_left c.args.owned.now c.loop-one.one-index c.one-item.result c.loop-one-test.true c.one-item.is) c.loop-one.invariant
    c.index-entries-one.result c.add.new.self c.index-entries-one.is
    (c.add.ensures.owned
    ∙ ap (λ (path : List ℕ). put_by path_of (owned_by path c.in_ok-owner.owner) c.loop-one.owners.owned) c.in_ok-copy.ensures
    ∙ ap (λ (pkg : Pkg). put_by path_of (owned_by c.one-item.result.path pkg) c.loop-one.owners.owned) (c.in_ok-owner.ensures ∙ ap (λ (entry : Entry). entry.pkg) (sym c.index-entries-one.is)))
    c.add.ensures.spare
