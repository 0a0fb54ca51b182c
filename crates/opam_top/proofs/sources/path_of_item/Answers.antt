use Rattle.std.proofs.Common.{◌≡◌, ℕ, List, true, subst, sym}
use Rattle.opam_names.specs.Paths.{is_plain_path}
use Rattle.opam_top.proofs.ItemPaths.{item_is_path}
use Rattle.opam_top.proofs.sources.path_of_item.Goals as goal

pub fixed-requires : goal.fixed-requires
fixed-requires c = let plain = λ (text : List ℕ). is_plain_path text ≡ true in subst plain (sym c.text_of_item.ensures) (item_is_path c.args.item.now c.requires)
