use Rattle.std.proofs.Common.{List, sym, subst}
use Rattle.path_order.specs.Apart.{AreApart}
use Rattle.owner_map.specs.Owning.{is_of_another, path_of, paths_of}
use Rattle.owner_map.specs.declared.owned.OwnedPath.{OwnedPath}
use Rattle.owner_map.proofs.Aparts.{chosen_apart}
use Rattle.owner_map.proofs.owners.Owners.drop_owner.Goals as goal

pub invariant_of-self : goal.invariant_of-self
invariant_of-self c =
    let P : List OwnedPath → Type 0 = λ xs. AreApart (paths_of xs) in
    subst P (sym c.drop_owner.ensures.items) (chosen_apart path_of (is_of_another c.args.owner.now) c.self.inside.list.items c.self.invariant)
