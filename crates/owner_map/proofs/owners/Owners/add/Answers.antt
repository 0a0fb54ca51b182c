use Rattle.std.proofs.Common.{List, sym, ◌∙◌, ap, subst}
use Rattle.std.specs.List.{list_any}
use Rattle.path_order.specs.Apart.{AreApart, meets}
use Rattle.owner_map.specs.Owning.{Owning, path_of, paths_of}
use Rattle.owner_map.specs.declared.owned.OwnedPath.{OwnedPath}
use Rattle.owner_map.proofs.Aparts.{put_apart}
use Rattle.owner_map.proofs.owners.Owners.add.Goals as goal

pub invariant_of-self : goal.invariant_of-self
invariant_of-self c =
    let own = ap (λ (o : Owning). list_any (meets c.args.path) (paths_of o.owned)) c.self.view_is in
    let P : List OwnedPath → Type 0 = λ xs. AreApart (paths_of xs) in
    subst P (sym c.put.ensures.items) (put_apart path_of (record { path = c.args.path; owner = c.args.owner }) c.self.inside.list.items (own ∙ c.requires.free) c.self.invariant)
