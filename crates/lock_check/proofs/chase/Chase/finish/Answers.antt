use Rattle.std.proofs.Common.{List, ℕ, ◌≡◌, ◌++◌, filter, map, sym, subst, ap, ◌∙◌}
use Rattle.std.specs.Prelude.{bytes_eq}
use Rattle.std.specs.List.{IsDistinct}
use Rattle.opam_names.specs.ByteOrders.{each_once, in_order_by}
use Rattle.opam_package.specs.declared.package.Member.{Member}
use Rattle.lock_check.specs.Chased.{AreReadNeeded, Chased, install_target, install_violations, starts, stay}
use Rattle.lock_check.specs.Progressing.{chased_with}
use Rattle.lock_check.specs.Targets.{by_name, has_member, member_name}
use Rattle.lock_check.proofs.Standing.{members_differ}
use Rattle.lock_check.proofs.chase.Chase.finish.Goals as goal

pub install_target-requires-clause-bound : goal.install_target-requires-clause-bound
install_target-requires-clause-bound c = c.self.invariant.bound_rises

pub install_target-requires-clause-differ : goal.install_target-requires-clause-differ
install_target-requires-clause-differ c =
    let P : List Member → Type 0 = λ xs. IsDistinct bytes_eq (map member_name (stay c.self.inside.sources.bound c.self.inside.progress.needed.keys c.args.installed.now ++ xs)) in
    subst P (sym c.into_items-known.ensures)
    (members_differ c.order_is_stable.ensures.rising (chased_with c.self.inside.sources c.self.inside.progress) c.self.inside.progress.waiting.keys c.self.inside.progress.count c.args.installed.now
    c.self.invariant c.requires.differ (ap (λ (s : Chased). s.installed) c.self.view_is ∙ c.requires.installed))

pub install_told-requires-clause-bound : goal.install_told-requires-clause-bound
install_told-requires-clause-bound c = c.self.invariant.bound_rises

pub install_told-requires-clause-rises : goal.install_told-requires-clause-rises
install_told-requires-clause-rises c = c.in_ok-target.ensures.rises

pub install_told-requires-clause-order : goal.install_told-requires-clause-order
install_told-requires-clause-order c = c.in_ok-target.ensures.order

pub returns-clause-target : goal.returns-clause-target
returns-clause-target c =
    let members_are : c.in_ok-target.target.members ≡ by_name (stay c.self.inside.sources.bound c.self.inside.progress.needed.keys c.args.installed.now ++ c.self.inside.progress.known.items) =
    c.in_ok-target.ensures.members
    ∙ ap (λ (xs : List Member). by_name (stay c.self.inside.sources.bound c.self.inside.progress.needed.keys c.args.installed.now ++ xs)) c.into_items-known.ensures in
    let same : c.in_ok-target.target ≡ install_target (chased_with c.self.inside.sources c.self.inside.progress) c.args.installed.now c.args.roots.now =
    λ i. record {
      members = members_are i;
      redo = c.in_ok-target.ensures.redo i;
      fresh = (c.in_ok-target.ensures.fresh ∙ ap (λ (xs : List Member). in_order_by (λ (name : List ℕ). name) (map member_name xs)) c.into_items-known.ensures) i;
      roots = (c.in_ok-target.ensures.roots
          ∙ ap (λ (xs : List Member). each_once (filter (has_member xs) c.args.roots.now ++ starts c.self.inside.sources.bound c.self.inside.sources.asked)) members_are) i;
    } in
    same ∙ ap (λ (s : Chased). install_target s c.args.installed.now c.args.roots.now) c.self.view_is

pub returns-clause-violations : goal.returns-clause-violations
returns-clause-violations c = c.in_ok-told.ensures ∙ ap (λ (s : Chased). install_violations s c.in_ok-target.target) c.self.view_is

pub returns-clause-rises : goal.returns-clause-rises
returns-clause-rises c = c.in_ok-target.ensures.rises

pub returns-clause-needed : goal.returns-clause-needed
returns-clause-needed c =
    let P : Chased → Type 0 = λ s. AreReadNeeded s in subst P c.self.view_is (λ member at. (c.self.invariant.are_read member at).needed)
