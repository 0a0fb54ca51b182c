use Rattle.std.proofs.Common.{◌≡◌, ◌∙◌, ap, length, rules, refl, subst}
use Rattle.child_pool.specs.Crews.{TellsFate}
use Rattle.child_pool.specs.Orders.{next_place}
use Rattle.child_pool.proofs.Fits.{takes_picked}
use Rattle.child_pool.proofs.order.OrderCrewCrew.take_end.Goals as goal

pub returns-in_err-fate-clause-picked : goal.returns-in_err-fate-clause-picked
returns-in_err-fate-clause-picked g c =
    let taken = c.take-id in
    let count : c.len.result ≡ length c.args.self.now.jobs.items = search rules in
    let place = c.next_pick-at.ensures.place ∙ ap (λ n. next_place c.args.self.now.picks.items n) count in
    takes_picked _ _ _ _ _ _ _ taken.result _ place taken.ensures.job taken.ensures.jobs taken.ensures.events (search rules) (search rules)

pub returns-in_err-fate-clause-takes : goal.returns-in_err-fate-clause-takes
returns-in_err-fate-clause-takes g c = (_, returns-in_err-fate-clause-picked g c)

pub returns-clause-picked : goal.returns-clause-picked
returns-clause-picked g c =
    let taken = c.take-id in
    let count : c.len.result ≡ length c.args.self.now.jobs.items = search rules in
    let place = c.next_pick-at.ensures.place ∙ ap (λ n. next_place c.args.self.now.picks.items n) count in
    let told = subst (λ shop. TellsFate (g.W.Workshop.told shop) taken.result.1 c.in_ok-fate.fate) taken.ensures.shop c.in_ok-fate.ensures in
    takes_picked _ _ _ _ _ _ _ taken.result _ place taken.ensures.job taken.ensures.jobs taken.ensures.events refl told

pub returns-clause-takes : goal.returns-clause-takes
returns-clause-takes g c = (_, returns-clause-picked g c)
