use Rattle.std.proofs.Common.{ap}
use Rattle.std.specs.Arc.{arc_value}
use Rattle.child_pool.proofs.Fits.{taken, takes, its_fate}
use Rattle.child_pool.proofs.pool.PoolCrewCrew.take_end.Goals as goal

pub returns-in-Ok-clause-fit : goal.returns-in-Ok-clause-fit
returns-in-Ok-clause-fit g c =
    let X = g.X.Work in
    taken X.number X.job X.told (λ f s n j. goal.S-pre g f s n j) (λ f s n j r. goal.S-post g f s n j r) _ _ _ _ _ _ c.find_ended-at.result c.take-child.ensures.begin (ap (λ s. g.W.Workshop.told (arc_value s)) c.take-child.ensures.shop) c.take-child.ensures.children c.requires.fit

pub returns-in-Err-clause-fit : goal.returns-in-Err-clause-fit
returns-in-Err-clause-fit g c =
    let X = g.X.Work in
    taken X.number X.job X.told (λ f s n j. goal.S-pre g f s n j) (λ f s n j r. goal.S-post g f s n j r) _ _ _ _ _ _ c.find_ended-at.result c.take-child.ensures.begin (ap (λ s. g.W.Workshop.told (arc_value s)) c.take-child.ensures.shop) c.take-child.ensures.children c.requires.fit

pub returns-in-Ok-clause-takes : goal.returns-in-Ok-clause-takes
returns-in-Ok-clause-takes g c =
    let X = g.X.Work in
    let told = g.W.Workshop.told (arc_value c.args.self.now.shop) in
    takes X.number X.job told _ _ _ _ c.find_ended-at.result c.take-child.result _ c.take-child.ensures.child c.take-child.ensures.children c.take-child.ensures.events c.id-id.ensures (its_fate X.job X.told told c.args.self.now.children.items c.find_ended-at.result c.take-child.result c.end.result c.in-Ok.fate c.requires.fit.run c.take-child.ensures.child c.end.ensures c.in-Ok.is)

pub returns-in-Err-clause-takes : goal.returns-in-Err-clause-takes
returns-in-Err-clause-takes g c =
    let X = g.X.Work in
    takes X.number X.job _ _ _ _ _ c.find_ended-at.result c.take-child.result _ c.take-child.ensures.child c.take-child.ensures.children c.take-child.ensures.events tt tt
