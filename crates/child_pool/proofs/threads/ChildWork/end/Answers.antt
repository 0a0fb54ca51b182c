use Rattle.std.proofs.Common.{◌≡◌}
use Rattle.std.proofs.Math.Logic.{∥∥₁_map}
use Rattle.std.specs.Arc.{arc_value}
use Rattle.child_pool.proofs.Promises.{promised}
use Rattle.child_pool.proofs.threads.ChildWork.end.Goals as goal

pub returns-in-Some : goal.returns-in-Some
returns-in-Some g c =
    let same : ∥ (c.in-Some.handle.promise.shop.value ≡ arc_value c.args.self.shop) × (c.in-Some.handle.promise.job.value ≡ arc_value c.args.self.job) ∥₁ = ∥∥₁_map c.args.self.kept (λ f. f c.in-Some.handle c.in-Some.is) in
    promised g.W.Workshop.told c.in-Some.handle.promise.shop.value (arc_value c.args.self.shop) c.in-Some.handle.promise.job.value (arc_value c.args.self.job) c.join.result same c.join.ensures
