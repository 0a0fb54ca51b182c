use Rattle.std.proofs.Common.{◌≡◌, rules, subst, IsTrue}
use Rattle.std.proofs.lemmas.Grind.{common_steps}
use Rattle.outside_io.specs.Shops.{IsEndingOf}
use Rattle.outside_io.specs.Scripts.{script_of, ending_of, all_well}
use Rattle.outside_io.specs.declared.workshop.Ending.{Ending}
use Rattle.outside_io.proofs.Well.{shop_ending}
use Rattle.outside_io.proofs.script_shop.ScriptShopWorkshop.build_step.Goals as goal

pub returns-clause-kind : goal.returns-clause-kind
returns-clause-kind c =
    let P : Ending → Type 0 = λ e. IsEndingOf c.args.step e in
    let same : ending_of (script_of c.args.self.now c.args.job.now.pkg) c.args.step ≡ c.scripted_ending.result = search (rules, common_steps) in
    let well : IsTrue (all_well c.args.self.now) = rw c.self.view_is at c.self.invariant in
    subst P same (shop_ending c.args.self.now c.args.job.now.pkg c.args.step well)
