use Rattle.std.proofs.Common.{◌≡◌, rules, None}
use Rattle.std.proofs.lemmas.Grind.{common_steps}
use Rattle.outside_io.specs.Scripts.{script_of}
use Rattle.outside_io.proofs.Tells.{unscripted_tells}
use Rattle.outside_io.proofs.script_shop.ScriptShopWorkshop.read.Goals as goal

pub returns-in-None-clause-told : goal.returns-in-None-clause-told
returns-in-None-clause-told c =
    let none : script_of c.args.self.now c.args.job.now.pkg ≡ None = search (rules, common_steps) in
    λ told is. unscripted_tells c.args.self.now c.args.job.now c.args.path.now c.args.limit told none is
