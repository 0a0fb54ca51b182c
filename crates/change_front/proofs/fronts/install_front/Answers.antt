use Rattle.std.proofs.Common.{sym, subst, Bool}
use Rattle.outside_io.specs.HostEffects.{HostFails}
use Rattle.change_front.specs.Fronts.{IsInstall}
use Rattle.change_front.proofs.Fronted.{answers_told, failed_same, own_told}
use Rattle.change_front.proofs.fronts.install_front.Goals as goal

pub returns-clause-cause : goal.returns-clause-cause
returns-clause-cause g c =
    subst (λ (b : Bool). HostFails g.H.Host b c.args.host.now c.install.new.host) (sym (failed_same c.install.result c.told_front.result c.told_front.ensures)) c.install.ensures.cause

pub returns-clause-told : goal.returns-clause-told
returns-clause-told g c = λ files is.
    answers_told c.install.result c.told_front.result c.told_front.ensures
    (IsInstall files c.args.lock_file.now c.args.repo.now c.args.names.now c.args.installed.now c.args.roots.now c.args.globals.now) (c.install.ensures.told files is)

pub returns-clause-plan : goal.returns-clause-plan
returns-clause-plan g c = own_told c.install.result c.told_front.result c.told_front.ensures c.args.installed.now c.args.globals.now _ (λ planned is. is.plan) c.install.ensures.own

pub returns-clause-rises : goal.returns-clause-rises
returns-clause-rises g c = own_told c.install.result c.told_front.result c.told_front.ensures c.args.installed.now c.args.globals.now _ (λ planned is. is.rises) c.install.ensures.own

pub returns-clause-read : goal.returns-clause-read
returns-clause-read g c = own_told c.install.result c.told_front.result c.told_front.ensures c.args.installed.now c.args.globals.now _ (λ planned is. is.read) c.install.ensures.own

pub returns-clause-few : goal.returns-clause-few
returns-clause-few g c = own_told c.install.result c.told_front.result c.told_front.ensures c.args.installed.now c.args.globals.now _ (λ planned is. is.few) c.install.ensures.own

pub returns-clause-short : goal.returns-clause-short
returns-clause-short g c = own_told c.install.result c.told_front.result c.told_front.ensures c.args.installed.now c.args.globals.now _ (λ planned is. is.short) c.install.ensures.own
