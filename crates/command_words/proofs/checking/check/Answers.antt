use Rattle.std.proofs.Common.{◌≡◌, ◌≢◌, IfErr, ap, sym, subst, ◌∙◌, Some}
use Rattle.command_words.specs.Readings.{fault_of, fault_of_known, is_given}
use Rattle.command_words.specs.Tables.{row, value_of}
use Rattle.command_words.specs.declared.fault.WordFault.TheVariants.{Memory}
use Rattle.command_words.proofs.checking.check.Goals as goal

pub returns-in-Given-clause-err : goal.returns-in-Given-clause-err
returns-in-Given-clause-err c =
    let r = row c.args.kind in
    let name = c.in-Given.name in
    let value = c.in-Given.value in
    let known = c.value_of-known.ensures ∙ ap (value_of r.options) c.as_str.ensures in
    let repeated = c.is_given-repeated.ensures ∙ ap (λ n. is_given n c.args.before.now) c.as_str-in-Given.ensures in
    let fault = ap (λ k. fault_of_known k c.is_given-repeated.result name value) known ∙ ap (λ b. fault_of_known (value_of r.options name) b name value) repeated
    ∙ sym (ap (fault_of r c.args.before.now) c.in-Given.is) in
    subst (λ f. IfErr c.check_option.result (λ e. e ≢ Memory → f ≡ Some e)) fault c.check_option.ensures.err
