use Rattle.std.proofs.Common.{◌∷◌, ◌∙◌, sym, ap}
use Rattle.syntax_trees.specs.declared.token.Token.TheVariants.{Plain}
use Rattle.syntax_trees.specs.Tokens.{placed}
use Rattle.syntax_trees.proofs.ParsedEntries.{entry_at, field_is_entry, no_entry_read, no_value_no_entry, none_at}
use Rattle.syntax_trees.proofs.parsing.entry.Goals as goal

pub returns-in_err-value-in-Some-clause-read : goal.returns-in_err-value-in-Some-clause-read
returns-in_err-value-in-Some-clause-read c =
    let name = c.in_ok-name.name in
    no_entry_read c.args.tokens.now c.value.new.tokens c.from_residual-in_err-value-in-Some.result c.in_err-value-in-Some.field-0.0
    c.from_residual-in_err-value-in-Some.ensures.1
    (λ k. none_at (ap (λ ts. placed (Plain name.word) name.span ∷ ts) (sym c.in-Some.ensures) ∙ sym c.in_ok-name.ensures)
    (no_value_no_entry name.word name.span c.in-Some.field-0 c.take_sign.new.self (c.in_err-value-in-Some.ensures.parsed k)))

pub returns-in_ok-value-in-Some-clause-read : goal.returns-in_ok-value-in-Some-clause-read
returns-in_ok-value-in-Some-clause-read c =
    let name = c.in_ok-name.name in
    entry_at (ap (λ ts. placed (Plain name.word) name.span ∷ ts) (sym c.in-Some.ensures) ∙ sym c.in_ok-name.ensures) c.make_field.ensures
    (field_is_entry name.word name.span c.in-Some.field-0 c.take_sign.new.self c.value.new.tokens c.in_ok-value-in-Some.value
    c.in_ok-value-in-Some.ensures.parsed)
