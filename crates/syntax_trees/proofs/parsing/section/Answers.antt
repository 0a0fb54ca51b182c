use Rattle.syntax_trees.specs.Read.{read_fields, read_places}
use Rattle.syntax_trees.proofs.ParsedEntries.{section_read}
use Rattle.syntax_trees.proofs.parsing.section.Goals as goal

pub returns-in_ok-inside-in-Some-clause-read : goal.returns-in_ok-inside-in-Some-clause-read
returns-in_ok-inside-in-Some-clause-read c =
    let inside = c.in_ok-inside-in-Some.inside in
    section_read c.args.name.word c.args.name.span c.in-Some.field-0 inside.to c.args.tokens.now c.take_text-text.new.self c.take_sign.new.self
    c.fields.new.tokens c.take_text-text.result (read_fields inside.fields) (read_places inside.fields) c.make_section.result c.take_text-text.ensures c.in-Some.ensures
    c.in_ok-inside-in-Some.ensures.read c.make_section.ensures
