use Rattle.opam_syntax.proofs.FileRead.{fault_told, no_shallow, text_read}
use Rattle.opam_syntax.proofs.reading.read_tokens.Goals as goal

pub returns-in-Ok-clause-ok : goal.returns-in-Ok-clause-ok
returns-in-Ok-clause-ok c =
    text_read c.args.bytes.now _ c.in-Ok.entries.items c.assemble.result c.requires.spelled c.in-Ok.ensures.spelled c.in-Ok.ensures.shallow
    c.assemble.ensures.entries c.assemble.ensures.single

pub returns-in-Ok-clause-err : goal.returns-in-Ok-clause-err
returns-in-Ok-clause-err c =
    fault_told c.args.bytes.now _ c.in-Ok.entries.items c.assemble.result c.requires.spelled c.in-Ok.ensures.spelled c.in-Ok.ensures.shallow
    c.assemble.ensures.err

pub parse_fault-requires-clause-none : goal.parse_fault-requires-clause-none
parse_fault-requires-clause-none c = λ h. no_shallow c.args.bytes.now _ c.requires.spelled (c.in-Err.ensures.refused h)
