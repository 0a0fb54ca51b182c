use Rattle.std.proofs.Common.{◌∙◌, sym}
use Rattle.opam_top.proofs.CommandWords.{no_word_is_read, word_is_read}
use Rattle.opam_top.proofs.opam_file.text_of_word.Goals as goal

pub returns-in_ok-from_str-in-Ok : goal.returns-in_ok-from_str-in-Ok
returns-in_ok-from_str-in-Ok c = word_is_read c.args.word.now c.in_ok-from_str-in-Ok.field-0 (c.in_ok-from_str-in-Ok.ensures ∙ c.in-Ok.ensures.cases.0) c.in-Ok.ensures.cases.1 (sym c.has_word_bytes.ensures ∙ c.if-not-has_word_bytes.false)

pub returns-in-Err : goal.returns-in-Err
returns-in-Err c = no_word_is_read c.args.word.now c.in-Err.ensures.cases.0
