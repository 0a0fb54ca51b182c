use Rattle.std.proofs.Common.{lit<}
use Rattle.std.proofs.lemmas.Str.Pattern.{split_once_first}
use Rattle.command_words.proofs.Faultless.{shown_package}
use Rattle.command_words.proofs.building.shown.Goals as goal

pub name_of-requires : goal.name_of-requires
name_of-requires c =
    let first = split_once_first 46 c.args.word.now c.split_once.result c.split_once.ensures.cases (lit< tt) in
    let parts = rw c.in-Some.is at first in
    shown_package c.args.word.now c.in-Some.name.now parts.0 parts.1 c.requires
