use Rattle.std.proofs.Common.{◌≡◌, ◌++◌, map, take}
use Rattle.std.specs.Prelude.{string_bytes}
use Rattle.command_words.specs.declared.arguments.Argument.TheVariants.{Plain}
use Rattle.command_words.proofs.arguments.push_plain.Given as goal

abbrev pub invariant-loop-word : goal.invariant-loop-word
invariant-loop-word l = l.given.items ≡ l.fn.given.items ++ map Plain (map string_bytes (take l.word-index l.words))
