use Rattle.std.proofs.Common.{◌≡◌, ◌++◌, drop, string_bytes}
use Rattle.std.specs.List.{flat_map}
use Rattle.generated_set.specs.Texts.{need_text}
use Rattle.generated_set.proofs.texts.need_texts.Given as goal

abbrev pub invariant-loop-need : goal.invariant-loop-need
invariant-loop-need l = string_bytes l.list ++ flat_map need_text (drop l.need-index l.needs) ≡ flat_map need_text l.needs
