use Rattle.std.proofs.Common.{◌≡◌, string_bytes}
use Rattle.generated_set.specs.Texts.{bindings_text}
use Rattle.generated_set.proofs.texts.bindings_text.Given as goal

abbrev pub invariant-loop-place : goal.invariant-loop-place
invariant-loop-place l = string_bytes l.bindings ≡ bindings_text l.place-counter
