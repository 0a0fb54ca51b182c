use Rattle.std.proofs.Common.{◌≡◌}
use Rattle.opam_package.specs.Fields as fields
use Rattle.opam_package.proofs.fields.inner_field.Given as goal

-- it stands among the fields that are left
abbrev pub invariant-loop-word : goal.invariant-loop-word
invariant-loop-word l = fields.inner_field l.name l.word-iterator ≡ fields.inner_field l.name l.section.entries
