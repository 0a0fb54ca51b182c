use Rattle.std.proofs.Common.{◌≡◌, ◌++◌, take}
use Rattle.std.specs.List.{All, flat_map}
use Rattle.opam_names.specs.Names.{IsName}
use Rattle.journal_text.specs.Words.{short_text}
use Rattle.switch_journal.proofs.slot_pieces.push_names.Given as goal

abbrev pub invariant-loop-name : goal.invariant-loop-name
invariant-loop-name l = record {
  spelled : l.out.items ≡ l.initial.out.items ++ flat_map short_text (take l.name-index l.names);
  valid : All IsName (take l.name-index l.names);
}
