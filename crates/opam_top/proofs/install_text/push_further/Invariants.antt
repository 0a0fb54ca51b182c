use Rattle.std.proofs.Common.{◌≡◌, ◌++◌, drop}
use Rattle.opam_top.specs.InstallTexts.{further}
use Rattle.opam_top.proofs.install_text.push_further.Given as goal

abbrev pub invariant-loop-item : goal.invariant-loop-item
invariant-loop-item l = l.text.items ++ further (drop l.item-index l.items) ≡ l.initial.text.items ++ further l.items
