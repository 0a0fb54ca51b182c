use Rattle.std.proofs.Common.{◌≡◌, drop}
use Rattle.std.specs.List.{list_all}
use Rattle.opam_top.specs.InstallTexts.{is_item}
use Rattle.opam_top.proofs.install_text.all_name_files.Given as goal

abbrev pub invariant-loop-item : goal.invariant-loop-item
invariant-loop-item l = list_all is_item (drop l.item-index l.items) ≡ list_all is_item l.items
