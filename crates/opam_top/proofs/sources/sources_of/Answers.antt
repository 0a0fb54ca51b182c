use Rattle.std.proofs.Common.{◌+◌, ◌-◌, ◌∙◌, ap, sym, drop, map}
use Rattle.std.proofs.lemmas.List.{take_all}
use Rattle.std.specs.FinMap.{get}
use Rattle.opam_top.specs.Placements.{bin_path, first_room, placed_from, prepend, source, total_bytes}
use Rattle.opam_top.proofs.Sourced.{all_in_bin, paths_grow, told_more, total_grows}
use Rattle.opam_top.proofs.sources.sources_of.Goals as goal

pub loop-item-preserved : goal.loop-item-preserved
loop-item-preserved g c =
    let files = c.loop-item.files in
    let grown = c.push.new.self in
    let file = c.in-Ok.file in
    let items = c.args.items.now in
    let item = c.item-item.result in
    let room = c.loop-item.room in
    let i = c.loop-item.item-index in
    let grows = c.in_ok-push-in-Ok.ensures.ok in
    let path = rw c.in-Ok.is at c.in_ok-reason.ensures.path in
    let short = rw c.in-Ok.is at c.in_ok-reason.ensures.short in
    record {
      paths = paths_grow files grown file items i item grows (path ∙ ap bin_path c.as_slice.ensures) c.item-item.is c.loop-item-test.true c.loop-item.invariant.paths;
      total = ap (λ n. total_bytes grown + (room - n)) c.len.ensures ∙ total_grows files grown file room first_room grows short c.loop-item.invariant.total;
      told = λ told tells.
          let sources = told.files c.args.job.now in
          let found = sym c.in-Ok.is ∙ c.in_ok-reason.ensures.told told tells ∙ ap (λ at. source at room (get sources at)) c.as_slice.ensures in
          ap (λ n. prepend grown (placed_from sources (room - n) (drop (i + 1) items))) c.len.ensures
          ∙ told_more sources room files grown file items i item (placed_from sources first_room items) grows (sym found) c.item-item.is c.loop-item-test.true (c.loop-item.invariant.told told tells);
    }

pub returns-clause-in_bin : goal.returns-clause-in_bin
returns-clause-in_bin g c = all_in_bin c.args.items.now c.loop-item.files c.requires (c.loop-item.invariant.paths ∙ ap (map bin_path) (take_all c.loop-item.item-index c.args.items.now c.loop-item-test.false))
