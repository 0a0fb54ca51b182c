use Rattle.std.proofs.Common.{◌≡◌, ◌<◌, filter, length, refl, ◌∙◌, ap, arith, rules}
use Rattle.std.specs.Prelude.{slice_set}
use Rattle.std.specs.Vec.{vec_len}
use Rattle.std.proofs.lemmas.List.{length-set}
use Rattle.owner_map.specs.Owning.{is_of_another}
use Rattle.owner_map.proofs.Splitting.{chunk_is, each_more, ended, joined_set}
use Rattle.owner_map.proofs.chunks.drop_from_each.Goals as goal

pub loop-i-init : goal.loop-i-init
loop-i-init c = record { is = refl; count = omega arith; same = refl }

pub overflow_add-count : goal.overflow_add-count
overflow_add-count c =
    let cs = c.loop-i.chunks.items in
    let i = c.loop-i.i in
    let len : vec_len c.args.chunks.now ≡ length c.args.chunks.now.items = search rules in
    let within : i < length cs = omega (arith, c.loop-i-test.true, c.len-i-end.ensures, len, c.loop-i.invariant.same) in
    omega (arith, c.loop-i.invariant.count, c.requires, c.drop_owner-count.ensures.count, joined_set cs i c.drop_owner-count.new.self within, ap length (chunk_is cs i c.index_mut.result.now within c.index_mut.ensures.value))

pub loop-i-preserved : goal.loop-i-preserved
loop-i-preserved c =
    let cs = c.loop-i.chunks.items in
    let old = c.args.chunks.now.items in
    let i = c.loop-i.i in
    let len : vec_len c.args.chunks.now ≡ length old = search rules in
    let inside : i < length old = omega (arith, c.loop-i-test.true, c.len-i-end.ensures, len) in
    let within : i < length cs = omega (arith, inside, c.loop-i.invariant.same) in
    let one = ap length (chunk_is cs i c.index_mut.result.now within c.index_mut.ensures.value) in
    record {
      is =
          ap (slice_set cs i) c.drop_owner-count.ensures.items
          ∙ each_more (filter (is_of_another c.args.owner.now)) old cs i c.index_mut.result.now inside c.loop-i.invariant.is c.index_mut.ensures.value;
      count = omega (arith, c.loop-i.invariant.count, c.drop_owner-count.ensures.count, joined_set cs i c.drop_owner-count.new.self within, one);
      same = length-set cs i c.drop_owner-count.new.self ∙ c.loop-i.invariant.same;
    }

pub returns-clause-items : goal.returns-clause-items
returns-clause-items c =
    let old = c.args.chunks.now.items in
    let len : vec_len c.args.chunks.now ≡ length old = search rules in
    c.loop-i.invariant.is ∙ ended (filter (is_of_another c.args.owner.now)) old c.loop-i.i (omega (arith, c.loop-i-test.false, c.len-i-end.ensures, len))

pub returns-clause-count : goal.returns-clause-count
returns-clause-count c = c.loop-i.invariant.count
