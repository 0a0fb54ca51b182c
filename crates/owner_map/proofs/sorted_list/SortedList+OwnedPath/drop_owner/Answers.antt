use Rattle.std.proofs.Common.{◌≡◌, List, filter, drop, length, sym, ◌∙◌, ap, subst, arith}
use Rattle.std.proofs.lemmas.List.{length-map}
use Rattle.opam_names.specs.Buffers.{Buffered}
use Rattle.owner_map.specs.Chunks.{AllEmpty, AllShort, debt, joined}
use Rattle.owner_map.specs.Owning.{is_of_another}
use Rattle.owner_map.specs.declared.owned.OwnedPath.{OwnedPath}
use Rattle.owner_map.proofs.Chunking.{shaped_within}
use Rattle.owner_map.proofs.Splitting.{debt_filter, empty_filter, joined_filter, short_filter}
use Rattle.owner_map.proofs.sorted_list.SortedList+OwnedPath.drop_owner.Goals as goal

pub gather-self-inside-requires-clause-short : goal.gather-self-inside-requires-clause-short
gather-self-inside-requires-clause-short c =
    let test = is_of_another c.args.owner.now in
    let cs = c.self.inside.chunks.items in
    let used = c.self.inside.used in
    let items = c.drop_from_each-count.ensures.items in
    let P : List (List OwnedPath) → Type 0 = λ l. AllShort l in
    subst P (sym items) (short_filter test used cs c.self.invariant.shaped)

pub gather-self-inside-requires-clause-empty : goal.gather-self-inside-requires-clause-empty
gather-self-inside-requires-clause-empty c =
    let test = is_of_another c.args.owner.now in
    let cs = c.self.inside.chunks.items in
    let used = c.self.inside.used in
    let items = c.drop_from_each-count.ensures.items in
    let P : List (List OwnedPath) → Type 0 = λ l. AllEmpty (drop used l) in
    subst P (sym items) (empty_filter test used cs c.self.invariant.shaped)

pub gather-self-inside-requires-clause-within : goal.gather-self-inside-requires-clause-within
gather-self-inside-requires-clause-within c =
    let test = is_of_another c.args.owner.now in
    let cs = c.self.inside.chunks.items in
    let used = c.self.inside.used in
    let items = c.drop_from_each-count.ensures.items in
    omega (arith, ap length items, length-map cs (filter test), shaped_within used cs c.self.invariant.shaped)

pub invariant_of-self : goal.invariant_of-self
invariant_of-self c =
    let test = is_of_another c.args.owner.now in
    let cs = c.self.inside.chunks.items in
    let used = c.self.inside.used in
    let items = c.drop_from_each-count.ensures.items in
    record {
      shaped = c.gather-self-inside.ensures.shaped;
      counted = omega (arith, ap length c.gather-self-inside.ensures.joined, c.drop_from_each-count.ensures.count, c.self.invariant.counted);
      bounded = omega (arith, c.self.invariant.bounded);
      roomy = omega (arith, c.self.invariant.roomy, c.gather-self-inside.ensures.debt, c.gather-self-inside.ensures.less, c.gather-self-inside.ensures.length, ap debt items, debt_filter test cs, ap length items, length-map cs (filter test));
    }

pub returns-clause-items : goal.returns-clause-items
returns-clause-items c =
    let test = is_of_another c.args.owner.now in
    let cs = c.self.inside.chunks.items in
    let used = c.self.inside.used in
    let items = c.drop_from_each-count.ensures.items in
    let own : joined cs ≡ c.args.self.now.items = ap (λ (b : Buffered OwnedPath). b.items) c.self.view_is in
    c.gather-self-inside.ensures.joined ∙ ap joined items ∙ joined_filter test cs ∙ ap (filter test) own
