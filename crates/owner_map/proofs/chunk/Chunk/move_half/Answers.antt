use Rattle.std.proofs.Common.{◌≡◌, ◌+◌, [], ◌∷◌, ◌++◌, length, take, drop, Option, sym, ◌∙◌, ap, subst, arith, append_assoc, rules}
use Rattle.std.specs.Prelude.{MatchOption}
use Rattle.std.specs.Vec.{vec_len}
use Rattle.std.proofs.lemmas.List.{length-append, take_at}
use Rattle.owner_map.specs.declared.chunk.TheConstants.{CHUNK_HALF}
use Rattle.owner_map.proofs.Splitting.{append_none, drop_all}
use Rattle.owner_map.proofs.chunk.Chunk.move_half.Goals.{in-Some, in-None}
use Rattle.owner_map.proofs.chunk.Chunk.move_half.Goals as goal

pub loop-init : goal.loop-init
loop-init g c = record {
  joins = append_none c.self.inside.inner.items c.args.other.now c.requires.empty ∙ c.self.view_is;
  count = c.requires.empty;
  room = c.self.invariant;
}

pub insert-requires-clause-room : goal.insert-requires-clause-room
insert-requires-clause-room g c = omega (arith, c.loop.invariant.count, c.loop-test.true)

pub loop-preserved : goal.loop-preserved
loop-preserved g c = elim c.match-pop.branch [
  | in-Some w ↦
      let new = w.other-is ∙ w.insert.ensures in
      record {
        joins =
            ap (λ l. c.pop.new.self.items ++ l) new ∙ sym (append_assoc c.pop.new.self.items (w.in-Some.item ∷ []) c.loop.other)
            ∙ ap (λ l. l ++ c.loop.other) (sym w.in-Some.ensures.items) ∙ c.loop.invariant.joins;
        count = omega (arith, ap length new, c.loop.invariant.count);
        room = omega (arith, c.pop.ensures.capacity, c.loop.invariant.room);
      }
  | in-None w ↦
      let len : vec_len c.loop.self-inside.inner ≡ length c.loop.self-inside.inner.items = search rules in
      let P : Option g.row.T.Denot → Type 0 = λ o. MatchOption o ((vec_len c.loop.self-inside.inner ≡ 0) × (vec_len c.pop.new.self ≡ 0)) (λ _. vec_len c.pop.new.self + 1 ≡ vec_len c.loop.self-inside.inner) in
      let none = subst P w.in-None.is c.pop.ensures.cases in
      absurd (omega (arith, none.0, len, ap length c.loop.invariant.joins, length-append c.loop.self-inside.inner.items c.loop.other, c.requires.full, c.loop.invariant.count, c.loop-test.true))
]

pub returns-clause-kept : goal.returns-clause-kept
returns-clause-kept g c =
    let items = c.loop.self-inside.inner.items in
    let half : length items ≡ CHUNK_HALF =
    omega (arith, ap length c.loop.invariant.joins, length-append items c.loop.other, c.requires.full, c.loop.invariant.count, c.loop-test.false, c.loop.auto.counter-end) in
    sym (ap (take CHUNK_HALF) (sym c.loop.invariant.joins) ∙ take_at items c.loop.other CHUNK_HALF half)

pub returns-clause-moved : goal.returns-clause-moved
returns-clause-moved g c =
    let items = c.loop.self-inside.inner.items in
    let half : length items ≡ CHUNK_HALF =
    omega (arith, ap length c.loop.invariant.joins, length-append items c.loop.other, c.requires.full, c.loop.invariant.count, c.loop-test.false, c.loop.auto.counter-end) in
    sym (ap (drop CHUNK_HALF) (sym c.loop.invariant.joins) ∙ drop_all items c.loop.other CHUNK_HALF half)
