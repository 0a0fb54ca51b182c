use Rattle.std.proofs.Common.{◌≡◌, ℕ, ◌+◌, ◌-◌, ◌<◌, List, [], get_or, length, sym, ◌∙◌, ap, subst, arith}
use Rattle.std.specs.Prelude.{max, slice_set}
use Rattle.std.proofs.lemmas.List.{get_or-set_same, length-set}
use Rattle.opam_names.specs.Buffers.{Buffered}
use Rattle.opam_names.specs.ByteOrders.{RisesBy, put_by}
use Rattle.owner_map.specs.Chunks.{AreChunks, chunk_for, joined, split_off}
use Rattle.owner_map.specs.declared.chunk.TheConstants.{CHUNK_LIMIT}
use Rattle.owner_map.proofs.Chunking.{chunk_rises, shaped_short}
use Rattle.owner_map.proofs.Keeping.{IsPlacedAt, kept, last_empty, length_put, placed, put_at_chunk, split_joined, split_kept}
use Rattle.owner_map.proofs.Splitting.{chunk_is}
use Rattle.owner_map.proofs.sorted_list.SortedList.put.Goals as goal

pub put-requires-clause-room : goal.put-requires-clause-room
put-requires-clause-room g c =
    let key = g.T.ByteKey.key in
    let item = c.args.item in
    let cs = c.self.inside.chunks.items in
    let used = c.self.inside.used in
    let at = c.chunk_for-at.result in
    let own : joined cs ≡ c.args.self.now.items = ap (λ (b : Buffered g.row.T.Denot). b.items) c.self.view_is in
    let own-room : c.self.inside.room ≡ c.args.self.now.room = ap (λ (b : Buffered g.row.T.Denot). b.room) c.self.view_is in
    let some : 0 < c.self.inside.room = omega (arith, c.requires.room, own-room) in
    let U : List g.row.T.Denot → Type 0 = λ xs. RisesBy key xs in
    let up : RisesBy key (joined cs) = subst U (sym own) c.requires.rises in
    let at-is : at ≡ chunk_for key (key item) used cs =
    c.chunk_for-at.ensures ∙ ap (λ k. chunk_for key k used c.as_slice.result.now) c.key.ensures ∙ ap (λ (l : List (List g.row.T.Denot)). chunk_for key (key item) used l) c.as_slice.ensures.value in
    let place : IsPlacedAt key item cs used at = placed key item cs used c.self.inside.len c.self.inside.room at c.self.invariant some up at-is in
    let chunk : c.index_mut.result.now ≡ get_or cs at [] = chunk_is cs at c.index_mut.result.now place.inside c.index_mut.ensures.value in
    omega (arith, ap length chunk, shaped_short used cs at c.self.invariant.shaped)

pub put-requires-clause-rises : goal.put-requires-clause-rises
put-requires-clause-rises g c =
    let key = g.T.ByteKey.key in
    let item = c.args.item in
    let cs = c.self.inside.chunks.items in
    let used = c.self.inside.used in
    let at = c.chunk_for-at.result in
    let own : joined cs ≡ c.args.self.now.items = ap (λ (b : Buffered g.row.T.Denot). b.items) c.self.view_is in
    let own-room : c.self.inside.room ≡ c.args.self.now.room = ap (λ (b : Buffered g.row.T.Denot). b.room) c.self.view_is in
    let some : 0 < c.self.inside.room = omega (arith, c.requires.room, own-room) in
    let U : List g.row.T.Denot → Type 0 = λ xs. RisesBy key xs in
    let up : RisesBy key (joined cs) = subst U (sym own) c.requires.rises in
    let at-is : at ≡ chunk_for key (key item) used cs =
    c.chunk_for-at.ensures ∙ ap (λ k. chunk_for key k used c.as_slice.result.now) c.key.ensures ∙ ap (λ (l : List (List g.row.T.Denot)). chunk_for key (key item) used l) c.as_slice.ensures.value in
    let place : IsPlacedAt key item cs used at = placed key item cs used c.self.inside.len c.self.inside.room at c.self.invariant some up at-is in
    let chunk : c.index_mut.result.now ≡ get_or cs at [] = chunk_is cs at c.index_mut.result.now place.inside c.index_mut.ensures.value in
    subst U (sym chunk) (chunk_rises key cs at up)

pub split-requires-clause-empty : goal.split-requires-clause-empty
split-requires-clause-empty g c =
    let key = g.T.ByteKey.key in
    let item = c.args.item in
    let cs = c.self.inside.chunks.items in
    let used = c.self.inside.used in
    let at = c.chunk_for-at.result in
    let own : joined cs ≡ c.args.self.now.items = ap (λ (b : Buffered g.row.T.Denot). b.items) c.self.view_is in
    let own-room : c.self.inside.room ≡ c.args.self.now.room = ap (λ (b : Buffered g.row.T.Denot). b.room) c.self.view_is in
    let some : 0 < c.self.inside.room = omega (arith, c.requires.room, own-room) in
    let U : List g.row.T.Denot → Type 0 = λ xs. RisesBy key xs in
    let up : RisesBy key (joined cs) = subst U (sym own) c.requires.rises in
    let at-is : at ≡ chunk_for key (key item) used cs =
    c.chunk_for-at.ensures ∙ ap (λ k. chunk_for key k used c.as_slice.result.now) c.key.ensures ∙ ap (λ (l : List (List g.row.T.Denot)). chunk_for key (key item) used l) c.as_slice.ensures.value in
    let place : IsPlacedAt key item cs used at = placed key item cs used c.self.inside.len c.self.inside.room at c.self.invariant some up at-is in
    let chunk : c.index_mut.result.now ≡ get_or cs at [] = chunk_is cs at c.index_mut.result.now place.inside c.index_mut.ensures.value in
    let new : put_at_chunk key item cs at ≡ c.put.new.self = sym (c.put.ensures ∙ ap (put_by key item) chunk) in
    let size : c.len-size.result ≡ length (put_at_chunk key item cs at) =
    c.len-size.ensures ∙ ap length (c.index.ensures ∙ get_or-set_same cs at c.put.new.self c.index.result.now place.inside ∙ sym new) in
    let P : List g.row.T.Denot → Type 0 = λ d. length (get_or (slice_set cs at d) (length (slice_set cs at d) - 1) []) ≡ 0 in
    let here : length (get_or (slice_set cs at (put_at_chunk key item cs at)) (length (slice_set cs at (put_at_chunk key item cs at)) - 1) []) ≡ 0 =
    ap (λ n. length (get_or (slice_set cs at (put_at_chunk key item cs at)) (n - 1) [])) (length-set cs at (put_at_chunk key item cs at)) ∙ last_empty key item cs used c.self.inside.len c.self.inside.room at c.self.invariant place in
    subst P new here

pub invariant_of-self : goal.invariant_of-self
invariant_of-self g c =
    let key = g.T.ByteKey.key in
    let item = c.args.item in
    let cs = c.self.inside.chunks.items in
    let used = c.self.inside.used in
    let at = c.chunk_for-at.result in
    let own : joined cs ≡ c.args.self.now.items = ap (λ (b : Buffered g.row.T.Denot). b.items) c.self.view_is in
    let own-room : c.self.inside.room ≡ c.args.self.now.room = ap (λ (b : Buffered g.row.T.Denot). b.room) c.self.view_is in
    let some : 0 < c.self.inside.room = omega (arith, c.requires.room, own-room) in
    let U : List g.row.T.Denot → Type 0 = λ xs. RisesBy key xs in
    let up : RisesBy key (joined cs) = subst U (sym own) c.requires.rises in
    let at-is : at ≡ chunk_for key (key item) used cs =
    c.chunk_for-at.ensures ∙ ap (λ k. chunk_for key k used c.as_slice.result.now) c.key.ensures ∙ ap (λ (l : List (List g.row.T.Denot)). chunk_for key (key item) used l) c.as_slice.ensures.value in
    let place : IsPlacedAt key item cs used at = placed key item cs used c.self.inside.len c.self.inside.room at c.self.invariant some up at-is in
    let chunk : c.index_mut.result.now ≡ get_or cs at [] = chunk_is cs at c.index_mut.result.now place.inside c.index_mut.ensures.value in
    let new : put_at_chunk key item cs at ≡ c.put.new.self = sym (c.put.ensures ∙ ap (put_by key item) chunk) in
    let size : c.len-size.result ≡ length (put_at_chunk key item cs at) =
    c.len-size.ensures ∙ ap length (c.index.ensures ∙ get_or-set_same cs at c.put.new.self c.index.result.now place.inside ∙ sym new) in
    let full : length (put_at_chunk key item cs at) ≡ CHUNK_LIMIT = omega (arith, size, c.if-size-eq-CHUNK_LIMIT.true) in
    let P : List g.row.T.Denot → Type 0 = λ d. AreChunks (split_off at (slice_set cs at d)) (max used 1 + 1) (c.self.inside.len + 1) (c.self.inside.room - 1) in
    let Q : List (List g.row.T.Denot) → Type 0 = λ l. AreChunks l (max used 1 + 1) (c.self.inside.len + 1) (c.self.inside.room - 1) in
    let R : ℕ → Type 0 = λ n. AreChunks c.split.new.chunks.items (n + 1) (c.self.inside.len + 1) (c.self.inside.room - 1) in
    subst R (sym c.max-self-inside.ensures) (subst Q (sym c.split.ensures) (subst P new (split_kept key item cs used c.self.inside.len c.self.inside.room at c.self.invariant some place full)))

pub invariant_of-self-else-size-eq-CHUNK_LIMIT : goal.invariant_of-self-else-size-eq-CHUNK_LIMIT
invariant_of-self-else-size-eq-CHUNK_LIMIT g c =
    let key = g.T.ByteKey.key in
    let item = c.args.item in
    let cs = c.self.inside.chunks.items in
    let used = c.self.inside.used in
    let at = c.chunk_for-at.result in
    let own : joined cs ≡ c.args.self.now.items = ap (λ (b : Buffered g.row.T.Denot). b.items) c.self.view_is in
    let own-room : c.self.inside.room ≡ c.args.self.now.room = ap (λ (b : Buffered g.row.T.Denot). b.room) c.self.view_is in
    let some : 0 < c.self.inside.room = omega (arith, c.requires.room, own-room) in
    let U : List g.row.T.Denot → Type 0 = λ xs. RisesBy key xs in
    let up : RisesBy key (joined cs) = subst U (sym own) c.requires.rises in
    let at-is : at ≡ chunk_for key (key item) used cs =
    c.chunk_for-at.ensures ∙ ap (λ k. chunk_for key k used c.as_slice.result.now) c.key.ensures ∙ ap (λ (l : List (List g.row.T.Denot)). chunk_for key (key item) used l) c.as_slice.ensures.value in
    let place : IsPlacedAt key item cs used at = placed key item cs used c.self.inside.len c.self.inside.room at c.self.invariant some up at-is in
    let chunk : c.index_mut.result.now ≡ get_or cs at [] = chunk_is cs at c.index_mut.result.now place.inside c.index_mut.ensures.value in
    let new : put_at_chunk key item cs at ≡ c.put.new.self = sym (c.put.ensures ∙ ap (put_by key item) chunk) in
    let size : c.len-size.result ≡ length (put_at_chunk key item cs at) =
    c.len-size.ensures ∙ ap length (c.index.ensures ∙ get_or-set_same cs at c.put.new.self c.index.result.now place.inside ∙ sym new) in
    let old-short = shaped_short used cs at c.self.invariant.shaped in
    let short : length (put_at_chunk key item cs at) < CHUNK_LIMIT = omega (arith, size, c.if-size-eq-CHUNK_LIMIT.false, old-short, length_put key item (get_or cs at [])) in
    let P : List g.row.T.Denot → Type 0 = λ d. AreChunks (slice_set cs at d) (max used 1) (c.self.inside.len + 1) (c.self.inside.room - 1) in
    let R : ℕ → Type 0 = λ n. AreChunks (slice_set cs at c.put.new.self) n (c.self.inside.len + 1) (c.self.inside.room - 1) in
    subst R (sym c.max-self-inside.ensures) (subst P new (kept key item cs used c.self.inside.len c.self.inside.room at c.self.invariant some place short))

pub returns-then-size-eq-CHUNK_LIMIT-clause-items : goal.returns-then-size-eq-CHUNK_LIMIT-clause-items
returns-then-size-eq-CHUNK_LIMIT-clause-items g c =
    let key = g.T.ByteKey.key in
    let item = c.args.item in
    let cs = c.self.inside.chunks.items in
    let used = c.self.inside.used in
    let at = c.chunk_for-at.result in
    let own : joined cs ≡ c.args.self.now.items = ap (λ (b : Buffered g.row.T.Denot). b.items) c.self.view_is in
    let own-room : c.self.inside.room ≡ c.args.self.now.room = ap (λ (b : Buffered g.row.T.Denot). b.room) c.self.view_is in
    let some : 0 < c.self.inside.room = omega (arith, c.requires.room, own-room) in
    let U : List g.row.T.Denot → Type 0 = λ xs. RisesBy key xs in
    let up : RisesBy key (joined cs) = subst U (sym own) c.requires.rises in
    let at-is : at ≡ chunk_for key (key item) used cs =
    c.chunk_for-at.ensures ∙ ap (λ k. chunk_for key k used c.as_slice.result.now) c.key.ensures ∙ ap (λ (l : List (List g.row.T.Denot)). chunk_for key (key item) used l) c.as_slice.ensures.value in
    let place : IsPlacedAt key item cs used at = placed key item cs used c.self.inside.len c.self.inside.room at c.self.invariant some up at-is in
    let chunk : c.index_mut.result.now ≡ get_or cs at [] = chunk_is cs at c.index_mut.result.now place.inside c.index_mut.ensures.value in
    let new : put_at_chunk key item cs at ≡ c.put.new.self = sym (c.put.ensures ∙ ap (put_by key item) chunk) in
    let size : c.len-size.result ≡ length (put_at_chunk key item cs at) =
    c.len-size.ensures ∙ ap length (c.index.ensures ∙ get_or-set_same cs at c.put.new.self c.index.result.now place.inside ∙ sym new) in
    let full : length (put_at_chunk key item cs at) ≡ CHUNK_LIMIT = omega (arith, size, c.if-size-eq-CHUNK_LIMIT.true) in
    ap joined c.split.ensures ∙ ap (λ d. joined (split_off at (slice_set cs at d))) (sym new)
    ∙ split_joined key item cs used c.self.inside.len c.self.inside.room at c.self.invariant place full ∙ ap (put_by key item) own

pub returns-else-size-eq-CHUNK_LIMIT-clause-items : goal.returns-else-size-eq-CHUNK_LIMIT-clause-items
returns-else-size-eq-CHUNK_LIMIT-clause-items g c =
    let key = g.T.ByteKey.key in
    let item = c.args.item in
    let cs = c.self.inside.chunks.items in
    let used = c.self.inside.used in
    let at = c.chunk_for-at.result in
    let own : joined cs ≡ c.args.self.now.items = ap (λ (b : Buffered g.row.T.Denot). b.items) c.self.view_is in
    let own-room : c.self.inside.room ≡ c.args.self.now.room = ap (λ (b : Buffered g.row.T.Denot). b.room) c.self.view_is in
    let some : 0 < c.self.inside.room = omega (arith, c.requires.room, own-room) in
    let U : List g.row.T.Denot → Type 0 = λ xs. RisesBy key xs in
    let up : RisesBy key (joined cs) = subst U (sym own) c.requires.rises in
    let at-is : at ≡ chunk_for key (key item) used cs =
    c.chunk_for-at.ensures ∙ ap (λ k. chunk_for key k used c.as_slice.result.now) c.key.ensures ∙ ap (λ (l : List (List g.row.T.Denot)). chunk_for key (key item) used l) c.as_slice.ensures.value in
    let place : IsPlacedAt key item cs used at = placed key item cs used c.self.inside.len c.self.inside.room at c.self.invariant some up at-is in
    let chunk : c.index_mut.result.now ≡ get_or cs at [] = chunk_is cs at c.index_mut.result.now place.inside c.index_mut.ensures.value in
    let new : put_at_chunk key item cs at ≡ c.put.new.self = sym (c.put.ensures ∙ ap (put_by key item) chunk) in
    let size : c.len-size.result ≡ length (put_at_chunk key item cs at) =
    c.len-size.ensures ∙ ap length (c.index.ensures ∙ get_or-set_same cs at c.put.new.self c.index.result.now place.inside ∙ sym new) in
    ap (λ d. joined (slice_set cs at d)) (sym new) ∙ place.puts ∙ ap (put_by key item) own
