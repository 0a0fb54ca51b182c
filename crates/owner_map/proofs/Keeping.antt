-- What stays true of the chunks of a list where an element is put in.
use Rattle.std.proofs.Common.{◌≡◌, ℕ, zero, suc, ◌+◌, ◌-◌, ◌<◌, ◌≤◌, Bool, true, false, List, [], ◌∷◌, length, get_or, refl, sym, ◌∙◌, ap, subst, arith}
use Rattle.std.specs.Prelude.{min, max, slice_set, if◌then◌else◌}
use Rattle.std.proofs.lemmas.List.{get_or-set_other, length-set}
use Rattle.opam_names.specs.ByteOrders.{RisesBy, precedes, put_by}
use Rattle.owner_map.specs.Chunks.{AreChunks, Shaped, chunk_for, chunk_from, debt, joined, split_off}
use Rattle.owner_map.specs.declared.chunk.TheConstants.{CHUNK_LIMIT, CHUNK_HALF}
use Rattle.owner_map.proofs.Chunking.{PutsAt, empty_at, put_first, put_shaped, shaped_empty}
use Rattle.owner_map.proofs.Splitting.{debt_set, shaped_first, shaped_set, splits}

module _ {X : Type 0} where
  debt_at : (cs : List (List X)) (at : ℕ) → length (get_or cs at []) - CHUNK_HALF ≤ debt cs
  debt_at [] at = omega arith
  debt_at (c ∷ cs) zero = omega arith
  debt_at (c ∷ cs) (suc at) = omega (arith, debt_at cs at)

module _ {X : Type 0} (key : X → List ℕ) where
  length_put_by : (item x : X) (xs : List X) (b : Bool) → length (put_by key item xs) ≡ suc (length xs) → length (if b then x ∷ put_by key item xs else item ∷ x ∷ xs) ≡ suc (suc (length xs))
  length_put_by item x xs true later = ap suc later
  length_put_by item x xs false later = refl

  pub length_put : (item : X) (xs : List X) → length (put_by key item xs) ≡ suc (length xs)
  length_put item [] = refl
  length_put item (x ∷ xs) = length_put_by item x xs (precedes (key x) (key item)) (length_put item xs)

  abbrev pub put_at_chunk : X → List (List X) → ℕ → List X
  put_at_chunk item cs at = put_by key item (get_or cs at [])

  -- where an element is put
  pub record IsPlacedAt (item : X) (cs : List (List X)) (used at : ℕ) : Type 0 where
    pub inside : at < length cs
    pub used_too : at < max used 1
    pub free : max used 1 < length cs
    pub puts : PutsAt key item cs at

  pub placed : (item : X) (cs : List (List X)) (used len room : ℕ) (at : ℕ) → AreChunks cs used len room → 0 < room → RisesBy key (joined cs) → at ≡ chunk_for key (key item) used cs → IsPlacedAt item cs used at
  placed item cs zero len room at are some up is =
      let first : 0 ≡ at = omega (arith, is) in
      let long : 1 < length cs = omega (arith, are.roomy, some) in
      record {
        inside = omega (arith, first, long);
        used_too = omega (arith, first);
        free = omega (arith, long);
        puts = subst (λ (m : ℕ). PutsAt key item cs m) first (put_first key item cs are.shaped (omega (arith, long)));
      }
  placed item cs (suc n) len room at are some up is =
      let long : suc n < length cs = omega (arith, are.roomy, some) in
      let place : at ≡ min (chunk_from key (key item) cs) n = omega (arith, is) in
      record {
        inside = omega (arith, place, long);
        used_too = omega (arith, place);
        free = omega (arith, long);
        puts = put_shaped key item n cs at are.shaped up place;
      }

  shaped_put : (item : X) (cs : List (List X)) (used at : ℕ) → Shaped used cs → at < max used 1 → 0 < length cs → length (put_at_chunk item cs at) < CHUNK_LIMIT → Shaped (max used 1) (slice_set cs at (put_at_chunk item cs at))
  shaped_put item cs zero at shaped within some short =
      let first : 0 ≡ at = omega (arith, within) in
      let P : ℕ → Type 0 = λ m. Shaped (max 0 1) (slice_set cs m (put_at_chunk item cs m)) in
      let one : 1 ≡ max 0 1 = omega arith in
      let there : length (put_at_chunk item cs 0) < CHUNK_LIMIT = let Q : ℕ → Type 0 = λ m. length (put_at_chunk item cs m) < CHUNK_LIMIT in subst Q (sym first) short in
      let Q : ℕ → Type 0 = λ m. Shaped m (slice_set cs 0 (put_at_chunk item cs 0)) in
      subst P first (subst Q one (shaped_first cs (put_at_chunk item cs 0) shaped some (omega (arith, length_put item (get_or cs 0 []))) there))
  shaped_put item cs (suc n) at shaped within some short =
      let one : suc n ≡ max (suc n) 1 = omega arith in
      let Q : ℕ → Type 0 = λ m. Shaped m (slice_set cs at (put_at_chunk item cs at)) in
      subst Q one (shaped_set (suc n) cs at (put_at_chunk item cs at) shaped (omega (arith, within)) (omega (arith, length_put item (get_or cs at []))) short)

  counted_put : (item : X) (cs : List (List X)) (at len : ℕ) → PutsAt key item cs at → len ≡ length (joined cs) → len + 1 ≡ length (joined (slice_set cs at (put_at_chunk item cs at)))
  counted_put item cs at len puts counted = omega (arith, counted, ap length puts, length_put item (joined cs))

  -- no chunk is full
  pub kept : (item : X) (cs : List (List X)) (used len room at : ℕ) → AreChunks cs used len room → 0 < room → IsPlacedAt item cs used at → length (put_at_chunk item cs at) < CHUNK_LIMIT
      → AreChunks (slice_set cs at (put_at_chunk item cs at)) (max used 1) (len + 1) (room - 1)
  kept item cs used len room at are some place short =
      let new = put_at_chunk item cs at in
      record {
        shaped = shaped_put item cs used at are.shaped place.used_too (omega (arith, place.inside)) short;
        counted = counted_put item cs at len place.puts are.counted;
        bounded = omega (arith, are.bounded, some);
        roomy = omega (arith, are.roomy, some, debt_set cs at new place.inside, length_put item (get_or cs at []), length-set cs at new);
      }

  full_used : (item : X) (cs : List (List X)) (used at : ℕ) → Shaped used cs → length (put_at_chunk item cs at) ≡ CHUNK_LIMIT → 0 < used
  full_used item cs zero at shaped full = absurd (omega (arith, full, length_put item (get_or cs at []), empty_at cs at shaped))
  full_used item cs (suc n) at shaped full = omega arith

  -- a chunk was full, and is split
  pub split_kept : (item : X) (cs : List (List X)) (used len room at : ℕ) → AreChunks cs used len room → 0 < room → IsPlacedAt item cs used at → length (put_at_chunk item cs at) ≡ CHUNK_LIMIT
      → AreChunks (split_off at (slice_set cs at (put_at_chunk item cs at))) (max used 1 + 1) (len + 1) (room - 1)
  split_kept item cs zero len room at are some place full = let none = full_used item cs zero at are.shaped full in absurd (omega (arith, none))
  split_kept item cs (suc n) len room at are some place full =
      let new = put_at_chunk item cs at in
      let more : suc n < length cs = omega (arith, place.free) in
      let within : at < suc n = omega (arith, place.used_too) in
      let apart = splits (suc n) cs at new are.shaped within more full in
      let one : suc (suc n) ≡ max (suc n) 1 + 1 = omega arith in
      let Q : ℕ → Type 0 = λ m. Shaped m (split_off at (slice_set cs at new)) in
      record {
        shaped = subst Q one apart.shaped;
        counted = counted_put item cs at len place.puts are.counted ∙ ap length (sym apart.joins);
        bounded = omega (arith, are.bounded, some);
        roomy = omega (arith, are.roomy, some, apart.debts, apart.lengths, full, length_put item (get_or cs at []), more, debt_at cs at);
      }

  pub split_joined : (item : X) (cs : List (List X)) (used len room at : ℕ) → AreChunks cs used len room → IsPlacedAt item cs used at → length (put_at_chunk item cs at) ≡ CHUNK_LIMIT
      → joined (split_off at (slice_set cs at (put_at_chunk item cs at))) ≡ put_by key item (joined cs)
  split_joined item cs zero len room at are place full = let none = full_used item cs zero at are.shaped full in absurd (omega (arith, none))
  split_joined item cs (suc n) len room at are place full =
      let apart = splits (suc n) cs at (put_at_chunk item cs at) are.shaped (omega (arith, place.used_too)) (omega (arith, place.free)) full in
      apart.joins ∙ place.puts

  -- the last chunk is still empty then
  pub last_empty : (item : X) (cs : List (List X)) (used len room at : ℕ) → AreChunks cs used len room → IsPlacedAt item cs used at
      → length (get_or (slice_set cs at (put_at_chunk item cs at)) (length cs - 1) []) ≡ 0
  last_empty item cs used len room at are place =
      let other : get_or (slice_set cs at (put_at_chunk item cs at)) (length cs - 1) [] ≡ get_or cs (length cs - 1) [] =
      get_or-set_other cs at (length cs - 1) (put_at_chunk item cs at) [] (λ same. absurd (omega (arith, same, place.used_too, place.free))) in
      ap length other ∙ shaped_empty used cs (length cs - 1) are.shaped (omega (arith, place.free))
