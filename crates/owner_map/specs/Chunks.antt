-- A list that is kept in chunks. Words of this crate's own proofs: no public clause cites them.
use Rattle.std.specs.Prelude.{◌≡◌, ℕ, zero, suc, ◌+◌, ◌-◌, ◌*◌, ◌^◌, ◌<◌, ◌≤◌, List, [], ◌∷◌, ◌++◌, length, min, max, take, drop, Bool, false}
use Rattle.std.specs.List.{AllByRecursion, prefix_len}
use Rattle.opam_names.specs.ByteOrders.{precedes}
use Rattle.owner_map.specs.declared.chunk.TheConstants.{CHUNK_LIMIT, CHUNK_HALF}

-- the chunks in a row
abbrev pub joined : {X : Type 0} → List (List X) → List X
joined [] = []
joined (c ∷ cs) = c ++ joined cs

abbrev pub AllEmpty : {X : Type 0} → List (List X) → Type 0
AllEmpty cs = AllByRecursion (λ c. length c ≡ 0) cs

-- the first n have elements, and room for one more; the others are empty
abbrev pub Shaped : {X : Type 0} → ℕ → List (List X) → Type 0
Shaped zero cs = AllEmpty cs
Shaped (suc n) [] = ⊥
Shaped (suc n) (c ∷ cs) = (0 < length c) × (length c < CHUNK_LIMIT) × Shaped n cs

abbrev pub AllShort : {X : Type 0} → List (List X) → Type 0
AllShort cs = AllByRecursion (λ c. length c < CHUNK_LIMIT) cs

-- the elements beyond the half of each chunk: so many may have come nearer to a split than a half is
abbrev pub debt : {X : Type 0} → List (List X) → ℕ
debt [] = 0
debt (c ∷ cs) = (length c - CHUNK_HALF) + debt cs

-- each split takes an empty chunk, and comes after at least a half's additions beyond the debt; the first addition to no
-- elements takes one, too
abbrev pub IsRoomFor : {X : Type 0} → List (List X) → ℕ → ℕ → Type 0
IsRoomFor chunks used room = debt chunks + room ≤ (length chunks - max used 1) * CHUNK_HALF

-- what is always true of the chunks of a list
pub record AreChunks {X : Type 0} (chunks : List (List X)) (used len room : ℕ) : Type 0 where
  pub shaped : Shaped used chunks
  pub counted : len ≡ length (joined chunks)
  pub bounded : len + room < 2 ^ 64
  pub roomy : IsRoomFor chunks used room

-- the last element of the chunk stands before the text
abbrev pub ends_before : {X : Type 0} → (X → List ℕ) → List ℕ → List X → Bool
ends_before key text [] = false
ends_before key text (x ∷ []) = precedes (key x) text
ends_before key text (x ∷ y ∷ ys) = ends_before key text (y ∷ ys)

-- the chunk in which the first element stands that does not stand before the text
abbrev pub chunk_from : {X : Type 0} → (X → List ℕ) → List ℕ → List (List X) → ℕ
chunk_from key text chunks = prefix_len (ends_before key text) chunks

-- the chunk into which an element with this key is put: that one, or the last that has elements
abbrev pub chunk_for : {X : Type 0} → (X → List ℕ) → List ℕ → ℕ → List (List X) → ℕ
chunk_for key text used chunks = min (chunk_from key text chunks) (used - 1)

-- all but the last
abbrev pub without_last : {X : Type 0} → List X → List X
without_last [] = []
without_last (x ∷ []) = []
without_last (x ∷ y ∷ ys) = x ∷ without_last (y ∷ ys)

-- the upper half of a chunk in a place of its own, and the last chunk away
abbrev pub split_off : {X : Type 0} → ℕ → List (List X) → List (List X)
split_off at [] = []
split_off zero (c ∷ cs) = take CHUNK_HALF c ∷ drop CHUNK_HALF c ∷ without_last cs
split_off (suc at) (c ∷ cs) = c ∷ split_off at cs
