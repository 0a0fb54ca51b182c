-- Chunks that are changed, split, emptied and moved.
use Rattle.std.proofs.Common.{◌≡◌, ℕ, zero, suc, ◌+◌, ◌-◌, ◌<◌, ◌≤◌, Bool, true, false, List, [], ◌∷◌, ◌++◌, map, filter, length, take, drop, get_or, insert, refl, sym, ◌∙◌, ap, subst, cond, arith, append_assoc}
use Rattle.std.specs.Prelude.{slice_get, slice_set}
use Rattle.std.specs.List.{AllByRecursion, swap}
use Rattle.std.proofs.lemmas.List.{append-nil, get_or_default, length-append, length-drop, length-map, length-take, map-append, take_more, take-append-drop}
use Rattle.std.proofs.lemmas.List.Elements.{filter-append}
use Rattle.opam_names.specs.declared.packages.Pkg.{Pkg}
use Rattle.owner_map.specs.Chunks.{AllEmpty, AllShort, Shaped, debt, joined, split_off, without_last}
use Rattle.owner_map.specs.Owning.{is_owned_by, path_of, paths_of, paths_owned_by}
use Rattle.owner_map.specs.declared.chunk.TheConstants.{CHUNK_LIMIT, CHUNK_HALF}
use Rattle.owner_map.specs.declared.owned.OwnedPath.{OwnedPath}

module _ {X : Type 0} where
  -- ---- one chunk changed

  pub shaped_set : (n : ℕ) (cs : List (List X)) (at : ℕ) (d : List X) → Shaped n cs → at < n → 0 < length d → length d < CHUNK_LIMIT → Shaped n (slice_set cs at d)
  shaped_set zero cs at d shaped within some short = absurd (omega (arith, within))
  shaped_set (suc n) [] at d shaped within some short = absurd shaped
  shaped_set (suc n) (c ∷ cs) zero d shaped within some short = (some, short, shaped.2)
  shaped_set (suc n) (c ∷ cs) (suc at) d shaped within some short = (shaped.0, shaped.1, shaped_set n cs at d shaped.2 (omega (arith, within)) some short)

  pub shaped_first : (cs : List (List X)) (d : List X) → AllEmpty cs → 0 < length cs → 0 < length d → length d < CHUNK_LIMIT → Shaped 1 (slice_set cs 0 d)
  shaped_first [] d empty within some short = absurd (omega (arith, within))
  shaped_first (c ∷ cs) d empty within some short = (some, short, empty.1)

  pub debt_set : (cs : List (List X)) (at : ℕ) (d : List X) → at < length cs → debt (slice_set cs at d) + (length (get_or cs at []) - CHUNK_HALF) ≡ debt cs + (length d - CHUNK_HALF)
  debt_set [] at d within = absurd (omega (arith, within))
  debt_set (c ∷ cs) zero d within = omega arith
  debt_set (c ∷ cs) (suc at) d within = omega (arith, debt_set cs at d (omega (arith, within)))

  -- ---- a chunk split

  -- an unused chunk less
  pub record IsWithout (n : ℕ) (cs : List (List X)) : Type 0 where
    pub shaped : Shaped n (without_last cs)
    pub joins : joined (without_last cs) ≡ joined cs
    pub debts : debt (without_last cs) ≡ debt cs
    pub lengths : length (without_last cs) + 1 ≡ length cs

  join_none : (c : List X) → length c ≡ 0 → [] ≡ c ++ []
  join_none [] none = refl
  join_none (x ∷ c) none = absurd (omega (arith, none))

  pub without : (n : ℕ) (cs : List (List X)) → Shaped n cs → n < length cs → IsWithout n cs
  without zero [] shaped within = absurd (omega (arith, within))
  without zero (c ∷ []) shaped within = record { shaped = tt; joins = join_none c shaped.0; debts = omega (arith, shaped.0); lengths = omega arith }
  without zero (c ∷ d ∷ cs) shaped within =
      let later = without zero (d ∷ cs) shaped.1 (omega arith) in
      record { shaped = (shaped.0, later.shaped); joins = ap (λ l. c ++ l) later.joins; debts = omega (arith, later.debts); lengths = omega (arith, later.lengths) }
  without (suc n) [] shaped within = absurd shaped
  without (suc n) (c ∷ []) shaped within = absurd (omega (arith, within))
  without (suc n) (c ∷ d ∷ cs) shaped within =
      let later = without n (d ∷ cs) shaped.2 (omega (arith, within)) in
      record { shaped = (shaped.0, shaped.1, later.shaped); joins = ap (λ l. c ++ l) later.joins; debts = omega (arith, later.debts); lengths = omega (arith, later.lengths) }

  -- a full chunk in a list, split
  pub record IsSplit (n : ℕ) (cs : List (List X)) (at : ℕ) (full : List X) : Type 0 where
    pub shaped : Shaped (suc n) (split_off at (slice_set cs at full))
    pub joins : joined (split_off at (slice_set cs at full)) ≡ joined (slice_set cs at full)
    pub debts : debt (split_off at (slice_set cs at full)) + (length (get_or cs at []) - CHUNK_HALF) ≡ debt cs
    pub lengths : length (split_off at (slice_set cs at full)) ≡ length cs

  pub splits : (n : ℕ) (cs : List (List X)) (at : ℕ) (full : List X) → Shaped n cs → at < n → n < length cs → length full ≡ CHUNK_LIMIT → IsSplit n cs at full
  splits zero cs at full shaped within more long = absurd (omega (arith, within))
  splits (suc n) [] at full shaped within more long = absurd shaped
  splits (suc n) (c ∷ cs) zero full shaped within more long =
      let less = without n cs shaped.2 (omega (arith, more)) in
      let lower : length (take CHUNK_HALF full) ≡ CHUNK_HALF = omega (arith, length-take CHUNK_HALF full, long) in
      let upper : length (drop CHUNK_HALF full) ≡ CHUNK_HALF = omega (arith, length-drop CHUNK_HALF full, long) in
      let rest : Shaped (suc n) (drop CHUNK_HALF full ∷ without_last cs) = (omega (arith, upper), omega (arith, upper), less.shaped) in
      record {
        shaped = (omega (arith, lower), omega (arith, lower), rest);
        joins =
            ap (λ l. take CHUNK_HALF full ++ (drop CHUNK_HALF full ++ l)) less.joins ∙ sym (append_assoc (take CHUNK_HALF full) (drop CHUNK_HALF full) (joined cs))
            ∙ ap (λ l. l ++ joined cs) (take-append-drop CHUNK_HALF full);
        debts = omega (arith, lower, upper, less.debts);
        lengths = omega (arith, less.lengths);
      }
  splits (suc n) (c ∷ cs) (suc at) full shaped within more long =
      let later = splits n cs at full shaped.2 (omega (arith, within)) (omega (arith, more)) long in
      record {
        shaped = (shaped.0, shaped.1, later.shaped);
        joins = ap (λ l. c ++ l) later.joins;
        debts = omega (arith, later.debts);
        lengths = omega (arith, later.lengths);
      }

  -- what the code does for it
  without_pushed : (cs : List (List X)) (z : List X) → without_last (cs ++ z ∷ []) ≡ cs
  without_pushed [] z = refl
  without_pushed (c ∷ []) z = refl
  without_pushed (c ∷ d ∷ cs) z = ap (λ l. c ∷ l) (without_pushed (d ∷ cs) z)

  pub split_is : (cs : List (List X)) (at : ℕ) (z : List X) → at < length cs
      → insert (slice_set cs at (take CHUNK_HALF (get_or cs at []))) (at + 1) (drop CHUNK_HALF (get_or cs at [])) ≡ split_off at (cs ++ z ∷ [])
  split_is [] at z within = absurd (omega (arith, within))
  split_is (c ∷ cs) zero z within = ap (λ l. take CHUNK_HALF c ∷ drop CHUNK_HALF c ∷ l) (sym (without_pushed cs z))
  split_is (c ∷ cs) (suc at) z within =
      let one : suc at + 1 ≡ suc (at + 1) = omega arith in
      ap (λ n. insert (c ∷ slice_set cs at (take CHUNK_HALF (get_or cs at []))) n (drop CHUNK_HALF (get_or cs at []))) one ∙ ap (λ l. c ∷ l) (split_is cs at z (omega (arith, within)))

  -- ---- what was dropped from each

  pub joined_set : (cs : List (List X)) (at : ℕ) (d : List X) → at < length cs → length (joined (slice_set cs at d)) + length (get_or cs at []) ≡ length (joined cs) + length d
  joined_set [] at d within = absurd (omega (arith, within))
  joined_set (c ∷ cs) zero d within = omega (arith, length-append d (joined cs), length-append c (joined cs))
  joined_set (c ∷ cs) (suc at) d within = omega (arith, joined_set cs at d (omega (arith, within)), length-append c (joined (slice_set cs at d)), length-append c (joined cs))

  filter_append : (t : X → Bool) (xs ys : List X) → filter t (xs ++ ys) ≡ filter t xs ++ filter t ys
  filter_append t [] ys = refl
  filter_append t (x ∷ xs) ys = by (t x) (filter_append t xs ys)
    where
      by : (b : Bool) → filter t (xs ++ ys) ≡ filter t xs ++ filter t ys → cond b (x ∷ filter t (xs ++ ys)) (filter t (xs ++ ys)) ≡ cond b (x ∷ filter t xs) (filter t xs) ++ filter t ys
      by true later = ap (λ l. x ∷ l) later
      by false later = later

  pub joined_filter : (t : X → Bool) (cs : List (List X)) → joined (map (filter t) cs) ≡ filter t (joined cs)
  joined_filter t [] = refl
  joined_filter t (c ∷ cs) = ap (λ l. filter t c ++ l) (joined_filter t cs) ∙ sym (filter_append t c (joined cs))

  length_filter : (t : X → Bool) (xs : List X) → length (filter t xs) ≤ length xs
  length_filter t [] = omega arith
  length_filter t (x ∷ xs) = by (t x) (length_filter t xs)
    where
      by : (b : Bool) → length (filter t xs) ≤ length xs → length (cond b (x ∷ filter t xs) (filter t xs)) ≤ suc (length xs)
      by true later = omega (arith, later)
      by false later = omega (arith, later)

  pub debt_filter : (t : X → Bool) (cs : List (List X)) → debt (map (filter t) cs) ≤ debt cs
  debt_filter t [] = omega arith
  debt_filter t (c ∷ cs) = omega (arith, length_filter t c, debt_filter t cs)

  pub short_filter : (t : X → Bool) (n : ℕ) (cs : List (List X)) → Shaped n cs → AllShort (map (filter t) cs)
  short_filter t zero [] shaped = tt
  short_filter t zero (c ∷ cs) shaped = (omega (arith, length_filter t c, shaped.0), short_filter t zero cs shaped.1)
  short_filter t (suc n) [] shaped = absurd shaped
  short_filter t (suc n) (c ∷ cs) shaped = (omega (arith, length_filter t c, shaped.1), short_filter t n cs shaped.2)

  pub empty_filter : (t : X → Bool) (n : ℕ) (cs : List (List X)) → Shaped n cs → AllEmpty (drop n (map (filter t) cs))
  empty_filter t zero [] shaped = tt
  empty_filter t zero (c ∷ cs) shaped = (omega (arith, length_filter t c, shaped.0), empty_filter t zero cs shaped.1)
  empty_filter t (suc n) [] shaped = absurd shaped
  empty_filter t (suc n) (c ∷ cs) shaped = empty_filter t n cs shaped.2

  -- ---- the chunks with elements moved to the front

  pub joined_append : (cs ds : List (List X)) → joined (cs ++ ds) ≡ joined cs ++ joined ds
  joined_append [] ds = refl
  joined_append (c ∷ cs) ds = ap (λ l. c ++ l) (joined_append cs ds) ∙ sym (append_assoc c (joined cs) (joined ds))

  pub debt_append : (cs ds : List (List X)) → debt (cs ++ ds) ≡ debt cs + debt ds
  debt_append [] ds = omega arith
  debt_append (c ∷ cs) ds = omega (arith, debt_append cs ds)

  no_elements : (cs : List (List X)) → AllEmpty cs → joined cs ≡ []
  no_elements [] all = refl
  no_elements ([] ∷ cs) all = no_elements cs all.1
  no_elements ((x ∷ c) ∷ cs) all = absurd (omega (arith, all.0))

  no_debt : (cs : List (List X)) → AllEmpty cs → debt cs ≡ 0
  no_debt [] all = refl
  no_debt (c ∷ cs) all = omega (arith, all.0, no_debt cs all.1)

  abbrev AllFilled : List (List X) → Type 0
  AllFilled cs = AllByRecursion (λ c. (0 < length c) × (length c < CHUNK_LIMIT)) cs

  all_append : (P : List X → Type 0) (cs ds : List (List X)) → AllByRecursion P cs → AllByRecursion P ds → AllByRecursion P (cs ++ ds)
  all_append P [] ds all more = more
  all_append P (c ∷ cs) ds all more = (all.0, all_append P cs ds all.1 more)

  -- the first i chunks of a list, those with elements first; then the others
  pub record IsGathered (old cs : List (List X)) (filled i : ℕ) : Type 0 where
    pub front : List (List X)
    pub gap : List (List X)
    pub is : cs ≡ front ++ (gap ++ drop i old)
    pub fronts : length front ≡ filled
    pub places : length front + length gap ≡ i
    pub full : AllFilled front
    pub empty : AllEmpty gap
    pub joins : joined front ++ joined (drop i old) ≡ joined old
    pub debts : debt front + debt (drop i old) ≡ debt old

  pub gathered_none : (old : List (List X)) → IsGathered old old 0 0
  gathered_none old = record { front = []; gap = []; is = refl; fronts = refl; places = refl; full = tt; empty = tt; joins = refl; debts = omega arith }

  drop_at : (cs : List (List X)) (i : ℕ) → i < length cs → drop i cs ≡ get_or cs i [] ∷ drop (i + 1) cs
  drop_at [] i within = absurd (omega (arith, within))
  drop_at (c ∷ cs) zero within = refl
  drop_at (c ∷ cs) (suc i) within = let one : suc i + 1 ≡ suc (i + 1) = omega arith in drop_at cs i (omega (arith, within)) ∙ ap (λ n. get_or cs i [] ∷ drop n (c ∷ cs)) (sym one)

  get_middle : (cs : List (List X)) (c : List X) (ds : List (List X)) → get_or (cs ++ c ∷ ds) (length cs) [] ≡ c
  get_middle [] c ds = refl
  get_middle (x ∷ cs) c ds = get_middle cs c ds

  set_middle : (cs : List (List X)) (c d : List X) (ds : List (List X)) → slice_set (cs ++ c ∷ ds) (length cs) d ≡ cs ++ d ∷ ds
  set_middle [] c d ds = refl
  set_middle (x ∷ cs) c d ds = ap (λ l. x ∷ l) (set_middle cs c d ds)

  -- the chunk that is looked at
  pub gathered_at : (old cs : List (List X)) (filled i : ℕ) → i < length old → IsGathered old cs filled i → get_or cs i [] ≡ get_or old i []
  gathered_at old cs filled i within given =
      let whole : cs ≡ (given.front ++ given.gap) ++ get_or old i [] ∷ drop (i + 1) old =
      given.is ∙ sym (append_assoc given.front given.gap (drop i old)) ∙ ap (λ l. (given.front ++ given.gap) ++ l) (drop_at old i within) in
      let place : i ≡ length (given.front ++ given.gap) = omega (arith, given.places, length-append given.front given.gap) in
      ap (λ l. get_or l i []) whole ∙ ap (λ n. get_or ((given.front ++ given.gap) ++ get_or old i [] ∷ drop (i + 1) old) n []) place ∙ get_middle (given.front ++ given.gap) (get_or old i []) (drop (i + 1) old)

  no_append : (c l : List X) → length c ≡ 0 → c ++ l ≡ l
  no_append [] l none = refl
  no_append (x ∷ c) l none = absurd (omega (arith, none))

  -- it has no elements
  pub gathered_empty : (old cs : List (List X)) (filled i : ℕ) → i < length old → length (get_or old i []) ≡ 0 → IsGathered old cs filled i → IsGathered old cs filled (i + 1)
  gathered_empty old cs filled i within none given =
      let r = get_or old i [] in
      let rest = drop (i + 1) old in
      record {
        front = given.front;
        gap = given.gap ++ r ∷ [];
        is = given.is ∙ ap (λ l. given.front ++ (given.gap ++ l)) (drop_at old i within) ∙ ap (λ l. given.front ++ l) (sym (append_assoc given.gap (r ∷ []) rest));
        fronts = given.fronts;
        places = omega (arith, given.places, length-append given.gap (r ∷ []));
        full = given.full;
        empty = all_append (λ c. length c ≡ 0) given.gap (r ∷ []) given.empty (none, tt);
        joins = ap (λ l. joined given.front ++ l) (sym (ap joined (drop_at old i within) ∙ no_append r (joined rest) none)) ∙ given.joins;
        debts = omega (arith, given.debts, ap debt (drop_at old i within), none);
      }

  join_one : (cs : List (List X)) (r l : List X) → joined (cs ++ r ∷ []) ++ l ≡ joined cs ++ (r ++ l)
  join_one cs r l = ap (λ k. k ++ l) (joined_append cs (r ∷ []) ∙ ap (λ k. joined cs ++ k) (append-nil r)) ∙ append_assoc (joined cs) r l

  -- it has, and stands behind all others that have
  pub gathered_next : (old cs : List (List X)) (filled i : ℕ) → i < length old → 0 < length (get_or old i []) → length (get_or old i []) < CHUNK_LIMIT → i ≡ filled → IsGathered old cs filled i → IsGathered old cs (filled + 1) (i + 1)
  gathered_next old cs filled i within some short same given = by given.gap given.is given.places
    where
      by : (gap : List (List X)) → cs ≡ given.front ++ (gap ++ drop i old) → length given.front + length gap ≡ i → IsGathered old cs (filled + 1) (i + 1)
      by [] is places = record {
        front = given.front ++ get_or old i [] ∷ [];
        gap = [];
        is = is ∙ ap (λ l. given.front ++ l) (drop_at old i within) ∙ sym (append_assoc given.front (get_or old i [] ∷ []) (drop (i + 1) old));
        fronts = omega (arith, given.fronts, length-append given.front (get_or old i [] ∷ []));
        places = omega (arith, given.fronts, same, length-append given.front (get_or old i [] ∷ []));
        full = all_append (λ c. (0 < length c) × (length c < CHUNK_LIMIT)) given.front (get_or old i [] ∷ []) given.full ((some, short), tt);
        empty = tt;
        joins = join_one given.front (get_or old i []) (joined (drop (i + 1) old)) ∙ ap (λ l. joined given.front ++ l) (sym (ap joined (drop_at old i within))) ∙ given.joins;
        debts = omega (arith, given.debts, ap debt (drop_at old i within), debt_append given.front (get_or old i [] ∷ []));
      }
      by (e ∷ gap) is places = absurd (omega (arith, places, given.fronts, same))

  swap_middle : (front gap rest : List (List X)) (e r : List X) → swap (front ++ (e ∷ gap ++ r ∷ rest)) (length front) (length front + suc (length gap)) ≡ (front ++ r ∷ []) ++ ((gap ++ e ∷ []) ++ rest)
  swap_middle front gap rest e r =
      let all = front ++ (e ∷ gap ++ r ∷ rest) in
      let first : get_or all (length front) [] ≡ e = get_middle front e (gap ++ r ∷ rest) in
      let ahead : (front ++ r ∷ gap) ++ r ∷ rest ≡ front ++ (r ∷ gap ++ r ∷ rest) = append_assoc front (r ∷ gap) (r ∷ rest) in
      let behind : all ≡ (front ++ e ∷ gap) ++ r ∷ rest = sym (append_assoc front (e ∷ gap) (r ∷ rest)) in
      let far : length front + suc (length gap) ≡ length (front ++ e ∷ gap) = sym (length-append front (e ∷ gap)) in
      let far-too : length front + suc (length gap) ≡ length (front ++ r ∷ gap) = sym (length-append front (r ∷ gap)) in
      let second : get_or all (length front + suc (length gap)) [] ≡ r =
      ap (λ l. get_or l (length front + suc (length gap)) []) behind ∙ ap (λ n. get_or ((front ++ e ∷ gap) ++ r ∷ rest) n []) far ∙ get_middle (front ++ e ∷ gap) r rest in
      swap_as all (length front) (length front + suc (length gap)) (omega (arith, length-append front (e ∷ gap ++ r ∷ rest))) (omega (arith, length-append front (e ∷ gap ++ r ∷ rest), length-append gap (r ∷ rest)))
      ∙ ap (λ v. slice_set (slice_set all (length front) v) (length front + suc (length gap)) (get_or all (length front) [])) second
      ∙ ap (λ v. slice_set (slice_set all (length front) r) (length front + suc (length gap)) v) first
      ∙ ap (λ l. slice_set l (length front + suc (length gap)) e) (set_middle front e r (gap ++ r ∷ rest) ∙ sym ahead)
      ∙ ap (λ n. slice_set ((front ++ r ∷ gap) ++ r ∷ rest) n e) far-too ∙ set_middle (front ++ r ∷ gap) r e rest
      ∙ append_assoc front (r ∷ gap) (e ∷ rest) ∙ sym (append_assoc front (r ∷ []) (gap ++ e ∷ rest))
      ∙ ap (λ l. (front ++ r ∷ []) ++ l) (sym (append_assoc gap (e ∷ []) rest))
    where
      swap_as : (cs : List (List X)) (i j : ℕ) → i < length cs → j < length cs → swap cs i j ≡ slice_set (slice_set cs i (get_or cs j [])) j (get_or cs i [])
      swap_as [] i j low high = absurd (omega (arith, low))
      swap_as (c ∷ cs) i j low high =
          ap (λ v. slice_set (slice_set (c ∷ cs) i v) j (get_or (c ∷ cs) i c)) (get_or_default (c ∷ cs) j c [] high)
          ∙ ap (λ v. slice_set (slice_set (c ∷ cs) i (get_or (c ∷ cs) j [])) j v) (get_or_default (c ∷ cs) i c [] low)

  -- it has, and is exchanged with the first that has none
  pub gathered_swap : (old cs : List (List X)) (filled i : ℕ) → i < length old → 0 < length (get_or old i []) → length (get_or old i []) < CHUNK_LIMIT → filled < i → IsGathered old cs filled i
      → IsGathered old (swap cs filled i) (filled + 1) (i + 1)
  gathered_swap old cs filled i within some short less given = by given.gap given.is given.places given.empty
    where
      by : (gap : List (List X)) → cs ≡ given.front ++ (gap ++ drop i old) → length given.front + length gap ≡ i → AllEmpty gap → IsGathered old (swap cs filled i) (filled + 1) (i + 1)
      by [] is places empty = absurd (omega (arith, places, given.fronts, less))
      by (e ∷ gap) is places empty =
          let r = get_or old i [] in
          let rest = drop (i + 1) old in
          let whole : cs ≡ given.front ++ (e ∷ gap ++ r ∷ rest) = is ∙ ap (λ l. given.front ++ (e ∷ gap ++ l)) (drop_at old i within) in
          let place : i ≡ length given.front + suc (length gap) = sym places in
          record {
            front = given.front ++ r ∷ [];
            gap = gap ++ e ∷ [];
            is =
                ap (λ l. swap l filled i) whole ∙ ap (λ n. swap (given.front ++ (e ∷ gap ++ r ∷ rest)) n i) (sym given.fronts)
                ∙ ap (λ n. swap (given.front ++ (e ∷ gap ++ r ∷ rest)) (length given.front) n) place ∙ swap_middle given.front gap rest e r;
            fronts = omega (arith, given.fronts, length-append given.front (r ∷ []));
            places = omega (arith, places, length-append given.front (r ∷ []), length-append gap (e ∷ []));
            full = all_append (λ c. (0 < length c) × (length c < CHUNK_LIMIT)) given.front (r ∷ []) given.full ((some, short), tt);
            empty = all_append (λ c. length c ≡ 0) gap (e ∷ []) empty.1 (empty.0, tt);
            joins = join_one given.front r (joined rest) ∙ ap (λ l. joined given.front ++ l) (sym (ap joined (drop_at old i within))) ∙ given.joins;
            debts = omega (arith, given.debts, ap debt (drop_at old i within), debt_append given.front (r ∷ []));
          }

  shaped_of : (front rest : List (List X)) → AllFilled front → AllEmpty rest → Shaped (length front) (front ++ rest)
  shaped_of [] rest full empty = empty
  shaped_of (c ∷ front) rest full empty = (full.0.0, full.0.1, shaped_of front rest full.1 empty)

  pub gathered_shaped : (old cs : List (List X)) (filled i : ℕ) → AllEmpty (drop i old) → IsGathered old cs filled i → Shaped filled cs
  gathered_shaped old cs filled i empty given =
      let here = shaped_of given.front (given.gap ++ drop i old) given.full (all_append (λ c. length c ≡ 0) given.gap (drop i old) given.empty empty) in
      subst (λ (n : ℕ). Shaped n cs) given.fronts (subst (λ (l : List (List X)). Shaped (length given.front) l) (sym given.is) here)

  pub gathered_joined : (old cs : List (List X)) (filled i : ℕ) → IsGathered old cs filled i → joined cs ≡ joined old
  gathered_joined old cs filled i given =
      ap joined given.is ∙ joined_append given.front (given.gap ++ drop i old) ∙ ap (λ l. joined given.front ++ l) (joined_append given.gap (drop i old) ∙ ap (λ l. l ++ joined (drop i old)) (no_elements given.gap given.empty)) ∙ given.joins

  pub gathered_debt : (old cs : List (List X)) (filled i : ℕ) → IsGathered old cs filled i → debt cs ≡ debt old
  gathered_debt old cs filled i given =
      omega (arith, ap debt given.is, debt_append given.front (given.gap ++ drop i old), debt_append given.gap (drop i old), no_debt given.gap given.empty, given.debts)

  pub gathered_length : (old cs : List (List X)) (filled i : ℕ) → i ≤ length old → IsGathered old cs filled i → length cs ≡ length old
  gathered_length old cs filled i within given =
      omega (arith, ap length given.is, length-append given.front (given.gap ++ drop i old), length-append given.gap (drop i old), given.places, length-drop i old, within)

  pub short_at : (cs : List (List X)) (i : ℕ) → AllShort cs → length (get_or cs i []) < CHUNK_LIMIT
  short_at [] i all = omega arith
  short_at (c ∷ cs) zero all = all.0
  short_at (c ∷ cs) (suc i) all = short_at cs i all.1

  -- ---- one chunk after the other

  pub chunk_is : (cs : List (List X)) (i : ℕ) (c : List X) → i < length cs → c ≡ get_or cs i c → c ≡ get_or cs i []
  chunk_is cs i c within is = is ∙ get_or_default cs i c [] within

  abbrev none_of : List X
  none_of = []

  pub joined_more : (cs : List (List X)) (i : ℕ) (c : List X) → i < length cs → c ≡ get_or cs i c → length (joined (take (i + 1) cs)) ≡ length (joined (take i cs)) + length c
  joined_more cs i c within is =
      let one = chunk_is cs i c within is in
      omega (
        arith,
        ap (λ (l : List (List X)). length (joined l)) (take_more cs i [] within),
        ap length (joined_append (take i cs) (get_or cs i [] ∷ [])),
        length-append (joined (take i cs)) (get_or cs i [] ++ []),
        length-append (get_or cs i []) none_of,
        ap length one,
      )

  pub joined_front : (cs : List (List X)) (i : ℕ) → length (joined (take i cs)) ≤ length (joined cs)
  joined_front cs i =
      omega (arith, ap (λ (l : List (List X)). length (joined l)) (take-append-drop i cs), ap length (joined_append (take i cs) (drop i cs)), length-append (joined (take i cs)) (joined (drop i cs)))

  pub debt_more : (cs : List (List X)) (i : ℕ) (c : List X) → i < length cs → c ≡ get_or cs i c → debt (take (i + 1) cs) ≡ debt (take i cs) + (length c - CHUNK_HALF)
  debt_more cs i c within is =
      let one = chunk_is cs i c within is in
      omega (arith, ap debt (take_more cs i [] within), debt_append (take i cs) (get_or cs i [] ∷ []), ap length one)

  pub drop_some : (cs : List (List X)) (at rest : ℕ) → rest < length (joined (drop at cs)) → at < length cs
  drop_some [] zero rest within = absurd (omega (arith, within))
  drop_some [] (suc at) rest within = absurd (omega (arith, within))
  drop_some (c ∷ cs) zero rest within = omega arith
  drop_some (c ∷ cs) (suc at) rest within = omega (arith, drop_some cs at rest within)

  slice_get_far : (c l : List X) (i : ℕ) → length c ≤ i → slice_get (c ++ l) i ≡ slice_get l (i - length c)
  slice_get_far [] l i low = let same : i ≡ i - 0 = omega arith in ap (slice_get l) same
  slice_get_far (x ∷ c) l zero low = absurd (omega (arith, low))
  slice_get_far (x ∷ c) l (suc i) low = let same : i - length c ≡ suc i - suc (length c) = omega arith in slice_get_far c l i (omega (arith, low)) ∙ ap (slice_get l) same

  slice_get_near : (c l : List X) (i : ℕ) → i < length c → slice_get (c ++ l) i ≡ slice_get c i
  slice_get_near [] l i low = absurd (omega (arith, low))
  slice_get_near (x ∷ c) l zero low = refl
  slice_get_near (x ∷ c) l (suc i) low = slice_get_near c l i (omega (arith, low))

  -- a place, seen from a chunk on
  pub record IsPlaceFrom (cs : List (List X)) (place at rest : ℕ) : Type 0 where
    pub within : rest < length (joined (drop at cs))
    pub is : slice_get (joined cs) place ≡ slice_get (joined (drop at cs)) rest

  pub place_next : (cs : List (List X)) (place at rest : ℕ) (c : List X) → at < length cs → c ≡ get_or cs at c → length c ≤ rest → IsPlaceFrom cs place at rest → IsPlaceFrom cs place (at + 1) (rest - length c)
  place_next cs place at rest c within is far given =
      let here : drop at cs ≡ c ∷ drop (at + 1) cs = drop_at cs at within ∙ ap (λ d. d ∷ drop (at + 1) cs) (sym (chunk_is cs at c within is)) in
      record {
        within = omega (arith, given.within, ap (λ (l : List (List X)). length (joined l)) here, length-append c (joined (drop (at + 1) cs)), far);
        is = given.is ∙ ap (λ (l : List (List X)). slice_get (joined l) rest) here ∙ slice_get_far c (joined (drop (at + 1) cs)) rest far;
      }

  pub place_here : (cs : List (List X)) (place at rest : ℕ) (c : List X) → at < length cs → c ≡ get_or cs at c → rest < length c → IsPlaceFrom cs place at rest → slice_get (joined cs) place ≡ slice_get c rest
  place_here cs place at rest c within is near given =
      let here : drop at cs ≡ c ∷ drop (at + 1) cs = drop_at cs at within ∙ ap (λ d. d ∷ drop (at + 1) cs) (sym (chunk_is cs at c within is)) in
      given.is ∙ ap (λ (l : List (List X)). slice_get (joined l) rest) here ∙ slice_get_near c (joined (drop (at + 1) cs)) rest near

  -- each changed, up to one
  pub each_more : (f : List X → List X) (old cs : List (List X)) (i : ℕ) (c : List X) → i < length old → cs ≡ map f (take i old) ++ drop i old → c ≡ get_or cs i c
      → slice_set cs i (f c) ≡ map f (take (i + 1) old) ++ drop (i + 1) old
  each_more f old cs i c within is c-is =
      let front = map f (take i old) in
      let whole : cs ≡ front ++ get_or old i [] ∷ drop (i + 1) old = is ∙ ap (λ l. front ++ l) (drop_at old i within) in
      let place : length front ≡ i = omega (arith, length-map (take i old) f, length-take i old, within) in
      let inside : i < length cs = omega (arith, ap length whole, length-append front (get_or old i [] ∷ drop (i + 1) old), place) in
      let one : c ≡ get_or old i [] =
      chunk_is cs i c inside c-is ∙ ap (λ l. get_or l i []) whole ∙ ap (λ n. get_or (front ++ get_or old i [] ∷ drop (i + 1) old) n []) (sym place) ∙ get_middle front (get_or old i []) (drop (i + 1) old) in
      let more : map f (take (i + 1) old) ≡ front ++ f (get_or old i []) ∷ [] = ap (map f) (take_more old i [] within) ∙ map-append f (take i old) (get_or old i [] ∷ []) in
      ap (λ l. slice_set l i (f c)) whole ∙ ap (λ n. slice_set (front ++ get_or old i [] ∷ drop (i + 1) old) n (f c)) (sym place) ∙ set_middle front (get_or old i []) (f c) (drop (i + 1) old)
      ∙ ap (λ d. front ++ f d ∷ drop (i + 1) old) one ∙ sym (append_assoc front (f (get_or old i []) ∷ []) (drop (i + 1) old)) ∙ ap (λ l. l ++ drop (i + 1) old) (sym more)
    where
      map-append : (f : List X → List X) (xs ys : List (List X)) → map f (xs ++ ys) ≡ map f xs ++ map f ys
      map-append f [] ys = refl
      map-append f (x ∷ xs) ys = ap (λ l. f x ∷ l) (map-append f xs ys)

  -- ---- more empty chunks

  pub record IsLonger (n : ℕ) (old cs : List (List X)) : Type 0 where
    pub shaped : Shaped n cs
    pub joins : joined cs ≡ joined old
    pub debts : debt cs ≡ debt old
    pub longer : length old ≤ length cs

  shaped_push : (n : ℕ) (cs : List (List X)) (c : List X) → length c ≡ 0 → Shaped n cs → Shaped n (cs ++ c ∷ [])
  shaped_push zero [] c none shaped = (none, tt)
  shaped_push zero (d ∷ cs) c none shaped = (shaped.0, shaped_push zero cs c none shaped.1)
  shaped_push (suc n) [] c none shaped = absurd shaped
  shaped_push (suc n) (d ∷ cs) c none shaped = (shaped.0, shaped.1, shaped_push n cs c none shaped.2)

  pub longer_push : (n : ℕ) (old cs : List (List X)) (c : List X) → c ≡ [] → IsLonger n old cs → IsLonger n old (cs ++ c ∷ [])
  longer_push n old cs c none given =
      let empty : length c ≡ 0 = ap length none in
      record {
        shaped = shaped_push n cs c empty given.shaped;
        joins = joined_append cs (c ∷ []) ∙ ap (λ l. joined cs ++ (l ++ [])) none ∙ append-nil (joined cs) ∙ given.joins;
        debts = omega (arith, debt_append cs (c ∷ []), empty, given.debts);
        longer = omega (arith, given.longer, length-append cs (c ∷ []));
      }

  pub append_none : (xs c : List X) → length c ≡ 0 → xs ++ c ≡ xs
  append_none xs [] none = append-nil xs
  append_none xs (x ∷ c) none = absurd (omega (arith, none))

  pub drop_all : (xs ys : List X) (n : ℕ) → length xs ≡ n → drop n (xs ++ ys) ≡ ys
  drop_all [] ys zero long = refl
  drop_all [] ys (suc n) long = absurd (omega (arith, long))
  drop_all (x ∷ xs) ys zero long = absurd (omega (arith, long))
  drop_all (x ∷ xs) ys (suc n) long = drop_all xs ys n (omega (arith, long))

  pub ended : (f : List X → List X) (old : List (List X)) (i : ℕ) → length old ≤ i → map f (take i old) ++ drop i old ≡ map f old
  ended f [] zero long = refl
  ended f [] (suc i) long = refl
  ended f (c ∷ old) zero long = absurd (omega (arith, long))
  ended f (c ∷ old) (suc i) long = ap (λ l. f c ∷ l) (ended f old i (omega (arith, long)))

owned_append : (owner : Pkg) (one other : List OwnedPath) → paths_owned_by owner (one ++ other) ≡ paths_owned_by owner one ++ paths_owned_by owner other
owned_append owner one other = ap paths_of (filter-append (is_owned_by owner) one other) ∙ map-append path_of (filter (is_owned_by owner) one) (filter (is_owned_by owner) other)

-- one chunk more
pub owned_more : (owner : Pkg) (cs : List (List OwnedPath)) (i : ℕ) (c : List OwnedPath) → i < length cs → c ≡ get_or cs i c → paths_owned_by owner (joined (take (i + 1) cs)) ≡ paths_owned_by owner (joined (take i cs)) ++ paths_owned_by owner c
owned_more owner cs i c within is =
    let chunk : get_or cs i [] ≡ c = sym (chunk_is cs i c within is) in
    ap (λ (l : List (List OwnedPath)). paths_owned_by owner (joined l)) (take_more cs i [] within ∙ ap (λ (d : List OwnedPath). take i cs ++ d ∷ []) chunk)
    ∙ ap (paths_owned_by owner) (joined_append (take i cs) (c ∷ []) ∙ ap (λ (l : List OwnedPath). joined (take i cs) ++ l) (append-nil c))
    ∙ owned_append owner (joined (take i cs)) c
