-- The chunks of a sorted list: what stands where in them.
use Rattle.std.proofs.Common.{◌≡◌, ℕ, zero, suc, ◌+◌, ◌-◌, ◌<◌, ◌≤◌, Bool, true, false, List, [], ◌∷◌, ◌++◌, map, length, take, drop, get_or, Some, None, refl, sym, ◌∙◌, ap, subst, cond, not, arith}
use Rattle.std.specs.Prelude.{min, slice_get, slice_set, if◌then◌else◌}
use Rattle.std.specs.List.{AllByRecursion, find, prefix_len}
use Rattle.std.specs.List.Sorted.{IsStrictlySortedBy, IsPartitionedBy}
use Rattle.std.specs.Ordering.{is_lt}
use Rattle.std.specs.declared.cmp.Ordering.TheVariants.{Less}
use Rattle.std.proofs.lemmas.Bool.{false≢true}
use Rattle.std.proofs.lemmas.Cmp.{nat_list_cmp_total}
use Rattle.std.proofs.lemmas.List.{append-nil, length-append}
use Rattle.opam_names.specs.ByteOrders.{RisesBy, byte_order, count_before, precedes, put_by}
use Rattle.opam_names.proofs.RisingLists.{part_rises}
use Rattle.owner_map.specs.Chunks.{AllEmpty, Shaped, chunk_from, ends_before, joined}
use Rattle.owner_map.specs.Searching.{is_from}
use Rattle.owner_map.specs.declared.chunk.TheConstants.{CHUNK_LIMIT}
use Rattle.std.proofs.lemmas.Option.{slice_get_within}
use Rattle.owner_map.proofs.Finding.{some_is}
use Rattle.owner_map.proofs.Texts.{less_is}

module _ {X : Type 0} where
  pub joined_empty : (cs : List (List X)) → AllEmpty cs → joined cs ≡ []
  joined_empty [] all = refl
  joined_empty ([] ∷ cs) all = joined_empty cs all.1
  joined_empty ((x ∷ c) ∷ cs) all = absurd (omega (arith, all.0))

  pub empty_at : (cs : List (List X)) (k : ℕ) → AllEmpty cs → length (get_or cs k []) ≡ 0
  empty_at [] k all = refl
  empty_at (c ∷ cs) zero all = all.0
  empty_at (c ∷ cs) (suc k) all = empty_at cs k all.1

  empty_within : (cs : List (List X)) (k : ℕ) (d : List X) → AllEmpty cs → k < length cs → length (get_or cs k d) ≡ 0
  empty_within [] k d all within = absurd (omega (arith, within))
  empty_within (c ∷ cs) zero d all within = all.0
  empty_within (c ∷ cs) (suc k) d all within = empty_within cs k d all.1 (omega (arith, within))

  pub shaped_within : (n : ℕ) (cs : List (List X)) → Shaped n cs → n ≤ length cs
  shaped_within zero cs shaped = omega arith
  shaped_within (suc n) [] shaped = absurd shaped
  shaped_within (suc n) (c ∷ cs) shaped = omega (arith, shaped_within n cs shaped.2)

  pub shaped_short : (n : ℕ) (cs : List (List X)) (k : ℕ) → Shaped n cs → length (get_or cs k []) < CHUNK_LIMIT
  shaped_short zero cs k shaped = omega (arith, empty_at cs k shaped)
  shaped_short (suc n) [] k shaped = absurd shaped
  shaped_short (suc n) (c ∷ cs) zero shaped = shaped.1
  shaped_short (suc n) (c ∷ cs) (suc k) shaped = shaped_short n cs k shaped.2

  pub shaped_empty : (n : ℕ) (cs : List (List X)) (k : ℕ) → Shaped n cs → n ≤ k → length (get_or cs k []) ≡ 0
  shaped_empty zero cs k shaped low = empty_at cs k shaped
  shaped_empty (suc n) [] k shaped low = absurd shaped
  shaped_empty (suc n) (c ∷ cs) zero shaped low = absurd (omega (arith, low))
  shaped_empty (suc n) (c ∷ cs) (suc k) shaped low = shaped_empty n cs k shaped.2 (omega (arith, low))

  pub past : (cs : List (List X)) (i : ℕ) → length cs ≤ i → get_or cs i [] ≡ []
  past [] i long = refl
  past (c ∷ cs) zero long = absurd (omega (arith, long))
  past (c ∷ cs) (suc i) long = past cs i (omega (arith, long))

  pub first_drop : (cs : List (List X)) (i : ℕ) → get_or (drop i cs) 0 [] ≡ get_or cs i []
  first_drop [] zero = refl
  first_drop [] (suc i) = refl
  first_drop (c ∷ cs) zero = refl
  first_drop (c ∷ cs) (suc i) = first_drop cs i

  pub prefix_all : (p : X → Bool) (xs ys : List X) → AllByRecursion (λ x. p x ≡ true) xs → prefix_len p (xs ++ ys) ≡ length xs + prefix_len p ys
  prefix_all p [] ys all = omega arith
  prefix_all p (x ∷ xs) ys all = ap (λ b. cond b (1 + prefix_len p (xs ++ ys)) 0) all.0 ∙ (let later = prefix_all p xs ys all.1 in let step : 1 + prefix_len p (xs ++ ys) ≡ suc (length xs) + prefix_len p ys = omega (arith, later) in step)

  find_past : (q : X → Bool) (xs ys : List X) → AllByRecursion (λ x. q x ≡ false) xs → find q (xs ++ ys) ≡ find q ys
  find_past q [] ys all = refl
  find_past q (x ∷ xs) ys all = ap (λ b. cond b (Some x) (find q (xs ++ ys))) all.0 ∙ find_past q xs ys all.1

  all_front : (P : X → Type 0) (xs ys : List X) → AllByRecursion P (xs ++ ys) → AllByRecursion P xs
  all_front P [] ys all = tt
  all_front P (x ∷ xs) ys all = (all.0, all_front P xs ys all.1)

  all_back : (P : X → Type 0) (xs ys : List X) → AllByRecursion P (xs ++ ys) → AllByRecursion P ys
  all_back P [] ys all = all
  all_back P (x ∷ xs) ys all = all_back P xs ys all.1

  all_chunk : (P : X → Type 0) (cs : List (List X)) (k : ℕ) (d : List X) → AllByRecursion P (joined cs) → k < length cs → AllByRecursion P (get_or cs k d)
  all_chunk P [] k d all within = absurd (omega (arith, within))
  all_chunk P (c ∷ cs) zero d all within = all_front P c (joined cs) all
  all_chunk P (c ∷ cs) (suc k) d all within = all_chunk P cs k d (all_back P c (joined cs) all) (omega (arith, within))

first_before : (a b c : List ℕ) → byte_order a b ≡ Less → precedes b c ≡ true → precedes a c ≡ true
first_before a b c less is = ap is_lt (nat_list_cmp_total.trans a b c less (less_is (byte_order b c) is))

module _ {X : Type 0} (key : X → List ℕ) where
  rises_front : (xs ys : List X) → RisesBy key (xs ++ ys) → RisesBy key xs
  rises_front xs ys up = part_rises key [] xs ys up

  rises_back : (xs ys : List X) → RisesBy key (xs ++ ys) → RisesBy key ys
  unfolding IsStrictlySortedBy
  rises_back [] ys up = up
  rises_back (x ∷ xs) ys up = rises_back xs ys up.1

  -- each chunk of a list that rises
  pub chunk_rises : (cs : List (List X)) (k : ℕ) → RisesBy key (joined cs) → RisesBy key (get_or cs k [])
  unfolding IsStrictlySortedBy
  chunk_rises [] k up = tt
  chunk_rises (c ∷ cs) zero up = rises_front c (joined cs) up
  chunk_rises (c ∷ cs) (suc k) up = chunk_rises cs k (rises_back c (joined cs) up)

  -- where the last stands before a text, all do
  all_before : (text : List ℕ) (c : List X) → RisesBy key c → ends_before key text c ≡ true → AllByRecursion (λ x. precedes (key x) text ≡ true) c
  unfolding IsStrictlySortedBy
  all_before text [] up is = tt
  all_before text (x ∷ []) up is = (is, tt)
  all_before text (x ∷ y ∷ ys) up is =
      let later : AllByRecursion (λ z. precedes (key z) text ≡ true) (y ∷ ys) = all_before text (y ∷ ys) up.1 is in
      (first_before (key x) (key y) text up.0.0 later.0, later)

  last_at : (text : List ℕ) (c : List X) (i : ℕ) (x : X) → i + 1 ≡ length c → slice_get c i ≡ Some x → ends_before key text c ≡ precedes (key x) text
  last_at text [] i x last is = absurd (omega (arith, last))
  last_at text (y ∷ []) zero x last is = ap (λ z. precedes (key z) text) (some_is y x is)
  last_at text (y ∷ []) (suc i) x last is = absurd (omega (arith, last))
  last_at text (y ∷ z ∷ zs) zero x last is = absurd (omega (arith, last))
  last_at text (y ∷ z ∷ zs) (suc i) x last is = last_at text (z ∷ zs) i x (omega (arith, last)) is

  pub last_is : (text : List ℕ) (c : List X) (x : X) → slice_get c (length c - 1) ≡ Some x → ends_before key text c ≡ precedes (key x) text
  last_is text c x is = last_at text c (length c - 1) x (omega (arith, slice_get_within c (length c - 1) x is)) is

  empty_not : (text : List ℕ) (c : List X) → length c ≡ 0 → ends_before key text c ≡ false
  empty_not text [] none = refl
  empty_not text (x ∷ c) none = absurd (omega (arith, none))

  -- ---- the search by halves

  last_before : (text : List ℕ) (c later : List X) → 0 < length c → RisesBy key (c ++ later) → AllByRecursion (λ z. precedes (key z) text ≡ true → ends_before key text c ≡ true) later
  unfolding IsStrictlySortedBy
  last_before text [] later some up = absurd (omega (arith, some))
  last_before text (x ∷ []) later some up = each_later later up.0
    where
      each_later : (zs : List X) → AllByRecursion (λ k. byte_order (key x) k ≡ Less) (map key zs) → AllByRecursion (λ z. precedes (key z) text ≡ true → precedes (key x) text ≡ true) zs
      each_later [] all = tt
      each_later (z ∷ zs) all = (λ is. first_before (key x) (key z) text all.0 is, each_later zs all.1)
  last_before text (x ∷ y ∷ ys) later some up = last_before text (y ∷ ys) later (omega arith) up.1

  some_before : (text : List ℕ) (G : Type 0) (c : List X) → AllByRecursion (λ z. precedes (key z) text ≡ true → G) c → ends_before key text c ≡ true → G
  some_before text G [] all is = absurd (false≢true is)
  some_before text G (x ∷ []) all is = all.0 is
  some_before text G (x ∷ y ∷ ys) all is = some_before text G (y ∷ ys) all.1 is

  pub parted : (text : List ℕ) (n : ℕ) (cs : List (List X)) → Shaped n cs → RisesBy key (joined cs) → IsPartitionedBy (ends_before key text) cs
  parted text n [] shaped up i j d le low is = absurd (omega (arith, low))
  parted text n (c ∷ cs) shaped up zero zero d le low is = is
  parted text n (c ∷ cs) shaped up (suc i) zero d le low is = absurd (omega (arith, le))
  parted text zero (c ∷ cs) shaped up zero (suc j) d le low is =
      absurd (false≢true (sym (empty_not text (get_or cs j d) (empty_within cs j d shaped.1 (omega (arith, low)))) ∙ is))
  parted text (suc n) (c ∷ cs) shaped up zero (suc j) d le low is =
      some_before text (ends_before key text c ≡ true) (get_or cs j d)
      (all_chunk (λ z. precedes (key z) text ≡ true → ends_before key text c ≡ true) cs j d (last_before text c (joined cs) shaped.0 up) (omega (arith, low))) is
  parted text zero (c ∷ cs) shaped up (suc i) (suc j) d le low is = parted text zero cs shaped.1 (rises_back c (joined cs) up) i j d (omega (arith, le)) (omega (arith, low)) is
  parted text (suc n) (c ∷ cs) shaped up (suc i) (suc j) d le low is = parted text n cs shaped.2 (rises_back c (joined cs) up) i j d (omega (arith, le)) (omega (arith, low)) is

  -- ---- how many stand before a text

  abbrev before_test : List ℕ → X → Bool
  before_test text x = precedes (key x) text

  prefix_stops : (text : List ℕ) (c ys : List X) → 0 < length c → ends_before key text c ≡ false → prefix_len (before_test text) (c ++ ys) ≡ prefix_len (before_test text) c
  prefix_stops text [] ys some is = absurd (omega (arith, some))
  prefix_stops text (x ∷ []) ys some is = ap (λ b. cond b (1 + prefix_len (before_test text) ys) 0) is ∙ sym (ap (λ b. cond b (1 + prefix_len (before_test text) []) 0) is)
  prefix_stops text (x ∷ y ∷ zs) ys some is = ap (λ n. cond (precedes (key x) text) (1 + n) 0) (prefix_stops text (y ∷ zs) ys (omega arith) is)

  abbrev CountsAt : List ℕ → List (List X) → ℕ → Type 0
  CountsAt text cs k = count_before key text (joined cs) ≡ length (joined (take k cs)) + count_before key text (get_or cs k [])

  count_by : (text : List ℕ) (c : List X) (cs : List (List X)) (k : ℕ) (b : Bool) → ends_before key text c ≡ b → 0 < length c → RisesBy key c → CountsAt text cs k → CountsAt text (c ∷ cs) (cond b (1 + k) 0)
  count_by text c cs k true is some up later =
      let one : suc k ≡ 1 + k = omega arith in
      let all = prefix_all (before_test text) c (joined cs) (all_before text c up is) in
      let here : CountsAt text (c ∷ cs) (suc k) = omega (arith, all, later, length-append c (joined (take k cs))) in
      subst (λ (m : ℕ). CountsAt text (c ∷ cs) m) one here
  count_by text c cs k false is some up later = omega (arith, prefix_stops text c (joined cs) some is)

  pub count_joined : (text : List ℕ) (n : ℕ) (cs : List (List X)) → Shaped n cs → RisesBy key (joined cs) → CountsAt text cs (chunk_from key text cs)
  count_joined text zero [] shaped up = omega arith
  count_joined text zero ([] ∷ cs) shaped up = let none = ap (count_before key text) (joined_empty cs shaped.1) in omega (arith, none)
  count_joined text zero ((x ∷ c) ∷ cs) shaped up = absurd (omega (arith, shaped.0))
  count_joined text (suc n) [] shaped up = absurd shaped
  count_joined text (suc n) (c ∷ cs) shaped up =
      count_by text c cs (chunk_from key text cs) (ends_before key text c) refl shaped.0 (rises_front c (joined cs) up) (count_joined text n cs shaped.2 (rises_back c (joined cs) up))

  -- ---- the first that does not stand before a text

  passed : (text : List ℕ) (c : List X) → AllByRecursion (λ x. precedes (key x) text ≡ true) c → AllByRecursion (λ x. is_from key text x ≡ false) c
  passed text [] all = tt
  passed text (x ∷ c) all = (ap not all.0, passed text c all.1)

  find_stops : (text : List ℕ) (c ys : List X) → 0 < length c → ends_before key text c ≡ false → find (is_from key text) (c ++ ys) ≡ find (is_from key text) c
  find_stops text [] ys some is = absurd (omega (arith, some))
  find_stops text (x ∷ []) ys some is = ap (λ b. cond (not b) (Some x) (find (is_from key text) ys)) is ∙ sym (ap (λ b. cond (not b) (Some x) None) is)
  find_stops text (x ∷ y ∷ zs) ys some is = ap (λ o. cond (is_from key text x) (Some x) o) (find_stops text (y ∷ zs) ys (omega arith) is)

  abbrev FindsAt : List ℕ → List (List X) → ℕ → Type 0
  FindsAt text cs k = find (is_from key text) (joined cs) ≡ find (is_from key text) (get_or cs k [])

  find_by : (text : List ℕ) (c : List X) (cs : List (List X)) (k : ℕ) (b : Bool) → ends_before key text c ≡ b → 0 < length c → RisesBy key c → FindsAt text cs k → FindsAt text (c ∷ cs) (cond b (1 + k) 0)
  find_by text c cs k true is some up later =
      let one : suc k ≡ 1 + k = omega arith in
      let here : FindsAt text (c ∷ cs) (suc k) = find_past (is_from key text) c (joined cs) (passed text c (all_before text c up is)) ∙ later in
      subst (λ (m : ℕ). FindsAt text (c ∷ cs) m) one here
  find_by text c cs k false is some up later = find_stops text c (joined cs) some is

  pub find_joined : (text : List ℕ) (n : ℕ) (cs : List (List X)) → Shaped n cs → RisesBy key (joined cs) → FindsAt text cs (chunk_from key text cs)
  find_joined text zero [] shaped up = refl
  find_joined text zero ([] ∷ cs) shaped up = ap (find (is_from key text)) (joined_empty cs shaped.1)
  find_joined text zero ((x ∷ c) ∷ cs) shaped up = absurd (omega (arith, shaped.0))
  find_joined text (suc n) [] shaped up = absurd shaped
  find_joined text (suc n) (c ∷ cs) shaped up =
      find_by text c cs (chunk_from key text cs) (ends_before key text c) refl shaped.0 (rises_front c (joined cs) up) (find_joined text n cs shaped.2 (rises_back c (joined cs) up))

  -- ---- putting in

  put_past : (item : X) (c ys : List X) → AllByRecursion (λ x. precedes (key x) (key item) ≡ true) c → put_by key item (c ++ ys) ≡ c ++ put_by key item ys
  put_past item [] ys all = refl
  put_past item (x ∷ c) ys all = ap (λ b. if b then x ∷ put_by key item (c ++ ys) else item ∷ x ∷ c ++ ys) all.0 ∙ ap (λ l. x ∷ l) (put_past item c ys all.1)

  put_stops_by : (item x : X) (zs ys : List X) (b : Bool) → put_by key item zs ++ ys ≡ put_by key item (zs ++ ys)
      → (if b then x ∷ put_by key item zs else item ∷ x ∷ zs) ++ ys ≡ (if b then x ∷ put_by key item (zs ++ ys) else item ∷ x ∷ zs ++ ys)
  put_stops_by item x zs ys true later = ap (λ l. x ∷ l) later
  put_stops_by item x zs ys false later = refl

  put_stops : (item : X) (c ys : List X) → 0 < length c → ends_before key (key item) c ≡ false → put_by key item c ++ ys ≡ put_by key item (c ++ ys)
  put_stops item [] ys some is = absurd (omega (arith, some))
  put_stops item (x ∷ []) ys some is =
      ap (λ b. (if b then x ∷ item ∷ [] else item ∷ x ∷ []) ++ ys) is ∙ sym (ap (λ b. if b then x ∷ put_by key item ys else item ∷ x ∷ ys) is)
  put_stops item (x ∷ y ∷ zs) ys some is = put_stops_by item x (y ∷ zs) ys (precedes (key x) (key item)) (put_stops item (y ∷ zs) ys (omega arith) is)

  abbrev pub PutsAt : X → List (List X) → ℕ → Type 0
  PutsAt item cs at = joined (slice_set cs at (put_by key item (get_or cs at []))) ≡ put_by key item (joined cs)

  put_last : (item : X) (c : List X) (cs : List (List X)) → AllEmpty cs → PutsAt item (c ∷ cs) 0
  put_last item c cs empty =
      let P : List X → Type 0 = λ ys. put_by key item c ++ ys ≡ put_by key item (c ++ ys) in
      subst P (sym (joined_empty cs empty)) (append-nil (put_by key item c) ∙ ap (put_by key item) (sym (append-nil c)))

  pub put_shaped : (item : X) (n : ℕ) (cs : List (List X)) (at : ℕ) → Shaped (suc n) cs → RisesBy key (joined cs) → at ≡ min (chunk_from key (key item) cs) n → PutsAt item cs at
  put_shaped item n [] at shaped up is = absurd shaped
  put_shaped item zero (c ∷ cs) at shaped up is =
      let first : 0 ≡ at = omega (arith, is) in
      subst (λ (m : ℕ). PutsAt item (c ∷ cs) m) first (put_last item c cs shaped.2)
  put_shaped item (suc n) (c ∷ cs) at shaped up is = by (ends_before key (key item) c) refl is (put_shaped item n cs (min (chunk_from key (key item) cs) n) shaped.2 (rises_back c (joined cs) up) refl)
    where
      by : (b : Bool) → ends_before key (key item) c ≡ b → at ≡ min (cond b (1 + chunk_from key (key item) cs) 0) (suc n) → PutsAt item cs (min (chunk_from key (key item) cs) n) → PutsAt item (c ∷ cs) at
      by true ends at-is later =
          let next : suc (min (chunk_from key (key item) cs) n) ≡ at = omega (arith, at-is) in
          let here : PutsAt item (c ∷ cs) (suc (min (chunk_from key (key item) cs) n)) =
          ap (λ l. c ++ l) later ∙ sym (put_past item c (joined cs) (all_before (key item) c (rises_front c (joined cs) up) ends)) in
          subst (λ (m : ℕ). PutsAt item (c ∷ cs) m) next here
      by false ends at-is later =
          let first : 0 ≡ at = omega (arith, at-is) in
          let here : PutsAt item (c ∷ cs) 0 = put_stops item c (joined cs) shaped.0 ends in
          subst (λ (m : ℕ). PutsAt item (c ∷ cs) m) first here

  -- into no elements
  pub put_first : (item : X) (cs : List (List X)) → AllEmpty cs → 0 < length cs → PutsAt item cs 0
  put_first item [] empty some = absurd (omega (arith, some))
  put_first item (c ∷ cs) empty some = put_last item c cs empty.1
