-- Names that are among others, and names that come one after another.
use Rattle.std.proofs.Common.{◌≡◌, ℕ, ◌+◌, ◌<◌, ◌≤◌, List, [], ◌∷◌, ◌++◌, length, get_or, take, filter, fold, Bool, true, false, not, ◌||◌, ◌&&◌, cond, ◌⊎◌, inl, inr, ⊎_elim, refl, sym, ◌∙◌, ap, subst, arith}
use Rattle.std.specs.Prelude.{Contains, bytes_eq}
use Rattle.std.specs.Cmp.Lexicographic.{slice_cmp}
use Rattle.std.specs.List.{list_any}
use Rattle.std.specs.Ordering.{is_eq, match_ordering, nat_cmp}
use Rattle.std.specs.Set.{remove_key}
use Rattle.std.specs.declared.cmp.Ordering.{Ordering}
use Rattle.std.specs.declared.cmp.Ordering.TheVariants.{Less, Equal, Greater}
use Rattle.std.proofs.lemmas.List.{append_assoc, take_more}
use Rattle.std.proofs.lemmas.Map.Lookups.{exact_bytes}
use Rattle.std.proofs.lemmas.Map.Text.{is_eq-slice_cmp}
use Rattle.std.proofs.lemmas.Slice.Eq.{bytes_eq-Decides}
use Rattle.opam_names.specs.ByteOrders.{byte_order}
use Rattle.opam_filter.specs.NameSets.{with_name}
use Rattle.lock_check.specs.Chased.{is_among}
use Rattle.lock_check.specs.Growth.{AddsAll, AddsOne, AreNew, Grows, count_missing}
use Rattle.lock_check.proofs.Members.{first_in, in_cases, later_in, none_in}
use Rattle.lock_check.proofs.Names.{put_those, same_test}

-- ---- tests

pub either : (a b : Bool) → (a || b) ≡ true → (a ≡ true) ⊎ (b ≡ true)
either true b is = inl refl
either false b is = inr is

pub or_left : (a b : Bool) → a ≡ true → (a || b) ≡ true
or_left true b is = refl
or_left false b is = absurd cc

pub or_right : (a b : Bool) → b ≡ true → (a || b) ≡ true
or_right true b is = refl
or_right false b is = is

pub or_groups : (a b c : Bool) → ((a || b) || c) ≡ (a || (b || c))
or_groups true b c = refl
or_groups false b c = refl

pub or_none : (a : Bool) → (a || false) ≡ a
or_none true = refl
or_none false = refl

pub same_name : (name : List ℕ) → bytes_eq name name ≡ true
same_name name = (bytes_eq-Decides name name).1 refl

pub is_same : (name other : List ℕ) → bytes_eq name other ≡ true → name ≡ other
is_same name other is = (bytes_eq-Decides name other).0 is

pub turned : (name other : List ℕ) → bytes_eq name other ≡ bytes_eq other name
turned name other = by (bytes_eq name other) (bytes_eq other name) refl refl
  where
    by : (a b : Bool) → bytes_eq name other ≡ a → bytes_eq other name ≡ b → a ≡ b
    by true true is so = refl
    by false false is so = refl
    by true false is so = sym ((bytes_eq-Decides other name).1 (sym (is_same name other is))) ∙ so
    by false true is so = sym is ∙ (bytes_eq-Decides name other).1 (sym (is_same other name so))

pub turned_any : (name : List ℕ) (names : List (List ℕ)) → list_any (λ other. bytes_eq other name) names ≡ list_any (bytes_eq name) names
turned_any name [] = refl
turned_any name (x ∷ names) = ap (λ b. b || list_any (λ other. bytes_eq other name) names) (turned x name) ∙ ap (λ b. bytes_eq name x || b) (turned_any name names)

-- ---- among

pub among_in : (names : List (List ℕ)) (name : List ℕ) → is_among names name ≡ true → Contains names name
among_in [] name is = absurd cc
among_in (x ∷ names) name is =
    ⊎_elim (λ here. let P : List ℕ → Type 0 = λ y. Contains (x ∷ names) y in subst P (sym (is_same name x here)) (first_in x names))
    (λ there. later_in x names name (among_in names name there)) (either (bytes_eq name x) (is_among names name) is)

pub in_among : (names : List (List ℕ)) (name : List ℕ) → Contains names name → is_among names name ≡ true
in_among [] name at = absurd (none_in name at)
in_among (x ∷ names) name at =
    ⊎_elim (λ here. or_left (bytes_eq name x) (is_among names name) ((bytes_eq-Decides name x).1 (sym here)))
    (λ there. or_right (bytes_eq name x) (is_among names name) (in_among names name there)) (in_cases x names name at)

pub among_joined : (names others : List (List ℕ)) (name : List ℕ) → is_among (names ++ others) name ≡ (is_among names name || is_among others name)
among_joined [] others name = refl
among_joined (x ∷ names) others name =
    ap (λ b. bytes_eq name x || b) (among_joined names others name) ∙ sym (or_groups (bytes_eq name x) (is_among names name) (is_among others name))

pub among_one : (name other : List ℕ) → is_among (other ∷ []) name ≡ bytes_eq name other
among_one name other = or_none (bytes_eq name other)

-- names with more names
pub among_all : (names more : List (List ℕ)) (name : List ℕ) → is_among (fold with_name names more) name ≡ (is_among names name || is_among more name)
among_all names [] name = sym (or_none (is_among names name))
among_all names (x ∷ more) name =
    among_all (with_name names x) more name ∙ ap (λ b. b || is_among more name) (put_those name x names)
    ∙ or_groups (is_among names name) (bytes_eq name x) (is_among more name)

pub fold_joined : (names more others : List (List ℕ)) → fold with_name names (more ++ others) ≡ fold with_name (fold with_name names more) others
fold_joined names [] others = refl
fold_joined names (x ∷ more) others = fold_joined (with_name names x) more others

-- ---- new names

pub new_joined : (names more others : List (List ℕ)) → AreNew names more → AreNew (fold with_name names more) others → AreNew names (more ++ others)
new_joined names [] others new also = also
new_joined names (x ∷ more) others new also = (new.0, new_joined (with_name names x) more others new.1 also)

pub new_front : (names more others : List (List ℕ)) → AreNew names (more ++ others) → AreNew names more × AreNew (fold with_name names more) others
new_front names [] others new = (tt, new)
new_front names (x ∷ more) others new = let both = new_front (with_name names x) more others new.1 in ((new.0, both.0), both.1)

-- new names are among those that were not
pub none_of_new : (names more : List (List ℕ)) (name : List ℕ) → AreNew names more → is_among more name ≡ true → is_among names name ≡ false
none_of_new names [] name new is = absurd cc
none_of_new names (x ∷ more) name new is =
    ⊎_elim (λ here. ap (is_among names) (is_same name x here) ∙ new.0)
    (λ there. first_false (is_among names name) (bytes_eq name x) (sym (put_those name x names) ∙ none_of_new (with_name names x) more name new.1 there))
    (either (bytes_eq name x) (is_among more name) is)
  where
    first_false : (a b : Bool) → (a || b) ≡ false → a ≡ false
    first_false true b is = absurd cc
    first_false false b is = refl

pub grows_none : (names fresh : List (List ℕ)) → Grows names fresh names fresh
grows_none names fresh = record { more = []; longer = sym (none_after fresh); new = tt; whole = refl }
  where
    none_after : (xs : List (List ℕ)) → xs ++ [] ≡ xs
    none_after [] = refl
    none_after (x ∷ xs) = ap (λ ys. x ∷ ys) (none_after xs)

pub grows_on : (a f b g c h : List (List ℕ)) → Grows a f b g → Grows b g c h → Grows a f c h
grows_on a f b g c h one other = record {
  more = one.more ++ other.more;
  longer = other.longer ∙ ap (λ xs. xs ++ other.more) one.longer ∙ append_assoc f one.more other.more;
  new = new_joined a one.more other.more one.new (let P : List (List ℕ) → Type 0 = λ xs. AreNew xs other.more in subst P one.whole other.new);
  whole = other.whole ∙ ap (λ xs. fold with_name xs other.more) one.whole ∙ sym (fold_joined a one.more other.more);
}

pub grows_one : (name : List ℕ) (a f b g : List (List ℕ)) → AddsOne name a f b g → Grows a f b g
grows_one name a f b g adds = by (is_among a name) refl adds
  where
    by : (t : Bool) → is_among a name ≡ t → (b ≡ cond t a (with_name a name)) × (g ≡ cond t f (f ++ name ∷ [])) → Grows a f b g
    by true is adds =
        let P : List (List ℕ) → Type 0 = λ x. Grows a f x g in
        let Q : List (List ℕ) → Type 0 = λ x. Grows a f a x in
        subst P (sym adds.0) (subst Q (sym adds.1) (grows_none a f))
    by false is adds = record { more = name ∷ []; longer = adds.1; new = (is, tt); whole = adds.0 }

-- what is among the names once more came
pub grown_among : (a f b g : List (List ℕ)) (h : Grows a f b g) (name : List ℕ) → is_among b name ≡ (is_among a name || is_among h.more name)
grown_among a f b g h name = ap (λ xs. is_among xs name) h.whole ∙ among_all a h.more name

pub still_among : (a f b g : List (List ℕ)) → Grows a f b g → (name : List ℕ) → is_among a name ≡ true → is_among b name ≡ true
still_among a f b g h name is = grown_among a f b g h name ∙ or_left (is_among a name) (is_among h.more name) is

pub one_among : (name : List ℕ) (a f b g : List (List ℕ)) → AddsOne name a f b g → is_among b name ≡ true
one_among name a f b g adds = by (is_among a name) refl adds
  where
    by : (t : Bool) → is_among a name ≡ t → (b ≡ cond t a (with_name a name)) × (g ≡ cond t f (f ++ name ∷ [])) → is_among b name ≡ true
    by true is adds = ap (λ xs. is_among xs name) adds.0 ∙ is
    by false is adds = ap (λ xs. is_among xs name) adds.0 ∙ put_those name name a ∙ or_right (is_among a name) (bytes_eq name name) (same_name name)

-- the new one of one name is that name
one_only : (name : List ℕ) (a f b g : List (List ℕ)) (adds : AddsOne name a f b g) (other : List ℕ) → is_among b other ≡ true → (is_among a other ≡ true) ⊎ (other ≡ name)
one_only name a f b g adds other is = by (is_among a name) refl adds
  where
    by : (t : Bool) → is_among a name ≡ t → (b ≡ cond t a (with_name a name)) × (g ≡ cond t f (f ++ name ∷ [])) → (is_among a other ≡ true) ⊎ (other ≡ name)
    by true so adds = inl (ap (λ xs. is_among xs other) (sym adds.0) ∙ is)
    by false so adds =
        ⊎_elim (λ was. inl was) (λ same. inr (is_same other name same))
        (either (is_among a other) (bytes_eq other name) (sym (put_those other name a) ∙ ap (λ xs. is_among xs other) (sym adds.0) ∙ is))

-- ---- several names

pub adds_none : (a f : List (List ℕ)) → AddsAll [] a f a f
unfolding grows_none
adds_none a f = record { grows = grows_none a f; has = λ name is. absurd (let e : false ≡ true = is in cc); only = λ name is. is }

pub adds_more : (names : List (List ℕ)) (name : List ℕ) (a f b g c h : List (List ℕ)) → AddsAll names a f b g → AddsOne name b g c h → AddsAll (names ++ name ∷ []) a f c h
unfolding grows_on
adds_more names name a f b g c h all one =
    let both = grows_on a f b g c h all.grows (grows_one name b g c h one) in
    record {
      grows = both;
      has = λ other is.
          ⊎_elim (λ was. still_among b g c h (grows_one name b g c h one) other (all.has other was))
          (λ now. let P : List ℕ → Type 0 = λ x. is_among c x ≡ true in subst P (sym (is_same other name (sym (among_one other name) ∙ now))) (one_among name b g c h one))
          (either (is_among names other) (is_among (name ∷ []) other) (sym (among_joined names (name ∷ []) other) ∙ is));
      only = λ other is.
          among_joined names (name ∷ []) other
          ∙ ⊎_elim (λ was. or_left (is_among names other) (is_among (name ∷ []) other) (all.only other was))
          (λ now. or_right (is_among names other) (is_among (name ∷ []) other) (among_one other name ∙ last other now))
          (either (is_among all.grows.more other) (is_among (grows_one name b g c h one).more other) (sym (among_joined all.grows.more (grows_one name b g c h one).more other) ∙ is));
    }
  where
    last : (other : List ℕ) → is_among (grows_one name b g c h one).more other ≡ true → bytes_eq other name ≡ true
    last other is =
        let new = none_of_new b (grows_one name b g c h one).more other (grows_one name b g c h one).new is in
        let there = grown_among b g c h (grows_one name b g c h one) other ∙ or_right (is_among b other) (is_among (grows_one name b g c h one).more other) is in
        ⊎_elim (λ was. absurd (let e : false ≡ true = sym new ∙ was in cc)) (λ same. ap (bytes_eq other) (sym same) ∙ same_name other) (one_only name b g c h one other there)

pub adds_step : (names : List (List ℕ)) (i : ℕ) (name : List ℕ) (a f b g c h : List (List ℕ)) → i < length names → name ≡ get_or names i name
    → AddsAll (take i names) a f b g → AddsOne name b g c h → AddsAll (take (i + 1) names) a f c h
adds_step names i name a f b g c h within is all one =
    let P : List (List ℕ) → Type 0 = λ xs. AddsAll xs a f c h in
    subst P (ap (λ x. take i names ++ x ∷ []) is ∙ sym (take_more names i name within)) (adds_more (take i names) name a f b g c h all one)

pub adds_all : (names : List (List ℕ)) (n : ℕ) (a f b g : List (List ℕ)) → n ≡ length names → AddsAll (take n names) a f b g → AddsAll names a f b g
adds_all names n a f b g all h =
    let P : List (List ℕ) → Type 0 = λ xs. AddsAll xs a f b g in subst P (ap (λ k. take k names) all ∙ whole names) h
  where
    whole : (xs : List (List ℕ)) → take (length xs) xs ≡ xs
    whole [] = refl
    whole (x ∷ xs) = ap (λ ys. x ∷ ys) (whole xs)

-- ---- how many are missing

abbrev lacks : List (List ℕ) → List ℕ → Bool
lacks names name = not (is_among names name)

fewer_by : (b c : Bool) (name : List ℕ) (xs ys : List (List ℕ)) → (c ≡ true → b ≡ true) → length xs ≤ length ys → length (cond c (name ∷ xs) xs) ≤ length (cond b (name ∷ ys) ys)
fewer_by true true name xs ys on le = omega (arith, le)
fewer_by true false name xs ys on le = omega (arith, le)
fewer_by false true name xs ys on le = let e : false ≡ true = on refl in absurd cc
fewer_by false false name xs ys on le = le

lacks_still : (names : List (List ℕ)) (one name : List ℕ) → lacks (with_name names one) name ≡ true → lacks names name ≡ true
lacks_still names one name is = by (is_among names name) (bytes_eq name one) (ap not (sym (put_those name one names)) ∙ is)
  where
    by : (a b : Bool) → not (a || b) ≡ true → not a ≡ true
    by true b is = is
    by false b is = refl

fewer : (some names : List (List ℕ)) (one : List ℕ) → count_missing some (with_name names one) ≤ count_missing some names
fewer [] names one = omega arith
fewer (x ∷ some) names one =
    fewer_by (lacks names x) (lacks (with_name names one) x) x (filter (lacks (with_name names one)) some) (filter (lacks names) some) (lacks_still names one x) (fewer some names one)

less_by : (b : Bool) (name : List ℕ) (xs ys : List (List ℕ)) → length xs + 1 ≤ length ys → length (cond b (name ∷ xs) xs) + 1 ≤ length (cond b (name ∷ ys) ys)
less_by true name xs ys le = omega (arith, le)
less_by false name xs ys le = le

less_here : (b c : Bool) (name : List ℕ) (xs ys : List (List ℕ)) → b ≡ true → c ≡ false → length xs ≤ length ys → length (cond c (name ∷ xs) xs) + 1 ≤ length (cond b (name ∷ ys) ys)
less_here true true name xs ys is so le = absurd cc
less_here true false name xs ys is so le = omega (arith, le)
less_here false c name xs ys is so le = absurd cc

pub less : (some names : List (List ℕ)) (one : List ℕ) → is_among names one ≡ false → is_among some one ≡ true → count_missing some (with_name names one) + 1 ≤ count_missing some names
less [] names one new is = absurd cc
less (x ∷ some) names one new is = by (bytes_eq one x) refl (λ there. less some names one new there)
  where
    by : (t : Bool) → bytes_eq one x ≡ t → (is_among some one ≡ true → count_missing some (with_name names one) + 1 ≤ count_missing some names)
        → count_missing (x ∷ some) (with_name names one) + 1 ≤ count_missing (x ∷ some) names
    by true same rest =
        less_here (lacks names x) (lacks (with_name names one) x) x (filter (lacks (with_name names one)) some) (filter (lacks names) some)
        (ap not (ap (is_among names) (sym (is_same one x same)) ∙ new))
        (ap not (put_those x one names ∙ or_right (is_among names x) (bytes_eq x one) (turned x one ∙ same)))
        (fewer some names one)
    by false apart rest =
        let there = ⊎_elim (λ here. absurd (let e : false ≡ true = sym apart ∙ here in cc)) (λ later. later) (either (bytes_eq one x) (is_among some one) is) in
        let P : Bool → Type 0 = λ b. length (cond b (x ∷ filter (lacks (with_name names one)) some) (filter (lacks (with_name names one)) some)) + 1 ≤ count_missing (x ∷ some) names in
        subst P (ap not (sym (put_those x one names ∙ ap (λ b. is_among names x || b) (turned x one ∙ apart) ∙ or_none (is_among names x))))
        (less_by (lacks names x) x (filter (lacks (with_name names one)) some) (filter (lacks names) some) (rest there))

-- new names out of some leave as many fewer missing
pub all_less : (some names more : List (List ℕ)) → AreNew names more → ((name : List ℕ) → is_among more name ≡ true → is_among some name ≡ true)
    → count_missing some (fold with_name names more) + length more ≤ count_missing some names
all_less some names [] new within = omega arith
all_less some names (x ∷ more) new within =
    let one = less some names x new.0 (within x (or_left (bytes_eq x x) (is_among more x) (same_name x))) in
    let rest = all_less some (with_name names x) more new.1 (λ name is. within name (or_right (bytes_eq name x) (is_among more name) is)) in
    omega (arith, one, rest)

-- ---- a name that came last is taken back

pub taken_back : (names : List (List ℕ)) (name : List ℕ) → is_among names name ≡ false → remove_key (λ key. is_eq (slice_cmp nat_cmp name key)) (with_name names name) ≡ names
taken_back [] name new = ap (λ b. cond b [] (name ∷ [])) (is_eq-slice_cmp name name ∙ same_name name)
taken_back (x ∷ names) name new = by (byte_order name x) refl (taken_back names name (rest (bytes_eq name x) (is_among names name) new))
  where
    rest : (a b : Bool) → (a || b) ≡ false → b ≡ false
    rest true b is = absurd cc
    rest false b is = is

    first : (a b : Bool) → (a || b) ≡ false → a ≡ false
    first true b is = absurd cc
    first false b is = refl

    test : List ℕ → Bool
    test key = is_eq (slice_cmp nat_cmp name key)

    by : (r : Ordering) → byte_order name x ≡ r → remove_key (λ key. is_eq (slice_cmp nat_cmp name key)) (with_name names name) ≡ names
        → remove_key (λ key. is_eq (slice_cmp nat_cmp name key)) (match_ordering r (name ∷ x ∷ names) (x ∷ names) (x ∷ with_name names name)) ≡ x ∷ names
    by Less is more = ap (λ b. cond b (x ∷ names) (name ∷ remove_key (λ key. is_eq (slice_cmp nat_cmp name key)) (x ∷ names))) (is_eq-slice_cmp name name ∙ same_name name)
    by Equal is more =
        let e : false ≡ true = sym (first (bytes_eq name x) (is_among names name) new) ∙ (bytes_eq-Decides name x).1 (exact_bytes name x is) in cc
    by Greater is more =
        ap (λ r. cond (is_eq r) (with_name names name) (x ∷ remove_key (λ key. is_eq (slice_cmp nat_cmp name key)) (with_name names name))) is ∙ ap (λ xs. x ∷ xs) more

-- ---- what stays of a name that is taken away

pub removed_those : (name other : List ℕ) (keys : List (List ℕ)) → cond (is_eq (slice_cmp nat_cmp name other)) false (list_any (λ key. is_eq (slice_cmp nat_cmp other key)) keys)
    ≡ (is_among keys other && not (is_among (name ∷ []) other))
removed_those name other keys =
    ap (λ b. cond b false (list_any (λ key. is_eq (slice_cmp nat_cmp other key)) keys)) (is_eq-slice_cmp name other ∙ turned name other)
    ∙ ap (λ b. cond (bytes_eq other name) false b) (same_test other keys) ∙ by (bytes_eq other name) (is_among keys other)
  where
    by : (b k : Bool) → cond b false k ≡ (k && not (b || false))
    by true true = refl
    by true false = refl
    by false true = refl
    by false false = refl

pub grows_from : (a f b g : List (List ℕ)) → f ≡ [] → Grows a f b g → Grows a [] b g
grows_from a f b g none h = let P : List (List ℕ) → Type 0 = λ xs. Grows a xs b g in subst P none h
