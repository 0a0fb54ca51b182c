-- Elements that are found by their keys where keys rise.
use Rattle.std.proofs.Common.{◌≡◌, ℕ, suc, ◌+◌, List, [], ◌∷◌, ◌++◌, length, map, filter, fold, Bool, true, false, not, ◌||◌, cond, ⊎_elim, refl, sym, ◌∙◌, ap, subst, arith}
use Rattle.std.specs.Prelude.{Contains, bytes_eq, find}
use Rattle.std.specs.List.{AllByRecursion, list_any}
use Rattle.std.specs.List.Sorted.{IsStrictlySortedBy}
use Rattle.std.specs.Ordering.{is_eq, is_gt, match_ordering, ordering_reverse}
use Rattle.std.specs.declared.cmp.Ordering.{Ordering}
use Rattle.std.specs.declared.cmp.Ordering.TheVariants.{Less, Equal, Greater}
use Rattle.std.specs.declared.option.Option.TheVariants.{None, Some}
use Rattle.std.proofs.lemmas.Cmp.{nat_list_cmp_total}
use Rattle.std.proofs.lemmas.Map.Text.{is_eq-slice_cmp}
use Rattle.opam_names.specs.ByteOrderLaws.{TextsRise}
use Rattle.opam_names.specs.ByteOrders.{RisesBy, byte_order, each_once, has_key}
use Rattle.opam_filter.specs.NameSets.{with_name}
use Rattle.lock_check.specs.Chased.{is_among}
use Rattle.lock_check.specs.Growth.{AreNew}
use Rattle.lock_check.proofs.Among.{among_all, among_in, among_joined, among_one, fold_joined, in_among, is_same, none_of_new, or_groups, or_left, or_right, same_name}
use Rattle.lock_check.proofs.Members.{first_in, in_cases, later_in, none_in}

abbrev pub Members : Type 0
Members = (xs ys : List (List ℕ)) → RisesBy (λ name. name) xs → RisesBy (λ name. name) ys → ((x : List ℕ) → Contains xs x → Contains ys x)
    → ((x : List ℕ) → Contains ys x → Contains xs x) → xs ≡ ys

-- ---- found by a test

pub find_missing : {X : Type 0} (test : X → Bool) (xs : List X) → ((x : X) → Contains xs x → test x ≡ false) → find test xs ≡ None
find_missing test [] none = refl
find_missing test (x ∷ xs) none =
    ap (λ b. cond b (Some x) (find test xs)) (none x (first_in x xs)) ∙ find_missing test xs (λ y at. none y (later_in x xs y at))

pub found_in : {X : Type 0} (test : X → Bool) (xs : List X) (x : X) → find test xs ≡ Some x → Contains xs x × (test x ≡ true)
found_in test [] x is = absurd cc
found_in {X} test (y ∷ xs) x is = by (test y) refl is (found_in test xs x)
  where
    by : (b : Bool) → test y ≡ b → cond b (Some y) (find test xs) ≡ Some x → (find test xs ≡ Some x → Contains xs x × (test x ≡ true)) → Contains (y ∷ xs) x × (test x ≡ true)
    by true passes same rest =
        let e : y ≡ x = cc in
        let P : X → Type 0 = λ z. Contains (y ∷ xs) z × (test z ≡ true) in subst P e (first_in y xs, passes)
    by false passes same rest = let c = rest same in (later_in y xs x c.0, c.1)

pub find_pushed : {X : Type 0} (test : X → Bool) (xs : List X) (m : X) → test m ≡ false → find test (xs ++ m ∷ []) ≡ find test xs
find_pushed test [] m fails = ap (λ b. cond b (Some m) None) fails
find_pushed test (x ∷ xs) m fails = ap (λ r. cond (test x) (Some x) r) (find_pushed test xs m fails)

pub find_last : {X : Type 0} (test : X → Bool) (xs : List X) (m : X) → list_any test xs ≡ false → test m ≡ true → find test (xs ++ m ∷ []) ≡ Some m
find_last test [] m none passes = ap (λ b. cond b (Some m) None) passes
find_last test (x ∷ xs) m none passes = by (test x) refl none (λ rest. find_last test xs m rest passes)
  where
    by : (b : Bool) → test x ≡ b → (b || list_any test xs) ≡ false → (list_any test xs ≡ false → find test (xs ++ m ∷ []) ≡ Some m) → cond (test x) (Some x) (find test (xs ++ m ∷ [])) ≡ Some m
    by true is so rest = absurd cc
    by false is so rest = ap (λ b. cond b (Some x) (find test (xs ++ m ∷ []))) is ∙ rest so

pub any_joined : {X : Type 0} (test : X → Bool) (xs ys : List X) → list_any test (xs ++ ys) ≡ (list_any test xs || list_any test ys)
any_joined test [] ys = refl
any_joined test (x ∷ xs) ys = ap (λ b. test x || b) (any_joined test xs ys) ∙ sym (or_groups (test x) (list_any test xs) (list_any test ys))

pub any_none : {X : Type 0} (test : X → Bool) (xs : List X) → ((x : X) → Contains xs x → test x ≡ false) → list_any test xs ≡ false
any_none test [] none = refl
any_none test (x ∷ xs) none = ap (λ b. b || list_any test xs) (none x (first_in x xs)) ∙ any_none test xs (λ y at. none y (later_in x xs y at))

pub any_of : {X : Type 0} (test : X → Bool) (xs : List X) (x : X) → Contains xs x → test x ≡ true → list_any test xs ≡ true
any_of test [] x at passes = absurd (none_in x at)
any_of {X} test (y ∷ xs) x at passes =
    ⊎_elim (λ same. or_left (test y) (list_any test xs) (ap test same ∙ passes)) (λ later. or_right (test y) (list_any test xs) (any_of test xs x later passes)) (in_cases y xs x at)

pub none_any : {X : Type 0} (test : X → Bool) (xs : List X) (x : X) → list_any test xs ≡ false → Contains xs x → test x ≡ false
none_any test xs x none at = by (test x) refl
  where
    by : (b : Bool) → test x ≡ b → b ≡ false
    by true is = let e : false ≡ true = sym none ∙ any_of test xs x at is in cc
    by false is = refl

-- ---- where keys rise

less_apart : (a b : List ℕ) → byte_order a b ≡ Less → bytes_eq a b ≡ false
less_apart a b is = sym (is_eq-slice_cmp a b) ∙ ap is_eq is

less_back : (a b : List ℕ) → byte_order a b ≡ Less → is_gt (byte_order b a) ≡ true
less_back a b is = ap is_gt (nat_list_cmp_total.antisymm b a ∙ ap ordering_reverse is)

module _ {X : Type 0} (key : X → List ℕ) where
  after_all : (name : List ℕ) (xs : List X) (x : X) → AllByRecursion (λ y. byte_order name y ≡ Less) (map key xs) → Contains xs x → byte_order name (key x) ≡ Less
  after_all name [] x all at = absurd (none_in x at)
  after_all name (y ∷ xs) x all at =
      ⊎_elim (λ same. ap (λ z. byte_order name (key z)) (sym same) ∙ all.0) (λ later. after_all name xs x all.1 later) (in_cases y xs x at)

  -- an element is found by its key
  pub rises_found : (xs : List X) → RisesBy key xs → (x : X) → Contains xs x → find (has_key key (key x)) xs ≡ Some x
  unfolding IsStrictlySortedBy
  rises_found [] rises x at = absurd (none_in x at)
  rises_found (y ∷ xs) rises x at =
      ⊎_elim
      (λ same. ap (λ b. cond b (Some y) (find (has_key key (key x)) xs)) (ap (λ z. bytes_eq (key z) (key x)) same ∙ same_name (key x)) ∙ ap Some same)
      (λ later. ap (λ b. cond b (Some y) (find (has_key key (key x)) xs)) (less_apart (key y) (key x) (after_all (key y) xs x rises.0 later)) ∙ rises_found xs rises.1 x later)
      (in_cases y xs x at)

  -- of those that pass a test the one with the least key is found
  pub least_found : (test : X → Bool) (xs : List X) → RisesBy key xs → (x : X) → Contains xs x → test x ≡ true
      → ((y : X) → Contains xs y → test y ≡ true → is_gt (byte_order (key x) (key y)) ≡ false) → find test xs ≡ Some x
  unfolding IsStrictlySortedBy
  least_found test [] rises x at passes least = absurd (none_in x at)
  least_found test (y ∷ xs) rises x at passes least = by (test y) refl (λ later. least_found test xs rises.1 x later passes (λ z there. least z (later_in y xs z there)))
    where
      by : (b : Bool) → test y ≡ b → (Contains xs x → find test xs ≡ Some x) → cond b (Some y) (find test xs) ≡ Some x
      by true is rest =
          ⊎_elim (λ same. ap Some same)
          (λ later. absurd (let e : true ≡ false = sym (less_back (key y) (key x) (after_all (key y) xs x rises.0 later)) ∙ least y (first_in y xs) is in cc))
          (in_cases y xs x at)
      by false is rest =
          ⊎_elim (λ same. absurd (let e : false ≡ true = sym is ∙ ap test same ∙ passes in cc)) (λ later. rest later) (in_cases y xs x at)

-- ---- texts each once

pub once_same : TextsRise → Members → (xs ys : List (List ℕ)) → ((name : List ℕ) → is_among xs name ≡ is_among ys name) → each_once xs ≡ each_once ys
once_same law members xs ys same =
    members (each_once xs) (each_once ys) (law.rising xs) (law.rising ys)
    (λ x at. among_in (each_once ys) x (law.members ys x ∙ sym (same x) ∙ sym (law.members xs x) ∙ in_among (each_once xs) x at))
    (λ x at. among_in (each_once xs) x (law.members xs x ∙ same x ∙ sym (law.members ys x) ∙ in_among (each_once ys) x at))

-- those that rise are each once already
pub once_rising : TextsRise → Members → (xs : List (List ℕ)) → RisesBy (λ name. name) xs → each_once xs ≡ xs
once_rising law members xs rises =
    members (each_once xs) xs (law.rising xs) rises
    (λ x at. among_in xs x (sym (law.members xs x) ∙ in_among (each_once xs) x at))
    (λ x at. among_in (each_once xs) x (law.members xs x ∙ in_among xs x at))

-- with more names they rise
pub rising_more : TextsRise → Members → (xs more all : List (List ℕ)) → RisesBy (λ name. name) xs → all ≡ fold with_name xs more → RisesBy (λ name. name) all
rising_more law members xs more all rises is =
    let P : List (List ℕ) → Type 0 = λ names. RisesBy (λ name. name) names in
    subst P (fold_joined [] xs more ∙ ap (λ ys. fold with_name ys more) (once_rising law members xs rises) ∙ sym is) (law.rising (xs ++ more))

put_longer : (names : List (List ℕ)) (name : List ℕ) → is_among names name ≡ false → length (with_name names name) ≡ length names + 1
put_longer [] name new = refl
put_longer (x ∷ names) name new = by (byte_order name x) refl (λ apart. put_longer names name apart)
  where
    first : (a b : Bool) → (a || b) ≡ false → a ≡ false
    first true b is = absurd cc
    first false b is = refl

    rest : (a b : Bool) → (a || b) ≡ false → b ≡ false
    rest true b is = absurd cc
    rest false b is = is

    up : (a b : ℕ) → a ≡ b + 1 → suc a ≡ suc b + 1
    up a b is = grind arith

    more : suc (suc (length names)) ≡ suc (length names) + 1
    more = grind arith

    by : (r : Ordering) → byte_order name x ≡ r → (is_among names name ≡ false → length (with_name names name) ≡ length names + 1)
        → length (match_ordering r (name ∷ x ∷ names) (x ∷ names) (x ∷ with_name names name)) ≡ length (x ∷ names) + 1
    by Less is shorter = more
    by Equal is shorter = let e : true ≡ false = sym (ap is_eq is) ∙ is_eq-slice_cmp name x ∙ first (bytes_eq name x) (is_among names name) new in cc
    by Greater is shorter = up (length (with_name names name)) (length names) (shorter (rest (bytes_eq name x) (is_among names name) new))

put_here : (x name : List ℕ) (names : List (List ℕ)) → bytes_eq name x ≡ true → is_among (with_name names x) name ≡ true
put_here x name names is = among_all names (x ∷ []) name ∙ or_right (is_among names name) (is_among (x ∷ []) name) (among_one name x ∙ is)

-- how many names there are with more, of which those count that were not there
pub once_longer : TextsRise → Members → (test : List ℕ → Bool) (before names more : List (List ℕ)) → AreNew before more
    → ((name : List ℕ) → is_among more name ≡ true → is_among names name ≡ not (test name)) → length (each_once (names ++ more)) ≡ length (each_once names) + length (filter test more)
once_longer law members test before names [] new same = ap (λ xs. length (each_once xs)) (none_after names) ∙ sym (plus_none (length (each_once names)))
  where
    none_after : (xs : List (List ℕ)) → xs ++ [] ≡ xs
    none_after [] = refl
    none_after (x ∷ xs) = ap (λ ys. x ∷ ys) (none_after xs)

    plus_none : (n : ℕ) → n + 0 ≡ n
    plus_none n = grind arith
once_longer law members test before names (x ∷ more) new same =
    ap (λ xs. length (each_once xs)) (next names)
    ∙ once_longer law members test (with_name before x) (names ++ x ∷ []) more new.1 rest_same
    ∙ by (test x) refl
  where
    next : (xs : List (List ℕ)) → xs ++ x ∷ more ≡ (xs ++ x ∷ []) ++ more
    next [] = refl
    next (y ∷ xs) = ap (λ ys. y ∷ ys) (next xs)

    apart : (name : List ℕ) → is_among more name ≡ true → bytes_eq name x ≡ false
    apart name there = by_name (bytes_eq name x) refl
      where
        by_name : (b : Bool) → bytes_eq name x ≡ b → b ≡ false
        by_name false is = refl
        by_name true is =
            let gone = none_of_new (with_name before x) more name new.1 there in
            let here : is_among (with_name before x) name ≡ true = put_here x name before is in
            let e : false ≡ true = sym gone ∙ here in cc

    rest_same : (name : List ℕ) → is_among more name ≡ true → is_among (names ++ x ∷ []) name ≡ not (test name)
    rest_same name there =
        among_joined names (x ∷ []) name ∙ ap (λ b. is_among names name || b) (among_one name x ∙ apart name there) ∙ or_off (is_among names name)
        ∙ same name (or_right (bytes_eq name x) (is_among more name) there)
      where
        or_off : (a : Bool) → (a || false) ≡ a
        or_off true = refl
        or_off false = refl

    here : is_among names x ≡ not (test x)
    here = same x (or_left (bytes_eq x x) (is_among more x) (same_name x))

    by : (b : Bool) → test x ≡ b → length (each_once (names ++ x ∷ [])) + length (filter test more) ≡ length (each_once names) + length (filter test (x ∷ more))
    by true is =
        let one : length (each_once (names ++ x ∷ [])) ≡ length (each_once names) + 1 =
        ap length (fold_joined [] names (x ∷ [])) ∙ put_longer (each_once names) x (law.members names x ∙ here ∙ ap not is) in
        let more_is : length (filter test (x ∷ more)) ≡ suc (length (filter test more)) = ap (λ b. length (cond b (x ∷ filter test more) (filter test more))) is in
        omega (arith, one, more_is)
    by false is =
        let one : each_once (names ++ x ∷ []) ≡ each_once names =
        once_same law members (names ++ x ∷ []) names (λ name. among_joined names (x ∷ []) name ∙ ap (λ b. is_among names name || b) (among_one name x) ∙ held name (bytes_eq name x) refl) in
        let more_is : length (filter test (x ∷ more)) ≡ length (filter test more) = ap (λ b. length (cond b (x ∷ filter test more) (filter test more))) is in
        omega (arith, ap length one, more_is)
      where
        held : (name : List ℕ) (b : Bool) → bytes_eq name x ≡ b → (is_among names name || b) ≡ is_among names name
        held name true same = ap (λ b. b || true) (ap (is_among names) (is_same name x same) ∙ here ∙ ap not is) ∙ sym (ap (is_among names) (is_same name x same) ∙ here ∙ ap not is)
        held name false same = off (is_among names name)
          where
            off : (a : Bool) → (a || false) ≡ a
            off true = refl
            off false = refl
