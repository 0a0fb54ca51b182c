-- What a package leads to, gathered by names.
use Rattle.std.proofs.Common.{◌≡◌, ℕ, suc, eqb, ◌+◌, ◌<◌, ◌≤◌, ◌⊎◌, ◌&&◌, ◌||◌, not, inl, inr, Bool, true, false, cond, List, [], ◌∷◌, ◌++◌, length, get_or, map, take, sym, ap, refl, ◌∙◌, arith, subst}
use Rattle.std.specs.Prelude.{slice_get, bytes_eq, Contains, OnOk, Result, Ok, Err}
use Rattle.std.specs.List.{IsDistinct, dedup, flat_map, list_any}
use Rattle.std.specs.List.Retain.{DiffersFromLast, IsFiltered}
use Rattle.std.specs.List.Sorted.{IsPermutation, IsSorted}
use Rattle.std.specs.Ordering.{nat_cmp}
use Rattle.std.specs.declared.option.Option.{Option}
use Rattle.std.specs.declared.option.Option.TheVariants.{None, Some}
use Rattle.std.proofs.lemmas.Bool.{and_parts, or_cases, true≢false}
use Rattle.std.proofs.lemmas.Grind.{flat_map-append}
use Rattle.std.proofs.lemmas.List.{append-nil, get_or_default, take_more}
use Rattle.std.proofs.lemmas.List.Folds.{list_any-append}
use Rattle.std.proofs.lemmas.List.Filters.{dedup_is}
use Rattle.std.proofs.lemmas.List.Kept.{Contains-dedup_nat, Contains-from_dedup}
use Rattle.std.proofs.lemmas.List.Sorted.{Contains-permutation, IsPermutation-sym}
use Rattle.std.proofs.lemmas.Map.Keys.{IsStrictlyIncreasing-dedup, below_from_sorted, sorted_from_strictly_increasing}
use Rattle.std.proofs.lemmas.Option.{slice_get-get_or}
use Rattle.opam_names.specs.ByteOrders.{has_key, place_of_key}
use Rattle.opam_names.specs.declared.packages.Pkg.{Pkg}
use Rattle.opam_names.proofs.ByteOrders.{equal_bytes, same_bytes}
use Rattle.opam_names.proofs.RisingLists.{each_once_members}
use Rattle.opam_filter.specs.NameSets.{in_byte_order}
use Rattle.opam_names.specs.declared.fault.OutOfMemory.{OutOfMemory}
use Rattle.opam_filter.specs.Sets.{kept_names, layer_kept, layer_meets, meets, names}
use Rattle.opam_filter.specs.Reductions.{is_met}
use Rattle.opam_filter.specs.declared.formula.Reduced.{Reduced, out-Reduced, roll-Reduced}
use Rattle.opam_filter.specs.declared.formula.Reduced.TheFolds.{fold-roll-Reduced, map-Reduced}
use Rattle.opam_filter.specs.declared.formula.Reduced.TheViews.{roll-out-Reduced}
use Rattle.opam_filter.specs.declared.formula.Reduced.TheOpen.{Reduced-F}
use Rattle.opam_package.specs.Dependencies.{is_built_with, is_edge, is_need, is_other, is_run_with, meets_one, names_it}
use Rattle.opam_package.specs.declared.package.Member.{Member}
use Rattle.opam_package.specs.declared.package.Need.{Need}
use Rattle.opam_package.specs.declared.package.Package.{Package}
use Rattle.action_graph.specs.Leaving.{name_of}
use Rattle.action_graph.specs.Links.{edge_places, need_places}
use Rattle.action_graph.specs.Looking.{Gathers, IsInOrder, Passes, atom_name, is_named_by, is_wished_by, layer_name, names_to_build, names_to_run}
use Rattle.action_graph.specs.Nodes.{first_place}
use Rattle.action_graph.specs.Places.{IsIn, places_from}
use Rattle.action_graph.proofs.Leading.{from_has, has_from}
use Rattle.action_graph.proofs.Lookups.{differ_first, first_none, first_passes, has_at, place_first}
use Rattle.action_graph.proofs.Membership.{in_last, in_left, in_push, none_in_nil}
use Rattle.action_graph.proofs.Placing.{in_cons, places_in}

-- ---- what is gathered

gathers_none : (members : List Member) (test : Member → Bool) (before : List ℕ) → ((p : ℕ) → Passes members test p → ⊥) → Gathers members test before before
gathers_none members test before none = record {
  kept = λ p is. is;
  only = λ p is. inl is;
  all = λ p passes. absurd (none p passes);
}

gathers_one : (members : List Member) (test : Member → Bool) (before now : List ℕ) (at : ℕ) → Passes members test at → ((p : ℕ) → Passes members test p → p ≡ at) → now ≡ before ++ at ∷ []
    → Gathers members test before now
gathers_one members test before now at here one is = let P : List ℕ → Type 0 = Gathers members test before in subst P (sym is) (record {
  kept = λ p there. in_left before (at ∷ []) p there;
  only = λ p there. elim (in_push before at p there) [
    | inl was ↦ inl was
    | inr same ↦ inr (let Q : ℕ → Type 0 = Passes members test in subst Q same here)
  ];
  all = λ p passes. (let Q : ℕ → Type 0 = IsIn (before ++ at ∷ []) in subst Q (sym (one p passes)) (in_last before at));
})

passes_map : (members : List Member) (test other : Member → Bool) → ((m : Member) → test m ≡ true → other m ≡ true) → (p : ℕ) → Passes members test p → Passes members other p
passes_map members test other by p passes = (passes.0, passes.1, by passes.0 passes.2)

gathers_both : (members : List Member) (one other test : Member → Bool) (before now next : List ℕ) → Gathers members one before now → Gathers members other now next
    → ((m : Member) → test m ≡ true → (one m ≡ true) ⊎ (other m ≡ true)) → ((m : Member) → one m ≡ true → test m ≡ true) → ((m : Member) → other m ≡ true → test m ≡ true)
    → Gathers members test before next
gathers_both members one other test before now next first second either left right = record {
  kept = λ p is. second.kept p (first.kept p is);
  only = λ p is. elim (second.only p is) [
    | inl was ↦ elim (first.only p was) [ inl earlier ↦ inl earlier | inr passes ↦ inr (passes_map members one test left p passes) ]
    | inr passes ↦ inr (passes_map members other test right p passes)
  ];
  all = λ p passes. elim (either passes.0 passes.2) [
    | inl on ↦ second.kept p (first.all p (passes.0, passes.1, on))
    | inr on ↦ second.all p (passes.0, passes.1, on)
  ];
}

-- ---- tests

or_right : (a b : Bool) → b ≡ true → (a || b) ≡ true
or_right true b on = refl
or_right false b on = on

and_true : (a b : Bool) → a ≡ true → b ≡ true → (a && b) ≡ true
and_true a b one other = ap (λ c. c && b) one ∙ other

-- a test of two parts, of which the second is of one of two
either_part : (o a b c : Bool) → c ≡ (a || b) → (o && c) ≡ true → ((o && a) ≡ true) ⊎ ((o && b) ≡ true)
either_part o a b c is on =
    let both = and_parts o c on in
    elim (or_cases a b (sym is ∙ both.1)) [ inl one ↦ inl (and_true o a both.0 one) | inr other ↦ inr (and_true o b both.0 other) ]

left_part : (o a b c : Bool) → c ≡ (a || b) → (o && a) ≡ true → (o && c) ≡ true
left_part o a b c is on = let both = and_parts o a on in and_true o c both.0 (is ∙ ap (λ d. d || b) both.1)

right_part : (o a b c : Bool) → c ≡ (a || b) → (o && b) ≡ true → (o && c) ≡ true
right_part o a b c is on = let both = and_parts o b on in and_true o c both.0 (is ∙ or_right a b both.1)

-- ---- a name

only_name : (dependent : Package) (name : List ℕ) (m : Member) → is_named_by dependent (name ∷ []) m ≡ true → name_of m ≡ name
only_name dependent name m on =
    let both = and_parts (is_other dependent m.package.pkg) (bytes_eq (name_of m) name || false) on in
    elim (or_cases (bytes_eq (name_of m) name) false both.1) [
      | inl same ↦ equal_bytes (name_of m) name same
      | inr none ↦ absurd (true≢false (sym none))
    ]

none_named : (members : List Member) (name : List ℕ) (place : Option ℕ) → place ≡ place_of_key name_of name members → place ≡ None → (p : ℕ) (m : Member) → slice_get members p ≡ Some m → name_of m ≡ name → ⊥
none_named members name place is none p m at same =
    true≢false (sym (has_at (has_key name_of name) members p m at (ap (bytes_eq (name_of m)) (sym same) ∙ same_bytes (name_of m)))
    ∙ first_none (has_key name_of name) members (sym (place_first name members) ∙ sym is ∙ none))

one_named : (members : List Member) (name : List ℕ) (place : Option ℕ) (at : ℕ) → IsDistinct bytes_eq (map name_of members) → place ≡ place_of_key name_of name members → place ≡ Some at
    → (p : ℕ) (m : Member) → slice_get members p ≡ Some m → name_of m ≡ name → p ≡ at
one_named members name place at differ is found p m there same =
    let e : Some p ≡ Some at =
    sym (differ_first name_of members p m differ there) ∙ ap (λ n. first_place (has_key name_of n) members) same ∙ sym (place_first name members) ∙ sym is ∙ found in cc

the_named : (members : List Member) (name : List ℕ) (place : Option ℕ) (at : ℕ) → place ≡ place_of_key name_of name members → place ≡ Some at
    → (m : Member) × (slice_get members at ≡ Some m) × (name_of m ≡ name)
the_named members name place at is found =
    let h = first_passes (has_key name_of name) members at (sym (place_first name members) ∙ sym is ∙ found) in
    (h.0, h.1, equal_bytes (name_of h.0) name h.2)

pub name_none : (members : List Member) (dependent : Package) (name : List ℕ) (place : Option ℕ) (before : List ℕ) → place ≡ place_of_key name_of name members → place ≡ None
    → Gathers members (is_named_by dependent (name ∷ [])) before before
name_none members dependent name place before is none =
    gathers_none members (is_named_by dependent (name ∷ [])) before (λ p passes. none_named members name place is none p passes.0 passes.1 (only_name dependent name passes.0 passes.2))

pub name_some : (members : List Member) (dependent : Package) (name : List ℕ) (place : Option ℕ) (at : ℕ) (before now : List ℕ) → IsDistinct bytes_eq (map name_of members)
    → place ≡ place_of_key name_of name members → place ≡ Some at → bytes_eq name dependent.pkg.name ≡ false → now ≡ before ++ at ∷ []
    → Gathers members (is_named_by dependent (name ∷ [])) before now
name_some members dependent name place at before now differ is found other pushed =
    let here = the_named members name place at is found in
    gathers_one members (is_named_by dependent (name ∷ [])) before now at (
      here.0,
      here.1,
      and_true (is_other dependent here.0.package.pkg) (bytes_eq (name_of here.0) name || false)
          (ap (λ n. not (bytes_eq n dependent.pkg.name)) here.2 ∙ ap not other)
          (ap (λ b. b || false) (ap (bytes_eq (name_of here.0)) (sym here.2) ∙ same_bytes (name_of here.0))),
    )
    (λ p passes. one_named members name place at differ is found p passes.0 passes.1 (only_name dependent name passes.0 passes.2)) pushed

pub names_none : (members : List Member) (dependent : Package) (before : List ℕ) → Gathers members (is_named_by dependent []) before before
names_none members dependent before =
    gathers_none members (is_named_by dependent []) before (λ p passes. true≢false (sym (and_parts (is_other dependent passes.0.package.pkg) false passes.2).1))

-- names of two lists, one after another
pub names_join : (members : List Member) (dependent : Package) (one other all : List (List ℕ)) (before now next : List ℕ)
    → Gathers members (is_named_by dependent one) before now → Gathers members (is_named_by dependent other) now next → all ≡ one ++ other
    → Gathers members (is_named_by dependent all) before next
names_join members dependent one other all before now next first second is =
    let split : (m : Member) → list_any (bytes_eq (name_of m)) all ≡ (list_any (bytes_eq (name_of m)) one || list_any (bytes_eq (name_of m)) other) =
    λ m. ap (list_any (bytes_eq (name_of m))) is ∙ list_any-append (bytes_eq (name_of m)) one other in
    gathers_both members (is_named_by dependent one) (is_named_by dependent other) (is_named_by dependent all) before now next first second
    (λ m. either_part (is_other dependent m.package.pkg) (list_any (bytes_eq (name_of m)) one) (list_any (bytes_eq (name_of m)) other) (list_any (bytes_eq (name_of m)) all) (split m))
    (λ m. left_part (is_other dependent m.package.pkg) (list_any (bytes_eq (name_of m)) one) (list_any (bytes_eq (name_of m)) other) (list_any (bytes_eq (name_of m)) all) (split m))
    (λ m. right_part (is_other dependent m.package.pkg) (list_any (bytes_eq (name_of m)) one) (list_any (bytes_eq (name_of m)) other) (list_any (bytes_eq (name_of m)) all) (split m))

pub names_next : (members : List Member) (dependent : Package) (all : List (List ℕ)) (i : ℕ) (d : List ℕ) (before now next : List ℕ)
    → Gathers members (is_named_by dependent (take i all)) before now → i < length all → Gathers members (is_named_by dependent (get_or all i d ∷ [])) now next
    → Gathers members (is_named_by dependent (take (i + 1) all)) before next
names_next members dependent all i d before now next so_far below one =
    names_join members dependent (take i all) (get_or all i d ∷ []) (take (i + 1) all) before now next so_far one (take_more all i d below)

-- ---- an atom

layer_names : (layer : Reduced-F Reduced) (pkg : Pkg) (name : List ℕ) → layer_meets pkg layer ≡ true → layer_name layer ≡ Some name → pkg.name ≡ name
layer_names Reduced-F.Dropped pkg name on is = absurd (true≢false (sym on))
layer_names (Reduced-F.And parts) pkg name on is = absurd (true≢false (sym on))
layer_names (Reduced-F.Or parts) pkg name on is = absurd (true≢false (sym on))
layer_names (Reduced-F.Atom one test) pkg name on is =
    let both = and_parts (bytes_eq pkg.name one) (is_met test pkg.version) on in
    let same : one ≡ name = cc in equal_bytes pkg.name one both.0 ∙ same

no_layer_meets : (layer : Reduced-F Reduced) (pkg : Pkg) → layer_name layer ≡ None → layer_meets pkg layer ≡ false
no_layer_meets Reduced-F.Dropped pkg is = refl
no_layer_meets (Reduced-F.And parts) pkg is = refl
no_layer_meets (Reduced-F.Or parts) pkg is = refl
no_layer_meets (Reduced-F.Atom one test) pkg is = absurd cc

wish_parts : (dependent : Package) (atom : Reduced) (m : Member) → is_wished_by dependent (atom ∷ []) m ≡ true → (is_other dependent m.package.pkg ≡ true) × (meets atom m.package.pkg ≡ true)
wish_parts dependent atom m on =
    let both = and_parts (is_other dependent m.package.pkg) (meets atom m.package.pkg || false) on in
    elim (or_cases (meets atom m.package.pkg) false both.1) [ inl met ↦ (both.0, met) | inr none ↦ absurd (true≢false (sym none)) ]

pub wish_no_name : (members : List Member) (dependent : Package) (atom : Reduced) (before : List ℕ) → atom_name atom ≡ None → Gathers members (is_wished_by dependent (atom ∷ [])) before before
wish_no_name members dependent atom before is =
    gathers_none members (is_wished_by dependent (atom ∷ [])) before
    (λ p passes. true≢false (sym (wish_parts dependent atom passes.0 passes.2).1 ∙ no_layer_meets (out-Reduced atom) passes.0.package.pkg is))

wish_name : (dependent : Package) (atom : Reduced) (name : List ℕ) (m : Member) → atom_name atom ≡ Some name → is_wished_by dependent (atom ∷ []) m ≡ true → name_of m ≡ name
wish_name dependent atom name m is on = layer_names (out-Reduced atom) m.package.pkg name (wish_parts dependent atom m on).1 is

pub wish_none : (members : List Member) (dependent : Package) (atom : Reduced) (name : List ℕ) (place : Option ℕ) (before : List ℕ) → atom_name atom ≡ Some name
    → place ≡ place_of_key name_of name members → place ≡ None → Gathers members (is_wished_by dependent (atom ∷ [])) before before
wish_none members dependent atom name place before is found none =
    gathers_none members (is_wished_by dependent (atom ∷ [])) before
    (λ p passes. none_named members name place found none p passes.0 passes.1 (wish_name dependent atom name passes.0 is passes.2))

pub wish_some : (members : List Member) (dependent : Package) (atom : Reduced) (name : List ℕ) (place : Option ℕ) (at : ℕ) (d : Member) (before now : List ℕ) → IsDistinct bytes_eq (map name_of members)
    → atom_name atom ≡ Some name → place ≡ place_of_key name_of name members → place ≡ Some at → at < length members
    → is_other dependent (get_or members at d).package.pkg ≡ true → meets atom (get_or members at d).package.pkg ≡ true → now ≡ before ++ at ∷ [] → Gathers members (is_wished_by dependent (atom ∷ [])) before now
wish_some members dependent atom name place at d before now differ is found some within other met pushed =
    gathers_one members (is_wished_by dependent (atom ∷ [])) before now at
    (get_or members at d, slice_get-get_or members at d within, and_true (is_other dependent (get_or members at d).package.pkg) (meets atom (get_or members at d).package.pkg || false) other (ap (λ b. b || false) met))
    (λ p passes. one_named members name place at differ found some p passes.0 passes.1 (wish_name dependent atom name passes.0 is passes.2)) pushed

pub wish_not : (members : List Member) (dependent : Package) (atom : Reduced) (name : List ℕ) (place : Option ℕ) (at : ℕ) (d : Member) (before : List ℕ) → IsDistinct bytes_eq (map name_of members)
    → atom_name atom ≡ Some name → place ≡ place_of_key name_of name members → place ≡ Some at → at < length members
    → (is_other dependent (get_or members at d).package.pkg ≡ true → meets atom (get_or members at d).package.pkg ≡ true → ⊥) → Gathers members (is_wished_by dependent (atom ∷ [])) before before
wish_not members dependent atom name place at d before differ is found some within never =
    gathers_none members (is_wished_by dependent (atom ∷ [])) before
    (λ p passes.
    let same = one_named members name place at differ found some p passes.0 passes.1 (wish_name dependent atom name passes.0 is passes.2) in
    let here : passes.0 ≡ get_or members at d =
    (let e : Some passes.0 ≡ Some (get_or members at d) = sym passes.1 ∙ ap (slice_get members) same ∙ slice_get-get_or members at d within in cc) in
    let both = wish_parts dependent atom passes.0 passes.2 in
    never (ap (λ (m : Member). is_other dependent m.package.pkg) (sym here) ∙ both.0) (ap (λ (m : Member). meets atom m.package.pkg) (sym here) ∙ both.1))

pub wishes_none : (members : List Member) (dependent : Package) (before : List ℕ) → Gathers members (is_wished_by dependent []) before before
wishes_none members dependent before =
    gathers_none members (is_wished_by dependent []) before (λ p passes. true≢false (sym (and_parts (is_other dependent passes.0.package.pkg) false passes.2).1))

pub wishes_next : (members : List Member) (dependent : Package) (all : List Reduced) (i : ℕ) (d : Reduced) (before now next : List ℕ)
    → Gathers members (is_wished_by dependent (take i all)) before now → i < length all → Gathers members (is_wished_by dependent (get_or all i d ∷ [])) now next
    → Gathers members (is_wished_by dependent (take (i + 1) all)) before next
wishes_next members dependent all i d before now next so_far below one =
    let split : (m : Member) → meets_one (take (i + 1) all) m.package.pkg ≡ (meets_one (take i all) m.package.pkg || meets_one (get_or all i d ∷ []) m.package.pkg) =
    λ m. ap (λ l. meets_one l m.package.pkg) (take_more all i d below) ∙ list_any-append (λ atom. meets atom m.package.pkg) (take i all) (get_or all i d ∷ []) in
    gathers_both members (is_wished_by dependent (take i all)) (is_wished_by dependent (get_or all i d ∷ [])) (is_wished_by dependent (take (i + 1) all)) before now next so_far one
    (λ m. either_part (is_other dependent m.package.pkg) (meets_one (take i all) m.package.pkg) (meets_one (get_or all i d ∷ []) m.package.pkg) (meets_one (take (i + 1) all) m.package.pkg) (split m))
    (λ m. left_part (is_other dependent m.package.pkg) (meets_one (take i all) m.package.pkg) (meets_one (get_or all i d ∷ []) m.package.pkg) (meets_one (take (i + 1) all) m.package.pkg) (split m))
    (λ m. right_part (is_other dependent m.package.pkg) (meets_one (take i all) m.package.pkg) (meets_one (get_or all i d ∷ []) m.package.pkg) (meets_one (take (i + 1) all) m.package.pkg) (split m))

-- ---- in order

has_in : (xs : List ℕ) (p : ℕ) → IsIn xs p → Contains xs p
has_in xs p is = (is.0, is.1, get_or_default xs is.0 p 0 is.1 ∙ is.2)

in_has : (xs : List ℕ) (p : ℕ) → Contains xs p → IsIn xs p
in_has xs p is = (is.0, is.1, get_or_default xs is.0 0 p is.1 ∙ is.2)

order_of : (before mid : List ℕ) → IsPermutation before mid → IsSorted nat_cmp mid → IsInOrder before (dedup eqb mid)
order_of before mid same sorted = record {
  rising = λ i j less below. below_from_sorted (dedup eqb mid) i j 0 (sorted_from_strictly_increasing (dedup eqb mid) (IsStrictlyIncreasing-dedup mid sorted)) less below;
  kept = λ p is. in_has (dedup eqb mid) p (Contains-dedup_nat mid p (Contains-permutation before mid p same (has_in before p is)));
  only = λ p is. in_has before p (Contains-permutation mid before p (IsPermutation-sym before mid same) (Contains-from_dedup eqb mid p (has_in (dedup eqb mid) p is)));
}

pub in_order : (before mid now : List ℕ) → IsPermutation before mid → IsSorted nat_cmp mid → IsFiltered (DiffersFromLast eqb) [] mid now → IsInOrder before now
in_order before mid now same sorted filtered =
    let P : List ℕ → Type 0 = IsInOrder before in subst P (sym (dedup_is eqb mid now filtered)) (order_of before mid same sorted)

-- ---- a list that rises is given by its numbers

abbrev Up : List ℕ → Type 0
Up [] = Unit {0}
Up (x ∷ xs) = ((y : ℕ) → IsIn xs y → x < y) × Up xs

up_of : (xs : List ℕ) → ((i j : ℕ) → i < j → j < length xs → get_or xs i 0 < get_or xs j 0) → Up xs
up_of [] rising = tt
up_of (x ∷ xs) rising =
    ((λ y is. (let P : ℕ → Type 0 = λ n. x < n in subst P is.2 (rising 0 (suc is.0) (omega arith) (omega (arith, is.1))))), up_of xs (λ i j less below. rising (suc i) (suc j) (omega (arith, less)) (omega (arith, below))))

up_from : {X : Type 0} (test : X → Bool) (at : ℕ) (xs : List X) → Up (places_from test at xs)
up_from test at [] = tt
up_from test at (x ∷ xs) = by (test x) (up_from test (at + 1) xs) (λ y is. places_in test (at + 1) xs y is)
  where
    by : (b : Bool) → Up (places_from test (at + 1) xs) → ((y : ℕ) → IsIn (places_from test (at + 1) xs) y → (at + 1 ≤ y) × (y < at + 1 + length xs))
        → Up (cond b (at ∷ places_from test (at + 1) xs) (places_from test (at + 1) xs))
    by true up bounds = ((λ y is. (let h = bounds y is in omega (arith, h.0))), up)
    by false up bounds = up

up_same : (xs ys : List ℕ) → Up xs → Up ys → ((p : ℕ) → IsIn xs p → IsIn ys p) → ((p : ℕ) → IsIn ys p → IsIn xs p) → xs ≡ ys
up_same [] [] up over one other = refl
up_same [] (y ∷ ys) up over one other = absurd (none_in_nil y (other y (0, omega arith, refl)))
up_same (x ∷ xs) [] up over one other = absurd (none_in_nil x (one x (0, omega arith, refl)))
up_same (x ∷ xs) (y ∷ ys) up over one other =
    let same : x ≡ y = elim (in_cons y ys x (one x (0, omega arith, refl))) [
      | inl here ↦ sym here
      | inr later ↦ elim (in_cons x xs y (other y (0, omega arith, refl))) [
        | inl here ↦ here
        | inr there ↦ (let a = over.0 x later in let b = up.0 y there in absurd (omega (arith, a, b)))
      ]
    ] in
    let tails : xs ≡ ys = up_same xs ys up.1 over.1
    (λ p is. elim (in_cons y ys p (one p (suc is.0, omega (arith, is.1), is.2))) [
      | inl here ↦ (let a = up.0 p is in absurd (omega (arith, a, here, same)))
      | inr later ↦ later
    ])
    (λ p is. elim (in_cons x xs p (other p (suc is.0, omega (arith, is.1), is.2))) [
      | inl here ↦ (let a = over.0 p is in absurd (omega (arith, a, here, same)))
      | inr later ↦ later
    ]) in
    ap (λ n. n ∷ xs) same ∙ ap (λ l. y ∷ l) tails

-- ---- all

run_as : (needs : List Need) (name : List ℕ) → list_any (bytes_eq name) (names_to_run needs) ≡ is_run_with needs name
run_as [] name = refl
run_as (need ∷ needs) name =
    list_any-append (bytes_eq name) (names need.runtime) (names_to_run needs)
    ∙ ap (λ b. b || list_any (bytes_eq name) (names_to_run needs)) (each_once_members (kept_names need.runtime) name) ∙ ap (λ b. names_it name need.runtime || b) (run_as needs name)

both_as : (need : Need) (name : List ℕ) → list_any (bytes_eq name) (names need.runtime ++ names need.building) ≡ (names_it name need.runtime || names_it name need.building)
both_as need name =
    list_any-append (bytes_eq name) (names need.runtime) (names need.building)
    ∙ ap (λ b. b || list_any (bytes_eq name) (names need.building)) (each_once_members (kept_names need.runtime) name) ∙ ap (λ b. names_it name need.runtime || b) (each_once_members (kept_names need.building) name)

built_as : (needs : List Need) (name : List ℕ) → list_any (bytes_eq name) (names_to_build needs) ≡ is_built_with needs name
built_as [] name = refl
built_as (need ∷ needs) name =
    list_any-append (bytes_eq name) (names need.runtime ++ names need.building) (names_to_build needs)
    ∙ ap (λ b. b || list_any (bytes_eq name) (names_to_build needs)) (both_as need name) ∙ ap (λ b. (names_it name need.runtime || names_it name need.building) || b) (built_as needs name)

-- what is gathered from nothing and put in order
gathered : (members : List Member) (test : Member → Bool) (none all out : List ℕ) → none ≡ [] → Gathers members test none all → IsInOrder all out → out ≡ places_from test 0 members
gathered members test none all out empty gathers order =
    up_same out (places_from test 0 members) (up_of out order.rising) (up_from test 0 members)
    (λ p is. elim (gathers.only p (order.only p is)) [
      | inl was ↦ (let P : List ℕ → Type 0 = λ l. IsIn l p in absurd (none_in_nil p (subst P empty was)))
      | inr passes ↦ (let P : ℕ → Type 0 = IsIn (places_from test 0 members) in subst P (let e : 0 + p ≡ p = omega arith in e) (from_has test 0 members p passes.0 passes.1 passes.2))
    ])
    (λ p is.
    let h = has_from test 0 members p is in
    order.kept p (gathers.all p (h.1, ap (slice_get members) (let e : p ≡ h.0 = omega (arith, h.2) in e) ∙ h.3, h.4)))

both_parts : (members : List Member) (dependent : Package) (named : List (List ℕ)) (is_with : List ℕ → Bool) (none one all : List ℕ) → ((name : List ℕ) → list_any (bytes_eq name) named ≡ is_with name)
    → Gathers members (is_named_by dependent named) none one → Gathers members (is_wished_by dependent dependent.depopts) one all
    → Gathers members (λ (m : Member). is_other dependent m.package.pkg && (is_with m.package.pkg.name || meets_one dependent.depopts m.package.pkg)) none all
both_parts members dependent named is_with none one all said first second =
    let split : (m : Member) → (is_with m.package.pkg.name || meets_one dependent.depopts m.package.pkg) ≡ (list_any (bytes_eq (name_of m)) named || meets_one dependent.depopts m.package.pkg) =
    λ m. ap (λ b. b || meets_one dependent.depopts m.package.pkg) (sym (said (name_of m))) in
    gathers_both members (is_named_by dependent named) (is_wished_by dependent dependent.depopts)
    (λ (m : Member). is_other dependent m.package.pkg && (is_with m.package.pkg.name || meets_one dependent.depopts m.package.pkg)) none one all first second
    (λ m. either_part (is_other dependent m.package.pkg) (list_any (bytes_eq (name_of m)) named) (meets_one dependent.depopts m.package.pkg) (is_with m.package.pkg.name || meets_one dependent.depopts m.package.pkg) (split m))
    (λ m. left_part (is_other dependent m.package.pkg) (list_any (bytes_eq (name_of m)) named) (meets_one dependent.depopts m.package.pkg) (is_with m.package.pkg.name || meets_one dependent.depopts m.package.pkg) (split m))
    (λ m. right_part (is_other dependent m.package.pkg) (list_any (bytes_eq (name_of m)) named) (meets_one dependent.depopts m.package.pkg) (is_with m.package.pkg.name || meets_one dependent.depopts m.package.pkg) (split m))

pub edges_are : (members : List Member) (dependent : Package) (none one all out result : List ℕ) → none ≡ []
    → Gathers members (is_named_by dependent (names_to_run dependent.items)) none one → Gathers members (is_wished_by dependent dependent.depopts) one all → IsInOrder all out
    → result ≡ out → result ≡ edge_places dependent members
edges_are members dependent none one all out result empty first second order is =
    is ∙ gathered members (λ (m : Member). is_edge dependent m.package.pkg) none all out empty
    (both_parts members dependent (names_to_run dependent.items) (is_run_with dependent.items) none one all (run_as dependent.items) first second) order

pub needs_are_all : (members : List Member) (dependent : Package) (none one all out result : List ℕ) → none ≡ []
    → Gathers members (is_named_by dependent (names_to_build dependent.items)) none one → Gathers members (is_wished_by dependent dependent.depopts) one all → IsInOrder all out
    → result ≡ out → result ≡ need_places dependent members
needs_are_all members dependent none one all out result empty first second order is =
    is ∙ gathered members (λ (m : Member). is_need dependent m.package.pkg) none all out empty
    (both_parts members dependent (names_to_build dependent.items) (is_built_with dependent.items) none one all (built_as dependent.items) first second) order

-- ---- formulas

-- a formula that is one package keeps its name
kept_at : (layer : Reduced-F Reduced) → kept_names (roll-Reduced layer) ≡ layer_kept (map-Reduced Reduced (List (List ℕ)) kept_names layer)
kept_at = fold-roll-Reduced (List (List ℕ)) layer_kept

pub keeps_one : (formula : Reduced) (name : List ℕ) → atom_name formula ≡ Some name → names formula ≡ name ∷ []
keeps_one formula name is = ap names (sym (roll-out-Reduced formula)) ∙ by (out-Reduced formula) name is
  where
    by : (layer : Reduced-F Reduced) (name : List ℕ) → layer_name layer ≡ Some name → names (roll-Reduced layer) ≡ name ∷ []
    by Reduced-F.Dropped name is = absurd cc
    by (Reduced-F.And parts) name is = absurd cc
    by (Reduced-F.Or parts) name is = absurd cc
    by (Reduced-F.Atom one test) name is = ap in_byte_order (kept_at (Reduced-F.Atom one test)) ∙ ap (λ n. n ∷ []) (let e : one ≡ name = cc in e)

pub one_gathered : (members : List Member) (dependent : Package) (formula : Reduced) (name : List ℕ) (before now : List ℕ) (result : Result Unit OutOfMemory)
    → atom_name formula ≡ Some name → OnOk result (Gathers members (is_named_by dependent (name ∷ [])) before now)
    → OnOk result (Gathers members (is_named_by dependent (names formula)) before now)
one_gathered members dependent formula name before now result is noted =
    let P : List (List ℕ) → Type 0 = λ all. OnOk result (Gathers members (is_named_by dependent all) before now) in
    subst P (sym (keeps_one formula name is)) noted

pub all_gathered : (members : List Member) (dependent : Package) (all seen : List (List ℕ)) (before now : List ℕ) (result : Result Unit OutOfMemory)
    → seen ≡ all → OnOk result (Gathers members (is_named_by dependent seen) before now) → OnOk result (Gathers members (is_named_by dependent all) before now)
all_gathered members dependent all seen before now result is noted =
    let P : List (List ℕ) → Type 0 = λ names. OnOk result (Gathers members (is_named_by dependent names) before now) in subst P is noted

pub two_gathered : (members : List Member) (dependent : Package) (one other : List (List ℕ)) (before now next : List ℕ) (result : Result Unit OutOfMemory)
    → Gathers members (is_named_by dependent one) before now → OnOk result (Gathers members (is_named_by dependent other) now next)
    → OnOk result (Gathers members (is_named_by dependent (one ++ other)) before next)
two_gathered members dependent one other before now next (Ok done) first second = names_join members dependent one other (one ++ other) before now next first second refl
two_gathered members dependent one other before now next (Err fault) first second = tt

-- the names of one more need
each_more : (f : Need → List (List ℕ)) (needs : List Need) (i : ℕ) (d : Need) → i < length needs → flat_map f (take (i + 1) needs) ≡ flat_map f (take i needs) ++ f (get_or needs i d)
each_more f needs i d below =
    ap (flat_map f) (take_more needs i d below) ∙ flat_map-append f (take i needs) (get_or needs i d ∷ [])
    ∙ ap (λ l. flat_map f (take i needs) ++ l) (append-nil (f (get_or needs i d)))

pub need_noted : (members : List Member) (dependent : Package) (f : Need → List (List ℕ)) (all seen : List Need) (i : ℕ) (x : Need) (before now next : List ℕ) → seen ≡ all
    → Gathers members (is_named_by dependent (flat_map f (take i all))) before now → i < length seen → x ≡ get_or seen i x → Gathers members (is_named_by dependent (f x)) now next
    → Gathers members (is_named_by dependent (flat_map f (take (i + 1) all))) before next
need_noted members dependent f all seen i x before now next same so_far below is one =
    let below_all : i < length all = omega (arith, below, ap length same) in
    let here : x ≡ get_or all i x = is ∙ ap (λ l. get_or l i x) same in
    names_join members dependent (flat_map f (take i all)) (f x) (flat_map f (take (i + 1) all)) before now next so_far one
    (each_more f all i x below_all ∙ ap (λ y. flat_map f (take i all) ++ f y) (sym here))

-- one more by what the code was handed
pub name_noted : (members : List Member) (dependent : Package) (all : List (List ℕ)) (i : ℕ) (x : List ℕ) (before now next : List ℕ)
    → Gathers members (is_named_by dependent (take i all)) before now → i < length all → x ≡ get_or all i x → Gathers members (is_named_by dependent (x ∷ [])) now next
    → Gathers members (is_named_by dependent (take (i + 1) all)) before next
name_noted members dependent all i x before now next so_far below is one =
    let P : List ℕ → Type 0 = λ y. Gathers members (is_named_by dependent (y ∷ [])) now next in
    names_next members dependent all i x before now next so_far below (subst P is one)

pub wish_noted : (members : List Member) (dependent : Package) (all seen : List Reduced) (i : ℕ) (x : Reduced) (before now next : List ℕ) → seen ≡ all
    → Gathers members (is_wished_by dependent (take i all)) before now → i < length seen → x ≡ get_or seen i x → Gathers members (is_wished_by dependent (x ∷ [])) now next
    → Gathers members (is_wished_by dependent (take (i + 1) all)) before next
wish_noted members dependent all seen i x before now next same so_far below is one =
    let P : Reduced → Type 0 = λ y. Gathers members (is_wished_by dependent (y ∷ [])) now next in
    wishes_next members dependent all i x before now next so_far (omega (arith, below, ap length same)) (subst P (is ∙ ap (λ l. get_or l i x) same) one)
