-- What stands in byte order is found by halves as the definitions ask for it.
use Rattle.std.proofs.Common.{◌≡◌, ℕ, suc, ◌+◌, ◌&&◌, ◌||◌, Bool, true, false, cond, bytes_eq, List, [], ◌∷◌, ◌++◌, map, filter, take, drop, sym, ap, refl, ◌∙◌, arith}
use Rattle.std.specs.List.{AllByRecursion, list_any, prefix_len}
use Rattle.std.specs.Ordering.{is_eq, ordering_reverse}
use Rattle.std.specs.declared.cmp.Ordering.{Ordering}
use Rattle.std.specs.declared.cmp.Ordering.TheVariants.{Less, Equal, Greater}
use Rattle.std.proofs.lemmas.Cmp.{nat_list_cmp_total}
use Rattle.std.proofs.lemmas.List.Folds.{list_any-append}
use Rattle.std.proofs.lemmas.List.Sorted.{list_any-IsPermutation}
use Rattle.std.proofs.lemmas.Map.Text.{is_eq-slice_cmp}
use Rattle.opam_names.specs.ByteOrders.{NeverFallsBy, byte_order, count_before, has_key, in_order_by, precedes}
use Rattle.opam_names.specs.declared.packages.Pkg.{Pkg}
use Rattle.opam_names.proofs.ByteOrders.{all_after, apart_of, chain, differ, less_of, next_of, order_permutes, order_up}
use Rattle.opam_names.proofs.RisingLists.{each_once_members}
use Rattle.opam_filter.specs.Reductions.{is_met}
use Rattle.opam_filter.specs.Sets.{kept_names, layer_meets, meets, names}
use Rattle.opam_filter.specs.declared.formula.Reduced.{Reduced, out-Reduced}
use Rattle.opam_filter.specs.declared.formula.Reduced.TheOpen.{Reduced-F}
use Rattle.opam_package.specs.declared.package.Need.{Need}
use Rattle.opam_package.specs.declared.package.Package.{Package}
use Rattle.opam_package.specs.declared.wishes.Wish.{Wish}
use Rattle.opam_package.specs.Dependencies.{edges_in, is_built_with, is_edge, is_need, is_other, is_run_with, meets_one, names_it, needs_in}
use Rattle.opam_package.specs.Wishes.{built_names, front_of, is_picked, layer_key, meets_some, picked_of, run_names, wish_key, wish_of, wishes_in}

-- ---- tests

or_none : (a b : Bool) → a ≡ false → b ≡ false → (a || b) ≡ false
or_none true b one other = one
or_none false b one other = other

or_same : (a b c d : Bool) → a ≡ c → b ≡ d → (a || b) ≡ (c || d)
or_same a b c d one other = ap (λ t. t || b) one ∙ ap (λ t. c || t) other

any_same : {X : Type 0} (p q : X → Bool) → ((x : X) → p x ≡ q x) → (xs : List X) → list_any p xs ≡ list_any q xs
any_same p q same [] = refl
any_same p q same (x ∷ xs) = or_same (p x) (list_any p xs) (q x) (list_any q xs) (same x) (any_same p q same xs)

filter_same : {X : Type 0} (p q : X → Bool) → ((x : X) → p x ≡ q x) → (xs : List X) → filter p xs ≡ filter q xs
filter_same p q same [] = refl
filter_same p q same (x ∷ xs) =
    ap (λ b. cond b (x ∷ filter p xs) (filter p xs)) (same x) ∙ ap (λ l. cond (q x) (x ∷ l) l) (filter_same p q same xs)

eq_back : (r : Ordering) → is_eq (ordering_reverse r) ≡ is_eq r
eq_back Less = refl
eq_back Equal = refl
eq_back Greater = refl

bytes_back : (a b : List ℕ) → bytes_eq a b ≡ bytes_eq b a
bytes_back a b =
    sym (is_eq-slice_cmp a b) ∙ sym (eq_back (byte_order a b)) ∙ sym (ap is_eq (nat_list_cmp_total.antisymm b a)) ∙ is_eq-slice_cmp b a

-- ---- of elements in byte order those with one key stand together

module _ {X : Type 0} (key : X → List ℕ) (name : List ℕ) (met : X → Bool) (misses : (x : X) → bytes_eq (key x) name ≡ false → met x ≡ false) where
  taken : (n : ℕ) (x : X) (xs : List X) → list_any met (take (1 + n) (x ∷ xs)) ≡ (met x || list_any met (take n xs))
  taken n x xs = let e : 1 + n ≡ suc n = omega arith in ap (λ k. list_any met (take k (x ∷ xs))) e

  dropped : (n : ℕ) (x : X) (xs : List X) → drop (1 + n) (x ∷ xs) ≡ drop n xs
  dropped n x xs = let e : 1 + n ≡ suc n = omega arith in ap (λ k. drop k (x ∷ xs)) e

  none_after : (xs : List X) → AllByRecursion (λ y. byte_order name (key y) ≡ Less) xs → list_any met xs ≡ false
  none_after [] all = refl
  none_after (x ∷ xs) all = or_none (met x) (list_any met xs) (misses x (apart_of name (key x) all.0)) (none_after xs all.1)

  ahead : (xs : List X) → NeverFallsBy key xs → AllByRecursion (λ y. precedes (key y) name ≡ false) xs
      → list_any met (take (prefix_len (has_key key name) xs) xs) ≡ list_any met xs
  ahead [] up all = refl
  ahead (x ∷ xs) up all = by (has_key key name x) refl (ahead xs up.1 all.1)
    where
      by : (b : Bool) → has_key key name x ≡ b → list_any met (take (prefix_len (has_key key name) xs) xs) ≡ list_any met xs
          → list_any met (take (cond b (1 + prefix_len (has_key key name) xs) 0) (x ∷ xs)) ≡ (met x || list_any met xs)
      by true is later = taken (prefix_len (has_key key name) xs) x xs ∙ ap (λ t. met x || t) later
      by false is later =
          let less : byte_order name (key x) ≡ Less = next_of name (key x) all.0 (λ s. differ (key x) name is (sym s)) in
          sym (or_none (met x) (list_any met xs) (misses x is) (none_after xs (all_after key name x xs less up.0)))

  later_ones : (x : X) (xs : List X) → precedes (key x) name ≡ false → AllByRecursion (λ y. precedes (key y) (key x) ≡ false) xs
      → AllByRecursion (λ y. precedes (key y) name ≡ false) xs
  later_ones x [] here all = tt
  later_ones x (y ∷ xs) here all = (chain name (key x) (key y) here all.0, later_ones x xs here all.1)

  found : (xs : List X) → NeverFallsBy key xs
      → list_any met (take (prefix_len (has_key key name) (drop (count_before key name xs) xs)) (drop (count_before key name xs) xs)) ≡ list_any met xs
  found [] up = refl
  found (x ∷ xs) up = by (precedes (key x) name) refl (found xs up.1)
    where
      by : (b : Bool) → precedes (key x) name ≡ b
          → list_any met (take (prefix_len (has_key key name) (drop (count_before key name xs) xs)) (drop (count_before key name xs) xs)) ≡ list_any met xs
          → list_any met (take (prefix_len (has_key key name) (drop (cond b (1 + count_before key name xs) 0) (x ∷ xs))) (drop (cond b (1 + count_before key name xs) 0) (x ∷ xs)))
          ≡ (met x || list_any met xs)
      by true is later =
          let apart : bytes_eq (key x) name ≡ false = sym (is_eq-slice_cmp (key x) name) ∙ ap is_eq (less_of (byte_order (key x) name) is) in
          ap (λ l. list_any met (take (prefix_len (has_key key name) l) l)) (dropped (count_before key name xs) x xs)
          ∙ later
          ∙ sym (ap (λ t. t || list_any met xs) (misses x apart))
      by false is later =
          let all : AllByRecursion (λ y. precedes (key y) name ≡ false) (x ∷ xs) = (is, later_ones x xs is up.0) in ahead (x ∷ xs) up all

-- ---- wishes

layer_misses : (other : Pkg) (layer : Reduced-F Reduced) → bytes_eq (layer_key layer) other.name ≡ false → layer_meets other layer ≡ false
layer_misses other Reduced-F.Dropped is = refl
layer_misses other (Reduced-F.And parts) is = refl
layer_misses other (Reduced-F.Or parts) is = refl
layer_misses other (Reduced-F.Atom name test) is = ap (λ b. b && is_met test other.version) (bytes_back other.name name ∙ is)

-- those of the package's name, which are found by halves, decide
pub met_where_found : (wishes rest : List Wish) (other : Pkg) → NeverFallsBy wish_key wishes → rest ≡ drop (count_before wish_key other.name wishes) wishes
    → meets_some (front_of other rest) other ≡ meets_some wishes other
met_where_found wishes rest other up is =
    ap (λ r. meets_some (front_of other r) other) is
    ∙ found wish_key other.name (λ (wish : Wish). meets wish.atom other) (λ (wish : Wish) is. layer_misses other (out-Reduced wish.atom) is) wishes up

pub wishes_up : (atoms : List Reduced) → NeverFallsBy wish_key (wishes_in atoms)
wishes_up atoms = order_up wish_key (map wish_of atoms)

pub names_up : (named : List (List ℕ)) → NeverFallsBy (λ name. name) (in_order_by (λ name. name) named)
names_up named = order_up (λ name. name) named

as_atoms : (other : Pkg) (atoms : List Reduced) → meets_some (map wish_of atoms) other ≡ meets_one atoms other
as_atoms other [] = refl
as_atoms other (atom ∷ atoms) = ap (λ t. meets atom other || t) (as_atoms other atoms)

wished : (atoms : List Reduced) (other : Pkg) → meets_some (wishes_in atoms) other ≡ meets_one atoms other
wished atoms other =
    sym (list_any-IsPermutation (λ (wish : Wish). meets wish.atom other) (map wish_of atoms) (wishes_in atoms) (order_permutes wish_key (map wish_of atoms)))
    ∙ as_atoms other atoms

-- ---- names

named_as : (named : List (List ℕ)) (name : List ℕ) → list_any (λ one. bytes_eq one name) (in_order_by (λ one. one) named) ≡ list_any (bytes_eq name) named
named_as named name =
    sym (list_any-IsPermutation (λ one. bytes_eq one name) named (in_order_by (λ one. one) named) (order_permutes (λ one. one) named))
    ∙ any_same (λ one. bytes_eq one name) (bytes_eq name) (λ one. bytes_back one name) named

run_as : (needs : List Need) (name : List ℕ) → list_any (bytes_eq name) (run_names needs) ≡ is_run_with needs name
run_as [] name = refl
run_as (need ∷ needs) name =
    list_any-append (bytes_eq name) (names need.runtime) (run_names needs)
    ∙ or_same (list_any (bytes_eq name) (names need.runtime)) (list_any (bytes_eq name) (run_names needs)) (names_it name need.runtime) (is_run_with needs name)
    (each_once_members (kept_names need.runtime) name) (run_as needs name)

both_as : (need : Need) (name : List ℕ) → list_any (bytes_eq name) (names need.runtime ++ names need.building) ≡ (names_it name need.runtime || names_it name need.building)
both_as need name =
    list_any-append (bytes_eq name) (names need.runtime) (names need.building)
    ∙ or_same (list_any (bytes_eq name) (names need.runtime)) (list_any (bytes_eq name) (names need.building)) (names_it name need.runtime) (names_it name need.building)
    (each_once_members (kept_names need.runtime) name) (each_once_members (kept_names need.building) name)

built_as : (needs : List Need) (name : List ℕ) → list_any (bytes_eq name) (built_names needs) ≡ is_built_with needs name
built_as [] name = refl
built_as (need ∷ needs) name =
    list_any-append (bytes_eq name) (names need.runtime ++ names need.building) (built_names needs)
    ∙ or_same (list_any (bytes_eq name) (names need.runtime ++ names need.building)) (list_any (bytes_eq name) (built_names needs))
    (names_it name need.runtime || names_it name need.building) (is_built_with needs name)
    (both_as need name) (built_as needs name)

-- ---- both

picked_as : (dependent : Package) (named : List (List ℕ)) (other : Pkg) (is_named : Bool) → list_any (bytes_eq other.name) named ≡ is_named
    → is_picked dependent (in_order_by (λ one. one) named) (wishes_in dependent.depopts) other ≡ (is_other dependent other && (is_named || meets_one dependent.depopts other))
picked_as dependent named other is_named is =
    ap (λ t. is_other dependent other && t)
    (or_same (list_any (λ one. bytes_eq one other.name) (in_order_by (λ one. one) named)) (meets_some (wishes_in dependent.depopts) other) is_named (meets_one dependent.depopts other)
    (named_as named other.name ∙ is) (wished dependent.depopts other))

-- what is picked by the names for running are the edges
pub edges_picked : (dependent : Package) (set : List Pkg)
    → picked_of dependent (run_names dependent.items) set ≡ edges_in dependent set
edges_picked dependent set =
    ap (map (λ (pkg : Pkg). pkg.name))
    (filter_same (is_picked dependent (in_order_by (λ name. name) (run_names dependent.items)) (wishes_in dependent.depopts)) (is_edge dependent)
    (λ other. picked_as dependent (run_names dependent.items) other (is_run_with dependent.items other.name) (run_as dependent.items other.name)) set)

-- by those for building the needs
pub needs_picked : (dependent : Package) (set : List Pkg)
    → picked_of dependent (built_names dependent.items) set ≡ needs_in dependent set
needs_picked dependent set =
    ap (map (λ (pkg : Pkg). pkg.name))
    (filter_same (is_picked dependent (in_order_by (λ name. name) (built_names dependent.items)) (wishes_in dependent.depopts)) (is_need dependent)
    (λ other. picked_as dependent (built_names dependent.items) other (is_built_with dependent.items other.name) (built_as dependent.items other.name)) set)
