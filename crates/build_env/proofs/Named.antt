-- The packages of a view by their names: what is found under a name is the last package of that name.
use Rattle.std.proofs.Common.{◌≡◌, ℕ, Bool, true, false, cond, ◌||◌, List, [], ◌∷◌, ◌++◌, bytes_eq, refl, sym, ap, subst, ◌∙◌}
use Rattle.std.proofs.lemmas.Map.Text.{is_eq-slice_cmp}
use Rattle.std.proofs.lemmas.Slice.Eq.{bytes_eq-Decides}
use Rattle.std.specs.BTreeMap.{insert_entry, is_at}
use Rattle.std.specs.FinMap.{nat_cmp-IsAntisymmetric, slice_cmp-IsAntisymmetric}
use Rattle.std.specs.List.{list_any}
use Rattle.std.specs.Map.{lookup}
use Rattle.std.specs.Option.{IfSome, option_or, option_to_list}
use Rattle.std.specs.Ordering.{is_eq, match_ordering}
use Rattle.std.specs.declared.cmp.Ordering.{Ordering}
use Rattle.std.specs.declared.cmp.Ordering.TheVariants.{Less, Equal, Greater}
use Rattle.std.specs.declared.option.Option.{Option}
use Rattle.std.specs.declared.option.Option.TheVariants.{None, Some}
use Rattle.opam_names.specs.ByteOrders.{byte_order}
use Rattle.opam_names.specs.declared.packages.Pkg.{Pkg}
use Rattle.package_vars.specs.VariableLaws.{last_where}
use Rattle.build_env.specs.Seen.{Named, by_name, member_at, members_at, with_member, with_members}

-- a search for a name goes by equality
abbrev found : List ℕ → Named → Option Pkg
found name named = member_at named name

equal_bytes : (one other : List ℕ) → bytes_eq one other ≡ true → one ≡ other
equal_bytes one other e = (bytes_eq-Decides one other).0 e

itself : (one : List ℕ) → bytes_eq one one ≡ true
itself one = (bytes_eq-Decides one one).1 refl

clash : {A : Type 0} (t : Bool) → t ≡ true → t ≡ false → A
clash true a b = absurd (cc)
clash false a b = absurd (cc)

-- a key that is before or after another is another
not_equal : (k e : List ℕ) (r : Ordering) → byte_order k e ≡ r → is_eq r ≡ false → bytes_eq k e ≡ false
not_equal k e r is apart = sym (is_eq-slice_cmp k e) ∙ ap is_eq is ∙ apart

exact : (k e : List ℕ) → byte_order k e ≡ Equal → k ≡ e
exact k e is = slice_cmp-IsAntisymmetric nat_cmp-IsAntisymmetric k e is

-- a package more
pub found_more : (named : Named) (k : List ℕ) (v : Pkg) (q : List ℕ)
    → lookup (is_at (byte_order q)) (insert_entry byte_order named k v) ≡ cond (is_at (byte_order q) k) (Some v) (lookup (is_at (byte_order q)) named)
found_more [] k v q = refl
found_more (e ∷ es) k v q =
    elim (byte_order k e.0) as (λ r. byte_order k e.0 ≡ r → lookup (is_at (byte_order q)) (match_ordering r ((k, v) ∷ e ∷ es) ((e.0, v) ∷ es) (e ∷ insert_entry byte_order es k v)) ≡ cond (is_at (byte_order q) k) (Some v) (lookup (is_at (byte_order q)) (e ∷ es))) [
      | Less ↦ λ is. refl
      | Equal ↦ λ is.
          ap (λ key. cond (is_at (byte_order q) key) (Some v) (lookup (is_at (byte_order q)) es)) (sym (exact k e.0 is))
          ∙ twice (is_at (byte_order q) k) (Some v) (Some e.1) (lookup (is_at (byte_order q)) es)
          ∙ ap (λ key. cond (is_at (byte_order q) k) (Some v) (cond (is_at (byte_order q) key) (Some e.1) (lookup (is_at (byte_order q)) es))) (exact k e.0 is)
      | Greater ↦ λ is.
          ap (λ x. cond (is_at (byte_order q) e.0) (Some e.1) x) (found_more es k v q)
          ∙ swap (is_at (byte_order q) e.0) (is_at (byte_order q) k) refl refl is
    ] refl
  where
    twice : (t : Bool) (x y z : Option Pkg) → cond t x z ≡ cond t x (cond t y z)
    twice true x y z = refl
    twice false x y z = refl

    swap : (t u : Bool) → is_at (byte_order q) e.0 ≡ t → is_at (byte_order q) k ≡ u → byte_order k e.0 ≡ Greater
        → cond t (Some e.1) (cond u (Some v) (lookup (is_at (byte_order q)) es)) ≡ cond u (Some v) (cond t (Some e.1) (lookup (is_at (byte_order q)) es))
    swap true true at under is =
        let one : q ≡ e.0 = equal_bytes q e.0 (sym (is_eq-slice_cmp q e.0) ∙ at) in
        let two : q ≡ k = equal_bytes q k (sym (is_eq-slice_cmp q k) ∙ under) in
        let same : k ≡ e.0 = sym two ∙ one in
        let yes : bytes_eq k e.0 ≡ true = ap (λ x. bytes_eq x e.0) same ∙ itself e.0 in
        let apart : bytes_eq k e.0 ≡ false = not_equal k e.0 Greater is refl in
        clash (bytes_eq k e.0) yes apart
    swap true false at under is = refl
    swap false u at under is = refl

-- the last one of a name, over those that are there
pub found_over : (members : List Pkg) (named : Named) (q : List ℕ)
    → found q (with_members named members) ≡ option_or (last_where (λ pkg. bytes_eq q pkg.name) members) (found q named)
found_over [] named q = refl
found_over (pkg ∷ pkgs) named q =
    found_over pkgs (with_member named pkg) q
    ∙ ap (λ x. option_or (last_where (λ p. bytes_eq q p.name) pkgs) x) (found_more named pkg.name pkg q)
    ∙ ap (λ t. option_or (last_where (λ p. bytes_eq q p.name) pkgs) (cond t (Some pkg) (found q named))) (is_eq-slice_cmp q pkg.name)
    ∙ by (last_where (λ p. bytes_eq q p.name) pkgs) (bytes_eq q pkg.name) (found q named)
  where
    by : (last : Option Pkg) (t : Bool) (x : Option Pkg) → option_or last (cond t (Some pkg) x) ≡ option_or (option_or last (cond t (Some pkg) None)) x
    by None true x = refl
    by None false x = refl
    by (Some other) t x = refl

pub found_last : (members : List Pkg) (q : List ℕ) → member_at (by_name members) q ≡ last_where (λ pkg. bytes_eq q pkg.name) members
found_last members q = found_over members [] q ∙ or_none (last_where (λ pkg. bytes_eq q pkg.name) members)
  where
    or_none : (x : Option Pkg) → option_or x None ≡ x
    or_none None = refl
    or_none (Some pkg) = refl

-- what is last of a name has that name
last_has : (members : List Pkg) (q : List ℕ) → IfSome (last_where (λ pkg. bytes_eq q pkg.name) members) (λ pkg. bytes_eq q pkg.name ≡ true)
last_has [] q = tt
last_has (pkg ∷ pkgs) q = by (last_where (λ p. bytes_eq q p.name) pkgs) (last_has pkgs q) (bytes_eq q pkg.name) refl
  where
    by : (last : Option Pkg) → IfSome last (λ p. bytes_eq q p.name ≡ true) → (t : Bool) → bytes_eq q pkg.name ≡ t
        → IfSome (option_or last (cond t (Some pkg) None)) (λ p. bytes_eq q p.name ≡ true)
    by None h true e = e
    by None h false e = tt
    by (Some other) h t e = h

-- so has what is found
found_has : (members : List Pkg) (q : List ℕ) → IfSome (member_at (by_name members) q) (λ pkg. bytes_eq q pkg.name ≡ true)
found_has members q = subst (λ (x : Option Pkg). IfSome x (λ pkg. bytes_eq q pkg.name ≡ true)) (sym (found_last members q)) (last_has members q)

-- of the packages that are found under some names, the last one of a name
pub last_of_found : (members : List Pkg) (names : List (List ℕ)) (q : List ℕ)
    → last_where (λ pkg. bytes_eq q pkg.name) (members_at (by_name members) names) ≡ cond (list_any (bytes_eq q) names) (member_at (by_name members) q) None
last_of_found members [] q = refl
last_of_found members (name ∷ names) q =
    by (member_at (by_name members) name) refl (found_has members name) (last_of_found members names q)
  where
    join : (t u : Bool) (x : Option Pkg) → option_or (cond u x None) (cond t x None) ≡ cond (t || u) x None
    join true true None = refl
    join true true (Some p) = refl
    join true false x = refl
    join false true None = refl
    join false true (Some p) = refl
    join false false x = refl

    none : (t u : Bool) (x : Option Pkg) → (t ≡ true → x ≡ None) → cond u x None ≡ cond (t || u) x None
    none true true x h = refl
    none true false x h = sym (h refl)
    none false u x h = refl

    test : (t : Bool) (p : Pkg) → bytes_eq q name ≡ t → bytes_eq name p.name ≡ true → bytes_eq q p.name ≡ t
    test t p e h = ap (bytes_eq q) (sym (equal_bytes name p.name h)) ∙ e

    one : (t : Bool) (p : Pkg) → bytes_eq q name ≡ t → member_at (by_name members) name ≡ Some p → cond t (Some p) None ≡ cond t (member_at (by_name members) q) None
    one true p e is = sym is ∙ ap (member_at (by_name members)) (sym (equal_bytes q name e))
    one false p e is = refl

    by : (x : Option Pkg) → member_at (by_name members) name ≡ x → IfSome x (λ pkg. bytes_eq name pkg.name ≡ true)
        → last_where (λ pkg. bytes_eq q pkg.name) (members_at (by_name members) names) ≡ cond (list_any (bytes_eq q) names) (member_at (by_name members) q) None
        → last_where (λ pkg. bytes_eq q pkg.name) (option_to_list (member_at (by_name members) name) ++ members_at (by_name members) names)
        ≡ cond (list_any (bytes_eq q) (name ∷ names)) (member_at (by_name members) q) None
    by None is h rest =
        ap (λ x. last_where (λ pkg. bytes_eq q pkg.name) (option_to_list x ++ members_at (by_name members) names)) is
        ∙ rest
        ∙ none (bytes_eq q name) (list_any (bytes_eq q) names) (member_at (by_name members) q)
        (λ yes. ap (member_at (by_name members)) (equal_bytes q name yes) ∙ is)
    by (Some p) is h rest =
        ap (λ x. last_where (λ pkg. bytes_eq q pkg.name) (option_to_list x ++ members_at (by_name members) names)) is
        ∙ ap (λ x. option_or x (cond (bytes_eq q p.name) (Some p) None)) rest
        ∙ ap (λ u. option_or (cond (list_any (bytes_eq q) names) (member_at (by_name members) q) None) (cond u (Some p) None)) (test (bytes_eq q name) p refl h)
        ∙ ap (λ y. option_or (cond (list_any (bytes_eq q) names) (member_at (by_name members) q) None) y) (one (bytes_eq q name) p refl is)
        ∙ join (bytes_eq q name) (list_any (bytes_eq q) names) (member_at (by_name members) q)
