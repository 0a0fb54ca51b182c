-- The members that a package forbids are found by the names of its conflicts.
use Rattle.std.proofs.Common.{◌≡◌, ℕ, List, [], ◌∷◌, ◌++◌, map, filter, Bool, true, false, cond, ⊎_elim, refl, sym, ◌∙◌, ap, subst}
use Rattle.std.specs.Prelude.{bytes_eq, find}
use Rattle.std.specs.List.{AllByRecursion}
use Rattle.std.specs.List.Sorted.{IsStrictlySortedBy}
use Rattle.std.specs.Ordering.{is_eq}
use Rattle.std.specs.declared.cmp.Ordering.TheVariants.{Less}
use Rattle.std.specs.declared.option.Option.TheVariants.{None, Some}
use Rattle.std.proofs.lemmas.Bool.{and_parts}
use Rattle.std.proofs.lemmas.Map.Text.{is_eq-slice_cmp}
use Rattle.opam_names.specs.ByteOrderLaws.{NeverFallsBy-from_rises, TextsRise}
use Rattle.opam_names.specs.ByteOrders.{RisesBy, byte_order, each_once, has_key}
use Rattle.opam_names.specs.declared.packages.Pkg.{Pkg}
use Rattle.opam_names.proofs.ByteOrders.{all_after, apart_of}
use Rattle.opam_filter.specs.Reductions.{is_met}
use Rattle.opam_filter.specs.Sets.{Rises, layer_meets}
use Rattle.opam_filter.specs.declared.formula.Reduced.{Reduced, out-Reduced}
use Rattle.opam_filter.specs.declared.formula.Reduced.TheOpen.{Reduced-F}
use Rattle.opam_package.specs.Dependencies.{is_forbidden, is_other, meets_one}
use Rattle.opam_package.specs.declared.package.Package.{Package}
use Rattle.lock_check.specs.Chased.{is_among, pkg_name}
use Rattle.lock_check.specs.Sharing.{atom_name, atom_names, conflict_at, conflicts_at, layer_atom_name, told_conflict}
use Rattle.lock_check.specs.Violations.{conflicts_among}
use Rattle.lock_check.specs.declared.violation.What.TheVariants.{Conflict}
use Rattle.lock_check.proofs.Among.{among_joined, among_one, either, is_same, or_left, or_right}

-- ---- names in order

apart : (a b : List ℕ) → byte_order a b ≡ Less → bytes_eq a b ≡ false
apart a b is = sym (is_eq-slice_cmp a b) ∙ ap is_eq is

unmapped : {X : Type 0} (key : X → List ℕ) (P : List ℕ → Type 0) (xs : List X) → AllByRecursion P (map key xs) → AllByRecursion (λ x. P (key x)) xs
unmapped key P [] all = tt
unmapped key P (x ∷ xs) all = (all.0, unmapped key P xs all.1)

-- a later name comes after
later : (k : List ℕ) (names : List (List ℕ)) (name : List ℕ) → AllByRecursion (λ n. byte_order k n ≡ Less) names → is_among names name ≡ true → byte_order k name ≡ Less
later k [] name all is = absurd cc
later k (n ∷ names) name all is =
    ⊎_elim (λ here. ap (byte_order k) (is_same name n here) ∙ all.0) (λ there. later k names name all.1 there) (either (bytes_eq name n) (is_among names name) is)

-- ---- packages of names

missing : (name : List ℕ) (set : List Pkg) → AllByRecursion (λ (pkg : Pkg). byte_order name pkg.name ≡ Less) set → find (has_key pkg_name name) set ≡ None
missing name [] all = refl
missing name (x ∷ set) all = ap (λ b. cond b (Some x) (find (has_key pkg_name name) set)) (apart_of name x.name all.0) ∙ missing name set all.1

module _ (dependent : Package) where
  none_at : (names : List (List ℕ)) → conflicts_at [] dependent names ≡ []
  none_at [] = refl
  none_at (name ∷ names) = none_at names

  joined : (set other : List Pkg) (name : List ℕ) (names : List (List ℕ)) → conflict_at set dependent name ≡ conflict_at other dependent name
      → conflicts_at set dependent names ≡ conflicts_at other dependent names → conflicts_at set dependent (name ∷ names) ≡ conflicts_at other dependent (name ∷ names)
  joined set other name names one more = ap (λ w. w ++ conflicts_at set dependent names) one ∙ ap (λ w. conflict_at other dependent name ++ w) more

  skip : (x : Pkg) (set : List Pkg) (name : List ℕ) → bytes_eq x.name name ≡ false → conflict_at (x ∷ set) dependent name ≡ conflict_at set dependent name
  skip x set name is = ap (λ b. told_conflict dependent (cond b (Some x) (find (has_key pkg_name name) set))) is

  skip_all : (x : Pkg) (set : List Pkg) (names : List (List ℕ)) → AllByRecursion (λ n. byte_order x.name n ≡ Less) names
      → conflicts_at (x ∷ set) dependent names ≡ conflicts_at set dependent names
  skip_all x set [] all = refl
  skip_all x set (name ∷ names) all = joined (x ∷ set) set name names (skip x set name (apart x.name name all.0)) (skip_all x set names all.1)

  absent : (name : List ℕ) (set : List Pkg) → AllByRecursion (λ (pkg : Pkg). byte_order name pkg.name ≡ Less) set → conflict_at set dependent name ≡ []
  absent name set all = ap (told_conflict dependent) (missing name set all)

  after : (x : Pkg) (set : List Pkg) → Rises (x ∷ set) → AllByRecursion (λ (pkg : Pkg). byte_order x.name pkg.name ≡ Less) set
  unfolding IsStrictlySortedBy
  after x set rises = unmapped pkg_name (λ n. byte_order x.name n ≡ Less) set rises.0

  -- one that is not forbidden changes nothing
  passed_by : (x : Pkg) (set : List Pkg) → Rises (x ∷ set) → is_forbidden dependent x ≡ false → (name : List ℕ) → conflict_at (x ∷ set) dependent name ≡ conflict_at set dependent name
  unfolding after
  passed_by x set rises fails name = by (bytes_eq x.name name) refl
    where
      by : (b : Bool) → bytes_eq x.name name ≡ b → conflict_at (x ∷ set) dependent name ≡ conflict_at set dependent name
      by true is =
          let all : AllByRecursion (λ (pkg : Pkg). byte_order name pkg.name ≡ Less) set =
          (let P : List ℕ → Type 0 = λ n. AllByRecursion (λ (pkg : Pkg). byte_order n pkg.name ≡ Less) set in subst P (is_same x.name name is) (after x set rises)) in
          ap (λ b. told_conflict dependent (cond b (Some x) (find (has_key pkg_name name) set))) is ∙ ap (λ b. cond b (Conflict x ∷ []) []) fails ∙ sym (absent name set all)
      by false is = skip x set name is

  passed_all : (x : Pkg) (set : List Pkg) → Rises (x ∷ set) → is_forbidden dependent x ≡ false → (names : List (List ℕ)) → conflicts_at (x ∷ set) dependent names ≡ conflicts_at set dependent names
  passed_all x set rises fails [] = refl
  passed_all x set rises fails (name ∷ names) = joined (x ∷ set) set name names (passed_by x set rises fails name) (passed_all x set rises fails names)

  -- one that is, and whose name is asked for, comes first
  pulled : (x : Pkg) (set : List Pkg) → Rises (x ∷ set) → (names : List (List ℕ)) → RisesBy (λ n. n) names → is_among names x.name ≡ true
      → conflicts_at (x ∷ set) dependent names ≡ told_conflict dependent (Some x) ++ conflicts_at set dependent names
  unfolding IsStrictlySortedBy
  pulled x set rises [] up is = absurd cc
  pulled x set rises (k ∷ names) up is = by (bytes_eq x.name k) refl (λ there. pulled x set rises names up.1 there)
    where
      afterwards : AllByRecursion (λ n. byte_order k n ≡ Less) names
      afterwards = unmapped (λ n. n) (λ n. byte_order k n ≡ Less) names up.0

      by : (b : Bool) → bytes_eq x.name k ≡ b → (is_among names x.name ≡ true → conflicts_at (x ∷ set) dependent names ≡ told_conflict dependent (Some x) ++ conflicts_at set dependent names)
          → conflicts_at (x ∷ set) dependent (k ∷ names) ≡ told_conflict dependent (Some x) ++ conflicts_at set dependent (k ∷ names)
      by true same rest =
          let e : k ≡ x.name = sym (is_same x.name k same) in
          let all : AllByRecursion (λ n. byte_order x.name n ≡ Less) names = (let P : List ℕ → Type 0 = λ n. AllByRecursion (λ m. byte_order n m ≡ Less) names in subst P e afterwards) in
          let none : AllByRecursion (λ (pkg : Pkg). byte_order k pkg.name ≡ Less) set =
          (let P : List ℕ → Type 0 = λ n. AllByRecursion (λ (pkg : Pkg). byte_order n pkg.name ≡ Less) set in subst P (sym e) (after x set rises)) in
          ap (λ b. told_conflict dependent (cond b (Some x) (find (has_key pkg_name k) set)) ++ conflicts_at (x ∷ set) dependent names) same
          ∙ ap (λ w. told_conflict dependent (Some x) ++ w) (skip_all x set names all ∙ sym (ap (λ w. w ++ conflicts_at set dependent names) (absent k set none)))
      by false other rest =
          let there : is_among names x.name ≡ true = ⊎_elim (λ here. absurd (let e : false ≡ true = sym other ∙ here in cc)) (λ on. on) (either (bytes_eq x.name k) (is_among names x.name) is) in
          let less : byte_order k x.name ≡ Less = later k names x.name afterwards there in
          let none : AllByRecursion (λ (pkg : Pkg). byte_order k pkg.name ≡ Less) set = all_after pkg_name k x set less (NeverFallsBy-from_rises pkg_name (x ∷ set) rises).0 in
          ap (λ w. w ++ conflicts_at (x ∷ set) dependent names) (skip x set k other ∙ absent k set none)
          ∙ rest there
          ∙ sym (ap (λ w. told_conflict dependent (Some x) ++ (w ++ conflicts_at set dependent names)) (absent k set none))

  -- so by names that have those of all that are forbidden all these are found, in the order of the set
  all_found : (set : List Pkg) → Rises set → (names : List (List ℕ)) → RisesBy (λ n. n) names
      → ((pkg : Pkg) → is_forbidden dependent pkg ≡ true → is_among names pkg.name ≡ true) → conflicts_at set dependent names ≡ conflicts_among set dependent
  unfolding IsStrictlySortedBy
  all_found [] rises names up has = none_at names
  all_found (x ∷ set) rises names up has = by (is_forbidden dependent x) refl (all_found set rises.1 names up has)
    where
      by : (b : Bool) → is_forbidden dependent x ≡ b → conflicts_at set dependent names ≡ conflicts_among set dependent → conflicts_at (x ∷ set) dependent names ≡ conflicts_among (x ∷ set) dependent
      by true is rest =
          pulled x set rises names up (has x is)
          ∙ ap (λ w. told_conflict dependent (Some x) ++ w) rest
          ∙ ap (λ b. cond b (Conflict x ∷ []) [] ++ conflicts_among set dependent) is
          ∙ sym (ap (λ b. map Conflict (cond b (x ∷ filter (is_forbidden dependent) set) (filter (is_forbidden dependent) set))) is)
      by false is rest =
          passed_all x set rises is names
          ∙ rest
          ∙ sym (ap (λ b. map Conflict (cond b (x ∷ filter (is_forbidden dependent) set) (filter (is_forbidden dependent) set))) is)

-- ---- names of atoms

layer_named : (layer : Reduced-F Reduced) (pkg : Pkg) → layer_meets pkg layer ≡ true → is_among (layer_atom_name layer) pkg.name ≡ true
layer_named Reduced-F.Dropped pkg is = is
layer_named (Reduced-F.And parts) pkg is = is
layer_named (Reduced-F.Or parts) pkg is = is
layer_named (Reduced-F.Atom name test) pkg is = among_one pkg.name name ∙ (and_parts (bytes_eq pkg.name name) (is_met test pkg.version) is).0

named : (atoms : List Reduced) (pkg : Pkg) → meets_one atoms pkg ≡ true → is_among (atom_names atoms) pkg.name ≡ true
named [] pkg is = is
named (atom ∷ atoms) pkg is =
    among_joined (atom_name atom) (atom_names atoms) pkg.name
    ∙ ⊎_elim (λ here. or_left (is_among (atom_name atom) pkg.name) (is_among (atom_names atoms) pkg.name) (layer_named (out-Reduced atom) pkg here))
    (λ there. or_right (is_among (atom_name atom) pkg.name) (is_among (atom_names atoms) pkg.name) (named atoms pkg there))
    (either (layer_meets pkg (out-Reduced atom)) (meets_one atoms pkg) is)

-- what is found by the names of a package's conflicts is what it forbids
pub conflicts_found : TextsRise → (dependent : Package) (set : List Pkg) → Rises set
    → conflicts_at set dependent (each_once (atom_names dependent.conflicts)) ≡ conflicts_among set dependent
conflicts_found law dependent set rises =
    all_found dependent set rises (each_once (atom_names dependent.conflicts)) (law.rising (atom_names dependent.conflicts))
    (λ pkg is. law.members (atom_names dependent.conflicts) pkg.name ∙ named dependent.conflicts pkg (and_parts (is_other dependent pkg) (meets_one dependent.conflicts pkg) is).1)
