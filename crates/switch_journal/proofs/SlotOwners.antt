-- The owned paths of a slot are added to its text, each with the place of its owner.
use Rattle.std.proofs.Common.{◌≡◌, ◌∙◌, ℕ, ◌+◌, ◌<◌, suc, zero, List, [], ◌∷◌, ◌++◌, length, take, get_or, Bool, true, false, refl, sym, ap, subst, arith, Option, Some, None}
use Rattle.std.specs.Prelude.{◌&&◌, nat_lt, slice_get}
use Rattle.std.specs.Int.{w32, to_be_bytes}
use Rattle.std.specs.List.{AllByRecursion, filter_map, flat_map, list_all}
use Rattle.std.specs.Option.{option_map}
use Rattle.std.proofs.lemmas.Bool.Decides.{nat_tests}
use Rattle.std.proofs.lemmas.List.{append-nil, append_assoc, map-append, take_more}
use Rattle.std.proofs.lemmas.List.Concat.{flat_map-append}
use Rattle.std.proofs.lemmas.List.Elements.{filter_map-append}
use Rattle.std.proofs.lemmas.Option.{get_or_from_slice_get, slice_get-get_or, slice_get_within}
use Rattle.std.proofs.lemmas.Slice.Eq.{bytes_eq-Decides}
use Rattle.std.specs.Prelude.{bytes_eq}
use Rattle.journal_text.specs.Slots.{IsOwned, has_owner, owned_bytes}
use Rattle.journal_text.specs.Words.{short_text}
use Rattle.journal_text.specs.declared.slot.Owned.{Owned}
use Rattle.opam_names.specs.Paths.{IsPath}
use Rattle.opam_names.specs.declared.packages.Pkg.{Pkg}
use Rattle.owner_map.specs.Owning.{is_same_pkg, owned_by, path_of}
use Rattle.owner_map.specs.declared.owned.OwnedPath.{OwnedPath}
use Rattle.switch_journal.specs.Pieced.{ArePathsAdded, ArePlaced, IsPlaceOf, given_pkg, has_given, owned_as}
use Rattle.switch_journal.specs.declared.slot_owners.Given.{Given}

pub and_left : (a b : Bool) → (a && b) ≡ true → a ≡ true
and_left true b is = refl
and_left false b is = absurd (cc)

pub and_right : (a b : Bool) → (a && b) ≡ true → b ≡ true
and_right true b is = is
and_right false b is = absurd (cc)

-- ---- lists with one element more

all_more : {X : Type 0} (t : X → Bool) (xs : List X) (x : X) → list_all t xs ≡ true → t x ≡ true → list_all t (xs ++ x ∷ []) ≡ true
all_more t [] x all here = rw here refl
all_more t (y ∷ xs) x all here = by (t y) all (all_more t xs x)
  where
    by : (b : Bool) → (b && list_all t xs) ≡ true → (list_all t xs ≡ true → t x ≡ true → list_all t (xs ++ x ∷ []) ≡ true) → (b && list_all t (xs ++ x ∷ [])) ≡ true
    by true all more = more all here
    by false all more = absurd (cc)

pub each_more : {X : Type 0} (P : X → Type 0) (xs : List X) (x : X) → AllByRecursion P xs → P x → AllByRecursion P (xs ++ x ∷ [])
each_more P [] x all here = (here, tt)
each_more P (y ∷ xs) x all here = (all.0, each_more P xs x all.1 here)

pub spelled_more : {X : Type 0} (spell : X → List ℕ) (before : List ℕ) (xs : List X) (x : X) → (before ++ flat_map spell xs) ++ spell x ≡ before ++ flat_map spell (xs ++ x ∷ [])
spelled_more spell before xs x =
    append_assoc before (flat_map spell xs) (spell x)
    ∙ ap (λ (l : List ℕ). before ++ l) (ap (λ (l : List ℕ). flat_map spell xs ++ l) (sym (append-nil (spell x))) ∙ sym (flat_map-append spell xs (x ∷ [])))

-- ---- one path more

owned_is : (path : List ℕ) (pkg : Pkg) (o : Option Given) → option_map given_pkg o ≡ Some pkg → option_map (λ (g : Given). owned_by path g.pkg) o ≡ Some (owned_by path pkg)
owned_is path pkg None is = absurd (cc)
owned_is path pkg (Some g) is = let same : g.pkg ≡ pkg = cc in ap (λ (p : Pkg). Some (owned_by path p)) same

one_owned : (given : List Given) (placed : Owned) (o : OwnedPath) → owned_as given placed ≡ Some o → filter_map (owned_as given) (placed ∷ []) ≡ o ∷ []
one_owned given placed o is = rw is refl

placed_more : (given : List Given) (owned : List OwnedPath) (path : List ℕ) (owner : Pkg) (placed : List Owned) (place : ℕ) → ArePlaced given owned placed → IsPlaceOf given owner place → IsPath path
    → ArePlaced given (owned ++ owned_by path owner ∷ []) (placed ++ record { path = path; owner = place } ∷ [])
placed_more given owned path owner placed place so_far at valid =
    let one : Owned = record { path = path; owner = place } in
    let entry = owned_by path owner in
    let there : owned_as given one ≡ Some entry = owned_is path owner (slice_get given place) at.there in
    record {
      told = filter_map-append (owned_as given) placed (one ∷ []) ∙ (λ i. so_far.told i ++ one_owned given one entry there i);
      paths = map-append (λ (o : Owned). o.path) placed (one ∷ []) ∙ (λ i. so_far.paths i ++ path ∷ []) ∙ sym (map-append path_of owned (entry ∷ []));
      owners = all_more (has_owner (length given)) placed one so_far.owners (within_is place (length given) at.within);
      valid = each_more IsOwned placed one so_far.valid valid;
    }
  where
    within_is : (place count : ℕ) → place < count → nat_lt place count ≡ true
    within_is place count within = grind (arith, nat_tests)

pub paths_first : (given : List Given) (text : List ℕ) → ArePathsAdded given [] text text
paths_first given text = record { placed = []; are = record { told = refl; paths = refl; owners = refl; valid = tt }; text = sym (append-nil text) }

pub paths_step : (given : List Given) (owned : List OwnedPath) (i : ℕ) (path : List ℕ) (owner : Pkg) (place : ℕ) (before now next : List ℕ) → slice_get owned i ≡ Some (owned_by path owner) → ArePathsAdded given (take i owned) before now → IsPlaceOf given owner place → IsPath path
    → next ≡ now ++ (short_text path ++ to_be_bytes w32 place) → ArePathsAdded given (take (i + 1) owned) before next
paths_step given owned i path owner place before now next there so_far at valid new =
    let entry = owned_by path owner in
    let one : Owned = record { path = path; owner = place } in
    let within = slice_get_within owned i entry there in
    let more : take (i + 1) owned ≡ take i owned ++ entry ∷ [] = take_more owned i entry within ∙ (λ j. take i owned ++ get_or_from_slice_get owned i entry entry there j ∷ []) in
    subst (λ (os : List OwnedPath). ArePathsAdded given os before next) (sym more)
    (record {
      placed = so_far.placed ++ one ∷ [];
      are = placed_more given (take i owned) path owner so_far.placed place so_far.are at valid;
      text = new ∙ ap (λ (l : List ℕ). l ++ owned_bytes one) so_far.text ∙ spelled_more owned_bytes before so_far.placed one;
    })

-- ---- where an owner stands

pub place_is : (given : List Given) (pkg : Pkg) (place : ℕ) (g : Given) → place < length given → g ≡ get_or given place g → is_same_pkg g.pkg pkg ≡ true → IsPlaceOf given pkg place
place_is given pkg place g within is same = record {
  within = within;
  there = let there = slice_get-get_or given place g within ∙ ap (λ (k : Given). Some k) (sym is) in ap (option_map given_pkg) there ∙ ap (λ (p : Pkg). Some p) (same_pkg g.pkg pkg same);
}
  where
    same_pkg : (a b : Pkg) → is_same_pkg a b ≡ true → a ≡ b
    same_pkg a b is =
        let name = (bytes_eq-Decides a.name b.name).0 (and_left (bytes_eq a.name b.name) (bytes_eq a.version b.version) is) in
        let version = (bytes_eq-Decides a.version b.version).0 (and_right (bytes_eq a.name b.name) (bytes_eq a.version b.version) is) in
        λ i. record { name = name i; version = version i }

all_at : (t : OwnedPath → Bool) (owned : List OwnedPath) (i : ℕ) (entry : OwnedPath) → slice_get owned i ≡ Some entry → list_all t owned ≡ true → t entry ≡ true
all_at t [] i entry there all = absurd (cc)
all_at t (o ∷ owned) zero entry there all = let same : o ≡ entry = cc in ap t (sym same) ∙ and_left (t o) (list_all t owned) all
all_at t (o ∷ owned) (suc i) entry there all = all_at t owned i entry there (and_right (t o) (list_all t owned) all)

pub owner_there : (given : List Given) (owned : List OwnedPath) (i : ℕ) (path : List ℕ) (owner : Pkg) → slice_get owned i ≡ Some (owned_by path owner) → list_all (λ (o : OwnedPath). has_given given o.owner) owned ≡ true → has_given given owner ≡ true
owner_there given owned i path owner there all = all_at (λ (o : OwnedPath). has_given given o.owner) owned i (owned_by path owner) there all
