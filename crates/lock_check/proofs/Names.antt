-- Names in byte order: what std's set finds, and what one more name adds.
use Rattle.std.proofs.Common.{◌≡◌, ℕ, List, [], ◌∷◌, Bool, true, false, ◌||◌, refl, sym, ◌∙◌, ap}
use Rattle.std.specs.Prelude.{bytes_eq}
use Rattle.std.specs.BTreeSet.{insert_key}
use Rattle.std.specs.Cmp.Lexicographic.{slice_cmp}
use Rattle.std.specs.List.{list_any}
use Rattle.std.specs.Ordering.{is_eq, match_ordering, nat_cmp}
use Rattle.std.specs.declared.cmp.Ordering.{Ordering}
use Rattle.std.specs.declared.cmp.Ordering.TheVariants.{Less, Equal, Greater}
use Rattle.std.proofs.lemmas.Map.Lookups.{exact_bytes}
use Rattle.std.proofs.lemmas.Map.Text.{is_eq-slice_cmp}
use Rattle.opam_names.specs.ByteOrders.{byte_order}

-- a name compares equal to itself alone
pub same_test : (name : List ℕ) (keys : List (List ℕ)) → list_any (λ key. is_eq (slice_cmp nat_cmp name key)) keys ≡ list_any (bytes_eq name) keys
same_test name [] = refl
same_test name (key ∷ keys) =
    ap (λ b. b || list_any (λ k. is_eq (slice_cmp nat_cmp name k)) keys) (is_eq-slice_cmp name key) ∙ ap (λ b. bytes_eq name key || b) (same_test name keys)

or_swap : (x y z : Bool) → (x || (y || z)) ≡ ((x || y) || z)
or_swap true y z = refl
or_swap false y z = refl

or_turn : (x y : Bool) → (x || y) ≡ (y || x)
or_turn true true = refl
or_turn true false = refl
or_turn false true = refl
or_turn false false = refl

or_twice : (x y : Bool) → (x || y) ≡ ((x || y) || x)
or_twice true y = refl
or_twice false true = refl
or_twice false false = refl

abbrev put : List (List ℕ) → List ℕ → List (List ℕ)
put texts text = insert_key byte_order texts text

-- a name is among names with one more where it was among them, or is that one
pub put_those : (text k : List ℕ) (texts : List (List ℕ)) → list_any (bytes_eq text) (put texts k) ≡ (list_any (bytes_eq text) texts || bytes_eq text k)
put_those text k [] = or_turn (bytes_eq text k) false
put_those text k (x ∷ texts) = by (byte_order k x) refl (put_those text k texts)
  where
    by : (r : Ordering) → byte_order k x ≡ r → list_any (bytes_eq text) (put texts k) ≡ (list_any (bytes_eq text) texts || bytes_eq text k)
        → list_any (bytes_eq text) (match_ordering r (k ∷ x ∷ texts) (x ∷ texts) (x ∷ put texts k)) ≡ ((bytes_eq text x || list_any (bytes_eq text) texts) || bytes_eq text k)
    by Less is more = or_turn (bytes_eq text k) (bytes_eq text x || list_any (bytes_eq text) texts)
    by Equal is more =
        or_twice (bytes_eq text x) (list_any (bytes_eq text) texts)
        ∙ ap (λ y. (bytes_eq text x || list_any (bytes_eq text) texts) || bytes_eq text y) (sym (exact_bytes k x is))
    by Greater is more = ap (λ b. bytes_eq text x || b) more ∙ or_swap (bytes_eq text x) (list_any (bytes_eq text) texts) (bytes_eq text k)

-- neither of two
pub neither_first : (x y : Bool) → (x || y) ≡ false → x ≡ false
neither_first true y is = is
neither_first false y is = refl

pub neither_second : (x y : Bool) → (x || y) ≡ false → y ≡ false
neither_second true y is = absurd cc
neither_second false y is = is
