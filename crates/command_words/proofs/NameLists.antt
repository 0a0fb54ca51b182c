-- Names that are put into their order.
use Rattle.std.proofs.Common.{◌≡◌, ℕ, ◌||◌, Bool, true, false, List, [], ◌∷◌, fold, refl, sym, ap, ◌∙◌}
use Rattle.std.proofs.lemmas.Cmp.{nat_list_cmp_total}
use Rattle.std.proofs.lemmas.Map.Lookups.{exact_bytes}
use Rattle.std.specs.BTreeSet.{insert_key}
use Rattle.std.specs.List.{list_any}
use Rattle.std.specs.Cmp.Lexicographic.{slice_cmp}
use Rattle.std.specs.Ordering.{match_ordering, nat_cmp, ordering_reverse}
use Rattle.std.specs.Prelude.{bytes_eq}
use Rattle.std.specs.declared.cmp.Ordering.{Ordering}
use Rattle.std.specs.declared.cmp.Ordering.TheVariants.{Less, Equal, Greater}
use Rattle.command_words.specs.Readings.{with_name}
use Rattle.command_words.specs.Laws.{RisesFrom, Rises, is_the_word, NamesAreInOrder}
use Rattle.command_words.specs.declared.arguments.Argument.{Argument}
use Rattle.command_words.specs.declared.arguments.Argument.TheVariants.{Given, Plain}

abbrev order : List ℕ → List ℕ → Ordering
order x y = slice_cmp nat_cmp x y

abbrev put : List (List ℕ) → List ℕ → List (List ℕ)
put names name = insert_key (slice_cmp nat_cmp) names name

turned : (x y : List ℕ) → order x y ≡ Greater → order y x ≡ Less
turned x y h = nat_list_cmp_total.antisymm y x ∙ ap ordering_reverse h

put_from : (z k : List ℕ) (names : List (List ℕ)) → RisesFrom z names → order z k ≡ Less → RisesFrom z (put names k)
put_from z k [] h l = (l, tt)
put_from z k (x ∷ names) h l = by (order k x) refl (λ e. put_from x k names h.1 (turned k x e))
  where
    by : (o : Ordering) → order k x ≡ o → (order k x ≡ Greater → RisesFrom x (put names k)) → RisesFrom z (match_ordering o (k ∷ x ∷ names) (x ∷ names) (x ∷ put names k))
    by Less e more = (l, (e, h.1))
    by Equal e more = h
    by Greater e more = (h.0, more e)

put_rises : (k : List ℕ) (names : List (List ℕ)) → Rises names → Rises (put names k)
put_rises k [] h = tt
put_rises k (x ∷ names) h = by (order k x) refl
  where
    by : (o : Ordering) → order k x ≡ o → Rises (match_ordering o (k ∷ x ∷ names) (x ∷ names) (x ∷ put names k))
    by Less e = (e, h)
    by Equal e = h
    by Greater e = put_from x k names h (turned k x e)

or_swap : (x y z : Bool) → (x || (y || z)) ≡ ((x || y) || z)
or_swap true y z = refl
or_swap false y z = refl

or_turn : (x y : Bool) → (x || y) ≡ (y || x)
or_turn true true = refl
or_turn true false = refl
or_turn false true = refl
or_turn false false = refl

or_again : (x y : Bool) → (x || y) ≡ ((x || y) || x)
or_again true y = refl
or_again false true = refl
or_again false false = refl

put_those : (name k : List ℕ) (names : List (List ℕ)) → list_any (bytes_eq name) (put names k) ≡ (list_any (bytes_eq name) names || bytes_eq name k)
put_those name k [] = or_turn (bytes_eq name k) false
put_those name k (x ∷ names) = by (order k x) refl (put_those name k names)
  where
    by : (o : Ordering) → order k x ≡ o → list_any (bytes_eq name) (put names k) ≡ (list_any (bytes_eq name) names || bytes_eq name k)
        → list_any (bytes_eq name) (match_ordering o (k ∷ x ∷ names) (x ∷ names) (x ∷ put names k)) ≡ ((bytes_eq name x || list_any (bytes_eq name) names) || bytes_eq name k)
    by Less e more = or_turn (bytes_eq name k) (bytes_eq name x || list_any (bytes_eq name) names)
    by Equal e more = or_again (bytes_eq name x) (list_any (bytes_eq name) names)
        ∙ ap (λ y. (bytes_eq name x || list_any (bytes_eq name) names) || bytes_eq name y) (sym (exact_bytes k x e))
    by Greater e more = ap (λ b. bytes_eq name x || b) more ∙ or_swap (bytes_eq name x) (list_any (bytes_eq name) names) (bytes_eq name k)

fold_rises : (given : List Argument) (names : List (List ℕ)) → Rises names → Rises (fold with_name names given)
fold_rises [] names h = h
fold_rises (Given option value ∷ given) names h = fold_rises given names h
fold_rises (Plain word ∷ given) names h = fold_rises given (put names word) (put_rises word names h)

fold_those : (name : List ℕ) (given : List Argument) (names : List (List ℕ))
    → list_any (bytes_eq name) (fold with_name names given) ≡ (list_any (bytes_eq name) names || list_any (is_the_word name) given)
fold_those name [] names = or_turn false (list_any (bytes_eq name) names)
fold_those name (Given option value ∷ given) names = fold_those name given names
fold_those name (Plain word ∷ given) names =
    fold_those name given (put names word) ∙ ap (λ b. b || list_any (is_the_word name) given) (put_those name word names)
    ∙ sym (or_swap (list_any (bytes_eq name) names) (bytes_eq name word) (list_any (is_the_word name) given))

pub names_are_in_order : NamesAreInOrder
names_are_in_order given = record { rising = fold_rises given [] tt; those = λ name. fold_those name given [] }
