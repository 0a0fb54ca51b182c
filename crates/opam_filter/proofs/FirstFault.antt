-- The first of several faults is one of them, and none of the others comes before it.
use Rattle.std.proofs.Common.{◌≡◌, ℕ, ◌⊎◌, inl, inr, ⊎_elim, Bool, true, false, if◌then◌else◌, List, [], ◌∷◌, ◌++◌, sym, ap, refl, ◌∙◌, subst, arith}
use Rattle.std.specs.declared.option.Option.{Option}
use Rattle.std.specs.declared.option.Option.TheVariants.{None, Some}
use Rattle.std.proofs.lemmas.Bool.Decides.{nat_tests}
use Rattle.opam_filter.specs.declared.fault.FilterFault.{FilterFault}
use Rattle.opam_filter.specs.Faults.{comes_before, earlier, earliest, place_of, rank_of}
use Rattle.opam_filter.specs.Laws.{FirstFaultIsTold, IsAmong}
use Rattle.opam_filter.proofs.Earliest.{below, earlier_assoc, earlier_left, earlier_right, not_before_on, some_fault}

not_itself : (x p : ℕ) → below x p x p ≡ false
not_itself x p = grind (arith, nat_tests)

not_back : (x p y q : ℕ) → below x p y q ≡ true → below y q x p ≡ false
not_back x p y q h = grind (arith, nat_tests)

-- no fault comes before itself
before_itself : (a : FilterFault) → comes_before a a ≡ false
before_itself a = not_itself (place_of a) (rank_of a)

-- of two faults one at most comes before the other
before_back : (a b : FilterFault) → comes_before b a ≡ true → comes_before a b ≡ false
before_back a b = not_back (place_of b) (rank_of b) (place_of a) (rank_of a)

none_among : (faults : List (Option FilterFault)) (other : FilterFault) → earliest faults ≡ None → IsAmong other faults → ⊥
none_among [] other is among = among
none_among (fault ∷ more) other is among =
    ⊎_elim (λ (e : fault ≡ Some other). some_fault other (sym e ∙ earlier_left fault (earliest more) is)) (none_among more other (earlier_right fault (earliest more) is)) among

-- what is told of a fault and of those after it, by what is told of those
by_rest : (a : FilterFault) (rest : Option FilterFault) (P : FilterFault → Type 0)
    → (rest ≡ None → P a) → ((b : FilterFault) → rest ≡ Some b → comes_before b a ≡ true → P b) → ((b : FilterFault) → rest ≡ Some b → comes_before b a ≡ false → P a)
    → (first : FilterFault) → earlier (Some a) rest ≡ Some first → P first
by_rest a None P alone second one first is = let e : a ≡ first = cc in subst P e (alone refl)
by_rest a (Some b) P alone second one first is = by (comes_before b a) refl is
  where
    by : (t : Bool) → comes_before b a ≡ t → (if t then Some b else Some a) ≡ Some first → P first
    by true h e = let s : b ≡ first = cc in subst P s (second b refl h)
    by false h e = let s : a ≡ first = cc in subst P s (one b refl h)

one_of : (faults : List (Option FilterFault)) (first : FilterFault) → earliest faults ≡ Some first → IsAmong first faults
one_of [] first is = cc
one_of (None ∷ more) first is = inr (one_of more first is)
one_of (Some a ∷ more) first is =
    by_rest a (earliest more) (λ f. (Some a ≡ Some f) ⊎ IsAmong f more) (λ _. inl refl) (λ b e h. inr (one_of more b e)) (λ b e h. inl refl) first is

first_of : (faults : List (Option FilterFault)) (other first : FilterFault) → earliest faults ≡ Some first → IsAmong other faults → comes_before other first ≡ false
first_of [] other first is among = absurd among
first_of (None ∷ more) other first is among =
    ⊎_elim (λ (e : None ≡ Some other). absurd (some_fault other (sym e))) (first_of more other first is) among
first_of (Some a ∷ more) other first is among =
    by_rest a (earliest more) (λ f. comes_before other f ≡ false)
    (λ e. ⊎_elim (λ (s : Some a ≡ Some other). itself s) (λ m. absurd (none_among more other e m)) among)
    (λ b e h. ⊎_elim (λ (s : Some a ≡ Some other). same s b (before_back a b h)) (first_of more other b e) among)
    (λ b e h. ⊎_elim (λ (s : Some a ≡ Some other). itself s) (λ m. not_before_on a b other (first_of more other b e m) h) among)
    first is
  where
    itself : Some a ≡ Some other → comes_before other a ≡ false
    itself s = let e : a ≡ other = cc in subst (λ f. comes_before f a ≡ false) e (before_itself a)

    same : Some a ≡ Some other → (b : FilterFault) → comes_before a b ≡ false → comes_before other b ≡ false
    same s b h = let e : a ≡ other = cc in subst (λ f. comes_before f b ≡ false) e h

grouped : (faults others : List (Option FilterFault)) → earliest (faults ++ others) ≡ earlier (earliest faults) (earliest others)
grouped [] others = refl
grouped (fault ∷ more) others = ap (earlier fault) (grouped more others) ∙ sym (earlier_assoc fault (earliest more) (earliest others))

pub told : FirstFaultIsTold
told = record {
  told = λ faults. record { one = one_of faults; first = λ first other. first_of faults other first; none = none_among faults };
  grouped = grouped;
}
