-- The fault that is told of several is one of them, and none of the others comes before it.
use Rattle.std.proofs.Common.{◌≡◌, ◌⊎◌, inl, inr, ⊎_elim, Bool, true, false, if◌then◌else◌, List, [], ◌∷◌, refl, subst}
use Rattle.std.specs.declared.option.Option.{Option}
use Rattle.std.specs.declared.option.Option.TheVariants.{None, Some}
use Rattle.opam_package.specs.declared.fault.PackageFault.{PackageFault}
use Rattle.opam_package.specs.PackageFaults.{first_fault, is_sooner, sooner}
use Rattle.opam_package.specs.PackageLaws.{IsListed, TheFirstIsTold}
use Rattle.opam_package.proofs.FirstFaults.{not_sooner_on, sooner_back, sooner_itself}

some_fault : (x : PackageFault) → Some x ≡ None → ⊥
some_fault x is = cc

chosen_some : (b : Bool) (x y : PackageFault) → (if b then Some x else Some y) ≡ None → ⊥
chosen_some true x y is = cc
chosen_some false x y is = cc

-- where none is told there is none
no_fault : (a : PackageFault) (rest : Option PackageFault) → sooner (Some a) rest ≡ None → ⊥
no_fault a None is = some_fault a is
no_fault a (Some b) is = chosen_some (is_sooner b a) b a is

pub none_told : (faults : List PackageFault) → first_fault faults ≡ None → faults ≡ []
none_told [] is = refl
none_told (fault ∷ more) is = absurd (no_fault fault (first_fault more) is)

-- what is told of a fault and of those after it, by what is told of those
by_rest : (a : PackageFault) (rest : Option PackageFault) (P : PackageFault → Type 0)
    → (rest ≡ None → P a) → ((b : PackageFault) → rest ≡ Some b → is_sooner b a ≡ true → P b) → ((b : PackageFault) → rest ≡ Some b → is_sooner b a ≡ false → P a)
    → (first : PackageFault) → sooner (Some a) rest ≡ Some first → P first
by_rest a None P alone second one first is = let e : a ≡ first = cc in subst P e (alone refl)
by_rest a (Some b) P alone second one first is = by (is_sooner b a) refl is
  where
    by : (t : Bool) → is_sooner b a ≡ t → (if t then Some b else Some a) ≡ Some first → P first
    by true h e = let s : b ≡ first = cc in subst P s (second b refl h)
    by false h e = let s : a ≡ first = cc in subst P s (one b refl h)

none_listed : (faults : List PackageFault) (other : PackageFault) → first_fault faults ≡ None → IsListed other faults → ⊥
none_listed faults other is among = let P : List PackageFault → Type 0 = λ l. IsListed other l in subst P (none_told faults is) among

one_of : (faults : List PackageFault) (first : PackageFault) → first_fault faults ≡ Some first → IsListed first faults
one_of [] first is = cc
one_of (a ∷ more) first is =
    by_rest a (first_fault more) (λ f. (a ≡ f) ⊎ IsListed f more) (λ _. inl refl) (λ b e h. inr (one_of more b e)) (λ b e h. inl refl) first is

first_of : (faults : List PackageFault) (other first : PackageFault) → first_fault faults ≡ Some first → IsListed other faults → is_sooner other first ≡ false
first_of [] other first is among = absurd among
first_of (a ∷ more) other first is among =
    by_rest a (first_fault more) (λ f. is_sooner other f ≡ false)
    (λ e. ⊎_elim (λ (s : a ≡ other). itself s) (λ m. absurd (none_listed more other e m)) among)
    (λ b e h. ⊎_elim (λ (s : a ≡ other). same s b (sooner_back a b h)) (first_of more other b e) among)
    (λ b e h. ⊎_elim (λ (s : a ≡ other). itself s) (λ m. not_sooner_on a b other (first_of more other b e m) h) among)
    first is
  where
    itself : a ≡ other → is_sooner other a ≡ false
    itself s = let P : PackageFault → Type 0 = λ f. is_sooner f a ≡ false in subst P s (sooner_itself a)

    same : a ≡ other → (b : PackageFault) → is_sooner a b ≡ false → is_sooner other b ≡ false
    same s b h = let P : PackageFault → Type 0 = λ f. is_sooner f b ≡ false in subst P s h

pub told : TheFirstIsTold
told faults = record { one = one_of faults; first = λ fault other. first_of faults other fault; none = none_told faults }
