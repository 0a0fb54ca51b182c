-- One turn of the reader after another.
use Rattle.std.proofs.Common.{◌≡◌, ◌∙◌, ℕ, ◌<◌, ◌≤◌, ◌-◌, List, [], ◌++◌, Option, Some, None, inl, inr, ⊎_elim, refl, sym, ap, subst}
use Rattle.std.specs.Prelude.{Contains}
use Rattle.std.specs.FinMap.{get}
use Rattle.opam_names.specs.declared.packages.Pkg.{Pkg}
use Rattle.opam_filter.specs.Variables.{Values}
use Rattle.opam_package.specs.PackageTexts.{IsPackageText}
use Rattle.opam_package.specs.declared.package.Member.{Member}
use Rattle.outside_io.specs.Counts.{Files}
use Rattle.lock_check.specs.Chased.{Chased, count_of, known_in, next_of}
use Rattle.lock_check.specs.declared.answer.Answer.{Answer}
use Rattle.lock_check.specs.declared.answer.Answer.TheVariants.{Known, Unknown}
use Rattle.lock_check.proofs.Members.{in_cases, none_in}
use Rattle.std.proofs.lemmas.List.Elements.{Contains-append_cases}
use Rattle.change_front.specs.Reading.{IsAfter, Reads, bytes_read, too_many, whole, refused, one_more}
use Rattle.change_front.specs.Turns.{AreRead, GoesOn, IsReadUnder, IsTurn, StopsAt}
use Rattle.change_front.specs.declared.limits.TheConstants.{NAMES_LIMIT}
use Rattle.change_front.specs.declared.reading.End.{End}
use Rattle.change_front.specs.declared.reading.End.TheVariants.{Whole, Stops}
use Rattle.change_front.specs.declared.reading.Reader.{Reader}
use Rattle.change_front.specs.declared.reading.Turn.TheVariants as turns
use Rattle.change_front.specs.declared.refusal.Refusal.{Refusal}
use Rattle.change_front.specs.declared.refusal.Refusal.TheVariants.{TooManyPackages}

module _ (files : Files) (repo : List ℕ) (globals : Values) (before : Reader) where
  pub turn_on : (after : Reader) → IsTurn files repo globals before (turns.On after) → (end : End) → Reads files repo globals after.chase after.room end
      → Reads files repo globals before.chase before.room end
  turn_on after is end more =
      let P : ℕ → Type 0 = λ room. Reads files repo globals after.chase room end in
      one_more is.2 is.3 is.4 is.5 (subst P is.6 more)

  pub turn_end : (chase : Chased) → IsTurn files repo globals before (turns.End chase) → Reads files repo globals before.chase before.room (Whole chase)
  turn_end chase is =
      let P : Chased → Type 0 = λ c. Reads files repo globals c before.room (Whole chase) in
      subst P is.2 (whole is.0 is.1)

  pub turn_refused : (refusal : Refusal) → IsTurn files repo globals before (turns.Refused refusal) → Reads files repo globals before.chase before.room (Stops refusal)
  turn_refused refusal is =
      ⊎_elim
      (λ many. let P : Refusal → Type 0 = λ r. Reads files repo globals before.chase before.room (Stops r) in subst P (sym many.1) (too_many many.0))
      (λ stops. refused stops.1 stops.2 stops.3) is

-- each answer adds what has the package of its own text
pub still_read : (globals : Values) (before after : Chased) (answer : Answer) → AreRead globals before.known → IsReadUnder globals answer → IsAfter before answer after → AreRead globals after.known
still_read globals before after answer are under is member at =
    let P : List Member → Type 0 = λ ms. Contains ms member in
    ⊎_elim (λ here. are member here) (λ new. by answer under new) (Contains-append_cases before.known (known_in answer) member (subst P is.now_known at))
  where
    by : (a : Answer) → IsReadUnder globals a → Contains (known_in a) member → IsPackageText member.opam member.package.pkg globals member.package
    by Unknown under new = absurd (none_in member new)
    by (Known m) under new =
        ⊎_elim (λ same. let P : Member → Type 0 = λ m'. IsPackageText m'.opam m'.package.pkg globals m'.package in subst P same under) (λ none. absurd (none_in member none)) (in_cases m [] member new)

pub none_read : (globals : Values) (members : List Member) → members ≡ [] → AreRead globals members
none_read globals members none member at = let P : List Member → Type 0 = λ ms. Contains ms member in absurd (none_in member (subst P none at))
