-- What the repository says of a package, by what it answers.
use Rattle.std.proofs.Common.{◌≡◌, ◌∙◌, ℕ, ◌≤◌, List, length, min, Option, Some, None, Result, Ok, Err, refl, sym, ap, subst, arith}
use Rattle.opam_names.specs.declared.packages.Pkg.{Pkg}
use Rattle.opam_filter.specs.Variables.{Values}
use Rattle.opam_package.specs.declared.package.Member.{Member}
use Rattle.lock_check.specs.declared.answer.Answer.{Answer}
use Rattle.folder_repo.specs.Repository.{IsMemberFault, IsMemberOf, IsReadAlone, IsRepoAnswer, absent as none_there, present as one_there, refused as refused_there, failed as host_failed, starved}
use Rattle.folder_repo.specs.declared.fault.RepoFault.{RepoFault}
use Rattle.folder_repo.specs.declared.fault.RepoFault.TheVariants as repo
use Rattle.change_front.specs.Reading.{IsAnswered, IsPackageRefusal, absent, present, too_long, faulty}
use Rattle.change_front.specs.Turns.{IsOwnAnswer, answer_of, refusal_at}
use Rattle.change_front.specs.declared.refusal.Refusal.{Refusal}

some_refusal : {a b : Refusal} → Some a ≡ Some b → a ≡ b
some_refusal is = cc

module _ (pkg : Pkg) (room : ℕ) (globals : Values) where
  told_so : (stands : Option (List ℕ)) (found : Option Member) → IsRepoAnswer pkg room globals stands (Ok found) → IsAnswered pkg room globals stands (answer_of found)
  told_so stands found none_there = absent
  told_so stands found (one_there of) = present of

  -- what was found
  pub answered_at : (stands : Option (List ℕ)) (found : Option Member) (answer : Answer) → answer ≡ answer_of found → IsRepoAnswer pkg room globals stands (Ok found)
      → IsAnswered pkg room globals stands answer
  answered_at stands found answer same is = let P : Answer → Type 0 = λ a. IsAnswered pkg room globals stands a in subst P (sym same) (told_so stands found is)

  by_fault : (path bytes : List ℕ) (fault : RepoFault) (refusal : Refusal) → IsMemberFault bytes pkg room fault → refusal_at path fault ≡ Some refusal
      → IsPackageRefusal path pkg room (Some bytes) refusal
  by_fault path bytes repo.HostFailed refusal is told = absurd (let e : None ≡ Some refusal = told in cc)
  by_fault path bytes repo.Memory refusal is told = absurd (let e : None ≡ Some refusal = told in cc)
  by_fault path bytes repo.TooLong refusal is told = let P : Refusal → Type 0 = λ r. IsPackageRefusal path pkg room (Some bytes) r in subst P (some_refusal told) (too_long is)
  by_fault path bytes (repo.Package fault) refusal is told = let P : Refusal → Type 0 = λ r. IsPackageRefusal path pkg room (Some bytes) r in subst P (some_refusal told) (faulty is)

  -- why there is no answer
  pub refused_at : (path : List ℕ) (stands : Option (List ℕ)) (fault : RepoFault) (refusal : Refusal) → IsRepoAnswer pkg room globals stands (Err fault) → refusal_at path fault ≡ Some refusal
      → IsPackageRefusal path pkg room stands refusal
  refused_at path stands fault refusal host_failed told = absurd (let e : None ≡ Some refusal = told in cc)
  refused_at path stands fault refusal starved told = absurd (let e : None ≡ Some refusal = told in cc)
  refused_at path stands fault refusal (refused_there {bytes} is) told = by_fault path bytes fault refusal is told
