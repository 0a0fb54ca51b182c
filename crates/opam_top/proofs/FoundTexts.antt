-- What is found of a file, and what is made of it.
use Rattle.std.proofs.Common.{◌≡◌, ℕ, ◌≤◌, List, length, true, Option, Some, None, Result, sym, ◌∙◌, ap, subst, arith}
use Rattle.std.specs.Prelude.{nat_le}
use Rattle.std.proofs.lemmas.Bool.Decides.{nat_tests}
use Rattle.outside_io.specs.Hosts.{IsFound}
use Rattle.outside_io.specs.declared.host.Found.{Found}
use Rattle.outside_io.specs.declared.host.Found.TheVariants.{Absent, Bytes}
use Rattle.opam_names.specs.declared.packages.Pkg.{Pkg}
use Rattle.opam_top.specs.Fronts.{bound_in_lock, if_built, lock_limit}
use Rattle.opam_top.specs.Locks.{read_lock}
use Rattle.opam_top.specs.Refusals.{Gives}
use Rattle.opam_top.specs.declared.stops.Stop.{Stop}

-- what stands is what was found
pub stood_bytes : (stood : Option (List ℕ)) (limit : ℕ) (found : Found) (bytes : List ℕ) → found ≡ Bytes bytes → IsFound stood limit found → stood ≡ Some bytes
stood_bytes None limit found bytes is found_is = absurd (let e : Bytes bytes ≡ Absent = (sym is) ∙ found_is in cc)
stood_bytes (Some file) limit found bytes is found_is =
    let P : Found → Type 0 = λ f. IsFound (Some file) limit f in
    let here : IsFound (Some file) limit (Bytes bytes) = subst P is found_is in ap (λ (l : List ℕ). Some l) (sym here.0)

short_enough : (bytes : List ℕ) → length bytes ≤ lock_limit → nat_le (length bytes) lock_limit ≡ true
short_enough bytes short = grind (arith, nat_tests)

pub lock_of_bytes : (file : List ℕ) (stood : Option (List ℕ)) (bytes : List ℕ) (result : Result (List Pkg) Stop) → stood ≡ Some bytes → length bytes ≤ lock_limit
    → Gives (λ (pkgs : List Pkg). pkgs) result (if_built (read_lock bytes)) → Gives (λ (pkgs : List Pkg). pkgs) result (bound_in_lock file stood)
lock_of_bytes file stood bytes result is short gives = rw (is, short_enough bytes short) gives
