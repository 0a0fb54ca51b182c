-- A list of files is read as the map that it stands for.
use Rattle.std.proofs.Common.{◌≡◌, ℕ, List, [], sym, subst, refl, Option, Some, None}
use Rattle.std.specs.Ordering.{nat_cmp}
use Rattle.std.specs.Cmp.Lexicographic.{slice_cmp}
use Rattle.std.proofs.lemmas.Cmp.{nat_list_cmp_total}
use Rattle.std.specs.FinMap.{find, get, get-from_entries}
use Rattle.outside_io.specs.Memories.{files_at}
use Rattle.outside_io.specs.Scripts.{script_of, scripted_at, scripted_of, told_by}
use Rattle.outside_io.specs.Shops.{Told, IsSeen}
use Rattle.outside_io.specs.declared.script_shop.Script.{Script}
use Rattle.outside_io.specs.declared.workshop.Job.{Job}
use Rattle.outside_io.specs.declared.workshop.Seen.TheVariants.{Absent}

pub get_files : (files : List (List ℕ × List ℕ)) (path : List ℕ) → get (files_at files) path ≡ find (slice_cmp nat_cmp) path files
get_files files path = get-from_entries nat_list_cmp_total files path

pub get_scripted : (files : List (List ℕ × Option (List ℕ))) (path : List ℕ) → get (scripted_at files) path ≡ find (slice_cmp nat_cmp) path files
get_scripted files path = get-from_entries nat_list_cmp_total files path

-- nothing stands in the folder of a package without a script
pub unscripted_tells : (scripts : List Script) (job : Job) (path : List ℕ) (limit : ℕ) (told : Told) → script_of scripts job.pkg ≡ None → Some (told_by scripts) ≡ Some told → IsSeen (get (told.files job) path) limit Absent
unscripted_tells scripts job path limit told none is =
    let P : Told → Type 0 = λ t. IsSeen (get (t.files job) path) limit Absent in
    let Q : Option Script → Type 0 = λ o. IsSeen (get (scripted_of o) path) limit Absent in
    let same : told_by scripts ≡ told = cc in
    let R : Option (Option (List ℕ)) → Type 0 = λ o. IsSeen o limit Absent in
    subst P same (subst Q (sym none) (subst R (sym (get_scripted [] path)) refl))
