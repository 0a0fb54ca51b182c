-- What stands at a path after files are put and removed.
use Rattle.std.proofs.Common.{◌≡◌, inl, inr, ℕ, List, [], ◌∷◌, Bool, true, false, cond, Option, Some, None, refl, sym, ◌∙◌, ap}
use Rattle.std.specs.Prelude.{bytes_eq, ◌||◌}
use Rattle.std.specs.FinMap.{get, get-insert, get-remove}
use Rattle.std.proofs.lemmas.Bool.{cases_Bool}
use Rattle.std.proofs.lemmas.Cmp.{nat_list_cmp_total}
use Rattle.std.proofs.lemmas.Map.Text.{is_eq-slice_cmp}
use Rattle.std.proofs.lemmas.Slice.Eq.{bytes_eq-Decides}
use Rattle.crash_disk.specs.Disks.{Kept, Tree, with_file}
use Rattle.crash_disk.specs.Writes.{file_of, path_of, paths_of, with_write, with_writes}
use Rattle.crash_disk.specs.Effects.{is_one}
use Rattle.crash_disk.specs.declared.batch.Write.{Write}

abbrev pub is_among : List Write → List ℕ → Bool
is_among writes = is_one (paths_of writes)

abbrev is_at : List ℕ → Write → Bool
is_at q write = bytes_eq q (path_of write)

pub get_with : (tree : Tree) (p q : List ℕ) (file : Option Kept) → get (with_file tree p file) q ≡ cond (bytes_eq q p) file (get tree q)
get_with tree p q None = get-remove nat_list_cmp_total tree p q ∙ ap (λ (b : Bool). cond b None (get tree q)) (is_eq-slice_cmp q p)
get_with tree p q (Some file) = get-insert nat_list_cmp_total tree p file q ∙ ap (λ (b : Bool). cond b (Some file) (get tree q)) (is_eq-slice_cmp q p)

chosen : (b : Bool) (x y : Option Kept) → b ≡ true → cond b x y ≡ x
chosen true x y is = refl
chosen false x y is = absurd (cc)

other : (b : Bool) (x y : Option Kept) → b ≡ false → cond b x y ≡ y
other true x y is = absurd (cc)
other false x y is = refl

pub get_here : (tree : Tree) (p : List ℕ) (file : Option Kept) → get (with_file tree p file) p ≡ file
get_here tree p file = get_with tree p p file ∙ chosen (bytes_eq p p) file (get tree p) ((bytes_eq-Decides p p).1 refl)

pub get_apart : (tree : Tree) (p q : List ℕ) (file : Option Kept) → bytes_eq q p ≡ false → get (with_file tree p file) q ≡ get tree q
get_apart tree p q file apart = get_with tree p q file ∙ other (bytes_eq q p) file (get tree q) apart

neither_left : (a b : Bool) → (a || b) ≡ false → a ≡ false
neither_left true b is = absurd (cc)
neither_left false b is = refl

neither_right : (a b : Bool) → (a || b) ≡ false → b ≡ false
neither_right true b is = absurd (cc)
neither_right false b is = is

pub get_off : (tree : Tree) (writes : List Write) (q : List ℕ) → is_among writes q ≡ false → get (with_writes writes tree) q ≡ get tree q
get_off tree [] q apart = refl
get_off tree (write ∷ writes) q apart =
    get_off (with_write write tree) writes q (neither_right (is_at q write) (is_among writes q) apart)
    ∙ get_apart tree (path_of write) q (file_of write) (neither_left (is_at q write) (is_among writes q) apart)

pub get_both : (a b : Tree) (writes : List Write) (q : List ℕ) → get a q ≡ get b q → get (with_writes writes a) q ≡ get (with_writes writes b) q
get_both a b [] q same = same
get_both a b (write ∷ writes) q same =
    get_both (with_write write a) (with_write write b) writes q
    (get_with a (path_of write) q (file_of write) ∙ ap (cond (bytes_eq q (path_of write)) (file_of write)) same ∙ sym (get_with b (path_of write) q (file_of write)))

step_at : (b : Bool) (file x y : Option Kept) → b ≡ true → cond b file x ≡ cond b file y
step_at true file x y is = refl
step_at false file x y is = absurd (cc)

-- at a path of one of these, what was there before counts for nothing
pub get_among : (a b : Tree) (writes : List Write) (q : List ℕ) → is_among writes q ≡ true → get (with_writes writes a) q ≡ get (with_writes writes b) q
get_among a b [] q is = absurd (cc)
get_among a b (write ∷ writes) q is =
    elim (cases_Bool (is_at q write)) [
      | inl here ↦ get_both (with_write write a) (with_write write b) writes q
          (get_with a (path_of write) q (file_of write) ∙ step_at (bytes_eq q (path_of write)) (file_of write) (get a q) (get b q) here ∙ sym (get_with b (path_of write) q (file_of write)))
      | inr apart ↦ get_among (with_write write a) (with_write write b) writes q (sym (ap (λ (x : Bool). x || is_among writes q) apart) ∙ is)
    ]

-- where it is the same off these paths, it is the same once these are done
pub get_same : (a b : Tree) (writes : List Write) (q : List ℕ) → (is_among writes q ≡ false → get a q ≡ get b q) → get (with_writes writes a) q ≡ get (with_writes writes b) q
get_same a b writes q same =
    elim (cases_Bool (is_among writes q)) [
      | inl is ↦ get_among a b writes q is
      | inr apart ↦ get_both a b writes q (same apart)
    ]
