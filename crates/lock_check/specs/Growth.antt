-- Words of private clauses: needed names while they grow.
use Rattle.std.specs.Prelude.{◌≡◌, ℕ, ◌≤◌, ◌⊎◌, List, [], ◌∷◌, ◌++◌, drop, filter, fold, length, Bool, true, false, not, ◌&&◌, ◌||◌, cond, Contains, is_none}
use Rattle.std.specs.declared.option.Option.{Option}
use Rattle.std.specs.declared.option.Option.TheVariants.{None, Some}
use Rattle.std.specs.List.{list_any}
use Rattle.std.specs.Ordering.{is_eq}
use Rattle.std.specs.Set.{remove_key}
use Rattle.opam_names.specs.ByteOrders.{byte_order, has_key}
use Rattle.opam_names.specs.declared.packages.Pkg.{Pkg}
use Rattle.opam_filter.specs.NameSets.{with_name}
use Rattle.lock_check.specs.Chased.{bound_among, bound_to, held_name, is_among, names_held, stored_in}
use Rattle.lock_check.specs.Needed.{IsClosed}
use Rattle.lock_check.specs.declared.held.Held.{Held}

-- the names to which a name leads by what is installed
abbrev pub held_names : List Held → Option Pkg → List (List ℕ)
held_names installed None = []
held_names installed (Some pkg) = names_held (stored_in installed pkg)

-- of these the bound ones
abbrev pub led_to : List Pkg → List Held → List ℕ → List (List ℕ)
led_to bound installed name = bound_among bound (held_names installed (bound_to bound name))

-- a bound package that is not installed
abbrev pub is_open_at : List Held → Option Pkg → Bool
is_open_at installed None = false
is_open_at installed (Some pkg) = is_none (stored_in installed pkg)

-- a name is bound to such a package
abbrev pub is_open : List Pkg → List Held → List ℕ → Bool
is_open bound installed name = is_open_at installed (bound_to bound name)

-- one more name, where it is not among them
abbrev pub AddsOne : List ℕ → List (List ℕ) → List (List ℕ) → List (List ℕ) → List (List ℕ) → Type 0
AddsOne name needed fresh needed_now fresh_now =
    (needed_now ≡ cond (is_among needed name) needed (with_name needed name)) × (fresh_now ≡ cond (is_among needed name) fresh (fresh ++ name ∷ []))

-- each of these is neither among those before nor among the earlier ones
abbrev pub AreNew : List (List ℕ) → List (List ℕ) → Type 0
AreNew before [] = Unit {0}
AreNew before (name ∷ more) = (is_among before name ≡ false) × AreNew (with_name before name) more

-- more names came, each of them new
pub record Grows (needed fresh needed_now fresh_now : List (List ℕ)) : Type 0 where
  pub more : List (List ℕ)
  pub longer : fresh_now ≡ fresh ++ more
  pub new : AreNew needed more
  pub whole : needed_now ≡ fold with_name needed more

-- how many of some names are not among these
abbrev pub count_missing : List (List ℕ) → List (List ℕ) → ℕ
count_missing names needed = length (filter (λ name. not (is_among needed name)) names)

-- these names came, as far as they were new
pub record AddsAll (names needed fresh needed_now fresh_now : List (List ℕ)) : Type 0 where
  pub grows : Grows needed fresh needed_now fresh_now
  pub has : (name : List ℕ) → is_among names name ≡ true → is_among needed_now name ≡ true
  pub only : (name : List ℕ) → is_among grows.more name ≡ true → is_among names name ≡ true

-- names that are needed by a step, as far as those that are left are looked at: they have all starts, all to which each of the
-- others leads, and nothing that not all closed sets have
pub record Spreads (starts : List (List ℕ)) (leads : List ℕ → List (List ℕ)) (needed left : List (List ℕ)) : Type 0 where
  pub begun : (name : List ℕ) → Contains starts name → Contains needed name
  pub some : (name : List ℕ) → is_among left name ≡ true → is_among needed name ≡ true
  pub led : (name to : List ℕ) → Contains needed name → is_among left name ≡ false → Contains (leads name) to → Contains needed to
  pub sound : (others : List (List ℕ)) → IsClosed starts leads others → (name : List ℕ) → Contains needed name → Contains others name

-- names and all to which they lead by these steps
pub record Spread (steps : List ℕ → List (List ℕ)) (needed fresh needed_now fresh_now : List (List ℕ)) : Type 0 where
  pub grows : Grows needed fresh needed_now fresh_now
  pub ends : (starts : List (List ℕ)) (leads : List ℕ → List (List ℕ))
      → ((name : List ℕ) → is_among fresh_now name ≡ true → leads name ≡ steps name)
      → Spreads starts leads needed fresh → Spreads starts leads needed_now []

-- with these names, those that are needed have all starts, and all to which each of them leads, and nothing that not all
-- closed sets have
pub record Begins (starts : List (List ℕ)) (leads : List ℕ → List (List ℕ)) (needed names : List (List ℕ)) : Type 0 where
  pub begun : (name : List ℕ) → Contains starts name → Contains needed name ⊎ Contains names name
  pub led : (name to : List ℕ) → Contains needed name → Contains (leads name) to → Contains needed to ⊎ Contains names to
  pub sound : (others : List (List ℕ)) → IsClosed starts leads others → (name : List ℕ) → Contains needed name ⊎ Contains names name → Contains others name

-- these came, those names and all to which they lead by these steps
pub record Reaches (names : List (List ℕ)) (steps : List ℕ → List (List ℕ)) (needed needed_now fresh : List (List ℕ)) : Type 0 where
  pub new : AreNew needed fresh
  pub whole : needed_now ≡ fold with_name needed fresh
  pub ends : (starts : List (List ℕ)) (leads : List ℕ → List (List ℕ))
      → ((name : List ℕ) → is_among fresh name ≡ true → leads name ≡ steps name)
      → Begins starts leads needed names → Spreads starts leads needed_now []

-- of these names those that pass are awaited too
abbrev pub Awaits : (List ℕ → Bool) → List (List ℕ) → List (List ℕ) → List (List ℕ) → Type 0
Awaits test names waiting waiting_now = (name : List ℕ) → is_among waiting_now name ≡ (is_among waiting name || (is_among names name && test name))

-- some of them are
pub record AwaitsSome (names waiting waiting_now : List (List ℕ)) : Type 0 where
  pub only : (name : List ℕ) → is_among waiting_now name ≡ true → (is_among waiting name || is_among names name) ≡ true
  pub kept : (name : List ℕ) → is_among waiting name ≡ true → is_among waiting_now name ≡ true

-- among the first and not among the others
abbrev pub without : List (List ℕ) → List (List ℕ) → List ℕ → Bool
without names others name = is_among names name && not (is_among others name)

-- without the first one that is equal to a name
abbrev pub removed : List (List ℕ) → List ℕ → List (List ℕ)
removed names name = remove_key (λ key. is_eq (byte_order name key)) names

-- what was before all of them came
abbrev pub Undoes : List (List ℕ) → List (List ℕ) → List (List ℕ) → Type 0
Undoes fresh needed needed_now = (before : List (List ℕ)) → AreNew before fresh → needed ≡ fold with_name before fresh → needed_now ≡ before

-- each of the first is one of the others
abbrev pub AreWithin : List (List ℕ) → List (List ℕ) → Type 0
AreWithin names others = (name : List ℕ) → is_among names name ≡ true → is_among others name ≡ true

-- the same names
abbrev pub AreSame : List (List ℕ) → List (List ℕ) → Type 0
AreSame names others = (name : List ℕ) → is_among others name ≡ is_among names name

-- no package of that name is installed
abbrev pub is_uninstalled : List Held → List ℕ → Bool
is_uninstalled installed name = not (list_any (has_key held_name name) installed)

-- names while a walk goes over those that came: the first ones are done
pub record IsSpreading (steps : List ℕ → List (List ℕ)) (needed fresh : List (List ℕ)) (done : ℕ) (needed_now fresh_now : List (List ℕ)) : Type 0 where
  pub grows : Grows needed fresh needed_now fresh_now
  pub within : done ≤ length fresh_now
  pub ends : (starts : List (List ℕ)) (leads : List ℕ → List (List ℕ))
      → ((name : List ℕ) → is_among fresh_now name ≡ true → leads name ≡ steps name)
      → Spreads starts leads needed fresh → Spreads starts leads needed_now (drop done fresh_now)

-- names while they are taken back: those that are gone stood behind those that are left
pub record IsUndoing (names needed waiting left needed_now waiting_now : List (List ℕ)) : Type 0 where
  pub gone : List (List ℕ)
  pub all : names ≡ left ++ gone
  pub back : (before : List (List ℕ)) → AreNew before names → needed ≡ fold with_name before names → needed_now ≡ fold with_name before left
  pub fewer : (name : List ℕ) → is_among waiting_now name ≡ without waiting gone name
