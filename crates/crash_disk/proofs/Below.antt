-- Where neither a first file nor one that was put stands below a path, none does.
use Rattle.std.proofs.Common.{◌≡◌, ◌⊎◌, inl, inr, ⊎_elim, ℕ, List, [], ◌∷◌, IsTrue, IsSome, refl, sym, ◌∙◌, ap, Some, None, Option, Bool, true, false, if◌then◌else◌}
use Rattle.std.specs.Str.{bytes_eq}
use Rattle.std.specs.FinMap.{get}
use Rattle.std.specs.Option.{option_map}
use Rattle.std.proofs.lemmas.Slice.Eq.{bytes_eq-Decides}
use Rattle.opam_names.specs.Paths.{is_above}
use Rattle.crash_disk.specs.Log.{Listed, kept, first_state, replay, stored_by, stored_after, stored_first, stored_at}
use Rattle.crash_disk.specs.Below.{IsBelow, IsOut, NoneOf, IsOutPut, NonePut}
use Rattle.crash_disk.specs.declared.changes.Change.{Change}
use Rattle.crash_disk.specs.declared.changes.Change.TheVariants.{Put, Removed, FailedPut, FailedRemoval, Loosened, Synced}
use Rattle.crash_disk.specs.declared.changes.Entry.{Entry}
use Rattle.crash_disk.proofs.Files.{get_stored}

abbrev Here : Type 0
Here = Option Listed

module _ (first : List Listed) (log : List Entry) (path q : List ℕ) (below : IsTrue (is_above path q)) where
  abbrev None_here : Type 0
  None_here = stored_at first log q ≡ None

  out : (f : Listed) → bytes_eq q f.0 ≡ true → IsOut first log path f → None_here
  out f same is_out =
      let e : q ≡ f.0 = (bytes_eq-Decides q f.0).0 same in
      ap (λ (p : List ℕ). stored_at first log p) e ∙ is_out (ap (λ (p : List ℕ). is_above path p) (sym e) ∙ below)

  one_first : (f : Listed) (b : Bool) (rest : Here) → bytes_eq q f.0 ≡ b → IsOut first log path f → (rest ≡ None) ⊎ None_here → ((if b then Some f else rest) ≡ None) ⊎ None_here
  one_first f true rest same is_out later = inr (out f same is_out)
  one_first f false rest same is_out later = later

  first_none : (fs : List Listed) → NoneOf fs first log path → (stored_first fs q ≡ None) ⊎ None_here
  first_none [] none = inl refl
  first_none (f ∷ fs) none = one_first f (bytes_eq q f.0) (stored_first fs q) refl none.0 (first_none fs none.1)

  -- a list of changes leaves what was there, or none
  abbrev Leaves : Here → Here → Type 0
  Leaves here left = (left ≡ here) ⊎ (left ≡ None) ⊎ None_here

  put_leaves : (f : Listed) (b : Bool) (es : List Entry) (here : Here) → bytes_eq q f.0 ≡ b → IsOut first log path f → Leaves here (stored_after es q here) → Leaves here (stored_after es q (if b then Some f else here))
  put_leaves f true es here same is_out later = inr (inr (out f same is_out))
  put_leaves f false es here same is_out later = later

  emptied : (here left : Here) → Leaves None left → Leaves here left
  emptied here left (inl none) = inr (inl none)
  emptied here left (inr other) = inr other

  removed_leaves : (b : Bool) (es : List Entry) (here : Here) → Leaves here (stored_after es q here) → Leaves None (stored_after es q None) → Leaves here (stored_after es q (if b then None else here))
  removed_leaves true es here later none = emptied here (stored_after es q None) none
  removed_leaves false es here later none = later

  change_leaves : (change : Change) (es : List Entry) (here : Here) → IsOutPut first log path change → Leaves here (stored_after es q here) → Leaves None (stored_after es q None) → Leaves here (stored_after es q (stored_by change q here))
  change_leaves (Put f) es here none later gone = put_leaves f (bytes_eq q f.0) es here refl none later
  change_leaves (Removed p) es here none later gone = removed_leaves (bytes_eq q p) es here later gone
  change_leaves (FailedPut f) es here none later gone = later
  change_leaves (FailedRemoval p) es here none later gone = later
  change_leaves (Loosened p) es here none later gone = later
  change_leaves Synced es here none later gone = later

  log_leaves : (es : List Entry) (here : Here) → NonePut es first log path → Leaves here (stored_after es q here)
  log_leaves [] here none = inl refl
  log_leaves (e ∷ es) here none = change_leaves e.change es here none.0 (log_leaves es here none.1) (log_leaves es None none.1)

  pub none_stored : NoneOf first first log path → NonePut log first log path → None_here
  none_stored a b = ⊎_elim (λ same. ⊎_elim (λ none. same ∙ none) (λ none. none) (first_none first a)) (⊎_elim (λ none. none) (λ none. none)) (log_leaves log (stored_first first q) b)

  pub none_below : NoneOf first first log path → NonePut log first log path → get (replay log (first_state first)).files q ≡ None
  none_below a b = get_stored first log q ∙ ap (option_map kept) (none_stored a b)

some_kept : (here : Here) → IsSome here → IsSome (option_map kept here)
some_kept None is = is
some_kept (Some f) is = refl

pub some_stored : (first : List Listed) (log : List Entry) (q : List ℕ) → IsSome (stored_at first log q) → IsSome (get (replay log (first_state first)).files q)
some_stored first log q is = rw (get_stored first log q) (some_kept (stored_at first log q) is)

pub none_kept : (first : List Listed) (log : List Entry) (q : List ℕ) → stored_at first log q ≡ None → get (replay log (first_state first)).files q ≡ None
none_kept first log q is = get_stored first log q ∙ ap (option_map kept) is

pub is_below : (first : List Listed) (log : List Entry) (path : List ℕ) → IsBelow first log path → (q : List ℕ) × IsTrue (is_above path q) × IsSome (get (replay log (first_state first)).files q)
is_below first log path found = (found.0, found.1, some_stored first log found.0 found.2)
