-- A text that is not unsafe stands for a path.
use Rattle.std.proofs.Common.{◌≡◌, ℕ, Bool, true, false, not, ◌||◌, nat_lt, List, [], ◌∷◌, length, codes, if◌then◌else◌, IsTrue, refl}
use Rattle.opam_names.specs.Paths.{is_relative_path}
use Rattle.syntax_trees.specs.Signs.{begins_with}
use Rattle.syntax_trees.specs.declared.tree.Span.{Span}
use Rattle.opam_package.specs.declared.fault.PackageFault.TheVariants.{Unsafe}
use Rattle.opam_package.specs.declared.limits.TheConstants.{SUBST_LIMIT}
use Rattle.opam_package.specs.Relatives.{is_unsafe, path_faults, shortened}

-- where none of three tests holds, the last does not
last_of_three : (a b c : Bool) → (a || b || not c) ≡ false → c ≡ true
last_of_three true b c is = absurd cc
last_of_three false true c is = absurd cc
last_of_three false false true is = refl
last_of_three false false false is = absurd cc

by_test : (text : List ℕ) (span : Span) (t : Bool) → is_unsafe text ≡ t → (if t then Unsafe span ∷ [] else []) ≡ [] → is_unsafe text ≡ false
by_test text span true is none = absurd cc
by_test text span false is none = is

pub safe_test : (text : List ℕ) (span : Span) → path_faults text span ≡ [] → IsTrue (is_relative_path (shortened text))
safe_test text span none =
    last_of_three (begins_with (codes "/") text) (nat_lt SUBST_LIMIT (length text)) (is_relative_path (shortened text)) (by_test text span (is_unsafe text) refl none)
