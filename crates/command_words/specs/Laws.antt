-- What is read from every command line. This project's own.
use Rattle.std.specs.Prelude.{◌≡◌, ℕ, List, [], ◌∷◌, Bool, false, bytes_eq}
use Rattle.std.specs.List.{list_any}
use Rattle.std.specs.Cmp.Lexicographic.{slice_cmp}
use Rattle.std.specs.Ordering.{nat_cmp}
use Rattle.std.specs.declared.cmp.Ordering.TheVariants.{Less}
use Rattle.command_words.specs.Readings.{names_of}
use Rattle.command_words.specs.declared.arguments.Argument.{Argument}
use Rattle.command_words.specs.declared.arguments.Argument.TheVariants.{Given, Plain}

-- each name stands after the one before it in the order of bytes
abbrev pub RisesFrom : List ℕ → List (List ℕ) → Type 0
RisesFrom name [] = Unit {0}
RisesFrom name (next ∷ names) = (slice_cmp nat_cmp name next ≡ Less) × RisesFrom next names

-- each name stands after the one before it
abbrev pub Rises : List (List ℕ) → Type 0
Rises [] = Unit {0}
Rises (name ∷ names) = RisesFrom name names

-- the argument is this plain word
abbrev pub is_the_word : List ℕ → Argument → Bool
is_the_word name (Given option value) = false
is_the_word name (Plain word) = bytes_eq name word

-- the names of a command rise, so each stands there once, and they are its plain words
pub record AreNames (given : List Argument) : Type 0 where
  pub rising : Rises (names_of given)
  pub those : (name : List ℕ) → list_any (bytes_eq name) (names_of given) ≡ list_any (is_the_word name) given

-- that holds of all arguments
abbrev pub NamesAreInOrder : Type 0
NamesAreInOrder = (given : List Argument) → AreNames given
