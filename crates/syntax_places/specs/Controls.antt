-- The state of a walk over tokens, as the definitions of what may follow and of how deep it nests see it. This project's own.
use Rattle.std.specs.Prelude.{◌≡◌, List, [], ◌∷◌, Bool, true, false, map, reverse}
use Rattle.std.specs.declared.option.Option.{Option}
use Rattle.std.specs.declared.option.Option.TheVariants.{None, Some}
use Rattle.syntax_trees.specs.Following.{ExpectedNext, AtEntry, AfterName, AfterLabel, Operand, Inside, Side, AfterPrimary, AfterBraces, ValueBracket, InList, InGroup, InBraces, OpenBracket, TokenControl}
use Rattle.syntax_places.specs.declared.control.Bracket.{Bracket}
use Rattle.syntax_places.specs.declared.control.Change.{Change}
use Rattle.syntax_places.specs.declared.control.Change.TheVariants as change
use Rattle.syntax_places.specs.declared.control.Context.{Context}
use Rattle.syntax_places.specs.declared.control.Control.{Control}
use Rattle.syntax_places.specs.declared.control.Expected.{Expected}
use Rattle.syntax_places.specs.declared.control.Expected.TheVariants as expected
use Rattle.syntax_places.specs.declared.control.Next.{Next}
use Rattle.syntax_places.specs.declared.control.Within.{Within}
use Rattle.syntax_places.specs.declared.control.Within.TheVariants as within

-- what may come next
abbrev pub expected_of : Expected → ExpectedNext
expected_of expected.Entry = AtEntry
expected_of expected.AfterName = AfterName
expected_of expected.AfterLabel = AfterLabel
expected_of expected.Operand = Operand
expected_of expected.Inside = Inside
expected_of expected.Side = Side
expected_of (expected.AfterPrimary right) = AfterPrimary right
expected_of (expected.AfterBraces right) = AfterBraces right

abbrev pub within_of : Within → ValueBracket
within_of within.List = InList
within_of within.Group = InGroup
within_of within.Braces = InBraces

abbrev pub bracket_of : Bracket → OpenBracket
bracket_of b = record { within = within_of b.within; right = b.right; updated = b.updated }

-- the last bracket of the vector is the innermost
abbrev pub brackets_of : List Bracket → List OpenBracket
brackets_of brackets = map bracket_of (reverse brackets)

-- the whole state
abbrev pub control_of : Control → TokenControl
control_of c = record { expected = expected_of c.expected; updated = c.updated; frames = brackets_of c.brackets.items; section = c.section }

-- the innermost bracket stands in the others; where there is none, there are no others
abbrev pub brackets_in : Option Bracket → List OpenBracket → List OpenBracket
brackets_in None others = []
brackets_in (Some b) others = bracket_of b ∷ others

-- the state, by its innermost bracket and the others
abbrev pub control_in : Context → List OpenBracket → TokenControl
control_in c others = record { expected = expected_of c.expected; updated = c.updated; frames = brackets_in c.inner others; section = c.section }

-- what becomes of the open brackets
abbrev pub changed : Change → Option Bracket → List OpenBracket → List OpenBracket
changed change.Same inner others = brackets_in inner others
changed (change.Opened b) inner others = bracket_of b ∷ brackets_in inner others
changed change.Closed inner others = others
changed change.Cleared inner others = []

-- the next state, if there is one
abbrev pub next_in : Context → List OpenBracket → Option Next → Option TokenControl
next_in c others None = None
next_in c others (Some n) = Some (record { expected = expected_of n.expected; updated = n.updated; frames = changed n.change c.inner others; section = n.section })

-- the token may follow, and then this is the state; or it may not
abbrev pub Takes : Option TokenControl → TokenControl → Bool → Type 0
Takes after c true = after ≡ Some c
Takes after c false = after ≡ None
