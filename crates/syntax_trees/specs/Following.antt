-- Which tokens may follow others in a file (opam manual, file format: grammar), one after another. That this says what the grammar says
-- are laws.
use Rattle.std.specs.Prelude.{List, [], ◌∷◌, Bool, true, false}
use Rattle.std.specs.declared.option.Option.{Option}
use Rattle.std.specs.declared.option.Option.TheVariants.{None, Some}
use Rattle.syntax_trees.specs.declared.token.Token.{Token}
use Rattle.syntax_trees.specs.declared.token.Token.TheVariants.{Flag, Int, Text, Plain, Scoped, Colon, OpenList, CloseList, OpenBraces, CloseBraces, OpenGroup, CloseGroup, Relation, Update, And, Or, Not, Defined}
use Rattle.syntax_trees.specs.Tokens.{Placed, placed}

-- a token without its place
abbrev pub token_of : Placed → Token
token_of (placed token span) = token

-- what may come next
pub data ExpectedNext : Type 0 where
  -- a name, or the end of the file or of the section
  AtEntry : ExpectedNext
  AfterName : ExpectedNext
  AfterLabel : ExpectedNext
  Operand : ExpectedNext
  -- a value, or the end of its bracket
  Inside : ExpectedNext
  -- the right side of a relation
  Side : ExpectedNext
  -- what goes on with a primary, or with one and its braces; it is a right side, or it is none
  AfterPrimary : Bool → ExpectedNext
  AfterBraces : Bool → ExpectedNext

pub data ValueBracket : Type 0 where
  InList : ValueBracket
  InGroup : ValueBracket
  InBraces : ValueBracket

-- a bracket that is open, and what stands round it: a right side or none, and whether its value has an update already
pub record OpenBracket : Type 0 where
  pub within : ValueBracket
  pub right : Bool
  pub updated : Bool

pub record TokenControl : Type 0 where
  pub expected : ExpectedNext
  pub updated : Bool
  pub frames : List OpenBracket
  pub section : Bool

abbrev pub now_expecting : ExpectedNext → TokenControl → TokenControl
now_expecting e c = record { expected = e; updated = c.updated; frames = c.frames; section = c.section }

-- an operand of a further value in a bracket
abbrev pub further_operand : List OpenBracket → TokenControl → Option TokenControl
further_operand [] c = None
further_operand (f ∷ frames) c = Some (record { expected = Operand; updated = false; frames = f ∷ frames; section = c.section })

-- where an operand may begin
abbrev pub operand_begun : ExpectedNext → TokenControl → Option TokenControl
operand_begun Operand c = Some (now_expecting Operand c)
operand_begun Inside c = further_operand c.frames c
operand_begun (AfterPrimary right) c = further_operand c.frames c
operand_begun (AfterBraces right) c = further_operand c.frames c
operand_begun AtEntry c = None
operand_begun AfterName c = None
operand_begun AfterLabel c = None
operand_begun Side c = None

abbrev pub control_mapped : (TokenControl → TokenControl) → Option TokenControl → Option TokenControl
control_mapped f None = None
control_mapped f (Some c) = Some (f c)

abbrev pub bracket_pushed : ValueBracket → Bool → TokenControl → TokenControl
bracket_pushed within right c = record {
  expected = Inside;
  updated = false;
  frames = record { within = within; right = right; updated = c.updated } ∷ c.frames;
  section = c.section;
}

abbrev pub same_within : ValueBracket → ValueBracket → Bool
same_within InList InList = true
same_within InGroup InGroup = true
same_within InBraces InBraces = true
same_within one other = false

abbrev pub after_bracket : ValueBracket → Bool → ExpectedNext
after_bracket InBraces right = AfterBraces right
after_bracket InList right = AfterPrimary right
after_bracket InGroup right = AfterPrimary right

abbrev pub bracket_popped_if : Bool → OpenBracket → List OpenBracket → Bool → Option TokenControl
bracket_popped_if true f frames section = Some (record { expected = after_bracket f.within f.right; updated = f.updated; frames = frames; section = section })
bracket_popped_if false f frames section = None

-- a bracket of values closes
abbrev pub bracket_popped : ValueBracket → List OpenBracket → Bool → Option TokenControl
bracket_popped within [] section = None
bracket_popped within (f ∷ frames) section = bracket_popped_if (same_within within f.within) f frames section

abbrev pub at_entry : Bool → TokenControl
at_entry section = record { expected = AtEntry; updated = false; frames = []; section = section }

abbrev pub section_ends : Bool → Option TokenControl
section_ends true = Some (at_entry false)
section_ends false = None

abbrev pub closes_braces : List OpenBracket → Bool → Option TokenControl
closes_braces [] section = section_ends section
closes_braces (f ∷ frames) section = bracket_popped InBraces (f ∷ frames) section

abbrev pub name_begun : List OpenBracket → TokenControl → Option TokenControl
name_begun [] c = Some (record { expected = AfterName; updated = false; frames = []; section = c.section })
name_begun (f ∷ frames) c = Some (record { expected = AfterPrimary false; updated = false; frames = f ∷ frames; section = c.section })

abbrev pub follow_atom : ExpectedNext → TokenControl → Option TokenControl
follow_atom Side c = Some (now_expecting (AfterPrimary true) c)
follow_atom e c = control_mapped (now_expecting (AfterPrimary false)) (operand_begun e c)

abbrev pub follow_plain : ExpectedNext → TokenControl → Option TokenControl
follow_plain Side c = Some (now_expecting (AfterPrimary true) c)
follow_plain Operand c = Some (now_expecting (AfterPrimary false) c)
follow_plain Inside c = control_mapped (now_expecting (AfterPrimary false)) (further_operand c.frames c)
follow_plain (AfterPrimary right) c = name_begun c.frames c
follow_plain (AfterBraces right) c = name_begun c.frames c
follow_plain AtEntry c = name_begun [] c
follow_plain AfterName c = None
follow_plain AfterLabel c = None

abbrev pub labelled_if : Bool → Option TokenControl
labelled_if true = None
labelled_if false = Some (record { expected = AfterLabel; updated = false; frames = []; section = false })

abbrev pub follow_text : ExpectedNext → TokenControl → Option TokenControl
follow_text AfterName c = labelled_if c.section
follow_text e c = follow_atom e c

abbrev pub follow_open : ValueBracket → ExpectedNext → TokenControl → Option TokenControl
follow_open within Side c = Some (bracket_pushed within true c)
follow_open within e c = control_mapped (bracket_pushed within false) (operand_begun e c)

abbrev pub section_begins : Bool → Option TokenControl
section_begins true = None
section_begins false = Some (at_entry true)

abbrev pub follow_braces : ExpectedNext → TokenControl → Option TokenControl
follow_braces (AfterPrimary right) c = Some (bracket_pushed InBraces right c)
follow_braces AfterName c = section_begins c.section
follow_braces AfterLabel c = Some (at_entry true)
follow_braces e c = None

abbrev pub follow_close : ValueBracket → ExpectedNext → TokenControl → Option TokenControl
follow_close within Inside c = bracket_popped within c.frames c.section
follow_close within (AfterPrimary right) c = bracket_popped within c.frames c.section
follow_close within (AfterBraces right) c = bracket_popped within c.frames c.section
follow_close within e c = None

abbrev pub follow_close_braces : ExpectedNext → TokenControl → Option TokenControl
follow_close_braces AtEntry c = section_ends c.section
follow_close_braces Inside c = bracket_popped InBraces c.frames c.section
follow_close_braces (AfterPrimary right) c = closes_braces c.frames c.section
follow_close_braces (AfterBraces right) c = closes_braces c.frames c.section
follow_close_braces e c = None

abbrev pub relates_if : Bool → TokenControl → Option TokenControl
relates_if true c = control_mapped (now_expecting Side) (further_operand c.frames c)
relates_if false c = Some (now_expecting Side c)

abbrev pub follow_relation : ExpectedNext → TokenControl → Option TokenControl
follow_relation Operand c = Some (now_expecting Side c)
follow_relation Inside c = control_mapped (now_expecting Side) (further_operand c.frames c)
follow_relation (AfterPrimary right) c = relates_if right c
follow_relation (AfterBraces right) c = relates_if right c
follow_relation e c = None

abbrev pub updated_if : Bool → TokenControl → Option TokenControl
updated_if true c = None
updated_if false c = Some (record { expected = Operand; updated = true; frames = c.frames; section = c.section })

abbrev pub follow_update : ExpectedNext → TokenControl → Option TokenControl
follow_update (AfterPrimary right) c = updated_if c.updated c
follow_update (AfterBraces right) c = updated_if c.updated c
follow_update e c = None

abbrev pub follow_connective : ExpectedNext → TokenControl → Option TokenControl
follow_connective (AfterPrimary right) c = Some (now_expecting Operand c)
follow_connective (AfterBraces right) c = Some (now_expecting Operand c)
follow_connective e c = None

abbrev pub follow_colon : ExpectedNext → TokenControl → Option TokenControl
follow_colon AfterName c = Some (record { expected = Operand; updated = false; frames = []; section = c.section })
follow_colon e c = None

-- the state after a token, where it may follow
abbrev pub token_follows : TokenControl → Token → Option TokenControl
token_follows c (Flag flag) = follow_atom c.expected c
token_follows c (Int number) = follow_atom c.expected c
token_follows c (Text bytes) = follow_text c.expected c
token_follows c (Plain name) = follow_plain c.expected c
token_follows c (Scoped scope name) = follow_atom c.expected c
token_follows c Colon = follow_colon c.expected c
token_follows c OpenList = follow_open InList c.expected c
token_follows c CloseList = follow_close InList c.expected c
token_follows c OpenBraces = follow_braces c.expected c
token_follows c CloseBraces = follow_close_braces c.expected c
token_follows c OpenGroup = follow_open InGroup c.expected c
token_follows c CloseGroup = follow_close InGroup c.expected c
token_follows c (Relation op) = follow_relation c.expected c
token_follows c (Update op) = follow_update c.expected c
token_follows c And = follow_connective c.expected c
token_follows c Or = follow_connective c.expected c
token_follows c Not = operand_begun c.expected c
token_follows c Defined = operand_begun c.expected c

-- the state after tokens, where each may follow those before it
abbrev pub followed_after : Option TokenControl → List Token → Option TokenControl
followed_after o [] = o
followed_after None (token ∷ tokens) = None
followed_after (Some c) (token ∷ tokens) = followed_after (token_follows c token) tokens

abbrev pub tokens_followed : TokenControl → List Token → Option TokenControl
tokens_followed c tokens = followed_after (Some c) tokens

-- a file may end here
abbrev pub file_may_end : ExpectedNext → List OpenBracket → Bool → Bool
file_may_end AtEntry [] false = true
file_may_end (AfterPrimary right) [] false = true
file_may_end (AfterBraces right) [] false = true
file_may_end e frames section = false
