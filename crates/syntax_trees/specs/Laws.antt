-- Laws of the grammar and of the faults.
use Rattle.std.specs.Prelude.{◌≡◌, ◌≢◌, ℕ, ◌<◌, ◌≤◌, List, [], ◌∷◌, ◌++◌, length, drop, map, false, IsTrue, IsFalse}
use Rattle.std.specs.declared.option.Option.TheVariants.{Some}
use Rattle.std.specs.List.{list_all}
use Rattle.syntax_trees.specs.declared.fault.SyntaxFault.{SyntaxFault}
use Rattle.syntax_trees.specs.declared.fault.SyntaxFault.TheVariants.{Ended, Deep, Memory}
use Rattle.syntax_trees.specs.declared.limits.TheConstants.{NESTING_LIMIT}
use Rattle.syntax_trees.specs.declared.token.Token.{Token}
use Rattle.syntax_trees.specs.declared.file.File.{File}
use Rattle.syntax_trees.specs.Tokens.{Placed, AreTokens, first, Single}
use Rattle.syntax_trees.specs.Files.{Entry, AreEntries, Derives}
use Rattle.syntax_trees.specs.Lexes.{Lexes}
use Rattle.syntax_trees.specs.Following.{TokenControl, at_entry, token_of, tokens_followed, file_may_end}
use Rattle.syntax_trees.specs.Heights.{NestsBelow, height_start, height_after, token_height}
use Rattle.syntax_trees.specs.Trees.{items_of, IsTextOf}
use Rattle.syntax_trees.specs.Spans.{span_within, contents_within}
use Rattle.syntax_trees.specs.Faults.{is_opening, begins_longer, BeginsFile, IsFaultOf, IsNowhereDeep, IsStrayAt, IsEndedAt, IsDoubledAt}

-- bytes spell at most one tree: two files of one text have the same items, at the same places
abbrev pub OneTreeForBytes : Type 0
OneTreeForBytes = (bytes : List ℕ) (one other : File) → IsTextOf bytes one → IsTextOf bytes other
    → (items_of one ≡ items_of other) × (one.places ≡ other.places)

-- also where something is too deep or doubled, the grammar derives at most one list of items
abbrev pub OneDerivation : Type 0
OneDerivation = (bytes : List ℕ) (one other : List Entry) → Derives bytes one → Derives bytes other → one ≡ other

-- but for want of memory, bytes have at most one fault
abbrev pub OneFaultForBytes : Type 0
OneFaultForBytes = (bytes : List ℕ) (one other : SyntaxFault) → IsFaultOf bytes one → IsFaultOf bytes other → one ≢ Memory → other ≢ Memory
    → one ≡ other

-- the text of a file is nowhere stray, has not ended early and has no doubled name
abbrev pub FilesHaveNoFault : Type 0
FilesHaveNoFault = (bytes : List ℕ) (file : File) (place : ℕ) → IsTextOf bytes file
    → (¬ (IsStrayAt bytes place)) × (¬ (IsEndedAt bytes place)) × (¬ (IsDoubledAt bytes place))

-- the text of a file is nowhere too deep
abbrev pub FilesAreNowhereDeep : Type 0
FilesAreNowhereDeep = (bytes : List ℕ) (file : File) → IsTextOf bytes file → IsNowhereDeep bytes

-- but for want of memory, the text of a file has no fault
abbrev pub FilesAreFaultless : Type 0
FilesAreFaultless = (bytes : List ℕ) (file : File) (fault : SyntaxFault) → IsTextOf bytes file → IsFaultOf bytes fault → fault ≡ Memory

-- every node and every item of a file has a span of some bytes of its text
abbrev pub SpansAreWithin : Type 0
SpansAreWithin = (bytes : List ℕ) (file : File) → IsTextOf bytes file
    → IsTrue (list_all (λ item. contents_within (length bytes) item.1) (items_of file)) × IsTrue (list_all (span_within (length bytes)) file.places)

-- the tokens of a file follow one another, up to where it may end
abbrev pub FileTokensFollow : Type 0
FileTokensFollow = (tokens : List Placed) (entries : List Entry) → AreEntries tokens entries
    → (c : TokenControl) × (tokens_followed (at_entry false) (map token_of tokens) ≡ Some c) × IsTrue (file_may_end c.expected c.frames c.section)

-- bytes that spell tokens which follow one another begin a file
abbrev pub FollowingTokensBegin : Type 0
FollowingTokensBegin = (bytes : List ℕ) (tokens : List Placed) (c : TokenControl) → AreTokens (length bytes) bytes tokens
    → tokens_followed (at_entry false) (map token_of tokens) ≡ Some c → BeginsFile bytes

-- where a file may not end after such tokens, and none is nested in too many, the bytes have ended early
abbrev pub EarlyEndIsTold : Type 0
EarlyEndIsTold = (bytes : List ℕ) (tokens : List Placed) (c : TokenControl) → AreTokens (length bytes) bytes tokens
    → tokens_followed (at_entry false) (map token_of tokens) ≡ Some c → IsFalse (file_may_end c.expected c.frames c.section)
    → NestsBelow NESTING_LIMIT height_start tokens → IsFaultOf bytes (Ended (length bytes))

-- the first bracket or prefix operator that the tokens before it nest in 64 others, where it may follow them, is the place that is too deep
abbrev pub DeepIsTold : Type 0
DeepIsTold = (bytes rest : List ℕ) (place : ℕ) (tokens : List Placed) (token : Token) (c : TokenControl) → place < length bytes
    → Lexes (length bytes) bytes tokens (drop place bytes) → first (drop place bytes) ≡ Single token rest → IsTrue (is_opening token)
    → IsFalse (begins_longer (drop place bytes)) → tokens_followed (at_entry false) (map token_of tokens ++ token ∷ []) ≡ Some c
    → NESTING_LIMIT ≤ token_height (height_after height_start (map token_of tokens)) token → NestsBelow NESTING_LIMIT height_start tokens
    → IsFaultOf bytes (Deep place)
