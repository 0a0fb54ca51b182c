-- The signs that complete what was read so far, as bytes.
use Rattle.std.proofs.Common.{◌≡◌, ℕ, Bool, true, false, List, [], ◌∷◌, refl}
use Rattle.syntax_trees.specs.declared.token.Token.{Token}
use Rattle.syntax_trees.specs.declared.token.Token.TheVariants.{Colon, CloseList, OpenBraces, CloseBraces, CloseGroup}
use Rattle.syntax_trees.specs.Following.{ExpectedNext as Expected, AtEntry, AfterName, AfterLabel, Operand, Inside, Side, AfterPrimary, AfterBraces, ValueBracket as Within, InList, InGroup, InBraces, OpenBracket as Frame}
use Rattle.syntax_trees.specs.Tokens.{Single, Gap, first, Placed, placed, span_between, AreTokens, ends, gap, single}
use Rattle.syntax_trees.proofs.Following.{close_of, closers, operand_word, completion_at, HasKinds, no_kind, kind}

-- tokens of one byte each, that a blank ends
pub data Spellable : Token → ℕ → Type 0 where
  colon_byte : Spellable Colon 58
  word_byte : Spellable operand_word 120
  list_byte : Spellable CloseList 93
  group_byte : Spellable CloseGroup 41
  braces_byte : Spellable CloseBraces 125
  open_byte : Spellable OpenBraces 123

pub data AllSpellable : List Token → List ℕ → Type 0 where
  none_spelled : AllSpellable [] []
  spelled : {token : Token} {byte : ℕ} {tokens : List Token} {bytes : List ℕ} → Spellable token byte → AllSpellable tokens bytes
      → AllSpellable (token ∷ tokens) (byte ∷ 32 ∷ bytes)

spelled_first : {token : Token} {byte : ℕ} → Spellable token byte → (m : List ℕ) → first (byte ∷ 32 ∷ m) ≡ Single token (32 ∷ m)
spelled_first colon_byte m = refl
spelled_first word_byte m = refl
spelled_first list_byte m = refl
spelled_first group_byte m = refl
spelled_first braces_byte m = refl
spelled_first open_byte m = refl

blank_first : (m : List ℕ) → first (32 ∷ m) ≡ Gap m
blank_first m = refl

pub record Spelling (total : ℕ) (tokens : List Token) (bytes : List ℕ) : Type 0 where
  pub placed_so : List Placed
  pub kinds : HasKinds tokens placed_so
  pub lexed : AreTokens total bytes placed_so

pub spells : (total : ℕ) {tokens : List Token} {bytes : List ℕ} → AllSpellable tokens bytes → Spelling total tokens bytes
spells total none_spelled = record { placed_so = []; kinds = no_kind; lexed = ends refl }
spells total (spelled {token = token} {byte = byte} {bytes = bytes} s p) =
    let a = spells total p in record {
      placed_so = placed token (span_between total (byte ∷ 32 ∷ bytes) (32 ∷ bytes)) ∷ a.placed_so;
      kinds = kind a.kinds;
      lexed = single (spelled_first s bytes) (gap (blank_first bytes) a.lexed);
    }

pub record Spelled (tokens : List Token) : Type 0 where
  pub bytes : List ℕ
  pub all : AllSpellable tokens bytes

one_more : {token : Token} {byte : ℕ} {tokens : List Token} → Spellable token byte → Spelled tokens → Spelled (token ∷ tokens)
one_more {byte = byte} s p = record { bytes = byte ∷ 32 ∷ p.bytes; all = spelled s p.all }

close_spelled : (within : Within) {tokens : List Token} → Spelled tokens → Spelled (close_of within ∷ tokens)
close_spelled InList p = one_more list_byte p
close_spelled InGroup p = one_more group_byte p
close_spelled InBraces p = one_more braces_byte p

nothing_spelled : Spelled []
nothing_spelled = record { bytes = []; all = none_spelled }

closers_spelled : (fs : List Frame) (s : Bool) → Spelled (closers fs s)
closers_spelled [] false = nothing_spelled
closers_spelled [] true = one_more braces_byte nothing_spelled
closers_spelled (f ∷ fs) s = close_spelled f.within (closers_spelled fs s)

-- whatever completes a state is spelled by some bytes
pub completion_spelled : (e : Expected) (fs : List Frame) (s : Bool) → Spelled (completion_at e fs s)
completion_spelled AtEntry fs s = closers_spelled [] s
completion_spelled AfterName fs s = one_more colon_byte (one_more word_byte (closers_spelled [] s))
completion_spelled AfterLabel fs s = one_more open_byte (one_more braces_byte nothing_spelled)
completion_spelled Operand fs s = one_more word_byte (closers_spelled fs s)
completion_spelled Inside fs s = closers_spelled fs s
completion_spelled Side fs s = one_more word_byte (closers_spelled fs s)
completion_spelled (AfterPrimary right) fs s = closers_spelled fs s
completion_spelled (AfterBraces right) fs s = closers_spelled fs s
