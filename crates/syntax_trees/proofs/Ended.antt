-- Bytes whose tokens may follow one another, and are not those of a file, have ended early.
use Rattle.std.proofs.Common.{◌≡◌, ℕ, Bool, true, false, List, [], ◌∷◌, ◌++◌, length, drop, get_or, ◌+◌, refl, ap, sym, subst, ◌∙◌, arith, map, if◌then◌else◌}
use Rattle.std.specs.Prelude.{◌==◌, codes, ⊤}
use Rattle.std.proofs.Math.Seq.{drop-length}
use Rattle.std.specs.declared.option.Option.{Option}
use Rattle.std.specs.declared.option.Option.TheVariants.{None, Some}
use Rattle.syntax_trees.specs.declared.fault.SyntaxFault.TheVariants as syntax
use Rattle.syntax_trees.specs.declared.limits.TheConstants.{NESTING_LIMIT}
use Rattle.syntax_trees.specs.declared.token.Token.{Token}
use Rattle.syntax_trees.specs.Words.{is_word_byte, word_of, word_token}
use Rattle.syntax_trees.specs.Signs.{signs, sign_among, begins_with}
use Rattle.syntax_trees.specs.Heights.{NestsBelow as Below, height_start as start}
use Rattle.syntax_trees.specs.Following.{ExpectedNext as Expected, TokenControl as Control, at_entry, tokens_followed as followed, file_may_end as whole_at, token_of}
use Rattle.syntax_trees.specs.Tokens.{First, End, Gap, Single, Quote, NoToken, first, is_blank, after_comment, word_first, sign_first, Placed, AreTokens, ends, gap, single, text}
use Rattle.syntax_trees.specs.Files.{Entry, AreEntries}
use Rattle.syntax_trees.specs.Faults.{IsDerived, BeginsFile, IsFaultOf}
use Rattle.syntax_trees.proofs.OneTokens.{same_tokens}
use Rattle.syntax_trees.specs.Lexes.{Lexes, none_read, gap_then, single_then, text_then}
use Rattle.syntax_trees.proofs.NowhereDeep.{lexes_onto, opens_with}
use Rattle.syntax_trees.proofs.Following.{completed}
use Rattle.syntax_trees.proofs.Followed.{EntryAt, entry_first, after_primary, after_braces, file_followed}
use Rattle.syntax_trees.proofs.Spelled.{completion_spelled, spells}
use Rattle.syntax_trees.proofs.Closed.{closed}
use Rattle.syntax_trees.proofs.Exact.{none_before, deep_at}
use Rattle.syntax_trees.proofs.WordsRead.{drop_step}
use Rattle.syntax_trees.specs.Laws.{FileTokensFollow, DeepIsTold}

whole_entry : {e : Expected} → EntryAt e → whole_at e [] false ≡ true
whole_entry entry_first = refl
whole_entry after_primary = refl
whole_entry after_braces = refl

-- what has a byte is no end
abbrev IsNoEnd : First → Type 0
IsNoEnd End = ⊥
IsNoEnd (Gap rest) = ⊤
IsNoEnd (Single token rest) = ⊤
IsNoEnd (Quote long rest) = ⊤
IsNoEnd NoToken = ⊤

no_end_if : (c : Bool) (x y : First) → IsNoEnd x → IsNoEnd y → IsNoEnd (if c then x else y)
no_end_if true x y p q = p
no_end_if false x y p q = q

comment_no_end : (bytes : List ℕ) → IsNoEnd (after_comment bytes)
comment_no_end [] = tt
comment_no_end (b ∷ bytes) = no_end_if (begins_with (codes "*)") (b ∷ bytes)) (Gap (drop 1 bytes)) (after_comment bytes) tt (comment_no_end bytes)

word_no_end : (token : Option Token) (rest : List ℕ) → IsNoEnd (word_first token rest)
word_no_end None rest = tt
word_no_end (Some token) rest = tt

sign_no_end : (sign : Option (Token × List ℕ)) → IsNoEnd (sign_first sign)
sign_no_end None = tt
sign_no_end (Some sign) = tt

first_no_end : (b : ℕ) (bytes : List ℕ) → IsNoEnd (first (b ∷ bytes))
first_no_end b bytes =
    let all = b ∷ bytes in
    let w = word_of true all in
    no_end_if (is_blank b) _ _ tt
    (no_end_if (b == 35) _ _ tt
    (no_end_if (begins_with (codes "(*") all) _ _ (comment_no_end (drop 1 bytes))
    (no_end_if (begins_with (34 ∷ 34 ∷ 34 ∷ []) all) _ _ tt
    (no_end_if (b == 34) _ _ tt
    (no_end_if (is_word_byte b) _ _ (word_no_end (word_token w) (drop (length w) all)) (sign_no_end (sign_among signs all)))))))

end_is_empty : (bytes : List ℕ) → first bytes ≡ End → bytes ≡ []
end_is_empty [] e = refl
end_is_empty (b ∷ bytes) e = let h : IsNoEnd End = subst IsNoEnd e (first_no_end b bytes) in absurd h

lexes_all : {total : ℕ} {bytes : List ℕ} {tokens : List Placed} → AreTokens total bytes tokens → Lexes total bytes tokens []
lexes_all {total} {bytes} (ends e) = subst (λ z. Lexes total bytes [] z) (end_is_empty bytes e) none_read
lexes_all (gap e p) = gap_then e (lexes_all p)
lexes_all (single e p) = single_then e (lexes_all p)
lexes_all (text e i p) = text_then e i (lexes_all p)

pub begins_file : (bytes : List ℕ) (tokens : List Placed) (d : Control) → AreTokens (length bytes) bytes tokens → followed (at_entry false) (map token_of tokens) ≡ Some d
    → BeginsFile bytes
begins_file bytes tokens d p e =
    let s = completion_spelled d.expected d.frames d.section in
    let more = 10 ∷ s.bytes in
    let total = length (bytes ++ more) in
    let l = closed p s.bytes total in
    let a = spells total s.all in
    let owed : (entries : List Entry) × AreEntries (l.tokens ++ a.placed_so) entries =
    completed (at_entry false) l.tokens a.placed_so d (ap (λ z. followed (at_entry false) z) l.same ∙ e) a.kinds in
    (more, (owed.0, (l.tokens ++ a.placed_so, lexes_onto l.lexes a.lexed, owed.1)))

the_same : {c d : Control} → Some c ≡ Some d → c ≡ d
the_same e = cc

not_derived : (bytes : List ℕ) (tokens : List Placed) (d : Control) → AreTokens (length bytes) bytes tokens → followed (at_entry false) (map token_of tokens) ≡ Some d
    → whole_at d.expected d.frames d.section ≡ false → IsDerived bytes → ⊥
not_derived bytes tokens d p e h (entries, (others, q, r)) =
    let same : others ≡ tokens = same_tokens q p in
    let derived : AreEntries tokens entries = subst (λ z. AreEntries z entries) same r in
    let f = file_followed derived in
    let c : d ≡ record { expected = f.e; updated = f.u; frames = []; section = false } = the_same (sym e ∙ f.leads) in
    let w : whole_at d.expected d.frames d.section ≡ true = ap (λ z. whole_at z.expected z.frames z.section) c ∙ whole_entry f.at in
    let g = sym h ∙ w in cc

-- an early end, at its place
pub ended : (bytes : List ℕ) (tokens : List Placed) (d : Control) → AreTokens (length bytes) bytes tokens → followed (at_entry false) (map token_of tokens) ≡ Some d
    → whole_at d.expected d.frames d.section ≡ false → Below NESTING_LIMIT start tokens → IsFaultOf bytes (syntax.Ended (length bytes))
ended bytes tokens d p e h below =
    let n = length bytes in
    let l : Lexes n bytes tokens (drop n bytes) = subst (λ z. Lexes n bytes tokens z) (sym (drop-length bytes)) (lexes_all p) in (
      (λ q t. none_before bytes n tokens (omega arith) l below q t.within t),
      record { all = refl; begins = begins_file bytes tokens d p e; unfinished = not_derived bytes tokens d p e h },
    )

pub file_tokens_follow : FileTokensFollow
file_tokens_follow tokens entries p =
    let f = file_followed p in (record { expected = f.e; updated = f.u; frames = []; section = false }, f.leads, whole_entry f.at)

pub deep_is_told : DeepIsTold
deep_is_told bytes rest place tokens token d l p e opening longer f h below =
    let s : drop place bytes ≡ get_or bytes place 0 ∷ drop (place + 1) bytes = drop_step bytes place l in
    deep_at bytes place tokens token d l p (opens_with (get_or bytes place 0) (drop (place + 1) bytes) rest token (sym (ap first s) ∙ e) opening) longer f h below
