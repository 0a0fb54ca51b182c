-- Words: which bytes are a word, and which token it is (opam manual, file format: identifiers, booleans, integers). A word
-- takes every word character that follows; a `+`, or one `:`, joins to it what goes on with a word character.
use Rattle.std.specs.Prelude.{ℕ, ◌^◌, ℤ, pos, neg_ℤ, List, [], ◌∷◌, Bool, true, false, not, codes, bytes_eq, nat_lt, nat_le, ◌==◌, ◌&&◌, ◌||◌, if◌then◌else◌}
use Rattle.std.specs.List.{list_all, list_any}
use Rattle.std.specs.declared.option.Option.{Option}
use Rattle.std.specs.declared.option.Option.TheVariants.{None, Some}
use Rattle.opam_names.specs.Names.{is_letter, is_digit}
use Rattle.opam_names.specs.Orders.{number}
use Rattle.opam_names.specs.Paths.{onto_first}
use Rattle.syntax_trees.specs.declared.token.Token.{Token}
use Rattle.syntax_trees.specs.declared.token.Token.TheVariants.{Flag, Int, Plain, Scoped}

-- a letter, a digit, `_` or `-`
abbrev pub is_word_byte : ℕ → Bool
is_word_byte b = is_letter b || is_digit b || b == 95 || b == 45

-- the bytes begin with such a byte
abbrev pub begins_word : List ℕ → Bool
begins_word [] = false
begins_word (b ∷ bytes) = is_word_byte b

-- whether the byte joins what follows to a word that has no colon yet
abbrev pub joins : ℕ → List ℕ → Bool
joins b bytes = (b == 43 || b == 58) && begins_word bytes

-- the word that the bytes begin with; the flag says that it may still have a `+` or a `:`
abbrev pub word_of : Bool → List ℕ → List ℕ
word_of joining [] = []
word_of joining (b ∷ bytes) =
    if is_word_byte b || (joining && joins b bytes) then b ∷ word_of (joining && not (b == 58)) bytes else []

-- one digit or more
abbrev pub are_digits : List ℕ → Bool
are_digits [] = false
are_digits (b ∷ bytes) = is_digit b && list_all is_digit bytes

-- an integer without a sign is below 2^63
abbrev pub natural_of : List ℕ → Option ℤ
natural_of digits =
    if are_digits digits && nat_lt (number digits) (2 ^ 63) then Some (pos (number digits)) else None

-- one with a minus is at least -2^63
abbrev pub negative_of : List ℕ → Option ℤ
negative_of digits =
    if are_digits digits && nat_le (number digits) (2 ^ 63) then Some (neg_ℤ (pos (number digits))) else None

-- the integer that a word is, where it is in range
abbrev pub int_of : List ℕ → Option ℤ
int_of [] = None
int_of (b ∷ bytes) = if b == 45 then negative_of bytes else natural_of (b ∷ bytes)

-- what stands before the first such byte, and what stands after it
abbrev pub before : ℕ → List ℕ → List ℕ
before mark [] = []
before mark (b ∷ bytes) = if b == mark then [] else b ∷ before mark bytes

-- what stands after the first such byte
abbrev pub after : ℕ → List ℕ → List ℕ
after mark [] = []
after mark (b ∷ bytes) = if b == mark then bytes else after mark bytes

-- what stands between the `+`
abbrev pub scope_parts : List ℕ → List (List ℕ)
scope_parts [] = [] ∷ []
scope_parts (b ∷ bytes) = if b == 43 then [] ∷ scope_parts bytes else onto_first b (scope_parts bytes)

-- a part of a scope has a letter, or is `_`
abbrev pub is_scope_part : List ℕ → Bool
is_scope_part part = list_any is_letter part || bytes_eq part (95 ∷ [])

-- an identifier without a scope has a letter
abbrev pub is_plain : List ℕ → Bool
is_plain word = list_all is_word_byte word && list_any is_letter word

-- an identifier with a scope: parts, a colon, and a name with a letter
abbrev pub is_scoped : List ℕ → Bool
is_scoped word =
    list_any (λ b. b == 58) word && list_all is_scope_part (scope_parts (before 58 word)) && list_any is_letter (after 58 word)

-- the identifier that a word is
abbrev pub identifier_of : List ℕ → Option Token
identifier_of word =
    if is_plain word then Some (Plain word) else (if is_scoped word then Some (Scoped (before 58 word) (after 58 word)) else None)

-- a word that is both is an integer
abbrev pub int_or_identifier : Option ℤ → List ℕ → Option Token
int_or_identifier (Some n) word = Some (Int n)
int_or_identifier None word = identifier_of word

-- the token that a word is
abbrev pub word_token : List ℕ → Option Token
word_token word =
    if bytes_eq word (codes "true") then Some (Flag true)
    else (if bytes_eq word (codes "false") then Some (Flag false) else int_or_identifier (int_of word) word)
