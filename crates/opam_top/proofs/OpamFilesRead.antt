-- Exactly the canonical spellings of commands are read.
use Rattle.std.proofs.Common.{◌≡◌, ◌⊎◌, inl, inr, ℕ, zero, suc, ◌+◌, ◌-◌, ◌*◌, ◌/◌, ◌%◌, ◌<◌, List, [], ◌∷◌, ◌++◌, Bool, true, false, Option, Some, None, refl, sym, ◌∙◌, ap, subst, arith, append_assoc}
use Rattle.std.specs.Prelude.{IsTrue, bytes_eq, codes, nat_eq, nat_lt, ◌==◌, ◌&&◌, if◌then◌else◌}
use Rattle.std.specs.List.{fold}
use Rattle.std.proofs.lemmas.Bool.{cases_eq}
use Rattle.std.proofs.lemmas.Bool.Decides.{nat_tests}
use Rattle.std.proofs.lemmas.List.{append-nil}
use Rattle.std.proofs.lemmas.List.Sums.{fold-append}
use Rattle.std.proofs.lemmas.Slice.Eq.{bytes_eq-Decides}
use Rattle.opam_top.proofs.Spelled.{chosen}
use Rattle.opam_top.proofs.Tests.{both, both_left, both_right}
use Rattle.opam_top.specs.OpamFiles.{all_escaped, are_commands, command_text, decode_byte, decode_escape, decoded, digits_escape, escaped, further_commands, further_words, is_control, named_byte, opam_text, read_opam, read_spelled_commands, spaced_commands, spaced_words, version_line, word_text}
use Rattle.opam_top.specs.Readings.{OpamFilesAreRead}
use Rattle.opam_top.specs.declared.opam_file.Decoder.{Decoder}
use Rattle.opam_top.specs.declared.opam_file.State.{State}
use Rattle.opam_top.specs.declared.opam_file.State.TheVariants.{InList, InCommand, InWord, AfterBackslash}

abbrev at : State → List ℕ → List (List ℕ) → List (List (List ℕ)) → Decoder
at s word words commands = record { state = s; word = word; words = words; commands = commands }

equal : (a b : ℕ) → (a == b) ≡ true → a ≡ b
equal a b is = grind (arith, nat_tests)

if_by : (P : List ℕ → Type 0) (test : Bool) (x y : List ℕ) → (test ≡ true → P x) → (test ≡ false → P y) → P (if test then x else y)
if_by P true x y first second = first refl
if_by P false x y first second = second refl

-- a byte by three digits: each byte below 128 is tried
abbrev is_by_digits : ℕ → Bool
is_by_digits b = nat_lt (b / 100) 10 && nat_eq (((48 + b / 100 - 48) * 100 + (48 + b / 10 % 10 - 48) * 10 + (48 + b % 10 - 48)) % 256) b

abbrev all_below : (ℕ → Bool) → ℕ → Bool
all_below test zero = true
all_below test (suc n) = test n && all_below test n

below : (test : ℕ → Bool) (n b : ℕ) → all_below test n ≡ true → b < n → test b ≡ true
below test zero b all less = absurd (omega arith)
below test (suc n) b all less =
    elim (cases_eq b n) [
      | inl same ↦ ap test same ∙ both_left (test n) (all_below test n) all
      | inr apart ↦ below test n b (both_right (test n) (all_below test n) all) (omega (arith, apart))
    ]

by_digits : (b : ℕ) → b < 128 → is_by_digits b ≡ true
by_digits b low = below is_by_digits 128 b refl low

control_low : (b : ℕ) → is_control b ≡ true → b < 128
control_low b is = grind (arith, nat_tests)

digit_unnamed : (x : ℕ) → x < 10 → named_byte (48 + x) ≡ None
digit_unnamed x low =
    let p : ((48 + x) == 34) ≡ false = grind (arith, nat_tests) in
    let q : ((48 + x) == 92) ≡ false = grind (arith, nat_tests) in
    let r : ((48 + x) == 110) ≡ false = grind (arith, nat_tests) in
    let s : ((48 + x) == 116) ≡ false = grind (arith, nat_tests) in
    let t : ((48 + x) == 114) ≡ false = grind (arith, nat_tests) in
    rw (p, q, r, s, t) refl

below_ten : (x : ℕ) → nat_lt x 10 ≡ true → x < 10
below_ten x is = grind (arith, nat_tests)

digits_decode : (b : ℕ) (word : List ℕ) (words : List (List ℕ)) (commands : List (List (List ℕ))) → is_control b ≡ true → fold decode_byte (at InWord word words commands) (digits_escape b) ≡ at InWord (word ++ b ∷ []) words commands
digits_decode b word words commands is =
    let tried = by_digits b (control_low b is) in
    let value = ((48 + b / 100 - 48) * 100 + (48 + b / 10 % 10 - 48) * 10 + (48 + b % 10 - 48)) % 256 in
    let first = below_ten (b / 100) (both_left (nat_lt (b / 100) 10) (nat_eq value b) tried) in
    let whole = equal value b (both_right (nat_lt (b / 100) 10) (nat_eq value b) tried) in
    ap (λ (n : Option ℕ). fold decode_byte (decode_escape (at AfterBackslash word words commands) (48 + b / 100) n) ((48 + b / 10 % 10) ∷ (48 + b % 10) ∷ [])) (digit_unnamed (b / 100) first)
    ∙ ap (λ (x : ℕ). at InWord (word ++ x ∷ []) words commands) whole

plain_decodes : (b : ℕ) (word : List ℕ) (words : List (List ℕ)) (commands : List (List (List ℕ))) → (b == 34) ≡ false → (b == 92) ≡ false → decode_byte (at InWord word words commands) b ≡ at InWord (word ++ b ∷ []) words commands
plain_decodes b word words commands p q = rw (p, q) refl

byte_decodes : (b : ℕ) (word : List ℕ) (words : List (List ℕ)) (commands : List (List (List ℕ))) → fold decode_byte (at InWord word words commands) (escaped b) ≡ at InWord (word ++ b ∷ []) words commands
byte_decodes b word words commands =
    let P : List ℕ → Type 0 = λ l. fold decode_byte (at InWord word words commands) l ≡ at InWord (word ++ b ∷ []) words commands in
    let named : (n : ℕ) → (b == n) ≡ true → at InWord (word ++ n ∷ []) words commands ≡ at InWord (word ++ b ∷ []) words commands = λ n is. ap (λ (x : ℕ). at InWord (word ++ x ∷ []) words commands) (sym (equal b n is)) in
    if_by P (b == 34) _ _ (named 34) (λ quote.
    if_by P (b == 92) _ _ (named 92) (λ backslash.
    if_by P (b == 10) _ _ (named 10) (λ newline.
    if_by P (b == 9) _ _ (named 9) (λ tab.
    if_by P (b == 13) _ _ (named 13) (λ return.
    if_by P (is_control b) _ _ (digits_decode b word words commands) (λ plain. plain_decodes b word words commands quote backslash))))))

word_decodes : (bytes word : List ℕ) (words : List (List ℕ)) (commands : List (List (List ℕ))) → fold decode_byte (at InWord word words commands) (all_escaped bytes) ≡ at InWord (word ++ bytes) words commands
word_decodes [] word words commands = ap (λ (l : List ℕ). at InWord l words commands) (sym (append-nil word))
word_decodes (b ∷ bytes) word words commands =
    fold-append decode_byte (at InWord word words commands) (escaped b) (all_escaped bytes)
    ∙ ap (λ (d : Decoder). fold decode_byte d (all_escaped bytes)) (byte_decodes b word words commands)
    ∙ word_decodes bytes (word ++ b ∷ []) words commands
    ∙ ap (λ (l : List ℕ). at InWord l words commands) (append_assoc word (b ∷ []) bytes)

quoted_decodes : (word : List ℕ) (words : List (List ℕ)) (commands : List (List (List ℕ))) → fold decode_byte (at InCommand [] words commands) (word_text word) ≡ at InCommand [] (words ++ word ∷ []) commands
quoted_decodes word words commands =
    fold-append decode_byte (at InWord [] words commands) (all_escaped word) (34 ∷ [])
    ∙ ap (λ (d : Decoder). fold decode_byte d (34 ∷ [])) (word_decodes word [] words commands)

further_words_decode : (more words : List (List ℕ)) (commands : List (List (List ℕ))) → fold decode_byte (at InCommand [] words commands) (further_words more) ≡ at InCommand [] (words ++ more) commands
further_words_decode [] words commands = ap (λ (l : List (List ℕ)). at InCommand [] l commands) (sym (append-nil words))
further_words_decode (word ∷ more) words commands =
    fold-append decode_byte (at InCommand [] words commands) (word_text word) (further_words more)
    ∙ ap (λ (d : Decoder). fold decode_byte d (further_words more)) (quoted_decodes word words commands)
    ∙ further_words_decode more (words ++ word ∷ []) commands
    ∙ ap (λ (l : List (List ℕ)). at InCommand [] l commands) (append_assoc words (word ∷ []) more)

spaced_words_decode : (words : List (List ℕ)) (commands : List (List (List ℕ))) → fold decode_byte (at InCommand [] [] commands) (spaced_words words) ≡ at InCommand [] words commands
spaced_words_decode [] commands = refl
spaced_words_decode (word ∷ words) commands =
    fold-append decode_byte (at InCommand [] [] commands) (word_text word) (further_words words)
    ∙ ap (λ (d : Decoder). fold decode_byte d (further_words words)) (quoted_decodes word [] commands)
    ∙ further_words_decode words (word ∷ []) commands

command_decodes : (words : List (List ℕ)) (commands : List (List (List ℕ))) → fold decode_byte (at InList [] [] commands) (command_text words) ≡ at InList [] [] (commands ++ words ∷ [])
command_decodes words commands =
    fold-append decode_byte (at InCommand [] [] commands) (spaced_words words) (93 ∷ [])
    ∙ ap (λ (d : Decoder). fold decode_byte d (93 ∷ [])) (spaced_words_decode words commands)

further_commands_decode : (more commands : List (List (List ℕ))) → fold decode_byte (at InList [] [] commands) (further_commands more) ≡ at InList [] [] (commands ++ more)
further_commands_decode [] commands = ap (λ (l : List (List (List ℕ))). at InList [] [] l) (sym (append-nil commands))
further_commands_decode (words ∷ more) commands =
    fold-append decode_byte (at InList [] [] commands) (command_text words) (further_commands more)
    ∙ ap (λ (d : Decoder). fold decode_byte d (further_commands more)) (command_decodes words commands)
    ∙ further_commands_decode more (commands ++ words ∷ [])
    ∙ ap (λ (l : List (List (List ℕ))). at InList [] [] l) (append_assoc commands (words ∷ []) more)

spaced_commands_decode : (commands : List (List (List ℕ))) → fold decode_byte (at InList [] [] []) (spaced_commands commands) ≡ at InList [] [] commands
spaced_commands_decode [] = refl
spaced_commands_decode (words ∷ commands) =
    fold-append decode_byte (at InList [] [] []) (command_text words) (further_commands commands)
    ∙ ap (λ (d : Decoder). fold decode_byte d (further_commands commands)) (command_decodes words [])
    ∙ further_commands_decode commands (words ∷ [])

-- the spelling of commands gives them back
text_decodes : (commands : List (List (List ℕ))) → decoded (opam_text commands) ≡ commands
text_decodes commands =
    let left : Decoder → List (List (List ℕ)) = λ d. d.commands in
    ap left (
    fold-append decode_byte (at InList [] [] []) (spaced_commands commands) (codes "]\n")
    ∙ ap (λ (d : Decoder). fold decode_byte d (codes "]\n")) (spaced_commands_decode commands)
    )

abbrev IsRead : List ℕ → List (List (List ℕ)) → Type 0
IsRead bytes commands = ((bytes ≡ version_line) × (commands ≡ [])) ⊎ (IsTrue (are_commands commands) × (bytes ≡ opam_text commands))

read_is : (test : Bool) (bytes : List ℕ) (found commands : List (List (List ℕ))) → (test ≡ true → bytes ≡ version_line) → (if test then Some [] else read_spelled_commands bytes found) ≡ Some commands → IsRead bytes commands
read_is true bytes found commands line is = inl (line refl, cc)
read_is false bytes found commands line is =
    let holds = chosen (are_commands found && bytes_eq bytes (opam_text found)) found commands is in
    let of = λ (l : List (List (List ℕ))). IsRead bytes l in
    subst of holds.1 (inr (both_left (are_commands found) (bytes_eq bytes (opam_text found)) holds.0, (bytes_eq-Decides bytes (opam_text found)).0 (both_right (are_commands found) (bytes_eq bytes (opam_text found)) holds.0)))

text_is_read : (commands : List (List (List ℕ))) → IsTrue (are_commands commands) → read_opam (opam_text commands) ≡ Some commands
text_is_read commands are =
    let text = opam_text commands in
    ap (read_spelled_commands text) (text_decodes commands)
    ∙ ap (λ b. if b then Some commands else None) (both (are_commands commands) (bytes_eq text text) are ((bytes_eq-Decides text text).1 refl))

pub opam_files_read : OpamFilesAreRead
opam_files_read bytes commands = (
  λ is. read_is (bytes_eq bytes version_line) bytes (decoded bytes) commands (bytes_eq-Decides bytes version_line).0 is,
  λ is. elim is [
    | inl line ↦ ap read_opam line.0 ∙ ap (λ (l : List (List (List ℕ))). Some l) (sym line.1)
    | inr text ↦ ap read_opam text.1 ∙ text_is_read commands text.0
  ],
)
