-- Words when more stands after the bytes: the word ends within them, or it goes on.
use Rattle.std.proofs.Common.{◌≡◌, ℕ, ◌+◌, Bool, true, false, not, List, [], ◌∷◌, ◌++◌, length, drop, refl, ap, sym, subst, ◌∙◌, arith}
use Rattle.std.specs.Prelude.{◌==◌, ◌&&◌, ◌||◌}
use Rattle.std.specs.List.{list_any}
use Rattle.syntax_trees.specs.Words.{is_word_byte, begins_word, joins, word_of}
use Rattle.syntax_trees.proofs.WordsAgain.{skip, enter, other_byte}

-- a colon is among the bytes
abbrev pub has_colon : List ℕ → Bool
has_colon bytes = list_any (λ b. b == 58) bytes

pub data WordSplit (joining : Bool) (bytes : List ℕ) : Type 0 where
  word_settled : (w g : List ℕ) → length w + length g ≡ length bytes → ((x : List ℕ) → word_of joining (bytes ++ x) ≡ w)
      → ((x : List ℕ) → drop (length w) (bytes ++ x) ≡ g ++ x) → WordSplit joining bytes
  word_open : ((x : List ℕ) → word_of joining (bytes ++ x) ≡ bytes ++ word_of (joining && not (has_colon bytes)) x) → WordSplit joining bytes
  word_edge : (v : List ℕ) (s : ℕ) → joining ≡ true → (s == 43 || s == 58) ≡ true → is_word_byte s ≡ false → bytes ≡ v ++ s ∷ [] → has_colon v ≡ false
      → ((x : List ℕ) → word_of joining (bytes ++ x) ≡ v ++ word_of true (s ∷ x)) → WordSplit joining bytes

and_true : (j : Bool) → (j && true) ≡ j
and_true true = refl
and_true false = refl

pub word_cons : (joining : Bool) (b : ℕ) (rest : List ℕ) → is_word_byte b ≡ true → word_of joining (b ∷ rest) ≡ b ∷ word_of joining rest
word_cons joining b rest h =
    enter _ _ _ (ap (λ x. x || (joining && joins b rest)) h)
    ∙ ap (λ j. b ∷ word_of j rest) (ap (λ x. joining && not x) (other_byte is_word_byte b 58 h refl) ∙ and_true joining)

or_true : (x : Bool) → (x || true) ≡ true
or_true true = refl
or_true false = refl

pub join_cons : (b : ℕ) (rest : List ℕ) → joins b rest ≡ true → word_of true (b ∷ rest) ≡ b ∷ word_of (not (b == 58)) rest
join_cons b rest h = enter _ _ _ (ap (λ x. is_word_byte b || x) h ∙ or_true (is_word_byte b))

pub word_stop : (joining : Bool) (b : ℕ) (rest : List ℕ) → is_word_byte b ≡ false → (joining && joins b rest) ≡ false → word_of joining (b ∷ rest) ≡ []
word_stop joining b rest h k = skip _ _ _ (ap (λ x. x || (joining && joins b rest)) h ∙ k)

-- the word has ended before the byte
stopped : (joining : Bool) (b : ℕ) (f : List ℕ) → is_word_byte b ≡ false → ((x : List ℕ) → (joining && joins b (f ++ x)) ≡ false) → WordSplit joining (b ∷ f)
stopped joining b f h k = word_settled [] (b ∷ f) (omega arith) (λ x. word_stop joining b (f ++ x) h (k x)) (λ x. refl)

-- a byte before what was split
before_split : (joining later : Bool) (b : ℕ) (f : List ℕ) → ((x : List ℕ) → word_of joining (b ∷ f ++ x) ≡ b ∷ word_of later (f ++ x))
    → ((f : List ℕ) → (later && not (has_colon f)) ≡ (joining && not (has_colon (b ∷ f)))) → (later ≡ true → (joining ≡ true) × ((b == 58) ≡ false))
    → WordSplit later f → WordSplit joining (b ∷ f)
before_split joining later b f h k j (word_settled w g l e d) = word_settled (b ∷ w) g (omega arith) (λ x. h x ∙ ap (λ z. b ∷ z) (e x)) d
before_split joining later b f h k j (word_open e) = word_open (λ x. h x ∙ ap (λ z. b ∷ z) (e x) ∙ ap (λ z. b ∷ f ++ word_of z x) (k f))
before_split joining later b f h k j (word_edge v s t c o i n e) =
    let a = j t in
    word_edge (b ∷ v) s a.0 c o (ap (λ z. b ∷ z) i) (ap (λ z. z || has_colon v) a.1 ∙ n) (λ x. h x ∙ ap (λ z. b ∷ z) (e x))

not_or : (a b : Bool) → (not a && not b) ≡ (true && not (a || b))
not_or true b = refl
not_or false b = refl

not_true : (a : Bool) → not a ≡ true → a ≡ false
not_true true e = sym e
not_true false e = refl

pub word_split : (joining : Bool) (bytes : List ℕ) → WordSplit joining bytes
word_split joining [] = word_open (λ x. ap (λ j. word_of j x) (sym (and_true joining)))
word_split joining (b ∷ f) = word_if (λ j. word_split j f) (is_word_byte b) refl
  where
    joined_if : ((j : Bool) → WordSplit j f) → (j : Bool) → joining ≡ j → is_word_byte b ≡ false → (c : Bool) → (b == 43 || b == 58) ≡ c → (f2 : List ℕ) → f ≡ f2 → WordSplit joining (b ∷ f)
    joined_if again false e w c h f2 i = stopped joining b f w (λ x. ap (λ z. z && joins b (f ++ x)) e)
    joined_if again true e w false h f2 i = stopped joining b f w (λ x. ap (λ z. z && joins b (f ++ x)) e ∙ ap (λ z. z && begins_word (f ++ x)) h)
    joined_if again true e w true h [] i =
        subst (λ z. WordSplit joining (b ∷ z)) (sym i)
        (subst (λ j. WordSplit j (b ∷ [])) (sym e) (word_edge [] b refl h w refl refl (λ x. refl)))
    joined_if again true e w true h (y ∷ g) i = more_if (is_word_byte y) refl
      where
        more_if : (m : Bool) → is_word_byte y ≡ m → WordSplit joining (b ∷ f)
        more_if true k =
            before_split joining (not (b == 58)) b f
            (λ x. subst (λ j. word_of j (b ∷ f ++ x) ≡ b ∷ word_of (not (b == 58)) (f ++ x)) (sym e)
            (join_cons b (f ++ x) (ap (λ z. z && begins_word (f ++ x)) h ∙ ap (λ z. begins_word (z ++ x)) i ∙ k)))
            (λ f3. not_or (b == 58) (has_colon f3) ∙ ap (λ j. j && not (has_colon (b ∷ f3))) (sym e))
            (λ t. (e, not_true (b == 58) t))
            (again (not (b == 58)))
        more_if false k =
            stopped joining b f w
            (λ x. ap (λ z. z && joins b (f ++ x)) e ∙ ap (λ z. z && begins_word (f ++ x)) h ∙ ap (λ z. begins_word (z ++ x)) i ∙ k)

    word_if : ((j : Bool) → WordSplit j f) → (c : Bool) → is_word_byte b ≡ c → WordSplit joining (b ∷ f)
    word_if again true e =
        let no : (b == 58) ≡ false = other_byte is_word_byte b 58 e refl in
        before_split joining joining b f (λ x. word_cons joining b (f ++ x) e) (λ f2. ap (λ z. joining && not (z || has_colon f2)) (sym no)) (λ t. (t, no))
        (again joining)
    word_if again false e = joined_if again joining refl e (b == 43 || b == 58) refl f refl
