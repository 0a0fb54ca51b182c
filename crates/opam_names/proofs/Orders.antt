-- The first run of a text, and how words and numbers compare.
use Rattle.std.proofs.Common.{◌≡◌, ◌≢◌, ℕ, zero, suc, ◌+◌, ◌-◌, ◌*◌, ◌<◌, ◌≤◌, Bool, true, false, not, cond, List, [], ◌∷◌, ◌++◌, map, length, take, drop, get_or, refl, sym, ap, ◌∙◌, arith, le_of_suc-le-suc, ◌⊎◌, inl, inr, ⊎_elim, min, length-drop, subst, add-one}
use Rattle.std.proofs.lemmas.Bool.Decides.{nat_tests}
use Rattle.std.proofs.lemmas.List.Sums.{take_while-cons}
use Rattle.std.proofs.lemmas.Cmp.{nat_cmp_total, tied_itself, ranked}
use Rattle.std.proofs.Math.Seq.{drop-cons}
use Rattle.opam_names.proofs.Bytes.{both_left, both_right}
use Rattle.opam_names.proofs.Runs.{run_passes}
use Rattle.opam_names.proofs.Characters.{order}
use Rattle.std.proofs.lemmas.List.{drop_all}
use Rattle.std.proofs.lemmas.Map.Lookups.{exact_unsigned}
use Rattle.std.specs.Cmp.{nat_cmp_is}
use Rattle.std.specs.List.{list_all, prefix_len, take_while}
use Rattle.std.specs.Cmp.Lexicographic.{slice_cmp}
use Rattle.std.specs.Ordering.{nat_cmp, ordering_then, MatchOrdering}
use Rattle.std.specs.declared.cmp.Ordering.{Ordering}
use Rattle.std.specs.declared.cmp.Ordering.TheVariants.{Less, Equal, Greater}
use Rattle.std.specs.Prelude.{bytes_eq}
use Rattle.opam_names.specs.Names.{is_digit}
use Rattle.opam_names.specs.Orders.{Run, run_of, empty_run, onto_runs, runs, rank, first_rank, word_order, number_after, number, significant, is_zero, run_order, runs_order, text_order, is_no_digit, after_word, first_run, after_run}

pub same_is : (n : ℕ) → nat_cmp n n ≡ Equal
same_is n = tied_itself nat_cmp_total n

-- what stands after the front that passes a test
abbrev pub rest_of : (ℕ → Bool) → List ℕ → List ℕ
rest_of p xs = drop (prefix_len p xs) xs

pub rest-cons : (p : ℕ → Bool) (x : ℕ) (xs : List ℕ) → rest_of p (x ∷ xs) ≡ cond (p x) (rest_of p xs) (x ∷ xs)
rest-cons p x xs = elim (p x) as (λ b. drop (cond b (1 + prefix_len p xs) 0) (x ∷ xs) ≡ cond b (rest_of p xs) (x ∷ xs)) [
  | true ↦ let e : 1 + prefix_len p xs ≡ suc (prefix_len p xs) = omega arith in ap (λ n. drop n (x ∷ xs)) e
  | false ↦ refl
]

pub rest_passes : (p : ℕ → Bool) (x : ℕ) (xs : List ℕ) (b : Bool) → p x ≡ b → rest_of p (x ∷ xs) ≡ cond b (rest_of p xs) (x ∷ xs)
rest_passes p x xs b h = rest-cons p x xs ∙ ap (λ t. cond t (rest_of p xs) (x ∷ xs)) h

pub front_passes : (p : ℕ → Bool) (x : ℕ) (xs : List ℕ) (b : Bool) → p x ≡ b → take_while p (x ∷ xs) ≡ cond b (x ∷ take_while p xs) []
front_passes p x xs b h = take_while-cons p x xs ∙ ap (λ t. cond t (x ∷ take_while p xs) []) h

-- the runs of a text that may have ended
abbrev pub later : List ℕ → List Run
later [] = []
later (b ∷ bytes) = runs (b ∷ bytes)

-- a run and what follows it, by its word and what stands after that
abbrev pub cut_at : List ℕ → List ℕ → List Run
cut_at word rest = run_of word (take_while is_digit rest) ∷ later (rest_of is_digit rest)

onto_cut : ℕ → List ℕ → List ℕ → List Run
onto_cut b word rest = cond (is_digit b)
    (cond (bytes_eq word []) (run_of [] (b ∷ take_while is_digit rest) ∷ later (rest_of is_digit rest)) (run_of [] (b ∷ []) ∷ cut_at word rest))
    (cut_at (b ∷ word) rest)

onto_cut_is : (b : ℕ) (word rest : List ℕ) → onto_runs b (cut_at word rest) ≡ onto_cut b word rest
unfolding onto_cut
onto_cut_is b word rest = refl

onto_cut_word : (b : ℕ) (word rest : List ℕ) → is_digit b ≡ false → onto_cut b word rest ≡ cut_at (b ∷ word) rest
unfolding onto_cut
onto_cut_word b word rest h =
    ap (λ t. cond t (cond (bytes_eq word []) (run_of [] (b ∷ take_while is_digit rest) ∷ later (rest_of is_digit rest)) (run_of [] (b ∷ []) ∷ cut_at word rest)) (cut_at (b ∷ word) rest)) h

onto_cut_none : (b : ℕ) (rest : List ℕ) → is_digit b ≡ true → onto_cut b [] rest ≡ run_of [] (b ∷ take_while is_digit rest) ∷ later (rest_of is_digit rest)
unfolding onto_cut
onto_cut_none b rest h = ap (λ t. cond t (run_of [] (b ∷ take_while is_digit rest) ∷ later (rest_of is_digit rest)) (cut_at (b ∷ []) rest)) h

onto_cut_some : (b y : ℕ) (word rest : List ℕ) → is_digit b ≡ true → onto_cut b (y ∷ word) rest ≡ run_of [] (b ∷ []) ∷ cut_at (y ∷ word) rest
unfolding onto_cut
onto_cut_some b y word rest h = ap (λ t. cond t (run_of [] (b ∷ []) ∷ cut_at (y ∷ word) rest) (cut_at (b ∷ y ∷ word) rest)) h

-- a text that begins with a digit, cut
pub digit_first : (b : ℕ) (bytes : List ℕ) → is_digit b ≡ true
    → cut_at (take_while is_no_digit (b ∷ bytes)) (after_word (b ∷ bytes)) ≡ run_of [] (b ∷ take_while is_digit bytes) ∷ later (rest_of is_digit bytes)
digit_first b bytes h =
    let w : take_while is_no_digit (b ∷ bytes) ≡ [] = front_passes is_no_digit b bytes false (ap not h) in
    let r : after_word (b ∷ bytes) ≡ b ∷ bytes = rest_passes is_no_digit b bytes false (ap not h) in
    let d : take_while is_digit (b ∷ bytes) ≡ b ∷ take_while is_digit bytes = front_passes is_digit b bytes true h in
    let e : rest_of is_digit (b ∷ bytes) ≡ rest_of is_digit bytes = rest_passes is_digit b bytes true h in
    ap (λ t. cut_at t (after_word (b ∷ bytes))) w ∙ ap (cut_at []) r ∙ ap (λ t. run_of [] t ∷ later (rest_of is_digit (b ∷ bytes))) d ∙ ap (λ t. run_of [] (b ∷ take_while is_digit bytes) ∷ later t) e

-- what the runs of a text are, by its first run
abbrev IsCutFirst : List ℕ → Type 0
IsCutFirst text = runs text ≡ cut_at (take_while is_no_digit text) (after_word text)

cut_word : (b : ℕ) (bytes : List ℕ) → is_digit b ≡ false → IsCutFirst bytes → IsCutFirst (b ∷ bytes)
cut_word b bytes h before =
    let w : take_while is_no_digit (b ∷ bytes) ≡ b ∷ take_while is_no_digit bytes = front_passes is_no_digit b bytes true (ap not h) in
    let r : after_word (b ∷ bytes) ≡ after_word bytes = rest_passes is_no_digit b bytes true (ap not h) in
    ap (onto_runs b) before ∙ onto_cut_is b (take_while is_no_digit bytes) (after_word bytes) ∙ onto_cut_word b (take_while is_no_digit bytes) (after_word bytes) h
    ∙ sym (ap (λ t. cut_at t (after_word (b ∷ bytes))) w ∙ ap (cut_at (b ∷ take_while is_no_digit bytes)) r)

cut_two : (b y : ℕ) (bytes : List ℕ) (t : Bool) → is_digit b ≡ true → is_digit y ≡ t → IsCutFirst (y ∷ bytes) → IsCutFirst (b ∷ y ∷ bytes)
cut_two b y bytes true h k before =
    let w : take_while is_no_digit (y ∷ bytes) ≡ [] = front_passes is_no_digit y bytes false (ap not k) in
    let r : after_word (y ∷ bytes) ≡ y ∷ bytes = rest_passes is_no_digit y bytes false (ap not k) in
    ap (onto_runs b) before ∙ onto_cut_is b (take_while is_no_digit (y ∷ bytes)) (after_word (y ∷ bytes)) ∙ ap (λ l. onto_cut b l (after_word (y ∷ bytes))) w
    ∙ ap (onto_cut b []) r ∙ onto_cut_none b (y ∷ bytes) h ∙ sym (digit_first b (y ∷ bytes) h)
cut_two b y bytes false h k before =
    let w : take_while is_no_digit (y ∷ bytes) ≡ y ∷ take_while is_no_digit bytes = front_passes is_no_digit y bytes true (ap not k) in
    let d : take_while is_digit (y ∷ bytes) ≡ [] = front_passes is_digit y bytes false k in
    let e : rest_of is_digit (y ∷ bytes) ≡ y ∷ bytes = rest_passes is_digit y bytes false k in
    let back : cut_at (y ∷ take_while is_no_digit bytes) (after_word (y ∷ bytes)) ≡ runs (y ∷ bytes) = sym (before ∙ ap (λ l. cut_at l (after_word (y ∷ bytes))) w) in
    ap (onto_runs b) before ∙ onto_cut_is b (take_while is_no_digit (y ∷ bytes)) (after_word (y ∷ bytes)) ∙ ap (λ l. onto_cut b l (after_word (y ∷ bytes))) w
    ∙ onto_cut_some b y (take_while is_no_digit bytes) (after_word (y ∷ bytes)) h ∙ ap (λ l. run_of [] (b ∷ []) ∷ l) back
    ∙ sym (digit_first b (y ∷ bytes) h ∙ ap (λ l. run_of [] (b ∷ l) ∷ later (rest_of is_digit (y ∷ bytes))) d ∙ ap (λ l. run_of [] (b ∷ []) ∷ later l) e)

cut_digit : (b : ℕ) (bytes : List ℕ) → is_digit b ≡ true → IsCutFirst bytes → IsCutFirst (b ∷ bytes)
cut_digit b [] h before = ap (onto_runs b) before ∙ onto_cut_is b [] [] ∙ onto_cut_none b [] h ∙ sym (digit_first b [] h)
cut_digit b (y ∷ bytes) h before = cut_two b y bytes (is_digit y) h refl before

pub cut_first : (text : List ℕ) → runs text ≡ first_run text ∷ later (after_run text)
cut_first [] = refl
cut_first (b ∷ bytes) = elim (is_digit b) as (λ t. is_digit b ≡ t → IsCutFirst (b ∷ bytes)) [
  | true ↦ λ e. cut_digit b bytes e (cut_first bytes)
  | false ↦ λ e. cut_word b bytes e (cut_first bytes)
] refl

padded_left : (qs : List Run) → runs_order [] qs ≡ runs_order (empty_run ∷ []) qs
padded_left [] = refl
padded_left (q ∷ qs) = refl

padded_right : (ps : List Run) → runs_order ps [] ≡ runs_order ps (empty_run ∷ [])
padded_right [] = refl
padded_right (p ∷ ps) = refl

later_order : (a b : List ℕ) → runs_order (later a) (later b) ≡ text_order a b
later_order [] [] = refl
later_order [] (y ∷ ys) = padded_left (runs (y ∷ ys))
later_order (x ∷ xs) [] = padded_right (runs (x ∷ xs))
later_order (x ∷ xs) (y ∷ ys) = refl

-- the first runs decide, or what follows them
pub order_step : (a b : List ℕ) → text_order a b ≡ ordering_then (run_order (first_run a) (first_run b)) (text_order (after_run a) (after_run b))
order_step a b =
    ap (λ l. runs_order l (runs b)) (cut_first a) ∙ ap (runs_order (first_run a ∷ later (after_run a))) (cut_first b)
    ∙ ap (ordering_then (run_order (first_run a) (first_run b))) (later_order (after_run a) (after_run b))

pub then_decided : (o s : Ordering) → o ≢ Equal → ordering_then o s ≡ o
then_decided Less s h = refl
then_decided Equal s h = absurd (h refl)
then_decided Greater s h = refl

-- what follows a run is shorter, but for the text that has ended
after_short : (text : List ℕ) → length (after_run text) ≤ length text
after_short text = simp length-drop (omega arith)

after_shorter : (b : ℕ) (bytes : List ℕ) → length (after_run (b ∷ bytes)) < length (b ∷ bytes)
after_shorter b bytes = elim (is_digit b) as (λ t. is_digit b ≡ t → length (after_run (b ∷ bytes)) < length (b ∷ bytes)) [
  | true ↦ λ e.
      let r : after_word (b ∷ bytes) ≡ b ∷ bytes = rest_passes is_no_digit b bytes false (ap not e) in
      let s : rest_of is_digit (b ∷ bytes) ≡ rest_of is_digit bytes = rest_passes is_digit b bytes true e in
      let l : length (after_run (b ∷ bytes)) ≡ length (rest_of is_digit bytes) = ap (λ t. length (rest_of is_digit t)) r ∙ ap length s in
      let k = length-drop (prefix_len is_digit bytes) bytes in
      omega arith
  | false ↦ λ e.
      let r : after_word (b ∷ bytes) ≡ after_word bytes = rest_passes is_no_digit b bytes true (ap not e) in
      let l : length (after_run (b ∷ bytes)) ≡ length (after_run bytes) = ap (λ t. length (rest_of is_digit t)) r in
      let k = after_short bytes in
      omega arith
] refl

pub after_less : (a b : List ℕ) → (length a ≡ 0 → length b ≡ 0 → ⊥) → length (after_run a) + length (after_run b) < length a + length b
after_less [] [] h = absurd (h refl refl)
after_less [] (y ∷ ys) h = let l = after_shorter y ys in omega arith
after_less (x ∷ xs) b h = let k = after_short b in let l = after_shorter x xs in omega arith

pub order_decided : (a b : List ℕ) (o : Ordering) → o ≡ run_order (first_run a) (first_run b) → o ≢ Equal → text_order a b ≡ o
order_decided a b o h k = order_step a b ∙ ap (λ r. ordering_then r (text_order (after_run a) (after_run b))) (sym h) ∙ then_decided o (text_order (after_run a) (after_run b)) k

pub order_goes_on : (a b : List ℕ) → Equal ≡ run_order (first_run a) (first_run b) → text_order a b ≡ text_order (after_run a) (after_run b)
order_goes_on a b h = order_step a b ∙ ap (λ r. ordering_then r (text_order (after_run a) (after_run b))) (sym h)

pub rank_apart : (x y : ℕ) → rank x ≡ rank y → x ≡ y
rank_apart x y h = grind (arith, nat_tests)

pub rank_no_end : (x : ℕ) → rank x ≡ 1 → ⊥
rank_no_end x h = grind (arith, nat_tests)

pub words_alike : (x : ℕ) (xs ys : List ℕ) → word_order (x ∷ xs) (x ∷ ys) ≡ word_order xs ys
words_alike x xs ys = ap (λ o. ordering_then o (word_order xs ys)) (same_is (rank x))

pub words_apart : (x y : ℕ) (xs ys : List ℕ) → x ≢ y → word_order (x ∷ xs) (y ∷ ys) ≡ nat_cmp (rank x) (rank y)
words_apart x y xs ys h = then_decided (nat_cmp (rank x) (rank y)) (word_order xs ys) (λ e. h (rank_apart x y (exact_unsigned (rank x) (rank y) e)))

word_ends_left : (ys : List ℕ) → word_order [] ys ≡ nat_cmp 1 (first_rank ys)
word_ends_left [] = refl
word_ends_left (y ∷ ys) = then_decided (nat_cmp 1 (rank y)) (slice_cmp nat_cmp [] (map rank ys ++ 1 ∷ [])) (λ e. rank_no_end y (sym (exact_unsigned 1 (rank y) e)))

word_ends_right : (xs : List ℕ) → word_order xs [] ≡ nat_cmp (first_rank xs) 1
word_ends_right [] = refl
word_ends_right (x ∷ xs) = then_decided (nat_cmp (rank x) 1) (slice_cmp nat_cmp (map rank xs ++ 1 ∷ []) []) (λ e. rank_no_end x (exact_unsigned (rank x) 1 e))

shorter_ends : (m k n : ℕ) → n ≡ min m k → (m ≤ n) ⊎ (k ≤ n)
shorter_ends m k n h = ⊎_elim (λ (l : m < k). inl (omega arith)) (λ (l : k ≤ m). inr (omega arith)) (order m k)

-- where one of two words has ended
pub word_ends : (xs ys : List ℕ) (n : ℕ) → n ≡ min (length xs) (length ys) → word_order (drop n xs) (drop n ys) ≡ nat_cmp (first_rank (drop n xs)) (first_rank (drop n ys))
word_ends xs ys n h = ⊎_elim
    (λ (l : length xs ≤ n). let e : drop n xs ≡ [] = drop_all n xs l in ap (λ t. word_order t (drop n ys)) e ∙ word_ends_left (drop n ys) ∙ ap (λ t. nat_cmp (first_rank t) (first_rank (drop n ys))) (sym e))
    (λ (l : length ys ≤ n). let e : drop n ys ≡ [] = drop_all n ys l in ap (word_order (drop n xs)) e ∙ word_ends_right (drop n xs) ∙ ap (λ t. nat_cmp (first_rank (drop n xs)) (first_rank t)) (sym e))
    (shorter_ends (length xs) (length ys) n h)

-- numbers
digit_least : (d : ℕ) → is_digit d ≡ true → 48 ≤ d
digit_least d h = grind (arith, nat_tests)

digit_most : (d : ℕ) → is_digit d ≡ true → d ≤ 57
digit_most d h = grind (arith, nat_tests)

pub front_all : (p : ℕ → Bool) (front rest : List ℕ) (n : ℕ) → front ≡ take n rest → n ≡ prefix_len p rest → list_all p front ≡ true
front_all p front rest n h k = ap (list_all p) h ∙ run_passes p rest n (omega arith)

pub word_steps : (xs ys : List ℕ) (n : ℕ) → n < length xs → n < length ys → get_or xs n 0 ≡ get_or ys n 0 → word_order (drop n xs) (drop n ys) ≡ word_order (drop (n + 1) xs) (drop (n + 1) ys)
word_steps xs ys n l k h =
    let e : drop n xs ≡ get_or xs n 0 ∷ drop (n + 1) xs = rw add-one (drop-cons xs n 0 l) in
    let f : drop n ys ≡ get_or ys n 0 ∷ drop (n + 1) ys = rw add-one (drop-cons ys n 0 k) in
    ap (λ t. word_order t (drop n ys)) e ∙ ap (word_order (get_or xs n 0 ∷ drop (n + 1) xs)) f
    ∙ ap (λ t. word_order (t ∷ drop (n + 1) xs) (get_or ys n 0 ∷ drop (n + 1) ys)) h ∙ words_alike (get_or ys n 0) (drop (n + 1) xs) (drop (n + 1) ys)

pub word_decided : (xs ys : List ℕ) (n : ℕ) → n < length xs → n < length ys → get_or xs n 0 ≢ get_or ys n 0 → word_order (drop n xs) (drop n ys) ≡ nat_cmp (rank (get_or xs n 0)) (rank (get_or ys n 0))
word_decided xs ys n l k h =
    ap (λ t. word_order t (drop n ys)) (drop-cons xs n 0 l) ∙ ap (word_order (get_or xs n 0 ∷ drop (suc n) xs)) (drop-cons ys n 0 k)
    ∙ words_apart (get_or xs n 0) (get_or ys n 0) (drop (suc n) xs) (drop (suc n) ys) h

pub ahead : (ds es : List ℕ) (m n : ℕ) → list_all is_digit ds ≡ true → length ds ≤ length es → m < n → number_after m ds < number_after n es
ahead [] [] m n all l h = h
ahead [] (e ∷ es) m n all l h = ahead [] es m (10 * n + (e - 48)) all (omega arith) (omega arith)
ahead (d ∷ ds) [] m n all l h = absurd (omega arith)
ahead (d ∷ ds) (e ∷ es) m n all l h =
    let most = digit_most d (both_left (is_digit d) (list_all is_digit ds) all) in
    ahead ds es (10 * m + (d - 48)) (10 * n + (e - 48)) (both_right (is_digit d) (list_all is_digit ds) all) (le_of_suc-le-suc l) (omega arith)

pub is_less : (x y : ℕ) → x < y → nat_cmp x y ≡ Less
is_less x y h = sym (nat_cmp_is x y Less h)

pub is_greater : (x y : ℕ) → y < x → nat_cmp x y ≡ Greater
is_greater x y h = sym (nat_cmp_is x y Greater h)

three_ways : (x y : ℕ) → (x < y) ⊎ ((x ≡ y) ⊎ (y < x))
three_ways x y = ⊎_elim (λ (l : x < y). inl l) (λ (l : y ≤ x). ⊎_elim (λ (k : y < x). inr (inr k)) (λ (k : x ≤ y). inr (inl (omega arith))) (order y x)) (order x y)

same_length : (ds es : List ℕ) (n : ℕ) → list_all is_digit ds ≡ true → list_all is_digit es ≡ true → length ds ≡ length es
    → nat_cmp (number_after n ds) (number_after n es) ≡ slice_cmp nat_cmp ds es
same_length [] [] n f g l = same_is n
same_length [] (e ∷ es) n f g l = absurd (omega arith)
same_length (d ∷ ds) [] n f g l = absurd (omega arith)
same_length (d ∷ ds) (e ∷ es) n f g l =
    let fd = digit_least d (both_left (is_digit d) (list_all is_digit ds) f) in
    let ge = digit_least e (both_left (is_digit e) (list_all is_digit es) g) in
    let fs = both_right (is_digit d) (list_all is_digit ds) f in
    let gs = both_right (is_digit e) (list_all is_digit es) g in
    let size : length ds ≡ length es = omega arith in
    ⊎_elim
    (λ (below : d < e). is_less (number_after (10 * n + (d - 48)) ds) (number_after (10 * n + (e - 48)) es) (ahead ds es (10 * n + (d - 48)) (10 * n + (e - 48)) fs (omega arith) (omega arith))
    ∙ ap (λ o. ordering_then o (slice_cmp nat_cmp ds es)) (sym (is_less d e below)))
    (⊎_elim
    (λ (same : d ≡ e). ap (λ x. nat_cmp (number_after (10 * n + (d - 48)) ds) (number_after (10 * n + (x - 48)) es)) (sym same) ∙ same_length ds es (10 * n + (d - 48)) fs gs size
    ∙ ap (λ o. ordering_then o (slice_cmp nat_cmp ds es)) (sym (ap (nat_cmp d) (sym same) ∙ same_is d)))
    (λ (above : e < d). is_greater (number_after (10 * n + (d - 48)) ds) (number_after (10 * n + (e - 48)) es) (ahead es ds (10 * n + (e - 48)) (10 * n + (d - 48)) gs (omega arith) (omega arith))
    ∙ ap (λ o. ordering_then o (slice_cmp nat_cmp ds es)) (sym (is_greater d e above))))
    (three_ways d e)

no_zero_above : (e : ℕ) → 48 ≤ e → is_zero e ≡ false → 48 < e
no_zero_above e l h = grind (arith, nat_tests)

-- a list that does not begin with a zero
abbrev pub NoZeroFirst : List ℕ → Type 0
NoZeroFirst [] = Unit {0}
NoZeroFirst (d ∷ ds) = is_zero d ≡ false

longer : (ds es : List ℕ) → list_all is_digit ds ≡ true → list_all is_digit es ≡ true → NoZeroFirst es → length ds < length es → number ds < number es
longer ds [] f g h l = absurd (omega arith)
longer ds (e ∷ es) f g h l =
    let least = digit_least e (both_left (is_digit e) (list_all is_digit es) g) in
    let apart : 48 < e = no_zero_above e least h in
    ahead ds es 0 (10 * 0 + (e - 48)) f (omega arith) (omega arith)

by_length : (sd se : List ℕ) (o : Ordering) → list_all is_digit sd ≡ true → list_all is_digit se ≡ true → NoZeroFirst sd → NoZeroFirst se
    → MatchOrdering o (length sd < length se) (length sd ≡ length se) (length se < length sd) → nat_cmp (number sd) (number se) ≡ ordering_then o (slice_cmp nat_cmp sd se)
by_length sd se Less f g d e l = is_less (number sd) (number se) (longer sd se f g e l)
by_length sd se Equal f g d e l = same_length sd se 0 f g l
by_length sd se Greater f g d e l = is_greater (number sd) (number se) (longer se sd g f d l)

pub significant_number : (ds : List ℕ) → number (significant ds) ≡ number ds
significant_number [] = refl
significant_number (d ∷ ds) = elim (is_zero d) as (λ b. is_zero d ≡ b → number (significant (d ∷ ds)) ≡ number (d ∷ ds)) [
  | true ↦ λ e. ap number (rest_passes is_zero d ds true e) ∙ significant_number ds ∙ ap (λ x. number_after x ds) (let is : d ≡ 48 = grind (arith, nat_tests) in omega arith)
  | false ↦ λ e. ap number (rest_passes is_zero d ds false e)
] refl

pub significant_first : (ds : List ℕ) → NoZeroFirst (significant ds)
significant_first [] = tt
significant_first (d ∷ ds) = elim (is_zero d) as (λ b. is_zero d ≡ b → NoZeroFirst (significant (d ∷ ds))) [
  | true ↦ λ e. subst NoZeroFirst (sym (rest_passes is_zero d ds true e)) (significant_first ds)
  | false ↦ λ e. subst NoZeroFirst (sym (rest_passes is_zero d ds false e)) e
] refl

all_drop : (p : ℕ → Bool) (n : ℕ) (xs : List ℕ) → list_all p xs ≡ true → list_all p (drop n xs) ≡ true
all_drop p zero xs h = h
all_drop p (suc n) [] h = refl
all_drop p (suc n) (x ∷ xs) h = all_drop p n xs (both_right (p x) (list_all p xs) h)

-- what the lengths of significant digits say, and where they are the same their bytes
pub number_by_length : (ds es : List ℕ) (o : Ordering) → list_all is_digit ds ≡ true → list_all is_digit es ≡ true → o ≡ nat_cmp (length (significant ds)) (length (significant es))
    → nat_cmp (number ds) (number es) ≡ ordering_then o (slice_cmp nat_cmp (significant ds) (significant es))
number_by_length ds es o f g h =
    let sd = significant ds in
    let se = significant es in
    let fs : list_all is_digit sd ≡ true = all_drop is_digit (prefix_len is_zero ds) ds f in
    let gs : list_all is_digit se ≡ true = all_drop is_digit (prefix_len is_zero es) es g in
    let values : nat_cmp (number ds) (number es) ≡ nat_cmp (number sd) (number se) = sym (ap (λ x. nat_cmp x (number se)) (significant_number ds) ∙ ap (nat_cmp (number ds)) (significant_number es)) in
    values ∙ by_length sd se o fs gs (significant_first ds) (significant_first es) (ranked (length sd) (length se) o h)
