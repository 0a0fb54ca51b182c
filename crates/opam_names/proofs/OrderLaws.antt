-- What `~`, leading zeros and the first difference do, and which versions are equal.
use Rattle.std.proofs.Common.{◌≡◌, ◌≢◌, ℕ, ◌&&◌, Bool, true, false, not, cond, List, [], ◌∷◌, ◌++◌, map, refl, sym, ap, ◌∙◌, subst, append-nil, append_assoc}
use Rattle.std.proofs.lemmas.Cmp.{tied_itself}
use Rattle.std.proofs.lemmas.Map.Lookups.{exact_unsigned}
use Rattle.std.specs.List.{list_all, take_while}
use Rattle.std.specs.Cmp.Lexicographic.{slice_cmp}
use Rattle.std.specs.Ordering.{nat_cmp, ordering_then}
use Rattle.std.specs.declared.cmp.Ordering.{Ordering}
use Rattle.std.specs.declared.cmp.Ordering.TheVariants.{Less, Equal, Greater}
use Rattle.std.specs.Prelude.{bytes_eq}
use Rattle.opam_names.specs.Names.{is_digit}
use Rattle.opam_names.specs.Orders.{Run, run_of, empty_run, onto_runs, runs, rank, word_order, number, run_order, runs_order, text_order, is_no_digit, first_run, after_run}
use Rattle.opam_names.specs.OrderLaws.{TildeComesFirst, ends_in_digit, LeadingZerosDoNotCount, Plain, plain, EqualVersionsDifferInZeros, FirstDifferenceDecides, joined_runs, is_run, are_alternating, IsCut, RunsAreCut}
use Rattle.opam_names.proofs.Bytes.{both_left, both_right}
use Rattle.opam_names.proofs.Orders.{later, cut_first, words_alike, rank_apart, then_decided, rank_no_end, digit_first, front_passes, rest_passes, rest_of}
use Rattle.opam_names.proofs.OrderTotal.{run_total, runs_total}
use Rattle.opam_names.proofs.RunCuts.{glue, glue_run, onto_by, runs_append}

run_itself : (p : Run) → run_order p p ≡ Equal
run_itself p = tied_itself run_total p

then_itself : (p : Run) (o : Ordering) → ordering_then (run_order p p) o ≡ o
then_itself p o = ap (λ r. ordering_then r o) (run_itself p)

-- a word that goes on with `~`
word_tilde : (w v : List ℕ) → word_order (w ++ 126 ∷ v) w ≡ Less
word_tilde [] v = refl
word_tilde (x ∷ w) v = words_alike x (w ++ 126 ∷ v) w ∙ word_tilde w v

tilde_run : (w d v e : List ℕ) (qs : List Run) → runs_order (glue_run w d (126 ∷ v) e qs) (run_of w d ∷ []) ≡ Less
tilde_run w [] v e qs = ap (λ o. ordering_then (ordering_then o (nat_cmp (number e) 0)) (runs_order qs [])) (word_tilde w v)
tilde_run w (y ∷ d) v e qs = then_itself (run_of w (y ∷ d)) Less

tilde_glued : (p : Run) (ps : List Run) (v e : List ℕ) (qs : List Run) → runs_order (glue (p ∷ ps) (126 ∷ v) e qs) (p ∷ ps) ≡ Less
tilde_glued p [] v e qs = tilde_run p.word p.digits v e qs
tilde_glued p (next ∷ ps) v e qs = then_itself p (runs_order (glue (next ∷ ps) (126 ∷ v) e qs) (next ∷ ps)) ∙ tilde_glued next ps v e qs

pub tilde_comes_first : TildeComesFirst
tilde_comes_first a more =
    let first = first_run more in
    let cut : runs (126 ∷ more) ≡ run_of (126 ∷ first.word) first.digits ∷ later (after_run more) = ap (onto_runs 126) (cut_first more) in
    ap (λ l. runs_order l (runs a)) (runs_append a (126 ∷ more) (126 ∷ first.word) first.digits (later (after_run more)) cut)
    ∙ ap (λ l. runs_order (glue l (126 ∷ first.word) first.digits (later (after_run more))) l) (cut_first a)
    ∙ tilde_glued (first_run a) (later (after_run a)) first.word first.digits (later (after_run more))

-- a zero after a byte that is no digit
zero_run : (w d : List ℕ) (x : ℕ) (e : List ℕ) (qs : List Run) → runs_order (glue_run w d (x ∷ []) (48 ∷ e) qs) (glue_run w d (x ∷ []) e qs) ≡ Equal
zero_run w [] x e qs = then_itself (run_of (w ++ x ∷ []) e) (runs_order qs qs) ∙ tied_itself runs_total qs
zero_run w (y ∷ d) x e qs =
    then_itself (run_of w (y ∷ d)) (ordering_then (run_order (run_of (x ∷ []) e) (run_of (x ∷ []) e)) (runs_order qs qs))
    ∙ then_itself (run_of (x ∷ []) e) (runs_order qs qs) ∙ tied_itself runs_total qs

zero_glued : (p : Run) (ps : List Run) (x : ℕ) (e : List ℕ) (qs : List Run) → runs_order (glue (p ∷ ps) (x ∷ []) (48 ∷ e) qs) (glue (p ∷ ps) (x ∷ []) e qs) ≡ Equal
zero_glued p [] x e qs = zero_run p.word p.digits x e qs
zero_glued p (next ∷ ps) x e qs =
    then_itself p (runs_order (glue (next ∷ ps) (x ∷ []) (48 ∷ e) qs) (glue (next ∷ ps) (x ∷ []) e qs)) ∙ zero_glued next ps x e qs

-- the runs of a text that begins with a digit
digit_runs : (digit : ℕ) (more : List ℕ) → is_digit digit ≡ true → runs (digit ∷ more) ≡ run_of [] (digit ∷ take_while is_digit more) ∷ later (rest_of is_digit more)
digit_runs digit more h = cut_first (digit ∷ more) ∙ digit_first digit more h

zero_runs : (digit : ℕ) (more : List ℕ) → is_digit digit ≡ true
    → runs (48 ∷ digit ∷ more) ≡ run_of [] (48 ∷ digit ∷ take_while is_digit more) ∷ later (rest_of is_digit more)
zero_runs digit more h =
    digit_runs 48 (digit ∷ more) refl ∙ ap (λ l. run_of [] (48 ∷ l) ∷ later (rest_of is_digit (digit ∷ more))) (front_passes is_digit digit more true h)
    ∙ ap (λ l. run_of [] (48 ∷ digit ∷ take_while is_digit more) ∷ later l) (rest_passes is_digit digit more true h)

-- the runs of a byte that is no digit and of digits after it
byte_runs : (x : ℕ) (text digits : List ℕ) (qs : List Run) → is_digit x ≡ false → runs text ≡ run_of [] digits ∷ qs → runs (x ∷ text) ≡ run_of (x ∷ []) digits ∷ qs
byte_runs x text digits qs h k =
    ap (onto_runs x) k ∙ ap (λ b. cond b (run_of [] (x ∷ digits) ∷ qs) (run_of (x ∷ []) digits ∷ qs)) h

zero_after : (a : List ℕ) (x digit : ℕ) (more : List ℕ) → is_digit x ≡ false → is_digit digit ≡ true → text_order (a ++ x ∷ 48 ∷ digit ∷ more) (a ++ x ∷ digit ∷ more) ≡ Equal
zero_after a x digit more h k =
    let e = digit ∷ take_while is_digit more in
    let qs = later (rest_of is_digit more) in
    let long = runs_append a (x ∷ 48 ∷ digit ∷ more) (x ∷ []) (48 ∷ e) qs (byte_runs x (48 ∷ digit ∷ more) (48 ∷ e) qs h (zero_runs digit more k)) in
    let short = runs_append a (x ∷ digit ∷ more) (x ∷ []) e qs (byte_runs x (digit ∷ more) e qs h (digit_runs digit more k)) in
    ap (λ l. runs_order l (runs (a ++ x ∷ digit ∷ more))) long ∙ ap (runs_order (glue (runs a) (x ∷ []) (48 ∷ e) qs)) short
    ∙ ap (λ l. runs_order (glue l (x ∷ []) (48 ∷ e) qs) (glue l (x ∷ []) e qs)) (cut_first a) ∙ zero_glued (first_run a) (later (after_run a)) x e qs

zero_first : (digit : ℕ) (more : List ℕ) → is_digit digit ≡ true → text_order (48 ∷ digit ∷ more) (digit ∷ more) ≡ Equal
zero_first digit more k =
    let e = digit ∷ take_while is_digit more in
    let qs = later (rest_of is_digit more) in
    ap (λ l. runs_order l (runs (digit ∷ more))) (zero_runs digit more k) ∙ ap (runs_order (run_of [] (48 ∷ e) ∷ qs)) (digit_runs digit more k)
    ∙ then_itself (run_of [] e) (runs_order qs qs) ∙ tied_itself runs_total qs

-- a text that does not end in a digit is empty, or has a last byte that is none
record IsWithLast (a : List ℕ) : Type 0 where
  front : List ℕ
  last : ℕ
  no_digit : is_digit last ≡ false
  is : a ≡ front ++ last ∷ []

last_of : (b : ℕ) (bytes : List ℕ) → ends_in_digit (b ∷ bytes) ≡ false → IsWithLast (b ∷ bytes)
last_of b [] h = record { front = []; last = b; no_digit = h; is = refl }
last_of b (c ∷ bytes) h =
    let l = last_of c bytes h in
    record { front = b ∷ l.front; last = l.last; no_digit = l.no_digit; is = ap (λ t. b ∷ t) l.is }

pub leading_zeros_do_not_count : LeadingZerosDoNotCount
leading_zeros_do_not_count [] digit more h k = zero_first digit more k
leading_zeros_do_not_count (b ∷ bytes) digit more h k =
    let l = last_of b bytes h in
    let at : (rest : List ℕ) → (b ∷ bytes) ++ rest ≡ l.front ++ l.last ∷ rest = λ rest. ap (λ t. t ++ rest) l.is ∙ append_assoc l.front (l.last ∷ []) rest in
    ap (λ t. text_order t ((b ∷ bytes) ++ digit ∷ more)) (at (48 ∷ digit ∷ more)) ∙ ap (text_order (l.front ++ l.last ∷ 48 ∷ digit ∷ more)) (at (digit ∷ more))
    ∙ zero_after l.front l.last digit more l.no_digit k

-- which versions are equal
then_first : (o s : Ordering) → ordering_then o s ≡ Equal → o ≡ Equal
then_first Less s h = cc
then_first Equal s h = refl
then_first Greater s h = cc

then_second : (o s : Ordering) → ordering_then o s ≡ Equal → s ≡ Equal
then_second Less s h = cc
then_second Equal s h = h
then_second Greater s h = cc

end_apart : (y : ℕ) (s : Ordering) → ordering_then (nat_cmp 1 (rank y)) s ≡ Equal → ⊥
end_apart y s h = rank_no_end y (sym (exact_unsigned 1 (rank y) (then_first (nat_cmp 1 (rank y)) s h)))

apart_end : (x : ℕ) (s : Ordering) → ordering_then (nat_cmp (rank x) 1) s ≡ Equal → ⊥
apart_end x s h = rank_no_end x (exact_unsigned (rank x) 1 (then_first (nat_cmp (rank x) 1) s h))

words_same : (xs ys : List ℕ) → word_order xs ys ≡ Equal → xs ≡ ys
words_same [] [] h = refl
words_same [] (y ∷ ys) h = absurd (end_apart y (slice_cmp nat_cmp [] (map rank ys ++ 1 ∷ [])) h)
words_same (x ∷ xs) [] h = absurd (apart_end x (slice_cmp nat_cmp (map rank xs ++ 1 ∷ []) []) h)
words_same (x ∷ xs) (y ∷ ys) h =
    let first : x ≡ y = rank_apart x y (exact_unsigned (rank x) (rank y) (then_first (nat_cmp (rank x) (rank y)) (word_order xs ys) h)) in
    let more : xs ≡ ys = words_same xs ys (then_second (nat_cmp (rank x) (rank y)) (word_order xs ys) h) in
    ap (λ a. a ∷ xs) first ∙ ap (λ l. y ∷ l) more

runs_same : (p q : Run) → run_order p q ≡ Equal → plain p ≡ plain q
runs_same p q h =
    let word : p.word ≡ q.word = words_same p.word q.word (then_first (word_order p.word q.word) (nat_cmp (number p.digits) (number q.digits)) h) in
    let value : number p.digits ≡ number q.digits = exact_unsigned (number p.digits) (number q.digits) (then_second (word_order p.word q.word) (nat_cmp (number p.digits) (number q.digits)) h) in
    cc

same_runs : (p q : Run) → plain p ≡ plain q → run_order p q ≡ Equal
same_runs p q h =
    let word : p.word ≡ q.word = ap (λ (l : Plain). l.word) h in
    let value : number p.digits ≡ number q.digits = ap (λ (l : Plain). l.value) h in
    ap (λ w. ordering_then (word_order w q.word) (nat_cmp (number p.digits) (number q.digits))) word
    ∙ ap (λ n. ordering_then (word_order q.word q.word) (nat_cmp n (number q.digits))) value ∙ run_itself q

-- all runs but the first have words
abbrev AllHaveWords : List Run → Type 0
AllHaveWords [] = Unit {0}
AllHaveWords (q ∷ qs) = (q.word ≢ []) × AllHaveWords qs

abbrev LaterHaveWords : List Run → Type 0
LaterHaveWords [] = Unit {0}
LaterHaveWords (q ∷ qs) = AllHaveWords qs

onto_later : (b : Bool) (x : ℕ) (w d : List ℕ) (ps : List Run) → AllHaveWords ps → LaterHaveWords (onto_by b x w d ps)
onto_later false x w d ps h = h
onto_later true x [] d ps h = h
onto_later true x (y ∷ w) d ps h = ((λ e. cc), h)

later_have_words : (text : List ℕ) → LaterHaveWords (runs text)
later_have_words [] = tt
later_have_words (x ∷ text) =
    let first = first_run text in
    let before : AllHaveWords (later (after_run text)) = subst LaterHaveWords (cut_first text) (later_have_words text) in
    subst LaterHaveWords (sym (ap (onto_runs x) (cut_first text))) (onto_later (is_digit x) x first.word first.digits (later (after_run text)) before)

word_no_end : (q : Run) → q.word ≢ [] → run_order empty_run q ≡ Equal → ⊥
word_no_end q h e = h (sym (words_same [] q.word (then_first (word_order [] q.word) (nat_cmp 0 (number q.digits)) e)))

end_no_word : (p : Run) → p.word ≢ [] → run_order p empty_run ≡ Equal → ⊥
end_no_word p h e = h (words_same p.word [] (then_first (word_order p.word []) (nat_cmp (number p.digits) 0) e))

all_same : (ps qs : List Run) → AllHaveWords ps → AllHaveWords qs → runs_order ps qs ≡ Equal → map plain ps ≡ map plain qs
all_same [] [] f g h = refl
all_same [] (q ∷ qs) f g h = absurd (word_no_end q g.0 (then_first (run_order empty_run q) (runs_order [] qs) h))
all_same (p ∷ ps) [] f g h = absurd (end_no_word p f.0 (then_first (run_order p empty_run) (runs_order ps []) h))
all_same (p ∷ ps) (q ∷ qs) f g h =
    let first : plain p ≡ plain q = runs_same p q (then_first (run_order p q) (runs_order ps qs) h) in
    let more : map plain ps ≡ map plain qs = all_same ps qs f.1 g.1 (then_second (run_order p q) (runs_order ps qs) h) in
    ap (λ l. l ∷ map plain ps) first ∙ ap (λ l. plain q ∷ l) more

whole_same : (p q : Run) (ps qs : List Run) → AllHaveWords ps → AllHaveWords qs → runs_order (p ∷ ps) (q ∷ qs) ≡ Equal → map plain (p ∷ ps) ≡ map plain (q ∷ qs)
whole_same p q ps qs f g h =
    let first : plain p ≡ plain q = runs_same p q (then_first (run_order p q) (runs_order ps qs) h) in
    let more : map plain ps ≡ map plain qs = all_same ps qs f g (then_second (run_order p q) (runs_order ps qs) h) in
    ap (λ l. l ∷ map plain ps) first ∙ ap (λ l. plain q ∷ l) more

same_plain : (ps qs : List Run) → map plain ps ≡ map plain qs → (more_p more_q : List Run) → runs_order (ps ++ more_p) (qs ++ more_q) ≡ runs_order more_p more_q
same_plain [] [] h more_p more_q = refl
same_plain [] (q ∷ qs) h more_p more_q = cc
same_plain (p ∷ ps) [] h more_p more_q = cc
same_plain (p ∷ ps) (q ∷ qs) h more_p more_q =
    let first : plain p ≡ plain q = cc in
    let more : map plain ps ≡ map plain qs = cc in
    ap (λ o. ordering_then o (runs_order (ps ++ more_p) (qs ++ more_q))) (same_runs p q first) ∙ same_plain ps qs more more_p more_q

pub equal_versions_differ_in_zeros : EqualVersionsDifferInZeros
equal_versions_differ_in_zeros a b = (
  (λ h.
      let f = subst LaterHaveWords (cut_first a) (later_have_words a) in
      let g = subst LaterHaveWords (cut_first b) (later_have_words b) in
      let order : runs_order (first_run a ∷ later (after_run a)) (first_run b ∷ later (after_run b)) ≡ Equal =
      sym (ap (λ l. runs_order l (runs b)) (cut_first a) ∙ ap (runs_order (first_run a ∷ later (after_run a))) (cut_first b)) ∙ h in
      ap (map plain) (cut_first a) ∙ whole_same (first_run a) (first_run b) (later (after_run a)) (later (after_run b)) f g order ∙ sym (ap (map plain) (cut_first b))),
  (λ h. sym (ap (λ l. runs_order l (runs b ++ [])) (append-nil (runs a)) ∙ ap (runs_order (runs a)) (append-nil (runs b))) ∙ same_plain (runs a) (runs b) h [] []),
)

pub first_difference_decides : FirstDifferenceDecides
first_difference_decides a b same alike p q ps qs f g h k =
    ap (λ l. runs_order l (runs b)) f ∙ ap (runs_order (same ++ p ∷ ps)) g ∙ same_plain same alike h (p ∷ ps) (q ∷ qs) ∙ then_decided (run_order p q) (runs_order ps qs) k

-- where the runs of a text are cut
onto_joined : (b : Bool) (x : ℕ) (w d : List ℕ) (ps : List Run) → joined_runs (onto_by b x w d ps) ≡ x ∷ joined_runs (run_of w d ∷ ps)
onto_joined false x w d ps = refl
onto_joined true x [] d ps = refl
onto_joined true x (y ∷ w) d ps = refl

no_digit_is : (x : ℕ) → is_digit x ≡ false → is_no_digit x ≡ true
no_digit_is x h = ap not h

onto_each : (b : Bool) (x : ℕ) (w d : List ℕ) (ps : List Run) → is_digit x ≡ b → list_all is_run (run_of w d ∷ ps) ≡ true → list_all is_run (onto_by b x w d ps) ≡ true
onto_each false x w d ps h all = ap (λ t. ((t && list_all is_no_digit w) && list_all is_digit d) && list_all is_run ps) (no_digit_is x h) ∙ all
onto_each true x [] d ps h all = ap (λ t. (t && list_all is_digit d) && list_all is_run ps) h ∙ all
onto_each true x (y ∷ w) d ps h all = ap (λ t. (t && true) && list_all is_run (run_of (y ∷ w) d ∷ ps)) h ∙ all

onto_alternating : (b : Bool) (x : ℕ) (w d : List ℕ) (ps : List Run) → are_alternating (run_of w d ∷ ps) ≡ true → are_alternating (onto_by b x w d ps) ≡ true
onto_alternating false x w d [] h = refl
onto_alternating false x w d (next ∷ ps) h = h
onto_alternating true x [] d [] h = refl
onto_alternating true x [] d (next ∷ ps) h =
    let word = both_right (not (bytes_eq d [])) (not (bytes_eq next.word [])) (both_left (not (bytes_eq d []) && not (bytes_eq next.word [])) (are_alternating (next ∷ ps)) h) in
    let more = both_right (not (bytes_eq d []) && not (bytes_eq next.word [])) (are_alternating (next ∷ ps)) h in
    ap (λ t. (true && t) && are_alternating (next ∷ ps)) word ∙ more
onto_alternating true x (y ∷ w) d ps h = h

cut_more : (x : ℕ) (text : List ℕ) → IsCut text (first_run text ∷ later (after_run text)) → IsCut (x ∷ text) (onto_runs x (first_run text ∷ later (after_run text)))
cut_more x text cut =
    let first = first_run text in
    let ps = later (after_run text) in record {
      joined = onto_joined (is_digit x) x first.word first.digits ps ∙ ap (λ l. x ∷ l) cut.joined;
      each = onto_each (is_digit x) x first.word first.digits ps refl cut.each;
      alternating = onto_alternating (is_digit x) x first.word first.digits ps cut.alternating;
    }

pub runs_are_cut : RunsAreCut
runs_are_cut [] = record { joined = refl; each = refl; alternating = refl }
runs_are_cut (x ∷ text) =
    subst (IsCut (x ∷ text)) (sym (ap (onto_runs x) (cut_first text))) (cut_more x text (subst (IsCut text) (cut_first text) (runs_are_cut text)))
