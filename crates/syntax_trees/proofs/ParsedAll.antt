-- Parts that are joined by `&`, one after another.
use Rattle.std.proofs.Common.{◌≡◌, ◌≢◌, ℕ, ◌≤◌, true, List, [], ◌∷◌, ◌++◌, map, refl, sym, subst, ap, ◌∙◌, arith, append_assoc}
use Rattle.std.specs.declared.option.Option.TheVariants.{Some}
use Rattle.syntax_trees.specs.declared.token.Token.{Token}
use Rattle.syntax_trees.specs.declared.token.Token.TheVariants.{OpenBraces, And}
use Rattle.syntax_trees.specs.declared.queue.Sign.TheVariants as sign
use Rattle.syntax_trees.specs.declared.tree.Span.{Span}
use Rattle.syntax_trees.specs.declared.tree.Node.{Node}
use Rattle.syntax_trees.specs.declared.tree.Value.TheOpen.{Value-F}
use Rattle.syntax_trees.specs.Tokens.{Placed, placed}
use Rattle.syntax_trees.specs.Grammar.{AndLevel, UnaryLevel, node, all_of, Spells, conjunction, AreConjuncts, last_conjunct, conjunct}
use Rattle.syntax_trees.specs.Nesting.{depth, most}
use Rattle.syntax_trees.specs.Parsing.{stops, stops_at, follower, sign_of, next_sign, IsParsed, IsRefused, AreAll, AreJoined, AreNoneJoined}
use Rattle.syntax_trees.proofs.OneTree.{same, unary_stops, conjuncts_too, tail_same}
use Rattle.syntax_trees.proofs.Depths.{depth_all, last_span_more}

no_and_at : (token : Token) → sign_of token ≢ Some sign.And → stops_at UnaryLevel (follower token) ≡ true → stops_at AndLevel (follower token) ≡ true
no_and_at And e h = absurd (e refl)
no_and_at OpenBraces e h = h
no_and_at token e h = refl

no_and : (rest : List Placed) → next_sign rest ≢ Some sign.And → stops UnaryLevel rest ≡ true → stops AndLevel rest ≡ true
no_and [] e h = refl
no_and (placed token at ∷ rest) e h = no_and_at token e h

-- what was parsed is the beginning of whatever is joined
pub record AllSoFar (allowed : ℕ) (head : Node) (tokens : List Placed) (parts : List Node) (now : List Placed) : Type 0 where
  pub done : List Node
  pub listed : parts ≡ head ∷ done
  pub goes_on : (more : List Node) (rest : List Placed) → AreAll now more rest → AreAll tokens (done ++ more) rest
  pub only : (all : List Node) (rest : List Placed) → AreAll tokens all rest → stops AndLevel rest ≡ true
      → (more : List Node) × (all ≡ done ++ more) × AreAll now more rest
  pub shallow : most (map depth done) ≤ allowed

pub all_start : (allowed : ℕ) (head : Node) (tokens : List Placed) (parts : List Node) → parts ≡ head ∷ [] → AllSoFar allowed head tokens parts tokens
all_start allowed head tokens parts e = record {
  done = [];
  listed = e;
  goes_on = λ more rest p. p;
  only = λ all rest p k. (all, refl, p);
  shallow = omega arith;
}

joined_more : (now next : List Placed) (at : Span) (part : Node) → Spells UnaryLevel now part (placed And at ∷ next) → (more : List Node) (rest : List Placed)
    → AreAll next more rest → AreAll now (part ∷ more) rest
joined_more now next at part p [] rest q = absurd q
joined_more now next at part p (x ∷ more) rest q = conjunct p q

joined_only : {now next : List Placed} {at : Span} {part : Node} → Spells UnaryLevel now part (placed And at ∷ next)
    → {x : Node} {more : List Node} {rest : List Placed} → AreConjuncts now x more rest → stops AndLevel rest ≡ true
    → (others : List Node) × ((x ∷ more) ≡ (part ∷ others)) × AreAll next others rest
joined_only p {rest = rest} (last_conjunct q) k =
    let e = same p refl q (unary_stops rest k) in let f = ap (stops AndLevel) e.1 ∙ k in absurd cc
joined_only p (conjunct {next = y} {more = ys} q u) k =
    let e = same p refl q refl in
    (y ∷ ys, ap (λ z. z ∷ y ∷ ys) (sym e.0), conjuncts_too (tail_same e.1) u)

all_only : {now next : List Placed} {at : Span} {part : Node} → Spells UnaryLevel now part (placed And at ∷ next)
    → (all : List Node) (rest : List Placed) → AreAll now all rest → stops AndLevel rest ≡ true
    → (others : List Node) × (all ≡ (part ∷ others)) × AreAll next others rest
all_only p [] rest q k = absurd q
all_only p (x ∷ more) rest q k = joined_only p q k

deep_more : (allowed : ℕ) (done : List Node) (part : Node) → most (map depth done) ≤ allowed → depth part ≤ allowed
    → most (map depth (done ++ part ∷ [])) ≤ allowed
deep_more allowed [] part h k = omega arith
deep_more allowed (d ∷ done) part h k = let e = deep_more allowed done part (omega arith) k in omega arith

pub all_step : (allowed : ℕ) (head : Node) (tokens : List Placed) (parts : List Node) (now : List Placed) (part : Node) (at : Span) (next : List Placed)
    → AllSoFar allowed head tokens parts now → IsParsed UnaryLevel allowed now part (placed And at ∷ next)
    → AllSoFar allowed head tokens (parts ++ part ∷ []) next
all_step allowed head tokens parts now part at next s p = record {
  done = s.done ++ part ∷ [];
  listed = ap (λ ps. ps ++ part ∷ []) s.listed;
  goes_on = λ more rest q.
      subst (λ ps. AreAll tokens ps rest) (sym (append_assoc s.done (part ∷ []) more))
      (s.goes_on (part ∷ more) rest (joined_more now next at part p.spelled more rest q));
  only = λ all rest q k.
      let a = s.only all rest q k in
      let b = all_only p.spelled a.0 rest a.2 k in
      (b.0, a.1 ∙ ap (λ ps. s.done ++ ps) b.1 ∙ sym (append_assoc s.done (part ∷ []) b.0), b.2);
  shallow = deep_more allowed s.done part s.shallow p.shallow;
}

all_snoc : (head : Node) (done : List Node) (part : Node)
    → node (Value-F.And (head ∷ (done ++ part ∷ []))) head.span part.span ≡ all_of head (done ++ part ∷ [])
all_snoc head [] part = refl
all_snoc head (d ∷ done) part =
    ap (λ to. node (Value-F.And (head ∷ d ∷ (done ++ part ∷ []))) head.span to) (sym (last_span_more d done part))

pub all_end : (allowed : ℕ) (head : Node) (tokens : List Placed) (parts : List Node) (now : List Placed) (part : Node) (rest : List Placed)
    → AllSoFar allowed head tokens parts now → IsParsed UnaryLevel allowed now part rest → next_sign rest ≢ Some sign.And
    → (others : List Node) × AreJoined AndLevel AreAll allowed tokens others rest
    × (node (Value-F.And (parts ++ part ∷ [])) head.span part.span ≡ all_of head others)
all_end allowed head tokens parts now part rest s p h = (
  s.done ++ part ∷ [],
  record {
    spelled = s.goes_on (part ∷ []) rest (last_conjunct p.spelled);
    stopped = no_and rest h p.stopped;
    shallow = deep_more allowed s.done part s.shallow p.shallow;
  },
  ap (λ ps. node (Value-F.And (ps ++ part ∷ [])) head.span part.span) s.listed ∙ all_snoc head s.done part,
)

-- the same, as the loop says it
pub all_answer : (allowed : ℕ) (head : Node) (tokens : List Placed) (parts : List Node) (now : List Placed) (part : Node) (rest end : List Placed)
    (listed : List Node) (made : Node) → AllSoFar allowed head tokens parts now → IsParsed UnaryLevel allowed now part rest
    → (end ≡ rest) × (next_sign rest ≢ Some sign.And) → listed ≡ parts ++ part ∷ [] → made ≡ node (Value-F.And listed) head.span part.span
    → (others : List Node) × AreJoined AndLevel AreAll allowed tokens others end × (made ≡ all_of head others)
all_answer allowed head tokens parts now part rest end listed made s p h e f =
    let a = all_end allowed head tokens parts now part rest s p h.1 in (
      a.0,
      subst (λ r. AreJoined AndLevel AreAll allowed tokens a.0 r) (sym h.0) a.1,
      f ∙ ap (λ ps. node (Value-F.And ps) head.span part.span) e ∙ a.2,
    )

pub listed_so_far : {allowed : ℕ} {head : Node} {tokens : List Placed} {parts listed : List Node} {now : List Placed} → listed ≡ parts
    → AllSoFar allowed head tokens parts now → AllSoFar allowed head tokens listed now
listed_so_far {allowed} {head} {tokens} {now = now} e s = subst (λ ps. AllSoFar allowed head tokens ps now) (sym e) s

first_none : {allowed : ℕ} {now : List Placed} → IsRefused UnaryLevel allowed now → {x : Node} {more : List Node} {rest : List Placed}
    → AreConjuncts now x more rest → stops AndLevel rest ≡ true → depth x ≤ allowed → ⊥
first_none h {rest = rest} (last_conjunct p) k s = h _ _ (record { spelled = p; stopped = unary_stops rest k; shallow = s })
first_none h (conjunct p q) k s = h _ _ (record { spelled = p; stopped = refl; shallow = s })

parts_none : (allowed : ℕ) (now : List Placed) → IsRefused UnaryLevel allowed now → (parts : List Node) (rest : List Placed)
    → AreAll now parts rest → stops AndLevel rest ≡ true → most (map depth parts) ≤ allowed → ⊥
parts_none allowed now h [] rest p k s = p
parts_none allowed now h (x ∷ more) rest p k s = first_none h p k (omega arith)

deep_later : (allowed : ℕ) (done more all : List Node) → all ≡ done ++ more → most (map depth all) ≤ allowed → most (map depth more) ≤ allowed
deep_later allowed [] more all e h = subst (λ ps. most (map depth ps) ≤ allowed) e h
deep_later allowed (d ∷ done) more all e h =
    let f : most (map depth (d ∷ (done ++ more))) ≤ allowed = subst (λ ps. most (map depth ps) ≤ allowed) e h in
    deep_later allowed done more (done ++ more) refl (omega arith)

pub all_refused : (allowed : ℕ) (head : Node) (tokens : List Placed) (parts : List Node) (now : List Placed)
    → AllSoFar allowed head tokens parts now → IsRefused UnaryLevel allowed now → AreNoneJoined AndLevel AreAll allowed tokens
all_refused allowed head tokens parts now s h all rest p =
    let a = s.only all rest p.spelled p.stopped in
    parts_none allowed now h a.0 rest a.2 p.stopped (deep_later allowed s.done a.0 all a.1 p.shallow)

-- the level itself

pub one_part_parsed : (allowed : ℕ) (tokens : List Placed) (n : Node) (rest : List Placed) → IsParsed UnaryLevel allowed tokens n rest
    → next_sign rest ≢ Some sign.And → IsParsed AndLevel allowed tokens n rest
one_part_parsed allowed tokens n rest p h =
    record { spelled = conjunction (last_conjunct p.spelled); stopped = no_and rest h p.stopped; shallow = p.shallow }

level_none : {allowed : ℕ} {tokens : List Placed} → IsRefused UnaryLevel allowed tokens → {n : Node} {rest : List Placed} → Spells AndLevel tokens n rest
    → stops AndLevel rest ≡ true → depth n ≤ allowed → ⊥
level_none h (conjunction {first = x} {more = more} p) k s = let d = depth_all x more in first_none h p k (omega arith)

pub head_refused : (allowed : ℕ) (tokens : List Placed) → IsRefused UnaryLevel allowed tokens → IsRefused AndLevel allowed tokens
head_refused allowed tokens h n rest p = level_none h p.spelled p.stopped p.shallow

all_spelled : {tokens more : List Placed} {at : Span} {head : Node} → Spells UnaryLevel tokens head (placed And at ∷ more) → (parts : List Node)
    (rest : List Placed) → AreAll more parts rest → Spells AndLevel tokens (all_of head parts) rest
all_spelled p [] rest q = absurd q
all_spelled p (x ∷ parts) rest q = conjunction (conjunct p q)

pub all_parsed : (allowed : ℕ) (tokens more : List Placed) (at : Span) (head : Node) (parts : List Node) (rest : List Placed)
    → IsParsed UnaryLevel allowed tokens head (placed And at ∷ more) → AreJoined AndLevel AreAll allowed more parts rest
    → IsParsed AndLevel allowed tokens (all_of head parts) rest
all_parsed allowed tokens more at head parts rest p q = record {
  spelled = all_spelled p.spelled parts rest q.spelled;
  stopped = q.stopped;
  shallow = let d = depth_all head parts in let s = p.shallow in let t = q.shallow in omega arith;
}

others_none : {allowed : ℕ} {tokens more : List Placed} {at : Span} {head : Node} → Spells UnaryLevel tokens head (placed And at ∷ more)
    → AreNoneJoined AndLevel AreAll allowed more → {n : Node} {rest : List Placed} → Spells AndLevel tokens n rest
    → stops AndLevel rest ≡ true → depth n ≤ allowed → ⊥
others_none {allowed = allowed} p h {rest = rest} (conjunction {first = x} {more = xs} q) k s =
    let d = depth_all x xs in
    let a = joined_only p q k in
    let e : most (map depth (x ∷ xs)) ≤ allowed = omega arith in
    h a.0 rest (record { spelled = a.2; stopped = k; shallow = deep_later allowed (_ ∷ []) a.0 (x ∷ xs) a.1 e })

pub others_refused : (allowed : ℕ) (tokens more : List Placed) (at : Span) (head : Node)
    → IsParsed UnaryLevel allowed tokens head (placed And at ∷ more) → AreNoneJoined AndLevel AreAll allowed more → IsRefused AndLevel allowed tokens
others_refused allowed tokens more at head p h n rest q = others_none p.spelled h q.spelled q.stopped q.shallow
