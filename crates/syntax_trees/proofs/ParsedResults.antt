-- What a parser's function answers, from what it was told.
use Rattle.std.proofs.Common.{◌≡◌, ◌≢◌, ℕ, List, ◌∷◌, sym, subst, ap, ◌∙◌, Result, Ok, Err}
use Rattle.std.specs.Result.{IsErrAnd}
use Rattle.syntax_trees.specs.declared.fault.ParseFault.{ParseFault}
use Rattle.syntax_trees.specs.declared.fault.ParseFault.TheVariants.{Memory}
use Rattle.syntax_trees.specs.declared.token.Token.{Token}
use Rattle.syntax_trees.specs.declared.token.Token.TheVariants.{And, Or}
use Rattle.syntax_trees.specs.declared.queue.Bracket.{Bracket}
use Rattle.syntax_trees.specs.declared.tree.Span.{Span}
use Rattle.syntax_trees.specs.declared.tree.Node.{Node}
use Rattle.syntax_trees.specs.declared.values.Enclosed.{Enclosed}
use Rattle.syntax_trees.specs.Tokens.{Placed, placed}
use Rattle.syntax_trees.specs.Grammar.{Level, OrLevel, AndLevel, UnaryLevel}
use Rattle.syntax_trees.specs.Parsing.{Makes, IsParsed, IsRefused, Parses, AreEnclosed, AreNoneEnclosed, Encloses, AreAll, AreAny, AreNoneJoined, JoinsAll, JoinsAny}
use Rattle.syntax_trees.proofs.ParsedAll.{all_parsed, others_refused}
use Rattle.syntax_trees.proofs.ParsedAny as any

-- the same before equal tokens
pub ending : {level : Level} {allowed : ℕ} {tokens rest end : List Placed} {n : Node} → rest ≡ end → IsParsed level allowed tokens n rest
    → IsParsed level allowed tokens n end
ending {level} {allowed} {tokens} {n = n} e p = subst (λ r. IsParsed level allowed tokens n r) e p

pub inside_ending : {b : Bracket} {allowed : ℕ} {tokens rest end : List Placed} {nodes : List Node} {to : Span} → rest ≡ end
    → AreEnclosed b allowed tokens nodes to rest → AreEnclosed b allowed tokens nodes to end
inside_ending {b} {allowed} {tokens} {nodes = nodes} {to = to} e p = subst (λ r. AreEnclosed b allowed tokens nodes to r) e p

-- the same of an equal node
pub node_is : {level : Level} {allowed : ℕ} {tokens rest : List Placed} {n m : Node} → n ≡ m → IsParsed level allowed tokens m rest
    → IsParsed level allowed tokens n rest
node_is {level} {allowed} {tokens} {rest} e p = subst (λ x. IsParsed level allowed tokens x rest) (sym e) p

-- tokens that begin with a token of a kind
pub token_is : {tokens inner : List Placed} {token kind : Token} {span : Span} → tokens ≡ placed token span ∷ inner → token ≡ kind
    → placed kind span ∷ inner ≡ tokens
token_is {inner = inner} {span = span} e f = ap (λ z. placed z span ∷ inner) (sym f) ∙ sym e

-- the same at equal tokens
pub refused_at : {level : Level} {allowed : ℕ} {tokens others : List Placed} → tokens ≡ others → IsRefused level allowed tokens → IsRefused level allowed others
refused_at {level} {allowed} e h = subst (λ ts. IsRefused level allowed ts) e h

pub parsed_at : {level : Level} {allowed : ℕ} {tokens others rest : List Placed} {n : Node} → tokens ≡ others → IsParsed level allowed tokens n rest
    → IsParsed level allowed others n rest
parsed_at {level} {allowed} {rest = rest} {n = n} e p = subst (λ ts. IsParsed level allowed ts n rest) e p

-- a fault that is passed on
pub refused_parse : (level : Level) (allowed : ℕ) (tokens rest : List Placed) (r : Result Node ParseFault) (fault : ParseFault)
    → IsErrAnd r (λ f. f ≡ fault) → (fault ≢ Memory → IsRefused level allowed tokens) → Parses level allowed tokens r rest
refused_parse level allowed tokens rest (Ok n) fault e h = absurd e
refused_parse level allowed tokens rest (Err f) fault e h = λ k. h (λ g. k (e ∙ g))

pub none_enclosed : (b : Bracket) (allowed : ℕ) (tokens rest : List Placed) (r : Result Enclosed ParseFault) (fault : ParseFault)
    → IsErrAnd r (λ f. f ≡ fault) → (fault ≢ Memory → AreNoneEnclosed b allowed tokens) → Encloses b allowed tokens r rest
none_enclosed b allowed tokens rest (Ok inside) fault e h = absurd e
none_enclosed b allowed tokens rest (Err f) fault e h = λ k. h (λ g. k (e ∙ g))

pub none_joined_all : (head : Node) (allowed : ℕ) (tokens rest : List Placed) (r : Result Node ParseFault) (fault : ParseFault)
    → IsErrAnd r (λ f. f ≡ fault) → (fault ≢ Memory → AreNoneJoined AndLevel AreAll allowed tokens) → JoinsAll head allowed tokens r rest
none_joined_all head allowed tokens rest (Ok n) fault e h = absurd e
none_joined_all head allowed tokens rest (Err f) fault e h = λ k. h (λ g. k (e ∙ g))

pub none_joined_any : (head : Node) (allowed : ℕ) (tokens rest : List Placed) (r : Result Node ParseFault) (fault : ParseFault)
    → IsErrAnd r (λ f. f ≡ fault) → (fault ≢ Memory → AreNoneJoined OrLevel AreAny allowed tokens) → JoinsAny head allowed tokens r rest
none_joined_any head allowed tokens rest (Ok n) fault e h = absurd e
none_joined_any head allowed tokens rest (Err f) fault e h = λ k. h (λ g. k (e ∙ g))

-- a node that is made, but for want of memory
pub made_parse : (level : Level) (allowed : ℕ) (tokens rest : List Placed) (n : Node) (r : Result Node ParseFault) → Makes n r
    → IsParsed level allowed tokens n rest → Parses level allowed tokens r rest
made_parse level allowed tokens rest n (Ok m) e p = subst (λ x. IsParsed level allowed tokens x rest) (sym e) p
made_parse level allowed tokens rest n (Err f) e p = λ k. absurd (k e)

-- an answer at equal tokens
pub parse_at : (level : Level) (allowed : ℕ) (tokens others rest : List Placed) (r : Result Node ParseFault) → tokens ≡ others
    → Parses level allowed tokens r rest → Parses level allowed others r rest
parse_at level allowed tokens others rest r e p = subst (λ ts. Parses level allowed ts r rest) e p

-- an answer that is passed on
pub passed_parse : (level other : Level) (allowed : ℕ) (tokens rest : List Placed) (r : Result Node ParseFault)
    → ((n : Node) → IsParsed level allowed tokens n rest → IsParsed other allowed tokens n rest)
    → (IsRefused level allowed tokens → IsRefused other allowed tokens) → Parses level allowed tokens r rest → Parses other allowed tokens r rest
passed_parse level other allowed tokens rest (Ok n) f g p = f n p
passed_parse level other allowed tokens rest (Err fault) f g p = λ k. g (p k)

pub joined_all : (allowed : ℕ) (tokens more rest : List Placed) (at : Span) (head : Node) (r : Result Node ParseFault)
    → IsParsed UnaryLevel allowed tokens head (placed And at ∷ more) → JoinsAll head allowed more r rest → Parses AndLevel allowed tokens r rest
joined_all allowed tokens more rest at head (Ok n) p j =
    subst (λ x. IsParsed AndLevel allowed tokens x rest) (sym j.2) (all_parsed allowed tokens more at head j.0 rest p j.1)
joined_all allowed tokens more rest at head (Err f) p j = λ k. others_refused allowed tokens more at head p (j k)

pub joined_any : (allowed : ℕ) (tokens more rest : List Placed) (at : Span) (head : Node) (r : Result Node ParseFault)
    → IsParsed AndLevel allowed tokens head (placed Or at ∷ more) → JoinsAny head allowed more r rest → Parses OrLevel allowed tokens r rest
joined_any allowed tokens more rest at head (Ok n) p j =
    subst (λ x. IsParsed OrLevel allowed tokens x rest) (sym j.2) (any.any_parsed allowed tokens more at head j.0 rest p j.1)
joined_any allowed tokens more rest at head (Err f) p j = λ k. any.others_refused allowed tokens more at head p (j k)
