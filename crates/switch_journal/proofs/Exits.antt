-- What a call gave, at each way out.
use Rattle.std.proofs.Common.{◌≡◌, List, ℕ, subst, Option, Some, None}
use Rattle.std.specs.Prelude.{IfNone, IfOk, IfSome, Result, Ok, Err}

-- a call that found something in these bytes
pub some_at : {X : Type 0} (P : X → List ℕ → Type 0) (found : Option X) (x : X) (given text : List ℕ) → found ≡ Some x → given ≡ text → IfSome found (λ y. P y given) → P x text
some_at P found x given text is same some = subst (P x) same (subst (λ (o : Option _). IfSome o (λ y. P y given)) is some)

-- a call that found nothing
pub none_at : {X : Type 0} (Q : List ℕ → Type 0) (found : Option X) (given text : List ℕ) → found ≡ None → given ≡ text → IfNone found (Q given) → Q text
none_at Q found given text is same none = subst Q same (subst (λ (o : Option _). IfNone o (Q given)) is none)

-- what follows from one thing, and from two, that hold of what was answered
pub ok_then : {X E : Type 0} {P Q : X → Type 0} (result : Result X E) → IfOk result P → ((x : X) → P x → Q x) → IfOk result Q
ok_then (Ok x) p follows = follows x p
ok_then (Err e) p follows = tt

pub ok_both : {X E : Type 0} {P Q R : X → Type 0} (result : Result X E) → IfOk result P → IfOk result Q → ((x : X) → P x → Q x → R x) → IfOk result R
ok_both (Ok x) p q follow = follow x p q
ok_both (Err e) p q follow = tt
