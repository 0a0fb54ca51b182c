-- A list with room made beforehand.
use Rattle.std.specs.Prelude.{ℕ, List, refl}
use Rattle.std.specs.Coded.{Coded, code_by, coded×, coded_list, coded_ℕ}

-- the elements, and how many more are taken without memory
pub record Buffered (T : Type 0) : Type 0 where
  pub items : List T
  pub room : ℕ

abbrev pub coded_buffered : {T : Type 0} → Coded T → Coded (Buffered T)
coded_buffered {T} code =
    code_by (List T × ℕ) (coded× (coded_list code) coded_ℕ) (λ b. (b.items, b.room)) (λ p. record { items = p.0; room = p.1 }) (λ _. refl)
