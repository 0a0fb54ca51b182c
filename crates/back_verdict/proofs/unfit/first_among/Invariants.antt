use Rattle.std.proofs.Common.{◌≡◌, drop, ℕ, List}
use Rattle.std.specs.Prelude.{find}
use Rattle.std.specs.List.{list_any}
use Rattle.opam_names.specs.ByteOrders.{has_key}
use Rattle.journal_text.specs.Parts.{own_name}
use Rattle.back_verdict.proofs.unfit.first_among.Given as goal

-- it is found among those that are left
abbrev pub invariant-loop-text : goal.invariant-loop-text
invariant-loop-text l =
    find (λ (text : List ℕ). list_any (has_key own_name text) l.sorted) (drop l.text-index l.texts)
    ≡ find (λ (text : List ℕ). list_any (has_key own_name text) l.sorted) l.texts
