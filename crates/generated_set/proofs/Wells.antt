-- The scripts of a generated set give each step an ending that it may have.
use Rattle.std.proofs.Common.{◌≡◌, ℕ, zero, suc, List, [], ◌∷◌, ◌++◌, Bool, true, IsTrue, rules}
use Rattle.outside_io.specs.Scripts.{all_well, is_well}
use Rattle.outside_io.specs.declared.script_shop.Script.{Script}
use Rattle.generated_set.specs.Devices.{script_at, scripts_of}

well_with : (scripts : List Script) (script : Script) → all_well scripts ≡ true → is_well script.endings ≡ true → all_well (scripts ++ script ∷ []) ≡ true
well_with [] script good one = search (rules)
well_with (first ∷ scripts) script good one = search (rules, well_with scripts script)

scripts_well : (count : ℕ) → all_well (scripts_of count) ≡ true
scripts_well zero = search (rules)
scripts_well (suc count) = well_with (scripts_of count) (script_at count) (scripts_well count) (search (rules))

pub scripts_are_well : (count : ℕ) → IsTrue (all_well (scripts_of count))
scripts_are_well count = search (rules, scripts_well)
