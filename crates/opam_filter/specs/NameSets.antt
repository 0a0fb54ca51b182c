-- Names in the order of their bytes, each once. This project's own.
use Rattle.std.specs.Prelude.{ℕ, List, fold}
use Rattle.std.specs.BTreeSet.{insert_key}
use Rattle.opam_names.specs.ByteOrders.{byte_order, each_once}

-- names with one more at its place
abbrev pub with_name : List (List ℕ) → List ℕ → List (List ℕ)
with_name names name = insert_key byte_order names name

-- names with these put at their places, one after another
abbrev pub with_names : List (List ℕ) → List (List ℕ) → List (List ℕ)
with_names names more = fold with_name names more

-- names put at their places one after another
abbrev pub in_byte_order : List (List ℕ) → List (List ℕ)
in_byte_order names = each_once names
