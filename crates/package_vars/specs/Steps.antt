-- Words of private clauses: rows that are set one after another.
use Rattle.std.specs.Prelude.{List, [], ◌∷◌}
use Rattle.std.specs.FinMap.{insert}
use Rattle.opam_filter.specs.Variables.{Values}
use Rattle.package_vars.specs.BuildVariables.{VariableRow}

-- variables after these rows
abbrev pub with_rows : Values → List VariableRow → Values
with_rows values [] = values
with_rows values (row ∷ rows) = with_rows (insert values row.0 row.1) rows
