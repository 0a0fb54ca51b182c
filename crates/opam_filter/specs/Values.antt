-- The value of a filter (opam manual, filters).
use Rattle.std.specs.Prelude.{map}
use Rattle.std.specs.Option.{is_some}
use Rattle.std.specs.declared.option.Option.{Option}
use Rattle.std.specs.declared.option.Option.TheVariants.{Some}
use Rattle.opam_filter.specs.Scopes.{value_at}
use Rattle.opam_filter.specs.Texts.{expanded}
use Rattle.opam_filter.specs.Truths.{all_of, any_of, negated, related, truth_of, value_of}
use Rattle.opam_filter.specs.Variables.{Values}
use Rattle.opam_filter.specs.declared.filter.Filter.{Filter}
use Rattle.opam_filter.specs.declared.filter.Filter.TheOpen.{Filter-F}
use Rattle.opam_filter.specs.declared.filter.Filter.TheFolds.{fold-Filter}
use Rattle.opam_filter.specs.declared.truth.Truth.{Truth}
use Rattle.opam_filter.specs.declared.truth.VarValue.{VarValue}
use Rattle.opam_filter.specs.declared.truth.VarValue.TheVariants.{Flag, Text}

-- from the values of its parts
abbrev pub layer_value : Values → Filter-F (Option VarValue) → Option VarValue
layer_value values (Filter-F.Flag flag) = Some (Flag flag)
layer_value values (Filter-F.Text text) = Some (Text (expanded values text))
layer_value values (Filter-F.Var variable) = value_at values variable
layer_value values (Filter-F.Rel op left right) = value_of (related op left right)
layer_value values (Filter-F.Not part) = value_of (negated (truth_of part))
layer_value values (Filter-F.Defined part) = Some (Flag (is_some part))
layer_value values (Filter-F.And parts) = value_of (all_of (map truth_of parts))
layer_value values (Filter-F.Or parts) = value_of (any_of (map truth_of parts))

-- the value of a filter
abbrev pub filter_value : Values → Filter → Option VarValue
filter_value values = fold-Filter (Option VarValue) (layer_value values)

-- what it is as a truth
abbrev pub filter_truth : Values → Filter → Truth
filter_truth values filter = truth_of (filter_value values filter)
