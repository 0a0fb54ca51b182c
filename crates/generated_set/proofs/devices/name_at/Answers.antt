use Rattle.std.proofs.Common.{IsTrue, subst, sym, rules, arith}
use Rattle.opam_names.specs.Names.{is_name}
use Rattle.generated_set.proofs.Names.{place_named}
use Rattle.generated_set.proofs.devices.name_at.Goals as goal

pub name_of-requires : goal.name_of-requires
name_of-requires c = search (rules, arith, place_named)
