use Rattle.std.proofs.Common.{rules, bytes_eq, not}
use Rattle.std.proofs.lemmas.Fn.{filter_same}
use Rattle.opam_names.specs.declared.packages.Pkg.{Pkg}
use Rattle.lock_check.proofs.removal.drop_pkg.Goals as goal

pub returns : goal.returns
returns c =
    filter_same _ (λ (pkg : Pkg). not (bytes_eq pkg.name c.args.name.now)) _ (λ x b f' k. search rules) c.args.set.now.items c.retain.new.self.items c.retain.ensures.filtered
