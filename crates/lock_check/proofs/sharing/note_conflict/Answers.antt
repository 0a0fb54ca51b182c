use Rattle.opam_names.specs.ByteOrderLaws.{NeverFallsBy-from_rises}
use Rattle.lock_check.specs.Chased.{pkg_name}
use Rattle.lock_check.proofs.sharing.note_conflict.Goals as goal

pub bound_at-requires : goal.bound_at-requires
bound_at-requires c = NeverFallsBy-from_rises pkg_name c.args.set.now c.requires
