use Rattle.std.proofs.Common.{◌∙◌, ap}
use Rattle.opam_names.specs.Paths.{is_plain_path}
use Rattle.switch_journal.proofs.Numbered.{gate_plain}
use Rattle.switch_journal.proofs.places.gate_path_of.Goals as goal

pub fixed-requires : goal.fixed-requires
fixed-requires c = ap is_plain_path (c.as_str.ensures.value ∙ c.in_ok-text.ensures.ok) ∙ gate_plain c.args.number c.ranges.number.fits
