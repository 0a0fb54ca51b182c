use Rattle.std.proofs.Common.{◌∙◌}
use Rattle.opam_top.proofs.InstallNames.{install_name_plain}
use Rattle.opam_top.proofs.deciding.path_of_install.Goals as goal

pub fixed-requires : goal.fixed-requires
fixed-requires c = install_name_plain c.args.job.now.pkg.name c.as_str-name.result.now c.as_str.result.now c.as_str-name.ensures.valid c.as_str-name.ensures.value (c.as_str.ensures.value ∙ c.in_ok-text.ensures)
