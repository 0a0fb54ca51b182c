use Rattle.std.proofs.Common.{◌∙◌}
use Rattle.change_verdict.proofs.InstallNames.{install_name_plain}
use Rattle.change_verdict.proofs.sources.install_path.Goals as goal

pub fixed-requires : goal.fixed-requires
fixed-requires c = install_name_plain c.args.name.now c.as_str.result.now c.as_str-2.result.now c.as_str.ensures.valid c.as_str.ensures.value (c.as_str-2.ensures.value ∙ c.in_ok-text.ensures)
