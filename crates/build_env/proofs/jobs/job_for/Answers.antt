use Rattle.std.proofs.Common.{ap, ◌∙◌}
use Rattle.build_env.specs.Jobs.{job_commands}
use Rattle.build_env.specs.Seen.{values_seen}
use Rattle.build_env.proofs.JobsSame.{job_is_same}
use Rattle.build_env.proofs.jobs.job_for.Goals as goal

pub returns : goal.returns
returns c =
    job_is_same c.asked_is_enough.ensures c.scopes_are_enough.ensures c.names_rise.ensures
    c.args.built.now c.args.view.now c.args.exports.now c.args.facts.now c.as_slice.result.now c.in_ok-named.named.entries c.in_ok-vars.vars
    (record { pkg = c.in_ok-copy.field-0; source = c.in_ok-copy_source.field-0; commands = c.in_ok-commands_of.field-0; env = c.in_ok-environment.field-0 })
    c.as_slice.ensures c.in_ok-named.ensures.found c.in_ok-named.ensures.valid
    (c.in_ok-vars.ensures ∙ ap (λ names. values_seen c.args.facts.now c.in_ok-named.named.entries c.args.built.now.pkg names) (c.as_slice-2.ensures ∙ c.in_ok-asked.ensures))
    c.in_ok-copy.ensures c.in_ok-copy_source.ensures
    (c.in_ok-commands_of.ensures ∙ ap (λ commands. job_commands c.in_ok-vars.vars commands) c.as_slice-3.ensures)
    c.in_ok-environment.ensures
