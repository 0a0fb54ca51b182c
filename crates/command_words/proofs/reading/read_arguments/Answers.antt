use Rattle.std.proofs.Common.{[], ap, sym, ◌∙◌, subst}
use Rattle.command_words.specs.Commands.{IsReadCommand}
use Rattle.command_words.specs.Readings.{first_fault}
use Rattle.command_words.specs.Tables.{row}
use Rattle.command_words.proofs.Faultless.{read_holds}
use Rattle.command_words.proofs.reading.read_arguments.Goals as goal

pub returns-clause-valid : goal.returns-clause-valid
returns-clause-valid c =
    let given = c.as_slice-2.result.now in
    let same = c.as_slice.ensures.value ∙ sym c.as_slice-2.ensures.value in
    let well = ap (first_fault c.args.command.now (row c.args.kind) []) (sym same) ∙ c.in_ok-check_all.ensures.ok in
    subst IsReadCommand (sym c.in_ok-command_of.ensures) (read_holds c.args.command.now c.args.kind given well)
