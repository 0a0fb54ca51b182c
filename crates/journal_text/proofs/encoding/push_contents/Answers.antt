use Rattle.journal_text.proofs.Lengths.{kept_lens}
use Rattle.journal_text.proofs.encoding.push_contents.Goals as goal

pub push_list-requires-clause-few : goal.push_list-requires-clause-few
push_list-requires-clause-few c = (kept_lens (record { opam = c.args.opam.now; files = c.args.files.now }) c.requires).files.few
