use Rattle.std.proofs.Common.{rules, arith}
use Rattle.opam_main.proofs.Slashes.{rsplit_once_char}
use Rattle.opam_main.proofs.folders.folder_of.Goals as goal

pub returns-in-Some-empty-default : goal.returns-in-Some-empty-default
returns-in-Some-empty-default c =
    let split = rsplit_once_char 47 c.args.path.now _ c.rsplit_once.ensures.cases (omega arith) in
    rw (← split) (search rules)

pub returns-in-Some : goal.returns-in-Some
returns-in-Some c =
    let split = rsplit_once_char 47 c.args.path.now _ c.rsplit_once.ensures.cases (omega arith) in
    rw (← split) (search rules)

pub returns-in-None : goal.returns-in-None
returns-in-None c =
    let split = rsplit_once_char 47 c.args.path.now _ c.rsplit_once.ensures.cases (omega arith) in
    rw (← split) (search rules)
