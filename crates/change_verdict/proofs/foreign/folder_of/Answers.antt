use Rattle.std.proofs.Common.{◌∙◌, List, ℕ, ap, sym, subst, take}
use Rattle.opam_names.specs.Paths.{IsPath}
use Rattle.change_verdict.proofs.Folders.{front_path, refused_path}
use Rattle.change_verdict.proofs.foreign.folder_of.Goals as goal

pub unreachable-requires : goal.unreachable-requires
unreachable-requires c =
    let bytes = c.as_bytes.ensures.value ∙ c.as_str.ensures.value in
    let front = c.split_at.ensures.front ∙ ap (λ (l : List ℕ). take c.args.at l) bytes in
    refused_path c.split_at.result.0.now c.in-Err-Bad.field-0 c.in-Err-Bad.field-0-0 c.in-Err-Bad.field-0-is c.in-Err-Bad.ensures.err (subst IsPath (sym front) (front_path c.args.path.now c.args.at c.as_str.ensures.valid c.requires.within c.requires.slash))
