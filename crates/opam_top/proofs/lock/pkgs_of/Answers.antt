use Rattle.std.proofs.Common.{sym, ◌∙◌, ap}
use Rattle.opam_top.specs.Locks.{read_pkg, read_pkgs}
use Rattle.opam_top.proofs.PkgTexts.{pkgs_more}
use Rattle.opam_top.proofs.lock.pkgs_of.Goals as goal

pub loop-rest-preserved : goal.loop-rest-preserved
loop-rest-preserved c =
    let name = c.name-item.result in
    let version = c.version-item.result in
    let found = ap (read_pkg name) (sym c.as_slice-in-len2-up.ensures) ∙ ap (λ n. read_pkg n c.as_slice-in-len2-up.result.now) (sym c.as_slice.ensures) ∙ sym c.in_ok-pkg_of.ensures ∙ c.in-Some.is in
    pkgs_more c.loop-rest.rest.now name version c.in-Some.pkg c.loop-rest.pkgs c.push.new.self (read_pkgs c.args.texts.now) c.in-len2-up.len_at_least c.name-item.is c.version-item.is
    c.in_ok-push-in-Some.ensures.ok found c.loop-rest.invariant
