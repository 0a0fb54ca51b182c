use Rattle.std.proofs.Common.{◌<◌, ◌∙◌, List, ap, length, subst, sym}
use Rattle.std.specs.Prelude.{slice_get}
use Rattle.std.proofs.lemmas.Option.{slice_get-get_or}
use Rattle.opam_names.specs.ByteOrders.{NeverFallsBy}
use Rattle.opam_names.specs.declared.packages.Pkg.{Pkg}
use Rattle.opam_package.specs.declared.package.Member.{Member}
use Rattle.change_jobs.specs.PackageJobs.{exports_in, name_of_pkg}
use Rattle.change_jobs.proofs.Viewed.{job_made, view_in_order}
use Rattle.change_jobs.proofs.package_jobs.job_of.Goals as goal

pub exports_of-requires : goal.exports_of-requires
exports_of-requires c =
    subst (λ (view : List Pkg). NeverFallsBy name_of_pkg view) (sym c.as_slice.ensures) (view_in_order c.args.target.now.members c.args.member _ c.requires.rises c.in_ok-view.ensures)

pub returns : goal.returns
returns c =
    let members : List Member = c.args.target.now.members in
    let same = c.as_slice-members.ensures in
    let within = subst (λ (l : List Member). c.args.member < length l) (sym same) c.requires.within in
    record {
      job = job_made c.job_for.result members c.args.facts.now c.args.member _ c.in_ok-view.view _
          (ap (λ (l : List Member). slice_get l c.args.member) (sym same) ∙ slice_get-get_or c.as_slice-members.result.now c.args.member _ within) c.in_ok-view.ensures
          (c.as_slice-2.ensures ∙ c.in_ok-exports.ensures ∙ ap (λ (l : List Member). exports_in l c.as_slice.result.now) same ∙ ap (exports_in members) c.as_slice.ensures) c.job_for.ensures;
    }
