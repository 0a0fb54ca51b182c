use Rattle.std.proofs.Common.{[], ◌∷◌, ◌++◌, List, ap, ◌∙◌}
use Rattle.opam_package.specs.declared.package.Member.{Member}
use Rattle.lock_check.specs.Chased.{bound_among, held_name, pkg_name}
use Rattle.lock_check.specs.Needed.{full_names}
use Rattle.lock_check.specs.Progressing.{chased_with}
use Rattle.lock_check.proofs.Ordered.{on_err}
use Rattle.lock_check.proofs.Standing.{falls_never, given_known, stands_again, stands_taken}
use Rattle.lock_check.proofs.progress.Progress.take_known.Goals as goal

pub leads_of-requires : goal.leads_of-requires
leads_of-requires c = falls_never pkg_name c.as_slice.result.now c.args.sources.now.bound c.as_slice.ensures c.requires.stands.bound_rises

pub count_new-self-requires : goal.count_new-self-requires
count_new-self-requires c = falls_never held_name c.as_slice-3.result.now c.args.sources.now.installed c.as_slice-3.ensures c.requires.stands.installed_rises

pub returns-in_err-fresh-clause-stands : goal.returns-in_err-fresh-clause-stands
returns-in_err-fresh-clause-stands c =
    stands_again (chased_with c.args.sources.now c.args.self.now) c.args.self.now.waiting.keys c.reach.new.self.waiting.keys c.reach.new.self.needed.keys c.reach.new.self.known.items
    c.reach.new.self.unknown c.args.self.now.count c.reach.new.self.count c.requires.stands c.in_err-fresh.ensures.needed c.in_err-fresh.ensures.kept.same_known
    c.in_err-fresh.ensures.kept.same_unknown c.in_err-fresh.ensures.kept.same_count c.in_err-fresh.ensures.waiting

pub returns-in_err-fresh-clause-err : goal.returns-in_err-fresh-clause-err
returns-in_err-fresh-clause-err c =
    on_err c.from_residual-in_err-fresh.result (λ i. record {
      installed = c.args.sources.now.installed;
      bound = c.args.sources.now.bound;
      asked = c.args.sources.now.asked;
      known = c.in_err-fresh.ensures.kept.same_known i;
      unknown = c.in_err-fresh.ensures.kept.same_unknown i;
      needed = c.in_err-fresh.ensures.needed i;
    })

pub returns-clause-stands : goal.returns-clause-stands
returns-clause-stands c =
    stands_taken c.texts_rise.ensures c.rising_is_kept.ensures.members (chased_with c.args.sources.now c.args.self.now) c.args.member c.args.self.now.waiting.keys c.reach.new.self.waiting.keys
    c.remove.new.names.keys c.as_slice-2.result.now c.reach.new.self.needed.keys c.in_ok-fresh.fresh c.as_slice-4.result.now c.as_slice-3.result.now c.in_ok-name.name
    c.args.self.now.count c.reach.new.self.count c.count_new-self.result c.push.new.self.items c.reach.new.self.unknown c.requires.stands c.requires.next
    (c.as_slice-2.ensures ∙ c.in_ok-names.ensures ∙ ap (λ pkgs. bound_among pkgs (full_names c.args.member.package)) c.as_slice.ensures)
    c.in_ok-fresh.ensures.ok c.in_ok-fresh.ensures.awaits c.in_ok-name.ensures c.remove.ensures.those c.in_ok-fresh.ensures.kept.same_count c.as_slice-3.ensures c.as_slice-4.ensures
    c.count_new-self.ensures (c.push.ensures.items ∙ ap (λ (xs : List Member). xs ++ c.args.member ∷ []) c.in_ok-fresh.ensures.kept.same_known) c.in_ok-fresh.ensures.kept.same_unknown

pub returns-clause-ok : goal.returns-clause-ok
returns-clause-ok c =
    given_known (chased_with c.args.sources.now c.args.self.now) c.args.member c.push.new.self.items c.reach.new.self.unknown c.reach.new.self.needed.keys c.requires.next
    (c.push.ensures.items ∙ ap (λ (xs : List Member). xs ++ c.args.member ∷ []) c.in_ok-fresh.ensures.kept.same_known) c.in_ok-fresh.ensures.kept.same_unknown
    (returns-clause-stands c).are_needed
