use Rattle.std.proofs.Common.{◌∙◌, List, ℕ, ap, sym, subst, map, string_bytes, false, Result}
use Rattle.outside_io.specs.Sinks.{GotPrefix}
use Rattle.opam_top.specs.Answers.{IsOutside, out_at_end, run}
use Rattle.opam_top.specs.Changes.{Says}
use Rattle.opam_top.specs.declared.stops.Stop.{Stop}
use Rattle.opam_top.proofs.Ends.{disk_ended, goes, halted_by, memory_ends, quiet_rose}
use Rattle.opam_top.proofs.running.opam_run.Goals as goal

pub returns-clause-out_part : goal.returns-clause-out_part
returns-clause-out_part g c = λ outside is host disk wanted.
    let told : IsOutside outside (g.H.Host.files c.args.host.now) (g.D.Disk.told c.args.disk.now) (g.W.Workshop.told c.deref.result.now) = record { files = is.files; disk = is.disk; shop = ap g.W.Workshop.told c.deref.ensures ∙ is.shop } in
    let through = goes c.run_words-ran.result.end (λ e. quiet_rose _ _ host (c.run_words-ran.ensures.host.rose e)) (λ e. quiet_rose _ _ disk (c.run_words-ran.ensures.disk.rose e)) (λ e. wanted (memory_ends c.run_words-ran.result.end _ c.run_words-ran.result.broken c.conclude-status.result c.conclude-status.ensures.status e)) in
    let of = c.run_words-ran.ensures.run outside told through in
    subst (λ (l : List ℕ). GotPrefix (g.O.Sink.written c.args.out.now) (g.O.Sink.written c.run_words-ran.new.out) l) (sym of.out) c.run_words-ran.ensures.said.part

pub returns-clause-left : goal.returns-clause-left
returns-clause-left g c = λ outside is host disk wanted.
    let told : IsOutside outside (g.H.Host.files c.args.host.now) (g.D.Disk.told c.args.disk.now) (g.W.Workshop.told c.deref.result.now) = record { files = is.files; disk = is.disk; shop = ap g.W.Workshop.told c.deref.ensures ∙ is.shop } in
    let through = goes c.run_words-ran.result.end (λ e. quiet_rose _ _ host (c.run_words-ran.ensures.host.rose e)) (λ e. quiet_rose _ _ disk (c.run_words-ran.ensures.disk.rose e)) (λ e. wanted (memory_ends c.run_words-ran.result.end _ c.run_words-ran.result.broken c.conclude-status.result c.conclude-status.ensures.status e)) in
    (c.run_words-ran.ensures.run outside told through).left

pub returns-clause-halted : goal.returns-clause-halted
returns-clause-halted g c = λ outside is failed.
    let told : IsOutside outside (g.H.Host.files c.args.host.now) (g.D.Disk.told c.args.disk.now) (g.W.Workshop.told c.deref.result.now) = record { files = is.files; disk = is.disk; shop = ap g.W.Workshop.told c.deref.ensures ∙ is.shop } in
    let ran = c.run_words-ran.result in let progress = c.run_words-ran.new.progress in let O = g.O.Sink in
    let stopped = disk_ended ran.end _ ran.broken (sym c.conclude-status.ensures.status ∙ failed) in
    let said = subst (λ (end : Result (Unit {0}) Stop). Says false ran.broken (O.faults c.args.out.now) (O.faults c.run_words-ran.new.out) (O.written c.args.out.now) (O.written c.run_words-ran.new.out) (out_at_end end progress.decisions.items)) stopped c.run_words-ran.ensures.said in
    halted_by (run (map string_bytes c.args.words.now) outside).change _ progress ran.broken (O.faults c.args.out.now) (O.faults c.run_words-ran.new.out) (O.written c.args.out.now) (O.written c.run_words-ran.new.out) (c.run_words-ran.ensures.halted outside told stopped) said c.run_words-ran.ensures.committed c.from_vec-2.ensures c.from_vec.ensures
