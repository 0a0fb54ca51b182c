use Rattle.std.proofs.Common.{ap, subst}
use Rattle.std.specs.FinMap.{get}
use Rattle.opam_queries.specs.Asking.{AsksHost, ShowsOpening}
use Rattle.opam_queries.specs.Replies.{IsLintAnswer}
use Rattle.opam_queries.proofs.Asked.{asks_for_lint, asks_for_list, asks_for_show}
use Rattle.opam_queries.proofs.queries.ask.Goals as goal

pub returns-in-List : goal.returns-in-List
returns-in-List g c = asks_for_list c.args.query.now c.args.facts.now c.list.ensures.opening c.list.result c.args.host.now c.in-List.is c.list.ensures.opens c.list.ensures.given

pub returns-in-Show : goal.returns-in-Show
returns-in-Show g c =
    let shows = subst (λ repo. ShowsOpening g.H.Host g.D.Disk c.args.facts.now repo c.in-Show.what c.args.host.now c.show_in.new.host c.args.disk.now c.show_in.new.disk c.show_in.result) c.as_str.ensures c.show_in.ensures in
    asks_for_show c.args.query.now c.args.facts.now c.in-Show.repo c.in-Show.what shows.opening c.show_in.result c.in-Show.is shows.opens shows.given

pub returns-in-Lint : goal.returns-in-Lint
returns-in-Lint g c =
    asks_for_lint g.met.D.Disk.now_is c.args.query.now c.args.facts.now c.in-Lint.file c.lint_file.result c.args.disk.now c.in-Lint.is
    (subst (λ file. AsksHost g.H.Host (λ files. IsLintAnswer file (get files file)) c.args.host.now c.lint_file.new.host c.lint_file.result) c.as_str-in-Lint.ensures c.lint_file.ensures)
