use Rattle.lock_check.specs.Progressing.{chased_with}
use Rattle.lock_check.proofs.Standing.{given_unknown, stands_unknown, taken_so}
use Rattle.lock_check.proofs.progress.Progress.take_unknown.Goals as goal

pub returns-clause-stands : goal.returns-clause-stands
returns-clause-stands c =
    stands_unknown (chased_with c.args.sources.now c.args.self.now) _ c.args.pkg c.args.self.now.waiting.keys c.remove.new.names.keys c.args.self.now.count c.requires.stands c.requires.next
    (λ i. record {
      installed = c.args.sources.now.installed;
      bound = c.args.sources.now.bound;
      asked = c.args.sources.now.asked;
      known = c.args.self.now.known.items;
      unknown = c.in_ok-push.ensures.ok i;
      needed = c.args.self.now.needed.keys;
    })
    (taken_so c.remove.new.names.keys c.args.self.now.waiting.keys c.in_ok-name.name c.args.pkg.name c.in_ok-name.ensures c.remove.ensures.those)

pub returns-clause-ok : goal.returns-clause-ok
returns-clause-ok c =
    given_unknown (chased_with c.args.sources.now c.args.self.now) c.args.pkg c.push.new.self c.requires.next c.in_ok-push.ensures.ok c.requires.stands.are_needed
