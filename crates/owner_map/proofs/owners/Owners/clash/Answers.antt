use Rattle.std.proofs.Common.{◌≡◌, ◌+◌, List, [], Option, take, get_or, refl, sym, ◌∙◌, subst, arith}
use Rattle.std.specs.Prelude.{IfNone, IfSome}
use Rattle.std.proofs.lemmas.List.{get_or_default}
use Rattle.owner_map.specs.Clashes.{IsFree, IsLeastMet}
use Rattle.owner_map.specs.Owning.{paths_of}
use Rattle.owner_map.specs.Searching.{Gathers}
use Rattle.owner_map.specs.declared.clash.Other.{Other}
use Rattle.owner_map.specs.declared.earlier.Place.{Place}
use Rattle.owner_map.proofs.Gathering.{gathers_more, gathers_none, none_more}
use Rattle.owner_map.proofs.owners.Owners.clash.Goals as goal

pub loop-index-init : goal.loop-index-init
loop-index-init c =
    let P : List Place → Type 0 = λ xs. Gathers c.args.paths.now 0 xs in
    record {
      gathers = subst P (sym (c.in_ok-reserve.ensures.items ∙ c.new-earlier.ensures)) (gathers_none c.args.paths.now);
      room = omega (arith, c.in_ok-reserve.ensures.ok);
      none = λ k under. absurd (omega (arith, under));
    }

pub other_met-requires-clause-earlier : goal.other_met-requires-clause-earlier
other_met-requires-clause-earlier c = c.loop-index.invariant.gathers

pub returns-in-Some-clause-some : goal.returns-in-Some-clause-some
returns-in-Some-clause-some c =
    let P : Option Other → Type 0 = λ o. IfSome o (IsLeastMet (paths_of c.args.self.now.owned) (take c.loop-index.index c.args.paths.now) (get_or c.args.paths.now c.loop-index.index [])) in
    record {
      within = c.loop-index-test.true;
      first = c.loop-index.invariant.none;
      least = subst P c.in-Some.is c.in_ok-other.ensures.some;
    }

pub put-requires-clause-room : goal.put-requires-clause-room
put-requires-clause-room c = omega (arith, c.loop-index.invariant.room, c.loop-index-test.true)

pub put-requires-clause-rises : goal.put-requires-clause-rises
put-requires-clause-rises c = c.loop-index.invariant.gathers.rises

pub loop-index-preserved : goal.loop-index-preserved
loop-index-preserved c =
    let paths = c.args.paths.now in
    let n = c.loop-index.index in
    let P : Option Other → Type 0 = λ o. IfNone o (IsFree (paths_of c.args.self.now.owned) (take n paths) (get_or paths n [])) in
    let free : IsFree (paths_of c.args.self.now.owned) (take n paths) (get_or paths n []) = subst P c.in-None.is c.in_ok-other.ensures.none in
    let Q : List Place → Type 0 = λ xs. Gathers paths (n + 1) xs in
    let path-is : c.in_ok-copy.field-0 ≡ get_or paths n [] =
    c.in_ok-copy.ensures ∙ c.index-paths-index.is ∙ get_or_default paths n c.index-paths-index.result [] c.loop-index-test.true in
    record {
      gathers = subst Q (sym c.put.ensures.items) (gathers_more paths n c.loop-index.earlier.items (record { path = c.in_ok-copy.field-0; index = n }) c.loop-index-test.true c.loop-index.invariant.gathers free.of_earlier path-is refl);
      room = omega (arith, c.loop-index.invariant.room, c.put.ensures.room);
      none = none_more (paths_of c.args.self.now.owned) paths n c.loop-index.invariant.none free;
    }

pub returns-clause-none : goal.returns-clause-none
returns-clause-none c = λ k under. c.loop-index.invariant.none k (omega (arith, under, c.loop-index-test.false))
