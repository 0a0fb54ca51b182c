-- The least name is found from the last member on.
use Rattle.std.proofs.Common.{◌≡◌, ◌∙◌, ℕ, suc, ◌-◌, ◌<◌, ◌≤◌, List, [], ◌∷◌, length, filter, drop, Bool, true, false, refl, sym, ap, arith, get_or}
use Rattle.std.specs.Prelude.{if◌then◌else◌}
use Rattle.std.specs.List.{slice_get}
use Rattle.std.specs.declared.option.Option.{Option}
use Rattle.std.specs.declared.option.Option.TheVariants.{Some}
use Rattle.std.proofs.Math.Seq.{drop-cons}
use Rattle.opam_names.specs.ByteOrders.{in_order_by, precedes, put_by}
use Rattle.opam_package.specs.declared.package.Member.{Member}
use Rattle.switch_state.specs.Sound.{name_of}
use Rattle.back_verdict.specs.Backs.{least_named}
use Rattle.back_verdict.specs.Searches.{lesser}

first_put : (x : Member) (ys : List Member) → slice_get (put_by name_of x ys) 0 ≡ Some (lesser x (slice_get ys 0))
first_put x [] = refl
first_put x (y ∷ ys) = by (precedes (name_of y) (name_of x)) (put_by name_of x ys)
  where
    by : (b : Bool) (rest : List Member) → slice_get (if b then y ∷ rest else x ∷ y ∷ ys) 0 ≡ Some (if b then y else x)
    by true rest = refl
    by false rest = refl

kept_first : (test : Member → Bool) (x : Member) (ys : List Member) → test x ≡ true → filter test (x ∷ ys) ≡ x ∷ filter test ys
kept_first test x ys is = rw is refl

pub next_least : (test : Member → Bool) (members : List Member) (at : ℕ) (member : Member) (least : Option Member) → 0 < at → at ≤ length members → get_or members (at - 1) member ≡ member → test member ≡ true
    → least ≡ least_named (filter test (drop at members)) → Some (lesser member least) ≡ least_named (filter test (drop (at - 1) members))
next_least test members at member least some within is passes found =
    let next : suc (at - 1) ≡ at = omega (arith, some) in
    let split : drop (at - 1) members ≡ member ∷ drop at members =
    drop-cons members (at - 1) member (omega (arith, some, within)) ∙ ap (λ (m : Member). m ∷ drop (suc (at - 1)) members) is ∙ ap (λ n. member ∷ drop n members) next in
    ap (λ (o : Option Member). Some (lesser member o)) found
    ∙ sym (ap (λ (ms : List Member). least_named (filter test ms)) split ∙ ap least_named (kept_first test member (drop at members) passes) ∙ first_put member (in_order_by name_of (filter test (drop at members))))
