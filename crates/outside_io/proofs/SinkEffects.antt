-- One text told after another.
use Rattle.std.proofs.Common.{◌≡◌, ℕ, ◌+◌, ◌≤◌, List, [], ◌++◌, length, take, Bool, true, false, Option, Some, None, refl, sym, ◌∙◌, ap, subst, arith, length-append, append_assoc}
use Rattle.std.specs.Option.{option_map}
use Rattle.std.proofs.Math.Nat.{le_trans}
use Rattle.std.proofs.Math.Seq.{take-append-add}
use Rattle.std.proofs.lemmas.List.{append-nil, take-append-le}
use Rattle.outside_io.specs.Counts.{Rose}
use Rattle.outside_io.specs.SinkEffects.{IsTold}
use Rattle.outside_io.specs.Sinks.{Got, GotPrefix}
use Rattle.outside_io.specs.declared.sink.Sink.{Ghosts}

got_none : (old : Option (List ℕ)) → Got old old []
got_none None = refl
got_none (Some w) = ap (λ (l : List ℕ). Some l) (sym (append-nil w))

got_then : (a b c : Option (List ℕ)) (x y : List ℕ) → Got a b x → Got b c y → Got a c (x ++ y)
got_then None b c x y one two = two ∙ ap (λ (o : Option (List ℕ)). option_map (λ w. w ++ y) o) one
got_then (Some w) b c x y one two = two ∙ ap (λ (o : Option (List ℕ)). option_map (λ v. v ++ y) o) one ∙ ap (λ (l : List ℕ). Some l) (append_assoc w x y)

part_first : (a b c : Option (List ℕ)) (x y : List ℕ) → GotPrefix a b x → c ≡ b → GotPrefix a c (x ++ y)
part_first a b c x y part same =
    let within : part.0 ≤ length (x ++ y) = omega (arith, part.1, length-append x y) in
    (part.0, within, same ∙ part.2 ∙ ap (λ (l : List ℕ). option_map (λ w. w ++ l) a) (sym (take-append-le part.0 x y part.1)))

part_later : (a b c : Option (List ℕ)) (x y : List ℕ) → Got a b x → GotPrefix b c y → GotPrefix a c (x ++ y)
part_later a b c x y got part =
    let within : length x + part.0 ≤ length (x ++ y) = omega (arith, part.1, length-append x y) in
    (length x + part.0, within, got_then a b c x (take part.0 y) got part.2 ∙ ap (λ (l : List ℕ). option_map (λ w. w ++ l) a) (sym (take-append-add x y part.0)))

not_stopped : (was now : Bool) → (was ≡ true → now ≡ true) → now ≡ false → was ≡ false
not_stopped true now stays is = absurd (let e : true ≡ false = sym (stays refl) ∙ is in cc)
not_stopped false now stays is = refl

module _ {S : Type 0} {g : Ghosts S} where
  -- nothing was told
  pub told_none : (s : Bool) (a : S) → IsTold g [] s s a a
  told_none s a = record {
    later = omega arith;
    all = λ is. got_none (g.written a);
    quiet = λ is. refl;
    rose = λ was now. absurd (let e : true ≡ false = sym now ∙ was in cc);
    part = (0, omega arith, got_none (g.written a));
    stays = λ is. is;
    silent = λ is. refl;
    unmoved = λ is. refl;
  }

  -- the one, and then the other
  pub told_then : {x y : List ℕ} {s t u : Bool} {a b c : S} → IsTold g x s t a b → IsTold g y t u b c → IsTold g (x ++ y) s u a c
  told_then {x} {y} {s} {t} {u} {a} {b} {c} one two = record {
    later = le_trans one.later two.later;
    all = λ is. let before = not_stopped t u two.stays is in got_then (g.written a) (g.written b) (g.written c) x y (one.all before) (two.all is);
    quiet = λ is. let before = not_stopped t u two.stays is in two.quiet is ∙ one.quiet before;
    rose = rose_by t refl;
    part = part_by t refl;
    stays = λ is. two.stays (one.stays is);
    silent = λ is. two.silent (one.stays is) ∙ one.silent is;
    unmoved = λ is. two.unmoved (one.stays is) ∙ one.unmoved is;
  }
    where
      rose_by : (stopped : Bool) → t ≡ stopped → s ≡ false → u ≡ true → Rose (g.faults a) (g.faults c)
      rose_by true is was now = let same = two.unmoved is in subst (λ (k : ℕ). Rose (g.faults a) k) (sym same) (one.rose was is)
      rose_by false is was now = subst (λ (k : ℕ). Rose k (g.faults c)) (one.quiet is) (two.rose is now)

      part_by : (stopped : Bool) → t ≡ stopped → GotPrefix (g.written a) (g.written c) (x ++ y)
      part_by true is = part_first (g.written a) (g.written b) (g.written c) x y one.part (two.silent is)
      part_by false is = part_later (g.written a) (g.written b) (g.written c) x y (one.all is) two.part

-- one text after another
pub ruleset told_steps = (told_none, told_then)
