-- A least set is found place by place.
use Rattle.std.proofs.Common.{◌≡◌, ℕ, ◌+◌, ◌<◌, ◌≤◌, inl, inr, Bool, true, List, [], length, get_or, replicate, false, sym, ap, ◌∙◌, arith, subst}
use Rattle.std.proofs.lemmas.Bool.{cases_lt}
use Rattle.std.proofs.lemmas.List.{length-replicate}
use Rattle.action_graph.specs.Places.{IsIn}
use Rattle.action_graph.specs.Reach.{Reached, started, stepped}
use Rattle.action_graph.specs.Found.{Adds, Marks, Spreads, marked}
use Rattle.action_graph.proofs.Finding.{coheres_below}

pub spreads_first : (count : ℕ) (leads : ℕ → List ℕ) (starts : List ℕ) (marks : List Bool) (places : List ℕ)
    → Adds (replicate count false) [] starts marks places → Spreads count leads starts 0 marks places
spreads_first count leads starts marks places adds = record {
  coheres = adds.coheres;
  counted = adds.same_length ∙ length-replicate count false;
  within = omega arith;
  sound = λ i below. started (get_or places i 0) (adds.back i (omega arith) below);
  begun = adds.covered;
  closed = λ i below to is. absurd (omega (arith, below));
}

pub spreads_next : (count : ℕ) (leads : ℕ → List ℕ) (starts : List ℕ) (done : ℕ) (marks : List Bool) (places : List ℕ) (next : List Bool) (more : List ℕ)
    → Spreads count leads starts done marks places → done < length places → Adds marks places (leads (get_or places done 0)) next more
    → Spreads count leads starts (done + 1) next more
spreads_next count leads starts done marks places next more spreads below adds = record {
  coheres = adds.coheres;
  counted = adds.same_length ∙ spreads.counted;
  within = omega (arith, below, adds.longer);
  sound = λ i inside. elim (cases_lt i (length places)) [
    | inl front ↦ (let P : ℕ → Type 0 = Reached (IsIn starts) (λ from. IsIn (leads from)) in subst P (sym (adds.front i front)) (spreads.sound i front))
    | inr past ↦ stepped (get_or places done 0) (get_or more i 0) (spreads.sound done below) (adds.back i past inside)
  ];
  begun = λ i inside. adds.kept (get_or starts i 0) (spreads.begun i inside);
  closed = λ i inside to is.
      let front : i < length places = omega (arith, inside, below) in
      let Q : ℕ → Type 0 = λ n. IsIn (leads n) to in
      let was : IsIn (leads (get_or places i 0)) to = subst Q (adds.front i front) is in
      elim (cases_lt i done) [
        | inl before ↦ adds.kept to (spreads.closed i before to was)
        | inr now ↦
            let same : i ≡ done = omega (arith, inside, now) in
            let R : ℕ → Type 0 = λ n. IsIn (leads (get_or places n 0)) to in
            let here : IsIn (leads (get_or places done 0)) to = subst R same was in
            let P : ℕ → Type 0 = λ n. marked next n ≡ true in
            subst P here.2 (adds.covered here.0 here.1)
      ];
}

pub spreads_all : (count : ℕ) (leads : ℕ → List ℕ) (starts : List ℕ) (done : ℕ) (marks : List Bool) (places : List ℕ)
    → Spreads count leads starts done marks places → length places ≤ done → Marks (Reached (IsIn starts) (λ from. IsIn (leads from))) count marks
spreads_all count leads starts done marks places spreads ends = record {
  counted = spreads.counted;
  those = λ place. (
    (λ on. let at = spreads.coheres.listed place on in
        let P : ℕ → Type 0 = Reached (IsIn starts) (λ from. IsIn (leads from)) in subst P at.2 (spreads.sound at.0 at.1)),
    marks_all place,
  );
}
  where
    marks_all : (place : ℕ) → Reached (IsIn starts) (λ from. IsIn (leads from)) place → marked marks place ≡ true
    marks_all place (started to is) = let P : ℕ → Type 0 = λ n. marked marks n ≡ true in subst P is.2 (spreads.begun is.0 is.1)
    marks_all place (stepped from to before is) =
        let at = spreads.coheres.listed from (marks_all from before) in
        let P : ℕ → Type 0 = λ n. IsIn (leads n) to in
        spreads.closed at.0 (omega (arith, at.1, ends)) to (subst P (sym at.2) is)

pub spreads_below : (count : ℕ) (leads : ℕ → List ℕ) (starts : List ℕ) (done : ℕ) (marks : List Bool) (places : List ℕ)
    → Spreads count leads starts done marks places → length places ≤ count
spreads_below count leads starts done marks places spreads = omega (arith, coheres_below marks places spreads.coheres, spreads.counted)

pub spreads_from : (count : ℕ) (leads : ℕ → List ℕ) (starts : List ℕ) (unmarked : List Bool) (empty : List ℕ) (marks : List Bool) (places : List ℕ)
    → unmarked ≡ replicate count false → empty ≡ [] → Adds unmarked empty starts marks places → Spreads count leads starts 0 marks places
spreads_from count leads starts unmarked empty marks places are none adds =
    let P : List Bool → Type 0 = λ m. Adds m empty starts marks places in
    let Q : List ℕ → Type 0 = λ p. Adds (replicate count false) p starts marks places in
    spreads_first count leads starts marks places (subst Q none (subst P are adds))

pub spreads_on : (count : ℕ) (leads : ℕ → List ℕ) (starts : List ℕ) (done from : ℕ) (added : List ℕ) (marks : List Bool) (places : List ℕ) (next : List Bool) (more : List ℕ)
    → Spreads count leads starts done marks places → done < length places → from ≡ get_or places done 0 → added ≡ leads from
    → Adds marks places added next more → Spreads count leads starts (done + 1) next more
spreads_on count leads starts done from added marks places next more spreads below is are adds =
    let P : List ℕ → Type 0 = λ xs. Adds marks places xs next more in
    spreads_next count leads starts done marks places next more spreads below (subst P (are ∙ ap leads is) adds)
