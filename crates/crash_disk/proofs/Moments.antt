-- How the past of a log goes on.
use Rattle.std.proofs.Common.{◌≡◌, inl, inr, ℕ, ◌+◌, ◌≤◌, min, List, [], ◌∷◌, ◌++◌, IsTrue, sym, ◌∙◌, ap, arith, Some}
use Rattle.std.specs.Global.{Vec}
use Rattle.outside_io.specs.Counts.{last_count}
use Rattle.crash_disk.specs.Disks.{State, Elapses}
use Rattle.crash_disk.specs.Log.{Listed, all_until, until, replay, first_state}
use Rattle.crash_disk.specs.InOrder.{until_all}
use Rattle.crash_disk.specs.declared.changes.Change.{Change}
use Rattle.crash_disk.specs.declared.changes.Entry.{Entry}
use Rattle.crash_disk.proofs.Order.{Grows, later, one_later, until-later}

module _ (before now : ℕ) (log new : List Entry) (s : State) (clock : now ≡ min (before + 1) last_count) (rises : before ≤ now) (in_order : IsTrue (all_until before log)) where
  pub elapses_same : new ≡ log → Elapses before now (λ t. Some (replay (until t log) s)) (λ t. Some (replay (until t new) s)) (Some (replay new s))
  elapses_same same = record {
    later = rises;
    clock = clock;
    keeps = λ t le below. ap (λ (l : List Entry). Some (replay (until t l) s)) same;
    newest = λ below. ap (λ (l : List Entry). Some (replay l s)) (ap (until now) same ∙ until_all now log (later before now log (omega arith) in_order) ∙ sym same);
  }

  pub elapses_noted : (change : Change) → new ≡ log ++ record { moment = now; change = change } ∷ [] → Elapses before now (λ t. Some (replay (until t log) s)) (λ t. Some (replay (until t new) s)) (Some (replay new s))
  elapses_noted change same =
      let e : Entry = record { moment = now; change = change } in
      record {
        later = rises;
        clock = clock;
        keeps = λ t le below. ap (λ (l : List Entry). Some (replay l s)) (ap (until t) same ∙ until-later t log e (omega arith));
        newest = λ below. ap (λ (l : List Entry). Some (replay l s)) (ap (until now) same ∙ until_all now (log ++ e ∷ []) (one_later now log e (omega arith) (later before now log (omega arith) in_order)) ∙ sym same);
      }

  pub elapses_grown : Grows now log new → Elapses before now (λ t. Some (replay (until t log) s)) (λ t. Some (replay (until t new) s)) (Some (replay new s))
  elapses_grown (inl same) = elapses_same same
  elapses_grown (inr noted) = elapses_noted noted.0 noted.1

pub elapses : (before now : ℕ) (first first2 : Vec Listed) (log new : List Entry) → now ≡ min (before + 1) last_count → before ≤ now → IsTrue (all_until before log) → first2 ≡ first → Grows now log new
    → Elapses before now (λ t. Some (replay (until t log) (first_state first.items))) (λ t. Some (replay (until t new) (first_state first2.items))) (Some (replay new (first_state first2.items)))
elapses before now first first2 log new clock rises in_order same grows = rw same (elapses_grown before now log new (first_state first.items) clock rises in_order grows)
