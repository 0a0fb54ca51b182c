-- The moments of receipts.
use Rattle.std.proofs.Common.{◌≡◌, ℕ, ◌+◌, ◌<◌, ◌≤◌, List, [], ◌∷◌, ◌++◌, length, Option, Result, Ok, Err, OnOk, sym, ◌∙◌, subst, arith, append_assoc}
use Rattle.std.proofs.Math.Nat.{le_trans}
use Rattle.outside_io.specs.Counts.{last_count}
use Rattle.crash_disk.specs.Disks.{State}
use Rattle.opam_top.specs.Changes.{AreDated, AreDatedFrom, AreReceipts, InOrder, IsDated}
use Rattle.opam_top.specs.Pasts.{Passes}
use Rattle.opam_top.specs.declared.records.Rec.{Rec}
use Rattle.opam_top.specs.declared.status.Receipt.{Receipt}

abbrev Past : Type 0
Past = ℕ → Option State

spans : (index from to : ℕ) (receipts : List Receipt) → InOrder index from to receipts → from ≤ to
spans index from to [] order = order
spans index from to (receipt ∷ receipts) order = le_trans order.1 (spans (index + 1) receipt.moment to receipts order.2)

is_later : (before now moment : ℕ) (past since : Past) (records : List Rec) → Passes before now past since → now < last_count → moment ≤ before → IsDated past records moment → IsDated since records moment
is_later before now moment past since records passes short le dated = (dated.0, passes.keeps moment le short ∙ dated.1, dated.2, dated.3)

from_later : (before now index from : ℕ) (past since : Past) (done records : List Rec) (receipts : List Receipt) → Passes before now past since → now < last_count → InOrder index from before receipts → AreDatedFrom past done records receipts → AreDatedFrom since done records receipts
from_later before now index from past since done records [] passes short order dated = tt
from_later before now index from past since done [] (receipt ∷ receipts) passes short order dated = absurd dated
from_later before now index from past since done (entry ∷ records) (receipt ∷ receipts) passes short order dated = (
  is_later before now receipt.moment past since (done ++ entry ∷ []) passes short (spans (index + 1) receipt.moment before receipts order.2) dated.0,
  from_later before now (index + 1) receipt.moment past since (done ++ entry ∷ []) records receipts passes short order.2 dated.1,
)

-- while the clock goes on, the moments of receipts stay what they were
pub dated_later : (before now from : ℕ) (past since : Past) (records : List Rec) (receipts : List Receipt) → Passes before now past since → now < last_count → AreReceipts from before receipts → AreDated past records receipts → AreDated since records receipts
dated_later before now from past since records receipts passes short are dated = record { each = from_later before now 0 from past since [] records receipts passes short are.order dated.each }

from_more : (past : Past) (done records : List Rec) (entry : Rec) (receipts : List Receipt) (new : Receipt) → length receipts ≡ length records → IsDated past (done ++ (records ++ entry ∷ [])) new.moment → AreDatedFrom past done records receipts → AreDatedFrom past done (records ++ entry ∷ []) (receipts ++ new ∷ [])
from_more past done [] entry [] new same one dated = (one, tt)
from_more past done (first ∷ records) entry [] new same one dated = absurd (omega (arith, same))
from_more past done [] entry (receipt ∷ receipts) new same one dated = absurd dated
from_more past done (first ∷ records) entry (receipt ∷ receipts) new same one dated = (
  dated.0,
  from_more past (done ++ first ∷ []) records entry receipts new (omega (arith, same))
      (subst (λ (l : List Rec). IsDated past l new.moment) (sym (append_assoc done (first ∷ []) (records ++ entry ∷ []))) one) dated.1,
)

-- one record more, with its receipt
pub dated_more : (past : Past) (records : List Rec) (entry : Rec) (receipts grown : List Receipt) (new : Receipt) → length receipts ≡ length records → grown ≡ receipts ++ new ∷ [] → IsDated past (records ++ entry ∷ []) new.moment → AreDated past records receipts → AreDated past (records ++ entry ∷ []) grown
dated_more past records entry receipts grown new same is one dated =
    subst (λ (l : List Receipt). AreDated past (records ++ entry ∷ []) l) (sym is) (record { each = from_more past [] records entry receipts new same one dated.each })

from_part : (past : Past) (done records rest : List Rec) (receipts : List Receipt) → AreDatedFrom past done records receipts → AreDatedFrom past done (records ++ rest) receipts
from_part past done records rest [] dated = tt
from_part past done [] rest (receipt ∷ receipts) dated = absurd dated
from_part past done (entry ∷ records) rest (receipt ∷ receipts) dated = (dated.0, from_part past (done ++ entry ∷ []) records rest receipts dated.1)

-- further records have no receipts yet
pub dated_part : (past : Past) (records rest whole : List Rec) (receipts : List Receipt) → whole ≡ records ++ rest → AreDated past records receipts → AreDated past whole receipts
dated_part past records rest whole receipts is dated = subst (λ (l : List Rec). AreDated past l receipts) (sym is) (record { each = from_part past [] records rest receipts dated.each })

pub dated_none : (past : Past) (records : List Rec) (receipts : List Receipt) → receipts ≡ [] → AreDated past records receipts
dated_none past records receipts none = subst (λ (l : List Receipt). AreDated past records l) (sym none) (record { each = tt })

pub dated_same : (past : Past) (records : List Rec) (old new : List Receipt) → new ≡ old → AreDated past records old → AreDated past records new
dated_same past records old new same dated = subst (λ (l : List Receipt). AreDated past records l) (sym same) dated

pub receipts_same : (from to : ℕ) (old new : List Receipt) → new ≡ old → AreReceipts from to old → AreReceipts from to new
receipts_same from to old new same are = subst (λ (l : List Receipt). AreReceipts from to l) (sym same) are

pub always : {X E P : Type 0} (result : Result X E) → P → OnOk result P
always (Ok x) p = p
always (Err e) p = tt
