-- Files put and removed one after the other.
use Rattle.std.proofs.Common.{◌≡◌, ℕ, List, [], ◌∷◌, ◌++◌, ◌+◌, ◌<◌, length, get_or, take, IsTrue, refl, sym, ◌∙◌, ap}
use Rattle.std.specs.Option.{option_map}
use Rattle.std.proofs.lemmas.List.{take_more}
use Rattle.crash_disk.specs.declared.disk.Disk.{Ghosts}
use Rattle.crash_disk.specs.Disks.{Tree}
use Rattle.crash_disk.proofs.Effects.{becomes_none, becomes_then, one_here, touches_none, touches_one_of, touches_then}
use Rattle.crash_disk.specs.Writes.{path_of, paths_of, with_write, with_writes}
use Rattle.crash_disk.specs.Effects.{Becomes, Touches, is_one, tree_told}
use Rattle.crash_disk.specs.declared.batch.Write.{Write}

with_last : (tree : Tree) (writes : List Write) (write : Write) → with_writes (writes ++ write ∷ []) tree ≡ with_write write (with_writes writes tree)
with_last tree [] write = refl
with_last tree (first ∷ writes) write = with_last (with_write first tree) writes write

is_among_them : (writes : List Write) (i : ℕ) (d : Write) → i < length writes → IsTrue (is_one (paths_of writes) (path_of (get_or writes i d)))
is_among_them writes i d lt = one_here path_of paths_of refl (λ w ws. refl) writes i d lt

one_more : (writes : List Write) (i : ℕ) (write : Write) (tree : Tree) → i < length writes → write ≡ get_or writes i write → with_writes (take (i + 1) writes) tree ≡ with_write write (with_writes (take i writes) tree)
one_more writes i write tree lt is = ap (λ (ws : List Write). with_writes ws tree) (take_more writes i write lt ∙ ap (λ (w : Write). take i writes ++ w ∷ []) (sym is)) ∙ with_last tree (take i writes) write

module _ {D : Type 0} (g : Ghosts D) where
  pub next_touches : (writes : List Write) (i : ℕ) (write : Write) (a b c : D) → i < length writes → write ≡ get_or writes i write
      → Touches g (paths_of writes) a b → Touches g (path_of write ∷ []) b c → Touches g (paths_of writes) a c
  next_touches writes i write a b c lt is so_far one =
      touches_then so_far (touches_one_of (ap (λ (w : Write). is_one (paths_of writes) (path_of w)) is ∙ is_among_them writes i write lt) one)

  pub one_more_write : (writes : List Write) (i : ℕ) (write : Write) (a b c : D) → i < length writes → write ≡ get_or writes i write
      → Becomes g (with_writes (take i writes)) a b → Becomes g (with_write write) b c → Becomes g (with_writes (take (i + 1) writes)) a c
  one_more_write writes i write a b c lt is first second =
      becomes_then g (with_writes (take i writes)) (with_write write) a b c first second
      ∙ ap (λ (change : Tree → Tree). option_map change (tree_told (g.told a))) (λ j tree. sym (one_more writes i write tree lt is) j)

-- one more of a list
pub ruleset batch_steps = (touches_none, becomes_none, next_touches, one_more_write)
