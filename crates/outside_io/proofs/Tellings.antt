-- A sink that has got the first bytes gets more.
use Rattle.std.proofs.Common.{◌≡◌, ℕ, ◌+◌, ◌-◌, ◌≤◌, List, ◌++◌, length, take, drop, refl, sym, ◌∙◌, ap, append_assoc, Some, None, Option, arith, length-drop}
use Rattle.std.proofs.lemmas.List.{append-nil, take_all}
use Rattle.std.proofs.Math.Seq.{take-add}
use Rattle.std.specs.Option.{option_map}
use Rattle.outside_io.specs.Sinks.{Got}

pub got_nothing : (old : Option (List ℕ)) (bytes : List ℕ) → Got old old (take 0 bytes)
got_nothing None bytes = refl
got_nothing (Some w) bytes = ap (λ (l : List ℕ). Some l) (sym (append-nil w))

pub got_more : (old mid new : Option (List ℕ)) (bytes : List ℕ) (done count : ℕ) → Got old mid (take done bytes) → new ≡ option_map (λ w. w ++ take count (drop done bytes)) mid → Got old new (take (done + count) bytes)
got_more None mid new bytes done count was is = is ∙ ap (λ (o : Option (List ℕ)). option_map (λ w. w ++ take count (drop done bytes)) o) was
got_more (Some w) mid new bytes done count was is =
    is ∙ ap (λ (o : Option (List ℕ)). option_map (λ w. w ++ take count (drop done bytes)) o) was
    ∙ ap (λ (l : List ℕ). Some l) (append_assoc w (take done bytes) (take count (drop done bytes)) ∙ ap (λ (l : List ℕ). w ++ l) (sym (take-add done count bytes)))

pub got_all : (old new : Option (List ℕ)) (bytes : List ℕ) (done : ℕ) → length bytes ≤ done → Got old new (take done bytes) → Got old new bytes
got_all old new bytes done le got = rw (take_all done bytes le) at got

-- the same of a piece that is cut out to the end
pub got_piece : (old mid new : Option (List ℕ)) (bytes : List ℕ) (done count : ℕ) → Got old mid (take done bytes) → new ≡ option_map (λ w. w ++ take count (take (length bytes - done) (drop done bytes))) mid → Got old new (take (done + count) bytes)
got_piece old mid new bytes done count was is =
    let whole : take (length bytes - done) (drop done bytes) ≡ drop done bytes = take_all (length bytes - done) (drop done bytes) (omega (arith, length-drop done bytes)) in
    got_more old mid new bytes done count was (is ∙ ap (λ (l : List ℕ). option_map (λ w. w ++ take count l) mid) whole)
