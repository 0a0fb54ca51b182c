-- Lists in the byte order of a key: of the bytes of a name, a path or another text that each element has. This project's own.
use Rattle.std.specs.Prelude.{◌≡◌, ℕ, List, [], ◌∷◌, map, fold, Bool, false, bytes_eq, if◌then◌else◌}
use Rattle.std.specs.BTreeSet.{insert_key}
use Rattle.std.specs.Cmp.Lexicographic.{slice_cmp}
use Rattle.std.specs.List.{AllByRecursion, dedup, position, prefix_len}
use Rattle.std.specs.List.Sorted.{IsStrictlySortedBy}
use Rattle.std.specs.Ordering.{is_lt, nat_cmp}
use Rattle.std.specs.declared.cmp.Ordering.{Ordering}
use Rattle.std.specs.declared.option.Option.{Option}

-- the order of two texts, byte by byte
abbrev pub byte_order : List ℕ → List ℕ → Ordering
byte_order = slice_cmp nat_cmp

-- whether the first stands before the second, and is another
abbrev pub precedes : List ℕ → List ℕ → Bool
precedes one other = is_lt (byte_order one other)

-- each key precedes those of all later elements, so each stands there once
abbrev pub RisesBy : {X : Type 0} → (X → List ℕ) → List X → Type 0
RisesBy key xs = IsStrictlySortedBy byte_order (map key xs)

-- no key precedes that of an earlier element, so elements with one key stand together
abbrev pub NeverFallsBy : {X : Type 0} → (X → List ℕ) → List X → Type 0
NeverFallsBy key [] = Unit {0}
NeverFallsBy key (x ∷ xs) = AllByRecursion (λ y. precedes (key y) (key x) ≡ false) xs × NeverFallsBy key xs

abbrev pub has_key : {X : Type 0} → (X → List ℕ) → List ℕ → X → Bool
has_key key bytes x = bytes_eq (key x) bytes

-- an element before the first one whose key does not precede its own
abbrev pub put_by : {X : Type 0} → (X → List ℕ) → X → List X → List X
put_by key x [] = x ∷ []
put_by key x (y ∷ ys) = if precedes (key y) (key x) then y ∷ put_by key x ys else x ∷ y ∷ ys

-- in the byte order of their keys; elements with one key stay as they stood to one another
abbrev pub in_order_by : {X : Type 0} → (X → List ℕ) → List X → List X
in_order_by key [] = []
in_order_by key (x ∷ xs) = put_by key x (in_order_by key xs)

-- of neighbours with one key the first alone
abbrev pub first_of_each_by : {X : Type 0} → (X → List ℕ) → List X → List X
first_of_each_by key xs = dedup (λ x y. bytes_eq (key x) (key y)) xs

-- where the first element with this key stands
abbrev pub place_of_key : {X : Type 0} → (X → List ℕ) → List ℕ → List X → Option ℕ
place_of_key key bytes xs = position (has_key key bytes) xs

-- how many elements at the front have keys that precede this one
abbrev pub count_before : {X : Type 0} → (X → List ℕ) → List ℕ → List X → ℕ
count_before key bytes xs = prefix_len (λ x. precedes (key x) bytes) xs

-- texts in byte order, each once
abbrev pub each_once : List (List ℕ) → List (List ℕ)
each_once texts = fold (insert_key byte_order) [] texts
