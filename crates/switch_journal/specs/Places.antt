-- Where the files of a journal stand. This project's own. Record k is `rec/k` in the folder `.opam-switch/journal` and its gate
-- `gate/k`; the two slots are `snap/0` and `snap/1`, with the gates `snapgate/0` and `snapgate/1`. A gate is open where its
-- file holds `ok` and a newline.
use Rattle.std.specs.Prelude.{ℕ, List, ◌++◌, Bool, true, false, bytes_eq, codes}
use Rattle.std.specs.FinMap.{get}
use Rattle.std.specs.Fmt.{decimal}
use Rattle.std.specs.Option.{option_map}
use Rattle.std.specs.declared.option.Option.{Option}
use Rattle.std.specs.declared.option.Option.TheVariants.{None, Some}
use Rattle.opam_names.specs.Paths.{is_above}
use Rattle.crash_disk.specs.Disks.{Kept, Tree}

-- where record k stands
abbrev pub record_path : ℕ → List ℕ
record_path k = codes ".opam-switch/journal/rec/" ++ decimal k

-- where the gate of record k stands
abbrev pub gate_path : ℕ → List ℕ
gate_path k = codes ".opam-switch/journal/gate/" ++ decimal k

-- the slot 0 is named by false, and 1 by true
abbrev pub slot_path : Bool → List ℕ
slot_path false = codes ".opam-switch/journal/snap/0"
slot_path true = codes ".opam-switch/journal/snap/1"

-- where the gate of a slot stands
abbrev pub slot_gate : Bool → List ℕ
slot_gate false = codes ".opam-switch/journal/snapgate/0"
slot_gate true = codes ".opam-switch/journal/snapgate/1"

-- whether a path lies below the folder that is not the switch's own
abbrev pub is_inside : List ℕ → Bool
is_inside q = is_above (codes ".opam-switch") q

-- what stands at an open gate
abbrev pub gate_text : List ℕ
gate_text = codes "ok\n"

-- whether the file at a gate, if any, opens it
abbrev pub opens : Option Kept → Bool
opens None = false
opens (Some file) = bytes_eq file.bytes gate_text

-- the gate of record k is open
abbrev pub is_open : ℕ → Tree → Bool
is_open k tree = opens (get tree (gate_path k))

-- what a file holds
abbrev pub text_of : Option Kept → Option (List ℕ)
text_of file = option_map (λ (f : Kept). f.bytes) file
