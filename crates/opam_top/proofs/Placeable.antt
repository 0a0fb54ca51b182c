-- What holds of the files of an install, in whatever order.
use Rattle.std.proofs.Common.{◌≡◌, ℕ, ◌<◌, ◌≤◌, ◌^◌, Bool, true, false, List, [], ◌∷◌, length, Result, Ok, Err, IfOk, sym, subst, arith, lit<, if◌then◌else◌}
use Rattle.std.specs.Prelude.{nat_le, map}
use Rattle.std.specs.List.{AllByRecursion, list_all}
use Rattle.std.proofs.lemmas.Bool.Decides.{nat_tests}
use Rattle.opam_names.specs.declared.packages.Pkg.{Pkg}
use Rattle.opam_top.specs.declared.decision.Reason.{Reason}
use Rattle.opam_top.specs.declared.decision.Reason.TheVariants.{SwitchFull}
use Rattle.outside_io.specs.Counts.{ByPath}
use Rattle.opam_top.specs.InstallTexts.{is_item}
use Rattle.opam_top.specs.Installs.{if_room}
use Rattle.opam_top.specs.Placements.{bin_path, first_room, in_byte_order, is_before, is_too_full, paths_of, put_in, total_bytes}
use Rattle.opam_top.specs.Records.{FilesFit, PlacedFits}
use Rattle.opam_top.specs.declared.records.Placed.{Placed}
use Rattle.opam_top.proofs.ItemPaths.{item_short}
use Rattle.opam_top.proofs.Orders.{order_length}
use Rattle.opam_top.proofs.Sourced.{as_many}
use Rattle.opam_top.proofs.Tests.{both_left, both_right}

module _ (P : Placed → Type 0) where
  put_by : (before : Bool) (file other : Placed) (files : List Placed) → P file → P other → AllByRecursion P files → AllByRecursion P (put_in file files) → AllByRecursion P (if before then other ∷ put_in file files else file ∷ other ∷ files)
  put_by true file other files here there all later = (there, later)
  put_by false file other files here there all later = (here, (there, all))

  put_keeps : (file : Placed) (files : List Placed) → P file → AllByRecursion P files → AllByRecursion P (put_in file files)
  put_keeps file [] here all = (here, tt)
  put_keeps file (other ∷ files) here all = put_by (is_before other.path file.path) file other files here all.0 all.1 (put_keeps file files here all.1)

  pub order_all : (files : List Placed) → AllByRecursion P files → AllByRecursion P (in_byte_order files)
  order_all [] all = tt
  order_all (file ∷ files) all = put_keeps file (in_byte_order files) all.0 (order_all files all.1)

pub order_fits : (files : List Placed) → FilesFit files → FilesFit (in_byte_order files)
order_fits files fit = record { count = rw (order_length files) fit.count; each = order_all PlacedFits files fit.each }

-- what holds of the files in order holds of those for which there is room
room_by : (full : Bool) (order : List Placed) (result : Result (List Placed) Reason) (P : List Placed → Type 0) → P order → result ≡ (if full then Err SwitchFull else Ok order) → IfOk result P
room_by true order result P holds is = let Q : Result (List Placed) Reason → Type 0 = λ r. IfOk r P in subst Q (sym is) tt
room_by false order result P holds is = let Q : Result (List Placed) Reason → Type 0 = λ r. IfOk r P in subst Q (sym is) holds

pub if_roomy : (owners : ByPath Pkg) (files : List Placed) (result : Result (List Placed) Reason) (P : List Placed → Type 0) → P (in_byte_order files) → result ≡ if_room owners files → IfOk result P
if_roomy owners files result P holds is = room_by (is_too_full owners files) (in_byte_order files) result P holds is

-- the lengths of files whose paths are items in `bin`
path_short : (item : List ℕ) → is_item item ≡ true → length (bin_path item) < 2 ^ 16
path_short item is = let short : nat_le (length item) 1020 ≡ true = item_short item is in grind (arith, nat_tests)

each_fits : (items : List (List ℕ)) (files : List Placed) (room : ℕ) → list_all is_item items ≡ true → paths_of files ≡ map bin_path items → total_bytes files ≤ room → room < 2 ^ 32 → AllByRecursion PlacedFits files
each_fits items [] room good paths short low = tt
each_fits [] (file ∷ files) room good paths short low = absurd (cc)
each_fits (item ∷ items) (file ∷ files) room good paths short low =
    let here : file.path ≡ bin_path item = cc in
    let there : paths_of files ≡ map bin_path items = cc in (
      record { path = rw here (path_short item (both_left (is_item item) (list_all is_item items) good)); bytes = omega arith },
      each_fits items files room (both_right (is_item item) (list_all is_item items) good) there (omega arith) low,
    )

pub sources_fit : (items : List (List ℕ)) (files : List Placed) → list_all is_item items ≡ true → length items ≤ 65536 → paths_of files ≡ map bin_path items → total_bytes files ≤ first_room → FilesFit files
sources_fit items files good few paths short = record { count = omega (arith, as_many items files paths); each = each_fits items files first_room good paths short (lit< tt) }
