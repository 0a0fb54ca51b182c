-- What arguments without a fault are.
use Rattle.std.proofs.Common.{◌≡◌, ℕ, suc, ◌+◌, ◌<◌, ◌&&◌, ◌||◌, Bool, true, false, not, cond, List, [], ◌∷◌, ◌++◌, length, refl, sym, ap, ◌∙◌, arith, append-nil, append_assoc}
use Rattle.std.proofs.lemmas.List.Folds.{list_any-append}
use Rattle.std.proofs.lemmas.Slice.Eq.{bytes_eq-Decides}
use Rattle.std.specs.List.{after_first, before_first, list_all, list_any, position_or_len}
use Rattle.std.specs.Prelude.{bytes_eq, codes, nat_le}
use Rattle.std.specs.declared.option.Option.{Option}
use Rattle.std.specs.declared.option.Option.TheVariants.{None, Some}
use Rattle.opam_names.specs.Names.{is_digit, is_name, is_version}
use Rattle.opam_names.specs.Orders.{number}
use Rattle.opam_names.specs.Packages.{is_dot}
use Rattle.command_words.specs.Commands.{IsReadCommand, is_number_of_jobs}
use Rattle.command_words.specs.Readings.{begins_with_zero, command_of, fault_at_end, fault_of, fault_of_known, fault_of_word, first_fault, first_word, has_word, is_enough, is_given, is_met, is_name_or_option, is_path, is_plain, is_shown, is_value, jobs_of, lock_file_of, option_or, or_later, value_or}
use Rattle.command_words.specs.Tables.{Row, jobs_option, lock_file_option, repo_option, row, value_of}
use Rattle.command_words.specs.declared.arguments.Argument.{Argument}
use Rattle.command_words.specs.declared.arguments.Argument.TheVariants.{Given, Plain}
use Rattle.command_words.specs.declared.fault.WordFault.{WordFault}
use Rattle.command_words.specs.declared.fault.WordFault.TheVariants.{BadName, BadValue, ExtraWord, MissingOption, MissingWord}
use Rattle.command_words.specs.declared.tables.Kind.{Kind}
use Rattle.command_words.specs.declared.tables.Kind.TheVariants as kind
use Rattle.command_words.specs.declared.tables.PlainKind.TheVariants.{Names, SomeNames, Package, File}
use Rattle.command_words.specs.declared.tables.ValueKind.{ValueKind}
use Rattle.command_words.specs.declared.tables.ValueKind.TheVariants.{Path, Jobs}
use Rattle.command_words.proofs.JobTexts.{both_left}
use Rattle.command_words.proofs.NameLists.{names_are_in_order}

none_first : (x y : Option WordFault) → or_later x y ≡ None → x ≡ None
none_first None y h = refl
none_first (Some fault) y h = cc

none_later : (x y : Option WordFault) → or_later x y ≡ None → y ≡ None
none_later None y h = h
none_later (Some fault) y h = cc

holds_where_none : (b : Bool) (fault : WordFault) → cond b None (Some fault) ≡ None → b ≡ true
holds_where_none true fault h = refl
holds_where_none false fault h = cc

known_value : (k : ValueKind) (repeated : Bool) (name text : List ℕ) (value : Option (List ℕ)) → fault_of_known (Some k) repeated name value ≡ None → is_value k (value_or text value) ≡ true
known_value k true name text value h = cc
known_value k false name text None h = cc
known_value k false name text (Some given) h = holds_where_none (is_value k given) (BadValue name given) h

value_here : (k : ValueKind) (r : Row) (before : List Argument) (name text option : List ℕ) (value : Option (List ℕ)) → bytes_eq option name ≡ true → value_of r.options option ≡ Some k
    → fault_of_known (value_of r.options name) (is_given name before) name value ≡ None → is_value k (value_or text value) ≡ true
value_here k r before name text option value e known here =
    let same : option ≡ name = (bytes_eq-Decides option name).0 e in
    let is : value_of r.options name ≡ Some k = ap (value_of r.options) (sym same) ∙ known in
    known_value k (is_given name before) name text value (sym (ap (λ v. fault_of_known v (is_given name before) name value) is) ∙ here)

-- the value of an option that a command may have, where what stands for it fits
pub option_fits : (c : List ℕ) (r : Row) (before given : List Argument) (k : ValueKind) (text option : List ℕ) → is_value k text ≡ true → value_of r.options option ≡ Some k
    → first_fault c r before given ≡ None → is_value k (option_or text option given) ≡ true
option_fits c r before [] k text option fits known h = fits
option_fits c r before (Plain word ∷ given) k text option fits known h =
    option_fits c r (before ++ Plain word ∷ []) given k text option fits known (none_later (fault_of r before (Plain word)) (first_fault c r (before ++ Plain word ∷ []) given) h)
option_fits c r before (Given name value ∷ given) k text option fits known h =
    let rest = first_fault c r (before ++ Given name value ∷ []) given in
    let here : fault_of_known (value_of r.options name) (is_given name before) name value ≡ None = none_first (fault_of r before (Given name value)) rest h in
    let later = option_fits c r (before ++ Given name value ∷ []) given k text option fits known (none_later (fault_of r before (Given name value)) rest h) in
    elim (bytes_eq option name) as (λ b. bytes_eq option name ≡ b → is_value k (cond b (value_or text value) (option_or text option given)) ≡ true) [
      | true ↦ λ e. value_here k r before name text option value e known here
      | false ↦ λ e. later
    ] refl

-- the value of an option that is given
pub given_fits : (c : List ℕ) (r : Row) (before given : List Argument) (k : ValueKind) (text option : List ℕ) → is_given option given ≡ true → value_of r.options option ≡ Some k
    → first_fault c r before given ≡ None → is_value k (option_or text option given) ≡ true
given_fits c r before [] k text option is known h = cc
given_fits c r before (Plain word ∷ given) k text option is known h =
    given_fits c r (before ++ Plain word ∷ []) given k text option is known (none_later (fault_of r before (Plain word)) (first_fault c r (before ++ Plain word ∷ []) given) h)
given_fits c r before (Given name value ∷ given) k text option is known h =
    let rest = first_fault c r (before ++ Given name value ∷ []) given in
    let here : fault_of_known (value_of r.options name) (is_given name before) name value ≡ None = none_first (fault_of r before (Given name value)) rest h in
    let later : is_given option given ≡ true → is_value k (option_or text option given) ≡ true =
    λ more. given_fits c r (before ++ Given name value ∷ []) given k text option more known (none_later (fault_of r before (Given name value)) rest h) in
    elim (bytes_eq option name) as (λ b. bytes_eq option name ≡ b → (b || is_given option given) ≡ true → is_value k (cond b (value_or text value) (option_or text option given)) ≡ true) [
      | true ↦ λ e more. value_here k r before name text option value e known here
      | false ↦ λ e more. later more
    ] refl is

-- at the end of all words nothing is wrong
pub ends_well : (c : List ℕ) (r : Row) (before given : List Argument) → first_fault c r before given ≡ None → fault_at_end c r (before ++ given) ≡ None
ends_well c r before [] h = ap (fault_at_end c r) (append-nil before) ∙ h
ends_well c r before (next ∷ given) h =
    ap (fault_at_end c r) (sym (append_assoc before (next ∷ []) given))
    ∙ ends_well c r (before ++ next ∷ []) given (none_later (fault_of r before next) (first_fault c r (before ++ next ∷ []) given) h)

all_met : (c : List ℕ) (met enough : Bool) → cond met (cond enough None (Some (MissingWord c))) (Some MissingOption) ≡ None → met ≡ true
all_met c true enough h = refl
all_met c false enough h = cc

some_word : (c : List ℕ) (met enough : Bool) → cond met (cond enough None (Some (MissingWord c))) (Some MissingOption) ≡ None → enough ≡ true
some_word c true true h = refl
some_word c true false h = cc
some_word c false enough h = cc

-- the plain words of a command that takes names
pub names_fit : (c : List ℕ) (r : Row) (before given : List Argument) → ((others : List Argument) (word : List ℕ) → fault_of_word r.words others word ≡ None → is_name word ≡ true)
    → first_fault c r before given ≡ None → list_all is_name_or_option given ≡ true
names_fit c r before [] fits h = refl
names_fit c r before (Given name value ∷ given) fits h =
    names_fit c r (before ++ Given name value ∷ []) given fits (none_later (fault_of r before (Given name value)) (first_fault c r (before ++ Given name value ∷ []) given) h)
names_fit c r before (Plain word ∷ given) fits h =
    let rest = first_fault c r (before ++ Plain word ∷ []) given in
    ap (λ b. b && list_all is_name_or_option given) (fits before word (none_first (fault_of r before (Plain word)) rest h))
    ∙ names_fit c r (before ++ Plain word ∷ []) given fits (none_later (fault_of r before (Plain word)) rest h)

pub install_names : (others : List Argument) (word : List ℕ) → fault_of_word Names others word ≡ None → is_name word ≡ true
install_names others word h = holds_where_none (is_name word) (BadName word) h

pub some_names : (others : List Argument) (word : List ℕ) → fault_of_word SomeNames others word ≡ None → is_name word ≡ true
some_names others word h = holds_where_none (is_name word) (BadName word) h

no_word_more : (given : List Argument) (name : List ℕ) (value : Option (List ℕ)) → has_word given ≡ false → has_word (given ++ Given name value ∷ []) ≡ false
no_word_more given name value h = list_any-append is_plain given (Given name value ∷ []) ∙ ap (λ b. b || false) h

package_word : (before : List Argument) (word : List ℕ) → has_word before ≡ false → fault_of_word Package before word ≡ None → is_shown word ≡ true
package_word before word h k =
    holds_where_none (is_shown word) (BadName word) (sym (ap (λ b. cond b (Some (ExtraWord word)) (cond (is_shown word) None (Some (BadName word)))) h) ∙ k)

missing_word : (c : List ℕ) (b : Bool) → cond b (cond false None (Some (MissingWord c))) (Some MissingOption) ≡ None → ⊥
missing_word c true h = cc
missing_word c false h = cc

-- the word of a command that shows a package
pub shown_fits : (c : List ℕ) (before given : List Argument) → has_word before ≡ false → first_fault c (row kind.Show) before given ≡ None → is_shown (first_word given) ≡ true
shown_fits c before [] none h =
    absurd (missing_word c (list_all (is_met before) (row kind.Show).options)
    (sym (ap (λ b. cond (list_all (is_met before) (row kind.Show).options) (cond b None (Some (MissingWord c))) (Some MissingOption)) none) ∙ h))
shown_fits c before (Given name value ∷ given) none h =
    shown_fits c (before ++ Given name value ∷ []) given (no_word_more before name value none)
    (none_later (fault_of (row kind.Show) before (Given name value)) (first_fault c (row kind.Show) (before ++ Given name value ∷ []) given) h)
shown_fits c before (Plain word ∷ given) none h =
    package_word before word none (none_first (fault_of (row kind.Show) before (Plain word)) (first_fault c (row kind.Show) (before ++ Plain word ∷ []) given) h)

some_found : (p : ℕ → Bool) (xs : List ℕ) → position_or_len p xs < length xs → list_any p xs ≡ true
some_found p [] h = absurd (omega arith)
some_found p (x ∷ xs) h =
    elim (p x) as (λ b. cond (not b) (1 + position_or_len p xs) 0 < suc (length xs) → (b || list_any p xs) ≡ true) [
      | true ↦ λ e. refl
      | false ↦ λ e. some_found p xs (omega arith)
    ] h

-- the name of a package that is shown
pub shown_package : (word name : List ℕ) → position_or_len is_dot word < length word → name ≡ before_first is_dot word → is_shown word ≡ true → is_name name ≡ true
shown_package word name l e h =
    let both : (is_name (before_first is_dot word) && is_version (after_first is_dot word)) ≡ true =
    sym (ap (λ b. cond b (is_name (before_first is_dot word) && is_version (after_first is_dot word)) (is_name word)) (some_found is_dot word l)) ∙ h in
    ap is_name e ∙ both_left (is_name (before_first is_dot word)) (is_version (after_first is_dot word)) both

-- the word of a command that looks at a file
file_word : (before : List Argument) (word : List ℕ) → has_word before ≡ false → fault_of_word File before word ≡ None → is_path word ≡ true
file_word before word h k =
    holds_where_none (is_path word) (BadName word) (sym (ap (λ b. cond b (Some (ExtraWord word)) (cond (is_path word) None (Some (BadName word)))) h) ∙ k)

file_fits : (c : List ℕ) (before given : List Argument) → has_word before ≡ false → first_fault c (row kind.Lint) before given ≡ None → is_path (first_word given) ≡ true
file_fits c before [] none h =
    absurd (missing_word c (list_all (is_met before) (row kind.Lint).options)
    (sym (ap (λ b. cond (list_all (is_met before) (row kind.Lint).options) (cond b None (Some (MissingWord c))) (Some MissingOption)) none) ∙ h))
file_fits c before (Given name value ∷ given) none h =
    file_fits c (before ++ Given name value ∷ []) given (no_word_more before name value none)
    (none_later (fault_of (row kind.Lint) before (Given name value)) (first_fault c (row kind.Lint) (before ++ Given name value ∷ []) given) h)
file_fits c before (Plain word ∷ given) none h =
    file_word before word none (none_first (fault_of (row kind.Lint) before (Plain word)) (first_fault c (row kind.Lint) (before ++ Plain word ∷ []) given) h)

last_two : (x y z w : Bool) → (x && y && z && w) ≡ true → (z && w) ≡ true
last_two true true z w h = h
last_two true false z w h = cc
last_two false y z w h = cc

jobs_number : (c : List ℕ) (k : Kind) (given : List Argument) → value_of (row k).options (codes "--jobs") ≡ Some Jobs → first_fault c (row k) [] given ≡ None → is_number_of_jobs (jobs_of given) ≡ true
jobs_number c k given known h = last_two (list_all is_digit text) (not (begins_with_zero text)) (nat_le 1 (number text)) (nat_le (number text) 64) (option_fits c (row k) [] given Jobs (codes "4") (codes "--jobs") refl known h)
  where
    text : List ℕ
    text = option_or (codes "4") (codes "--jobs") given

lock_file_fits : (c : List ℕ) (given : List Argument) → first_fault c (row kind.Install) [] given ≡ None → is_path (lock_file_of given) ≡ true
lock_file_fits c given h =
    let met = all_met c (list_all (is_met given) (row kind.Install).options) (is_enough Names given) (ends_well c (row kind.Install) [] given h) in
    given_fits c (row kind.Install) [] given Path [] (codes "--lock-file") (both_left (is_met given lock_file_option) (is_met given repo_option && (is_met given jobs_option && true)) met) refl h

-- what is read holds
pub read_holds : (c : List ℕ) (k : Kind) (given : List Argument) → first_fault c (row k) [] given ≡ None → IsReadCommand (command_of k given)
read_holds c kind.Install given h = (lock_file_fits c given h, option_fits c (row kind.Install) [] given Path (codes ".") (codes "--repo") refl refl h, jobs_number c kind.Install given refl h, (names_are_in_order given).rising)
read_holds c kind.Remove given h = (jobs_number c kind.Remove given refl h, (names_are_in_order given).rising)
read_holds c kind.Reinstall given h = (jobs_number c kind.Reinstall given refl h, (names_are_in_order given).rising)
read_holds c kind.List given h = tt
read_holds c kind.Show given h = option_fits c (row kind.Show) [] given Path (codes ".") (codes "--repo") refl refl h
read_holds c kind.Lint given h = file_fits c [] given refl h
