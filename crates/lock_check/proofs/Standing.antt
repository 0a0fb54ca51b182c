-- What is always true of a chase, from its beginning on and after each answer.
use Rattle.std.proofs.Common.{◌≡◌, ℕ, suc, ◌+◌, ◌-◌, ◌^◌, ◌<◌, List, [], ◌∷◌, ◌++◌, length, map, filter, fold, Bool, true, false, not, ◌||◌, ◌&&◌, cond, ◌⊎◌, inl, inr, ⊎_elim, refl, sym, ◌∙◌, ap, subst, arith}
use Rattle.std.specs.Prelude.{Contains, bytes_eq, find, is_none, min}
use Rattle.std.specs.List.{AllByRecursion, IsDistinct, list_any}
use Rattle.std.specs.List.Sorted.{IsStrictlySortedBy}
use Rattle.std.specs.declared.option.Option.{Option}
use Rattle.std.specs.declared.option.Option.TheVariants.{None, Some}
use Rattle.std.proofs.lemmas.List.Elements.{Contains-push_cases}
use Rattle.opam_names.specs.ByteOrderLaws.{NeverFallsBy-from_rises, TextsRise}
use Rattle.std.specs.Ordering.{is_gt}
use Rattle.opam_names.specs.ByteOrders.{NeverFallsBy, RisesBy, byte_order, each_once, has_key, in_order_by}
use Rattle.opam_names.specs.declared.packages.Pkg.{Pkg}
use Rattle.opam_filter.specs.NameSets.{with_name}
use Rattle.opam_filter.specs.Sets.{Rises}
use Rattle.opam_package.specs.declared.package.Member.{Member}
use Rattle.lock_check.specs.Chased.{Chased, IsNeeded, bound_among, bound_to, count_of, formula_names, has_pkg, held_by_name, held_name, held_of, is_among, is_awaited, is_other_version, is_replaced, leads, names_given, names_held, next_of, pkg_name, starts, stay, stored_in, stored_of, unknown_in}
use Rattle.lock_check.specs.Chasing.{IsRead, Stands, is_awaited_at}
use Rattle.lock_check.specs.Given.{IsGiven}
use Rattle.lock_check.specs.Growth.{AreNew, Awaits, Begins, Reaches, Spreads, held_names, is_open, is_uninstalled, led_to, without}
use Rattle.lock_check.specs.Needed.{IsClosed, IsLeast, full_names}
use Rattle.lock_check.specs.Targets.{has_member, member_name}
use Rattle.lock_check.specs.declared.answer.Answer.TheVariants.{Known, Unknown}
use Rattle.lock_check.specs.declared.held.Held.{Held}
use Rattle.lock_check.proofs.Among.{among_all, among_in, among_joined, is_same, none_of_new, or_left, same_name, turned}
use Rattle.lock_check.proofs.Distinct.{differ_chosen}
use Rattle.lock_check.proofs.Members.{first_in, in_map, in_order, later_in, none_in, of_filter}
use Rattle.lock_check.proofs.Ordered.{held_rise}
use Rattle.lock_check.proofs.Rising.{Members, any_joined, any_none, find_last, find_missing, find_pushed, found_in, least_found, none_any, once_longer, once_rising, once_same, rises_found, rising_more}

-- ---- lists

none_after : {X : Type 0} (xs : List X) → xs ++ [] ≡ xs
none_after [] = refl
none_after (x ∷ xs) = ap (λ ys. x ∷ ys) (none_after xs)

or_end : (a : Bool) → (a || false) ≡ a
or_end true = refl
or_end false = refl

bound_named : (bound : List Pkg) (name : List ℕ) (pkg : Pkg) → bound_to bound name ≡ Some pkg → pkg.name ≡ name
bound_named bound name pkg is = is_same pkg.name name (found_in (has_key pkg_name name) bound pkg is).1

-- ---- where names lead

-- a name that is not known leads where what is installed leads
leads_held : (c : Chased) (name : List ℕ) → find (has_key member_name name) c.known ≡ None → leads c name ≡ led_to c.bound c.installed name
leads_held c name unknown = ap (bound_among c.bound) (by (bound_to c.bound name) refl)
  where
    by : (b : Option Pkg) → bound_to c.bound name ≡ b → formula_names c b ≡ held_names c.installed b
    by None is = refl
    by (Some pkg) is =
        let P : List ℕ → Type 0 = λ n. find (has_key member_name n) c.known ≡ None in
        let none : find (has_key member_name pkg.name) c.known ≡ None = subst P (sym (bound_named c.bound name pkg is)) unknown in
        ap (λ r. names_held (stored_in c.installed pkg) ++ names_given r) none ∙ none_after (names_held (stored_in c.installed pkg))

-- ---- the least set

least_of : (first : List (List ℕ)) (steps : List ℕ → List (List ℕ)) (needed : List (List ℕ)) → RisesBy (λ name. name) needed → Spreads first steps needed [] → IsLeast first steps needed
least_of first steps needed rises h = record {
  rises = rises;
  closed = record { begun = h.begun; led = λ name to at there. h.led name to at refl there };
  least = h.sound;
}

-- ---- the beginning

none_differ : (same : List ℕ → List ℕ → Bool) → IsDistinct same []
unfolding IsDistinct
none_differ same = tt

and_rest : (a b : Bool) → (((a && b) && true) && true) ≡ (a && b)
and_rest true true = refl
and_rest true false = refl
and_rest false b = refl

and_none : (a : Bool) → (a && false) ≡ false
and_none true = refl
and_none false = refl

pub stands_first : TextsRise → (c : Chased) (waiting first fresh : List (List ℕ)) (start count : ℕ) → Rises c.bound → RisesBy held_name c.installed → c.known ≡ [] → c.unknown ≡ []
    → first ≡ starts c.bound c.asked → Reaches first (led_to c.bound c.installed) [] c.needed fresh → Awaits (is_open c.bound c.installed) fresh [] waiting
    → count ≡ count_of c → Stands c waiting count
stands_first law c waiting first fresh start count bound_rises installed_rises no_known no_unknown first_is reaches awaits counted =
    let unread : (name : List ℕ) → find (has_key member_name name) c.known ≡ None = λ name. ap (find (has_key member_name name)) no_known in
    let begins : Begins (starts c.bound c.asked) (leads c) [] first = record {
      begun = λ name at. inr (let P : List (List ℕ) → Type 0 = λ xs. Contains xs name in subst P (sym first_is) at);
      led = λ name to at there. absurd (none_in name at);
      sound = λ others closed name at.
          ⊎_elim (λ none. absurd (none_in name none)) (λ here. closed.begun name (let P : List (List ℕ) → Type 0 = λ xs. Contains xs name in subst P first_is here)) at;
    } in
    let ends = reaches.ends (starts c.bound c.asked) (leads c) (λ name is. leads_held c name (unread name)) begins in
    let P : List (List ℕ) → Type 0 = λ names. RisesBy (λ name. name) names in
    record {
      bound_rises = bound_rises;
      installed_rises = installed_rises;
      are_needed = least_of (starts c.bound c.asked) (leads c) c.needed (subst P (sym reaches.whole) (law.rising fresh)) ends;
      waits = λ name. awaits name ∙ by name (bound_to c.bound name) refl;
      are_read = λ member at. absurd (let Q : List Member → Type 0 = λ xs. Contains xs member in none_in member (subst Q no_known at));
      differ = let Q : List Member → Type 0 = λ xs. IsDistinct bytes_eq (map member_name xs) in subst Q (sym no_known) (none_differ bytes_eq);
      are_unknown = λ pkg at. absurd (let Q : List Pkg → Type 0 = λ xs. Contains xs pkg in none_in pkg (subst Q no_unknown at));
      counted = counted;
    }
  where
    needed_fresh : (name : List ℕ) → is_among c.needed name ≡ is_among fresh name
    needed_fresh name = ap (λ xs. is_among xs name) reaches.whole ∙ among_all [] fresh name

    by : (name : List ℕ) (b : Option Pkg) → bound_to c.bound name ≡ b → (false || (is_among fresh name && is_open c.bound c.installed name)) ≡ is_awaited_at c b
    by name None is = ap (λ b. is_among fresh name && unread_at b) is ∙ and_none (is_among fresh name)
      where
        unread_at : Option Pkg → Bool
        unread_at None = false
        unread_at (Some pkg) = is_none (stored_in c.installed pkg)
    by name (Some pkg) is =
        ap (λ b. is_among fresh name && unread_at b) is
        ∙ ap (λ b. b && is_none (stored_in c.installed pkg)) (sym (needed_fresh name) ∙ ap (is_among c.needed) (sym (bound_named c.bound name pkg is)))
        ∙ sym (and_rest (is_among c.needed pkg.name) (is_none (stored_in c.installed pkg)))
        ∙ ap (λ b. ((is_among c.needed pkg.name && is_none (stored_in c.installed pkg)) && not b) && true) (sym (ap (λ xs. has_member xs pkg.name) no_known))
        ∙ ap (λ b. ((is_among c.needed pkg.name && is_none (stored_in c.installed pkg)) && not (has_member c.known pkg.name)) && not b) (sym (ap (λ xs. has_pkg xs pkg.name) no_unknown))
      where
        unread_at : Option Pkg → Bool
        unread_at None = false
        unread_at (Some pkg) = is_none (stored_in c.installed pkg)

-- ---- the package that is asked for

and_first : (a b : Bool) → (a && b) ≡ true → a ≡ true
and_first true b is = refl
and_first false b is = is

and_second : (a b : Bool) → (a && b) ≡ true → b ≡ true
and_second true b is = is
and_second false b is = absurd cc

off : (b : Bool) → not b ≡ true → b ≡ false
off true is = sym is
off false is = refl

is_absent : {X : Type 0} (r : Option X) → is_none r ≡ true → r ≡ None
is_absent None is = refl
is_absent (Some x) is = absurd (let e : false ≡ true = is in cc)

record Asks (c : Chased) (pkg : Pkg) : Type 0 where
  at : Contains c.bound pkg
  needed : is_among c.needed pkg.name ≡ true
  uninstalled : stored_in c.installed pkg ≡ None
  unknown : has_member c.known pkg.name ≡ false
  unasked : has_pkg c.unknown pkg.name ≡ false
  found : bound_to c.bound pkg.name ≡ Some pkg

asks : (c : Chased) (pkg : Pkg) → Rises c.bound → next_of c ≡ Some pkg → Asks c pkg
asks c pkg rises is =
    let both = found_in (is_awaited c) c.bound pkg is in
    let three = and_first ((is_among c.needed pkg.name && is_none (stored_in c.installed pkg)) && not (has_member c.known pkg.name)) (not (has_pkg c.unknown pkg.name)) both.1 in
    let two = and_first (is_among c.needed pkg.name && is_none (stored_in c.installed pkg)) (not (has_member c.known pkg.name)) three in
    record {
      at = both.0;
      needed = and_first (is_among c.needed pkg.name) (is_none (stored_in c.installed pkg)) two;
      uninstalled = is_absent (stored_in c.installed pkg) (and_second (is_among c.needed pkg.name) (is_none (stored_in c.installed pkg)) two);
      unknown = off (has_member c.known pkg.name) (and_second (is_among c.needed pkg.name && is_none (stored_in c.installed pkg)) (not (has_member c.known pkg.name)) three);
      unasked = off (has_pkg c.unknown pkg.name) (and_second ((is_among c.needed pkg.name && is_none (stored_in c.installed pkg)) && not (has_member c.known pkg.name)) (not (has_pkg c.unknown pkg.name)) both.1);
      found = rises_found pkg_name c.bound rises pkg both.0;
    }

-- the least of those that wait is the next
pub next_none : (c : Chased) (waiting : List (List ℕ)) (count : ℕ) → Stands c waiting count → waiting ≡ [] → None ≡ next_of c
next_none c waiting count h none =
    sym (find_missing (is_awaited c) c.bound (λ pkg at.
    ap (is_awaited_at c) (sym (rises_found pkg_name c.bound h.bound_rises pkg at)) ∙ sym (h.waits pkg.name) ∙ ap (λ xs. is_among xs pkg.name) none))

pub next_some : (c : Chased) (waiting : List (List ℕ)) (count : ℕ) (name : List ℕ) → Stands c waiting count → is_among waiting name ≡ true
    → ((other : List ℕ) → is_among waiting other ≡ true → is_gt (byte_order name other) ≡ false) → bound_to c.bound name ≡ next_of c
next_some c waiting count name h there least = by (bound_to c.bound name) refl
  where
    by : (b : Option Pkg) → bound_to c.bound name ≡ b → b ≡ next_of c
    by None is = let e : true ≡ false = sym there ∙ h.waits name ∙ ap (is_awaited_at c) is in absurd cc
    by (Some pkg) is =
        let at = (found_in (has_key pkg_name name) c.bound pkg is).0 in
        let named = bound_named c.bound name pkg is in
        sym (least_found pkg_name (is_awaited c) c.bound h.bound_rises pkg at (ap (is_awaited_at c) (sym is) ∙ sym (h.waits name) ∙ there) (λ other at_other passes.
        let P : List ℕ → Type 0 = λ n. is_gt (byte_order n other.name) ≡ false in
        subst P (sym named) (least other.name (h.waits other.name ∙ ap (is_awaited_at c) (rises_found pkg_name c.bound h.bound_rises other at_other) ∙ passes))))

-- ---- an answer that there is none

-- those that wait without the one that was read
waits_less : (k s n u q : Bool) → ((((k && s) && not n) && not u) && not q) ≡ (((k && s) && not n) && not (u || q))
waits_less k s n true q = and_off ((k && s) && not n) q
  where
    and_off : (a q : Bool) → ((a && false) && not q) ≡ (a && false)
    and_off true q = refl
    and_off false q = refl
waits_less k s n false q = and_on ((k && s) && not n) q
  where
    and_on : (a q : Bool) → ((a && true) && not q) ≡ (a && not q)
    and_on true q = refl
    and_on false q = refl

pub stands_unknown : (c d : Chased) (pkg : Pkg) (waiting less : List (List ℕ)) (count : ℕ) → Stands c waiting count → next_of c ≡ Some pkg
    → d ≡ record { installed = c.installed; bound = c.bound; asked = c.asked; known = c.known; unknown = c.unknown ++ pkg ∷ []; needed = c.needed }
    → ((name : List ℕ) → is_among less name ≡ (is_among waiting name && not (bytes_eq name pkg.name))) → Stands d less count
stands_unknown c d pkg waiting less count h next is taken =
    let P : Chased → Type 0 = λ e. Stands e less count in
    let ask = asks c pkg h.bound_rises next in
    subst P (sym is) (record {
      bound_rises = h.bound_rises;
      installed_rises = h.installed_rises;
      are_needed = h.are_needed;
      waits = λ name. taken name ∙ ap (λ b. b && not (bytes_eq name pkg.name)) (h.waits name) ∙ by name (bound_to c.bound name) refl;
      are_read = λ member at. let r = h.are_read member at in record { needed = r.needed; bound = r.bound; uninstalled = r.uninstalled };
      differ = h.differ;
      are_unknown = λ other at.
          ⊎_elim (λ was. h.are_unknown other was) (λ same. let Q : Pkg → Type 0 = λ p. is_among c.needed p.name ≡ true in subst Q same ask.needed)
          (Contains-push_cases c.unknown pkg other at);
      counted = h.counted;
    })
  where
    by : (name : List ℕ) (b : Option Pkg) → bound_to c.bound name ≡ b → (is_awaited_at c b && not (bytes_eq name pkg.name))
        ≡ is_awaited_at (record { installed = c.installed; bound = c.bound; asked = c.asked; known = c.known; unknown = c.unknown ++ pkg ∷ []; needed = c.needed }) b
    by name None so = refl
    by name (Some other) so =
        waits_less (is_among c.needed other.name) (is_none (stored_in c.installed other)) (has_member c.known other.name) (has_pkg c.unknown other.name) (bytes_eq name pkg.name)
        ∙ ap (λ b. ((is_among c.needed other.name && is_none (stored_in c.installed other)) && not (has_member c.known other.name)) && not b)
        (ap (λ b. has_pkg c.unknown other.name || b) (turned name pkg.name ∙ ap (bytes_eq pkg.name) (sym (bound_named c.bound name other so)) ∙ sym (or_end (bytes_eq pkg.name other.name)))
        ∙ sym (any_joined (has_key pkg_name other.name) c.unknown (pkg ∷ [])))

-- ---- an answer with a member

waits_more : (k f s n u q : Bool) → (f ≡ true → (k ≡ false) × (n ≡ false) × (u ≡ false))
    → ((((((k && s) && not n) && not u) || (f && s)) && not q) ≡ ((((k || f) && s) && not (n || q)) && not u))
waits_more k false s n u q new = with_none k s n u q
  where
    with_none : (k s n u q : Bool) → ((((((k && s) && not n) && not u) || false) && not q) ≡ ((((k || false) && s) && not (n || q)) && not u))
    with_none false s n u q = refl
    with_none true false n u q = refl
    with_none true true true u q = refl
    with_none true true false true true = refl
    with_none true true false true false = refl
    with_none true true false false true = refl
    with_none true true false false false = refl
waits_more k true s n u q new = with_new k n u (new refl).0 (new refl).1 (new refl).2 s q
  where
    with_new : (k n u : Bool) → k ≡ false → n ≡ false → u ≡ false → (s q : Bool)
        → ((((((k && s) && not n) && not u) || s) && not q) ≡ ((((k || true) && s) && not (n || q)) && not u))
    with_new true n u a b c s q = absurd cc
    with_new false true u a b c s q = absurd cc
    with_new false false true a b c s q = absurd cc
    with_new false false false a b c true true = refl
    with_new false false false a b c true false = refl
    with_new false false false a b c false q = refl

all_pushed : {X : Type 0} (key : X → List ℕ) (P : List ℕ → Type 0) (xs : List X) (m : X) → AllByRecursion P (map key xs) → P (key m) → AllByRecursion P (map key (xs ++ m ∷ []))
all_pushed key P [] m all one = (one, tt)
all_pushed key P (x ∷ xs) m all one = (all.0, all_pushed key P xs m all.1 one)

pub differ_pushed : {X : Type 0} (key : X → List ℕ) (xs : List X) (m : X) → IsDistinct bytes_eq (map key xs) → ((x : X) → Contains xs x → bytes_eq (key x) (key m) ≡ false)
    → IsDistinct bytes_eq (map key (xs ++ m ∷ []))
unfolding IsDistinct
differ_pushed key [] m differ apart = (tt, tt)
differ_pushed key (x ∷ xs) m differ apart =
    (all_pushed key (λ y. bytes_eq (key x) y ≡ false) xs m differ.0 (apart x (first_in x xs)), differ_pushed key xs m differ.1 (λ y at. apart y (later_in x xs y at)))

capped : (a b m : ℕ) → min (min a m + b) m ≡ min (a + b) m
capped a b m = grind arith

module _ (law : TextsRise) (members : Members) (c : Chased) (member : Member) (waiting more less names needed fresh : List (List ℕ)) (count now_count : ℕ)
    (h : Stands c waiting count) (next : next_of c ≡ Some member.package.pkg) (names_are : names ≡ bound_among c.bound (full_names member.package))
    (reaches : Reaches names (led_to c.bound c.installed) c.needed needed fresh) (awaits : Awaits (is_open c.bound c.installed) fresh waiting more)
    (taken : (name : List ℕ) → is_among less name ≡ (is_among more name && not (bytes_eq name (member_name member))))
    (counts : now_count ≡ min (count + length (filter (is_uninstalled c.installed) fresh)) (2 ^ 32 - 1)) where
  abbrev d : Chased
  d = record { installed = c.installed; bound = c.bound; asked = c.asked; known = c.known ++ member ∷ []; unknown = c.unknown; needed = needed }

  abbrev named : List ℕ
  named = member_name member

  ask : Asks c member.package.pkg
  ask = asks c member.package.pkg h.bound_rises next

  grown : (name : List ℕ) → is_among needed name ≡ (is_among c.needed name || is_among fresh name)
  grown name = ap (λ xs. is_among xs name) reaches.whole ∙ among_all c.needed fresh name

  -- what is new was neither needed nor read
  not_needed : (name : List ℕ) → is_among fresh name ≡ true → is_among c.needed name ≡ false
  not_needed name is = none_of_new c.needed fresh name reaches.new is

  clash : (name other : List ℕ) → is_among c.needed other ≡ true → is_among c.needed name ≡ false → bytes_eq other name ≡ false
  clash name other is not_so = by (bytes_eq other name) refl
    where
      by : (b : Bool) → bytes_eq other name ≡ b → b ≡ false
      by true same = let e : true ≡ false = sym is ∙ ap (is_among c.needed) (is_same other name same) ∙ not_so in absurd cc
      by false same = refl

  not_known : (name : List ℕ) → is_among c.needed name ≡ false → has_member c.known name ≡ false
  not_known name is = any_none (has_key member_name name) c.known (λ m at. clash name (member_name m) (h.are_read m at).needed is)

  not_unknown : (name : List ℕ) → is_among c.needed name ≡ false → has_pkg c.unknown name ≡ false
  not_unknown name is = any_none (has_key pkg_name name) c.unknown (λ p at. clash name p.name (h.are_unknown p at) is)

  -- where names lead now
  unread : (name : List ℕ) → is_among c.needed name ≡ false → find (has_key member_name name) d.known ≡ None
  unread name is =
      find_missing (has_key member_name name) (c.known ++ member ∷ []) (λ m at.
      ⊎_elim (λ was. clash name (member_name m) (h.are_read m was).needed is)
      (λ same. let P : Member → Type 0 = λ x. bytes_eq (member_name x) name ≡ false in subst P same (clash name named ask.needed is))
      (Contains-push_cases c.known member m at))

  new_leads : (name : List ℕ) → is_among fresh name ≡ true → leads d name ≡ led_to c.bound c.installed name
  new_leads name is = leads_held d name (unread name (not_needed name is))

  other_leads : (name : List ℕ) → bytes_eq named name ≡ false → leads d name ≡ leads c name
  other_leads name apart = ap (bound_among c.bound) (by (bound_to c.bound name) refl)
    where
      by : (b : Option Pkg) → bound_to c.bound name ≡ b → formula_names d b ≡ formula_names c b
      by None is = refl
      by (Some pkg) is =
          ap (λ r. names_held (stored_in c.installed pkg) ++ names_given r)
          (find_pushed (has_key member_name pkg.name) c.known member (ap (bytes_eq named) (bound_named c.bound name pkg is) ∙ apart))

  here_leads : leads d named ≡ names
  here_leads =
      ap (λ b. bound_among c.bound (formula_names d b)) ask.found
      ∙ ap (λ r. bound_among c.bound (names_held r ++ names_given (find (has_key member_name named) (c.known ++ member ∷ [])))) ask.uninstalled
      ∙ ap (λ r. bound_among c.bound (names_given r)) (find_last (has_key member_name named) c.known member ask.unknown (same_name named))
      ∙ sym names_are

  here_led : leads c named ≡ []
  here_led =
      ap (λ b. bound_among c.bound (formula_names c b)) ask.found
      ∙ ap (λ r. bound_among c.bound (names_held r ++ names_given (find (has_key member_name named) c.known))) ask.uninstalled
      ∙ ap (λ r. bound_among c.bound (names_given r)) (find_missing (has_key member_name named) c.known (λ m at. none_any (has_key member_name named) c.known m ask.unknown at))

  begins : Begins (starts c.bound c.asked) (leads d) c.needed names
  begins = record {
    begun = λ name at. inl (h.are_needed.closed.begun name at);
    led = λ name to at there. by name to (bytes_eq named name) refl at there;
    sound = λ others closed name at.
        let old : IsClosed (starts c.bound c.asked) (leads c) others = record {
          begun = closed.begun;
          led = λ from to at_from there. before others closed from to (bytes_eq named from) refl at_from there;
        } in
        ⊎_elim (λ was. h.are_needed.least others old name was)
        (λ came.
        let P : List (List ℕ) → Type 0 = λ xs. Contains xs name in
        closed.led named name (h.are_needed.least others old named (among_in c.needed named ask.needed)) (subst P (sym here_leads) came))
        at;
  }
    where
      by : (name to : List ℕ) (b : Bool) → bytes_eq named name ≡ b → Contains c.needed name → Contains (leads d name) to → Contains c.needed to ⊎ Contains names to
      by name to true same at there =
          let P : List (List ℕ) → Type 0 = λ xs. Contains xs to in inr (subst P (ap (leads d) (sym (is_same named name same)) ∙ here_leads) there)
      by name to false apart at there =
          let P : List (List ℕ) → Type 0 = λ xs. Contains xs to in inl (h.are_needed.closed.led name to at (subst P (other_leads name apart) there))

      before : (others : List (List ℕ)) → IsClosed (starts c.bound c.asked) (leads d) others → (from to : List ℕ) (b : Bool) → bytes_eq named from ≡ b
          → Contains others from → Contains (leads c from) to → Contains others to
      before others closed from to true same at there =
          let P : List (List ℕ) → Type 0 = λ xs. Contains xs to in absurd (none_in to (subst P (ap (leads c) (sym (is_same named from same)) ∙ here_led) there))
      before others closed from to false apart at there =
          let P : List (List ℕ) → Type 0 = λ xs. Contains xs to in closed.led from to at (subst P (sym (other_leads from apart)) there)

  now_needed : IsNeeded d
  now_needed =
      least_of (starts c.bound c.asked) (leads d) needed (rising_more law members c.needed fresh needed h.are_needed.rises reaches.whole)
      (reaches.ends (starts c.bound c.asked) (leads d) new_leads begins)

  -- which of them wait
  now_waits : (name : List ℕ) → is_among less name ≡ is_awaited_at d (bound_to c.bound name)
  now_waits name =
      taken name ∙ ap (λ b. b && not (bytes_eq name named)) (awaits name ∙ ap (λ b. b || (is_among fresh name && is_open c.bound c.installed name)) (h.waits name))
      ∙ by (bound_to c.bound name) refl
    where
      unread_at : Option Pkg → Bool
      unread_at None = false
      unread_at (Some pkg) = is_none (stored_in c.installed pkg)

      off_none : (f q : Bool) → ((false || (f && false)) && q) ≡ false
      off_none true q = refl
      off_none false q = refl

      by : (b : Option Pkg) → bound_to c.bound name ≡ b
          → ((is_awaited_at c b || (is_among fresh name && is_open c.bound c.installed name)) && not (bytes_eq name named)) ≡ is_awaited_at d b
      by None is =
          ap (λ r. (false || (is_among fresh name && unread_at r)) && not (bytes_eq name named)) is ∙ off_none (is_among fresh name) (not (bytes_eq name named))
      by (Some pkg) is =
          let same = bound_named c.bound name pkg is in
          ap (λ r. (is_awaited c pkg || (is_among fresh name && unread_at r)) && not (bytes_eq name named)) is
          ∙ ap (λ n. (is_awaited c pkg || (is_among fresh n && is_none (stored_in c.installed pkg))) && not (bytes_eq n named)) (sym same)
          ∙ waits_more (is_among c.needed pkg.name) (is_among fresh pkg.name) (is_none (stored_in c.installed pkg)) (has_member c.known pkg.name) (has_pkg c.unknown pkg.name) (bytes_eq pkg.name named)
          (λ new. (not_needed pkg.name new, not_known pkg.name (not_needed pkg.name new), not_unknown pkg.name (not_needed pkg.name new)))
          ∙ ap (λ b. (((b && is_none (stored_in c.installed pkg)) && not (has_member c.known pkg.name || bytes_eq pkg.name named)) && not (has_pkg c.unknown pkg.name))) (sym (grown pkg.name))
          ∙ ap (λ b. (((is_among needed pkg.name && is_none (stored_in c.installed pkg)) && not b) && not (has_pkg c.unknown pkg.name)))
          (ap (λ b. has_member c.known pkg.name || b) (turned pkg.name named ∙ sym (or_end (bytes_eq named pkg.name))) ∙ sym (any_joined (has_key member_name pkg.name) c.known (member ∷ [])))

  still : (name : List ℕ) → is_among c.needed name ≡ true → is_among needed name ≡ true
  still name is = grown name ∙ or_left (is_among c.needed name) (is_among fresh name) is

  now_counted : now_count ≡ count_of d
  now_counted =
      counts ∙ ap (λ n. min (n + length (filter (is_uninstalled c.installed) fresh)) (2 ^ 32 - 1)) h.counted
      ∙ capped (length (each_once (held ++ c.needed))) (length (filter (is_uninstalled c.installed) fresh)) (2 ^ 32 - 1)
      ∙ ap (λ n. min n (2 ^ 32 - 1))
      (sym (once_longer law members (is_uninstalled c.installed) c.needed (held ++ c.needed) fresh reaches.new there)
      ∙ ap length (once_same law members ((held ++ c.needed) ++ fresh) (held ++ needed) same))
    where
      held : List (List ℕ)
      held = map held_name c.installed

      no_not : (b : Bool) → b ≡ not (not b)
      no_not true = refl
      no_not false = refl

      or_over : (a b c : Bool) → ((a || b) || c) ≡ (a || (b || c))
      or_over true b c = refl
      or_over false b c = refl

      held_named : (xs : List Held) (name : List ℕ) → is_among (map held_name xs) name ≡ list_any (has_key held_name name) xs
      held_named [] name = refl
      held_named (x ∷ xs) name = ap (λ b. b || is_among (map held_name xs) name) (turned name x.pkg.name) ∙ ap (λ b. bytes_eq x.pkg.name name || b) (held_named xs name)

      there : (name : List ℕ) → is_among fresh name ≡ true → is_among (held ++ c.needed) name ≡ not (is_uninstalled c.installed name)
      there name is =
          among_joined held c.needed name ∙ ap (λ b. is_among held name || b) (not_needed name is) ∙ or_end (is_among held name) ∙ held_named c.installed name
          ∙ no_not (list_any (has_key held_name name) c.installed)

      same : (name : List ℕ) → is_among ((held ++ c.needed) ++ fresh) name ≡ is_among (held ++ needed) name
      same name =
          among_joined (held ++ c.needed) fresh name ∙ ap (λ b. b || is_among fresh name) (among_joined held c.needed name)
          ∙ or_over (is_among held name) (is_among c.needed name) (is_among fresh name) ∙ ap (λ b. is_among held name || b) (sym (grown name))
          ∙ sym (among_joined held needed name)

  pub stands_known : Stands (record { installed = c.installed; bound = c.bound; asked = c.asked; known = c.known ++ member ∷ []; unknown = c.unknown; needed = needed }) less now_count
  stands_known = record {
    bound_rises = h.bound_rises;
    installed_rises = h.installed_rises;
    are_needed = now_needed;
    waits = now_waits;
    are_read = λ m at.
        ⊎_elim (λ was. let r = h.are_read m was in record { needed = still (member_name m) r.needed; bound = r.bound; uninstalled = r.uninstalled })
        (λ same. let P : Member → Type 0 = IsRead d in subst P same (record { needed = still named ask.needed; bound = ask.found; uninstalled = ask.uninstalled }))
        (Contains-push_cases c.known member m at);
    differ = differ_pushed member_name c.known member h.differ (λ m at. none_any (has_key member_name named) c.known m ask.unknown at);
    are_unknown = λ pkg at. still pkg.name (h.are_unknown pkg at);
    counted = now_counted;
  }

-- the count at the beginning
pub counted_first : TextsRise → Members → (held : List Held) (needed fresh : List (List ℕ)) (count : ℕ) → RisesBy held_name held → AreNew [] fresh → needed ≡ fold with_name [] fresh
    → count ≡ min (min (length held) (2 ^ 32 - 1) + length (filter (is_uninstalled held) fresh)) (2 ^ 32 - 1)
    → count ≡ min (length (each_once (map held_name held ++ needed))) (2 ^ 32 - 1)
counted_first law members held needed fresh count rises new whole is =
    is ∙ capped (length held) (length (filter (is_uninstalled held) fresh)) (2 ^ 32 - 1)
    ∙ ap (λ n. min (n + length (filter (is_uninstalled held) fresh)) (2 ^ 32 - 1)) (sym (ap length (once_rising law members (map held_name held) up) ∙ as_many held))
    ∙ ap (λ n. min n (2 ^ 32 - 1))
    (sym (once_longer law members (is_uninstalled held) [] (map held_name held) fresh new there) ∙ ap length (once_same law members (map held_name held ++ fresh) (map held_name held ++ needed) same))
  where
    map_same : (xs : List (List ℕ)) → map (λ name. name) xs ≡ xs
    map_same [] = refl
    map_same (x ∷ xs) = ap (λ ys. x ∷ ys) (map_same xs)

    up : RisesBy (λ name. name) (map held_name held)
    up = let P : List (List ℕ) → Type 0 = λ xs. IsStrictlySortedBy byte_order xs in subst P (sym (map_same (map held_name held))) rises

    as_many : (xs : List Held) → length (map held_name xs) ≡ length xs
    as_many [] = refl
    as_many (x ∷ xs) = ap suc (as_many xs)

    no_not : (b : Bool) → b ≡ not (not b)
    no_not true = refl
    no_not false = refl

    held_named : (xs : List Held) (name : List ℕ) → is_among (map held_name xs) name ≡ list_any (has_key held_name name) xs
    held_named [] name = refl
    held_named (x ∷ xs) name = ap (λ b. b || is_among (map held_name xs) name) (turned name x.pkg.name) ∙ ap (λ b. bytes_eq x.pkg.name name || b) (held_named xs name)

    there : (name : List ℕ) → is_among fresh name ≡ true → is_among (map held_name held) name ≡ not (is_uninstalled held name)
    there name is = held_named held name ∙ no_not (list_any (has_key held_name name) held)

    same : (name : List ℕ) → is_among (map held_name held ++ fresh) name ≡ is_among (map held_name held ++ needed) name
    same name =
        among_joined (map held_name held) fresh name ∙ ap (λ b. is_among (map held_name held) name || b) (sym (ap (λ xs. is_among xs name) whole ∙ among_all [] fresh name))
        ∙ sym (among_joined (map held_name held) needed name)

-- the beginning, as it is found
pub stands_begun : TextsRise → Members → (bound : List Pkg) (held : List Held) (asked first before waited needed waiting fresh counted : List (List ℕ)) (small count : ℕ) → Rises bound → RisesBy held_name held
    → first ≡ starts bound asked → before ≡ [] → waited ≡ [] → Reaches first (led_to bound held) before needed fresh → Awaits (is_open bound held) fresh waited waiting
    → small ≡ min (length held) (2 ^ 32 - 1) → count ≡ min (small + length (filter (is_uninstalled held) counted)) (2 ^ 32 - 1) → counted ≡ fresh
    → Stands (record { installed = held; bound = bound; asked = asked; known = []; unknown = []; needed = needed }) waiting count
stands_begun law members bound held asked first before waited needed waiting fresh counted small count bound_rises held_rises first_is none none_waited reaches awaits small_is count_is counted_is =
    let P : List (List ℕ) → Type 0 = λ xs. Reaches first (led_to bound held) xs needed fresh in
    let Q : List (List ℕ) → Type 0 = λ xs. Awaits (is_open bound held) fresh xs waiting in
    let r = subst P none reaches in
    stands_first law (record { installed = held; bound = bound; asked = asked; known = []; unknown = []; needed = needed }) waiting first fresh small count bound_rises held_rises refl refl first_is
    r (subst Q none_waited awaits)
    (counted_first law members held needed fresh count held_rises r.new r.whole
    (count_is ∙ ap (λ n. min (n + length (filter (is_uninstalled held) counted)) (2 ^ 32 - 1)) small_is
    ∙ ap (λ xs. min (min (length held) (2 ^ 32 - 1) + length (filter (is_uninstalled held) xs)) (2 ^ 32 - 1)) counted_is))

-- where memory was refused
pub stands_same : (c : Chased) (waiting again needed : List (List ℕ)) (known : List Member) (unknown : List Pkg) (count : ℕ) → Stands c waiting count → needed ≡ c.needed → known ≡ c.known → unknown ≡ c.unknown
    → ((name : List ℕ) → is_among again name ≡ is_among waiting name)
    → Stands (record { installed = c.installed; bound = c.bound; asked = c.asked; known = known; unknown = unknown; needed = needed }) again count
stands_same c waiting again needed known unknown count h needed_is known_is unknown_is same =
    let P : List (List ℕ) → Type 0 = λ xs. Stands (record { installed = c.installed; bound = c.bound; asked = c.asked; known = known; unknown = unknown; needed = xs }) again count in
    let Q : List Member → Type 0 = λ xs. Stands (record { installed = c.installed; bound = c.bound; asked = c.asked; known = xs; unknown = unknown; needed = c.needed }) again count in
    let R : List Pkg → Type 0 = λ xs. Stands (record { installed = c.installed; bound = c.bound; asked = c.asked; known = c.known; unknown = xs; needed = c.needed }) again count in
    subst P (sym needed_is) (subst Q (sym known_is) (subst R (sym unknown_is) (record {
      bound_rises = h.bound_rises;
      installed_rises = h.installed_rises;
      are_needed = h.are_needed;
      waits = λ name. same name ∙ h.waits name;
      are_read = λ member at. let r = h.are_read member at in record { needed = r.needed; bound = r.bound; uninstalled = r.uninstalled };
      differ = h.differ;
      are_unknown = h.are_unknown;
      counted = h.counted;
    })))

pub none_within : (waiting needed : List (List ℕ)) → waiting ≡ [] → (name : List ℕ) → is_among waiting name ≡ true → is_among needed name ≡ true
none_within waiting needed none name there = absurd (let e : false ≡ true = sym (ap (λ xs. is_among xs name) none) ∙ there in cc)

-- those that wait are needed
pub waits_within : (c : Chased) (waiting : List (List ℕ)) (count : ℕ) → Stands c waiting count → (name : List ℕ) → is_among waiting name ≡ true → is_among c.needed name ≡ true
waits_within c waiting count h name there = by (bound_to c.bound name) refl
  where
    by : (b : Option Pkg) → bound_to c.bound name ≡ b → is_among c.needed name ≡ true
    by None is = absurd (let e : true ≡ false = sym there ∙ h.waits name ∙ ap (is_awaited_at c) is in cc)
    by (Some pkg) is =
        let passes : is_awaited c pkg ≡ true = ap (is_awaited_at c) (sym is) ∙ sym (h.waits name) ∙ there in
        let three = and_first ((is_among c.needed pkg.name && is_none (stored_in c.installed pkg)) && not (has_member c.known pkg.name)) (not (has_pkg c.unknown pkg.name)) passes in
        let two = and_first (is_among c.needed pkg.name && is_none (stored_in c.installed pkg)) (not (has_member c.known pkg.name)) three in
        ap (is_among c.needed) (sym (bound_named c.bound name pkg is)) ∙ and_first (is_among c.needed pkg.name) (is_none (stored_in c.installed pkg)) two

-- ---- as the functions have it

pub falls_never : {X : Type 0} (key : X → List ℕ) (xs ys : List X) → xs ≡ ys → RisesBy key ys → NeverFallsBy key xs
falls_never {X} key xs ys same rises = let P : List X → Type 0 = λ zs. NeverFallsBy key zs in subst P (sym same) (NeverFallsBy-from_rises key ys rises)

pub begun_with : (installed held : List Held) (bound pkgs : List Pkg) (asked names needed waiting : List (List ℕ)) (known : List Member) (unknown : List Pkg) (count : ℕ)
    → held ≡ installed → pkgs ≡ bound → names ≡ asked → known ≡ [] → unknown ≡ []
    → Stands (record { installed = held; bound = pkgs; asked = names; known = []; unknown = []; needed = needed }) waiting count
    → Stands (record { installed = installed; bound = bound; asked = asked; known = known; unknown = unknown; needed = needed }) waiting count
begun_with installed held bound pkgs asked names needed waiting known unknown count held_is pkgs_are names_are known_none unknown_none h =
    let H : List Held → Type 0 = λ xs. Stands (record { installed = xs; bound = bound; asked = asked; known = known; unknown = unknown; needed = needed }) waiting count in
    let B : List Pkg → Type 0 = λ xs. Stands (record { installed = held; bound = xs; asked = asked; known = known; unknown = unknown; needed = needed }) waiting count in
    let A : List (List ℕ) → Type 0 = λ xs. Stands (record { installed = held; bound = pkgs; asked = xs; known = known; unknown = unknown; needed = needed }) waiting count in
    let K : List Member → Type 0 = λ xs. Stands (record { installed = held; bound = pkgs; asked = names; known = xs; unknown = unknown; needed = needed }) waiting count in
    let U : List Pkg → Type 0 = λ xs. Stands (record { installed = held; bound = pkgs; asked = names; known = []; unknown = xs; needed = needed }) waiting count in
    subst H held_is (subst B pkgs_are (subst A names_are (subst K (sym known_none) (subst U (sym unknown_none) h))))

pub stands_again : (c : Chased) (waiting again needed : List (List ℕ)) (known : List Member) (unknown : List Pkg) (count now_count : ℕ) → Stands c waiting count → needed ≡ c.needed → known ≡ c.known → unknown ≡ c.unknown
    → now_count ≡ count → ((name : List ℕ) → is_among again name ≡ is_among waiting name)
    → Stands (record { installed = c.installed; bound = c.bound; asked = c.asked; known = known; unknown = unknown; needed = needed }) again now_count
stands_again c waiting again needed known unknown count now_count h needed_is known_is unknown_is count_is same =
    let P : ℕ → Type 0 = λ n. Stands (record { installed = c.installed; bound = c.bound; asked = c.asked; known = known; unknown = unknown; needed = needed }) again n in
    subst P (sym count_is) (stands_same c waiting again needed known unknown count h needed_is known_is unknown_is same)

pub taken_so : (less more : List (List ℕ)) (name whole : List ℕ) → name ≡ whole → ((other : List ℕ) → is_among less other ≡ without more (name ∷ []) other)
    → (other : List ℕ) → is_among less other ≡ (is_among more other && not (bytes_eq other whole))
taken_so less more name whole same taken other =
    taken other ∙ ap (λ b. is_among more other && not b) (or_end (bytes_eq other name)) ∙ ap (λ n. is_among more other && not (bytes_eq other n)) same

pub stands_taken : TextsRise → Members → (c : Chased) (member : Member) (waiting more less names needed fresh counted : List (List ℕ)) (held : List Held) (name : List ℕ) (count before now_count : ℕ) (known : List Member) (unknown : List Pkg)
    → Stands c waiting count → next_of c ≡ Some member.package.pkg → names ≡ bound_among c.bound (full_names member.package)
    → Reaches names (led_to c.bound c.installed) c.needed needed fresh → Awaits (is_open c.bound c.installed) fresh waiting more
    → name ≡ member_name member → ((other : List ℕ) → is_among less other ≡ without more (name ∷ []) other)
    → before ≡ count → held ≡ c.installed → counted ≡ fresh
    → now_count ≡ min (before + length (filter (is_uninstalled held) counted)) (2 ^ 32 - 1)
    → known ≡ c.known ++ member ∷ [] → unknown ≡ c.unknown
    → Stands (record { installed = c.installed; bound = c.bound; asked = c.asked; known = known; unknown = unknown; needed = needed }) less now_count
stands_taken law members c member waiting more less names needed fresh counted held name count before now_count known unknown h next names_are reaches awaits name_is taken before_is held_is counted_is counts known_is unknown_is =
    let K : List Member → Type 0 = λ xs. Stands (record { installed = c.installed; bound = c.bound; asked = c.asked; known = xs; unknown = unknown; needed = needed }) less now_count in
    let U : List Pkg → Type 0 = λ xs. Stands (record { installed = c.installed; bound = c.bound; asked = c.asked; known = c.known ++ member ∷ []; unknown = xs; needed = needed }) less now_count in
    subst K (sym known_is) (subst U (sym unknown_is)
    (stands_known law members c member waiting more less names needed fresh count now_count h next names_are reaches awaits (taken_so less more name (member_name member) name_is taken)
    (counts ∙ ap (λ n. min (n + length (filter (is_uninstalled held) counted)) (2 ^ 32 - 1)) before_is
    ∙ ap (λ xs. min (count + length (filter (is_uninstalled xs) counted)) (2 ^ 32 - 1)) held_is
    ∙ ap (λ xs. min (count + length (filter (is_uninstalled c.installed) xs)) (2 ^ 32 - 1)) counted_is)))

pub given_known : (c : Chased) (member : Member) (known : List Member) (unknown : List Pkg) (needed : List (List ℕ)) → next_of c ≡ Some member.package.pkg
    → known ≡ c.known ++ member ∷ [] → unknown ≡ c.unknown
    → IsNeeded (record { installed = c.installed; bound = c.bound; asked = c.asked; known = known; unknown = unknown; needed = needed })
    → IsGiven c (Known member) (record { installed = c.installed; bound = c.bound; asked = c.asked; known = known; unknown = unknown; needed = needed })
given_known c member known unknown needed next known_is unknown_is h = record {
  same_installed = refl;
  same_bound = refl;
  same_asked = refl;
  now_known = known_is;
  now_unknown = unknown_is ∙ sym (none_after c.unknown) ∙ ap (λ r. c.unknown ++ unknown_in r (Known member)) (sym next);
  now_needed = h;
}

pub given_unknown : (c : Chased) (pkg : Pkg) (unknown : List Pkg) → next_of c ≡ Some pkg → unknown ≡ c.unknown ++ pkg ∷ []
    → IsNeeded (record { installed = c.installed; bound = c.bound; asked = c.asked; known = c.known; unknown = unknown; needed = c.needed })
    → IsGiven c Unknown (record { installed = c.installed; bound = c.bound; asked = c.asked; known = c.known; unknown = unknown; needed = c.needed })
given_unknown c pkg unknown next unknown_is h = record {
  same_installed = refl;
  same_bound = refl;
  same_asked = refl;
  now_known = sym (none_after c.known);
  now_unknown = unknown_is ∙ ap (λ r. c.unknown ++ unknown_in r Unknown) (sym next);
  now_needed = h;
}

pub rises_at : {X : Type 0} (key : X → List ℕ) (xs ys : List X) → xs ≡ ys → RisesBy key ys → RisesBy key xs
rises_at {X} key xs ys same rises = let P : List X → Type 0 = λ zs. RisesBy key zs in subst P (sym same) rises

-- ---- the members that an install leads to have different names

all_joined : {X : Type 0} (key : X → List ℕ) (P : List ℕ → Type 0) (xs ys : List X) → AllByRecursion P (map key xs) → ((y : X) → Contains ys y → P (key y)) → AllByRecursion P (map key (xs ++ ys))
all_joined key P [] [] all each = tt
all_joined key P [] (y ∷ ys) all each = (each y (first_in y ys), all_joined key P [] ys tt (λ z at. each z (later_in y ys z at)))
all_joined key P (x ∷ xs) ys all each = (all.0, all_joined key P xs ys all.1 each)

differ_joined : {X : Type 0} (key : X → List ℕ) (xs ys : List X) → IsDistinct bytes_eq (map key xs) → IsDistinct bytes_eq (map key ys)
    → ((x y : X) → Contains xs x → Contains ys y → bytes_eq (key x) (key y) ≡ false) → IsDistinct bytes_eq (map key (xs ++ ys))
unfolding IsDistinct
differ_joined key [] ys differ also apart = also
differ_joined key (x ∷ xs) ys differ also apart =
    (all_joined key (λ k. bytes_eq (key x) k ≡ false) xs ys differ.0 (λ y at. apart x y (first_in x xs) at), differ_joined key xs ys differ.1 also (λ z y at there. apart z y (later_in x xs z at) there))

module _ (rising : (xs : List Held) → IsDistinct bytes_eq (map held_name xs) → RisesBy held_name (in_order_by held_name xs)) (c : Chased) (waiting : List (List ℕ)) (count : ℕ) (installed : List Member)
    (h : Stands c waiting count) (differ : IsDistinct bytes_eq (map member_name installed)) (held_is : c.installed ≡ held_by_name installed) where
  held_at : (member : Member) → Contains installed member → find (has_key held_name (member_name member)) c.installed ≡ Some (held_of member)
  held_at member at =
      ap (λ xs. find (has_key held_name (member_name member)) xs) held_is
      ∙ rises_found held_name (held_by_name installed) (held_rise rising installed (map held_of installed) (held_by_name installed) refl refl differ) (held_of member)
      (in_order held_name (map held_of installed) (held_of member) (in_map held_of installed member at))

  no_two : (b : Bool) → b ≡ true → b ≡ false → ⊥
  no_two true is so = let e : true ≡ false = so in cc
  no_two false is so = let e : false ≡ true = is in cc

  gone : (b : Bool) (held : Held) → cond b (Some held) None ≡ None → b ≡ false
  gone true held is = absurd cc
  gone false held is = refl

  apart : (x y : Member) → Contains (stay c.bound c.needed installed) x → Contains c.known y → bytes_eq (member_name x) (member_name y) ≡ false
  apart x y at there = by (bytes_eq (member_name x) (member_name y)) refl
    where
      by : (b : Bool) → bytes_eq (member_name x) (member_name y) ≡ b → b ≡ false
      by false is = refl
      by true is =
          let same = is_same (member_name x) (member_name y) is in
          let kept = of_filter (λ (m : Member). not (is_replaced c.bound c.needed m)) installed x at in
          let read = h.are_read y there in
          let other : bytes_eq x.package.pkg.version y.package.pkg.version ≡ false =
          gone (bytes_eq x.package.pkg.version y.package.pkg.version) (held_of x)
          (sym (ap (λ r. stored_of r y.package.pkg) (ap (λ n. find (has_key held_name n) c.installed) (sym same) ∙ held_at x kept.0)) ∙ read.uninstalled) in
          let goes : is_replaced c.bound c.needed x ≡ true =
          ap (λ r. is_other_version r x.package.pkg && is_among c.needed (member_name x)) (ap (bound_to c.bound) same ∙ read.bound)
          ∙ ap (λ b. not b && is_among c.needed (member_name x)) (turned y.package.pkg.version x.package.pkg.version ∙ other)
          ∙ ap (is_among c.needed) same ∙ read.needed in
          absurd (no_two (is_replaced c.bound c.needed x) goes (off (is_replaced c.bound c.needed x) kept.1))

  pub members_differ : IsDistinct bytes_eq (map member_name (stay c.bound c.needed installed ++ c.known))
  members_differ =
      differ_joined member_name (stay c.bound c.needed installed) c.known
      (differ_chosen member_name (λ (m : Member). not (is_replaced c.bound c.needed m)) installed differ) h.differ apart

pub none_keys : (keys : List (List ℕ)) → (0 < length keys → false ≡ true) → keys ≡ []
none_keys [] some = refl
none_keys (x ∷ keys) some = absurd (let e : false ≡ true = some (omega arith) in cc)
