-- All bytes either spell the items of a file or have a fault.
use Rattle.std.proofs.Common.{◌≡◌, ◌≢◌, ℕ, zero, suc, ◌+◌, ◌≤◌, Bool, true, false, List, [], ◌∷◌, ◌++◌, length, take, drop, map, refl, ap, sym, subst, ◌∙◌, arith, ◌⊎◌, inl, inr}
use Rattle.std.proofs.lemmas.Bool.{cases_Bool}
use Rattle.std.proofs.lemmas.List.{append-nil, take-append-drop, take_all}
use Rattle.std.specs.declared.option.Option.{Option}
use Rattle.std.specs.declared.option.Option.TheVariants.{None, Some}
use Rattle.syntax_trees.specs.declared.fault.SyntaxFault.{SyntaxFault}
use Rattle.syntax_trees.specs.declared.fault.SyntaxFault.TheVariants as syntax
use Rattle.syntax_trees.specs.Doubles.{doubled_at}
use Rattle.syntax_trees.specs.Faults.{IsDerived, BeginsFile, IsNowhereDeep, IsStrayAt, IsFaultOf}
use Rattle.syntax_trees.specs.Files.{Entry, AreEntries, no_entry}
use Rattle.syntax_trees.specs.Following.{ExpectedNext as Expected, AtEntry, AfterName, AfterLabel, Operand, Inside, Side, AfterPrimary, AfterBraces, OpenBracket as Frame, TokenControl as Control, at_entry, tokens_followed as followed, file_may_end, token_of}
use Rattle.syntax_trees.specs.Tokens.{Placed, AreTokens, ends}
use Rattle.syntax_trees.specs.Trees.{IsSpelling}
use Rattle.syntax_trees.proofs.Ended.{file_tokens_follow}
use Rattle.syntax_trees.proofs.Following.{HasKinds, no_kind, completion_at, completion, completed}
use Rattle.syntax_trees.proofs.NowhereDeep.{derived_nowhere_deep}
use Rattle.syntax_trees.proofs.OneFile.{one_derivation}
use Rattle.syntax_trees.proofs.OneTokens.{same_tokens}
use Rattle.syntax_faults.specs.Laws.{FaultsAreThere, SpellingsAreFaultless}
use Rattle.syntax_faults.proofs.Begun.{begins_front}
use Rattle.syntax_faults.proofs.Deciding.{Decided, tokens_decided, begins_decided}
use Rattle.syntax_faults.proofs.DeepDecided.{deep_somewhere, nowhere_below}
use Rattle.syntax_faults.proofs.Sinking.{below_shallow}

-- the first byte with which bytes begin no file
nothing_begins : BeginsFile []
nothing_begins = ([], ([], ([], ends refl, no_entry)))

stray_before : (bytes : List ℕ) (n : ℕ) → n ≤ length bytes → ((place : ℕ) × IsStrayAt bytes place) ⊎ BeginsFile (take n bytes)
stray_before bytes zero l = inr nothing_begins
stray_before bytes (suc n) l = next (stray_before bytes n (omega arith)) (begins_decided (take (suc n) bytes))
  where
    next : ((place : ℕ) × IsStrayAt bytes place) ⊎ BeginsFile (take n bytes) → Decided (BeginsFile (take (suc n) bytes))
        → ((place : ℕ) × IsStrayAt bytes place) ⊎ BeginsFile (take (suc n) bytes)
    next (inl s) d = inl s
    next (inr b) (inl p) = inr p
    next (inr b) (inr m) =
        let e : n + 1 ≡ suc n = omega arith in
        inl (n, record { within = omega arith; begins = b; stray = λ p. m (subst (λ k. BeginsFile (take k bytes)) e p) })

stray_somewhere : (bytes : List ℕ) → ((place : ℕ) × IsStrayAt bytes place) ⊎ BeginsFile bytes
stray_somewhere bytes = elim (stray_before bytes (length bytes) (omega arith)) [
  | inl s ↦ inl s
  | inr b ↦ inr (subst BeginsFile (take_all (length bytes) bytes (omega arith)) b)
]

-- what may end is complete
nothing_owed : (e : Expected) (fs : List Frame) (s : Bool) → file_may_end e fs s ≡ true → [] ≡ completion_at e fs s
nothing_owed AtEntry [] false h = refl
nothing_owed (AfterPrimary right) [] false h = refl
nothing_owed (AfterBraces right) [] false h = refl
nothing_owed AtEntry [] true h = absurd cc
nothing_owed AtEntry (f ∷ fs) s h = absurd cc
nothing_owed (AfterPrimary right) [] true h = absurd cc
nothing_owed (AfterPrimary right) (f ∷ fs) s h = absurd cc
nothing_owed (AfterBraces right) [] true h = absurd cc
nothing_owed (AfterBraces right) (f ∷ fs) s h = absurd cc
nothing_owed AfterName fs s h = absurd cc
nothing_owed AfterLabel fs s h = absurd cc
nothing_owed Operand fs s h = absurd cc
nothing_owed Inside fs s h = absurd cc
nothing_owed Side fs s h = absurd cc

whole_entries : (tokens : List Placed) (d : Control) → followed (at_entry false) (map token_of tokens) ≡ Some d → file_may_end d.expected d.frames d.section ≡ true
    → (entries : List Entry) × AreEntries tokens entries
whole_entries tokens d e h =
    let k : HasKinds (completion d) [] = subst (λ z. HasKinds z []) (nothing_owed d.expected d.frames d.section h) no_kind in
    let owed : (entries : List Entry) × AreEntries (tokens ++ []) entries = completed (at_entry false) tokens [] d e k in
    (owed.0, subst (λ z. AreEntries z owed.0) (append-nil tokens) owed.1)

-- the items that bytes spell, at any depth and with doubled names too
record Derived (bytes : List ℕ) : Type 0 where
  tokens : List Placed
  entries : List Entry
  control : Control
  spelled : AreTokens (length bytes) bytes tokens
  leads : followed (at_entry false) (map token_of tokens) ≡ Some control
  derived : AreEntries tokens entries

the_same : {A : Type 0} {x y : A} → Some x ≡ Some y → x ≡ y
the_same e = cc

derived_decided : (bytes : List ℕ) → Derived bytes ⊎ (IsDerived bytes → ⊥)
derived_decided bytes = by_tokens (tokens_decided (length bytes) bytes)
  where
    by_end : (ts : List Placed) → AreTokens (length bytes) bytes ts → (d : Control) → followed (at_entry false) (map token_of ts) ≡ Some d
        → (file_may_end d.expected d.frames d.section ≡ true) ⊎ (file_may_end d.expected d.frames d.section ≡ false) → Derived bytes ⊎ (IsDerived bytes → ⊥)
    by_end ts p d e (inl h) =
        let w = whole_entries ts d e h in inl (record { tokens = ts; entries = w.0; control = d; spelled = p; leads = e; derived = w.1 })
    by_end ts p d e (inr h) =
        inr (λ (entries, (us, q, r)).
        let f = file_tokens_follow us entries r in
        let c : d ≡ f.0 = the_same (sym e ∙ ap (λ z. followed (at_entry false) (map token_of z)) (same_tokens p q) ∙ f.1) in
        let g = sym h ∙ ap (λ z. file_may_end z.expected z.frames z.section) c ∙ f.2 in
        cc)

    by_control : (ts : List Placed) → AreTokens (length bytes) bytes ts → (o : Option Control) → followed (at_entry false) (map token_of ts) ≡ o
        → Derived bytes ⊎ (IsDerived bytes → ⊥)
    by_control ts p (Some d) e = by_end ts p d e (cases_Bool (file_may_end d.expected d.frames d.section))
    by_control ts p None e =
        inr (λ (entries, (us, q, r)).
        let f = file_tokens_follow us entries r in
        let g = sym e ∙ ap (λ z. followed (at_entry false) (map token_of z)) (same_tokens p q) ∙ f.1 in
        cc)

    by_tokens : Decided ((tokens : List Placed) × AreTokens (length bytes) bytes tokens) → Derived bytes ⊎ (IsDerived bytes → ⊥)
    by_tokens (inl (ts, p)) = by_control ts p (followed (at_entry false) (map token_of ts)) refl
    by_tokens (inr n) = inr (λ (entries, (us, q, r)). n (us, q))

-- what bytes are
abbrev Told : List ℕ → Type 0
Told bytes = ((entries : List Entry) × IsSpelling bytes entries) ⊎ ((fault : SyntaxFault) × (fault ≢ syntax.Memory) × IsFaultOf bytes fault)

told_derived : (bytes : List ℕ) → IsNowhereDeep bytes → (d : Derived bytes) → (o : Option ℕ) → doubled_at d.entries ≡ o → Told bytes
told_derived bytes nowhere d (Some place) e =
    inr (syntax.Doubled place, (λ f. cc), (nowhere, (d.entries, (d.tokens, d.spelled, d.derived), e)))
told_derived bytes nowhere d None e =
    let below = nowhere_below bytes d.tokens d.control nowhere d.spelled d.leads in
    inl (d.entries, record { derived = (d.tokens, d.spelled, d.derived); shallow = below_shallow d.tokens d.entries d.derived below; single = e })

told_shallow : (bytes : List ℕ) → IsNowhereDeep bytes → ((place : ℕ) × IsStrayAt bytes place) ⊎ BeginsFile bytes → Told bytes
told_shallow bytes nowhere (inl (place, s)) = inr (syntax.Stray place, (λ f. cc), (nowhere, s))
told_shallow bytes nowhere (inr b) = elim (derived_decided bytes) [
  | inl d ↦ told_derived bytes nowhere d (doubled_at d.entries) refl
  | inr n ↦ inr (syntax.Ended (length bytes), (λ f. cc), (nowhere, record { all = refl; begins = b; unfinished = n }))
]

pub faults_are_there : FaultsAreThere
faults_are_there bytes = elim (deep_somewhere bytes) [
  | inl (place, d) ↦ inr (syntax.Deep place, (λ f. cc), d)
  | inr nowhere ↦ told_shallow bytes nowhere (stray_somewhere bytes)
]

-- a text of a file has none of these
no_stray : (bytes : List ℕ) (place : ℕ) → IsDerived bytes → IsStrayAt bytes place → ⊥
no_stray bytes place d s =
    let b : BeginsFile bytes = ([], subst IsDerived (sym (append-nil bytes)) d) in
    s.stray (begins_front (take (place + 1) bytes) (drop (place + 1) bytes) (subst BeginsFile (sym (take-append-drop (place + 1) bytes)) b))

pub spellings_are_faultless : SpellingsAreFaultless
spellings_are_faultless bytes entries (syntax.Deep at) i f =
    absurd (derived_nowhere_deep bytes i.derived.0 entries i.derived.1 i.derived.2 i.shallow at f.deep)
spellings_are_faultless bytes entries (syntax.Stray at) i f = absurd (no_stray bytes at (entries, i.derived) f.1)
spellings_are_faultless bytes entries (syntax.Ended at) i f = absurd (f.1.unfinished (entries, i.derived))
spellings_are_faultless bytes entries (syntax.Doubled at) i f =
    let d = f.1 in
    let e = sym i.single ∙ ap doubled_at (one_derivation bytes entries d.0 i.derived d.1) ∙ d.2 in
    absurd cc
spellings_are_faultless bytes entries syntax.Memory i f = refl
