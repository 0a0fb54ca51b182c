-- Where the tokens of a derivation nest in no more than a limit, the nodes nest in no more.
use Rattle.std.proofs.Common.{◌≡◌, ℕ, ◌≤◌, ◌+◌, true, false, List, [], ◌∷◌, refl, sym, subst, ap, ◌∙◌, arith, map, max}
use Rattle.std.specs.Prelude.{⊤}
use Rattle.std.specs.declared.option.Option.TheVariants.{None, Some}
use Rattle.syntax_trees.specs.declared.token.Token.{Token}
use Rattle.syntax_trees.specs.declared.token.Token.TheVariants.{Flag, Int, Text, Plain, Scoped, OpenList, CloseList, OpenBraces, CloseBraces, OpenGroup, CloseGroup, Relation, And, Or}
use Rattle.syntax_trees.specs.declared.tree.Node.{Node}
use Rattle.syntax_trees.specs.declared.tree.Span.{Span}
use Rattle.syntax_trees.specs.declared.tree.Value.{Value}
use Rattle.syntax_trees.specs.declared.limits.TheConstants.{NESTING_LIMIT}
use Rattle.syntax_trees.specs.Heights.{OperandMode as Mode, Wanted, LeftRead, RightWanted, RightRead, HeightState as State, operand_height as begin_at, begun_height as begin, mode_after as after, relation_height as relation_at, operand_read as read, bracket_opened as opened, bracket_closed as closed, operand_anew as anew, operand_prefixed as prefixed, relation_begun as related, height_step as step, NestsBelow as Below, height_start as start}
use Rattle.syntax_trees.specs.Tokens.{Placed, placed}
use Rattle.syntax_trees.specs.Grammar.{Level, ValueLevel, OrLevel, AndLevel, UnaryLevel, RelationLevel, BracedLevel, PrimaryLevel, atom_of, begins_relation, Spells, atom, list, group, bare, braced, pre_relation, alone, relation, no_prefix, negation, definedness, conjunction, disjunction, no_update, update, AreValues, no_value, value, AreConjuncts, last_conjunct, conjunct, AreDisjuncts, last_disjunct, disjunct}
use Rattle.syntax_trees.specs.Files.{Entry, AreFields, no_field, field, AreEntries, no_entry, field_next, section_next, labelled_next}
use Rattle.syntax_trees.specs.Nesting.{depth, most, contents_depth, AreShallow}
use Rattle.syntax_trees.proofs.Depths.{depth_list, depth_group, depth_braced, depth_not, depth_defined, depth_rel, depth_pre_rel, depth_env, depth_all, depth_any, depth_atom}

-- where what begins here is nested in no more than a limit, so is the part, and what follows it
record Sinks (s : State) (tokens : List Placed) (base deep : ℕ) (to : State) (rest : List Placed) : Type 0 where
  under : (limit : ℕ) → base ≤ limit → Below limit s tokens → (base + deep ≤ limit) × Below limit to rest

-- whether a value may begin, where what stands before it takes no sign of a relation
abbrev ReadyAt : Mode → List Placed → Type 0
ReadyAt Wanted tokens = ⊤
ReadyAt LeftRead tokens = begins_relation tokens ≡ false
ReadyAt RightWanted tokens = ⊥
ReadyAt RightRead tokens = ⊤

ready_begins : (m : Mode) (floor level : ℕ) (tokens : List Placed) → ReadyAt m tokens → begin_at (after m) floor level ≡ floor
ready_begins Wanted floor level tokens r = refl
ready_begins LeftRead floor level tokens r = refl
ready_begins RightWanted floor level tokens r = absurd r
ready_begins RightRead floor level tokens r = refl

ready_after : (m : Mode) (tokens rest : List Placed) → ReadyAt m tokens → begins_relation rest ≡ false → ReadyAt (after m) rest
ready_after Wanted tokens rest r e = e
ready_after LeftRead tokens rest r e = e
ready_after RightWanted tokens rest r e = absurd r
ready_after RightRead tokens rest r e = e

ready_relation : (m : Mode) (floor level : ℕ) (tokens : List Placed) → ReadyAt m tokens → begins_relation tokens ≡ true
    → relation_at m floor level ≡ begin_at m floor level
ready_relation Wanted floor level tokens r e = refl
ready_relation LeftRead floor level tokens r e = absurd (let f = sym r ∙ e in cc)
ready_relation RightWanted floor level tokens r e = absurd r
ready_relation RightRead floor level tokens r e = refl

ready_joins : (m : Mode) (floor level : ℕ) (tokens : List Placed) → ReadyAt m tokens → relation_at (after m) floor level ≡ level
ready_joins Wanted floor level tokens r = refl
ready_joins LeftRead floor level tokens r = refl
ready_joins RightWanted floor level tokens r = absurd r
ready_joins RightRead floor level tokens r = refl

even : (m : Mode) (floor level : ℕ) → level ≡ floor → begin_at m floor level ≡ floor
even Wanted floor level e = e
even LeftRead floor level e = refl
even RightWanted floor level e = e
even RightRead floor level e = refl

abbrev Fits : Level → State → List Placed → Type 0
Fits PrimaryLevel s tokens = ⊤
Fits BracedLevel s tokens = ⊤
Fits RelationLevel s tokens = ReadyAt s.mode tokens
Fits UnaryLevel s tokens = ReadyAt s.mode tokens
Fits AndLevel s tokens = ReadyAt s.mode tokens × (begin s ≡ s.floor)
Fits OrLevel s tokens = ReadyAt s.mode tokens × (begin s ≡ s.floor)
Fits ValueLevel s tokens = ReadyAt s.mode tokens × (begin s ≡ s.floor)

record Rests (s t : State) (rest : List Placed) : Type 0 where
  floor : t.floor ≡ s.floor
  kept : t.kept ≡ s.kept
  ready : ReadyAt t.mode rest
  begins : begin t ≡ t.floor

abbrev Reached : Level → State → State → List Placed → Type 0
Reached PrimaryLevel s t rest = t ≡ read s
Reached BracedLevel s t rest = t ≡ read s
Reached RelationLevel s t rest = Rests s t rest
Reached UnaryLevel s t rest = Rests s t rest
Reached AndLevel s t rest = Rests s t rest
Reached OrLevel s t rest = Rests s t rest
Reached ValueLevel s t rest = Rests s t rest

record Sunk (level : Level) (s : State) (tokens : List Placed) (n : Node) (rest : List Placed) : Type 0 where
  to : State
  reached : Reached level s to rest
  sinks : Sinks s tokens (begin s) (depth n) to rest

record AllSunk (s : State) (tokens : List Placed) (deep : ℕ) (rest : List Placed) : Type 0 where
  to : State
  floor : to.floor ≡ s.floor
  kept : to.kept ≡ s.kept
  sinks : Sinks s tokens s.floor deep to rest

record PartsSunk (s : State) (tokens : List Placed) (head : Node) (more : List Node) (rest : List Placed) : Type 0 where
  to : State
  reached : Rests s to rest
  sinks : Sinks s tokens s.floor (max (depth head) (most (map depth more))) to rest

none_some : {A B : Type 0} {x : A} → None ≡ Some x → B
none_some e = absurd cc

atom_step : (s : State) (token : Token) {v : Value} → atom_of token ≡ Some v → step s token ≡ read s
atom_step s (Flag flag) e = refl
atom_step s (Int number) e = refl
atom_step s (Text bytes) e = refl
atom_step s (Plain name) e = refl
atom_step s (Scoped scope name) e = refl
atom_step s token e = none_some e

-- two parts
sinks_then : {s t c : State} {ts ms r : List Placed} {base d1 d2 : ℕ} → Sinks s ts base d1 t ms → Sinks t ms base d2 c r → Sinks s ts base (max d1 d2) c r
sinks_then x y = record {
  under = λ limit l b.
      let u = x.under limit l b in
      let v = y.under limit l u.1 in
      let m = u.0 in
      let n = v.0 in
      (omega arith, v.1);
}

-- the same depth and floor by other names
sinks_as : {s t : State} {ts r : List Placed} {base base2 d d2 : ℕ} → base ≡ base2 → d2 ≡ d → Sinks s ts base d t r → Sinks s ts base2 d2 t r
sinks_as e f x = record { under = λ limit l b. let u = x.under limit (omega arith) b in let m = u.0 in (omega arith, u.1) }

to_read : {s t : State} {tokens rest : List Placed} {base d : ℕ} → t ≡ read s → Sinks s tokens base d t rest → Sinks s tokens base d (read s) rest
to_read {s} {t} {tokens} {rest} {base} {d} e x = subst (λ z. Sinks s tokens base d z rest) e x

-- parts between a bracket and the one that closes it
enclosed : (s : State) (token close : Token) (from to : Span) (inner rest : List Placed) (deep at : ℕ) (mode : Mode) → step s token ≡ opened s at mode
    → ((t : State) → step t close ≡ closed t t.kept) → AllSunk (opened s at mode) inner deep (placed close to ∷ rest)
    → Sinks s (placed token from ∷ inner) at (1 + deep) (record { floor = s.floor; level = at; mode = mode; kept = s.kept }) rest
enclosed s token close from to inner rest deep at mode e f a = record {
  under = λ limit l b.
      let Here : State → Type 0 = λ z. (z.level ≤ limit) × Below limit z inner in
      let There : State → Type 0 = λ z. (z.level ≤ limit) × Below limit z rest in
      let now : Here (opened s at mode) = subst Here e b in
      let m = now.0 in
      let u = a.sinks.under limit m now.1 in
      let n = u.0 in
      let g : step a.to close ≡ record { floor = s.floor; level = at; mode = mode; kept = s.kept } = f a.to ∙ ap (λ z. closed a.to z) a.kept in
      let then : There (record { floor = s.floor; level = at; mode = mode; kept = s.kept }) = subst There g u.1 in
      (omega arith, then.1);
}

rests_on : {s t u : State} {ms rest : List Placed} → Rests s t ms → Rests (anew t) u rest → Rests s u rest
rests_on a b = record { floor = b.floor ∙ a.floor; kept = b.kept ∙ a.kept; ready = b.ready; begins = b.begins }

-- one part alone, and one before others that a connective joins to it
one_part : {s t : State} {tokens rest : List Placed} (head : Node) → begin s ≡ s.floor → Rests s t rest → Sinks s tokens (begin s) (depth head) t rest
    → PartsSunk s tokens head [] rest
one_part {s} {t} {tokens} {rest} head e r x = record { to = t; reached = r; sinks = sinks_as e (omega arith) x }

more_parts : {s t : State} {tokens between rest : List Placed} (head next : Node) (more : List Node) (token : Token) (sign : Span) → begin s ≡ s.floor
    → ((z : State) → step z token ≡ anew z) → Rests s t (placed token sign ∷ between) → Sinks s tokens (begin s) (depth head) t (placed token sign ∷ between)
    → PartsSunk (anew t) between next more rest → PartsSunk s tokens head (next ∷ more) rest
more_parts {s} {t} {tokens} {between} {rest} head next more token sign e i r x a = record {
  to = a.to;
  reached = rests_on r a.reached;
  sinks = record {
    under = λ limit l b.
        let u = x.under limit (omega arith) b in
        let m = u.0 in
        let f = r.floor in
        let Here : State → Type 0 = λ z. (z.level ≤ limit) × Below limit z between in
        let now : Here (anew t) = subst Here (i t) u.1 in
        let v = a.sinks.under limit (omega arith) now.1 in
        let n = v.0 in
        (omega arith, v.1);
  };
}

mutual
  goes : {level : Level} {tokens : List Placed} {n : Node} {rest : List Placed} → Spells level tokens n rest → (s : State) → Fits level s tokens
      → Sunk level s tokens n rest
  goes (atom {token = token} {value = v} {span = span} {rest = rest} e) s fit = record {
    to = read s;
    reached = refl;
    sinks = record {
      under = λ limit l b.
          let Here : State → Type 0 = λ z. (z.level ≤ limit) × Below limit z rest in
          let now : Here (read s) = subst Here (atom_step s token e) b in
          let d = depth_atom token v span e in
          (omega arith, now.1);
    };
  }
  goes (list {from = from} {to = to} {tokens = tokens} {rest = rest} {nodes = nodes} p) s fit =
      let a = values_sunk p (opened s (begin s) (after s.mode)) tt refl in
      let b = enclosed s OpenList CloseList from to tokens rest (most (map depth nodes)) (begin s) (after s.mode) refl (λ t. refl) a in
      record { to = read s; reached = refl; sinks = sinks_as refl (depth_list nodes from to) b }
  goes (group {from = from} {to = to} {tokens = tokens} {rest = rest} {nodes = nodes} p) s fit =
      let a = values_sunk p (opened s (begin s) (after s.mode)) tt refl in
      let b = enclosed s OpenGroup CloseGroup from to tokens rest (most (map depth nodes)) (begin s) (after s.mode) refl (λ t. refl) a in
      record { to = read s; reached = refl; sinks = sinks_as refl (depth_group nodes from to) b }
  goes (bare p) s fit = let g = goes p s tt in record { to = g.to; reached = g.reached; sinks = g.sinks }
  goes (braced {from = from} {to = to} {inner = inner} {rest = rest} {value = v} {nodes = nodes} p q) s fit =
      let g = goes p s tt in
      let a = values_sunk q (opened (read s) (begin s) (after s.mode)) tt refl in
      let b = enclosed (read s) OpenBraces CloseBraces from to inner rest (most (map depth nodes)) (begin s) (after s.mode) refl (λ t. refl) a in
      record { to = read s; reached = refl; sinks = sinks_as refl (depth_braced v nodes v.span to) (sinks_then (to_read g.reached g.sinks) b) }
  goes (pre_relation {op = op} {from = from} {tokens = tokens} {right = right} p) s fit =
      let e = ready_relation s.mode s.floor s.level (placed (Relation op) from ∷ tokens) fit refl in
      let g = goes p (related s) tt in
      let x = to_read g.reached g.sinks in
      record {
        to = read (related s);
        reached = record { floor = refl; kept = refl; ready = tt; begins = refl };
        sinks = record {
          under = λ limit l b.
              let u = x.under limit (omega arith) b.1 in
              let m = u.0 in
              let d = depth_pre_rel op right from right.span in
              (omega arith, u.1);
        };
      }
  goes (alone {tokens = tokens} {rest = rest} {value = v} p h) s fit =
      let g = goes p s tt in
      record {
        to = read s;
        reached = record { floor = refl; kept = refl; ready = ready_after s.mode tokens rest fit h; begins = ready_begins s.mode s.floor (begin s) tokens fit };
        sinks = to_read g.reached g.sinks;
      }
  goes (relation {op = op} {at = sign} {tokens = tokens} {more = more} {left = left} {right = right} p q) s fit =
      let g = goes p s tt in
      let e = ready_joins s.mode s.floor (begin s) tokens fit in
      let r = goes q (related (read s)) tt in
      let x = to_read g.reached g.sinks in
      let y = to_read r.reached r.sinks in
      record {
        to = read (related (read s));
        reached = record { floor = refl; kept = refl; ready = tt; begins = refl };
        sinks = record {
          under = λ limit l b.
              let u = x.under limit l b in
              let v = y.under limit (omega arith) u.1.1 in
              let m = u.0 in
              let n = v.0 in
              let d = depth_rel op left right left.span right.span in
              (omega arith, v.1);
        };
      }
  goes (no_prefix p) s fit = let g = goes p s fit in record { to = g.to; reached = g.reached; sinks = g.sinks }
  goes (negation {from = from} {value = v} p) s fit =
      let g = goes p (prefixed s) tt in
      let r = g.reached in
      record {
        to = g.to;
        reached = record { floor = r.floor; kept = r.kept; ready = r.ready; begins = r.begins };
        sinks = record {
          under = λ limit l b.
              let h = b.0 in
              let u = g.sinks.under limit h b.1 in
              let m = u.0 in
              let d = depth_not v from v.span in
              (omega arith, u.1);
        };
      }
  goes (definedness {from = from} {value = v} p) s fit =
      let g = goes p (prefixed s) tt in
      let r = g.reached in
      record {
        to = g.to;
        reached = record { floor = r.floor; kept = r.kept; ready = r.ready; begins = r.begins };
        sinks = record {
          under = λ limit l b.
              let h = b.0 in
              let u = g.sinks.under limit h b.1 in
              let m = u.0 in
              let d = depth_defined v from v.span in
              (omega arith, u.1);
        };
      }
  goes (conjunction {first = head} {more = more} p) s fit =
      let a = conjuncts_sunk p s fit in record { to = a.to; reached = a.reached; sinks = sinks_as (sym fit.1) (depth_all head more) a.sinks }
  goes (disjunction {first = head} {more = more} p) s fit =
      let a = disjuncts_sunk p s fit in record { to = a.to; reached = a.reached; sinks = sinks_as (sym fit.1) (depth_any head more) a.sinks }
  goes (no_update p) s fit = let g = goes p s fit in record { to = g.to; reached = g.reached; sinks = g.sinks }
  goes (update {op = op} {at = sign} {left = left} {right = right} p q) s fit =
      let g = goes p s fit in
      let t = g.to in
      let w = g.reached in
      let r = goes q (anew t) (tt, refl) in
      record {
        to = r.to;
        reached = rests_on w r.reached;
        sinks = record {
          under = λ limit l b.
              let u = g.sinks.under limit l b in
              let f = w.floor in
              let e = fit.1 in
              let v = r.sinks.under limit (omega arith) u.1.1 in
              let m = u.0 in
              let n = v.0 in
              let d = depth_env op left right left.span right.span in
              (omega arith, v.1);
        };
      }

  values_sunk : {tokens : List Placed} {nodes : List Node} {rest : List Placed} → AreValues tokens nodes rest → (s : State) → ReadyAt s.mode tokens
      → begin s ≡ s.floor → AllSunk s tokens (most (map depth nodes)) rest
  values_sunk no_value s r e = record { to = s; floor = refl; kept = refl; sinks = record { under = λ limit l b. (omega arith, b) } }
  values_sunk (value {first = head} {more = more} p q) s r e =
      let g = goes p s (r, e) in
      let w = g.reached in
      let a = values_sunk q g.to w.ready w.begins in
      record {
        to = a.to;
        floor = a.floor ∙ w.floor;
        kept = a.kept ∙ w.kept;
        sinks = record {
          under = λ limit l b.
              let u = g.sinks.under limit (omega arith) b in
              let f = w.floor in
              let v = a.sinks.under limit (omega arith) u.1 in
              let m = u.0 in
              let n = v.0 in
              (omega arith, v.1);
        };
      }

  conjuncts_sunk : {tokens : List Placed} {head : Node} {more : List Node} {rest : List Placed} → AreConjuncts tokens head more rest → (s : State)
      → ReadyAt s.mode tokens × (begin s ≡ s.floor) → PartsSunk s tokens head more rest
  conjuncts_sunk (last_conjunct {last = head} p) s fit = let g = goes p s fit.0 in one_part head fit.1 g.reached g.sinks
  conjuncts_sunk (conjunct {at = sign} {first = head} {next = next} {more = more} p q) s fit =
      let g = goes p s fit.0 in
      let a = conjuncts_sunk q (anew g.to) (tt, refl) in
      more_parts head next more And sign fit.1 (λ z. refl) g.reached g.sinks a

  disjuncts_sunk : {tokens : List Placed} {head : Node} {more : List Node} {rest : List Placed} → AreDisjuncts tokens head more rest → (s : State)
      → ReadyAt s.mode tokens × (begin s ≡ s.floor) → PartsSunk s tokens head more rest
  disjuncts_sunk (last_disjunct {last = head} p) s fit = let g = goes p s fit in one_part head fit.1 g.reached g.sinks
  disjuncts_sunk (disjunct {at = sign} {first = head} {next = next} {more = more} p q) s fit =
      let g = goes p s fit in
      let a = disjuncts_sunk q (anew g.to) (tt, refl) in
      more_parts head next more Or sign fit.1 (λ z. refl) g.reached g.sinks a

fields_sunk : {tokens : List Placed} {fields : List (List ℕ × Node)} {places : List ℕ} {rest : List Placed} → AreFields tokens fields places rest → (s : State)
    → begin s ≡ s.floor → AllSunk s tokens (most (map (λ f. depth f.1) fields)) rest
fields_sunk no_field s e = record { to = s; floor = refl; kept = refl; sinks = record { under = λ limit l b. (omega arith, b) } }
fields_sunk (field {value = v} p q) s e =
    let g = goes p (anew (read s)) (tt, refl) in
    let w = g.reached in
    let a = fields_sunk q g.to w.begins in
    record {
      to = a.to;
      floor = a.floor ∙ w.floor;
      kept = a.kept ∙ w.kept;
      sinks = record {
        under = λ limit l b.
            let u = g.sinks.under limit l b.1.1 in
            let f = w.floor in
            let x = a.sinks.under limit (omega arith) u.1 in
            let m = u.0 in
            let n = x.0 in
            (omega arith, x.1);
      };
    }

-- a section in its braces
braces_sunk : {tokens between : List Placed} {fields : List (List ℕ × Node)} {places : List ℕ} {to : Span}
    → AreFields tokens fields places (placed CloseBraces to ∷ between) → (sign : Span) (s : State) → s.level ≡ s.floor
    → Sinks s (placed OpenBraces sign ∷ tokens) s.floor (1 + most (map (λ f. depth f.1) fields)) s between
braces_sunk {tokens} {between} {fields} {places} {to} p sign s e =
    let a = fields_sunk p (opened s s.level s.mode) refl in
    sinks_as e refl (enclosed s OpenBraces CloseBraces sign to tokens between (most (map (λ f. depth f.1) fields)) s.level s.mode refl (λ t. refl) a)

entries_sunk : {tokens : List Placed} {entries : List Entry} → AreEntries tokens entries → (s : State) → begin s ≡ s.floor → (limit : ℕ) → s.floor ≤ limit
    → Below limit s tokens → s.floor + most (map (λ entry. contents_depth entry.contents) entries) ≤ limit
entries_sunk no_entry s e limit l b = omega arith
entries_sunk (field_next {value = v} p q) s e limit l b =
    let g = goes p (anew (read s)) (tt, refl) in
    let w = g.reached in
    let u = g.sinks.under limit l b.1.1 in
    let f = w.floor in
    let x = entries_sunk q g.to w.begins limit (omega arith) u.1 in
    let m = u.0 in
    omega arith
entries_sunk (section_next {at = sign} {fields = fields} p q) s e limit l b =
    let u = (braces_sunk p sign (read s) e).under limit l b.1 in
    let x = entries_sunk q (read s) (even (after s.mode) s.floor (begin s) e) limit l u.1 in
    let m = u.0 in
    omega arith
entries_sunk (labelled_next {at = sign} {fields = fields} p q) s e limit l b =
    let c = even (after s.mode) s.floor (begin s) e in
    let u = (braces_sunk p sign (read (read s)) c).under limit l b.1.1 in
    let x = entries_sunk q (read (read s)) (even (after (after s.mode)) s.floor (begin (read s)) c) limit l u.1 in
    let m = u.0 in
    omega arith

-- entries whose tokens nest in no more than the limit are shallow
pub below_shallow : (tokens : List Placed) (entries : List Entry) → AreEntries tokens entries → Below NESTING_LIMIT start tokens → AreShallow entries
below_shallow tokens entries p b = let x = entries_sunk p start refl NESTING_LIMIT (omega arith) b in omega arith
