-- What a node names whole, and what a process of a flat design joins.
use Rattle.std.specs.List.{prefix_len}
use Rattle.std.proofs.Common.{◌≡◌, ◌≢◌, ℕ, zero, suc, ◌+◌, ◌<◌, Bool, true, false, not, cond, ◌&&◌, nat_lt, List, [], ◌∷◌, length, get_or, map, take, refl, sym, ap, ◌∙◌, subst, arith}
use Rattle.std.specs.Prelude.{slice_get, slice_index, Option, None, Some, ◌==◌, option_map, option_and_then, if◌then◌else◌}
use Rattle.std.proofs.lemmas.Bool.{ne_eqb, eq-eqb, and_parts, ltb-true}
use Rattle.std.proofs.lemmas.List.Sums.{sum_by-cons}
use Rattle.std.proofs.lemmas.Option.{slice_get_within}
use Rattle.vs_four.specs.Selects.{Part as Selected}
use Rattle.vs_design.specs.Expressions as E
use Rattle.vs_design.specs.Statements as T
use Rattle.vs_design.specs.Designs as D
use Rattle.vs_design.specs.Clocks.{name_of}
use Rattle.vs_design.specs.Footprints.{is_memory}
use Rattle.vs_design.specs.Elaborated.{is_signal, is_formed_process}
use Rattle.vs_design.proofs.Formed.{signal_at, plain_signal}
use Rattle.vs_design.proofs.Parts.{all_at}
use Rattle.vs_flat.specs.Arena.{Arena, declared_at}
use Rattle.vs_flat.specs.DesignOf.{arena_signals, arena_statements, arena_trees, design_of, kind_of, local_of}
use Rattle.vs_flat.specs.Lawful.{IsLawful, NamesEarlier}
use Rattle.vs_flat.specs.Laws.{EachProcess, AssignTargets, LawfulIsDesign, ProcessNames}
use Rattle.vs_flat.specs.Named.{kind_names_below, locals_in}
use Rattle.vs_flat.specs.Ports.{port_of}
use Rattle.vs_flat.specs.Targets.{source_of, target_of, both_of, place_of}
use Rattle.vs_flat.specs.Trees as F
use Rattle.vs_flat.specs.Trees.{Names, signals_from, signal_of, tree_at, node_tree, target_tree, first_copy, copy_count, joined}
use Rattle.vs_flat.specs.declared.expressions.Node.{Node}
use Rattle.vs_flat.specs.declared.expressions.Node.TheVariants.{Literal, Name, Bit, Part, Word, WordPart, Unary, Binary, Choice, Join, Local, Call}
use Rattle.vs_flat.specs.declared.processes.Signal.{Signal}
use Rattle.vs_flat.specs.declared.processes.Process.{Process}
use Rattle.vs_flat.specs.declared.processes.Port.{Port}
use Rattle.vs_flat.specs.declared.processes.Port.TheVariants as P
use Rattle.vs_flat.specs.declared.processes.Kind.TheVariants as K
use Rattle.vs_shape.specs.Nodes.{HasNames}
use Rattle.vs_vcd.specs.Joins.{named_number, whole_number, target_number, only_part, pair_of, named_by}
use Rattle.vs_vcd.specs.Shared.{equally_long, join_of}
use Rattle.vs_vcd.proofs.Arenas.{plain_length}
use Rattle.vs_vcd.proofs.Grouping.{by_bool}
use Rattle.vs_vcd.proofs.Arenas.{signal-at, length-signals}
use Rattle.vs_vcd.proofs.Joining.{formed_assign}

-- ---- the signal that a node names

number_from : (k n : ℕ) (ss : List Signal) → n < length ss → (F.signal_at (signals_from k ss) n).number ≡ k + n
number_from k n [] h = absurd (omega arith)
number_from k zero (s ∷ ss) h = let e : k ≡ k + 0 = omega arith in e
number_from k (suc n) (s ∷ ss) h = let e : suc k + n ≡ k + suc n = omega arith in number_from (suc k) n ss (omega arith) ∙ e

pub named_signal : (a : Arena) (n : ℕ) → n < length a.signals → (F.signal_at (arena_signals a) n).number ≡ n
named_signal a n h = let e : 0 + n ≡ n = omega arith in number_from 0 n a.signals h ∙ e

pub named_local : (a : Arena) (function n : ℕ) → n < length (locals_in (declared_at a function)) → (local_of a function n).number ≡ n
named_local a function n h = let e : 0 + n ≡ n = omega arith in number_from 0 n (locals_in (declared_at a function)) h ∙ e

-- ---- targets

both_none : (x y : Option T.Target) → option_and_then whole_number (both_of x y) ≡ None
both_none None y = refl
both_none (Some x) None = refl
both_none (Some x) (Some y) = refl

repeat_other : (count : ℕ) (e : E.Expression) → count ≢ 1 → target_number (E.Repeat count e) ≡ None
repeat_other count e h = ap (λ (t : Bool). option_and_then whole_number (if t then target_of e else None)) (ne_eqb count 1 h)

repeat_join : (count : ℕ) (high low : E.Expression) → target_number (E.Repeat count (E.Join high low)) ≡ None
repeat_join count high low =
    by_bool (target_number (E.Repeat count (E.Join high low)) ≡ None) (count == 1)
    (λ p. ap (λ (t : Bool). option_and_then whole_number (if t then both_of (target_of high) (target_of low) else None)) p ∙ both_none (target_of high) (target_of low))
    (λ p. ap (λ (t : Bool). option_and_then whole_number (if t then both_of (target_of high) (target_of low) else None)) p)

many_parts : (tree : ℕ → E.Expression) (a b : ℕ) (es : List ℕ) → target_number (E.Repeat (copy_count (a ∷ b ∷ es)) (joined (map tree (first_copy (a ∷ b ∷ es))))) ≡ None
many_parts tree a b es =
    by_bool (target_number (E.Repeat (copy_count (a ∷ b ∷ es)) (joined (map tree (first_copy (a ∷ b ∷ es))))) ≡ None) (b == a)
    (λ p.
    let one : ◌≡◌ {A = ℕ} (cond (b == a) 1 0) 1 = ap (λ (t : Bool). cond t 1 0) p in
    let more = sum_by-cons (λ n. cond (n == a) 1 0) b es in
    repeat_other (copy_count (a ∷ b ∷ es)) (joined (map tree (first_copy (a ∷ b ∷ es)))) (λ is. absurd (omega (arith, one, more, is))))
    (λ p.
    let pass : not (b == a) ≡ true = ap not p in
    let rest : ℕ = prefix_len (λ n. not (n == a)) es in
    let next : 1 + rest ≡ suc rest = omega arith in
    let copy : first_copy (a ∷ b ∷ es) ≡ a ∷ b ∷ take rest es =
    ap (λ (t : Bool). a ∷ take (cond t (1 + rest) 0) (b ∷ es)) pass ∙ ap (λ (k : ℕ). a ∷ take k (b ∷ es)) next in
    ap (λ (parts : List ℕ). target_number (E.Repeat (copy_count (a ∷ b ∷ es)) (joined (map tree parts)))) copy
    ∙ repeat_join (copy_count (a ∷ b ∷ es)) (tree a) (joined (map tree (b ∷ take rest es))))

selected : (source : E.Source) (part : Selected) (index : E.Expression) → target_number (E.Select source part index) ≡ None
selected (E.OfSignal signal) part index = refl
selected (E.OfConstant bits) part index = refl

-- what has no only part is a target's whole where it is a name
pub no_part : (names : Names) (tree : ℕ → E.Expression) (n : Node) → only_part n ≡ None → target_number (node_tree names tree n) ≡ named_number (node_tree names tree n)
no_part names tree (Literal bits signed sized) h = refl
no_part names tree (Name n) h = refl
no_part names tree (Bit of range index) h = selected (source_of (tree of)) _ (tree index)
no_part names tree (Part of range base up width) h = selected (source_of (tree of)) _ (tree base)
no_part names tree (Word n index) h = refl
no_part names tree (WordPart n address range base up width) h = refl
no_part names tree (Unary op x) h = refl
no_part names tree (Binary op x y) h = refl
no_part names tree (Choice c p q) h = refl
no_part names tree (Join []) h = refl
no_part names tree (Join (part ∷ [])) h = absurd (some_none part h)
  where
    some_none : (k : ℕ) → Some k ≡ None → ⊥
    some_none k e = cc
no_part names tree (Join (a ∷ b ∷ es)) h = many_parts tree a b es
no_part names tree (Local function n) h = refl
no_part names tree (Call function arguments) h = refl

-- and what has one is the target that this is
pub one_part : (names : Names) (tree : ℕ → E.Expression) (n : Node) (part : ℕ) → only_part n ≡ Some part → target_number (node_tree names tree n) ≡ target_number (tree part)
one_part names tree (Join (p ∷ [])) part h = ap (λ (k : ℕ). target_number (tree k)) (same p part h)
  where
    same : (x y : ℕ) → Some x ≡ Some y → x ≡ y
    same x y e = cc
one_part names tree (Join []) part h = cc
one_part names tree (Join (a ∷ b ∷ es)) part h = cc
one_part names tree (Literal bits signed sized) part h = cc
one_part names tree (Name n) part h = cc
one_part names tree (Bit of range index) part h = cc
one_part names tree (Part of range base up width) part h = cc
one_part names tree (Word n index) part h = cc
one_part names tree (WordPart n address range base up width) part h = cc
one_part names tree (Unary op x) part h = cc
one_part names tree (Binary op x y) part h = cc
one_part names tree (Choice c p q) part h = cc
one_part names tree (Local function n) part h = cc
one_part names tree (Call function arguments) part h = cc

-- the only part is one of the parts
pub part_of : (n : Node) (part : ℕ) → only_part n ≡ Some part → (parts : List ℕ) × (n ≡ Join parts) × (length parts ≡ 1) × (part ≡ slice_index parts 0)
part_of (Join (p ∷ [])) part h = (p ∷ [], refl, refl, sym (same p part h))
  where
    same : (x y : ℕ) → Some x ≡ Some y → x ≡ y
    same x y e = cc
part_of (Join []) part h = cc
part_of (Join (a ∷ b ∷ es)) part h = cc
part_of (Literal bits signed sized) part h = cc
part_of (Name n) part h = cc
part_of (Bit of range index) part h = cc
part_of (Part of range base up width) part h = cc
part_of (Word n index) part h = cc
part_of (WordPart n address range base up width) part h = cc
part_of (Unary op x) part h = cc
part_of (Binary op x y) part h = cc
part_of (Choice c p q) part h = cc
part_of (Local function n) part h = cc
part_of (Call function arguments) part h = cc

pub only_is : (parts : List ℕ) → length parts ≡ 1 → only_part (Join parts) ≡ Some (get_or parts 0 0)
only_is [] h = absurd (omega arith)
only_is (p ∷ []) h = refl
only_is (a ∷ b ∷ es) h = absurd (omega arith)

pub only_none : (parts : List ℕ) → length parts ≢ 1 → only_part (Join parts) ≡ None
only_none [] h = refl
only_none (p ∷ []) h = absurd (h refl)
only_none (a ∷ b ∷ es) h = refl

-- ---- what a process joins

-- the process of an arena that is an assign
pub assign_in : EachProcess → (a : Arena) (p : ℕ) (r : Process) (target e : ℕ) (port : Port) → slice_get a.processes p ≡ Some r → r.kind ≡ K.Assign target e port → (x : D.Process) → slice_get (design_of a).processes p ≡ Some x
    → x ≡ D.Continuous r.at (port_of port) (place_of (tree_at (arena_trees a) target)) (target_tree (tree_at (arena_trees a) target)) (tree_at (arena_trees a) e)
assign_in each a p r target e port at kind x is =
    same x _ (slice_get (design_of a).processes p) is (each a p r at ∙ ap (λ k. Some (kind_of (F.signal_at (arena_signals a)) (tree_at (arena_trees a)) (F.statement_at (arena_statements a)) r.at k)) kind)
  where
    same : (x y : D.Process) (o : Option D.Process) → o ≡ Some x → o ≡ Some y → x ≡ y
    same x y o h k = some_same (sym h ∙ k)
      where
        some_same : Some x ≡ Some y → x ≡ y
        some_same e = cc

no_pair : (m n : ℕ) → ◌≡◌ {A = Option (ℕ × ℕ)} (Some (m, n)) None → ⊥
no_pair m n h = cc

-- where not both are named whole nothing is joined
named_none : (place target_place : ℕ) (port : Port) (t : T.Target) (e : E.Expression) (o : Option E.Signal) → name_of e ≡ o → named_by port (option_map (λ (s : E.Signal). s.number) o) (whole_number t) ≡ None → join_of (D.Continuous place (port_of port) target_place t e) ≡ None
named_none place target_place P.Written t e o named h = refl
named_none place target_place P.Input (T.Whole to) e None named h = ap (λ x. equally_long x to) named
named_none place target_place P.Input (T.Whole to) e (Some from) named h = absurd (no_pair from.number to.number h)
named_none place target_place P.Input (T.PartOf to part index) e o named h = refl
named_none place target_place P.Input (T.WordOf to index) e o named h = refl
named_none place target_place P.Input (T.WordPartOf to address part index) e o named h = refl
named_none place target_place P.Input (T.Both high low) e o named h = refl
named_none place target_place P.Output (T.Whole to) e None named h = ap (λ x. equally_long x to) named
named_none place target_place P.Output (T.Whole to) e (Some from) named h = absurd (no_pair from.number to.number h)
named_none place target_place P.Output (T.PartOf to part index) e o named h = refl
named_none place target_place P.Output (T.WordOf to index) e o named h = refl
named_none place target_place P.Output (T.WordPartOf to address part index) e o named h = refl
named_none place target_place P.Output (T.Both high low) e o named h = refl

-- where both are
pub record AreNamed (port : Port) (t : T.Target) (e : E.Expression) (one other : ℕ) : Type 0 where
  pub from : E.Signal
  pub to : E.Signal
  pub named : name_of e ≡ Some from
  pub whole : t ≡ T.Whole to
  pub from_number : from.number ≡ one
  pub to_number : to.number ≡ other
  pub join_is : (place target_place : ℕ) → join_of (D.Continuous place (port_of port) target_place t e) ≡ equally_long (Some from) to

pair_first : (a b m n : ℕ) → ◌≡◌ {A = Option (ℕ × ℕ)} (Some (a, b)) (Some (m, n)) → a ≡ m
pair_first a b m n h = ap (λ (o : Option (ℕ × ℕ)). elim o [ None ↦ a | Some p ↦ p.0 ]) h

pair_second : (a b m n : ℕ) → ◌≡◌ {A = Option (ℕ × ℕ)} (Some (a, b)) (Some (m, n)) → b ≡ n
pair_second a b m n h = ap (λ (o : Option (ℕ × ℕ)). elim o [ None ↦ b | Some p ↦ p.1 ]) h

-- where the target is no whole signal
lone : (o : Option E.Signal) (one other : ℕ) → pair_of (option_map (λ (s : E.Signal). s.number) o) None ≡ Some (one, other) → ⊥
lone None one other k = cc
lone (Some s) one other k = cc

named_some : (port : Port) (t : T.Target) (e : E.Expression) (o : Option E.Signal) (one other : ℕ) → name_of e ≡ o → named_by port (option_map (λ (s : E.Signal). s.number) o) (whole_number t) ≡ Some (one, other) → AreNamed port t e one other
named_some P.Written t e o one other named h = cc
named_some P.Input (T.Whole to) e None one other named h = cc
named_some P.Input (T.Whole to) e (Some from) one other named h =
    record { from = from; to = to; named = named; whole = refl; from_number = pair_first from.number to.number one other h; to_number = pair_second from.number to.number one other h; join_is = λ place target_place. ap (λ x. equally_long x to) named }
named_some P.Input (T.PartOf to part index) e o one other named h = absurd (lone o one other h)
named_some P.Input (T.WordOf to index) e o one other named h = absurd (lone o one other h)
named_some P.Input (T.WordPartOf to address part index) e o one other named h = absurd (lone o one other h)
named_some P.Input (T.Both high low) e o one other named h = absurd (lone o one other h)
named_some P.Output (T.Whole to) e None one other named h = cc
named_some P.Output (T.Whole to) e (Some from) one other named h =
    record { from = from; to = to; named = named; whole = refl; from_number = pair_first from.number to.number one other h; to_number = pair_second from.number to.number one other h; join_is = λ place target_place. ap (λ x. equally_long x to) named }
named_some P.Output (T.PartOf to part index) e o one other named h = absurd (lone o one other h)
named_some P.Output (T.WordOf to index) e o one other named h = absurd (lone o one other h)
named_some P.Output (T.WordPartOf to address part index) e o one other named h = absurd (lone o one other h)
named_some P.Output (T.Both high low) e o one other named h = absurd (lone o one other h)

-- what is read of a process: nothing that it joins, or the numbers of two signals of the design that are no memories
pub record JoinsNone (a : Arena) (p : ℕ) : Type 0 where
  pub none : (x : D.Process) → slice_get (design_of a).processes p ≡ Some x → join_of x ≡ None

pub record JoinsMaybe (a : Arena) (p one other : ℕ) : Type 0 where
  pub from : E.Signal
  pub to : E.Signal
  pub from_is : slice_get (design_of a).signals one ≡ Some from
  pub to_is : slice_get (design_of a).signals other ≡ Some to
  pub from_number : from.number ≡ one
  pub to_number : to.number ≡ other
  pub from_plain : is_memory from ≡ false
  pub to_plain : is_memory to ≡ false
  pub join_is : (x : D.Process) → slice_get (design_of a).processes p ≡ Some x → join_of x ≡ equally_long (Some from) to

module _ (each : EachProcess) (targets : AssignTargets) (law : LawfulIsDesign) (a : Arena) (lawful : IsLawful a) (p target e : ℕ) (port : Port) (r : Process) (there : slice_get a.processes p ≡ Some r) (kind : r.kind ≡ K.Assign target e port) where
  target_is : target_number (tree_at (arena_trees a) target) ≡ whole_number (target_tree (tree_at (arena_trees a) target))
  target_is = ap (option_and_then whole_number) (targets a lawful p r.at target e port (there ∙ ap (λ k. Some (let q : Process = record { at = r.at; kind = k } in q)) kind))

  pub joins_none : named_by port (named_number (tree_at (arena_trees a) e)) (target_number (tree_at (arena_trees a) target)) ≡ None → JoinsNone a p
  joins_none h = record {
    none = λ x is.
        ap join_of (assign_in each a p r target e port there kind x is)
        ∙ named_none r.at (place_of (tree_at (arena_trees a) target)) port (target_tree (tree_at (arena_trees a) target)) (tree_at (arena_trees a) e) (name_of (tree_at (arena_trees a) e)) refl
        (ap (named_by port (named_number (tree_at (arena_trees a) e))) (sym target_is) ∙ h);
  }

  formed : (x : D.Process) → slice_get (design_of a).processes p ≡ Some x → is_formed_process (design_of a) x ≡ true
  formed x is = all_at (is_formed_process (design_of a)) (design_of a).processes p x (law a lawful).formed is

  pub joins_maybe : (one other : ℕ) → named_by port (named_number (tree_at (arena_trees a) e)) (target_number (tree_at (arena_trees a) target)) ≡ Some (one, other) → JoinsMaybe a p one other
  joins_maybe one other h =
      let d = design_of a in
      let t = target_tree (tree_at (arena_trees a) target) in
      let tree = tree_at (arena_trees a) e in
      let place = place_of (tree_at (arena_trees a) target) in
      let n = named_some port t tree (name_of tree) one other refl (ap (named_by port (named_number tree)) (sym target_is) ∙ h) in
      let x : D.Process = D.Continuous r.at (port_of port) place t tree in
      let here : slice_get d.processes p ≡ Some x = each a p r there ∙ ap (λ k. Some (kind_of (F.signal_at (arena_signals a)) (tree_at (arena_trees a)) (F.statement_at (arena_statements a)) r.at k)) kind in
      let whole : is_formed_process d (D.Continuous r.at (port_of port) place (T.Whole n.to) tree) ≡ true = sym (ap (λ y. is_formed_process d (D.Continuous r.at (port_of port) place y tree)) n.whole) ∙ formed x here in
      let plain = formed_assign d r.at (port_of port) place n.to tree whole n.from n.named in
      record {
        from = n.from;
        to = n.to;
        from_is = subst (λ (k : ℕ). slice_get d.signals k ≡ Some n.from) n.from_number (signal_at d n.from (plain_signal d n.from plain.from));
        to_is = subst (λ (k : ℕ). slice_get d.signals k ≡ Some n.to) n.to_number (signal_at d n.to (plain_signal d n.to plain.to));
        from_number = n.from_number;
        to_number = n.to_number;
        from_plain = no_memory n.from (and_parts (is_signal d n.from) (not (is_memory n.from)) plain.from).1;
        to_plain = no_memory n.to (and_parts (is_signal d n.to) (not (is_memory n.to)) plain.to).1;
        join_is = λ y is. ap join_of (assign_in each a p r target e port there kind y is) ∙ n.join_is r.at place;
      }
    where
      no_memory : (s : E.Signal) → not (is_memory s) ≡ true → is_memory s ≡ false
      no_memory s k = by_bool (is_memory s ≡ false) (is_memory s) (λ q. absurd (clash (ap not q) k)) (λ q. q)
        where
          clash : not (is_memory s) ≡ false → not (is_memory s) ≡ true → ⊥
          clash q k = cc

-- both are there
pub maybe_within : (a : Arena) (p one other : ℕ) → JoinsMaybe a p one other → (one < length a.signals) × (other < length a.signals)
maybe_within a p one other j =
    let first = slice_get_within (design_of a).signals one j.from j.from_is in
    let second = slice_get_within (design_of a).signals other j.to j.to_is in
    (omega (arith, first, length-signals a), omega (arith, second, length-signals a))

-- and have the lengths of their ranges
plain_range : (a : Arena) (n : ℕ) (s : E.Signal) (f : Signal) → slice_get (design_of a).signals n ≡ Some s → slice_get a.signals n ≡ Some f → is_memory s ≡ false → E.signal_length s ≡ E.range_or_one f.range
plain_range a n s f is at plain = plain_length s plain ∙ ap (λ (t : E.Signal). E.range_or_one t.range) (same s (signal_of n f) (slice_get (design_of a).signals n) is (signal-at a n f at))
  where
    same : (x y : E.Signal) (o : Option E.Signal) → o ≡ Some x → o ≡ Some y → x ≡ y
    same x y o h k = some_same (sym h ∙ k)
      where
        some_same : Some x ≡ Some y → x ≡ y
        some_same e = cc

pub maybe_joined : (a : Arena) (p one other : ℕ) (f g : Signal) → JoinsMaybe a p one other → slice_get a.signals one ≡ Some f → slice_get a.signals other ≡ Some g → E.range_or_one f.range ≡ E.range_or_one g.range
    → (x : D.Process) → slice_get (design_of a).processes p ≡ Some x → Some (one, other) ≡ join_of x
maybe_joined a p one other f g j at_one at_other long x is =
    let lengths : E.signal_length j.from ≡ E.signal_length j.to = plain_range a one j.from f j.from_is at_one j.from_plain ∙ long ∙ sym (plain_range a other j.to g j.to_is at_other j.to_plain) in
    sym (j.join_is x is
    ∙ ap (λ (t : Bool). if t then Some (j.from.number, j.to.number) else None) (eq-eqb (E.signal_length j.from) (E.signal_length j.to) lengths)
    ∙ ap (λ (k : ℕ). Some (k, j.to.number)) j.from_number ∙ ap (λ (k : ℕ). Some (one, k)) j.to_number)

pub maybe_none : (a : Arena) (p one other : ℕ) (f g : Signal) → JoinsMaybe a p one other → slice_get a.signals one ≡ Some f → slice_get a.signals other ≡ Some g → E.range_or_one f.range ≢ E.range_or_one g.range
    → (x : D.Process) → slice_get (design_of a).processes p ≡ Some x → None ≡ join_of x
maybe_none a p one other f g j at_one at_other differ x is =
    let lengths : E.signal_length j.from ≢ E.signal_length j.to = λ h. differ (sym (plain_range a one j.from f j.from_is at_one j.from_plain) ∙ h ∙ plain_range a other j.to g j.to_is at_other j.to_plain) in
    sym (j.join_is x is ∙ ap (λ (t : Bool). if t then Some (j.from.number, j.to.number) else None) (ne_eqb (E.signal_length j.from) (E.signal_length j.to) lengths))

-- the only part is an earlier expression
pub part_below : (signals e : ℕ) (n : Node) (part : ℕ) → only_part n ≡ Some part → HasNames signals e n → part < e
part_below signals e n part h names =
    let p = part_of n part h in
    let each : HasNames signals e (Join p.0) = subst (HasNames signals e) p.1 names in
    subst (λ (k : ℕ). k < e) (sym p.3) (each 0 (omega (arith, p.2)))

-- what an assign names is there
pub assign_there : ProcessNames → (a : Arena) → NamesEarlier a → (p : ℕ) (r : Process) (target e : ℕ) (port : Port) → slice_get a.processes p ≡ Some r → r.kind ≡ K.Assign target e port → (target < length a.nodes) × (e < length a.nodes)
assign_there law a n p r target e port i h =
    let c : kind_names_below (length a.signals) (length a.nodes) (length a.statements) (K.Assign target e port) ≡ true = sym (ap (kind_names_below (length a.signals) (length a.nodes) (length a.statements)) h) ∙ law a n p r i in
    let b : (nat_lt target (length a.nodes) && (nat_lt e (length a.nodes) && true)) ≡ true = (and_parts true _ (and_parts (true && (nat_lt target (length a.nodes) && (nat_lt e (length a.nodes) && true))) true c).0).1 in
    let f = and_parts (nat_lt target (length a.nodes)) (nat_lt e (length a.nodes) && true) b in
    (ltb-true target (length a.nodes) f.0, ltb-true e (length a.nodes) (and_parts (nat_lt e (length a.nodes)) true f.1).0)
