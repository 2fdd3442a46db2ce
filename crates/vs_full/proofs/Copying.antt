-- The tables of copies and of roots.
use Rattle.std.proofs.Common.{◌≡◌, ℕ, zero, suc, ◌+◌, ◌-◌, ◌<◌, ◌≤◌, ◌≢◌, Bool, true, false, ◌&&◌, ◌==◌, eqb-true, eq-eqb, List, [], ◌∷◌, ◌++◌, length, take, set, replicate, get_or-set_same, get_or-set_other, if◌then◌else◌, Option, Some, None, option_map, refl, sym, ap, ◌∙◌, subst, arith}
use Rattle.std.specs.Prelude.{slice_get, slice_index_or, option_and_then, is_some, unwrap_or}
use Rattle.std.proofs.Math.ListN.{length-set}
use Rattle.std.proofs.lemmas.List.{take_more, take_all, get_or-map}
use Rattle.std.proofs.lemmas.Option.{slice_get_within, get_or_from_slice_get}
use Rattle.vs_design.specs.Expressions.{Signal, signal_length, Expression}
use Rattle.vs_design.specs.Statements.{Target, Whole}
use Rattle.vs_design.specs.Designs.{Port, Written, InputPort, OutputPort, Process, Continuous, Design}
use Rattle.vs_design.specs.Clocks.{name_of}
use Rattle.vs_design.specs.Footprints.{is_net}
use Rattle.vs_design.specs.Elaborated.{IsLawfulDesign, is_plain, is_formed, is_formed_target, has_constant_selects, is_formed_port, is_formed_process}
use Rattle.vs_design.specs.Selects.{copied_from, root_within, select_root}
use Rattle.vs_design.proofs.Lists.{and_both}
use Rattle.vs_design.proofs.Parts.{all_at}
use Rattle.vs_design.proofs.Formed.{signal_at as plain_at, plain_signal}
use Rattle.vs_design.proofs.SelectNets as nets
use Rattle.vs_flat.specs.declared.processes.Process.{Process as FlatProcess}
use Rattle.vs_flat.specs.declared.processes.Port.{Port as FlatPort}
use Rattle.vs_flat.specs.declared.processes.Port.TheVariants as P
use Rattle.vs_flat.specs.declared.processes.Event.{Event}
use Rattle.vs_flat.specs.declared.processes.Kind.TheVariants as K
use Rattle.vs_flat.specs.Arena.{Arena}
use Rattle.vs_flat.specs.DesignOf.{arena_signals, arena_trees, design_of}
use Rattle.vs_flat.specs.Laws.{EachProcess}
use Rattle.vs_flat.specs.Lawful.{IsLawful, has_target}
use Rattle.vs_flat.specs.Ports.{port_of}
use Rattle.vs_flat.specs.Targets.{place_of}
use Rattle.vs_flat.specs.Trees.{no_signal, signal_at, target_tree, tree_at}
use Rattle.vs_reads.proofs.ByKind.{kind_in, kind_is, process_same}
use Rattle.vs_shape.specs.Nodes.{tree_of}
use Rattle.vs_full.specs.Roots.{AreCopies, AreCopiesBefore, AreCopiesBy, AreRoots, IsCopyWithin, IsNamed, copied_number, copied_number_by, first_number, is_input_port, noted, number_of, root_number, roots_in, with_copy}
use Rattle.vs_full.proofs.Rooting.{copied_more, design_long, first_of, name_target, noted_is, signal_numbered, signal_there}

same_number : (m n : ℕ) → Some m ≡ Some n → m ≡ n
same_number m n h = cc

-- the signal of the design that is named, by its number
pub named_signal : (a : Arena) (s : Signal) (n : ℕ) → Some n ≡ Some (number_of s) → slice_get (design_of a).signals s.number ≡ Some s → signal_at (arena_signals a) n ≡ s
named_signal a s n h there = get_or_from_slice_get (arena_signals a) n s no_signal (ap (slice_get (arena_signals a)) (same_number n s.number h) ∙ there)

pub named_there : (a : Arena) (s : Signal) (n : ℕ) → Some n ≡ Some (number_of s) → slice_get (design_of a).signals s.number ≡ Some s → n < length a.signals
named_there a s n h there =
    let inside = slice_get_within (arena_signals a) s.number s there in
    omega (arith, inside, design_long a, same_number n s.number h)

-- ---- what one port copies

abbrev pub chosen : Bool → ℕ → ℕ → Option (ℕ × ℕ)
chosen c m n = if c then Some (m, n) else None

pub copied_is : (a : Arena) (to from : ℕ) (o : Option Signal) (c : Bool) → to < length a.signals → Some from ≡ option_map number_of o → ((s : Signal) → o ≡ Some s → slice_get (design_of a).signals s.number ≡ Some s)
    → c ≡ (signal_length (signal_at (arena_signals a) to) == signal_length (signal_at (arena_signals a) from)) → (if c then Some (from, to) else None) ≡ copied_number (Some (signal_at (arena_signals a) to)) o
copied_is a to from None c inside h named long = cc
copied_is a to from (Some s) c inside h named long =
    let at = named_signal a s from h (named s refl) in
    let t = signal_at (arena_signals a) to in
    ap (λ (z : Bool). chosen z from to) (long ∙ ap (λ (z : Signal). signal_length t == signal_length z) at)
    ∙ ap (λ (m : ℕ). chosen (signal_length t == signal_length s) m to) (same_number from s.number h)
    ∙ ap (λ (n : ℕ). chosen (signal_length t == signal_length s) s.number n) (sym (signal_numbered a to inside))

pub named_number_there : (a : Arena) (o : Option Signal) (n : ℕ) → Some n ≡ option_map number_of o → ((s : Signal) → o ≡ Some s → slice_get (design_of a).signals s.number ≡ Some s) → n < length a.signals
named_number_there a None n h named = cc
named_number_there a (Some s) n h named = named_there a s n h (named s refl)

-- by the number of the signal that is written
pub by_number : (a : Arena) (t o : Option Signal) (to : ℕ) (r : Option (ℕ × ℕ)) → Some to ≡ option_map number_of t → ((s : Signal) → t ≡ Some s → slice_get (design_of a).signals s.number ≡ Some s) → r ≡ copied_number (Some (signal_at (arena_signals a) to)) o → r ≡ copied_number t o
by_number a None o to r h named is = cc
by_number a (Some t) o to r h named is = is ∙ ap (λ (z : Signal). copied_number (Some z) o) (named_signal a t to h (named t refl))

pub copied_none : (t : Option Signal) (o : Option Signal) → None ≡ option_map number_of o → None ≡ copied_number t o
copied_none None o h = refl
copied_none (Some t) None h = refl
copied_none (Some t) (Some s) h = cc

pub copied_to_none : (t o : Option Signal) → None ≡ option_map number_of t → None ≡ copied_number t o
copied_to_none None o h = refl
copied_to_none (Some t) o h = cc

-- ---- the names of a port

-- the parts of an input port's assign are formed
pub record PortParts (d : Design) (t : Target) (e : Expression) : Type 0 where
  pub target : is_formed_target d is_net t ≡ true
  pub read : is_formed d e ≡ true

pub port_parts : (d : Design) → IsLawfulDesign d → (p place target_place : ℕ) (port : Port) (target : Target) (e : Expression) → slice_get d.processes p ≡ Some (Continuous place port target_place target e) → PortParts d target e
port_parts d l p place target_place port target e at =
    let f = all_at (is_formed_process d) d.processes p (Continuous place port target_place target e) l.formed at in
    let k = and_both (is_formed_target d is_net target && has_constant_selects target && is_formed d e) (is_formed_port port target e) f in
    let m = and_both (is_formed_target d is_net target && has_constant_selects target) (is_formed d e) k.0 in
    record { target = (and_both (is_formed_target d is_net target) (has_constant_selects target) m.0).0; read = m.1 }

pub target_whole : (e : Expression) (t : Signal) → name_of e ≡ Some t → target_tree e ≡ Whole t
target_whole e t h = ap (λ (o : Option Target). unwrap_or o (Whole no_signal)) (name_target e t h)

pub to_named : (d : Design) (to e : Expression) → PortParts d (target_tree to) e → IsNamed d to
to_named d to e f s h =
    let whole = subst (λ (t : Target). is_formed_target d is_net t ≡ true) (target_whole to s h) f.target in
    plain_at d s (plain_signal d s (and_both (is_plain d s) (is_net s) whole).0)

pub input_made : EachProcess → (a : Arena) (p : ℕ) (r : FlatProcess) (target e : ℕ) (port : FlatPort) → slice_get a.processes p ≡ Some r → r.kind ≡ K.Assign target e port
    → slice_get (design_of a).processes p ≡ Some (Continuous r.at (port_of port) (place_of (tree_of a target)) (target_tree (tree_of a target)) (tree_of a e))
input_made each a p r target e port at kind = kind_is each a p r (K.Assign target e port) at kind

pub input_parts : EachProcess → (a : Arena) → IsLawful a → (p : ℕ) (r : FlatProcess) (target e : ℕ) (port : FlatPort) → slice_get a.processes p ≡ Some r → r.kind ≡ K.Assign target e port → PortParts (design_of a) (target_tree (tree_of a target)) (tree_of a e)
input_parts each a l p r target e port at kind =
    port_parts (design_of a) l.design p r.at (place_of (tree_of a target)) (port_of port) (target_tree (tree_of a target)) (tree_of a e) (input_made each a p r target e port at kind)

-- what an input port writes has a name
input_named : (a : Arena) → IsLawful a → (p : ℕ) (r : FlatProcess) (target e : ℕ) (port : FlatPort) → is_input_port (port_of port) ≡ true → slice_get a.processes p ≡ Some r → r.kind ≡ K.Assign target e port → is_some (name_of (tree_of a target)) ≡ true
input_named a l p r target e P.Input told at kind =
    ap (has_target (tree_at (arena_trees a))) (sym kind) ∙ all_at (λ (q : FlatProcess). has_target (tree_at (arena_trees a)) q.kind) a.processes p r l.assign_targets at
input_named a l p r target e P.Written told at kind = cc
input_named a l p r target e P.Output told at kind = cc

input_is : (port : Port) → is_input_port port ≡ true → port ≡ InputPort
input_is InputPort h = refl
input_is Written h = cc
input_is OutputPort h = cc

pub noted_input : EachProcess → (a : Arena) → IsLawful a → (p : ℕ) (r : FlatProcess) (target e : ℕ) (port : FlatPort) (x : Process) (n : ℕ) → is_input_port (port_of port) ≡ true → slice_get a.processes p ≡ Some r → r.kind ≡ K.Assign target e port
    → slice_get (design_of a).processes p ≡ Some x → n < length a.signals → noted n (copied_number (name_of (tree_of a target)) (name_of (tree_of a e))) ≡ copied_number_by (signal_at (arena_signals a) n) x
noted_input each a l p r target e port x n told at kind is inside = go (name_of (tree_of a target)) refl (input_named a l p r target e port told at kind)
  where
    made : slice_get (design_of a).processes p ≡ Some (Continuous r.at InputPort (place_of (tree_of a target)) (target_tree (tree_of a target)) (tree_of a e))
    made = input_made each a p r target e port at kind ∙ ap (λ (q : Port). Some (Continuous r.at q (place_of (tree_of a target)) (target_tree (tree_of a target)) (tree_of a e))) (input_is (port_of port) told)

    go : (o : Option Signal) → name_of (tree_of a target) ≡ o → is_some o ≡ true → noted n (copied_number o (name_of (tree_of a e))) ≡ copied_number_by (signal_at (arena_signals a) n) x
    go None q h = cc
    go (Some t) q h =
        let there = to_named (design_of a) (tree_of a target) (tree_of a e) (input_parts each a l p r target e port at kind) t q in
        noted_is (design_of a) r.at (place_of (tree_of a target)) t (signal_at (arena_signals a) n) (tree_of a e) n there (signal_there a n inside) (signal_numbered a n inside)
        ∙ ap (copied_number_by (signal_at (arena_signals a) n))
        (ap (λ (z : Target). Continuous r.at InputPort (place_of (tree_of a target)) z (tree_of a e)) (sym (target_whole (tree_of a target) t q))
        ∙ process_same (Continuous r.at InputPort (place_of (tree_of a target)) (target_tree (tree_of a target)) (tree_of a e)) x (slice_get (design_of a).processes p) made is)

pub noted_other : EachProcess → (a : Arena) (p : ℕ) (r : FlatProcess) (target e : ℕ) (port : FlatPort) (x : Process) (s : Signal) → is_input_port (port_of port) ≡ false → slice_get a.processes p ≡ Some r → r.kind ≡ K.Assign target e port
    → slice_get (design_of a).processes p ≡ Some x → None ≡ copied_number_by s x
noted_other each a p r target e port x s told at kind is =
    go (port_of port) told ∙ ap (copied_number_by s) (process_same (kind_in a r.at (K.Assign target e port)) x (slice_get (design_of a).processes p) (kind_is each a p r (K.Assign target e port) at kind) is)
  where
    go : (q : Port) → is_input_port q ≡ false → None ≡ copied_number_by s (Continuous r.at q (place_of (tree_of a target)) (target_tree (tree_of a target)) (tree_of a e))
    go InputPort h = cc
    go Written h = refl
    go OutputPort h = refl

pub noted_block : EachProcess → (a : Arena) (p : ℕ) (r : FlatProcess) (star : Bool) (events : List Event) (statement : ℕ) (x : Process) (s : Signal) → slice_get a.processes p ≡ Some r → r.kind ≡ K.Block star events statement
    → slice_get (design_of a).processes p ≡ Some x → None ≡ copied_number_by s x
noted_block each a p r star events statement x s at kind is = ap (copied_number_by s) (process_same (kind_in a r.at (K.Block star events statement)) x (slice_get (design_of a).processes p) (kind_is each a p r (K.Block star events statement) at kind) is)

-- ---- the table of copies

abbrev nones : ℕ → List (Option ℕ)
nones n = replicate n None

nones_long : (n : ℕ) → length (nones n) ≡ n
nones_long zero = refl
nones_long (suc n) = ap suc (nones_long n)

none_at : (n m : ℕ) → slice_index_or (nones n) m None ≡ None
none_at zero zero = refl
none_at zero (suc m) = refl
none_at (suc n) zero = refl
none_at (suc n) (suc m) = none_at n m

-- no process copies anything yet
pub no_copies : (d : Design) (n : ℕ) (copies : List (Option ℕ)) → n ≡ length d.signals → copies ≡ replicate n None → AreCopiesBefore d 0 copies
no_copies d n copies long is = record { count = ap length is ∙ nones_long n ∙ long; each = λ m s at. ap (λ (cs : List (Option ℕ)). slice_index_or cs m None) is ∙ none_at n m }

next_process : (ps : List Process) (p : ℕ) (x : Process) → slice_get ps p ≡ Some x → take (p + 1) ps ≡ take p ps ++ x ∷ []
next_process ps p x h = take_more ps p x (slice_get_within ps p x h) ∙ ap (λ (y : Process). take p ps ++ y ∷ []) (get_or_from_slice_get ps p x x h)

longer : (copies : List (Option ℕ)) (copy : Option (ℕ × ℕ)) → length (with_copy copies copy) ≡ length copies
longer copies None = refl
longer copies (Some c) = length-set copies c.1 (first_number (slice_index_or copies c.1 None) c.0)

with_first : (o : Option ℕ) (n : ℕ) → first_number o n ≡ first_of o (Some n)
with_first None n = refl
with_first (Some m) n = refl

with_none : (o : Option ℕ) → o ≡ first_of o None
with_none None = refl
with_none (Some m) = refl

-- at each signal the first copy stays
with_at : (copies : List (Option ℕ)) (copy : Option (ℕ × ℕ)) (n : ℕ) → IsCopyWithin (length copies) copy → slice_index_or (with_copy copies copy) n None ≡ first_of (slice_index_or copies n None) (noted n copy)
with_at copies None n within = with_none (slice_index_or copies n None)
with_at copies (Some c) n within = go (c.1 == n) refl
  where
    now : List (Option ℕ)
    now = set copies c.1 (first_number (slice_index_or copies c.1 None) c.0)

    go : (t : Bool) → (c.1 == n) ≡ t → slice_index_or now n None ≡ first_of (slice_index_or copies n None) (if c.1 == n then Some c.0 else None)
    go true e =
        let same = eqb-true c.1 n e in
        ap (λ (m : ℕ). slice_index_or now m None) (sym same) ∙ get_or-set_same copies c.1 (first_number (slice_index_or copies c.1 None) c.0) None within.1
        ∙ with_first (slice_index_or copies c.1 None) c.0 ∙ ap (λ (m : ℕ). first_of (slice_index_or copies m None) (Some c.0)) same
        ∙ sym (ap (λ (t : Bool). first_of (slice_index_or copies n None) (if t then Some c.0 else None)) e)
    go false e =
        let other : n ≢ c.1 = λ q. differ (c.1 == n) e (eq-eqb c.1 n (sym q)) in
        get_or-set_other copies c.1 n (first_number (slice_index_or copies c.1 None) c.0) None other ∙ with_none (slice_index_or copies n None)
        ∙ sym (ap (λ (t : Bool). first_of (slice_index_or copies n None) (if t then Some c.0 else None)) e)
      where
        differ : (t : Bool) → t ≡ false → t ≡ true → ⊥
        differ true h k = cc
        differ false h k = cc

-- one process more
pub copies_more : (a : Arena) (p : ℕ) (x : Process) (copies : List (Option ℕ)) (copy : Option (ℕ × ℕ)) → slice_get (design_of a).processes p ≡ Some x → IsCopyWithin (length a.signals) copy
    → ((n : ℕ) → n < length a.signals → noted n copy ≡ copied_number_by (signal_at (arena_signals a) n) x) → AreCopiesBefore (design_of a) p copies → AreCopiesBefore (design_of a) (p + 1) (with_copy copies copy)
copies_more a p x copies copy at within is h = record { count = longer copies copy ∙ h.count; each = each }
  where
    d : Design
    d = design_of a

    inside : IsCopyWithin (length copies) copy
    inside = subst (λ n. IsCopyWithin n copy) (sym (h.count ∙ design_long a)) within

    each : (n : ℕ) (s : Signal) → slice_get d.signals n ≡ Some s → slice_index_or (with_copy copies copy) n None ≡ option_map number_of (copied_from (take (p + 1) d.processes) s)
    each n s there =
        let below : n < length a.signals = (let w = slice_get_within d.signals n s there in omega (arith, w, design_long a)) in
        let own : signal_at (arena_signals a) n ≡ s = get_or_from_slice_get (arena_signals a) n s no_signal there in
        with_at copies copy n inside ∙ ap (λ (o : Option ℕ). first_of o (noted n copy)) (h.each n s there)
        ∙ ap (first_of (option_map number_of (copied_from (take p d.processes) s))) (is n below ∙ ap (λ (z : Signal). copied_number_by z x) own)
        ∙ sym (copied_more (take p d.processes) x s) ∙ sym (ap (λ (ps : List Process). option_map number_of (copied_from ps s)) (next_process d.processes p x at))

pub all_copies : (d : Design) (p : ℕ) (copies : List (Option ℕ)) → length d.processes ≤ p → AreCopiesBefore d p copies → AreCopies d copies
all_copies d p copies h c = subst (λ (ps : List Process). AreCopiesBy d ps copies) (take_all p d.processes h) c

-- ---- roots

pub nonzero : (n : ℕ) → (n ≡ 0 → ⊥) → 1 ≤ n
nonzero zero h = absurd (h refl)
nonzero (suc n) h = omega arith

pub root_input : (n : ℕ) (d : Design) (s : Signal) → s.input ≡ true → Some s.number ≡ root_number n d s
root_input zero d s h = sym (ap (λ (c : Bool). option_map number_of (if c then Some s else None)) h)
root_input (suc n) d s h = sym (ap (λ (c : Bool). option_map number_of (if c then Some s else (if s.net then option_and_then (root_within n d.processes) (copied_from d.processes s) else None))) h)

root_first : (d : Design) (s : Signal) → s.input ≡ false → None ≡ root_number 0 d s
root_first d s h = sym (ap (λ (c : Bool). option_map number_of (if c then Some s else None)) h)

root_later : (n : ℕ) (d : Design) (s : Signal) → s.input ≡ false → root_number (suc n) d s ≡ option_map number_of (if s.net then option_and_then (root_within n d.processes) (copied_from d.processes s) else None)
root_later n d s h = ap (λ (c : Bool). option_map number_of (if c then Some s else (if s.net then option_and_then (root_within n d.processes) (copied_from d.processes s) else None))) h

pub root_variable : (n : ℕ) (d : Design) (s : Signal) → s.input ≡ false → s.net ≡ false → None ≡ root_number n d s
root_variable zero d s h k = root_first d s h
root_variable (suc n) d s h k = sym (root_later n d s h ∙ ap (λ (c : Bool). option_map number_of (if c then option_and_then (root_within n d.processes) (copied_from d.processes s) else None)) k)

pub root_last : (n : ℕ) (d : Design) (s : Signal) → s.input ≡ false → n ≡ 0 → None ≡ root_number n d s
root_last n d s h e = root_first d s h ∙ ap (λ (m : ℕ). root_number m d s) (sym e)

root_net : (n : ℕ) (d : Design) (s : Signal) → s.input ≡ false → s.net ≡ true → root_number (suc n) d s ≡ option_map number_of (option_and_then (root_within n d.processes) (copied_from d.processes s))
root_net n d s h k = root_later n d s h ∙ ap (λ (c : Bool). option_map number_of (if c then option_and_then (root_within n d.processes) (copied_from d.processes s) else None)) k

pub root_none : (n : ℕ) (d : Design) (s : Signal) → (n ≡ 0 → ⊥) → s.input ≡ false → s.net ≡ true → None ≡ option_map number_of (copied_from d.processes s) → None ≡ root_number n d s
root_none zero d s some h k c = absurd (some refl)
root_none (suc n) d s some h k c = sym (root_net n d s h k ∙ go (copied_from d.processes s) c)
  where
    go : (o : Option Signal) → None ≡ option_map number_of o → option_map number_of (option_and_then (root_within n d.processes) o) ≡ None
    go None h = refl
    go (Some u) h = cc

-- what it copies is a signal of the design
pub copied_there : (a : Arena) → IsLawful a → (s : Signal) (from : ℕ) → slice_get (design_of a).signals s.number ≡ Some s → Some from ≡ option_map number_of (copied_from (design_of a).processes s) → from < length a.signals
copied_there a l s from there h = go (copied_from (design_of a).processes s) refl h
  where
    go : (o : Option Signal) → copied_from (design_of a).processes s ≡ o → Some from ≡ option_map number_of o → from < length a.signals
    go None e h = cc
    go (Some u) e h = named_there a u from h (nets.port_to (design_of a) l.design s u there e).there

pub root_copied : (a : Arena) → IsLawful a → (n from : ℕ) (s : Signal) (r : Option ℕ) → slice_get (design_of a).signals s.number ≡ Some s → (n ≡ 0 → ⊥) → s.input ≡ false → s.net ≡ true
    → Some from ≡ option_map number_of (copied_from (design_of a).processes s) → r ≡ root_number (n - 1) (design_of a) (signal_at (arena_signals a) from) → r ≡ root_number n (design_of a) s
root_copied a l zero from s r there some h k c is = absurd (some refl)
root_copied a l (suc n) from s r there some h k c is = is ∙ before ∙ go (copied_from d.processes s) refl c ∙ sym (root_net n d s h k)
  where
    d : Design
    d = design_of a

    before : root_number (suc n - 1) d (signal_at (arena_signals a) from) ≡ root_number n d (signal_at (arena_signals a) from)
    before = let e : suc n - 1 ≡ n = omega arith in ap (λ (m : ℕ). root_number m d (signal_at (arena_signals a) from)) e

    go : (o : Option Signal) → copied_from d.processes s ≡ o → Some from ≡ option_map number_of o → root_number n d (signal_at (arena_signals a) from) ≡ option_map number_of (option_and_then (root_within n d.processes) o)
    go None e h = cc
    go (Some u) e h = ap (root_number n d) (named_signal a u from h (nets.port_to d l.design s u there e).there)

-- ---- the table of roots

last_root : (d : Design) (ss : List Signal) (s : Signal) → roots_in d (ss ++ s ∷ []) ≡ roots_in d ss ++ option_map number_of (select_root d s) ∷ []
last_root d [] s = refl
last_root d (t ∷ ss) s = ap (λ (rs : List (Option ℕ)). option_map number_of (select_root d t) ∷ rs) (last_root d ss s)

pub roots_more : (d : Design) (n steps : ℕ) (roots : List (Option ℕ)) (root : Option ℕ) → n < length d.signals → steps ≡ length d.processes → root ≡ root_number steps d (signal_at d.signals n)
    → roots ≡ roots_in d (take n d.signals) → roots ++ root ∷ [] ≡ roots_in d (take (n + 1) d.signals)
roots_more d n steps roots root inside all is h =
    ap (λ (rs : List (Option ℕ)). rs ++ root ∷ []) h ∙ ap (λ (r : Option ℕ). roots_in d (take n d.signals) ++ r ∷ []) (is ∙ ap (λ (m : ℕ). root_number m d (signal_at d.signals n)) all)
    ∙ sym (last_root d (take n d.signals) (signal_at d.signals n)) ∙ sym (ap (roots_in d) (take_more d.signals n no_signal inside))

pub all_roots : (d : Design) (n : ℕ) (roots : List (Option ℕ)) → length d.signals ≤ n → roots ≡ roots_in d (take n d.signals) → AreRoots d roots
all_roots d n roots h is = is ∙ ap (roots_in d) (take_all n d.signals h)

roots_long : (d : Design) (ss : List Signal) → length (roots_in d ss) ≡ length ss
roots_long d [] = refl
roots_long d (s ∷ ss) = ap suc (roots_long d ss)

-- as many as there are signals, and that of each
pub roots_count : (a : Arena) (roots : List (Option ℕ)) → AreRoots (design_of a) roots → length roots ≡ length a.signals
roots_count a roots h = ap length h ∙ roots_long (design_of a) (design_of a).signals ∙ design_long a

root_of : (d : Design) (ss : List Signal) (n : ℕ) (s : Signal) → slice_get ss n ≡ Some s → slice_index_or (roots_in d ss) n None ≡ option_map number_of (select_root d s)
root_of d ss n s h =
    get_or-map (λ (z : Signal). option_map number_of (select_root d z)) ss n no_signal None (slice_get_within ss n s h)
    ∙ ap (λ (z : Signal). option_map number_of (select_root d z)) (get_or_from_slice_get ss n s no_signal h)

pub root_at : (d : Design) (roots : List (Option ℕ)) (n : ℕ) (s : Signal) → AreRoots d roots → slice_get d.signals n ≡ Some s → slice_index_or roots n None ≡ option_map number_of (select_root d s)
root_at d roots n s h at = ap (λ (rs : List (Option ℕ)). slice_index_or rs n None) h ∙ root_of d d.signals n s at
