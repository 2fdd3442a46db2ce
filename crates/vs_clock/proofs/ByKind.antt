-- The nets that a process of a flat design copies, by its kind.
use Rattle.std.proofs.Common.{◌≡◌, ℕ, ◌<◌, Bool, true, false, ◌&&◌, if◌then◌else◌, refl, sym, ap, ◌∙◌, Some, None, Option, option_map, nat_lt, length}
use Rattle.std.specs.Prelude.{slice_get, option_and_then}
use Rattle.std.proofs.lemmas.Bool.{ltb-true}
use Rattle.vs_design.specs.Designs as D
use Rattle.vs_design.specs.Clocks.{name_of}
use Rattle.vs_design.specs.Dead.{is_port}
use Rattle.vs_design.specs.Statements.{Target}
use Rattle.vs_flat.specs.declared.placed.Placed.{Placed}
use Rattle.vs_flat.specs.declared.expressions.Node.{Node}
use Rattle.vs_flat.specs.declared.expressions.Node.TheVariants as N
use Rattle.vs_flat.specs.declared.processes.Process.{Process}
use Rattle.vs_flat.specs.declared.processes.Kind.TheVariants as K
use Rattle.vs_flat.specs.declared.processes.Kind.{Kind}
use Rattle.vs_flat.specs.declared.processes.Port.{Port}
use Rattle.vs_flat.specs.declared.processes.Port.TheVariants as P
use Rattle.vs_flat.specs.Ports.{port_of}
use Rattle.vs_flat.specs.Targets.{place_of}
use Rattle.vs_flat.specs.Arena.{Arena, node_at}
use Rattle.vs_flat.specs.Lawful.{NamesEarlier, IsLawful}
use Rattle.vs_flat.specs.Laws.{AssignTargets, EachProcess, NodeNames}
use Rattle.vs_flat.specs.Named.{node_names_below}
use Rattle.vs_flat.specs.Trees.{tree_at, target_tree}
use Rattle.vs_flat.specs.DesignOf.{arena_trees, design_of}
use Rattle.vs_clock.specs.Ports.{bit_of, both_bits, whole_bit, target_bit, port_bits, ported_bits, is_port_kind}
use Rattle.vs_reads.proofs.Tests.{and_both}
use Rattle.vs_clock.proofs.Copies.{whole_port}
use Rattle.vs_reads.proofs.ByKind.{kind_in, kind_is, process_same}

-- the signal that a node names
pub named_there : NodeNames → (a : Arena) → NamesEarlier a → (e : ℕ) (i : Node) (signal : ℕ) → node_at a e ≡ Some i → i ≡ N.Name signal → signal < length a.signals
named_there law a n e i signal at is = go (slice_get a.nodes e) refl at
  where
    some_same : (x y : Node) → Some x ≡ Some y → x ≡ y
    some_same x y e = cc

    go : (o : Option (Placed Node)) → slice_get a.nodes e ≡ o → option_map (λ (n : Placed Node). n.item) o ≡ Some i → signal < length a.signals
    go None f g = cc
    go (Some m) f g =
        let c : node_names_below (length a.signals) e (N.Name signal) ≡ true = sym (ap (node_names_below (length a.signals) e) (some_same m.item i g ∙ is)) ∙ law a n e m f in
        ltb-true signal (length a.signals) (and_both (nat_lt signal (length a.signals)) true (and_both (nat_lt signal (length a.signals) && true) true c).0).0

-- ---- assigns

pub copied_by : EachProcess → AssignTargets → (a : Arena) → IsLawful a → (p : ℕ) (r : Process) (target e : ℕ) (port : Port) → slice_get a.processes p ≡ Some r → r.kind ≡ K.Assign target e port
    → (x : D.Process) → slice_get (design_of a).processes p ≡ Some x → both_bits (bit_of (name_of (tree_at (arena_trees a) e))) (target_bit (tree_at (arena_trees a) target)) ≡ port_bits x
copied_by each targets a l p r target e port i h x f =
    let t = tree_at (arena_trees a) target in
    let from = bit_of (name_of (tree_at (arena_trees a) e)) in
    ap {B = Option (ℕ × ℕ)} (λ (o : Option Target). both_bits from (option_and_then whole_bit o)) (targets a l p r.at target e port (i ∙ ap {B = Option Process} (λ k. Some (record { at = r.at; kind = k })) h))
    ∙ whole_port r.at (place_of t) (port_of port) (target_tree t) (tree_at (arena_trees a) e)
    ∙ ap port_bits (process_same (kind_in a r.at (K.Assign target e port)) x (slice_get (design_of a).processes p) (kind_is each a p r (K.Assign target e port) i h) f)

-- an assign that stands for a port
kind_port : (a : Arena) (place : ℕ) (k : Kind) → is_port (kind_in a place k) ≡ is_port_kind k
kind_port a place (K.Assign target e P.Written) = refl
kind_port a place (K.Assign target e P.Input) = refl
kind_port a place (K.Assign target e P.Output) = refl
kind_port a place (K.Block star events statement) = refl

pub port_same : EachProcess → (a : Arena) (p : ℕ) (r : Process) (x : D.Process) → slice_get a.processes p ≡ Some r → slice_get (design_of a).processes p ≡ Some x → is_port x ≡ is_port_kind r.kind
port_same each a p r x i f = sym (ap {B = Bool} is_port (process_same (kind_in a r.at r.kind) x (slice_get (design_of a).processes p) (kind_is each a p r r.kind i refl) f)) ∙ kind_port a r.at r.kind

pub ported_yes : (x : D.Process) → is_port x ≡ true → port_bits x ≡ ported_bits x
ported_yes x h = sym (ap (λ (c : Bool). if c then port_bits x else None) h)

pub ported_no : (x : D.Process) → is_port x ≡ false → None ≡ ported_bits x
ported_no x h = sym (ap (λ (c : Bool). if c then port_bits x else None) h)
