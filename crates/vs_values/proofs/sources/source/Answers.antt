use Rattle.std.proofs.Common.{◌≡◌, ◌∙◌, ℕ, Vec, Global, true, map, slice_index, length, sym, ap, subst}
use Rattle.std.proofs.lemmas.Result.{IfOk-weaker}
use Rattle.vs_design.specs.Expressions as E
use Rattle.vs_design.specs.Values.{bits_of_signal}
use Rattle.vs_design.specs.Within.{source_within}
use Rattle.vs_flat.specs.DesignOf.{arena_signals, arena_trees, local_of}
use Rattle.vs_flat.specs.Targets.{source_of}
use Rattle.vs_flat.specs.Trees.{signal_at, tree_at}
use Rattle.vs_flat.specs.declared.expressions.Node.{Node}
use Rattle.vs_flat.specs.declared.expressions.Node.TheVariants as N
use Rattle.vs_shape.specs.Nodes.{HasCalls}
use Rattle.vs_values.specs.Made.{source_slots}
use Rattle.vs_values.proofs.Trees.{tree}
use Rattle.vs_values.proofs.sources.source.Goals as goal

pub signal_slots-requires-clause-signal : goal.signal_slots-requires-clause-signal
signal_slots-requires-clause-signal c = (tree c.args.templates.now.arena c.args.of c.expr.result.now (N.Name c.in-Name.signal) c.expr.ensures.tree c.expr.ensures.names c.in-Name.is).names

pub signal_slots-requires-clause-within : goal.signal_slots-requires-clause-within
signal_slots-requires-clause-within c =
    let tr = tree c.args.templates.now.arena c.args.of c.expr.result.now (N.Name c.in-Name.signal) c.expr.ensures.tree c.expr.ensures.names c.in-Name.is in
    subst (λ (x : E.Expression). source_within (length c.args.env.now) (source_of x) ≡ true) tr.is c.requires.within

pub returns-in-Name : goal.returns-in-Name
returns-in-Name c =
    let e = c.args.of in
    let a = c.args.templates.now.arena in
    let env = c.args.env.now in
    let tr = tree a e c.expr.result.now (N.Name c.in-Name.signal) c.expr.ensures.tree c.expr.ensures.names c.in-Name.is in
    IfOk-weaker c.signal_slots.result
    (λ (to : Vec ℕ Global). to.items ≡ map (slice_index env) (bits_of_signal (signal_at (arena_signals a) c.in-Name.signal)))
    (λ (to : Vec ℕ Global). to.items ≡ source_slots env (source_of (tree_at (arena_trees a) e)))
    (λ to is. is ∙ ap (λ (x : E.Expression). source_slots env (source_of x)) (sym tr.is))
    c.signal_slots.ensures

pub local_slots-requires-clause-function : goal.local_slots-requires-clause-function
local_slots-requires-clause-function c = (subst (λ (x : Node). HasCalls c.args.templates.now.arena x) c.in-Local.is c.expr.ensures.locals).0

pub local_slots-requires-clause-there : goal.local_slots-requires-clause-there
local_slots-requires-clause-there c = (subst (λ (x : Node). HasCalls c.args.templates.now.arena x) c.in-Local.is c.expr.ensures.locals).1

pub local_slots-requires-clause-within : goal.local_slots-requires-clause-within
local_slots-requires-clause-within c =
    let tr = tree c.args.templates.now.arena c.args.of c.expr.result.now (N.Local c.in-Local.function c.in-Local.signal) c.expr.ensures.tree c.expr.ensures.names c.in-Local.is in
    subst (λ (x : E.Expression). source_within (length c.args.env.now) (source_of x) ≡ true) tr.is c.requires.within

pub returns-in-Local : goal.returns-in-Local
returns-in-Local c =
    let e = c.args.of in
    let a = c.args.templates.now.arena in
    let env = c.args.env.now in
    let tr = tree a e c.expr.result.now (N.Local c.in-Local.function c.in-Local.signal) c.expr.ensures.tree c.expr.ensures.names c.in-Local.is in
    IfOk-weaker c.local_slots.result
    (λ (to : Vec ℕ Global). to.items ≡ map (slice_index env) (bits_of_signal (local_of a c.in-Local.function c.in-Local.signal)))
    (λ (to : Vec ℕ Global). to.items ≡ source_slots env (source_of (tree_at (arena_trees a) e)))
    (λ to is. is ∙ ap (λ (x : E.Expression). source_slots env (source_of x)) (sym tr.is))
    c.local_slots.ensures
