-- What the code keeps of what is still to be read.
use Rattle.std.specs.Prelude.{◌<◌, ℕ, List, [], ◌∷◌, map, flat_map, reverse, Some}
use Rattle.vs_grammar.specs.Trees as tree
use Rattle.vs_grammar.specs.Shapes.{Each}
use Rattle.vs_ast.specs.Views as view
use Rattle.vs_elaborated.specs.Ports.{find_module}
use Rattle.vs_elaborated.specs.Environments.{named}
use Rattle.vs_elaborated.specs.Pieces.{Piece, Own, OfScopes, Initially}
use Rattle.vs_elaborated.specs.Instances.{Around, instance_said, said_overrides}
use Rattle.vs_elaborated.specs.Surveys.{assign_said, value_said, wire_said, nested_piece}
use Rattle.vs_build.specs.Executable.{barred, block_process, begun}
use Rattle.vs_scope.specs.declared.frames.Frame.{Frame}
use Rattle.vs_scope.specs.Frames.{turn, env_at, envs}
use Rattle.vs_elab.specs.Stacks as stacks
use Rattle.vs_elab.specs.declared.stack.Pending.{Pending}
use Rattle.vs_elab.specs.declared.pending.Part.{Part}
use Rattle.vs_elab.specs.declared.pending.Part.TheVariants.{Wire, Value, Assigned, Always, Scoped, Initial, Instance, Block}

-- the instance of an item, where this stands around it
abbrev pub instance_pieces : tree.Source → Around → tree.Instances → tree.Instance → List Piece
instance_pieces source around t i =
    let m = find_module source t.of.bytes in
    (instance_said around t.of.place m (said_overrides t.of m t.overrides around.env).overrides i).pieces

-- a part of a scope, where this stands around it
abbrev pub part_pieces : tree.Source → Around → Part → List Piece
part_pieces source around (Wire place name value) = (wire_said around.env place (view.name name.now) (view.expr value.now)).pieces
part_pieces source around (Value name value) = (value_said around.env (view.name name.now) (view.expr value.now)).pieces
part_pieces source around (Assigned place a) = (assign_said around.env place (view.assign a.now)).pieces
part_pieces source around (Always b) = Own (block_process barred (view.always_block b.now) (named around.env)) ∷ []
part_pieces source around (Scoped b) = OfScopes (record { scope = around.scope; env = around.env; block = view.always_block b.now }) ∷ []
part_pieces source around (Initial b) = Initially (view.initial_block b.now).place (begun (view.initial_block b.now).statement (named around.env)) ∷ []
part_pieces source around (Instance t i) = instance_pieces source around (view.instances t.now) (view.instance i.now)
part_pieces source around (Block name items t) = nested_piece around (record { name = name.items; items = map view.item items.now; turn = view.option turn t }) ∷ []

-- the parts of a scope, in the order of the text
abbrev pub parts_pieces : tree.Source → Around → List Part → List Piece
parts_pieces source around ps = flat_map (part_pieces source around) ps

-- ---- all that is pending

-- where the parts of a scope stand
abbrev pub scope_around : List Frame → ℕ → ℕ → Around
scope_around frames frame depth = record { scope = frame; depth = depth; env = env_at (envs frames) (Some frame) }

-- one of those that are pending
abbrev pub pending_pieces : tree.Source → List Frame → Pending → List stacks.Pending
pending_pieces source frames p = map (stacks.pending p.left) (part_pieces source (scope_around frames p.frame p.depth) p.part)

-- what comes last comes next
abbrev pub stack_pieces : tree.Source → List Frame → List Pending → List stacks.Pending
stack_pieces source frames ps = flat_map (pending_pieces source frames) (reverse ps)

-- each stands in a scope
abbrev pub AreWithin : ℕ → List Pending → Type 0
AreWithin count ps = Each (λ (p : Pending). p.frame < count) ps
