use Rattle.std.proofs.Common.{◌≡◌, true, IfSome, length}
use Rattle.vs_ast.specs.Views as view
use Rattle.vs_bodies.specs.Told.{tells}
use Rattle.vs_bodies.specs.Bodies.{body_of}
use Rattle.vs_bodies.specs.Layers.{within}
use Rattle.vs_bodies.proofs.Parts.{SoFar}
use Rattle.vs_bodies.proofs.Telling.{part_tells, arm_tells}
use Rattle.vs_bodies.proofs.Turning.{TurnsSoFar}
use Rattle.vs_bodies.proofs.walk.+bodies.Given as goal

abbrev pub invariant-walk_sequence-loop-part : goal.invariant-walk_sequence-loop-part
invariant-walk_sequence-loop-part g l =
    SoFar (part_tells l.how.in_loop (body_of l.how.kind l.how.unrolls (g.S.Surroundings.declared l.here.around.now)) (within (g.S.Surroundings.declared l.here.around.now) l.here.layers.now (g.S.Env.names l.here.around.now))) l.list l.part-index l.left l.all

abbrev pub invariant-walk_arms-loop-arm : goal.invariant-walk_arms-loop-arm
invariant-walk_arms-loop-arm g l =
    SoFar (arm_tells l.how.in_loop (body_of l.how.kind l.how.unrolls (g.S.Surroundings.declared l.here.around.now)) (within (g.S.Surroundings.declared l.here.around.now) l.here.layers.now (g.S.Env.names l.here.around.now))) l.list l.arm-index l.left l.all

abbrev pub invariant-walk_turns-loop-n : goal.invariant-walk_turns-loop-n
invariant-walk_turns-loop-n g l =
    TurnsSoFar (λ find. tells true (view.statement l.statement) (body_of l.how.kind l.how.unrolls (g.S.Surroundings.declared l.here.around.now)) find) (view.loop_head l.head)
    (within (g.S.Surroundings.declared l.here.around.now) l.here.layers.now (g.S.Env.names l.here.around.now)) l.fn.first l.n l.left l.all l.value
    × IfSome l.value (λ b. length b ≡ 32)
