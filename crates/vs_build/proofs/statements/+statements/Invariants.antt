use Rattle.std.proofs.Common.{◌≡◌, ◌+◌, true, [], take, IfSome, length}
use Rattle.vs_grammar.specs.Depths.{statement_depth, statements_depth, arms_depth}
use Rattle.vs_ast.specs.Views as view
use Rattle.vs_const.specs.Expressions.{constant}
use Rattle.vs_elaborated.specs.Statements.{typed_statement, given}
use Rattle.vs_bodies.specs.Bodies.{body_of}
use Rattle.vs_bodies.specs.Layers.{within}
use Rattle.vs_build.specs.Drafts.{Adds}
use Rattle.vs_build.specs.Growth.{draft}
use Rattle.vs_build.specs.Executable.{part_statements, labelled}
use Rattle.vs_build.proofs.Executed.{labels_of, statements_of}
use Rattle.vs_build.proofs.LoopFacts.{TurnsBuilt}
use Rattle.vs_build.proofs.statements.+statements.Given as goal

abbrev pub invariant-arms-loop-arm : goal.invariant-arms-loop-arm
invariant-arms-loop-arm g l =
    Adds (draft l.initial.builder) (draft l.builder) (labels_of (labelled (body_of l.kind true (g.S.Surroundings.declared l.here.around.now)) (within (g.S.Surroundings.declared l.here.around.now) l.here.layers.now (g.S.Env.names l.here.around.now)) (view.arms (take l.arm-index l.list)))) (statements_of (labelled (body_of l.kind true (g.S.Surroundings.declared l.here.around.now)) (within (g.S.Surroundings.declared l.here.around.now) l.here.layers.now (g.S.Env.names l.here.around.now)) (view.arms (take l.arm-index l.list)))) (1 + arms_depth (view.arms l.list))

abbrev pub invariant-parts-loop-part : goal.invariant-parts-loop-part
invariant-parts-loop-part g l = Adds (draft l.initial.builder) (draft l.builder) [] (part_statements (body_of l.kind true (g.S.Surroundings.declared l.here.around.now)) (within (g.S.Surroundings.declared l.here.around.now) l.here.layers.now (g.S.Env.names l.here.around.now)) (take l.part-index l.list)) (1 + statements_depth (view.statements l.list))

abbrev pub invariant-loop_turns-loop-count : goal.invariant-loop_turns-loop-count
invariant-loop_turns-loop-count g l =
    TurnsBuilt (λ inner. typed_statement (view.statement l.body) (body_of l.kind true (g.S.Surroundings.declared l.here.around.now)) inner) (view.loop_head l.head) (within (g.S.Surroundings.declared l.here.around.now) l.here.layers.now (g.S.Env.names l.here.around.now)) (given (constant (view.loop_head l.head).first (within (g.S.Surroundings.declared l.here.around.now) l.here.layers.now (g.S.Env.names l.here.around.now)))) (draft l.initial.builder) (draft l.builder) (1 + statement_depth (view.statement l.body)) l.count l.value
    × IfSome l.value (λ b. length b ≡ 32)
