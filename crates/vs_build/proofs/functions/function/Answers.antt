use Rattle.std.proofs.Common.{◌+◌, true, false, refl, ap, sym, subst}
use Rattle.vs_grammar.specs.Depths.{statement_depth}
use Rattle.vs_ast.specs.Views as view
use Rattle.vs_elaborated.specs.Statements.{typed_statement}
use Rattle.vs_flat.specs.DesignOf.{header_of}
use Rattle.vs_bodies.specs.Bodies.{body_of}
use Rattle.vs_build.specs.Drafts.{Draft, home, and_function}
use Rattle.vs_build.specs.Growth.{draft}
use Rattle.vs_build.specs.Executable.{IsExecutable}
use Rattle.vs_build.proofs.AssignFacts.{ok_is}
use Rattle.vs_build.proofs.Blocking.{function_ends}
use Rattle.vs_build.proofs.functions.function.Goals as goal

pub statement-requires : goal.statement-requires
statement-requires g c =
    let find = g.S.Env.names c.args.around.now in
    let body = body_of (record { in_function = true; takes_variables = true; clocked = false }) true (g.S.Surroundings.declared c.args.around.now) in
    subst (λ d. IsExecutable d body find (view.statement c.args.s.now)) (sym (ap home c.in_ok-begin_function.ensures)) c.requires.fine

pub end_function-requires : goal.end_function-requires
end_function-requires g c =
    let find = g.S.Env.names c.args.around.now in
    let body = body_of (record { in_function = true; takes_variables = true; clocked = false }) true (g.S.Surroundings.declared c.args.around.now) in
    function_ends (draft c.args.builder.now) (draft c.begin_function.new.self) (draft c.statement.new.builder) (header_of c.args.header) (1 + statement_depth (view.statement c.args.s.now)) (view.statement c.args.s.now) body find c.in_ok-begin_function.ensures c.requires.expressions c.requires.statements c.in_ok-statement.ensures refl c.requires.fine.clean

pub returns : goal.returns
returns g c =
    let find = g.S.Env.names c.args.around.now in
    let body = body_of (record { in_function = true; takes_variables = true; clocked = false }) true (g.S.Surroundings.declared c.args.around.now) in
    let s = (typed_statement (view.statement c.args.s.now) body find).statement in
    let h = header_of c.args.header in
    ok_is c.end_function.result (draft c.end_function.new.self) (and_function (draft c.begin_function.new.self) h s) (and_function (draft c.args.builder.now) h s)
    (ap (λ (z : Draft). and_function z h s) c.in_ok-begin_function.ensures)
    (c.end_function.ensures (draft c.begin_function.new.self) h s (1 + statement_depth (view.statement c.args.s.now)) (ap (λ (z : Draft). z.function) c.in_ok-begin_function.ensures) c.in_ok-statement.ensures)
