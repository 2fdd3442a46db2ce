use Rattle.std.proofs.Common.{ap, ◌∙◌}
use Rattle.vs_build.specs.Growth.{draft}
use Rattle.vs_build.proofs.PassedSignals.{none_built, one_built, all_built, is_there, passed_now}
use Rattle.vs_build.proofs.names.passed.Goals as goal

pub loop-n-init : goal.loop-n-init
loop-n-init g c = none_built (draft c.args.builder.now) (g.E.Env.names c.args.env.now c.args.name.now.text) c.args.name.now.place

pub name-requires-clause-there : goal.name-requires-clause-there
name-requires-clause-there g c =
    let names = g.E.Env.names c.args.env.now in
    let k = c.requires.callable in
    (passed_now (draft c.args.builder.now) (draft c.loop-n.builder) (names c.args.name.now.text) c.args.name.now.place c.loop-n.n c.passed.result c.in-Some.s k.function k.is c.requires.passable
    (c.passed.ensures k.function (ap names c.as_slice.ensures ∙ k.is)) c.in-Some.is c.loop-n.invariant).below

pub name-requires-clause-formed : goal.name-requires-clause-formed
name-requires-clause-formed g c =
    let names = g.E.Env.names c.args.env.now in
    let k = c.requires.callable in
    (passed_now (draft c.args.builder.now) (draft c.loop-n.builder) (names c.args.name.now.text) c.args.name.now.place c.loop-n.n c.passed.result c.in-Some.s k.function k.is c.requires.passable
    (c.passed.ensures k.function (ap names c.as_slice.ensures ∙ k.is)) c.in-Some.is c.loop-n.invariant).formed

pub loop-n-preserved : goal.loop-n-preserved
loop-n-preserved g c =
    let names = g.E.Env.names c.args.env.now in
    one_built (draft c.args.builder.now) (draft c.loop-n.builder) (draft c.name.new.self) (names c.args.name.now.text) c.args.name.now.place c.loop-n.n c.passed.result c.in-Some.s c.requires.passable
    (λ f e. c.passed.ensures f (ap names c.as_slice.ensures ∙ e)) c.in-Some.is c.in_ok-name-in-Some.ensures c.loop-n.invariant

pub unreachable-requires : goal.unreachable-requires
unreachable-requires g c =
    let names = g.E.Env.names c.args.env.now in
    let k = c.requires.callable in
    is_there k.function c.loop-n.n c.passed_count-count.result c.passed.result c.loop-n-test.true (c.passed_count-count.ensures k.function k.is) (c.passed.ensures k.function (ap names c.as_slice.ensures ∙ k.is)) c.in-None.is

pub returns : goal.returns
returns g c = λ f e.
    all_built (draft c.args.builder.now) (draft c.loop-n.builder) (g.E.Env.names c.args.env.now c.args.name.now.text) c.args.name.now.place c.loop-n.n c.passed_count-count.result f c.loop-n-test.false (c.passed_count-count.ensures f e) e
    c.loop-n.invariant
