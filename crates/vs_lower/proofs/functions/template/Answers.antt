use Rattle.std.proofs.Common.{◌≡◌, ◌∙◌, ℕ, List, Some, length, sym, ap, subst, arith}
use Rattle.vs_design.specs.Footprints.{contains, statement_bits}
use Rattle.vs_design.specs.Statements.{Statement}
use Rattle.vs_flat.specs.Arena.{body_at}
use Rattle.vs_flat.specs.DesignOf.{design_of}
use Rattle.vs_shape.specs.Bodies.{body_of}
use Rattle.vs_program.specs.Lowered.{home}
use Rattle.vs_values.specs.Templates.{function_at, slots_at_call}
use Rattle.vs_lower.specs.Stated.{AddsStatement, IsStatementReady}
use Rattle.vs_lower.proofs.Templating.{body_ready, function_formed, is_template, statement_inside, statement_is}
use Rattle.vs_lower.proofs.functions.template.Goals as goal

pub statement-requires-clause-ready : goal.statement-requires-clause-ready
statement-requires-clause-ready c =
    let a = c.args.templates.now.arena in
    let f = c.args.f in
    let fn = function_at a f in
    let S = slots_at_call fn.header in
    let formed = function_formed a f (c.lawful_law.ensures.design a c.flat.ensures.lawful) c.requires.there in
    let at : body_at a f ≡ Some c.body-body.result = rw c.flat.ensures.same at c.body-body.ensures in
    let st = statement_is a f c.body-body.result at in
    let ready = body_ready c.within_law.ensures.functions (design_of a) fn c.from-code.result formed c.requires.fits c.requires.light (c.from-code.ensures.calls ∙ c.new.ensures) (c.from-code.ensures.next ∙ c.home.ensures ∙ ap home c.input_bits.ensures.is) (omega (arith, c.input_bits.ensures.is, c.input_bits.ensures.few)) in
    subst (λ (x : List ℕ). IsStatementReady (length x) x c.environment_at_call-2.result c.from-code.result (body_of a c.body-body.result.statement)) (sym c.environment_at_call.ensures)
    (subst (λ (x : List ℕ). IsStatementReady (length S) S x c.from-code.result (body_of a c.body-body.result.statement)) (sym c.environment_at_call-2.ensures)
    (subst (λ (x : Statement). IsStatementReady (length S) S S c.from-code.result x) st ready))

pub statement-requires-clause-inside : goal.statement-requires-clause-inside
statement-requires-clause-inside c = λ b h.
    let a = c.args.templates.now.arena in
    let f = c.args.f in
    let fn = function_at a f in
    let S = slots_at_call fn.header in
    let formed = function_formed a f (c.lawful_law.ensures.design a c.flat.ensures.lawful) c.requires.there in
    let at : body_at a f ≡ Some c.body-body.result = rw c.flat.ensures.same at c.body-body.ensures in
    let st = statement_is a f c.body-body.result at in
    let ready = body_ready c.within_law.ensures.functions (design_of a) fn c.from-code.result formed c.requires.fits c.requires.light (c.from-code.ensures.calls ∙ c.new.ensures) (c.from-code.ensures.next ∙ c.home.ensures ∙ ap home c.input_bits.ensures.is) (omega (arith, c.input_bits.ensures.is, c.input_bits.ensures.few)) in
    let q = statement_inside (length S) fn.statement c.requires.fits ready.names b (ap (λ (x : Statement). contains (statement_bits x) b) st ∙ h) in
    omega (arith, q, ap (λ (xs : List ℕ). length xs) c.environment_at_call.ensures)

pub returns : goal.returns
returns c =
    let a = c.args.templates.now.arena in
    let f = c.args.f in
    let fn = function_at a f in
    let S = slots_at_call fn.header in
    let formed = function_formed a f (c.lawful_law.ensures.design a c.flat.ensures.lawful) c.requires.there in
    let at : body_at a f ≡ Some c.body-body.result = rw c.flat.ensures.same at c.body-body.ensures in
    let st = statement_is a f c.body-body.result at in
    let new = c.statement.new.code in
    let now1 = c.statement.new.env.values in
    let later1 = c.statement.new.env.ahead in
    let adds = subst (λ (x : Statement). AddsStatement S S c.from-code.result new x now1 later1) (sym st)
    (subst (λ (x : List ℕ). AddsStatement S x c.from-code.result new (body_of a c.body-body.result.statement) now1 later1) c.environment_at_call-2.ensures
    (subst (λ (x : List ℕ). AddsStatement x c.environment_at_call-2.result c.from-code.result new (body_of a c.body-body.result.statement) now1 later1) c.environment_at_call.ensures c.in_ok-statement.ensures)) in
    is_template (design_of a) fn _ c.from-code.result new now1 later1 formed (c.from-code.ensures.calls ∙ c.new.ensures) (c.from-code.ensures.next ∙ c.home.ensures ∙ ap home c.input_bits.ensures.is) adds
    c.into_program.ensures (c.of.ensures ∙ c.in_ok-result.ensures) c.next-next.ensures
