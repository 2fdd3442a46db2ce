use Rattle.std.proofs.Common.{Bool, slice_get, sym, ap, ◌∙◌, if◌then◌else◌, subst}
use Rattle.vs_const.specs.Meanings.{IsShapeIn}
use Rattle.vs_elaborated.specs.Environments.{named}
use Rattle.vs_elaborated.specs.Functions.{passed_meaning}
use Rattle.vs_scope.specs.Frames.{view_env}
use Rattle.vs_scope.specs.Locals.{input_of}
use Rattle.vs_scope.proofs.HandedOn.{handed_at, handed_on, nothing_passed}
use Rattle.vs_scope.proofs.inside.Inside.outer_passed.Goals as goal

pub returns-in-None : goal.returns-in-None
returns-in-None c = λ f is.
    let i = c.args.self.now in
    let m = named (view_env i.here) c.args.name.now in
    nothing_passed i.here.in_function (input_of i.locals) m f c.args.number is (λ g k. subst (λ o. IsShapeIn o (slice_get g.passed c.args.number)) c.in-None.is (c.passed.ensures g k))

pub returns-then-self : goal.returns-then-self
returns-then-self c = λ f is.
    let i = c.args.self.now in
    let input = input_of i.locals in
    let m = named (view_env i.here) c.args.name.now in
    let h = handed_on input m f (ap (λ (b : Bool). if b then passed_meaning input m else m) (sym c.if-self.true) ∙ is) in
    let s = subst (λ o. IsShapeIn o (slice_get h.around.passed c.args.number)) c.in-Some.is (c.passed.ensures h.around h.is) in
    subst (IsShapeIn c.input.result) (ap input s.2.number ∙ sym (handed_at input h.around.passed f.passed c.args.number s.0 h.passed s.1)) c.input.ensures

pub returns-else-self : goal.returns-else-self
returns-else-self c = λ f is.
    let i = c.args.self.now in
    let m = named (view_env i.here) c.args.name.now in
    subst (λ o. IsShapeIn o (slice_get f.passed c.args.number)) c.in-Some.is
    (c.passed.ensures f (ap (λ (b : Bool). if b then passed_meaning (input_of i.locals) m else m) (sym c.if-self.false) ∙ is))
