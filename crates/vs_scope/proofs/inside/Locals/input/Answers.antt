use Rattle.std.proofs.Common.{ℕ, List, slice_get, Option, sym, ap, ◌∙◌}
use Rattle.std.specs.Option.{option_copied}
use Rattle.vs_ast.specs.Views.{option}
use Rattle.vs_scope.specs.declared.names.PassedInput.{PassedInput}
use Rattle.vs_scope.specs.Locals.{numbered, passed_of}
use Rattle.vs_scope.proofs.ItemsAt.{copied_at}
use Rattle.vs_scope.proofs.inside.Locals.input.Goals as goal

pub returns-in-None : goal.returns-in-None
returns-in-None c =
    let ps = c.args.self.now.passed.items in
    ap (λ (o : Option ℕ). option (λ (p : PassedInput). (passed_of p).input) (numbered ps o)) (sym c.get.ensures ∙ ap option_copied c.in-None.is)

pub returns-in-None-get : goal.returns-in-None-get
returns-in-None-get c =
    let ps = c.args.self.now.passed.items in
    ap (λ (o : Option ℕ). option (λ (p : PassedInput). (passed_of p).input) (numbered ps o)) (sym c.get.ensures ∙ ap option_copied c.in-Some.is)
    ∙ ap (option (λ (p : PassedInput). (passed_of p).input)) (ap (λ (xs : List PassedInput). slice_get xs c.in-Some.number.now) (sym c.as_slice.ensures.value) ∙ sym (copied_at c.get-in-Some.result c.as_slice.result.now c.in-Some.number.now c.get-in-Some.ensures.lookup.1 c.get-in-Some.ensures.lookup.3) ∙ ap option_copied c.in-None-get.is)

pub returns-in-Some-get : goal.returns-in-Some-get
returns-in-Some-get c =
    let ps = c.args.self.now.passed.items in (
      (passed_of c.in-Some-get.p.now).input,
      ap (λ (o : Option ℕ). option (λ (p : PassedInput). (passed_of p).input) (numbered ps o)) (sym c.get.ensures ∙ ap option_copied c.in-Some.is)
          ∙ ap (option (λ (p : PassedInput). (passed_of p).input)) (ap (λ (xs : List PassedInput). slice_get xs c.in-Some.number.now) (sym c.as_slice.ensures.value) ∙ sym (copied_at c.get-in-Some.result c.as_slice.result.now c.in-Some.number.now c.get-in-Some.ensures.lookup.1 c.get-in-Some.ensures.lookup.3) ∙ ap option_copied c.in-Some-get.is),
      c.passed_shape.ensures,
    )
