use Rattle.std.proofs.Common.{◌++◌, ◌∷◌, [], List, ℕ, ap, ◌∙◌}
use Rattle.std.specs.Borrow.{Bor}
use Rattle.vs_ast.specs.declared.items.Function.{Function}
use Rattle.vs_elaborated.specs.Functions as spec
use Rattle.vs_scope.specs.Complete.{shapes_of}
use Rattle.vs_scope.proofs.names.Names.put_function.Goals as goal

pub returns-clause-called : goal.returns-clause-called
returns-clause-called c =
    let e = c.in_ok-put_shape.ensures in
    record { entries_are = e.entries; functions = c.in_ok-push.ensures.items ∙ ap (λ (fs : List (Bor Function)). fs ++ c.args.f ∷ []) e.rest.functions; scope = e.rest.scope; counts = e.rest.counts; plain = e.rest.plain }

pub returns-clause-shapes : goal.returns-clause-shapes
returns-clause-shapes c = λ es g h k s r.
    c.in_ok-put_shape.ensures.shapes es g h k s r ∙ ap (λ (n : List ℕ). shapes_of (spec.put_function n g es)) c.as_slice.ensures
