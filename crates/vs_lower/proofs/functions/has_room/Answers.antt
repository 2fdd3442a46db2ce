use Rattle.std.proofs.Common.{◌≡◌, ◌∙◌, ℕ, ◌<◌, ◌≤◌, true, false, min, nat_le, Some, slice_get, sym, ap, arith}
use Rattle.vs_design.specs.Fits.{fits_statement}
use Rattle.vs_design.specs.Sizes.{statement_weight}
use Rattle.vs_flat.specs.Arena.{Arena}
use Rattle.vs_flat.specs.DesignOf.{design_of}
use Rattle.vs_values.specs.Templates.{function_at}
use Rattle.vs_lower.proofs.Placing.{by_test}
use Rattle.vs_lower.proofs.Templating.{function_in}
use Rattle.vs_lower.proofs.functions.has_room.Goals as goal

le_is : (m n : ℕ) → nat_le m n ≡ true → m ≤ n
le_is m n h = grind arith

above : (m n : ℕ) → nat_le m n ≡ false → n < m
above m n h = grind arith

-- the function, of the design that the typed one has
found : (a b : Arena) (f : ℕ) → b ≡ a → f < Rattle.std.proofs.Common.length a.bodies → slice_get (design_of b).functions f ≡ Some (function_at a f)
found a b f same l = ap (λ (x : Arena). slice_get (design_of x).functions f) same ∙ function_in a f l

pub returns-then-fits_function-clause-yes : goal.returns-then-fits_function-clause-yes
returns-then-fits_function-clause-yes c = λ h.
    let a = c.args.templates.now.arena in
    let fn = function_at a c.args.f in
    let at = found a c.typed-typed.result.now c.args.f c.typed-typed.ensures c.requires in
    let fit : fits_statement fn.statement ≡ true = sym (c.fits_function.ensures fn at) ∙ c.if-fits_function.true in
    let weighs : c.function_weight.result ≡ min (statement_weight fn.statement) 18446744073709551615 = c.function_weight.ensures fn at fit in
    (fit, omega (arith, weighs, le_is c.function_weight.result 16777216 h))

pub returns-then-fits_function-clause-no : goal.returns-then-fits_function-clause-no
returns-then-fits_function-clause-no c = λ n fit.
    let a = c.args.templates.now.arena in
    let fn = function_at a c.args.f in
    let at = found a c.typed-typed.result.now c.args.f c.typed-typed.ensures c.requires in
    let weighs : c.function_weight.result ≡ min (statement_weight fn.statement) 18446744073709551615 = c.function_weight.ensures fn at fit in
    by_test (nat_le c.function_weight.result 16777216) (λ e. absurd (n e)) (λ e. omega (arith, weighs, above c.function_weight.result 16777216 e))

pub returns-else-fits_function-clause-no : goal.returns-else-fits_function-clause-no
returns-else-fits_function-clause-no c = λ n fit.
    let a = c.args.templates.now.arena in
    absurd (n (c.fits_function.ensures (function_at a c.args.f) (found a c.typed-typed.result.now c.args.f c.typed-typed.ensures c.requires) ∙ fit))
