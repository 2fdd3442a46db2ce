use Rattle.std.proofs.Common.{◌≡◌, ◌∙◌, ◌++◌, ℕ, List, true, sym, ap, subst}
use Rattle.vs_design.specs.Fits.{fits_statement}
use Rattle.vs_design.specs.Footprints.{contains, statement_bits}
use Rattle.vs_flat.specs.Arena.{Arena}
use Rattle.vs_shape.specs.Bodies.{body_of}
use Rattle.vs_lower.proofs.statements.written_bits.Goals as goal

pub push_statement-requires-clause-fits : goal.push_statement-requires-clause-fits
push_statement-requires-clause-fits c = subst (λ (a : Arena). fits_statement (body_of a c.args.s) ≡ true) (sym c.shapes.ensures) c.requires.fits

pub returns-clause-same : goal.returns-clause-same
returns-clause-same c b =
    let is : c.push_statement.new.out.items ≡ c.new-bits.result.items ++ statement_bits (body_of c.shapes.result.now c.args.s) = c.in_ok-push_statement.ensures in
    let none = ap (λ (xs : List ℕ). xs ++ statement_bits (body_of c.shapes.result.now c.args.s)) c.new-bits.ensures.items in
    let same = ap (λ (a : Arena). statement_bits (body_of a c.args.s)) c.shapes.ensures in
    c.ascend.ensures.same b
    ∙ ap (λ (xs : List ℕ). contains xs b) (is ∙ none ∙ same)
