use Rattle.std.proofs.Common.{◌≡◌, ℕ, ◌<◌, List, Option, length, slice_get, sym, ap, ◌∙◌, subst}
use Rattle.std.specs.Prelude.{IfSome}
use Rattle.std.specs.List.{after_first}
use Rattle.vs_rows.specs.Fields.{field_begins}
use Rattle.vs_rows.specs.Expected as spec
use Rattle.vs_rows.proofs.Behind.{below_end}
use Rattle.vs_rows.proofs.expected.expected_at.Goals as goal

pub returns-clause-within : goal.returns-clause-within
returns-clause-within c =
    let line = c.args.line.now in
    let n = c.args.n in
    let at : c.nth.result ≡ spec.expected_at line n =
    c.nth.ensures
    ∙ ap (λ (xs : List ℕ). slice_get xs n) (c.behind_arrow.ensures ∙ ap (λ (xs : List ℕ). after_first (spec.arrow_at line) xs) (c.deref.ensures.value ∙ c.in_ok-fields.ensures)) in
    subst (λ (o : Option ℕ). IfSome o (λ k. k < length line)) (sym at) (below_end (spec.arrow_at line) (field_begins line) (length line) n)
