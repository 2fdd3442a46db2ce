use Rattle.std.proofs.Common.{Some, ap, sym, ◌∙◌, arith}
use Rattle.std.specs.Prelude.{slice_get}
use Rattle.std.proofs.lemmas.Option.{slice_get_within, slice_get-get_or}
use Rattle.vs_design.specs.Designs.{OfProcess, OfInitial}
use Rattle.vs_flat.specs.DesignOf.{design_of}
use Rattle.vs_sets.proofs.TwiceSteps.{on_ok}
use Rattle.vs_typed.proofs.FoundSteps.{refused_at, passed_at, if_err}
use Rattle.vs_typed.proofs.refused.check_next.Goals as goal

pub check_process-requires-clause-there : goal.check_process-requires-clause-there
check_process-requires-clause-there c =
    let a = c.args.shapes.now in
    let d = design_of a in
    let x = c.text_law.ensures.processes d c.args.n c.in-Process.p (ap (λ xs. slice_get xs c.args.n) (sym c.requires.order) ∙ slice_get-get_or c.args.order.now c.args.n _ c.requires.there ∙ ap Some c.in-Process.is) in
    omega (arith, slice_get_within d.processes c.in-Process.p x.0 x.2, (c.trees_law.ensures.counts a).processes)

pub check_initial-requires-clause-there : goal.check_initial-requires-clause-there
check_initial-requires-clause-there c =
    let a = c.args.shapes.now in
    let d = design_of a in
    let x = c.text_law.ensures.initials d c.args.n c.in-Initial.k (ap (λ xs. slice_get xs c.args.n) (sym c.requires.order) ∙ slice_get-get_or c.args.order.now c.args.n _ c.requires.there ∙ ap Some c.in-Initial.is) in
    omega (arith, slice_get_within d.initials c.in-Initial.k x.0 x.2, (c.trees_law.ensures.counts a).initials)

pub returns-in-Process-clause-passes : goal.returns-in-Process-clause-passes
returns-in-Process-clause-passes c =
    let d = design_of c.args.shapes.now in
    let x = c.text_law.ensures.processes d c.args.n c.in-Process.p (ap (λ xs. slice_get xs c.args.n) (sym c.requires.order) ∙ slice_get-get_or c.args.order.now c.args.n _ c.requires.there ∙ ap Some c.in-Process.is) in
    on_ok c.check_process.result c.check_process.ensures.passes (λ h. passed_at d c.args.n (OfProcess c.in-Process.p x.0) x.1 c.requires.so_far (h x.0 x.2))

pub returns-in-Process-clause-refused : goal.returns-in-Process-clause-refused
returns-in-Process-clause-refused c =
    let d = design_of c.args.shapes.now in
    let x = c.text_law.ensures.processes d c.args.n c.in-Process.p (ap (λ xs. slice_get xs c.args.n) (sym c.requires.order) ∙ slice_get-get_or c.args.order.now c.args.n _ c.requires.there ∙ ap Some c.in-Process.is) in
    if_err c.check_process.result c.check_process.ensures.refused (λ e h. refused_at d c.args.n (OfProcess c.in-Process.p x.0) e x.1 c.requires.so_far (h x.0 x.2))

pub returns-in-Initial-clause-passes : goal.returns-in-Initial-clause-passes
returns-in-Initial-clause-passes c =
    let d = design_of c.args.shapes.now in
    let x = c.text_law.ensures.initials d c.args.n c.in-Initial.k (ap (λ xs. slice_get xs c.args.n) (sym c.requires.order) ∙ slice_get-get_or c.args.order.now c.args.n _ c.requires.there ∙ ap Some c.in-Initial.is) in
    on_ok c.check_initial.result c.check_initial.ensures.passes (λ h. passed_at d c.args.n (OfInitial c.in-Initial.k x.0) x.1 c.requires.so_far (h x.0 x.2))

pub returns-in-Initial-clause-refused : goal.returns-in-Initial-clause-refused
returns-in-Initial-clause-refused c =
    let d = design_of c.args.shapes.now in
    let x = c.text_law.ensures.initials d c.args.n c.in-Initial.k (ap (λ xs. slice_get xs c.args.n) (sym c.requires.order) ∙ slice_get-get_or c.args.order.now c.args.n _ c.requires.there ∙ ap Some c.in-Initial.is) in
    if_err c.check_initial.result c.check_initial.ensures.refused (λ e h. refused_at d c.args.n (OfInitial c.in-Initial.k x.0) e x.1 c.requires.so_far (h x.0 x.2))
