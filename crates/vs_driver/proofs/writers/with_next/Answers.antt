use Rattle.std.proofs.Common.{Some, ap, sym, ◌∙◌, arith}
use Rattle.std.specs.Prelude.{slice_get}
use Rattle.std.proofs.lemmas.Option.{slice_get_within, slice_get-get_or}
use Rattle.vs_design.specs.Designs.{OfProcess, OfInitial}
use Rattle.vs_flat.specs.DesignOf.{design_of}
use Rattle.vs_driver.proofs.Writing.{if_ok, next_added}
use Rattle.vs_driver.proofs.writers.with_next.Goals as goal

pub with_process-requires-clause-there : goal.with_process-requires-clause-there
with_process-requires-clause-there c =
    let a = c.args.typed.now in
    let d = design_of a in
    let x = c.text_law.ensures.processes d c.args.n c.in-Process.p (ap (λ xs. slice_get xs c.args.n) (sym c.requires.order) ∙ slice_get-get_or c.args.order.now c.args.n _ c.requires.there ∙ ap Some c.in-Process.is) in
    omega (arith, slice_get_within d.processes c.in-Process.p x.0 x.2, (c.trees_law.ensures.counts a).processes)

pub with_initial-requires : goal.with_initial-requires
with_initial-requires c =
    let a = c.args.typed.now in
    let d = design_of a in
    let x = c.text_law.ensures.initials d c.args.n c.in-Initial.k (ap (λ xs. slice_get xs c.args.n) (sym c.requires.order) ∙ slice_get-get_or c.args.order.now c.args.n _ c.requires.there ∙ ap Some c.in-Initial.is) in
    omega (arith, slice_get_within d.initials c.in-Initial.k x.0 x.2, (c.trees_law.ensures.counts a).initials)

pub returns-in-Process : goal.returns-in-Process
returns-in-Process c =
    let d = design_of c.args.typed.now in
    let x = c.text_law.ensures.processes d c.args.n c.in-Process.p (ap (λ xs. slice_get xs c.args.n) (sym c.requires.order) ∙ slice_get-get_or c.args.order.now c.args.n _ c.requires.there ∙ ap Some c.in-Process.is) in
    if_ok c.with_process.result c.with_process.ensures (λ w h y at. next_added d c.args.n (OfProcess c.in-Process.p x.0) y c.args.so_far w c.args.bit x.1 at (h x.0 x.2))

pub returns-in-Initial : goal.returns-in-Initial
returns-in-Initial c =
    let d = design_of c.args.typed.now in
    let x = c.text_law.ensures.initials d c.args.n c.in-Initial.k (ap (λ xs. slice_get xs c.args.n) (sym c.requires.order) ∙ slice_get-get_or c.args.order.now c.args.n _ c.requires.there ∙ ap Some c.in-Initial.is) in
    if_ok c.with_initial.result c.with_initial.ensures (λ w h y at. next_added d c.args.n (OfInitial c.in-Initial.k x.0) y c.args.so_far w c.args.bit x.1 at (h x.0 x.2))
