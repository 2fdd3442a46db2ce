use Rattle.std.proofs.Common.{◌≡◌, None, Some, ap, sym, ◌∙◌, subst, arith}
use Rattle.std.specs.Prelude.{slice_get, IfErr, OnOk}
use Rattle.std.proofs.lemmas.Option.{slice_get_within, slice_get-get_or}
use Rattle.vs_design.specs.Designs.{OfProcess, OfInitial}
use Rattle.vs_design.specs.Refusals.{block_refusal_at}
use Rattle.vs_flat.specs.DesignOf.{design_of}
use Rattle.vs_block.specs.Refused.{IsErrorAt}
use Rattle.vs_block.proofs.Blocks.{some_same}
use Rattle.vs_block.proofs.block.check_next.Goals as goal

pub check_process-requires-clause-process : goal.check_process-requires-clause-process
check_process-requires-clause-process c =
    let a = c.args.typed.now in
    let d = design_of a in
    let y = c.text_law.ensures.processes d c.args.n c.in-Process.p (ap (λ xs. slice_get xs c.args.n) (sym c.requires.order) ∙ slice_get-get_or c.args.order.now c.args.n _ c.requires.there ∙ ap Some c.in-Process.is) in
    omega (arith, slice_get_within d.processes c.in-Process.p y.0 y.2, (c.trees_law.ensures.counts a).processes)

pub check_initial-requires : goal.check_initial-requires
check_initial-requires c =
    let a = c.args.typed.now in
    let d = design_of a in
    let y = c.text_law.ensures.initials d c.args.n c.in-Initial.k (ap (λ xs. slice_get xs c.args.n) (sym c.requires.order) ∙ slice_get-get_or c.args.order.now c.args.n _ c.requires.there ∙ ap Some c.in-Initial.is) in
    omega (arith, slice_get_within d.initials c.in-Initial.k y.0 y.2, (c.trees_law.ensures.counts a).initials)

pub returns-in-Process-clause-kept : goal.returns-in-Process-clause-kept
returns-in-Process-clause-kept c x h =
    let d = design_of c.args.typed.now in
    let y = c.text_law.ensures.processes d c.args.n c.in-Process.p (ap (λ xs. slice_get xs c.args.n) (sym c.requires.order) ∙ slice_get-get_or c.args.order.now c.args.n _ c.requires.there ∙ ap Some c.in-Process.is) in
    subst (λ z. OnOk c.check_process.result (block_refusal_at d z ≡ None)) (some_same (OfProcess c.in-Process.p y.0) x (sym y.1 ∙ h)) (c.check_process.ensures.kept y.0 y.2)

pub returns-in-Process-clause-refused : goal.returns-in-Process-clause-refused
returns-in-Process-clause-refused c x h =
    let d = design_of c.args.typed.now in
    let y = c.text_law.ensures.processes d c.args.n c.in-Process.p (ap (λ xs. slice_get xs c.args.n) (sym c.requires.order) ∙ slice_get-get_or c.args.order.now c.args.n _ c.requires.there ∙ ap Some c.in-Process.is) in
    subst (λ z. IfErr c.check_process.result (IsErrorAt d z)) (some_same (OfProcess c.in-Process.p y.0) x (sym y.1 ∙ h)) (c.check_process.ensures.refused y.0 y.2)

pub returns-in-Initial-clause-kept : goal.returns-in-Initial-clause-kept
returns-in-Initial-clause-kept c x h =
    let d = design_of c.args.typed.now in
    let y = c.text_law.ensures.initials d c.args.n c.in-Initial.k (ap (λ xs. slice_get xs c.args.n) (sym c.requires.order) ∙ slice_get-get_or c.args.order.now c.args.n _ c.requires.there ∙ ap Some c.in-Initial.is) in
    subst (λ z. OnOk c.check_initial.result (block_refusal_at d z ≡ None)) (some_same (OfInitial c.in-Initial.k y.0) x (sym y.1 ∙ h)) (c.check_initial.ensures.kept y.0 y.2)

pub returns-in-Initial-clause-refused : goal.returns-in-Initial-clause-refused
returns-in-Initial-clause-refused c x h =
    let d = design_of c.args.typed.now in
    let y = c.text_law.ensures.initials d c.args.n c.in-Initial.k (ap (λ xs. slice_get xs c.args.n) (sym c.requires.order) ∙ slice_get-get_or c.args.order.now c.args.n _ c.requires.there ∙ ap Some c.in-Initial.is) in
    subst (λ z. IfErr c.check_initial.result (IsErrorAt d z)) (some_same (OfInitial c.in-Initial.k y.0) x (sym y.1 ∙ h)) (c.check_initial.ensures.refused y.0 y.2)
