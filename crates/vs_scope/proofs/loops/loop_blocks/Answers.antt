use Rattle.std.proofs.Common.{◌≡◌, ◌++◌, ℕ, map, Option, sym, ap, ◌∙◌, subst}
use Rattle.vs_ast.specs.Views.{option}
use Rattle.vs_const.specs.declared.faults.Fault.{Fault}
use Rattle.vs_const.specs.Faults.{least, better}
use Rattle.vs_const.proofs.Least.{least_append}
use Rattle.vs_elaborated.specs.Generate as generate
use Rattle.vs_elaborated.specs.Loops as spec
use Rattle.vs_scope.specs.declared.made.Block.{Block}
use Rattle.vs_scope.specs.Blocks.{block}
use Rattle.vs_scope.specs.Made.{Kept, made, kept, nested, block_name}
use Rattle.vs_scope.proofs.Mades.{same_kept}
use Rattle.vs_scope.proofs.loops.loop_blocks.Goals as goal

pub returns-in-None : goal.returns-in-None
returns-in-None c = λ fs t h k.
    let all : c.first_of-all.result ≡ least (fs ++ t.faults) = c.first_of-all.ensures ∙ ap (λ (x : Option Fault). better x c.args.turns.now.fault) h ∙ ap (better (least fs)) k.fault ∙ sym (least_append fs t.faults) in
    subst (λ (o : Option Block). made c.nothing_made.result ≡ kept (generate.after_faults fs (spec.loop_blocks (option block o) c.args.genvar t))) (sym c.in-None.is)
    (c.nothing_made.ensures (fs ++ t.faults) all ∙ ap (λ (n : ℕ). kept (generate.nothing_made (fs ++ t.faults) n)) k.count)

pub returns-in_ok-names-in-Some : goal.returns-in_ok-names-in-Some
returns-in_ok-names-in-Some c = λ fs t h k.
    let b = c.in-Some.b in
    let all : c.first_of-all.result ≡ least (fs ++ t.faults) = c.first_of-all.ensures ∙ ap (λ (x : Option Fault). better x c.args.turns.now.fault) h ∙ ap (better (least fs)) k.fault ∙ sym (least_append fs t.faults) in
    let mine : Kept = record { blocks = map nested c.in_ok-blocks-in-Some.blocks.items; names = map block_name c.in_ok-names-in-Some.names.items; fault = c.first_of-all.result; turns = c.args.turns.now.count } in
    subst (λ (o : Option Block). mine ≡ kept (generate.after_faults fs (spec.loop_blocks (option block o) c.args.genvar t))) (sym c.in-Some.is)
    (same_kept _ _ _ _ _ _ _ _
    (c.in_ok-blocks-in-Some.ensures ∙ ap (spec.turn_blocks (block b) c.args.genvar) (c.as_slice.ensures.value ∙ k.values))
    (c.in_ok-names-in-Some.ensures ∙ ap (spec.turn_names (block b).name) (c.as_slice-in-Some.ensures.value ∙ k.values))
    all k.count)
