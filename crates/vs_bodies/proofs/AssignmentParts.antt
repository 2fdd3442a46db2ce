-- What is told of an assignment, by its parts.
use Rattle.std.proofs.Common.{◌≡◌, List, ◌++◌, max, Option, refl, sym, ap, ◌∙◌, arith}
use Rattle.vs_const.specs.declared.faults.Fault.{Fault}
use Rattle.vs_const.specs.CallDepths.{call_depth, target_depth}
use Rattle.vs_const.specs.Faults.{least, better}
use Rattle.vs_const.specs.Typed.{Typed}
use Rattle.vs_const.proofs.Least.{least_append}
use Rattle.vs_elaborated.specs.Targets.{TypedTarget}
use Rattle.vs_bodies.specs.declared.told.Told.{Told}
use Rattle.vs_bodies.specs.Told.{broken, joined, told_target, told_value}
use Rattle.vs_bodies.proofs.Joins.{tell, same}

least_four : (ds ws ts es : List Fault) → better (least ds) (better (least ws) (better (least ts) (least es))) ≡ least (ds ++ (ws ++ (ts ++ es)))
least_four ds ws ts es =
    sym (least_append ds (ws ++ (ts ++ es)) ∙ ap (better (least ds)) (least_append ws (ts ++ es) ∙ ap (better (least ws)) (least_append ts es)))

-- the delay and the memory come first, then the target and the value
all_told : (ds ws : List Fault) (t : TypedTarget) (e : Typed)
    → joined (broken (least ds) 0) (joined (broken (least ws) 0) (joined (told_target t) (told_value e))) ≡ tell (least (ds ++ (ws ++ (t.faults ++ e.faults)))) 0 (max (target_depth t.target) (call_depth e.expression))
all_told ds ws t e = same _ _ _ _ _ _ (least_four ds ws t.faults e.faults) refl (omega arith)

pub assignment_parts : (delayed word : Option Fault) (written value : Told) (ds ws : List Fault) (t : TypedTarget) (e : Typed) → delayed ≡ least ds → word ≡ least ws → written ≡ told_target t → value ≡ told_value e
    → joined (broken delayed 0) (joined (broken word 0) (joined written value)) ≡ tell (least (ds ++ (ws ++ (t.faults ++ e.faults)))) 0 (max (target_depth t.target) (call_depth e.expression))
assignment_parts delayed word written value ds ws t e d w x v =
    ap (λ f. joined (broken f 0) (joined (broken word 0) (joined written value))) d
    ∙ ap (λ f. joined (broken (least ds) 0) (joined (broken f 0) (joined written value))) w
    ∙ ap (λ z. joined (broken (least ds) 0) (joined (broken (least ws) 0) (joined z value))) x
    ∙ ap (λ z. joined (broken (least ds) 0) (joined (broken (least ws) 0) (joined (told_target t) z))) v
    ∙ all_told ds ws t e
