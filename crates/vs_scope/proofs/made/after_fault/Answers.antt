use Rattle.std.proofs.Common.{Option, sym, ap, ◌∙◌}
use Rattle.vs_const.specs.declared.faults.Fault.{Fault}
use Rattle.vs_const.specs.Faults.{least, better}
use Rattle.vs_const.proofs.Least.{least_append}
use Rattle.vs_scope.specs.Made.{Kept}
use Rattle.vs_scope.proofs.Mades.{same_kept}
use Rattle.vs_scope.proofs.made.after_fault.Goals as goal

pub returns : goal.returns
returns c = λ fs all h k.
    same_kept _ _ _ _ _ _ _ _ (ap (λ (x : Kept). x.blocks) k) (ap (λ (x : Kept). x.names) k)
    (c.first_of.ensures ∙ ap (λ (x : Option Fault). better x c.args.m.fault) h ∙ ap (λ (x : Kept). better (least fs) x.fault) k ∙ sym (least_append fs all.faults)) (ap (λ (x : Kept). x.turns) k)
