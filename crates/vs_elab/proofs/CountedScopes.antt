-- Within the limits there are few instances.
use Rattle.std.proofs.Common.{◌≡◌, ◌≤◌, ℕ, Bool, true, false, List, None, nat_lt, refl, sym, ap, ◌∙◌}
use Rattle.std.specs.Borrow.{Bor}
use Rattle.std.proofs.lemmas.Bool.{ltb-false}
use Rattle.vs_ast.specs.declared.modules.Module.{Module}
use Rattle.vs_const.specs.Faults.{fault_if, least}
use Rattle.vs_const.specs.declared.rules.Rule.{Rule}
use Rattle.vs_const.specs.declared.rules.Rule.TheVariants.{InstanceDepth, TooManyInstances}
use Rattle.vs_elaborated.specs.Limits.{the_limits}
use Rattle.vs_elaborated.specs.Pieces.{Task, is_instance}
use Rattle.vs_elaborated.specs.Surveys.{Totals}
use Rattle.vs_elaborated.specs.Elaborated.{limit_faults}
use Rattle.vs_scope.specs.declared.contents.Contents.{Contents}
use Rattle.vs_scope.specs.declared.contents.Contents.TheVariants.{Module as OfModule}
use Rattle.vs_scope.specs.declared.frames.Frame.{Frame}
use Rattle.vs_maps.specs.declared.maps.NameMap.{NameMap}
use Rattle.vs_scope.specs.declared.parameters.Override.{Override}
use Rattle.vs_scope.specs.Surveys.{contents_of}
use Rattle.vs_elab.proofs.FineScopes.{second_none}
use Rattle.vs_elab.proofs.InstanceLimits.{instance_limits}

pub module_is : (frames : List Frame) (overrides : NameMap Override) (c : Contents) (m : Bor Module) → c ≡ OfModule m → is_instance (contents_of frames overrides c) ≡ true
module_is frames overrides c m e = ap (λ (x : Contents). is_instance (contents_of frames overrides x)) e

not_broken : (b : Bool) (rule : Rule) (place : ℕ) → least (fault_if b rule place) ≡ None → b ≡ false
not_broken true rule place h = cc
not_broken false rule place h = refl

pub few_within : (t : Task) (totals : Totals) → is_instance t.contents ≡ true → least (limit_faults the_limits t totals) ≡ None → totals.instances ≤ 4096
few_within t totals h none =
    ltb-false 4096 totals.instances (not_broken (nat_lt 4096 totals.instances) TooManyInstances t.place
    (second_none (least (fault_if (nat_lt 32 t.depth) InstanceDepth t.place)) (least (fault_if (nat_lt 4096 totals.instances) TooManyInstances t.place)) (sym (instance_limits t totals t.place t.depth totals.instances h refl refl refl) ∙ none)))
