-- The limits of an instance, and of a generate block, which has none.
use Rattle.std.proofs.Common.{◌≡◌, ℕ, Bool, true, ◌&&◌, ◌++◌, nat_lt, ap, ◌∙◌}
use Rattle.vs_const.specs.Faults.{fault_if, least, better}
use Rattle.vs_const.specs.declared.rules.Rule.TheVariants.{InstanceDepth, TooManyInstances}
use Rattle.vs_const.proofs.Least.{least_append}
use Rattle.vs_elaborated.specs.Limits.{the_limits}
use Rattle.vs_elaborated.specs.Pieces.{Task, is_instance}
use Rattle.vs_elaborated.specs.Surveys.{Totals}
use Rattle.vs_elaborated.specs.Elaborated.{limit_faults}

limits_are : (t : Task) (totals : Totals) (b : Bool) → is_instance t.contents ≡ b
    → least (limit_faults the_limits t totals) ≡ better (least (fault_if (b && nat_lt 32 t.depth) InstanceDepth t.place)) (least (fault_if (b && nat_lt 4096 totals.instances) TooManyInstances t.place))
limits_are t totals b h =
    ap (λ (c : Bool). least (fault_if (c && nat_lt 32 t.depth) InstanceDepth t.place ++ fault_if (c && nat_lt 4096 totals.instances) TooManyInstances t.place)) h
    ∙ least_append (fault_if (b && nat_lt 32 t.depth) InstanceDepth t.place) (fault_if (b && nat_lt 4096 totals.instances) TooManyInstances t.place)

pub instance_limits : (t : Task) (totals : Totals) (place depth instances : ℕ) → is_instance t.contents ≡ true → t.place ≡ place → t.depth ≡ depth → totals.instances ≡ instances
    → least (limit_faults the_limits t totals) ≡ better (least (fault_if (nat_lt 32 depth) InstanceDepth place)) (least (fault_if (nat_lt 4096 instances) TooManyInstances place))
instance_limits t totals place depth instances h p d i =
    limits_are t totals true h
    ∙ ap (λ n. better (least (fault_if (nat_lt 32 t.depth) InstanceDepth n)) (least (fault_if (nat_lt 4096 totals.instances) TooManyInstances n))) p
    ∙ ap (λ n. better (least (fault_if (nat_lt 32 n) InstanceDepth place)) (least (fault_if (nat_lt 4096 totals.instances) TooManyInstances place))) d
    ∙ ap (λ n. better (least (fault_if (nat_lt 32 depth) InstanceDepth place)) (least (fault_if (nat_lt 4096 n) TooManyInstances place))) i
