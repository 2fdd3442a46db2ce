use Rattle.std.proofs.Common.{◌≡◌, length, replicate, ap, ◌∙◌, arith, rules}
use Rattle.std.specs.Prelude.{None}
use Rattle.std.proofs.lemmas.List.{length-replicate}
use Rattle.vs_vcd.proofs.Grouping.{linked-none}
use Rattle.vs_vcd.proofs.groups.Groups.of.Goals as goal

pub loop-place-init : goal.loop-place-init
loop-place-init c =
    let none : c.in_ok-vec.field-0.items ≡ replicate c.args.groups None = c.in_ok-vec.ensures.items_if_clones_equal (λ y h. search rules) in
    let next : c.in_ok-vec-2.field-0.items ≡ replicate (length c.args.keys.now) None = c.in_ok-vec-2.ensures.items_if_clones_equal (λ y h. search rules) in
    record {
      linked = linked-none c.args.groups c.args.keys.now c.in_ok-vec.field-0.items c.in_ok-vec-2.field-0.items none (ap length next ∙ length-replicate (length c.args.keys.now) None);
      within = omega arith;
    }
