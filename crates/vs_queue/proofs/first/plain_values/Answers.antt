use Rattle.std.proofs.Common.{ℕ, ◌+◌, length, sym, ap, ap₂, ◌∙◌}
use Rattle.vs_flat.specs.Arena.{Arena}
use Rattle.vs_flat.specs.DesignOf.{design_of}
use Rattle.vs_queue.specs.First.{flag_at}
use Rattle.vs_queue.specs.Ordered.{x_values}
use Rattle.vs_queue.specs.Spare.{spare_count}
use Rattle.vs_queue.proofs.Firsts.{flagged_are, idle_is}
use Rattle.vs_queue.proofs.first.plain_values.Goals as goal

pub plain_by-requires : goal.plain_by-requires
plain_by-requires c = ap length c.as_slice-2.ensures.value ∙ c.in_ok-driven.ensures.count ∙ sym (ap length c.as_slice.ensures.value ∙ c.in_ok-nets.ensures.count)

pub spare_count-requires : goal.spare_count-requires
spare_count-requires c = rw c.flat.ensures.same c.requires.one

pub returns-clause-count : goal.returns-clause-count
returns-clause-count c =
    c.in_ok-add_spares.ensures.count
    ∙ ap₂ ◌+◌ (c.in_ok-values.ensures.count ∙ ap length c.as_slice.ensures.value ∙ c.in_ok-nets.ensures.count) (c.spare_count.ensures ∙ ap (λ (z : Arena). spare_count (design_of z) c.args.clocks.now) c.flat.ensures.same)

pub returns-clause-values : goal.returns-clause-values
returns-clause-values c =
    let d = design_of c.args.typed.now in
    let nets = c.as_slice.result.now in
    let driven = c.as_slice-2.result.now in
    let count = ap length c.as_slice.ensures.value ∙ c.in_ok-nets.ensures.count in
    let net = λ (b : ℕ). ap (λ fs. flag_at fs b) c.as_slice.ensures.value ∙ c.in_ok-nets.ensures.flags b in
    let drive = λ (b : ℕ). ap (λ fs. flag_at fs b) c.as_slice-2.ensures.value ∙ c.in_ok-driven.ensures.flags b in
    c.in_ok-add_spares.ensures.same ∙ c.in_ok-values.ensures.values ∙ ap₂ x_values (flagged_are d nets driven count net drive) (idle_is d nets driven count net drive)
