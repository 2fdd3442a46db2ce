use Rattle.std.proofs.Common.{◌≡◌, ℕ, List, length, sym, ap, ◌∙◌, subst}
use Rattle.std.specs.Prelude.{IfOk}
use Rattle.vs_net.specs.Network.{State}
use Rattle.vs_flat.specs.DesignOf.{design_of}
use Rattle.vs_writes.specs.Held.{state_of}
use Rattle.vs_queue.specs.First.{flag_at, idle_by}
use Rattle.vs_queue.specs.Ordered.{driven_bits, drawn_values, seed_after}
use Rattle.vs_queue.proofs.Firsts.{flagged_are, idle_is}
use Rattle.vs_queue.proofs.first.first_values.Goals as goal

pub values_by-requires : goal.values_by-requires
values_by-requires c = ap length c.as_slice-2.ensures.value ∙ c.in_ok-driven.ensures.count ∙ sym (ap length c.as_slice.ensures.value ∙ c.in_ok-nets.ensures.count)

pub returns-clause-count : goal.returns-clause-count
returns-clause-count c = subst (λ k. IfOk c.values_by.result (λ r. length r.0.items ≡ k)) (ap length c.as_slice.ensures.value ∙ c.in_ok-nets.ensures.count) c.values_by.ensures.count

pub returns-clause-values : goal.returns-clause-values
returns-clause-values c =
    let d = design_of c.args.typed.now in
    let nets = c.as_slice.result.now in
    let driven = c.as_slice-2.result.now in
    let count = ap length c.as_slice.ensures.value ∙ c.in_ok-nets.ensures.count in
    let net = λ (b : ℕ). ap (λ fs. flag_at fs b) c.as_slice.ensures.value ∙ c.in_ok-nets.ensures.flags b in
    let drive = λ (b : ℕ). ap (λ fs. flag_at fs b) c.as_slice-2.ensures.value ∙ c.in_ok-driven.ensures.flags b in
    subst (λ (s : State). IfOk c.values_by.result (λ r. state_of r.0.items ≡ drawn_values (driven_bits d) c.args.order s)) (idle_is d nets driven count net drive)
    (subst (λ (bs : List ℕ). IfOk c.values_by.result (λ r. state_of r.0.items ≡ drawn_values bs c.args.order (idle_by nets))) (flagged_are d nets driven count net drive) c.values_by.ensures.values)

pub returns-clause-seed : goal.returns-clause-seed
returns-clause-seed c =
    let d = design_of c.args.typed.now in
    let nets = c.as_slice.result.now in
    let driven = c.as_slice-2.result.now in
    let count = ap length c.as_slice.ensures.value ∙ c.in_ok-nets.ensures.count in
    let net = λ (b : ℕ). ap (λ fs. flag_at fs b) c.as_slice.ensures.value ∙ c.in_ok-nets.ensures.flags b in
    let drive = λ (b : ℕ). ap (λ fs. flag_at fs b) c.as_slice-2.ensures.value ∙ c.in_ok-driven.ensures.flags b in
    subst (λ (bs : List ℕ). IfOk c.values_by.result (λ r. r.1 ≡ seed_after bs c.args.order)) (flagged_are d nets driven count net drive) c.values_by.ensures.seed
