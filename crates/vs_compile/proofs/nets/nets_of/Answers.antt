use Rattle.std.proofs.Common.{◌≡◌, Result, Ok, Err, IfOk, ap, sym, ◌∙◌}
use Rattle.std.specs.Prelude.{IfOk}
use Rattle.vs_design.specs.Designs.{bit_count}
use Rattle.vs_flat.specs.Arena.{Arena}
use Rattle.vs_flat.specs.Arena as A
use Rattle.vs_flat.specs.DesignOf.{design_of}
use Rattle.vs_compile.proofs.Numbered.{are_clock_nets}
use Rattle.vs_compile.proofs.nets.nets_of.Goals as goal

if_ok : {V W : Type 0} {P Q : V → Type 0} (r : Result V W) → IfOk r P → ((v : V) → P v → Q v) → IfOk r Q
if_ok (Ok v) h k = k v h
if_ok (Err e) h k = h

pub returns : goal.returns
returns c =
    let a = c.args.typed.now in
    let d = design_of a in
    let counted : c.count_bits.result ≡ bit_count d = c.count_bits.ensures ∙ ap (λ (z : Arena). A.bit_count z.signals) c.flat.ensures.same ∙ sym (c.trees_law.ensures.counts a).bits in
    if_ok c.net_bits.result (c.net_bits.ensures d c.args.clocks.now.bits c.requires.nets)
    (λ v is. are_clock_nets c.list_law.ensures.few c.list_law.ensures.ascending c.sources_law.ensures d c.args.clocks.now.bits c.requires.accepted c.count_bits.result counted v.items is)
