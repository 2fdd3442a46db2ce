use Rattle.std.proofs.Common.{◌≡◌, ◌≤◌, ◌+◌, ◌-◌, List, [], ◌∷◌, ◌++◌, length, replicate, append_assoc, length-append, ap, ◌∙◌, arith}
use Rattle.std.proofs.lemmas.List.{replicate_more}
use Rattle.vs_four.specs.declared.Bit4.{Bit4}
use Rattle.vs_four.specs.declared.Bit4.TheVariants.{Zero}
use Rattle.vs_assemble.proofs.assembling.padded.Goals as goal

zero_more : (first items all : List Bit4) → length first ≤ length items → items ≡ first ++ replicate (length items - length first) Zero → all ≡ items ++ Zero ∷ []
    → all ≡ first ++ replicate (length all - length first) Zero
zero_more first items all l h is =
    let long : length all ≡ length items + 1 = ap length is ∙ length-append items (Zero ∷ []) in
    let more : (length items - length first) + 1 ≡ length all - length first = omega (arith, long, l) in
    is ∙ ap (λ (bs : List Bit4). bs ++ Zero ∷ []) h ∙ append_assoc first (replicate (length items - length first) Zero) (Zero ∷ [])
    ∙ ap (λ (bs : List Bit4). first ++ bs) (replicate_more (length items - length first) Zero ∙ ap (λ n. replicate n Zero) more)

pub loop-bits-preserved : goal.loop-bits-preserved
loop-bits-preserved c =
    let items = c.in_ok-push.ensures.items in
    let long : length c.push.new.self.items ≡ length c.loop-bits.bits.items + 1 = ap length items ∙ length-append c.loop-bits.bits.items (Zero ∷ []) in
    record {
      least = omega (arith, long, c.loop-bits.invariant.least);
      most = omega (arith, long, c.loop-bits-test.true, c.len.ensures);
      items = zero_more c.args.bits.items c.loop-bits.bits.items c.push.new.self.items c.loop-bits.invariant.least c.loop-bits.invariant.items items;
    }
