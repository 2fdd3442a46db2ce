use Rattle.std.proofs.Common.{◌≡◌, ℕ, length, subst, arith}
use Rattle.vs_waves.specs.Slots.{IsSlot}
use Rattle.vs_waves.proofs.round.Round.new.Goals as goal

pub returns-clause-round : goal.returns-clause-round
returns-clause-round g c =
    let all : c.signal_count-count.result ≡ length c.loop-n.tails.items = omega (arith, c.loop-n.invariant.count) in
    record {
      tails = c.loop-n.invariant.tails;
      fall = subst (λ (n : ℕ). IsSlot g.W.Word.LANES n c.in_ok-new.field-0) all c.in_ok-new.ensures;
      rise = subst (λ (n : ℕ). IsSlot g.W.Word.LANES n c.in_ok-new-2.field-0) all c.in_ok-new-2.ensures;
    }
