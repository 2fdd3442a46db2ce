use Rattle.std.proofs.Common.{◌≡◌, ap, length, arith, rules}
use Rattle.vs_flat.proofs.Signals.{length≤bit_count, within_with_signal, inputs_with_input, inputs_with_other}
use Rattle.vs_flat.specs.Arena.{Arena}
use Rattle.vs_flat.specs.Kept.{arena_of}
use Rattle.vs_flat.proofs.flat.Flat.add_signal.Goals as goal

pub overflow_cast-number : goal.overflow_cast-number
overflow_cast-number c = omega (arith, length≤bit_count c.self.inside.signals.items, c.self.invariant.limits.bits)

pub invariant_of-self-then-is_input : goal.invariant_of-self-then-is_input
invariant_of-self-then-is_input c =
    let seen : c.self.inside.signals.items ≡ c.args.self.now.signals = ap (λ (a : Arena). a.signals) c.self.view_is in
    let bits = rw (← seen) at c.requires.bits in
    let counted : c.len-number.result ≡ length c.self.inside.signals.items = search rules in
    record {
      limits = within_with_signal (arena_of c.self.inside) c.args.signal c.push.new.self.items c.self.invariant.limits bits c.in_ok-push.ensures.items;
      inputs =
          inputs_with_input c.args.signal c.self.inside.signals.items c.push.new.self.items c.self.inside.inputs.items c.reserve.new.self.items c.push_reserved.new.list.items c.len-number.result
          c.if-is_input.true counted c.self.invariant.inputs c.in_ok-push.ensures.items c.in_ok-reserve.ensures.items c.push_reserved.ensures;
    }

pub invariant_of-self-else-is_input : goal.invariant_of-self-else-is_input
invariant_of-self-else-is_input c =
    let seen : c.self.inside.signals.items ≡ c.args.self.now.signals = ap (λ (a : Arena). a.signals) c.self.view_is in
    let bits = rw (← seen) at c.requires.bits in
    record {
      limits = within_with_signal (arena_of c.self.inside) c.args.signal c.push.new.self.items c.self.invariant.limits bits c.in_ok-push.ensures.items;
      inputs =
          inputs_with_other c.args.signal c.self.inside.signals.items c.push.new.self.items c.self.inside.inputs.items c.reserve.new.self.items
          c.if-is_input.false c.self.invariant.inputs c.in_ok-push.ensures.items c.in_ok-reserve.ensures.items;
    }
