use Rattle.std.proofs.Common.{◌+◌, ℕ, List, [], ◌∷◌, ◌++◌, length, ap, ◌∙◌, subst, arith}
use Rattle.std.specs.Prelude.{Option, IfOk}
use Rattle.vs_flat.specs.DesignOf.{design_of}
use Rattle.vs_flat.specs.Trees.{signal_of}
use Rattle.vs_vcd.specs.declared.groups.Groups.{Groups}
use Rattle.vs_vcd.specs.Groups.{AreLinked}
use Rattle.vs_vcd.specs.Steps.{signal_keys}
use Rattle.vs_vcd.proofs.Arenas.{signal-at, length-signals}
use Rattle.vs_vcd.proofs.Outline.{signal_keys-more, signal_keys-end, length-signal_keys, all_listed, listed_more}
use Rattle.vs_vcd.proofs.declarations.variable_groups.Goals as goal

pub loop-number-preserved : goal.loop-number-preserved
loop-number-preserved c =
    let signals = (design_of c.args.flat.now).signals in
    let number = c.loop-number.number in
    let next = signal_keys-more signals number (number + 1) (signal_of number c.signal.result.now) (omega arith) (signal-at c.args.flat.now number c.signal.result.now c.signal.ensures) in
    listed_more c.loop-number.keys.items c.push.new.self.items _ _ _ _ c.loop-number.invariant next (c.in_ok-push.ensures.items ∙ ap (λ k. c.loop-number.keys.items ++ k ∷ []) (c.signal_key.ensures number))

pub of-requires : goal.of-requires
of-requires c =
    let signals = (design_of c.args.flat.now).signals in
    let end = signal_keys-end signals c.loop-number.number (omega (arith, length-signals c.args.flat.now)) in
    let all = all_listed c.loop-number.keys.items _ _ c.loop-number.invariant end in
    let long = ap length (c.deref.ensures.value ∙ all) in
    omega (arith, long, length-signal_keys signals, length-signals c.args.flat.now)

pub returns : goal.returns
returns c =
    let signals = (design_of c.args.flat.now).signals in
    let end = signal_keys-end signals c.loop-number.number (omega (arith, length-signals c.args.flat.now)) in
    let all = all_listed c.loop-number.keys.items _ _ c.loop-number.invariant end in
    subst (λ (n : ℕ). IfOk c.of.result (λ (g : Groups). AreLinked n (signal_keys signals) g.first.items g.next.items)) c.scope_count.ensures
    (subst (λ (keys : List (Option ℕ)). IfOk c.of.result (λ (g : Groups). AreLinked c.scope_count.result keys g.first.items g.next.items)) (c.deref.ensures.value ∙ all) c.of.ensures)
