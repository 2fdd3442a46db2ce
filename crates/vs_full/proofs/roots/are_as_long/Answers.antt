use Rattle.std.proofs.Common.{◌≡◌, ◌+◌, ◌≤◌, ◌==◌, ℕ, sym, ap, ap₂, ◌∙◌, arith}
use Rattle.vs_design.specs.Expressions.{signal_length}
use Rattle.vs_flat.specs.Arena.{signal_length as flat_length}
use Rattle.vs_flat.specs.DesignOf.{arena_signals}
use Rattle.vs_flat.specs.Trees.{signal_at}
use Rattle.vs_shape.proofs.SignalBits.{signal_room}
use Rattle.vs_full.proofs.roots.are_as_long.Goals as goal

pub bits_of-requires : goal.bits_of-requires
bits_of-requires c =
    let s = c.signal.result.now in
    let room : s.first_bit + flat_length s ≤ 1048576 = signal_room c.trees_law.ensures.signals c.trees_law.ensures.counts c.args.flat.now c.requires.lawful c.args.a s c.signal.ensures c.requires.first in
    omega arith

pub bits_of-requires-2 : goal.bits_of-requires-2
bits_of-requires-2 c =
    let s = c.signal-2.result.now in
    let room : s.first_bit + flat_length s ≤ 1048576 = signal_room c.trees_law.ensures.signals c.trees_law.ensures.counts c.args.flat.now c.requires.lawful c.args.b s c.signal-2.ensures c.requires.second in
    omega arith

pub returns : goal.returns
returns c =
    let f = c.args.flat.now in
    let first : c.bits_of.result ≡ signal_length (signal_at (arena_signals f) c.args.a) = c.bits_of.ensures ∙ sym (ap signal_length (c.trees_law.ensures.signals f c.args.a c.signal.result.now c.signal.ensures)) in
    let second : c.bits_of-2.result ≡ signal_length (signal_at (arena_signals f) c.args.b) = c.bits_of-2.ensures ∙ sym (ap signal_length (c.trees_law.ensures.signals f c.args.b c.signal-2.result.now c.signal-2.ensures)) in
    ap₂ (λ (x y : ℕ). x == y) first second
