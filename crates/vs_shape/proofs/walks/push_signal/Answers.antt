use Rattle.std.proofs.Common.{◌+◌, ◌≤◌, ◌∙◌, ap, sym, arith}
use Rattle.vs_design.specs.Values.{bits_of_signal, count_from}
use Rattle.vs_shape.proofs.Gathering.{one_added}
use Rattle.vs_flat.specs.Arena.{signal_length}
use Rattle.vs_shape.proofs.SignalBits.{signal_room}
use Rattle.vs_shape.proofs.walks.push_signal.Goals as goal

pub bits_of-requires : goal.bits_of-requires
bits_of-requires c =
    let room : c.signal-s.result.now.first_bit + signal_length c.signal-s.result.now ≤ 1048576 =
    signal_room c.trees_law.ensures.signals c.trees_law.ensures.counts c.args.flat.now c.requires.lawful c.args.signal c.signal-s.result.now c.signal-s.ensures c.requires.there
    in
    omega arith

pub push_run-requires : goal.push_run-requires
push_run-requires c =
    let room : c.signal-s.result.now.first_bit + signal_length c.signal-s.result.now ≤ 1048576 =
    signal_room c.trees_law.ensures.signals c.trees_law.ensures.counts c.args.flat.now c.requires.lawful c.args.signal c.signal-s.result.now c.signal-s.ensures c.requires.there
    in
    omega arith

pub returns : goal.returns
returns c =
    one_added c.push_run.result c.args.out.now.items c.push_run.new.out.items _ _ c.push_run.ensures
    (ap bits_of_signal (c.trees_law.ensures.signals c.args.flat.now c.args.signal c.signal-s.result.now c.signal-s.ensures) ∙ ap (count_from c.signal-s.result.now.first_bit) (sym c.bits_of.ensures))
