use Rattle.vs_bench.proofs.TextLemmas.{state_more, line_pushed}
use Rattle.vs_bench.proofs.texts.stimulus_text.Goals as goal

pub loop-vector-preserved : goal.loop-vector-preserved
loop-vector-preserved c =
    let lane = c.args.lane in
    let k = c.loop-vector.vector in
    let s = c.loop-vector.state in
    let next = c.next_state-state.result in
    record {
      text = line_pushed c.loop-vector.text.items c.push_line.new.text.items lane k s next c.loop-vector.invariant.text c.loop-vector.invariant.state c.next_state-state.ensures c.in_ok-push_line.ensures;
      state = state_more lane k s next c.loop-vector.invariant.state c.next_state-state.ensures;
    }
