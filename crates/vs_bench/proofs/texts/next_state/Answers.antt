use Rattle.vs_bench.proofs.TextLemmas.{after_wraps}
use Rattle.vs_bench.proofs.texts.next_state.Goals as goal

pub returns : goal.returns
returns c = after_wraps c.args.state
