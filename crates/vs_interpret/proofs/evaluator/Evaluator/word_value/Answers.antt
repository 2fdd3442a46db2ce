use Rattle.std.proofs.Common.{length, ap, ◌∙◌, arith}
use Rattle.vs_design.specs.Values.{bits_of_signal, read}
use Rattle.vs_sets.specs.Nodes.{signal_of}
use Rattle.vs_writes.specs.Held.{state_of}
use Rattle.vs_interpret.proofs.Named.{word_ends, word_long, word_selected}
use Rattle.vs_interpret.proofs.evaluator.Evaluator.word_value.Goals as goal

pub word_at-requires-clause-there : goal.word_at-requires-clause-there
word_at-requires-clause-there c =
    let s = signal_of c.args.self.now.shapes.now c.args.signal in
    let memory = c.memory_of-memory.ensures in
    word_ends (length c.args.self.now.values.now) s c.memory_of-memory.result.first c.length.result c.memory_of-memory.result.len c.memory_of-memory.result.addresses c.requires.within memory.first memory.addresses c.length.ensures memory.len

pub returns-clause-value : goal.returns-clause-value
returns-clause-value c =
    let s = signal_of c.args.self.now.shapes.now c.args.signal in
    let memory = c.memory_of-memory.ensures in
    word_selected (state_of c.args.self.now.values.now) s c.args.signed c.args.address c.word_at.result c.memory_of-memory.result.first c.length.result c.memory_of-memory.result.len c.memory_of-memory.result.addresses c.word_place-place.result
    memory.first memory.addresses c.length.ensures memory.len c.word_place-place.ensures.value c.word_at.ensures

pub returns-clause-length : goal.returns-clause-length
returns-clause-length c =
    let s = signal_of c.args.self.now.shapes.now c.args.signal in
    ap length (returns-clause-value c) ∙ word_long s c.args.signed (read (state_of c.args.self.now.values.now) (bits_of_signal s)) c.args.address

pub word_at-requires-clause-below : goal.word_at-requires-clause-below
word_at-requires-clause-below c n h = let below = c.word_place-place.ensures.inside n h in omega (arith, below, c.length.ensures)
