use Rattle.std.proofs.Common.{◌≡◌, ◌+◌, ◌≤◌, ◌*◌, length, sym, ap, ap₂, ◌∙◌, arith}
use Rattle.vs_four.specs.Selects.{range_length}
use Rattle.vs_design.specs.Expressions as E
use Rattle.vs_sets.specs.Nodes.{signal_of, tree_of}
use Rattle.vs_sets.proofs.TargetFacts.{word_ends_at}
use Rattle.vs_sets.proofs.Widths.{words_are}
use Rattle.vs_sets.proofs.WordSteps.{word_ends}
use Rattle.vs_sets.proofs.targets.write_word.Goals as goal

pub put_word-requires : goal.put_word-requires
put_word-requires c = record {
  inside = λ n is.
      let memory = c.memory_of-memory in
      let s = signal_of c.args.shapes.now c.args.signal in
      let count = range_length memory.result.addresses in
      let ends = word_ends count (length c.args.sets.now) n (c.word_place-place.ensures.inside n is) in
      let many : count * length c.args.sets.now ≡ count * memory.result.len = ap (λ k. count * k) (c.requires.many ∙ sym memory.ensures.len) in
      let bits : count * memory.result.len ≡ E.signal_length s = ap₂ (λ r k. range_length r * k) memory.ensures.addresses memory.ensures.len ∙ sym (words_are s) in
      let most : s.first + E.signal_length s ≤ length c.args.table.now = word_ends_at (length c.args.table.now) s (tree_of c.args.shapes.now c.args.index) c.requires.within in
      omega (arith, ends, many, bits, most, memory.ensures.first);
}

pub widen_run-requires : goal.widen_run-requires
widen_run-requires c =
    let s = signal_of c.args.shapes.now c.args.signal in
    let most : s.first + E.signal_length s ≤ length c.args.table.now = word_ends_at (length c.args.table.now) s (tree_of c.args.shapes.now c.args.index) c.requires.within in
    omega (arith, most, c.span_of-span.ensures.first, c.span_of-span.ensures.len)
