use Rattle.std.proofs.Common.{◌-◌, ◌<◌, length, refl, sym, ap, ◌∙◌, arith}
use Rattle.vs_four.specs.Logic.{map2}
use Rattle.vs_design.specs.Sets.{union}
use Rattle.vs_sets.proofs.Steps.{length-map2}
use Rattle.vs_sets.proofs.WordSteps.{slice_long, word_more, words_done}
use Rattle.vs_sets.proofs.words.all_words.Goals as goal

pub returns-clause-value : goal.returns-clause-value
returns-clause-value c = words_done c.args.memory.now c.loop-n.list c.args.count c.args.len c.loop-n.n c.loop-n-test.false c.loop-n.invariant.rest

pub loop-n-preserved : goal.loop-n-preserved
loop-n-preserved c =
    let before : c.loop-n.n - 1 < c.args.count = omega (arith, c.loop-n-test.true, c.loop-n.invariant.within) in
    let list = c.as_slice.ensures.value in
    let made = c.united-list.ensures ∙ ap (map2 union _) list in
    let one = slice_long c.args.memory.now _ c.args.count c.args.len (c.loop-n.n - 1) c.requires.long before refl in
    record {
      within = omega (arith, c.loop-n.invariant.within);
      long = ap length made ∙ length-map2 union _ c.loop-n.list (one ∙ sym c.loop-n.invariant.long) ∙ one;
      rest = word_more c.args.memory.now c.loop-n.list _ c.united-list.result c.args.count c.args.len c.loop-n.n c.requires.long c.loop-n-test.true c.loop-n.invariant.within c.loop-n.invariant.rest refl made;
    }
