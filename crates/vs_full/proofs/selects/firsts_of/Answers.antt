use Rattle.std.proofs.Common.{◌<◌, ◌&&◌, Bool, List, map, length, sym, ap, ◌∙◌, arith}
use Rattle.std.specs.Prelude.{filter}
use Rattle.std.proofs.lemmas.List.{take_all}
use Rattle.vs_design.specs.Expressions.{Signal}
use Rattle.vs_design.specs.Footprints.{contains}
use Rattle.vs_flat.specs.DesignOf.{arena_signals}
use Rattle.vs_flat.specs.Trees.{signal_at}
use Rattle.vs_full.proofs.Picking.{firsts_more}
use Rattle.vs_full.proofs.Rooting.{signal_numbered}
use Rattle.vs_full.proofs.selects.firsts_of.Goals as goal

pub loop-n-preserved : goal.loop-n-preserved
loop-n-preserved c = λ numbers told.
    let a = c.args.flat.now in
    let n = c.loop-n.n in
    let counts = c.trees_law.ensures.counts a in
    let s = signal_at (arena_signals a) n in
    let there : n < length a.signals = omega (arith, c.loop-n-test.true, c.signal_count-n-end.ensures.count) in
    let is = c.is_select-chosen.ensures ∙ ap (λ (b : Bool). s.input && b) (told n there ∙ ap (contains numbers) (sym (signal_numbered a n there))) in
    c.in_ok-push_first.ensures ∙ firsts_more numbers (arena_signals a) n c.loop-n.firsts.items c.is_select-chosen.result (omega (arith, c.loop-n-test.true, c.signal_count-n-end.ensures.count, counts.signals)) is (c.loop-n.invariant numbers told)

pub returns : goal.returns
returns c = λ numbers told.
    let a = c.args.flat.now in
    let counts = c.trees_law.ensures.counts a in
    c.loop-n.invariant numbers told
    ∙ ap (λ (ss : List Signal). map (λ (s : Signal). s.first) (filter (λ (s : Signal). contains numbers s.number) (filter (λ (s : Signal). s.input) ss)))
    (take_all c.loop-n.n (arena_signals a) (omega (arith, c.loop-n-test.false, c.loop-n.auto.n-end, c.signal_count-n-end.ensures.count, counts.signals)))
