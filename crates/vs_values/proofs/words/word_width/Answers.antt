use Rattle.std.proofs.Common.{◌≡◌, ◌∙◌, slice_get, Some, sym, ap, arith}
use Rattle.vs_design.specs.Expressions.{word_length}
use Rattle.vs_flat.specs.Arena.{Arena}
use Rattle.vs_flat.specs.DesignOf.{arena_signals}
use Rattle.vs_flat.specs.Trees.{signal_of, signal_at}
use Rattle.vs_values.proofs.Named.{signal_fits}
use Rattle.vs_values.proofs.Wording.{word_small}
use Rattle.vs_values.proofs.words.word_width.Goals as goal

pub length_of-requires : goal.length_of-requires
length_of-requires c =
    let a = c.args.templates.now.arena in
    let s = c.signal.result.now in
    let at : slice_get a.signals c.args.signal ≡ Some s = ap (λ (x : Arena). slice_get x.signals c.args.signal) (sym c.flat.ensures.same) ∙ c.signal.ensures in
    let few = c.flat.ensures.lawful.design.few_bits in
    let count = (c.trees_law.ensures.counts a).bits in
    omega (arith, few, count, word_small (signal_of c.args.signal s), signal_fits 0 0 a.signals c.args.signal s c.flat.ensures.lawful.design.bits_numbered at)

pub returns : goal.returns
returns c =
    let a = c.args.templates.now.arena in
    let s = c.signal.result.now in
    let at : slice_get a.signals c.args.signal ≡ Some s = ap (λ (x : Arena). slice_get x.signals c.args.signal) (sym c.flat.ensures.same) ∙ c.signal.ensures in
    let is : signal_at (arena_signals a) c.args.signal ≡ signal_of c.args.signal s = c.trees_law.ensures.signals a c.args.signal s at in
    c.length_of.ensures ∙ ap word_length (sym is)
