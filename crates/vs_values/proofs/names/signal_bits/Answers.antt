use Rattle.std.proofs.Common.{◌≡◌, ◌∙◌, ℕ, Vec, Global, slice_get, Some, sym, ap, arith}
use Rattle.std.proofs.lemmas.Result.{IfOk-weaker}
use Rattle.vs_design.specs.Expressions as E
use Rattle.vs_design.specs.Values.{bits_of_signal, count_from}
use Rattle.vs_flat.specs.Arena.{Arena}
use Rattle.vs_flat.specs.DesignOf.{arena_signals}
use Rattle.vs_flat.specs.Trees.{signal_of, signal_at}
use Rattle.vs_values.proofs.Named.{signal_fits}
use Rattle.vs_values.proofs.names.signal_bits.Goals as goal

pub numbers-requires : goal.numbers-requires
numbers-requires c =
    let s = c.signal-signal.result.now in
    let a = c.args.templates.now.arena in
    let at : slice_get a.signals c.args.signal ≡ Some s = ap (λ (x : Arena). slice_get x.signals c.args.signal) (sym c.flat-flat.ensures.same) ∙ c.signal-signal.ensures in
    let few = c.flat-flat.ensures.lawful.design.few_bits in
    let count = (c.trees_law.ensures.counts a).bits in
    omega (arith, few, count, c.bits_of.ensures, signal_fits 0 0 a.signals c.args.signal s c.flat-flat.ensures.lawful.design.bits_numbered at)

pub returns : goal.returns
returns c =
    let s = c.signal-signal.result.now in
    let at : slice_get c.args.templates.now.arena.signals c.args.signal ≡ Some s = ap (λ (x : Arena). slice_get x.signals c.args.signal) (sym c.flat-flat.ensures.same) ∙ c.signal-signal.ensures in
    let is : signal_at (arena_signals c.args.templates.now.arena) c.args.signal ≡ signal_of c.args.signal s = c.trees_law.ensures.signals c.args.templates.now.arena c.args.signal s at in
    IfOk-weaker c.numbers.result
    (λ (to : Vec ℕ Global). to.items ≡ count_from s.first_bit c.bits_of.result)
    (λ (to : Vec ℕ Global). to.items ≡ bits_of_signal (signal_at (arena_signals c.args.templates.now.arena) c.args.signal))
    (λ to e. e ∙ ap (λ (k : ℕ). count_from s.first_bit k) c.bits_of.ensures ∙ ap (λ (x : E.Signal). bits_of_signal x) (sym is))
    c.numbers.ensures
