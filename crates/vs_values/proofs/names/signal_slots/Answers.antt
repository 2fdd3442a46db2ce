use Rattle.std.proofs.Common.{◌≡◌, ◌∙◌, ℕ, Vec, Global, map, slice_index, slice_get, Some, true, length, sym, ap, subst, arith}
use Rattle.std.proofs.lemmas.Result.{IfOk-weaker}
use Rattle.vs_design.specs.Expressions as E
use Rattle.vs_design.specs.Values.{bits_of_signal, count_from}
use Rattle.vs_flat.specs.Arena.{Arena}
use Rattle.vs_flat.specs.DesignOf.{arena_signals}
use Rattle.vs_flat.specs.Trees.{signal_of, signal_at}
use Rattle.vs_design.specs.Within.{signal_within}
use Rattle.vs_values.proofs.Named.{signal_fits, within_is}
use Rattle.vs_values.proofs.names.signal_slots.Goals as goal

pub run-requires-clause-inside : goal.run-requires-clause-inside
run-requires-clause-inside c =
    let s = c.signal-signal.result.now in
    let a = c.args.templates.now.arena in
    let at : slice_get a.signals c.args.signal ≡ Some s = ap (λ (x : Arena). slice_get x.signals c.args.signal) (sym c.flat-flat.ensures.same) ∙ c.signal-signal.ensures in
    let is : signal_at (arena_signals a) c.args.signal ≡ signal_of c.args.signal s = c.trees_law.ensures.signals a c.args.signal s at in
    let within = within_is (length c.args.env.now) (signal_of c.args.signal s) (subst (λ (x : E.Signal). signal_within (length c.args.env.now) x ≡ true) is c.requires.within) in
    omega (arith, within, c.bits_of.ensures)

pub bits_of-requires : goal.bits_of-requires
bits_of-requires c =
    let s = c.signal-signal.result.now in
    let a = c.args.templates.now.arena in
    let at : slice_get a.signals c.args.signal ≡ Some s = ap (λ (x : Arena). slice_get x.signals c.args.signal) (sym c.flat-flat.ensures.same) ∙ c.signal-signal.ensures in
    let few = c.flat-flat.ensures.lawful.design.few_bits in
    let count = (c.trees_law.ensures.counts a).bits in
    omega (arith, few, count, signal_fits 0 0 a.signals c.args.signal s c.flat-flat.ensures.lawful.design.bits_numbered at)

pub run-requires-clause-few : goal.run-requires-clause-few
run-requires-clause-few c =
    let s = c.signal-signal.result.now in
    let a = c.args.templates.now.arena in
    let at : slice_get a.signals c.args.signal ≡ Some s = ap (λ (x : Arena). slice_get x.signals c.args.signal) (sym c.flat-flat.ensures.same) ∙ c.signal-signal.ensures in
    let few = c.flat-flat.ensures.lawful.design.few_bits in
    let count = (c.trees_law.ensures.counts a).bits in
    omega (arith, few, count, c.bits_of.ensures, signal_fits 0 0 a.signals c.args.signal s c.flat-flat.ensures.lawful.design.bits_numbered at)

pub returns : goal.returns
returns c =
    let s = c.signal-signal.result.now in
    let env = c.args.env.now in
    let at : slice_get c.args.templates.now.arena.signals c.args.signal ≡ Some s = ap (λ (x : Arena). slice_get x.signals c.args.signal) (sym c.flat-flat.ensures.same) ∙ c.signal-signal.ensures in
    let is : signal_at (arena_signals c.args.templates.now.arena) c.args.signal ≡ signal_of c.args.signal s = c.trees_law.ensures.signals c.args.templates.now.arena c.args.signal s at in
    IfOk-weaker c.run.result
    (λ (to : Vec ℕ Global). to.items ≡ map (slice_index env) (count_from s.first_bit c.bits_of.result))
    (λ (to : Vec ℕ Global). to.items ≡ map (slice_index env) (bits_of_signal (signal_at (arena_signals c.args.templates.now.arena) c.args.signal)))
    (λ to e. e ∙ ap (λ (k : ℕ). map (slice_index env) (count_from s.first_bit k)) c.bits_of.ensures ∙ ap (λ (x : E.Signal). map (slice_index env) (bits_of_signal x)) (sym is))
    c.run.ensures
