use Rattle.std.proofs.Common.{◌≡◌, ◌++◌, List, ℕ, length, Some, ap, sym, ◌∙◌, subst, arith}
use Rattle.std.specs.Prelude.{slice_get}
use Rattle.vs_design.specs.Footprints.{is_variable}
use Rattle.vs_design.specs.Values.{bits_of_signal}
use Rattle.vs_flat.specs.Arena.{Arena}
use Rattle.vs_flat.specs.Lawful.{IsLawful}
use Rattle.vs_flat.specs.Trees.{signal_at}
use Rattle.vs_flat.specs.DesignOf.{arena_signals}
use Rattle.vs_sets.proofs.FlagSteps.{signal_below, variable_noted, other_noted}
use Rattle.vs_sets.proofs.Names.{signal_within}
use Rattle.vs_sets.proofs.flags.note_signal.Goals as goal

pub mark-requires : goal.mark-requires
mark-requires c =
    let a = c.args.shapes.now in
    let s = signal_at (arena_signals a) c.args.n in
    let bits = c.as_slice.ensures.value ∙ c.in_ok-push_signal.ensures ∙ ap (λ (xs : List ℕ). xs ++ bits_of_signal s) c.new-bits.ensures.items in
    let within = signal_within c.trees_law.ensures.counts a c.args.n (subst IsLawful c.flat.ensures.same c.flat.ensures.lawful) c.requires.there in
    signal_below s (length c.args.flags.now) c.as_slice.result.now bits (omega (arith, within, c.requires.many))

pub returns-in_ok-push_signal : goal.returns-in_ok-push_signal
returns-in_ok-push_signal c =
    let a = c.args.shapes.now in
    let s = signal_at (arena_signals a) c.args.n in
    let at = c.trees_law.ensures.signals a c.args.n c.signal-signal.result.now (subst (λ (y : Arena). slice_get y.signals c.args.n ≡ Some c.signal-signal.result.now) c.flat.ensures.same c.signal-signal.ensures) in
    let bits = c.as_slice.ensures.value ∙ c.in_ok-push_signal.ensures ∙ ap (λ (xs : List ℕ). xs ++ bits_of_signal s) c.new-bits.ensures.items in
    let counts = c.trees_law.ensures.counts a in
    variable_noted (arena_signals a) c.args.n c.args.flags.now c.mark.new.flags c.as_slice.result.now (omega (arith, c.requires.there, counts.signals)) (ap is_variable at ∙ sym c.is_variable.ensures ∙ c.if-is_variable.true) bits c.mark.ensures c.requires.so_far

pub returns-else-is_variable : goal.returns-else-is_variable
returns-else-is_variable c =
    let a = c.args.shapes.now in
    let at = c.trees_law.ensures.signals a c.args.n c.signal-signal.result.now (subst (λ (y : Arena). slice_get y.signals c.args.n ≡ Some c.signal-signal.result.now) c.flat.ensures.same c.signal-signal.ensures) in
    let counts = c.trees_law.ensures.counts a in
    other_noted (arena_signals a) c.args.n c.args.flags.now (omega (arith, c.requires.there, counts.signals)) (ap is_variable at ∙ sym c.is_variable.ensures ∙ c.if-is_variable.false) c.requires.so_far
