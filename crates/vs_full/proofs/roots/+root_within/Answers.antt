use Rattle.std.proofs.Common.{◌≡◌, ◌<◌, Some, ℕ, length, sym, ap, ◌∙◌, arith}
use Rattle.std.specs.Prelude.{slice_get}
use Rattle.vs_design.specs.Expressions.{Signal}
use Rattle.vs_flat.specs.Arena.{Arena}
use Rattle.vs_flat.specs.DesignOf.{arena_signals, design_of}
use Rattle.vs_flat.specs.Trees.{signal_at}
use Rattle.vs_full.proofs.Copying.{copied_there, nonzero, root_copied, root_input, root_last, root_none, root_variable}
use Rattle.vs_full.proofs.Rooting.{signal_numbered, signal_there}
use Rattle.vs_full.proofs.roots.+root_within.Goals as goal

own_there : (a : Arena) (n : ℕ) → n < length a.signals → slice_get (design_of a).signals (signal_at (arena_signals a) n).number ≡ Some (signal_at (arena_signals a) n)
own_there a n h = ap (slice_get (design_of a).signals) (signal_numbered a n h) ∙ signal_there a n h

pub number_at-requires : goal.number_at-requires
number_at-requires t c = omega (arith, c.requires.there, c.requires.copies.count, (c.trees_law.ensures.counts c.args.flat.now).signals)

pub root_within-requires : goal.root_within-requires
root_within-requires t c =
    let a = c.args.flat.now in
    let s = signal_at (arena_signals a) c.args.s in
    let from = c.in-Some.ensures ∙ c.requires.copies.each c.args.s s (signal_there a c.args.s c.requires.there) in
    let some = nonzero c.args.steps c.if-steps-eq0.false in
    (omega (arith, some, c.decreases), (c.requires.lawful, (c.requires.copies, copied_there a c.requires.lawful s c.in-Some.from (own_there a c.args.s c.requires.there) from)))

pub returns-then-signal : goal.returns-then-signal
returns-then-signal t c =
    let a = c.args.flat.now in
    let is = c.trees_law.ensures.signals a c.args.s c.signal-signal.result.now c.signal-signal.ensures in
    ap Some (sym (signal_numbered a c.args.s c.requires.there)) ∙ root_input c.args.steps (design_of a) (signal_at (arena_signals a) c.args.s) (ap (λ (z : Signal). z.input) is ∙ c.if-signal.true)

pub returns-then-not-signal : goal.returns-then-not-signal
returns-then-not-signal t c =
    let a = c.args.flat.now in
    let is = c.trees_law.ensures.signals a c.args.s c.signal-signal.result.now c.signal-signal.ensures in
    root_variable c.args.steps (design_of a) (signal_at (arena_signals a) c.args.s) (ap (λ (z : Signal). z.input) is ∙ c.if-signal.false) (ap (λ (z : Signal). z.net) is ∙ c.if-not-signal.true)

pub returns-then-steps-eq0 : goal.returns-then-steps-eq0
returns-then-steps-eq0 t c =
    let a = c.args.flat.now in
    let is = c.trees_law.ensures.signals a c.args.s c.signal-signal.result.now c.signal-signal.ensures in
    root_last c.args.steps (design_of a) (signal_at (arena_signals a) c.args.s) (ap (λ (z : Signal). z.input) is ∙ c.if-signal.false) c.if-steps-eq0.true

pub returns-in-Some : goal.returns-in-Some
returns-in-Some t c =
    let a = c.args.flat.now in
    let s = signal_at (arena_signals a) c.args.s in
    let is = c.trees_law.ensures.signals a c.args.s c.signal-signal.result.now c.signal-signal.ensures in
    let from = c.in-Some.ensures ∙ c.requires.copies.each c.args.s s (signal_there a c.args.s c.requires.there) in
    root_copied a c.requires.lawful c.args.steps c.in-Some.from s c.root_within.result (own_there a c.args.s c.requires.there) c.if-steps-eq0.false (ap (λ (z : Signal). z.input) is ∙ c.if-signal.false) (ap (λ (z : Signal). z.net) is ∙ c.if-not-signal.false) from
    c.root_within.ensures

pub returns-in-None : goal.returns-in-None
returns-in-None t c =
    let a = c.args.flat.now in
    let s = signal_at (arena_signals a) c.args.s in
    let is = c.trees_law.ensures.signals a c.args.s c.signal-signal.result.now c.signal-signal.ensures in
    let none = c.in-None.ensures ∙ c.requires.copies.each c.args.s s (signal_there a c.args.s c.requires.there) in
    root_none c.args.steps (design_of a) s c.if-steps-eq0.false (ap (λ (z : Signal). z.input) is ∙ c.if-signal.false) (ap (λ (z : Signal). z.net) is ∙ c.if-not-signal.false) none
