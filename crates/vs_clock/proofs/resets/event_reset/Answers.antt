use Rattle.std.proofs.Common.{◌≡◌, ℕ, Option, Some, None, rules, sym, ap, ◌∙◌, subst}
use Rattle.std.specs.Prelude.{is_some, slice_get}
use Rattle.vs_design.specs.Clocks.{root_of}
use Rattle.vs_design.specs.Expressions.{Signal}
use Rattle.vs_design.specs.Resets.{reset_branch, reset_with}
use Rattle.vs_design.specs.Statements.{Statement}
use Rattle.vs_flat.specs.Arena.{Arena}
use Rattle.vs_flat.specs.DesignOf.{arena_signals, arena_statements, design_of, event_of}
use Rattle.vs_flat.specs.Trees.{signal_at, statement_at}
use Rattle.vs_clock.proofs.Ruled.{first_bit_is}
use Rattle.vs_clock.proofs.resets.event_reset.Goals as goal

pub returns-in-None : goal.returns-in-None
returns-in-None c = λ n a.
    let d = c.args.typed.now in
    let first = first_bit_is c.trees_law.ensures.signals d c.args.event.signal c.signal.result.now (subst (λ (b : Arena). slice_get b.signals c.args.event.signal ≡ Some c.signal.result.now) c.flat.ensures.same c.signal.ensures) in
    sym (c.in-None.ensures.branch ∙ ap (λ (k : ℕ). reset_branch c.args.event.edge k (statement_at (arena_statements d) c.args.statement)) first)

pub returns-in-None-root : goal.returns-in-None-root
returns-in-None-root c = λ n a.
    let d = c.args.typed.now in
    let s = statement_at (arena_statements d) c.args.statement in
    let e = event_of (signal_at (arena_signals d)) c.args.event in
    let net = c.signal.result.now.first_bit in
    let first = first_bit_is c.trees_law.ensures.signals d c.args.event.signal c.signal.result.now (subst (λ (b : Arena). slice_get b.signals c.args.event.signal ≡ Some c.signal.result.now) c.flat.ensures.same c.signal.ensures) in
    let branch = c.in-Some.ensures.branch ∙ ap (λ (k : ℕ). reset_branch c.args.event.edge k s) first in
    let root = sym (ap (root_of (design_of d) n) first) ∙ sym (a.roots net) ∙ sym c.root.ensures ∙ c.in-None-root.is in (
      ap (λ (o : Option Statement). is_some o) (sym branch),
      ap (λ (o : Option ℕ). reset_with e o (reset_branch c.args.event.edge e.signal.first s)) root ∙ ap (λ (o : Option Statement). reset_with e None o) (sym branch),
    )

pub returns-in-Some-root : goal.returns-in-Some-root
returns-in-Some-root c = λ n a.
    let is = c.trees_law.ensures.signals c.args.typed.now c.args.event.signal c.signal.result.now (rw c.flat.ensures.same at c.signal.ensures) in
    let first = ap (λ (s : Signal). s.first) is in
    let roots = a.roots c.signal.result.now.first_bit in
    (search rules, search rules, search rules, search rules)
