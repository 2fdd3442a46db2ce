use Rattle.std.proofs.Common.{ℕ, Option, sym, ap, subst, ◌∙◌}
use Rattle.vs_elaborated.specs.Environments.{within}
use Rattle.vs_scope.specs.Complete.{KeepsShapes, complete}
use Rattle.vs_scope.specs.Stacks.{env_above, envs}
use Rattle.vs_scope.proofs.Scopes.{env_step, shapes_at}
use Rattle.vs_scope.proofs.places.View.of.Goals as goal

pub invariant_of-result-2 : goal.invariant_of-result-2
invariant_of-result-2 c =
    let fs = c.args.frames.now in
    let f = c.index-frames-number.result in
    record { kept = subst (λ (p : Option ℕ). KeepsShapes (env_above (envs fs) p f.turn) f.names) (sym c.below.ensures) (shapes_at fs c.args.number f c.requires.number c.index-frames-number.is c.requires.kept) }

pub returns-clause-is : goal.returns-clause-is
returns-clause-is c =
    let fs = c.args.frames.now in
    let f = c.index-frames-number.result in
    ap (λ (p : Option ℕ). let outer = env_above (envs fs) p f.turn in within outer (complete outer f.names)) c.below.ensures ∙ sym (env_step fs c.args.number f c.requires.number c.index-frames-number.is)
