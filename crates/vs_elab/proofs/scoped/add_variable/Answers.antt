use Rattle.std.proofs.Common.{◌≡◌, ◌+◌, ◌≤◌, ◌^◌, ℕ, true, length, nat_lt, sym, ap, ◌∙◌, subst}
use Rattle.std.proofs.lemmas.Bool.{lt-ltb}
use Rattle.vs_design.specs.Designs.{bit_count}
use Rattle.vs_design.specs.Expressions.{Signal, signal_length}
use Rattle.vs_flat.specs.Trees.{signal_of}
use Rattle.vs_build.specs.Drafts.{and_signal}
use Rattle.vs_build.specs.Growth.{draft}
use Rattle.vs_elab.proofs.scoped.add_variable.Goals as goal

pub add_signal-requires-clause-scope : goal.add_signal-requires-clause-scope
add_signal-requires-clause-scope c =
    let most = length (draft c.args.builder.now).design.scopes in
    subst (λ (n : ℕ). nat_lt n most ≡ true) (sym (ap (λ (x : Signal). x.scope) c.in_ok-next.ensures)) (lt-ltb c.args.s.now.scope most c.requires.scope)

pub add_signal-requires-clause-bits : goal.add_signal-requires-clause-bits
add_signal-requires-clause-bits c = subst (λ (n : ℕ). bit_count (draft c.args.builder.now).design + n ≤ 2 ^ 20) (sym (ap signal_length c.in_ok-next.ensures)) c.requires.bits

pub returns : goal.returns
returns c =
    let old = draft c.args.builder.now in
    c.in_ok-add_signal.ensures.ok ∙ ap (λ (n : ℕ). and_signal old (signal_of n c.in_ok-next.next)) (sym c.requires.number) ∙ ap (and_signal old) c.in_ok-next.ensures
