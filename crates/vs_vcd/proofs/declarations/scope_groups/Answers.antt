use Rattle.std.proofs.Common.{◌≡◌, ◌+◌, ℕ, List, ◌∷◌, ◌++◌, [], length, ap, ◌∙◌, subst, arith}
use Rattle.std.specs.Prelude.{Option, IfOk}
use Rattle.vs_flat.specs.DesignOf.{design_of, scope_of}
use Rattle.vs_vcd.specs.declared.groups.Groups.{Groups}
use Rattle.vs_vcd.specs.Groups.{AreLinked}
use Rattle.vs_vcd.specs.Steps.{scope_keys}
use Rattle.vs_vcd.proofs.Arenas.{scope-at, length-scopes}
use Rattle.vs_vcd.proofs.Outline.{scope_keys-more, scope_keys-end, length-scope_keys, all_listed, listed_more}
use Rattle.vs_vcd.proofs.declarations.scope_groups.Goals as goal

pub loop-number-preserved : goal.loop-number-preserved
loop-number-preserved c =
    let scopes = (design_of c.args.flat.now).scopes in
    let number = c.loop-number.number in
    let next = scope_keys-more scopes number (number + 1) (scope_of c.scope.result.now) (omega arith) (scope-at c.args.flat.now number c.scope.result.now c.scope.ensures) in
    listed_more c.loop-number.keys.items c.push.new.self.items _ _ _ _ c.loop-number.invariant next (c.in_ok-push.ensures.items ∙ ap (λ k. c.loop-number.keys.items ++ k ∷ []) c.scope_key.ensures)

pub of-requires : goal.of-requires
of-requires c =
    let scopes = (design_of c.args.flat.now).scopes in
    let end = scope_keys-end scopes c.loop-number.number (omega (arith, length-scopes c.args.flat.now)) in
    let all = all_listed c.loop-number.keys.items _ _ c.loop-number.invariant end in
    let long = ap length (c.deref.ensures.value ∙ all) in
    omega (arith, long, length-scope_keys 0 scopes, length-scopes c.args.flat.now)

pub returns : goal.returns
returns c =
    let scopes = (design_of c.args.flat.now).scopes in
    let end = scope_keys-end scopes c.loop-number.number (omega (arith, length-scopes c.args.flat.now)) in
    let all = all_listed c.loop-number.keys.items _ _ c.loop-number.invariant end in
    let count : c.scope_count.result + 1 ≡ length c.args.flat.now.scopes + 1 = omega arith in
    subst (λ (n : ℕ). IfOk c.of.result (λ (g : Groups). AreLinked n (scope_keys 0 scopes) g.first.items g.next.items)) count
    (subst (λ (keys : List (Option ℕ)). IfOk c.of.result (λ (g : Groups). AreLinked (c.scope_count.result + 1) keys g.first.items g.next.items)) (c.deref.ensures.value ∙ all) c.of.ensures)
