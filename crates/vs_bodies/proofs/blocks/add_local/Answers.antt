use Rattle.std.proofs.Common.{◌≡◌, ℕ, List, None, refl, sym, ap, ◌∙◌}
use Rattle.std.specs.Option.{option_copied}
use Rattle.vs_grammar.specs.Trees as tree
use Rattle.vs_const.specs.declared.rules.Rule.TheVariants.{DuplicateName}
use Rattle.vs_const.specs.Faults.{fault, least}
use Rattle.vs_maps.specs.Maps.{value_at, with_value}
use Rattle.vs_maps.specs.MapViews.{pairs}
use Rattle.vs_bodies.specs.declared.layers.Local.{Local as Kept}
use Rattle.vs_bodies.proofs.Declaring.{local_again, local_more, is_known, known_fault, new_fault, some_copied, none_of, kept_is}
use Rattle.vs_bodies.proofs.blocks.add_local.Goals as goal

pub returns-then-is_some-clause-locals : goal.returns-then-is_some-clause-locals
returns-then-is_some-clause-locals c = λ before v e a.
    let o = option_copied c.get.result in
    let at : c.as_slice-name.result.now ≡ v.name.bytes = c.as_slice-name.ensures ∙ sym (ap (λ (x : tree.Name). x.bytes) e) in
    local_again c.args.map.now before v o (c.get.ensures.value ∙ ap (λ (b : List ℕ). value_at b (pairs c.args.map.now)) at) (some_copied c.get.result ∙ sym c.is_some.ensures ∙ c.if-is_some.true) a

pub returns-then-is_some-clause-fault : goal.returns-then-is_some-clause-fault
returns-then-is_some-clause-fault c = λ before v e a.
    let o = option_copied c.get.result in
    let at : c.as_slice-name.result.now ≡ v.name.bytes = c.as_slice-name.ensures ∙ sym (ap (λ (x : tree.Name). x.bytes) e) in
    let known = is_known c.args.map.now before v.name.bytes o (c.get.ensures.value ∙ ap (λ (b : List ℕ). value_at b (pairs c.args.map.now)) at) a in
    known_fault before v c.fault_at.result (sym known ∙ some_copied c.get.result ∙ sym c.is_some.ensures ∙ c.if-is_some.true)
    (c.fault_at.ensures ∙ ap (λ (place : ℕ). least (fault DuplicateName place)) (sym (ap (λ (x : tree.Name). x.place) e)))

pub returns-clause-locals : goal.returns-clause-locals
returns-clause-locals c = λ before v e a.
    let o = option_copied c.get.result in
    let at : c.as_slice-name.result.now ≡ v.name.bytes = c.as_slice-name.ensures ∙ sym (ap (λ (x : tree.Name). x.bytes) e) in
    let kept : Kept = record { place = c.args.n.now.place } in
    let missing : o ≡ None = none_of o (some_copied c.get.result ∙ sym c.is_some.ensures ∙ c.if-is_some.false) in
    local_more c.args.map.now c.put.new.self before v kept (sym (c.get.ensures.value ∙ ap (λ (b : List ℕ). value_at b (pairs c.args.map.now)) at) ∙ missing)
    (kept_is v kept (sym (ap (λ (x : tree.Name). x.place) e))) (c.in_ok-put.ensures.put ∙ ap (λ (b : List ℕ). with_value b kept (pairs c.args.map.now)) at) a

pub returns-clause-fault : goal.returns-clause-fault
returns-clause-fault c = λ before v e a.
    let o = option_copied c.get.result in
    let at : c.as_slice-name.result.now ≡ v.name.bytes = c.as_slice-name.ensures ∙ sym (ap (λ (x : tree.Name). x.bytes) e) in
    let known = is_known c.args.map.now before v.name.bytes o (c.get.ensures.value ∙ ap (λ (b : List ℕ). value_at b (pairs c.args.map.now)) at) a in
    new_fault before v None (sym known ∙ some_copied c.get.result ∙ sym c.is_some.ensures ∙ c.if-is_some.false) refl
