use Rattle.std.proofs.Common.{◌≡◌, List, ◌++◌, map, flat_map, sym, ap, ◌∙◌, append_assoc}
use Rattle.vs_ast.specs.Views as view
use Rattle.vs_grammar.specs.Trees.{items_list}
use Rattle.vs_elaborated.specs.Declarations as spec
use Rattle.vs_elaborated.specs.Uses.{is_variable_of}
use Rattle.vs_scope.specs.Views.{declaration}
use Rattle.vs_scope.proofs.Steps.{items_are}
use Rattle.vs_scope.proofs.collect.collect_module.Goals as goal

three : {A : Type 0} (a b c d p q r : List A) → b ≡ a ++ p → c ≡ b ++ q → d ≡ c ++ r → d ≡ a ++ (p ++ (q ++ r))
three a b c d p q r h k m = m ∙ ap (λ x. x ++ r) (k ∙ ap (λ x. x ++ q) h) ∙ append_assoc (a ++ p) q r ∙ append_assoc a p (q ++ r)

pub returns : goal.returns
returns c =
    let m = c.args.whole.now in
    let one = spec.item_declared (is_variable_of (items_list (view.items m.items.items))) in
    three (map declaration c.args.list.now.items) (map declaration c.collect_header_parameters.new.list.items) (map declaration c.collect_header.new.list.items) _ _ _ _
    (c.in_ok-collect_header_parameters.ensures ∙ ap (λ x. map declaration c.args.list.now.items ++ flat_map spec.parameters_declared (map view.parameters x)) c.deref.ensures.value)
    c.in_ok-collect_header.ensures
    (c.in_ok-collect_items.ensures ∙ ap (λ x. map declaration c.collect_header.new.list.items ++ flat_map one (map view.item x)) c.deref-2.ensures.value
    ∙ ap (λ x. map declaration c.collect_header.new.list.items ++ flat_map one x) (sym (items_are m.items.items)))
