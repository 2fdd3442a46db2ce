use Rattle.std.proofs.Common.{◌≡◌, ◌++◌, ◌∷◌, [], ℕ, List, Option, None, map, refl, sym, ap, ◌∙◌, subst}
use Rattle.vs_ast.specs.Views.{option}
use Rattle.vs_elaborated.specs.Generate as generate
use Rattle.vs_scope.specs.declared.made.Nested.{Nested}
use Rattle.vs_scope.specs.declared.made.Block.{Block}
use Rattle.vs_scope.specs.declared.made.BlockName.{BlockName}
use Rattle.vs_scope.specs.Blocks.{block}
use Rattle.vs_scope.specs.Contents.{block_items}
use Rattle.vs_scope.specs.Made.{Kept, kept, nested, block_name}
use Rattle.vs_scope.proofs.Mades.{same_kept}
use Rattle.vs_scope.proofs.made.one_block.Goals as goal

pub returns-in_ok-push-in-Some-2 : goal.returns-in_ok-push-in-Some-2
returns-in_ok-push-in-Some-2 c =
    let b = c.in-Some.b in
    let n : Nested = record { name = c.in_ok-name-in-Some.name; items = b.items; turn = None } in
    let mine : Kept = record { blocks = map nested c.push.new.self.items; names = map block_name c.push-in-Some.new.self.items; fault = None; turns = c.args.turns } in
    let pushed : c.push.new.self.items ≡ n ∷ [] = c.in_ok-push-in-Some.ensures.items ∙ ap (λ (x : List Nested). x ++ n ∷ []) c.new-blocks.ensures.items in
    let listed : c.push-in-Some.new.self.items ≡ b.name ∷ [] = c.in_ok-push-in-Some-2.ensures.items ∙ ap (λ (x : List BlockName). x ++ b.name ∷ []) c.new-names.ensures.items in
    let named = ap (λ (x : List ℕ). (let q : generate.Nested = record { name = x; items = block_items b.items; turn = None } in q) ∷ []) c.in_ok-name-in-Some.ensures in
    subst (λ (o : Option Block). mine ≡ kept (generate.one_block (option block o) c.args.turns)) (sym c.in-Some.is)
    (same_kept _ _ _ _ _ _ _ _ (ap (map nested) pushed ∙ named) (ap (map block_name) listed) refl refl)
