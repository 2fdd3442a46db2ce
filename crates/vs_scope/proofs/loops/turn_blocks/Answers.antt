use Rattle.std.proofs.Common.{◌≡◌, ◌++◌, ◌∷◌, ◌+◌, [], ℕ, List, Some, get_or, drop, map, ap, ◌∙◌, add-one}
use Rattle.vs_elaborated.specs.Generate as generate
use Rattle.vs_elaborated.specs.Loops as spec
use Rattle.vs_scope.specs.declared.made.Nested.{Nested}
use Rattle.vs_scope.specs.Blocks.{block}
use Rattle.vs_scope.specs.Contents.{block_items}
use Rattle.vs_scope.specs.Made.{nested}
use Rattle.vs_scope.proofs.Mades.{blocks_more}
use Rattle.vs_scope.proofs.loops.turn_blocks.Goals as goal

pub loop-v-preserved : goal.loop-v-preserved
loop-v-preserved c =
    let b = c.args.body in
    let values = c.args.values.now in
    let i = c.loop-v.v-index in
    let v : ℕ = get_or values i 0 in
    let n : Nested = record { name = c.in_ok-name.name; items = b.items; turn = Some (record { genvar = c.args.genvar; value = v }) } in
    let named : c.in_ok-name.name.items ≡ spec.indexed (block b).name.name v = c.in_ok-name.ensures ∙ ap (λ (x : List ℕ). spec.indexed x v) (c.as_slice.ensures.value ∙ c.in_ok-text.ensures) in
    let whole = spec.turn_blocks (block b) c.args.genvar values in
    let pushed : c.push.new.self.items ≡ c.loop-v.blocks.items ++ n ∷ [] = c.in_ok-push.ensures.items in
    ap (λ (x : List Nested). map nested x ++ spec.turn_blocks (block b) c.args.genvar (drop (i + 1) values)) pushed
    ∙ ap (λ (x : ℕ). map nested (c.loop-v.blocks.items ++ n ∷ []) ++ spec.turn_blocks (block b) c.args.genvar (drop x values)) (add-one i)
    ∙ blocks_more b c.args.genvar values i c.loop-v.blocks.items n whole c.loop-v-test.true
    (ap (λ (x : List ℕ). let q : generate.Nested = record { name = x; items = block_items b.items; turn = Some (record { genvar = c.args.genvar; value = v }) } in q) named)
    c.loop-v.invariant
