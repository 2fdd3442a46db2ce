use Rattle.std.proofs.Common.{◌≡◌, ◌<◌, ◌++◌, ◌∷◌, [], List, length, map, sym, ap, ◌∙◌, arith}
use Rattle.std.proofs.lemmas.Bool.Decides.{nat_tests}
use Rattle.vs_scope.specs.declared.made.BlockName.{BlockName}
use Rattle.vs_scope.specs.Made.{block_name}
use Rattle.vs_scope.proofs.Mades.{no_turn, some_turn}
use Rattle.vs_scope.proofs.loops.turn_names.Goals as goal

pub returns-then-is_empty : goal.returns-then-is_empty
returns-then-is_empty c =
    let none : length c.args.values.now ≡ 0 = grind (arith, nat_tests, c.is_empty.ensures, c.if-is_empty.true) in
    ap (map block_name) c.new-names.ensures.items ∙ sym (no_turn (block_name c.args.name) c.args.values.now none)

pub returns : goal.returns
returns c =
    let more : 0 < length c.args.values.now = grind (arith, nat_tests, c.is_empty.ensures, c.if-is_empty.false) in
    let some : length c.args.values.now ≡ 0 → ⊥ = λ e. let no : ⊥ = omega (arith, more, e) in no in
    ap (map block_name) (c.in_ok-push.ensures.items ∙ ap (λ (x : List BlockName). x ++ c.args.name ∷ []) c.new-names.ensures.items) ∙ sym (some_turn (block_name c.args.name) c.args.values.now some)
