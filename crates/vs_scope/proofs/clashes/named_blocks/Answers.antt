use Rattle.std.proofs.Common.{◌≡◌, ◌++◌, ℕ, List, map, drop, sym, ap, ◌∙◌, subst, add-one}
use Rattle.vs_scope.specs.declared.made.BlockName.{BlockName}
use Rattle.vs_scope.specs.Clashes.{block_of, text_of}
use Rattle.vs_scope.proofs.Steps.{append_none, none_left}
use Rattle.vs_scope.proofs.ClashSteps.{texts_from}
use Rattle.vs_scope.proofs.clashes.named_blocks.Goals as goal

pub loop-name-preserved : goal.loop-name-preserved
loop-name-preserved c =
    let ns = c.args.names.now in
    subst (λ (n : ℕ). map block_of c.push_name.new.blocks.items ++ map text_of (drop n ns) ≡ map text_of ns) (sym (add-one c.loop-name.name-index))
    (texts_from ns c.loop-name.name-index c.name-item.result (map block_of c.loop-name.blocks.items) (map block_of c.push_name.new.blocks.items) (map text_of ns) c.loop-name-test.true c.name-item.is c.in_ok-push_name.ensures c.loop-name.invariant)

pub returns : goal.returns
returns c =
    let ns = c.args.names.now in
    sym (append_none (map block_of c.loop-name.blocks.items)) ∙ ap (λ (x : List BlockName). map block_of c.loop-name.blocks.items ++ map text_of x) (sym (none_left ns c.loop-name.name-index c.loop-name-test.false)) ∙ c.loop-name.invariant
