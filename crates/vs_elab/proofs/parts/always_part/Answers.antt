use Rattle.std.proofs.Common.{◌≡◌, ◌<◌, List, [], ◌∷◌, length, sym, ap, subst, arith}
use Rattle.std.proofs.lemmas.Bool.Decides.{nat_tests}
use Rattle.vs_ast.specs.Views as view
use Rattle.vs_elaborated.specs.NamedBlocks.{NamedBlock, named_blocks}
use Rattle.vs_items.proofs.BlockSteps.{none_named, some_named}
use Rattle.vs_elab.specs.Fine.{plain_block}
use Rattle.vs_elab.proofs.FineItems.{block_by}
use Rattle.vs_elab.proofs.parts.always_part.Goals as goal

pub returns-then-is_empty : goal.returns-then-is_empty
returns-then-is_empty c =
    let b = view.always_block c.args.b.now in
    let none : length c.in_ok-named.named.items ≡ 0 = grind (arith, nat_tests, c.is_empty.ensures, c.if-is_empty.true, c.in_ok-named.named.ok.0) in
    let is : named_blocks b.statement ≡ [] = none_named c.in_ok-named.named.items (named_blocks b.statement) c.in_ok-named.ensures none in
    record {
      pieces = λ source around. sym (ap (λ (ns : List NamedBlock). (plain_block ns around b).pieces) is);
      fine = λ source around s h clean. block_by [] around b s h (subst (λ (ns : List NamedBlock). (plain_block ns around b).faults ≡ []) is clean);
    }

pub returns : goal.returns
returns c =
    let b = view.always_block c.args.b.now in
    let more : 0 < length c.in_ok-named.named.items = grind (arith, nat_tests, c.is_empty.ensures, c.if-is_empty.false, c.in_ok-named.named.ok.0) in
    let some : length c.in_ok-named.named.items ≡ 0 → ⊥ = λ e. let no : ⊥ = omega (arith, more, e) in no in
    let found = some_named c.in_ok-named.named.items (named_blocks b.statement) c.in_ok-named.ensures some in
    record {
      pieces = λ source around. sym (ap (λ (ns : List NamedBlock). (plain_block ns around b).pieces) found.2);
      fine = λ source around s h clean. block_by (found.0 ∷ found.1) around b s h (subst (λ (ns : List NamedBlock). (plain_block ns around b).faults ≡ []) found.2 clean);
    }
