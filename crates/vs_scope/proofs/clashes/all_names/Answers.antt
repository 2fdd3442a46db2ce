use Rattle.std.proofs.Common.{◌≡◌, ◌++◌, ℕ, List, map, drop, sym, ap, ◌∙◌, subst, add-one}
use Rattle.vs_scope.specs.declared.made.BlockName.{BlockName}
use Rattle.vs_scope.specs.declared.made.Made.{Made}
use Rattle.vs_scope.specs.Clashes.{blocks_of}
use Rattle.vs_scope.specs.Made.{block_name}
use Rattle.vs_scope.proofs.Steps.{append_none, none_left}
use Rattle.vs_scope.proofs.ClashSteps.{names_from}
use Rattle.vs_scope.proofs.clashes.all_names.Goals as goal

pub loop-m-preserved : goal.loop-m-preserved
loop-m-preserved c =
    let ms = c.args.made.now in
    let m = c.m-item.result in
    let more : c.extend_from_slice.new.self.items ≡ c.loop-m.names.items ++ m.names.items = c.in_ok-extend_from_slice.ensures.items ∙ ap (λ (x : List BlockName). c.loop-m.names.items ++ x) c.as_slice.ensures.value in
    subst (λ (n : ℕ). map block_name c.extend_from_slice.new.self.items ++ blocks_of (drop n ms) ≡ blocks_of ms) (sym (add-one c.loop-m.m-index))
    (names_from ms c.loop-m.m-index m c.loop-m.names.items c.extend_from_slice.new.self.items (blocks_of ms) c.loop-m-test.true c.m-item.is more c.loop-m.invariant)

pub returns : goal.returns
returns c =
    let ms = c.args.made.now in
    sym (append_none (map block_name c.loop-m.names.items)) ∙ ap (λ (x : List Made). map block_name c.loop-m.names.items ++ blocks_of x) (sym (none_left ms c.loop-m.m-index c.loop-m-test.false)) ∙ c.loop-m.invariant
