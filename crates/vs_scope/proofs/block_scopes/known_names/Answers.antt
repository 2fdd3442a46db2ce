use Rattle.std.proofs.Common.{◌||◌, ℕ, List, drop, sym, ap, ◌∙◌, subst, add-one}
use Rattle.vs_design.specs.Clocks.{same_name}
use Rattle.vs_maps.specs.Sets.{has}
use Rattle.vs_scope.proofs.BlockNames.{AreAdded, added_start, added_more, added_end}
use Rattle.vs_scope.proofs.block_scopes.known_names.Goals as goal

pub loop-v-init : goal.loop-v-init
loop-v-init c = added_start c.new-known.result c.args.locals.now c.new-known.ensures

pub loop-v-preserved : goal.loop-v-preserved
loop-v-preserved c =
    let all = c.args.locals.now in
    subst (λ (n : ℕ). AreAdded c.add.new.self (drop n all) all) (sym (add-one c.loop-v.v-index))
    (added_more c.loop-v.known c.add.new.self all c.loop-v.v-index c.v-item.result c.loop-v-test.true c.v-item.is
    (λ n. c.in_ok-add.ensures n ∙ ap (λ (x : List ℕ). same_name x n || has c.loop-v.known n) c.as_slice.ensures) c.loop-v.invariant)

pub returns : goal.returns
returns c = added_end c.loop-v.known c.args.locals.now c.loop-v.v-index c.loop-v-test.false c.loop-v.invariant
