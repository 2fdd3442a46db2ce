use Rattle.std.proofs.Common.{◌+◌, arith, refl, sym, ap, ◌∙◌}
use Rattle.vs_stim.proofs.Ahead.{planes_count, room_eight, eight_fits, read_eight}
use Rattle.vs_stim.proofs.digits.Digits.read_eights.Goals as goal

pub overflow_mul-value : goal.overflow_mul-value
overflow_mul-value c =
    let room = room_eight c.self.inside.len c.self.inside.value c.self.inside.unknown c.loop-count.count c.args.most c.args.self.now c.self.view_is c.requires c.loop-count-test.true in
    omega (arith, eight_fits (c.self.inside.len + c.loop-count.count) c.loop-count.value 0 room c.loop-count.invariant.read.value_fits (omega arith))

pub overflow_add-value : goal.overflow_add-value
overflow_add-value c =
    let room = room_eight c.self.inside.len c.self.inside.value c.self.inside.unknown c.loop-count.count c.args.most c.args.self.now c.self.view_is c.requires c.loop-count-test.true in
    omega (arith, eight_fits (c.self.inside.len + c.loop-count.count) c.loop-count.value c.in-Some.eight room c.loop-count.invariant.read.value_fits c.in-Some.ensures.below)

pub overflow_mul-unknown : goal.overflow_mul-unknown
overflow_mul-unknown c =
    let room = room_eight c.self.inside.len c.self.inside.value c.self.inside.unknown c.loop-count.count c.args.most c.args.self.now c.self.view_is c.requires c.loop-count-test.true in
    omega (arith, eight_fits (c.self.inside.len + c.loop-count.count) c.loop-count.unknown 0 room c.loop-count.invariant.read.unknown_fits (omega arith))

pub loop-count-preserved : goal.loop-count-preserved
loop-count-preserved c = record {
  few = omega (arith, c.loop-count-test.true);
  read = read_eight _ _ _ _ _ _ _ _ c.loop-count.invariant.read c.in-Some.ensures.digits c.in-Some.ensures.below;
}

pub invariant_of-self : goal.invariant_of-self
invariant_of-self c = (
  omega (arith, c.requires, c.loop-count.invariant.few, planes_count c.self.inside.len c.self.inside.value c.self.inside.unknown c.args.self.now c.self.view_is),
  c.loop-count.invariant.read.value_fits,
  c.loop-count.invariant.read.unknown_fits,
)

pub returns-clause-count : goal.returns-clause-count
returns-clause-count c =
    sym (planes_count (c.self.inside.len + c.loop-count.count) c.loop-count.value c.loop-count.unknown _ refl)
    ∙ ap (λ n. n + c.loop-count.count) (planes_count c.self.inside.len c.self.inside.value c.self.inside.unknown c.args.self.now c.self.view_is)
