use Rattle.std.proofs.Common.{◌≡◌, ◌-◌, length, drop, sym, ap, ap₂, ◌∙◌, arith}
use Rattle.vs_four.specs.Planes.{bits_of_planes, value_plane, unknown_plane}
use Rattle.vs_four.proofs.PlanesLemmas.{planes_of_end, planes_of_more, planes_fit, planes-below, planes-back}
use Rattle.vs_four.proofs.planes.Bits.of.Goals as goal

pub loop-place-init : goal.loop-place-init
loop-place-init c =
    let list = c.args.list.now in
    let ends = planes_of_end list (length list) (omega arith) in
    (omega arith, sym ends.0, sym ends.1)

pub overflow_mul-value : goal.overflow_mul-value
overflow_mul-value c =
    let more = planes_of_more c.args.list.now c.loop-place.place c.loop-place-test.true c.loop-place.invariant.0 in
    let fit = planes_fit c.args.list.now (c.loop-place.place - 1) c.requires.at_most_64 in
    omega (arith, more.0, fit.0, c.loop-place.invariant.1)

pub overflow_add-value : goal.overflow_add-value
overflow_add-value c =
    let more = planes_of_more c.args.list.now c.loop-place.place c.loop-place-test.true c.loop-place.invariant.0 in
    let fit = planes_fit c.args.list.now (c.loop-place.place - 1) c.requires.at_most_64 in
    omega (arith, more.0, fit.0, c.loop-place.invariant.1, c.value_digit.ensures)

pub overflow_mul-unknown : goal.overflow_mul-unknown
overflow_mul-unknown c =
    let more = planes_of_more c.args.list.now c.loop-place.place c.loop-place-test.true c.loop-place.invariant.0 in
    let fit = planes_fit c.args.list.now (c.loop-place.place - 1) c.requires.at_most_64 in
    omega (arith, more.1, fit.1, c.loop-place.invariant.2)

pub overflow_add-unknown : goal.overflow_add-unknown
overflow_add-unknown c =
    let more = planes_of_more c.args.list.now c.loop-place.place c.loop-place-test.true c.loop-place.invariant.0 in
    let fit = planes_fit c.args.list.now (c.loop-place.place - 1) c.requires.at_most_64 in
    omega (arith, more.1, fit.1, c.loop-place.invariant.2, c.unknown_digit.ensures)

pub loop-place-preserved : goal.loop-place-preserved
loop-place-preserved c =
    let more = planes_of_more c.args.list.now c.loop-place.place c.loop-place-test.true c.loop-place.invariant.0 in (
      omega (arith, c.loop-place.invariant.0),
      omega (arith, more.0, c.loop-place.invariant.1, c.value_digit.ensures),
      omega (arith, more.1, c.loop-place.invariant.2, c.unknown_digit.ensures),
    )

pub invariant_of-result : goal.invariant_of-result
invariant_of-result c =
    let list = c.args.list.now in
    let start : c.loop-place.place ≡ 0 = omega arith in
    let value : c.loop-place.value ≡ value_plane list = c.loop-place.invariant.1 ∙ ap (λ n. value_plane (drop n list)) start in
    let unknown : c.loop-place.unknown ≡ unknown_plane list = c.loop-place.invariant.2 ∙ ap (λ n. unknown_plane (drop n list)) start in
    let below = planes-below list in
    (c.requires.some, c.requires.at_most_64, omega (arith, value, below.0), omega (arith, unknown, below.1))

pub returns : goal.returns
returns c =
    let list = c.args.list.now in
    let start : c.loop-place.place ≡ 0 = omega arith in
    let value : c.loop-place.value ≡ value_plane list = c.loop-place.invariant.1 ∙ ap (λ n. value_plane (drop n list)) start in
    let unknown : c.loop-place.unknown ≡ unknown_plane list = c.loop-place.invariant.2 ∙ ap (λ n. unknown_plane (drop n list)) start in
    ap₂ (bits_of_planes (length list)) value unknown ∙ planes-back list
