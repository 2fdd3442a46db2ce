use Rattle.std.proofs.Common.{refl, sym, ◌∙◌, arith}
use Rattle.vs_job.specs.Places as spec
use Rattle.vs_job.specs.Paths.{ending, place_of}
use Rattle.vs_job.proofs.Listed.{same_from-found, same_from-more, same_from-end}
use Rattle.vs_job.proofs.places.same_paths.Goals as goal

pub loop-n-init : goal.loop-n-init
unfolding spec.same_paths
loop-n-init c = refl

pub returns-in-Some : goal.returns-in-Some
returns-in-Some c =
    let p = place_of (ending c.args.job.now.mode) c.place_at-place.result in
    sym (c.loop-n.invariant ∙ same_from-found (spec.places c.args.job.now) c.loop-n.n p c.in-Some.first (omega arith) (c.place_at-place.ensures p) (sym c.place_with.ensures ∙ c.in-Some.is))

pub loop-n-preserved : goal.loop-n-preserved
loop-n-preserved c =
    let p = place_of (ending c.args.job.now.mode) c.place_at-place.result in
    c.loop-n.invariant ∙ same_from-more (spec.places c.args.job.now) c.loop-n.n p (omega arith) (c.place_at-place.ensures p) (sym c.place_with.ensures ∙ c.in_default.is)

pub returns : goal.returns
returns c =
    sym (c.loop-n.invariant ∙ same_from-end (spec.places c.args.job.now) c.loop-n.n (omega arith))
