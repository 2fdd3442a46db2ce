use Rattle.std.proofs.Common.{◌≡◌, ℕ, List, sym, ap, ◌∙◌, arith}
use Rattle.std.specs.Str.{bytes_eq}
use Rattle.vs_job.specs.Places.{places}
use Rattle.vs_job.specs.Paths.{ending, path_of, place_of}
use Rattle.vs_job.specs.declared.places.Path.{Path}
use Rattle.vs_job.specs.declared.places.Place.{Place}
use Rattle.vs_job.proofs.Listed.{place_with-at, place_with-more}
use Rattle.vs_job.proofs.places.place_with.Goals as goal

same_with : (a b : List ℕ) (p : Place) (path : Path) → a ≡ b → bytes_eq (place_of b p).path (path_of b path) ≡ bytes_eq (path_of a p.path) (path_of a path)
same_with a b p path e = ap (λ (added : List ℕ). bytes_eq (path_of added p.path) (path_of added path)) (sym e)

pub returns-then-is_same : goal.returns-then-is_same
returns-then-is_same c =
    let p = place_of (ending c.args.job.now.mode) c.place_at-place.result in
    sym (place_with-at (path_of (ending c.args.job.now.mode) c.args.path) (places c.args.job.now) c.loop-i.i c.args.n p (omega arith) (omega arith) c.loop-i.invariant (c.place_at-place.ensures p) (same_with c.ending-added.result.now (ending c.args.job.now.mode) c.place_at-place.result c.args.path c.ending-added.ensures ∙ sym c.is_same.ensures ∙ c.if-is_same.true))

pub loop-i-preserved : goal.loop-i-preserved
loop-i-preserved c =
    let p = place_of (ending c.args.job.now.mode) c.place_at-place.result in
    place_with-more (path_of (ending c.args.job.now.mode) c.args.path) (places c.args.job.now) c.loop-i.i p (omega arith) c.loop-i.invariant (c.place_at-place.ensures p) (same_with c.ending-added.result.now (ending c.args.job.now.mode) c.place_at-place.result c.args.path c.ending-added.ensures ∙ sym c.is_same.ensures ∙ c.if-is_same.false)
