use Rattle.std.proofs.Common.{ℕ, ◌+◌, ◌-◌, List, ◌++◌, get_or, ap, sym, ◌∙◌, arith}
use Rattle.vs_job.specs.Places.{place, places}
use Rattle.vs_job.specs.Paths.{ending}
use Rattle.vs_job.proofs.Listed.{some_waveforms, place-design, place-stimulus, place-waveform, place-other}
use Rattle.vs_job.proofs.places.place_at.Goals as goal

pub returns-then-n-eq0 : goal.returns-then-n-eq0
returns-then-n-eq0 c = λ d.
    ap (λ (n : ℕ). get_or (places c.args.job.now) n d) c.if-n-eq0.true ∙ place-design c.args.job.now d ∙ ap (λ (path : List ℕ). place 1 path) (sym c.as_str.ensures)

pub returns-then-n-lanes : goal.returns-then-n-lanes
returns-then-n-lanes c = λ d.
    place-stimulus c.args.job.now c.args.n (c.args.n - 1) d _ (omega arith) c.get.ensures ∙ ap (λ (path : List ℕ). place (1000 + (c.args.n - 1)) path) (sym c.as_str-then-n-lanes.ensures)

pub returns-then-n-behind : goal.returns-then-n-behind
returns-then-n-behind c = λ d.
    place-waveform c.args.job.now c.args.n (c.args.n - 1 - c.len-lanes.result) d _ (some_waveforms c.args.job.now (omega arith)) (omega arith) c.get-then-n-behind.ensures
    ∙ ap (λ (path : List ℕ). place (2000 + (c.args.n - 1 - c.len-lanes.result)) (path ++ ending c.args.job.now.mode)) (sym c.as_str-then-n-behind.ensures)

pub returns : goal.returns
returns c = λ d.
    place-other c.args.job.now c.args.n (c.args.n - 1 - (c.len-lanes.result + c.waveform_count.result)) d _ (omega arith) c.get-2.ensures
    ∙ ap (λ (path : List ℕ). place (3000 + (c.args.n - 1 - (c.len-lanes.result + c.waveform_count.result))) path) (sym c.as_str-2.ensures)
