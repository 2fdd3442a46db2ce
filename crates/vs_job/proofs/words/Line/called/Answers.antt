use Rattle.std.proofs.Common.{◌≡◌, ℕ, ◌≤◌, true, List, length, map, Bor, ap, sym, ◌∙◌, arith, rules}
use Rattle.std.proofs.lemmas.List.{length-map}
use Rattle.vs_job.specs.Job.{Text}
use Rattle.vs_job.specs.Command.{line_of, paths_of}
use Rattle.vs_job.proofs.Called.{called_with}
use Rattle.vs_job.proofs.words.Line.called.Goals as goal

abbrev texts : List (Bor (List ℕ)) → List Text
texts ws = map (λ (s : Bor (List ℕ)). s.now) ws

length-texts : (ws : List (Bor (List ℕ))) → length (texts ws) ≡ length ws
length-texts ws = length-map ws (λ (s : Bor (List ℕ)). s.now)

pub returns : goal.returns
returns c =
    let few : length (texts c.as_slice-defines.result.now) ≤ 64 = omega (arith, length-texts c.as_slice-defines.result.now, c.as_slice-defines.ensures.fits) in
    let together : length (texts c.as_slice-others.result.now) ≤ 64 = omega (arith, length-texts c.as_slice-others.result.now, c.as_slice-others.ensures.fits) in
    let are : c.are_defines.result ≡ true = search rules in
    called_with (line_of c.args.self.now) c.in_ok-mode.mode c.in_ok-half.half (paths_of (c.in_ok-design.design, c.in_ok-design.stimuli)) c.in_ok-share.share (texts c.as_slice-defines.result.now)
    (texts c.as_slice-others.result.now) (texts c.as_slice.result.now) c.most_stimuli.result c.in_ok-mode.ensures c.in_ok-half.ensures (ap texts c.as_slice-defines.ensures.value) few
    (sym c.are_defines.ensures ∙ are) (ap texts c.as_slice-others.ensures.value) together c.most_stimuli.ensures (ap texts c.as_slice.ensures.value) c.in_ok-design.ensures c.in_ok-share.ensures
