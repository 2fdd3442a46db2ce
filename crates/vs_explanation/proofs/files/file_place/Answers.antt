use Rattle.std.proofs.Common.{◌+◌, ℕ, List, length, get_or, drop, Option, option_map, refl, sym, ap, ◌∙◌, arith}
use Rattle.vs_explanation.specs.Files as spec
use Rattle.vs_explanation.proofs.FilePlaces.{next_file, this_file, last_file, one_ends, same_place}
use Rattle.vs_explanation.proofs.files.file_place.Goals as goal

pub loop-n-preserved : goal.loop-n-preserved
loop-n-preserved c =
    let text : Option (List ℕ) = option_map (λ t. t.now) c.args.seen.now.file in
    let starts = c.args.seen.now.starts.now in
    let paths = c.args.job.now.others in
    let n = c.loop-n.n in
    let next = get_or starts n 0 in
    c.loop-n.invariant ∙ next_file c.loop-n.path.now c.loop-n.from c.args.at text starts paths n next c.get.result.now (omega arith) refl c.get.ensures c.if-at-next.false
    ∙ ap (λ (path : List ℕ). spec.place_from path next text (drop (n + 1) starts) (drop (n + 1) paths) c.args.at) (sym c.as_bytes-path-in-loop-n.ensures)

pub returns-then-at-next : goal.returns-then-at-next
returns-then-at-next c =
    let text : Option (List ℕ) = option_map (λ t. t.now) c.args.seen.now.file in
    let starts = c.args.seen.now.starts.now in
    let paths = c.args.job.now.others in
    let n = c.loop-n.n in
    let next = get_or starts n 0 in
    same_place c.loop-n.path.now _ _ _ _ (c.between.ensures ∙ ap (λ (to : ℕ). option_map (spec.between c.loop-n.from to) text) c.saturating_sub.ensures) c.saturating_sub-then-at-next.ensures
    ∙ sym (c.loop-n.invariant ∙ this_file c.loop-n.path.now c.loop-n.from c.args.at text starts paths n next (omega arith) (omega arith) refl c.if-at-next.true)

pub returns : goal.returns
returns c =
    let text : Option (List ℕ) = option_map (λ t. t.now) c.args.seen.now.file in
    let starts = c.args.seen.now.starts.now in
    let paths = c.args.job.now.others in
    let n = c.loop-n.n in
    same_place c.loop-n.path.now _ _ _ _ c.behind.ensures c.saturating_sub-2.ensures
    ∙ sym (c.loop-n.invariant ∙ last_file c.loop-n.path.now c.loop-n.from c.args.at text starts paths n (one_ends (length starts) (length paths) n (omega arith)))
