use Rattle.std.proofs.Common.{◌+◌, ◌<◌, ◌≤◌, Bool, false, ℕ, List, length, map, drop, replicate, refl, rules, sym, ap, ◌∙◌, subst, arith}
use Rattle.std.specs.Prelude.{filter, slice_index_or, IfOk, Ok, Err, Result}
use Rattle.std.specs.List.{flat_map}
use Rattle.std.proofs.lemmas.List.{drop_all, length-replicate}
use Rattle.vs_design.specs.Designs.{top_inputs}
use Rattle.vs_design.specs.Expressions.{Signal}
use Rattle.vs_design.specs.Footprints.{contains}
use Rattle.vs_design.specs.Selects.{block_selector_signals, root_numbers}
use Rattle.vs_flat.specs.Arena.{Arena}
use Rattle.vs_flat.specs.DesignOf.{design_of}
use Rattle.vs_reads.proofs.Numbered.{process_there}
use Rattle.vs_full.specs.Found.{ArePicked}
use Rattle.vs_full.proofs.Picking.{ArePickedTo, all_picked, bool_seam, next_block, picked_done, picked_more, picked_start}
use Rattle.vs_full.proofs.cases.Cases.select_firsts.Goals as goal

if_ok : {V W : Type 0} {P Q : V → Type 0} (r : Result V W) → IfOk r P → ((v : V) → P v → Q v) → IfOk r Q
if_ok (Ok v) h k = k v h
if_ok (Err e) h k = h

pub loop-p-init : goal.loop-p-init
loop-p-init c =
    let a = c.args.shapes.now in
    let d = design_of a in
    let whole = flat_map (block_selector_signals d) d.processes in
    let start = replicate (length a.signals) false in
    let items = c.in_ok-picked.ensures.items_if_clones_equal (λ y e. search rules) ∙ ap (λ (n : ℕ). replicate n false) (c.signal_count.ensures.count ∙ ap (λ (x : Arena). length x.signals) c.flat-flat.ensures.same) in
    subst (λ (v : List Bool). ArePickedTo d whole whole start v) (sym items) (picked_start d whole start)

pub pick_process-requires-clause-count : goal.pick_process-requires-clause-count
pick_process-requires-clause-count c = ap (λ (v : List Bool). length v) c.as_mut_slice.ensures.value ∙ c.loop-p.invariant.count ∙ length-replicate (length c.args.shapes.now.signals) false

pub loop-p-preserved : goal.loop-p-preserved
loop-p-preserved c =
    let a = c.args.shapes.now in
    let d = design_of a in
    let p = c.loop-p.p in
    let whole = flat_map (block_selector_signals d) d.processes in
    let start = replicate (length a.signals) false in
    let there : p < length d.processes = omega (arith, c.loop-p-test.true, c.process_count-p-end.ensures.count, (c.trees_law.ensures.counts a).processes, ap (λ (x : Arena). length x.processes) c.flat-flat.ensures.same) in
    let x = process_there d.processes p there in
    let now = c.pick_process.new.picked in
    let picked = subst (λ (v : List Bool). ArePicked d (block_selector_signals d x.0) v now) c.as_mut_slice.ensures.value (c.pick_process.ensures x.0 x.1) in
    let next = picked_more d (block_selector_signals d x.0) (flat_map (block_selector_signals d) (drop (p + 1) d.processes)) (flat_map (block_selector_signals d) (drop p d.processes)) whole start c.loop-p.picked.items now (next_block d p x.0 x.1) picked c.loop-p.invariant in
    subst (λ (v : List Bool). ArePickedTo d (flat_map (block_selector_signals d) (drop (p + 1) d.processes)) whole start v)
    (sym (bool_seam c.loop-p.picked.len now (drop (length now) c.loop-p.picked.items) (sym (c.pick_process.auto.picked ∙ c.as_mut_slice.ensures.len)))) next

pub returns : goal.returns
returns c =
    let a = c.args.shapes.now in
    let d = design_of a in
    let whole = flat_map (block_selector_signals d) d.processes in
    let start = replicate (length a.signals) false in
    let same = c.flat-flat.ensures.same in
    let all_done : length d.processes ≤ c.loop-p.p = omega (arith, c.loop-p-test.false, c.loop-p.auto.p-end, c.process_count-p-end.ensures.count, (c.trees_law.ensures.counts a).processes, ap (λ (x : Arena). length x.processes) same) in
    let done = picked_done d (flat_map (block_selector_signals d) (drop c.loop-p.p d.processes)) whole start c.loop-p.picked.items (ap (flat_map (block_selector_signals d)) (drop_all c.loop-p.p d.processes all_done)) c.loop-p.invariant in
    let told = λ (n : ℕ) (inside : n < length c.flat-flat.result.now.signals).
    ap (λ (v : List Bool). slice_index_or v n false) c.as_slice.ensures.value
    ∙ all_picked d (length a.signals) start c.loop-p.picked.items refl done n (omega (arith, inside, ap (λ (x : Arena). length x.signals) same, length-replicate (length a.signals) false)) in
    if_ok c.firsts_of.result (c.firsts_of.ensures (root_numbers d) told) (λ v e.
    e ∙ ap (λ (x : Arena). map (λ (s : Signal). s.first) (filter (λ (s : Signal). contains (root_numbers d) s.number) (top_inputs (design_of x)))) same)
