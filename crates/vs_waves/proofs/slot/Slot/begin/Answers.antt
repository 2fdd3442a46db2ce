use Rattle.std.proofs.Common.{◌≡◌, ◌+◌, ◌-◌, ◌++◌, ◌≤◌, ℕ, List, [], length, map, take, sym, ap, ◌∙◌, append_assoc, arith}
use Rattle.std.specs.Prelude.{codes, slice_index_or}
use Rattle.std.proofs.lemmas.List.{length-map}
use Rattle.vs_four.specs.Logic.{BitList}
use Rattle.vs_design.specs.Values.{count_from}
use Rattle.vs_program.specs.declared.compiled.Span.{Span}
use Rattle.vs_vcd.specs.Values.{line}
use Rattle.vs_vcd.specs.Shared.{at_places}
use Rattle.vs_vcd.specs.Texts.{time_line, value_lines}
use Rattle.vs_waves.specs.Changes.{changes_text}
use Rattle.vs_waves.specs.Rounds.{lane_values}
use Rattle.vs_waves.proofs.Draining.{ended_front}
use Rattle.vs_waves.proofs.slot.Slot.begin.Goals as goal

pub returns-clause-text : goal.returns-clause-text
returns-clause-text g c = λ i h.
    let dump : List ℕ = line (codes "$dumpvars") in
    let end = line (codes "$end") in
    let t = c.put_time-time.result in
    let block = c.put_time-time.new.block in
    let places = c.args.last.now.places in
    let now : List BitList = at_places [] places (lane_values g.W.Word.lane c.args.engine.now i) in
    let lines = changes_text g.W.Word.lane g.W.Word.LANES c.take_over.new.changes i in
    let spans = c.args.last.now.spans in
    let signals = c.args.engine.now.program.signals in
    let time : take t block ≡ time_line 0 = c.put_time-time.ensures.text in
    let inside : t ≤ length block = omega (arith, c.put_time-time.ensures.within, c.put_time-time.ensures.long) in
    let size : length c.dump_line-dump.result.now ≡ 10 = ap length c.dump_line-dump.ensures in
    let front = ended_front t (length c.dump_line-dump.result.now) (t + length c.dump_line-dump.result.now - t) 0 block dump c.copy_from_slice.new.self inside size (c.copy_from_slice.ensures.after ∙ c.dump_line-dump.ensures ∙ ap (λ (m : ℕ). take m dump) (sym size)) in
    let count : length spans ≡ length now =
    sym (length-map spans (λ (s : Span). s.length))
    ∙ sym (ap length c.requires.lengths)
    ∙ length-map places (λ k. slice_index_or (map (λ (s : Span). s.length) signals) k 0)
    ∙ sym (length-map places (λ k. slice_index_or (lane_values g.W.Word.lane c.args.engine.now i) k [])) in
    let numbers : List ℕ = c.args.last.now.numbers in
    let text : lines ≡ value_lines numbers now (count_from 0 (length now)) = c.take_over.ensures.text i h ∙ ap (λ (n : ℕ). value_lines numbers now (count_from 0 n)) count in
    ap (λ (xs : List ℕ). xs ++ (lines ++ end)) (front ∙ ap (λ (xs : List ℕ). xs ++ dump) time)
    ∙ ap (λ (xs : List ℕ). (time_line 0 ++ dump) ++ (xs ++ end)) text
    ∙ sym (append_assoc (time_line 0 ++ dump) (value_lines numbers now (count_from 0 (length now))) end)
