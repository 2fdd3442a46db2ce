use Rattle.std.proofs.Common.{◌≡◌, ◌*◌, sym, ap, ap₂, ◌∙◌, arith}
use Rattle.vs_four.specs.Selects.{range_length}
use Rattle.vs_design.specs.Expressions as E
use Rattle.vs_flat.specs.Trees as T
use Rattle.vs_sets.proofs.Names.{signal_within, signal_short_end, word_few}
use Rattle.vs_sets.proofs.Widths.{words_are}
use Rattle.vs_sets.proofs.words.memory_of.Goals as goal

pub length_of-requires : goal.length_of-requires
length_of-requires c =
    let e = c.trees_law.ensures.signals c.args.shapes.now c.args.n c.signal-signal.result.now (rw c.flat.ensures.same at c.signal-signal.ensures) in
    let len = ap (λ (s : E.Signal). E.word_length s) e in
    omega (arith, (word_few c.trees_law.ensures.counts c.args.shapes.now c.args.n (rw c.flat.ensures.same at c.flat.ensures.lawful) c.requires).1, len)

pub returns-clause-within : goal.returns-clause-within
returns-clause-within c =
    let w = signal_within c.trees_law.ensures.counts c.args.shapes.now c.args.n (rw c.flat.ensures.same at c.flat.ensures.lawful) c.requires in
    let e = c.trees_law.ensures.signals c.args.shapes.now c.args.n c.signal-signal.result.now (rw c.flat.ensures.same at c.signal-signal.ensures) in
    let first = ap (λ (s : E.Signal). s.first) e in
    let len = ap (λ (s : E.Signal). E.signal_length s) e in
    let bits : range_length c.addresses_of.result * c.length_of.result ≡ E.signal_length (T.signal_of c.args.n c.signal-signal.result.now) =
    ap₂ (λ r n. range_length r * n) c.addresses_of.ensures c.length_of.ensures ∙ sym (words_are (T.signal_of c.args.n c.signal-signal.result.now)) in
    omega (arith, w, first, len, bits)

pub returns-clause-small : goal.returns-clause-small
returns-clause-small c =
    let lawful = rw c.flat.ensures.same at c.flat.ensures.lawful in
    let w = signal_short_end c.trees_law.ensures.counts c.args.shapes.now c.args.n lawful c.requires in
    let e = c.trees_law.ensures.signals c.args.shapes.now c.args.n c.signal-signal.result.now (rw c.flat.ensures.same at c.signal-signal.ensures) in
    let first = ap (λ (s : E.Signal). s.first) e in
    let len = ap (λ (s : E.Signal). E.signal_length s) e in
    let bits : range_length c.addresses_of.result * c.length_of.result ≡ E.signal_length (T.signal_of c.args.n c.signal-signal.result.now) =
    ap₂ (λ r n. range_length r * n) c.addresses_of.ensures c.length_of.ensures ∙ sym (words_are (T.signal_of c.args.n c.signal-signal.result.now)) in
    omega (arith, w, first, len, bits)
