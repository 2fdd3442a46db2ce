use Rattle.vs_waves.specs.declared.changes.Change.{Change}
use Rattle.std.proofs.Common.{ap, ◌∙◌, ◌++◌, ◌∷◌, []}
use Rattle.vs_design.specs.Values.{read}
use Rattle.vs_program.specs.Compiled.{span_bits}
use Rattle.vs_engine.specs.Lanes.{state}
use Rattle.vs_waves.proofs.Listing.{one_more}
use Rattle.vs_waves.proofs.changes.Changes.add.Goals as goal

pub returns-clause-text : goal.returns-clause-text
returns-clause-text g c = λ s i e l.
    let change : Change _ = record { signal = c.args.number; lanes = c.args.lanes; bit = c.keep_values-bit.result } in
    one_more g.W.Word.lane g.W.Word.LANES i c.args.self.now _ change (read (state g.W.Word.lane c.args.engine.now i) (span_bits s)) l
    (c.push_reserved.ensures.items ∙ ap (λ v. v.items ++ change ∷ []) c.keep_values-bit.ensures.changed)
    c.keep_values-bit.ensures.before
    (λ t. c.keep_values-bit.ensures.value s i e l t)
