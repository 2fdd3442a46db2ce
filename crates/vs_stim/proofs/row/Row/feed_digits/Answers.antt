use Rattle.std.proofs.Common.{◌++◌, drop, sym, ◌∙◌, ap}
use Rattle.vs_stim.specs.declared.row.Spot.{Spot}
use Rattle.vs_stim.specs.Row.{at_spot}
use Rattle.vs_stim.specs.Wants.{wants_said, wants_with}
use Rattle.vs_stim.proofs.Ahead.{field_goes_on, reads_digits}
use Rattle.vs_stim.proofs.row.Row.feed_digits.Goals as goal

pub returns-in-Field-clause-reads : goal.returns-in-Field-clause-reads
returns-in-Field-clause-reads c =
    let row = c.args.self.now in
    let left = drop row.column row.columns.items in
    let tail = wants_said row.wants in
    let behind = wants_with row.wants in
    reads_digits row _ c.args.source.now c.read_digits.new.self row.digits c.read_digits.new.digits c.read_digits.ensures.reads
    (λ text rest bits h e.
    ap (λ (s : Spot). at_spot s tail behind row.columns.items left c.read_digits.new.digits row.values.items rest) c.in-Field.is
    ∙ field_goes_on tail c.in-Field.column text bits row.digits c.read_digits.new.digits left row.values.items rest h e
    ∙ sym (ap (λ (s : Spot). at_spot s tail behind row.columns.items left row.digits row.values.items (text ++ rest)) c.in-Field.is))
