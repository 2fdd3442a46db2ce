use Rattle.std.proofs.Common.{◌++◌, drop, sym, ◌∙◌, ap}
use Rattle.vs_stim.specs.declared.wants.Part.{Part}
use Rattle.vs_stim.specs.Wants.{at_part}
use Rattle.vs_stim.proofs.Ahead.{wanted_goes_on, reads_wanted}
use Rattle.vs_stim.proofs.wants.Wants.feed_digits.Goals as goal

pub returns-in-Field-clause-reads : goal.returns-in-Field-clause-reads
returns-in-Field-clause-reads c =
    let wants = c.args.self.now in
    let all = wants.expected.items in
    let n = wants.column in
    let stored = wants.values.items in
    reads_wanted wants _ c.args.source.now c.read_wanted.new.self wants.digits c.read_wanted.new.digits c.read_wanted.ensures.reads
    (λ text rest digits h e.
    ap (λ (p : Part). at_part p all n c.read_wanted.new.digits stored rest) c.in-Field.is
    ∙ wanted_goes_on (drop n all) n text digits wants.digits c.read_wanted.new.digits stored rest h e
    ∙ sym (ap (λ (p : Part). at_part p all n wants.digits stored (text ++ rest)) c.in-Field.is))
