use Rattle.std.proofs.Common.{length}
use Rattle.vs_stim.specs.Row.{IsRow, SameForm}
use Rattle.vs_stim.specs.Source.{IsSource, ReadsAhead}
use Rattle.vs_stim.proofs.row.Row.feed_ahead.Given as goal

abbrev pub invariant-bytes : goal.invariant-bytes
invariant-bytes l =
    record {
      row : IsRow l.self;
      form : SameForm l.initial.self l.self;
      source : IsSource l.source;
      reads : ReadsAhead l.initial.self l.self l.initial.source l.source;
    }

abbrev pub decreases-bytes : goal.decreases-bytes
decreases-bytes l = length l.source.block
