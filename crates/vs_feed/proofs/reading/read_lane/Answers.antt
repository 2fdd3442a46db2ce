use Rattle.std.proofs.Common.{rules}
use Rattle.vs_feed.proofs.reading.read_lane.Goals as goal

pub returns-in_ok-next-clause-advanced : goal.returns-in_ok-next-clause-advanced
returns-in_ok-next-clause-advanced g c =
    let e = c.in_ok-next.ensures in
    record {
      lane = search rules;
      sizes = search rules;
      columns = search rules;
      wanted_sizes = search rules;
      ended = search rules;
      vector = search rules;
      count = λ was now. e.count (e.live.0 now);
      read = λ t was now. e.read t (e.live.0 now);
      end = search rules;
      taken = search rules;
      kept = search rules;
    }
