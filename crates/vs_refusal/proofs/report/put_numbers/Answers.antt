use Rattle.std.proofs.Common.{◌<◌, length, rules}
use Rattle.vs_refusal.proofs.Chained.{put_then, split_numbers}
use Rattle.vs_refusal.proofs.report.put_numbers.Goals as goal

pub returns : goal.returns
returns g c =
    let some : 0 < length c.args.numbers.now = search (rules, c.if-is_empty.ensures, c.is_empty.ensures) in
    rw (split_numbers c.args.numbers.now some)
    (put_then c.put_law.ensures.parts _ _ _ _ _ _ _ c.in_ok-put_number.ensures c.put_more_numbers.ensures)
