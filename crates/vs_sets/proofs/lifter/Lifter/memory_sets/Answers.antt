use Rattle.std.proofs.Common.{◌≡◌, ◌≤◌, ◌+◌, ◌-◌, length, map, take, drop, sym, ◌∙◌, ap, ap₂, arith}
use Rattle.vs_sets.specs.Nodes.{signal_of}
use Rattle.vs_sets.specs.Tables.{family_of}
use Rattle.vs_design.specs.Values.{count_from}
use Rattle.vs_sets.proofs.Limits.{signal_ends}
use Rattle.vs_sets.proofs.Names.{sets_at}
use Rattle.vs_sets.proofs.lifter.Lifter.memory_sets.Goals as goal

pub returns-clause-is : goal.returns-clause-is
returns-clause-is c =
    let table = c.args.self.now.table.now in
    let span = c.span_of-span.result in
    let ends = signal_ends (length table) (signal_of c.args.self.now.shapes.now c.args.n) c.requires.within in
    let inside : span.first + span.len ≤ length table = omega (arith, ends, c.span_of-span.ensures.first, c.span_of-span.ensures.len) in
    let count : (span.first + span.len) - span.first ≡ span.len = omega arith in
    ap (λ n. take n (drop span.first table)) count ∙ sym (sets_at table span.first span.len inside)
    ∙ ap₂ (λ first n. map (family_of table) (count_from first n)) c.span_of-span.ensures.first c.span_of-span.ensures.len
