use Rattle.std.proofs.Common.{◌≡◌, ℕ, Option, length, is_some, All, sym, ap, ◌∙◌, subst, arith}
use Rattle.vs_misses.specs.Missed.{Found}
use Rattle.vs_misses.specs.Rows.{IsRow}
use Rattle.vs_misses.proofs.Columns.{rows_long}
use Rattle.vs_misses.proofs.Notes.{has_columns}
use Rattle.vs_misses.proofs.misses.Misses.new.Goals as goal

pub invariant_of-result : goal.invariant_of-result
invariant_of-result g c =
    let long : length c.in_ok-found.found.items ≡ length c.args.drive.now = omega (arith, c.in_ok-found.ensures.lanes, c.lanes.ensures.count) in
    record {
      rows = subst (λ (n : ℕ). All (IsRow n) c.in_ok-rows.rows.items) (sym long) c.in_ok-rows.ensures.rows;
      missed = λ i h within. c.none.ensures i h ∙ sym (ap (λ (o : Option Found). is_some o) (c.in_ok-found.ensures.none i));
      few = omega (arith, rows_long c.in_ok-rows.rows.items c.args.outputs.items c.in_ok-rows.ensures.spans, c.requires.few);
      lanes = omega (arith, long, c.lanes.ensures.numbered.few);
      wanted = omega (arith, c.in_ok-vec.ensures.len, c.in_ok-vec.field-0.ok.0);
      free = omega (arith, c.in_ok-vec-2.ensures.len, c.in_ok-vec-2.field-0.ok.0);
    }

pub returns-clause-columns : goal.returns-clause-columns
returns-clause-columns g c =
    has_columns c.in_ok-rows.rows.items c.in_ok-found.found.items c.args.drive.now c.in_ok-rows.ensures.places (omega (arith, c.in_ok-found.ensures.lanes, c.lanes.ensures.count))
