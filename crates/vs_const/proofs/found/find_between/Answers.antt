use Rattle.std.proofs.Common.{◌≡◌, subst, sym}
use Rattle.vs_const.specs.Selects as spec
use Rattle.vs_const.specs.Checks.{ChecksTaken}
use Rattle.vs_const.specs.Found.{Keeps}
use Rattle.vs_const.proofs.found.find_between.Goals as goal

pub returns : goal.returns
returns c = λ m t u f k p q.
    let b = c.range_of_bounds-bounds.ensures.is t u p q in
    let bs = spec.bounds c.args.bracket c.args.left_place t c.args.right_place u in
    let whole = spec.base_of c.args.needed c.args.place m in
    let base = c.base_of-base.ensures m k in
    let tk = subst (λ d. ChecksTaken c.between.result (spec.between d c.args.bracket c.args.left_place bs.range bs.faults)) base.range (c.between.ensures c.args.left_place bs b) in
    let said = c.taken_of-said.ensures whole (spec.between whole.range c.args.bracket c.args.left_place bs.range bs.faults) base tk in
    let good = subst (λ r. c.taken_of-said.result.good ≡ (spec.select_typed whole (spec.between whole.range c.args.bracket c.args.left_place r bs.faults)).good) (sym b.range) said.good in
    record {
      checks = said;
      keeps = subst (λ r. Keeps c.args.needed c.in_ok-form.form (spec.select_typed whole (spec.between whole.range c.args.bracket c.args.left_place r bs.faults))) b.range
          (c.in_ok-form.ensures c.args.needed c.args.place c.args.bracket m bs.faults f k good);
    }
