use Rattle.std.proofs.Common.{refl, subst}
use Rattle.vs_driver.specs.Refused.{IsDriverError}
use Rattle.vs_design.specs.Answers.{OfDriver}
use Rattle.vs_design.specs.Refusals as rule
use Rattle.vs_flat.specs.DesignOf.{design_of}
use Rattle.vs_accept.specs.Refused.{byte_of}
use Rattle.vs_accept.proofs.Told.{first_verdict, two_told}
use Rattle.vs_accept.proofs.places.Places.driver_error.Goals as goal

pub returns-in-TwoDrivers : goal.returns-in-TwoDrivers
returns-in-TwoDrivers c = λ clocks k h.
    let d = design_of c.args.typed.now in
    let s = c.in-TwoDrivers in
    first_verdict (byte_of c.args.self.now.text.now c.args.self.now.tokens.now) d clocks (OfDriver (rule.TwoDrivers s.bit s.first s.second s.at)) _ refl (k.0, k.1, subst (IsDriverError d) s.is h) c.refused_two.ensures

pub returns-in-TwoWriters : goal.returns-in-TwoWriters
returns-in-TwoWriters c = λ clocks k h.
    let d = design_of c.args.typed.now in
    let s = c.in-TwoWriters in
    let w = subst (IsDriverError d) s.is h in
    first_verdict (byte_of c.args.self.now.text.now c.args.self.now.tokens.now) d clocks (OfDriver (rule.TwoWriters s.bit w.one w.other)) _ refl (k.0, k.1, w.told)
    (two_told (byte_of c.args.self.now.text.now c.args.self.now.tokens.now) d s.bit s.first s.second w.one w.other c.begin.result _ w.first_is w.second_is c.begin.ensures c.refused_two-in-TwoWriters.ensures)
