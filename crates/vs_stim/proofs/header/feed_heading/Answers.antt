use Rattle.std.proofs.Common.{rules}
use Rattle.vs_stim.proofs.Untold.{goes_on, passes_lf}
use Rattle.vs_stim.proofs.header.feed_heading.Goals as goal

pub returns-in_err-byte-clause-went : goal.returns-in_err-byte-clause-went
returns-in_err-byte-clause-went g c = λ t e. goes_on _ _ _ (c.line.invariant.goes t) (c.in_err-byte.ensures.went t (search rules))

pub line-preserved : goal.line-preserved
line-preserved g c =
    let inv = c.line.invariant in
    let comes = rw c.in-Byte.is at c.in_ok-byte.ensures.comes in
    record {
      source = search rules;
      heading = search rules;
      place = search rules;
      number = search rules;
      start = search rules;
      register = search rules;
      others = search rules;
      line = search rules;
      says = search rules;
      goes = λ t. goes_on _ _ _ (inv.goes t) (comes t);
    }

pub returns-in-LineEnd-clause-ends : goal.returns-in-LineEnd-clause-ends
returns-in-LineEnd-clause-ends g c =
    let comes = rw c.in-LineEnd.is at c.in_ok-byte.ensures.comes in
    λ t _. passes_lf _ _ _ (c.line.invariant.goes t) (comes t)
