use Rattle.std.proofs.Common.{◌≢◌, ◌+◌, ◌<◌, IsNone, sym, subst, lit<, arith}
use Rattle.vs_explain.proofs.explain.run_words.Goals as goal

pub returns-clause-unread : goal.returns-clause-unread
returns-clause-unread g c = λ free.
    let design : 2 ≢ 1 = omega arith in
    let stimulus : 3 ≢ 1 = omega arith in record {
      design = subst IsNone (sym (c.answer.ensures.others 2 (lit< tt) design)) free.design;
      stimulus = subst IsNone (sym (c.answer.ensures.others 3 (lit< tt) stimulus)) free.stimulus;
      lanes = λ lane h.
          let other : 4 + lane ≢ 1 = omega arith in
          let low : 4 + lane < 1000 = omega (arith, h) in
          subst IsNone (sym (c.answer.ensures.others (4 + lane) low other)) (free.lanes lane h);
    }
