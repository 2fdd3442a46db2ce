use Rattle.std.proofs.Common.{◌≡◌, ℕ, ◌+◌, IsNone, List, [], take, get_or, string_bytes, Err, refl, sym, ap, ◌∙◌, subst, arith}
use Rattle.std.proofs.lemmas.List.{take_all, take_more}
use Rattle.std.proofs.lemmas.Result.{err_from_is_err_and}
use Rattle.vs_reread.specs.declared.again.AgainError.TheVariants.{ReadFault}
use Rattle.vs_explainer.specs.Joined.{IsJoined}
use Rattle.vs_explainer.proofs.Joins.{joined_head, joins_first, joins_more, next_of}
use Rattle.vs_explainer.proofs.Sights.{then_only, then_faultless, then_rose}
use Rattle.vs_explainer.proofs.joined.read_joined.Goals as goal

pub loop-n-init : goal.loop-n-init
loop-n-init g c =
    let job = c.args.job.now in
    let files = (g.D.Desk.told c.args.desk.now).contents.files in
    let f = c.in_ok-text.ensures in
    let j : IsJoined g.D.Desk.tells job.head files job.design (take 0 job.others) c.in_ok-text.text.items [] =
    joins_first g.D.Desk.tells job.head c.as_bytes.result.now files job.design (string_bytes c.in_ok-path.path) job.others _ _ c.as_bytes.ensures (c.in_ok-path.ensures.ok ∙ c.as_str.ensures) f.text refl in
    record {
      joined = subst (λ (starts : List ℕ). IsJoined g.D.Desk.tells job.head files job.design (take 0 job.others) c.in_ok-text.text.items starts) (cc) j;
      short = f.short;
      head = joined_head j;
      only = f.only;
      stimulus = f.other 3 (λ e. omega arith);
      free = λ m le few. subst IsNone (sym (f.other (4 + m) (λ e. omega arith))) (c.requires.free.lanes m (omega arith));
      faultless = f.faultless (λ e. cc);
    }

pub loop-n-preserved : goal.loop-n-preserved
loop-n-preserved g c =
    let job = c.args.job.now in
    let old = g.D.Desk.told c.args.desk.now in
    let mid = g.D.Desk.told c.loop-n.desk in
    let new = g.D.Desk.told c.read_next.new.desk in
    let n = c.loop-n.n in
    let i = c.loop-n.invariant in
    let f = c.in_ok-read_next.ensures in
    let path = get_or job.others n [] in
    let text = c.loop-n.joined.text.items in
    let starts = c.loop-n.joined.starts.items in
    let grown = c.read_next.new.joined.text.items in
    let more = c.read_next.new.joined.starts.items in
    let next = next_of g.D.Desk.tells job.head (mid.contents.files path) (old.contents.files path) text starts grown more (λ t. ap (λ (files : List ℕ → List ℕ). files path) (i.only.files t)) f.joined in
    let j = joins_more g.D.Desk.tells job.head old.contents.files job.design (take n job.others) path text starts grown more c.requires.head i.joined next in
    record {
      joined = subst (λ (paths : List (List ℕ)). IsJoined g.D.Desk.tells job.head old.contents.files job.design paths grown more) (sym (take_more job.others n [] (omega arith))) j;
      short = f.short;
      head = f.head;
      only = then_only old mid new i.only f.only;
      stimulus = f.other 3 (λ e. omega arith) ∙ i.stimulus;
      free = λ m le few. subst IsNone (sym (f.other (4 + m) (λ e. omega arith))) (i.free m (omega arith) few);
      faultless = then_faultless old.register mid.register new.register i.faultless (f.faultless (λ e. cc));
    }

pub returns-in_err-read_next-clause-only : goal.returns-in_err-read_next-clause-only
returns-in_err-read_next-clause-only g c =
    then_only (g.D.Desk.told c.args.desk.now) (g.D.Desk.told c.loop-n.desk) (g.D.Desk.told c.read_next.new.desk) c.loop-n.invariant.only c.in_err-read_next.ensures.only

pub returns-in_err-read_next-clause-stimulus : goal.returns-in_err-read_next-clause-stimulus
returns-in_err-read_next-clause-stimulus g c = c.in_err-read_next.ensures.other 3 (λ e. omega arith) ∙ c.loop-n.invariant.stimulus

pub returns-in_err-read_next-clause-failed : goal.returns-in_err-read_next-clause-failed
returns-in_err-read_next-clause-failed g c =
    let p = err_from_is_err_and c.from_residual-in_err-read_next.result c.from_residual-in_err-read_next.ensures.1 in
    let f = c.in_err-read_next.ensures in
    rw (p.1, p.2)
    (λ e.
    let same : c.in_err-read_next.field-0.0 ≡ ReadFault = cc in
    then_rose (g.D.Desk.told c.args.desk.now).register (g.D.Desk.told c.loop-n.desk).register (g.D.Desk.told c.read_next.new.desk).register c.loop-n.invariant.faultless (f.failed (ap Err same)))

pub returns-in_err-read_next-clause-faultless : goal.returns-in_err-read_next-clause-faultless
returns-in_err-read_next-clause-faultless g c =
    let p = err_from_is_err_and c.from_residual-in_err-read_next.result c.from_residual-in_err-read_next.ensures.1 in
    let f = c.in_err-read_next.ensures in
    rw (p.1, p.2)
    (λ ne.
    then_faultless (g.D.Desk.told c.args.desk.now).register (g.D.Desk.told c.loop-n.desk).register (g.D.Desk.told c.read_next.new.desk).register c.loop-n.invariant.faultless (f.faultless (λ e. let same : c.in_err-read_next.field-0.0 ≡ ReadFault = cc in ne (ap Err same))))

pub returns-clause-joined : goal.returns-clause-joined
returns-clause-joined g c =
    let job = c.args.job.now in
    subst (λ (paths : List (List ℕ)). IsJoined g.D.Desk.tells job.head (g.D.Desk.told c.args.desk.now).contents.files job.design paths c.loop-n.joined.text.items c.loop-n.joined.starts.items)
    (take_all c.loop-n.n job.others (omega arith)) c.loop-n.invariant.joined
