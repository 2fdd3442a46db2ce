use Rattle.std.proofs.Common.{rules, ◌≡◌, IsTrue, ap, sym, ◌∙◌}
use Rattle.vs_stim.specs.Row.{row_with}
use Rattle.vs_stim.specs.Source.{open_at, in_block, is_told, says}
use Rattle.vs_stim.proofs.Untold.{goes_on, passes_lf}
use Rattle.vs_stim.proofs.Ahead.{ahead_on_desk, ahead_in_block, ahead_says, line_ahead, goes_ahead, byte_line, line_on, told_on}
use Rattle.vs_stim.proofs.vectors.feed_row.Goals as goal

pub returns-in_err-byte-clause-went : goal.returns-in_err-byte-clause-went
returns-in_err-byte-clause-went g c = λ t e. goes_on _ _ _ (c.line.invariant.goes t) (c.in_err-byte.ensures.went t (search rules))

pub line-preserved : goal.line-preserved
line-preserved g c =
    let inv = c.line.invariant in
    let told = g.D.Desk.told c.next_piece.new.desk in
    let old = open_at c.line.source (g.D.Desk.told c.line.desk) in
    let mid = open_at c.next_piece.new.self told in
    let moves = rw c.in-Byte.is at c.in_ok-byte.ensures.moves in
    let gives = rw c.in-Byte.is at c.in_ok-byte.ensures.gives in
    let kept = rw c.in-Byte.is at c.in_ok-byte.ensures.told in
    let comes = rw c.in-Byte.is at c.in_ok-byte.ensures.comes in
    let still : mid.at ≡ old.at = λ i. record { number = moves.0 i; start = moves.1 i } in
    let here : IsTrue (is_told (in_block c.args.source.now)) → IsTrue (is_told (in_block c.line.source)) = λ x. told_on _ _ (inv.told_line x) x in
    let ahead = c.feed_ahead.ensures.reads in
    let behind = ahead_on_desk told c.feed.new.self c.feed_ahead.new.self c.next_piece.new.self c.feed_ahead.new.source ahead in
    let within = ahead_in_block c.feed.new.self c.feed_ahead.new.self c.next_piece.new.self c.feed_ahead.new.source ahead in
    record {
      source = search rules;
      row = search rules;
      form = search rules;
      place = search rules;
      number = search rules;
      start = search rules;
      register = search rules;
      others = search rules;
      frugal = search rules;
      line = λ t. line_on _ _ _ (inv.line t) (line_on old mid _ (byte_line _ old mid (gives t) still) (line_ahead _ _ _ behind));
      spoken = λ t. ahead_says _ _ _ _ ahead mid _ behind ∙ c.feed.ensures.says (says mid) ∙ ap (row_with c.line.row) (sym (gives t).said) ∙ inv.spoken t;
      told_line = λ x. line_on _ _ _ (inv.told_line x) (line_on _ _ _ (byte_line _ _ _ (kept (here x)) still) (line_ahead _ _ _ within));
      told_says = λ x. ahead_says _ _ _ _ ahead _ _ within ∙ c.feed.ensures.says (says (in_block c.next_piece.new.self)) ∙ ap (row_with c.line.row) (sym (kept (here x)).said) ∙ inv.told_says x;
      goes = λ t. goes_on _ _ _ (inv.goes t) (goes_on _ _ _ (comes t) (goes_ahead _ _ _ behind));
    }

pub returns-in-LineEnd-clause-ends : goal.returns-in-LineEnd-clause-ends
returns-in-LineEnd-clause-ends g c =
    let comes = rw c.in-LineEnd.is at c.in_ok-byte.ensures.comes in
    λ t _. passes_lf _ _ _ (c.line.invariant.goes t) (comes t)
