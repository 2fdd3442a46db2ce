use Rattle.std.proofs.Common.{◌≡◌, ◌+◌, ◌-◌, ◌++◌, ℕ, List, length, take, sym, ap, ◌∙◌, refl, subst, append_assoc, append-nil, add-one, arith}
use Rattle.std.specs.List.{flat_map}
use Rattle.vs_desk.specs.Desk.{Register, Fails, PutsPart}
use Rattle.vs_design.specs.Values.{count_from}
use Rattle.vs_waves.specs.Changes.{line_at, changes_text}
use Rattle.vs_waves.specs.Puts.{PutsFront}
use Rattle.vs_waves.proofs.Draining.{front-none, front-more, front-then, part_after, part-more}
use Rattle.vs_waves.proofs.Moving.{moves_err}
use Rattle.vs_waves.proofs.Joining.{text-more, text-split}
use Rattle.vs_waves.proofs.slot.put_changes.Goals as goal

pub loop-n-init : goal.loop-n-init
loop-n-init g c = record {
  long = refl;
  filled = c.requires.filled;
  same = refl;
  front = λ t. subst (λ (text : List ℕ). PutsFront (g.D.Desk.told c.args.desk.now).register (g.D.Desk.told c.args.desk.now).contents (g.D.Desk.told c.args.desk.now).contents c.args.place text (take c.args.filled c.args.block.now))
      (sym (append-nil (take c.args.filled c.args.block.now)))
      (front-none (g.D.Desk.told c.args.desk.now).register (g.D.Desk.told c.args.desk.now).contents c.args.place (take c.args.filled c.args.block.now) c.put_law.ensures.nothing);
}

pub returns-clause-moved : goal.returns-clause-moved
unfolding changes_text
returns-clause-moved g c = record {
  same = c.loop-n.invariant.same;
  put = λ t.
      let all : c.loop-n.n ≡ length c.args.changes.now.changed.items = omega arith in
      subst (λ (n : ℕ). PutsFront (g.D.Desk.told c.args.desk.now).register (g.D.Desk.told c.args.desk.now).contents (g.D.Desk.told c.loop-n.desk).contents c.args.place
      (take c.args.filled c.args.block.now ++ flat_map (line_at g.W.Word.lane g.W.Word.LANES c.args.changes.now c.args.lane) (count_from 0 n)) (take c.loop-n.filled c.loop-n.block)) all (c.loop-n.invariant.front t);
  failed = tt;
  part = λ t. tt;
}

pub loop-n-preserved : goal.loop-n-preserved
loop-n-preserved g c =
    let inv = c.loop-n.invariant in
    let e = c.in_ok-filled.ensures in
    let f = line_at g.W.Word.lane g.W.Word.LANES c.args.changes.now c.args.lane in
    let kept = take c.args.filled c.args.block.now in
    let r = (g.D.Desk.told c.args.desk.now).register in
    let old = (g.D.Desk.told c.args.desk.now).contents in
    let new = (g.D.Desk.told c.put_change.new.desk).contents in
    record {
      long = c.put_change.ensures.long ∙ inv.long;
      filled = e.filled;
      same = e.same ∙ inv.same;
      front = λ t.
          let n = c.loop-n.n in
          let text = kept ++ flat_map f (count_from 0 n) in
          let more : text ++ f n ≡ kept ++ flat_map f (count_from 0 (n + 1)) =
          append_assoc kept (flat_map f (count_from 0 n)) (f n) ∙ ap (λ (l : List ℕ). kept ++ l) (sym (text-more f n) ∙ ap (λ (m : ℕ). flat_map f (count_from 0 m)) (sym (add-one n))) in
          subst (λ (whole : List ℕ). PutsFront r old new c.args.place whole (take c.in_ok-filled.filled c.put_change.new.block)) more
          (front-then r (g.D.Desk.told c.loop-n.desk).register old (g.D.Desk.told c.loop-n.desk).contents new c.args.place (text ++ f n) (take c.loop-n.filled c.loop-n.block ++ f n) (take c.in_ok-filled.filled c.put_change.new.block) c.put_law.ensures.parts inv.same
          (front-more r old (g.D.Desk.told c.loop-n.desk).contents c.args.place text (take c.loop-n.filled c.loop-n.block) (f n) (inv.front t)) (e.bytes t));
    }

pub returns-in_err-filled-clause-moved : goal.returns-in_err-filled-clause-moved
unfolding changes_text
returns-in_err-filled-clause-moved g c =
    let inv = c.loop-n.invariant in
    let f = line_at g.W.Word.lane g.W.Word.LANES c.args.changes.now c.args.lane in
    let kept = take c.args.filled c.args.block.now in
    let r = (g.D.Desk.told c.args.desk.now).register in
    let old = (g.D.Desk.told c.args.desk.now).contents in
    let now = (g.D.Desk.told c.loop-n.desk).contents in
    let new = (g.D.Desk.told c.put_change.new.desk).contents in
    let n = c.loop-n.n in
    let count = length c.args.changes.now.changed.items in
    let text = kept ++ flat_map f (count_from 0 n) in
    let rest = flat_map f (count_from n (count - n)) in
    let others = take c.loop-n.filled c.loop-n.block in
    let whole : text ++ rest ≡ kept ++ flat_map f (count_from 0 count) = append_assoc kept (flat_map f (count_from 0 n)) rest ∙ ap (λ (l : List ℕ). kept ++ l) (sym (text-split f n count (omega arith))) in
    moves_err (g.D.Desk.told c.args.desk.now) (g.D.Desk.told c.put_change.new.desk) c.args.place _ _ c.from_residual.result c.from_residual.ensures.0
    (subst (λ (r : Register). Fails r (g.D.Desk.told c.put_change.new.desk).register c.args.place r.asked) inv.same c.in_err-filled.ensures.failed)
    (λ t. subst (λ (t : List ℕ). PutsPart r old new c.args.place t) whole
    (part_after r (g.D.Desk.told c.loop-n.desk).register old now new c.args.place text others rest c.put_law.ensures.parts inv.same (inv.front t)
    (part-more (g.D.Desk.told c.loop-n.desk).register now new c.args.place others rest (c.in_err-filled.ensures.bytes_part t))))
