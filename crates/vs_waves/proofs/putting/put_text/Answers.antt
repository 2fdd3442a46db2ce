use Rattle.std.proofs.Common.{◌≡◌, ◌+◌, ◌-◌, ◌++◌, ℕ, List, [], ◌∷◌, length, take, drop, append-nil, eqb-true, sym, ap, ◌∙◌, refl, arith}
use Rattle.std.proofs.lemmas.List.{length-drop, length-take}
use Rattle.vs_waves.proofs.Draining.{drained-more, filled_up, ended_front, filled_length}
use Rattle.vs_waves.proofs.Moving.{moves_none, drained_failed}
use Rattle.vs_waves.proofs.putting.put_text.Goals as goal

-- a text without bytes
no_text : (xs : List ℕ) → length xs ≡ 0 → xs ≡ []
no_text [] h = refl
no_text (x ∷ xs) h = absurd (let e : ⊥ = omega arith in e)

pub returns-then-is_empty-clause-moved : goal.returns-then-is_empty-clause-moved
returns-then-is_empty-clause-moved g c =
    let kept = take c.args.filled c.args.block.now in
    moves_none c.put_law.ensures.nothing (g.D.Desk.told c.args.desk.now) c.args.place _ _ _
    (sym (ap (λ (l : List ℕ). kept ++ l) (no_text c.args.text.now (eqb-true (length c.args.text.now) 0 (sym c.is_empty.ensures ∙ c.if-is_empty.true))) ∙ append-nil kept))

pub loop-block-preserved : goal.loop-block-preserved
loop-block-preserved g c =
    let f = c.loop-block.filled in
    let block = c.loop-block.block in
    let k = length block - f in
    let from = c.loop-block.from in
    let text = c.args.text.now in
    let part = c.copy_from_slice.new.self in
    let full : List ℕ = take f block ++ (part ++ drop k (drop f block)) in
    let inv = c.loop-block.invariant in
    let split : full ++ drop (from + k) text ≡ take f block ++ drop from text = filled_up f k from (from + k) block text part inv.filled refl refl c.copy_from_slice.ensures.after in
    let room = length-take k (drop f block) in
    let rest = length-drop f block in
    let long = filled_length f k block part inv.filled refl (omega (arith, c.copy_from_slice.ensures.len)) in
    record {
      long = long ∙ inv.long;
      filled = omega arith;
      from = omega (arith, c.loop-block-test.true, inv.from);
      drained = drained-more (g.D.Desk.told c.args.desk.now) (g.D.Desk.told c.loop-block.desk) (g.D.Desk.told c.put_all.new.desk) c.args.place (take c.args.filled c.args.block.now ++ text)
          (take f block ++ drop from text) full (drop (from + k) text) c.put_law.ensures.parts inv.drained split c.in_ok-put_all.ensures.puts.same c.in_ok-put_all.ensures.puts.put;
    }

pub loop-block-smaller : goal.loop-block-smaller
loop-block-smaller g c =
    let inv = c.loop-block.invariant in
    omega (arith, c.loop-block-test.true, inv.filled, inv.from, inv.long, c.requires.block)

pub returns-in_err-put_all-clause-moved : goal.returns-in_err-put_all-clause-moved
returns-in_err-put_all-clause-moved g c =
    let f = c.loop-block.filled in
    let block = c.loop-block.block in
    let k = length block - f in
    let from = c.loop-block.from in
    let text = c.args.text.now in
    let part = c.copy_from_slice.new.self in
    let full : List ℕ = take f block ++ (part ++ drop k (drop f block)) in
    let inv = c.loop-block.invariant in
    let split : full ++ drop (from + k) text ≡ take f block ++ drop from text = filled_up f k from (from + k) block text part inv.filled refl refl c.copy_from_slice.ensures.after in
    drained_failed c.put_law.ensures.parts (g.D.Desk.told c.args.desk.now) (g.D.Desk.told c.loop-block.desk) (g.D.Desk.told c.put_all.new.desk) c.args.place (take c.args.filled c.args.block.now ++ text)
    (take f block ++ drop from text) full (drop (from + k) text) _ _ c.from_residual.result c.from_residual.ensures.0 inv.drained split c.in_err-put_all.ensures.puts

pub returns-clause-moved : goal.returns-clause-moved
returns-clause-moved g c =
    let f = c.loop-block.filled in
    let block = c.loop-block.block in
    let from = c.loop-block.from in
    let text = c.args.text.now in
    let n = length text - from in
    let inv = c.loop-block.invariant in
    let front = ended_front f n (f + n - f) from block text c.copy_from_slice-2.new.self inv.filled refl c.copy_from_slice-2.ensures.after in
    record {
      same = inv.drained.same;
      put = λ t. (inv.drained.done, ap (λ (r : List ℕ). inv.drained.done ++ r) front ∙ inv.drained.joined, inv.drained.told t);
      failed = tt;
      part = λ t. tt;
    }
