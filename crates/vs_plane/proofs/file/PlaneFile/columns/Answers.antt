use Rattle.std.proofs.Common.{◌≡◌, ℕ, ◌*◌, length, subst, arith}
use Rattle.std.proofs.lemmas.List.{get_or-replicate, length-replicate}
use Rattle.vs_plane.proofs.ColumnBits.{AreRows, row_more, column_vector, column_below}
use Rattle.vs_plane.proofs.file.PlaneFile.columns.Goals as goal

pub loop-n-init : goal.loop-n-init
loop-n-init g c = record {
  value_long = length-replicate {A = ℕ} 64 0;
  unknown_long = length-replicate {A = ℕ} 64 0;
  bits = λ m i h l. absurd (let e : ⊥ = omega arith in e);
  value_rest = λ m h l. get_or-replicate {A = ℕ} 64 m 0 0 l;
  unknown_rest = λ m h l. get_or-replicate {A = ℕ} 64 m 0 0 l;
}

pub loop-n-preserved : goal.loop-n-preserved
loop-n-preserved g c =
    row_more g.W.Word.lane c.args.self.now c.args.slots.now (64 * c.args.k) c.loop-n.n c.loop-n.value c.loop-n.unknown c.load-pair.result c.sixty_four.result c.sixty_four-in-loop-n.result
    (omega arith) c.loop-n.invariant c.sixty_four.ensures c.sixty_four-in-loop-n.ensures c.load-pair.ensures.lanes

pub returns-clause-vectors : goal.returns-clause-vectors
returns-clause-vectors g c i h =
    let lane = g.W.Word.lane in
    let slots = c.args.slots.now in
    let all : c.loop-n.n ≡ length slots = omega arith in
    let rows : AreRows lane c.args.self.now slots (64 * c.args.k) (length slots) c.loop-n.value c.loop-n.unknown =
    subst (λ (n : ℕ). AreRows lane c.args.self.now slots (64 * c.args.k) n c.loop-n.value c.loop-n.unknown) all c.loop-n.invariant in
    column_vector lane g.W.Word.LANES c.filling_law.ensures c.args.self.now slots (64 * c.args.k) c.loop-n.value c.loop-n.unknown c.columns-value.result c.columns-unknown.result i
    c.requires.most h rows c.columns-value.ensures.columns c.columns-unknown.ensures.columns

pub returns-clause-value_below : goal.returns-clause-value_below
returns-clause-value_below g c i h =
    let all : c.loop-n.n ≡ length c.args.slots.now = omega arith in
    column_below c.loop-n.value c.columns-value.result (length c.args.slots.now) i c.requires.most h
    (λ m l k. c.loop-n.invariant.value_rest m (omega arith) k) c.columns-value.ensures.columns (c.columns-value.ensures.fits i)

pub returns-clause-unknown_below : goal.returns-clause-unknown_below
returns-clause-unknown_below g c i h =
    let all : c.loop-n.n ≡ length c.args.slots.now = omega arith in
    column_below c.loop-n.unknown c.columns-unknown.result (length c.args.slots.now) i c.requires.most h
    (λ m l k. c.loop-n.invariant.unknown_rest m (omega arith) k) c.columns-unknown.ensures.columns (c.columns-unknown.ensures.fits i)
