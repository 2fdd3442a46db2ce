use Rattle.std.proofs.Common.{◌≡◌, ◌<◌, ◌≤◌, ◌+◌, ◌∙◌, ◌∷◌, ◌++◌, [], ℕ, List, All, length, take, sym, ap, refl, subst, arith, true, false}
use Rattle.std.proofs.lemmas.List.{length_push}
use Rattle.std.proofs.lemmas.List.Elements.{All-nil}
use Rattle.std.proofs.lemmas.Result.{err_from_is_err_and}
use Rattle.vs_four.specs.declared.Bit4.{Bit4}
use Rattle.vs_desk.specs.Desk.{Register}
use Rattle.vs_stim.specs.Known.{Known}
use Rattle.vs_stim.specs.Row.{sizes}
use Rattle.vs_feed.specs.Lanes.{lane_at}
use Rattle.vs_rounds.specs.declared.stop.Stop.{Stop}
use Rattle.vs_rounds.specs.Lanes.{HaveNext, reading_of}
use Rattle.vs_rounds.specs.Stops.{HasCause, ReadStops}
use Rattle.vs_ordered.proofs.Rounds.{kept_at_first, kept_on, next_round, one_more, one_sized, stop_err, whole_at_last, whole_read, with_memory}
use Rattle.vs_ordered.proofs.reading.read_vectors.Goals as goal

pub reads-init : goal.reads-init
reads-init g c =
    let none = c.new-vectors.ensures.items in
    let empty : length c.new-vectors.result.items ≡ 0 = ap length none in
    let drive = c.args.drive.now in
    let contents = (g.D.Desk.told c.args.desk.now).contents in
    let P : List (List Bit4) → Type 0 = λ (vector : List (List Bit4)). sizes vector ≡ sizes (lane_at drive 0).vector in
    record {
      lone = c.requires.lone;
      lane = λ h. absurd (omega (arith, h, empty));
      attached = c.requires.attached;
      few = omega (arith, empty);
      long = refl;
      sized = subst (All P) (sym none) (All-nil P);
      same = refl;
      others = λ t. kept_at_first contents;
      next = λ t run h. subst (λ (n : ℕ). HaveNext run n drive contents) (sym empty) h;
      taken = λ t run h. none ∙ ap (λ (n : ℕ). take n (reading_of run 0).vectors) (sym empty);
    }

pub reads-preserved : goal.reads-preserved
reads-preserved g c =
    let inv = c.reads.invariant in
    let e = c.in_ok-more.ensures in
    let vs : List (List (List Bit4)) = c.reads.vectors.items in
    let drive = c.read_next.new.drive in
    let v = (lane_at drive 0).vector in
    let contents = (g.D.Desk.told c.read_next.new.desk).contents in
    let pushed : c.push_vector.new.vectors.items ≡ vs ++ v ∷ [] = c.in_ok-push_vector.ensures ∙ ap (λ (s : Known). vs ++ s.vector ∷ []) c.stimulus.ensures in
    let count : length c.push_vector.new.vectors.items ≡ length vs + 1 = ap length pushed ∙ length_push vs v in
    let live : (lane_at drive 0).live ≡ true = sym e.live ∙ c.if-not-more.false in
    record {
      lone = e.lone;
      lane = λ h. e.lane;
      attached = e.attached;
      few = omega (arith, count);
      long = e.sizes ∙ inv.long;
      sized = one_sized (sizes (lane_at c.args.drive.now 0).vector) vs c.push_vector.new.vectors.items v inv.sized (e.sizes ∙ inv.long) pushed;
      same = e.same ∙ inv.same;
      others = λ t. kept_on (inv.others t) (c.read_next.ensures.others t);
      next = λ t run h. subst (λ (n : ℕ). HaveNext run n drive contents) (sym count) (next_round run (length vs) drive contents (e.read t run (length vs) (inv.next t run h)));
      taken = λ t run h.
          one_more run (length vs) drive contents vs c.push_vector.new.vectors.items (e.read t run (length vs) (inv.next t run h)) e.lone live refl (inv.taken t run h) pushed
          ∙ ap (λ (n : ℕ). take n (reading_of run 0).vectors) (sym count);
    }

pub returns-in_err-more-clause-stops : goal.returns-in_err-more-clause-stops
returns-in_err-more-clause-stops g c =
    let p = err_from_is_err_and c.from_residual.result c.from_residual.ensures.1 in
    let k = length c.reads.vectors.items in
    λ t run h.
    stop_err (λ (stop : Stop). (n : ℕ) × ReadStops run 1 n (g.D.Desk.told c.read_next.new.desk).contents stop) c.from_residual.result c.in_err-more.field-0.0 p.0 p.1 p.2
    (k, c.in_err-more.ensures.stops t run k (c.reads.invariant.next t run h))

pub returns-in_err-more-clause-cause : goal.returns-in_err-more-clause-cause
returns-in_err-more-clause-cause g c =
    let p = err_from_is_err_and c.from_residual.result c.from_residual.ensures.1 in
    let new = (g.D.Desk.told c.read_next.new.desk).register in
    stop_err (HasCause (g.D.Desk.told c.args.desk.now).register new) c.from_residual.result c.in_err-more.field-0.0 p.0 p.1 p.2
    (subst (λ (r : Register). HasCause r new c.in_err-more.field-0.0) c.reads.invariant.same c.in_err-more.ensures.cause)

pub returns-in_err-more-clause-others : goal.returns-in_err-more-clause-others
returns-in_err-more-clause-others g c = λ t. kept_on (c.reads.invariant.others t) (c.read_next.ensures.others t)

pub returns-then-not-more-clause-vectors : goal.returns-then-not-more-clause-vectors
returns-then-not-more-clause-vectors g c =
    let inv = c.reads.invariant in
    let e = c.in_ok-more.ensures in
    let vs : List (List (List Bit4)) = c.reads.vectors.items in
    let drive = c.read_next.new.drive in
    let dead : (lane_at drive 0).live ≡ false = sym e.live ∙ c.if-not-more.true in
    λ t run h.
    whole_read run (length vs) drive (g.D.Desk.told c.read_next.new.desk).contents vs (e.read t run (length vs) (inv.next t run h)) e.lone dead e.lane refl (inv.taken t run h)

pub returns-then-not-more-clause-sized : goal.returns-then-not-more-clause-sized
returns-then-not-more-clause-sized g c = c.reads.invariant.sized

pub returns-then-not-more-clause-same : goal.returns-then-not-more-clause-same
returns-then-not-more-clause-same g c = c.in_ok-more.ensures.same ∙ c.reads.invariant.same

pub returns-then-not-more-clause-others : goal.returns-then-not-more-clause-others
returns-then-not-more-clause-others g c = λ t. kept_on (c.reads.invariant.others t) (c.read_next.ensures.others t)

pub returns-in_err-push_vector-clause-memory : goal.returns-in_err-push_vector-clause-memory
returns-in_err-push_vector-clause-memory g c =
    let p = err_from_is_err_and c.from_residual-in_err-push_vector.result c.from_residual-in_err-push_vector.ensures.1 in
    with_memory ((g.D.Desk.told c.read_next.new.desk).register ≡ (g.D.Desk.told c.args.desk.now).register) c.from_residual-in_err-push_vector.result p.0 p.1 (c.in_ok-more.ensures.same ∙ c.reads.invariant.same)

pub returns-in_err-push_vector-clause-others : goal.returns-in_err-push_vector-clause-others
returns-in_err-push_vector-clause-others g c = λ t. kept_on (c.reads.invariant.others t) (c.read_next.ensures.others t)

pub returns-clause-vectors : goal.returns-clause-vectors
returns-clause-vectors g c =
    let inv = c.reads.invariant in
    let vs : List (List (List Bit4)) = c.reads.vectors.items in
    let many : 16777217 ≤ length vs = omega arith in
    let some : 0 < length vs = omega arith in
    λ t run h. whole_at_last run c.reads.drive (g.D.Desk.told c.reads.desk).contents vs (inv.next t run h) inv.lone (inv.lane some) many (inv.taken t run h)

pub returns-clause-sized : goal.returns-clause-sized
returns-clause-sized g c = c.reads.invariant.sized

pub returns-clause-others : goal.returns-clause-others
returns-clause-others g c = c.reads.invariant.others
