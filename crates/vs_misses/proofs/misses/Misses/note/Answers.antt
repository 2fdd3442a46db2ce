use Rattle.std.proofs.Common.{◌≡◌, ℕ, ◌<◌, Bool, ◌&&◌, List, Option, length, is_some, All, sym, ap, ◌∙◌, subst, arith}
use Rattle.std.specs.List.{list_any}
use Rattle.std.specs.Vec.{with_items}
use Rattle.std.proofs.lemmas.List.{with_items_is}
use Rattle.vs_net.specs.Network.{State}
use Rattle.vs_plane.specs.declared.pairs.Pair.{Pair}
use Rattle.vs_stim.specs.Known.{Known}
use Rattle.vs_feed.specs.Lanes.{lane_at}
use Rattle.vs_engine.specs.Lanes.{state}
use Rattle.vs_misses.specs.declared.row.Row.{Row}
use Rattle.vs_misses.specs.Missed.{Found, first_miss, on_line, line_of, found_now, found_behind}
use Rattle.vs_misses.specs.Watch.{Watch, found_at}
use Rattle.vs_misses.specs.Rows.{spans_of, row_unmet, IsRow, IsComparable}
use Rattle.vs_misses.proofs.Notes.{AreCompared, IsAsked, asked, asked_comparable, has_columns, noted, noted_none, missed_now}
use Rattle.vs_misses.proofs.misses.Misses.note.Goals as goal
use Rattle.vs_misses.proofs.misses.Misses.note.Goals.{After-deref_mut-2, After-and-lanes, After-look}

-- what is asked of the rows
is_asked : (g : _) (c : After-deref_mut-2 g) → IsAsked c.args.engine.now.program.bits c.self.inside.rows.items c.self.inside.found.items c.args.drive.now
is_asked g c = asked c.args.engine.now.program.bits c.self.inside.rows.items c.self.inside.found.items c.args.self.now c.args.drive.now c.self.view_is c.requires.inside c.requires.columns c.requires.fit

pub unmet_of_rows-unmet-requires-clause-comparable : goal.unmet_of_rows-unmet-requires-clause-comparable
unmet_of_rows-unmet-requires-clause-comparable g c =
    subst (λ (rs : List Row). All (IsComparable c.args.engine.now.program.bits c.args.drive.now) rs) (sym c.deref.ensures.value)
    (asked_comparable c.args.engine.now.program.bits c.self.inside.rows.items c.self.inside.found.items c.args.drive.now (is_asked g c))

-- the lanes that are compared
compared : (g : _) (c : After-and-lanes g) → IsAsked c.args.engine.now.program.bits c.self.inside.rows.items c.self.inside.found.items c.args.drive.now
    → AreCompared c.self.inside.rows.items c.args.drive.now (state g.W.Word.lane c.args.engine.now) g.W.Word.LANES
    (g.W.Word.lane c.unmet_of_rows-unmet.result) (g.W.Word.lane c.self.inside.missed) (g.W.Word.lane c.and-lanes.result) c.self.inside.found.items
compared g c a =
    let lane = g.W.Word.lane in
    record {
      fit = a.fit;
      places = a.places;
      width = c.requires.lanes;
      unmet_is = λ i h.
          c.unmet_of_rows-unmet.ensures.lanes i h ∙ ap (λ (rs : List Row). list_any (row_unmet (lane_at c.args.drive.now i) (state lane c.args.engine.now i) i) rs) c.deref.ensures.value;
      missed_is = λ i h. c.self.invariant.missed i (omega (arith, c.requires.lanes)) (omega (arith, a.long));
      looked_is = λ i h. c.and-lanes.ensures i h ∙ ap (λ (b : Bool). lane c.unmet_of_rows-unmet.result i && b) (c.not.ensures i h);
    }

-- what was found, where lanes were looked at
found_by : (g : _) (c : After-look g) → AreCompared c.self.inside.rows.items c.args.drive.now (state g.W.Word.lane c.args.engine.now) g.W.Word.LANES
    (g.W.Word.lane c.unmet_of_rows-unmet.result) (g.W.Word.lane c.self.inside.missed) (g.W.Word.lane c.and-lanes.result) c.self.inside.found.items
    → (i : ℕ) → i < length c.args.drive.now
    → found_at c.look.new.found i ≡ found_behind (found_at c.self.inside.found.items i) (found_now (spans_of c.self.inside.rows.items) (lane_at c.args.drive.now i) (state g.W.Word.lane c.args.engine.now i))
found_by g c r =
    let lane = g.W.Word.lane in
    let ks : List Known = c.args.drive.now in
    let holds : ℕ → State = state lane c.args.engine.now in
    noted c.self.inside.rows.items ks holds g.W.Word.LANES (lane c.unmet_of_rows-unmet.result) (lane c.self.inside.missed) (lane c.and-lanes.result) c.self.inside.found.items c.look.new.found r
    (λ i h look.
    c.look.ensures.looked i h look
    ∙ ap (λ (rs : List Row). on_line (line_of (lane_at ks i)) (first_miss (spans_of rs) (holds i) 0 (lane_at ks i).columns.expected (lane_at ks i).wanted)) c.deref-then-any.ensures.value)
    (λ i h never. c.look.ensures.others i h never ∙ ap (λ (xs : List (Option Found)). found_at xs i) c.deref_mut-then-any.ensures.value)

-- a lane's findings stay as many
found_long : (g : _) (c : After-look g) → length c.look.new.found ≡ c.self.inside.found.len
found_long g c = omega (arith, ap (λ (xs : List (Option Found)). length xs) c.deref_mut-then-any.ensures.value, c.self.inside.found.ok.0)

pub invariant_of-self : goal.invariant_of-self
invariant_of-self g c =
    let lane = g.W.Word.lane in
    let d = goal.at.invariant_of-self g c in
    let a = is_asked g d.After-deref_mut-2 in
    let r = compared g d.After-and-lanes a in
    let many = found_long g d.After-look in
    let items : (with_items c.self.inside.found c.look.new.found).items ≡ c.look.new.found = with_items_is c.self.inside.found c.look.new.found many in
    let long : length (with_items c.self.inside.found c.look.new.found).items ≡ length c.self.inside.found.items =
    ap (λ (xs : List (Option Found)). length xs) items ∙ (let e : length c.look.new.found ≡ length c.self.inside.found.items = omega (arith, many, c.self.inside.found.ok.0) in e) in
    record {
      rows = subst (λ (n : ℕ). All (IsRow n) c.self.inside.rows.items) (sym long) c.self.invariant.rows;
      missed = λ i h within.
          missed_now c.self.inside.rows.items c.args.drive.now (state lane c.args.engine.now) g.W.Word.LANES (lane c.unmet_of_rows-unmet.result) (lane c.self.inside.missed) (lane c.and-lanes.result)
          (lane c.or-self-inside.result) c.self.inside.found.items c.look.new.found r (λ n l. c.or-self-inside.ensures n l) (found_by g d.After-look r) i (omega (arith, long, a.long))
          ∙ sym (ap (λ (xs : List (Option Found)). is_some (found_at xs i)) items);
      few = c.self.invariant.few;
      lanes = omega (arith, long, c.self.invariant.lanes);
      wanted = ap (λ (ps : List (Pair _)). length ps) (with_items_is c.self.inside.wanted c.unmet_of_rows-unmet.new.wanted (omega (arith, c.self.inside.wanted.ok.0, ap (λ (ps : List (Pair _)). length ps) c.deref_mut.ensures.value))) ∙ (let e : length c.unmet_of_rows-unmet.new.wanted ≡ 64 = omega (arith, c.self.invariant.wanted, ap (λ (ps : List (Pair _)). length ps) c.deref_mut.ensures.value) in e);
      free = ap (λ (ps : List (Pair _)). length ps) (with_items_is c.self.inside.free c.unmet_of_rows-unmet.new.free (omega (arith, c.self.inside.free.ok.0, ap (λ (ps : List (Pair _)). length ps) c.deref_mut-2.ensures.value))) ∙ (let e : length c.unmet_of_rows-unmet.new.free ≡ 64 = omega (arith, c.self.invariant.free, ap (λ (ps : List (Pair _)). length ps) c.deref_mut-2.ensures.value) in e);
    }

pub returns-then-any-clause-columns : goal.returns-then-any-clause-columns
returns-then-any-clause-columns g c =
    let d = goal.at.returns-then-any-clause-columns g c in
    let a = is_asked g d.After-deref_mut-2 in
    let many = found_long g d.After-look in
    has_columns c.self.inside.rows.items (with_items c.self.inside.found c.look.new.found).items c.args.drive.now a.places
    (ap (λ (xs : List (Option Found)). length xs) (with_items_is c.self.inside.found c.look.new.found many)
    ∙ (let e : length c.look.new.found ≡ length c.args.drive.now = omega (arith, many, c.self.inside.found.ok.0, a.long) in e))

pub returns-then-any-clause-found : goal.returns-then-any-clause-found
returns-then-any-clause-found g c = λ i h.
    let d = goal.at.returns-then-any-clause-found g c in
    let r = compared g d.After-and-lanes (is_asked g d.After-deref_mut-2) in
    ap (λ (xs : List (Option Found)). found_at xs i) (with_items_is c.self.inside.found c.look.new.found (found_long g d.After-look))
    ∙ found_by g d.After-look r i h
    ∙ ap (λ (w : Watch). found_behind (found_at w.found i) (found_now w.outputs (lane_at c.args.drive.now i) (state g.W.Word.lane c.args.engine.now i))) c.self.view_is

pub returns-else-any-clause-found : goal.returns-else-any-clause-found
returns-else-any-clause-found g c = λ i h.
    let lane = g.W.Word.lane in
    let d = goal.at.returns-else-any-clause-found g c in
    let r = compared g d.After-and-lanes (is_asked g d.After-deref_mut-2) in
    noted_none c.self.inside.rows.items c.args.drive.now (state lane c.args.engine.now) g.W.Word.LANES (lane c.unmet_of_rows-unmet.result) (lane c.self.inside.missed) (lane c.and-lanes.result)
    c.self.inside.found.items r (c.any.ensures.none c.if-any.false) i h
    ∙ ap (λ (w : Watch). found_behind (found_at w.found i) (found_now w.outputs (lane_at c.args.drive.now i) (state lane c.args.engine.now i))) c.self.view_is
