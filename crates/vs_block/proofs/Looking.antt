-- What is found of blocks that may keep a bit as they stand.
use Rattle.std.proofs.Common.{◌≡◌, ◌≢◌, ℕ, suc, ◌+◌, ◌<◌, Bool, true, false, ◌&&◌, ◌==◌, eq-eqb, eqb-true, List, [], ◌∷◌, length, map, set, get_or-set_same, get_or-set_other, if◌then◌else◌, nat_lt, Option, Some, None, refl, sym, ap, ◌∙◌, subst, arith}
use Rattle.std.specs.Prelude.{slice_get, slice_index_or, is_some, not}
use Rattle.std.proofs.Math.ListN.{length-set}
use Rattle.vs_design.specs.Designs as D
use Rattle.vs_design.specs.Designs.{Always, Design, is_combinational}
use Rattle.vs_design.specs.Latches.{latch_bits}
use Rattle.vs_design.specs.Refusals.{least}
use Rattle.vs_design.specs.Selects.{completed, is_lenient, is_lenient_block, meant}
use Rattle.vs_design.specs.Statements.{Statement}
use Rattle.vs_flat.specs.declared.processes.Event.{Event}
use Rattle.vs_flat.specs.declared.processes.Port.{Port}
use Rattle.vs_flat.specs.declared.processes.Process.{Process}
use Rattle.vs_flat.specs.declared.processes.Kind.{Kind}
use Rattle.vs_flat.specs.declared.processes.Kind.TheVariants as K
use Rattle.vs_flat.specs.Arena.{Arena}
use Rattle.vs_flat.specs.DesignOf.{arena_signals, design_of, event_of}
use Rattle.vs_flat.specs.Trees.{signal_at}
use Rattle.vs_flat.specs.Laws.{EachProcess}
use Rattle.vs_reads.proofs.ByKind.{kind_in, kind_is, process_same}
use Rattle.vs_sets.specs.Completing.{AreDefaults, default_in, done}
use Rattle.vs_shape.specs.Bodies.{body_of}
use Rattle.vs_full.specs.Found.{AreNoted, AreSound, Found, IsAsBefore, IsGrown, IsMarked}
use Rattle.vs_block.specs.Blocks.{IsBlock, IsLooked}

pub differ : (c : Bool) → c ≡ true → c ≡ false → ⊥
differ true h k = cc
differ false h k = cc

-- ---- the two searches

pub noted_defaults : (a : Arena) (c : Found) (complete : Bool) (others : List (Option ℕ)) (s : ℕ) → others ≡ c.others → AreNoted a c s → AreDefaults a complete others s
noted_defaults a c complete others s e n h t u kind of arms other at = ap (λ (os : List (Option ℕ)). default_in os t) e ∙ (n t u kind of arms other at).1

lt_true : (a b : ℕ) → a < b → nat_lt a b ≡ true
lt_true a b h = grind arith

least_some : (bs : List ℕ) → is_some (least bs) ≡ nat_lt 0 (length bs)
least_some [] = refl
least_some (b ∷ bs) = sym (lt_true 0 (suc (length bs)) (omega arith))

-- as it stands
pub keeps_some : (a : Arena) (complete : Bool) (s : ℕ) (o : Option ℕ) → complete ≡ false → o ≡ least (latch_bits (done complete a s)) → is_some o ≡ is_lenient (body_of a s)
keeps_some a complete s o e is =
    let known : Option ℕ → Bool = λ o. is_some o in
    ap known (is ∙ ap (λ (c : Bool). least (latch_bits (done c a s))) e) ∙ least_some (latch_bits (body_of a s))

none_least : (bs : List ℕ) → nat_lt 0 (length bs) ≡ false → None ≡ least bs
none_least [] h = refl
none_least (b ∷ bs) h = absurd (differ (nat_lt 0 (suc (length bs))) (lt_true 0 (suc (length bs)) (omega arith)) h)

meant_as : (d : Design) (s : Statement) (c : Bool) → is_lenient s ≡ c → meant d s ≡ (if c then completed d s else s)
meant_as d s c e = ap (λ (t : Bool). if t then completed d s else s) e

pub none_kept : (d : Design) (s : Statement) (r m : Bool) → r ≡ m → m ≡ is_lenient s → r ≡ false → None ≡ least (latch_bits (meant d s))
none_kept d s r m is marked h =
    let told : is_lenient s ≡ false = sym marked ∙ sym is ∙ h in
    none_least (latch_bits s) told ∙ ap (λ (t : Statement). least (latch_bits t)) (sym (meant_as d s false told))

pub completed_kept : (a : Arena) (s : ℕ) (complete r m : Bool) (o : Option ℕ) → complete ≡ true → r ≡ m → m ≡ is_lenient (body_of a s) → r ≡ true → o ≡ least (latch_bits (done complete a s)) → o ≡ least (latch_bits (meant (design_of a) (body_of a s)))
completed_kept a s complete r m o whole is marked h found =
    let told : is_lenient (body_of a s) ≡ true = sym marked ∙ sym is ∙ h in
    found ∙ ap (λ (c : Bool). least (latch_bits (done c a s))) whole ∙ ap (λ (t : Statement). least (latch_bits t)) (sym (meant_as (design_of a) (body_of a s) true told))

-- ---- marks

abbrev marked_with : Found → ℕ → Bool → Found
marked_with c p lenient = record c { lenient = set c.lenient p lenient }

mark_here : (c : Found) (p : ℕ) (lenient : Bool) → p < length c.lenient → slice_index_or (set c.lenient p lenient) p false ≡ lenient
mark_here c p lenient h = get_or-set_same c.lenient p lenient false h

still_sound : (a : Arena) (c : Found) (p : ℕ) (lenient : Bool) → AreSound a c → AreSound a (record c { lenient = set c.lenient p lenient })
still_sound a c p lenient s = record { roots = s.roots; known = s.known; count = s.count; both = s.both; processes = length-set c.lenient p lenient ∙ s.processes }

other_marks : (a : Arena) (b c : Found) (p q : ℕ) (lenient : Bool) → IsAsBefore a b c → q ≢ p → IsMarked a b q → IsMarked a (record c { lenient = set c.lenient p lenient }) q
other_marks a b c p q lenient kept other m = record {
  mark = λ x at. same ∙ m.mark x at;
  cases = λ x star events statement at kind h t u. kept.stay t (m.cases x star events statement at kind (sym same ∙ h) t u);
}
  where
    same : slice_index_or (set c.lenient p lenient) q false ≡ slice_index_or b.lenient q false
    same = get_or-set_other c.lenient p q lenient false other ∙ ap (λ (ls : List Bool). slice_index_or ls q false) kept.lenient

pub same_kept : (a : Arena) (c : Found) → IsAsBefore a c c
same_kept a c = record { lenient = refl; longer = omega arith; stay = λ t n. n }

-- a process that isn't asked as a completed block
pub unmarked : (a : Arena) (c new : Found) (p : ℕ) → AreSound a c → p < length a.processes → new ≡ (record c { lenient = set c.lenient p false }) → ((x : D.Process) → slice_get (design_of a).processes p ≡ Some x → is_lenient_block x ≡ false) → IsLooked a p c new
unmarked a c new p sound there is told = subst (IsLooked a p c) (sym is) (record {
  sound = still_sound a c p false sound;
  marked = record {
    mark = λ x at. here ∙ sym (told x at);
    cases = λ x star events statement at kind h. absurd (differ (slice_index_or (set c.lenient p false) p false) h here);
  };
  others = λ q other m. other_marks a c c p q false (same_kept a c) other m;
})
  where
    inside : p < length c.lenient
    inside = omega (arith, there, sound.processes)

    here : slice_index_or (set c.lenient p false) p false ≡ false
    here = mark_here c p false inside

same_block : (a : Arena) (x y : Process) (star sun : Bool) (events es : List Event) (s t : ℕ) → x ≡ y → x.kind ≡ K.Block star events s → y.kind ≡ K.Block sun es t → s ≡ t
same_block a x y star sun events es s t e h k = block_is (K.Block star events s) (K.Block sun es t) (sym h ∙ ap (λ (z : Process). z.kind) e ∙ k) s t refl refl
  where
    block_is : (m n : Kind) → m ≡ n → (s t : ℕ) → m ≡ K.Block star events s → n ≡ K.Block sun es t → s ≡ t
    block_is m n e s t h k = inner s t (sym h ∙ e ∙ k)
      where
        inner : (s t : ℕ) → K.Block star events s ≡ K.Block sun es t → s ≡ t
        inner s t e = cc

same_process : (x y : Process) (o : Option Process) → o ≡ Some x → o ≡ Some y → x ≡ y
same_process x y o h k = some_is x y (sym h ∙ k)
  where
    some_is : (x y : Process) → Some x ≡ Some y → x ≡ y
    some_is x y e = cc

-- a combinational block
pub looked : (a : Arena) (b c new : Found) (p place : ℕ) (events : List Event) (statement : ℕ) (lenient : Bool) → (block : IsBlock a p place events statement) → AreSound a b → p < length a.processes → lenient ≡ is_lenient (body_of a statement)
    → is_combinational (Always place block.star (map (event_of (signal_at (arena_signals a))) events) (body_of a statement)) ≡ true
    → IsGrown a b c (λ f. lenient ≡ true → AreNoted a f statement) → new ≡ (record c { lenient = set c.lenient p lenient }) → IsLooked a p b new
looked a b c new p place events statement lenient block sound there is level g made = subst (IsLooked a p b) (sym made) (record {
  sound = still_sound a c p lenient g.sound;
  marked = record {
    mark = λ x at. here ∙ is ∙ sym (ap (λ (t : Bool). t && is_lenient (body_of a statement)) level) ∙ ap is_lenient_block (process_same _ x (slice_get (design_of a).processes p) block.is at);
    cases = λ x star es s at kind h. subst (AreNoted a c) (same_block a block.found.0 x block.star star events es statement s (same_process block.found.0 x (slice_get a.processes p) block.found.1 at) block.found.2 kind) (g.noted (sym here ∙ h));
  };
  others = λ q other m. other_marks a b c p q lenient g.kept other m;
})
  where
    inside : p < length c.lenient
    inside = omega (arith, there, g.sound.processes)

    here : slice_index_or (set c.lenient p lenient) p false ≡ lenient
    here = mark_here c p lenient inside

pub clocked_unmarked : (place : ℕ) (star : Bool) (events : List D.Event) (s : Statement) → D.is_clocked (Always place star events s) ≡ true → is_lenient_block (Always place star events s) ≡ false
clocked_unmarked place star events s h = ap (λ (t : Bool). not t && is_lenient s) h

pub assign_unmarked : EachProcess → (a : Arena) (p : ℕ) (r : Process) (target e : ℕ) (port : Port) → slice_get a.processes p ≡ Some r → r.kind ≡ K.Assign target e port → (x : D.Process) → slice_get (design_of a).processes p ≡ Some x → is_lenient_block x ≡ false
assign_unmarked each a p r target e port at kind x is = ap is_lenient_block (sym (process_same (kind_in a r.at (K.Assign target e port)) x (slice_get (design_of a).processes p) (kind_is each a p r (K.Assign target e port) at kind) is))

-- ---- all processes

abbrev pub AreLooked : Arena → Found → ℕ → Type 0
AreLooked a c n = (q : ℕ) → q < n → IsMarked a c q

pub looked_more : (a : Arena) (b c : Found) (p : ℕ) → IsLooked a p b c → AreLooked a b p → AreLooked a c (p + 1)
looked_more a b c p l before q h = go (q == p) refl
  where
    earlier : (j k : ℕ) → (j == k) ≡ false → j < k + 1 → j < k
    earlier j k e h = let apart : j ≢ k = λ q. differ (j == k) (eq-eqb j k q) e in omega (arith, apart, h)

    go : (t : Bool) → (q == p) ≡ t → IsMarked a c q
    go true e = subst (IsMarked a c) (sym (eqb-true q p e)) l.marked
    go false e = l.others q (λ same. differ (q == p) (eq-eqb q p same) e) (before q (earlier q p e h))
