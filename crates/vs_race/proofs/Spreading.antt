-- What processes stir, with one process or one place of the order more.
use Rattle.std.proofs.Common.{◌≡◌, ℕ, zero, suc, ◌+◌, ◌<◌, Bool, true, false, List, [], ◌∷◌, ◌++◌, ◌||◌, ◌&&◌, ◌==◌, if◌then◌else◌, refl, sym, ap, ◌∙◌, subst, eqb-true, get_or, take, length, nat_lt, Some, Option, arith}
use Rattle.std.specs.Prelude.{slice_get}
use Rattle.std.specs.List.{list_any}
use Rattle.std.proofs.lemmas.Bool.{lt-ltb, le-ltb}
use Rattle.std.proofs.lemmas.List.{take_more}
use Rattle.std.proofs.lemmas.List.Folds.{list_any-append}
use Rattle.vs_design.specs.Designs.{Process, Design, bit_count}
use Rattle.vs_design.specs.Laws.{LevelOrderIs}
use Rattle.vs_design.specs.Footprints.{contains, writes_of, reads_of, waits_of}
use Rattle.vs_design.specs.Levels.{needs, at_number, is_level_order}
use Rattle.vs_design.specs.Races.{at_once_bits, stirred_at, stir, stirred}
use Rattle.vs_reads.specs.Footprint.{Footprint, reads_at, writes_at, waits_at}
use Rattle.vs_reads.specs.Laws.{HasBitsOf}
use Rattle.vs_race.specs.declared.stirrer.Stirrer.{Stirrer}
use Rattle.vs_race.specs.Stirrers.{stirrer_at, AreTold, IsWithin, seeds_bit, stirs_bit, IsSeeded, IsTableOf, passed_on, with_noted}
use Rattle.vs_reads.proofs.Tests.{by_test, contains-append, any_same, below_same, below_other, member_at}
use Rattle.vs_reads.proofs.Numbered.{number_at, number_below}
use Rattle.vs_race.proofs.Telling.{tells_same, or_nothing}
use Rattle.vs_race.proofs.AtOnce.{at_once_among}

-- ---- one process more

and_nothing : (a : Bool) → (a && false) ≡ false
and_nothing true = refl
and_nothing false = refl

seeds_law : (a c m : Bool) → m ≡ c → a ≡ false → (a || (c && true)) ≡ m
seeds_law true c m e h = cc
seeds_law false true m e h = sym e
seeds_law false false m e h = sym e

not_below : (p : ℕ) → nat_lt p p ≡ false
not_below p = le-ltb p p (omega arith)

pub seeds_more : (d : Design) (p : ℕ) (x : Process) (bits : List ℕ) → slice_get d.processes p ≡ Some x → bits ≡ at_once_bits x → (b q : ℕ) → with_noted (seeds_bit d p) bits (λ q. q == p) b q ≡ seeds_bit d (p + 1) b q
seeds_more d p x bits i e b q = by_test (q == p) here there
  where
    at : ℕ → Bool
    at n = at_number n d.processes (λ y. contains (at_once_bits y) b)

    here : (q == p) ≡ true → with_noted (seeds_bit d p) bits (λ q. q == p) b q ≡ seeds_bit d (p + 1) b q
    here t =
        let same : q ≡ p = eqb-true q p t in
        let it : at q ≡ contains bits b = ap {B = Bool} at same ∙ number_at p d.processes x (λ y. contains (at_once_bits y) b) i ∙ ap {B = Bool} (λ zs. contains zs b) (sym e) in
        ap {B = Bool} (λ u. (nat_lt q p && at q) || (contains bits b && u)) t
        ∙ seeds_law (nat_lt q p && at q) (contains bits b) (at q) it (ap {B = Bool} (λ n. nat_lt n p && at q) same ∙ ap {B = Bool} (λ u. u && at q) (not_below p))
        ∙ ap {B = Bool} (λ u. u && at q) (sym (ap {B = Bool} (λ n. nat_lt n (p + 1)) same ∙ below_same p))

    there : (q == p) ≡ false → with_noted (seeds_bit d p) bits (λ q. q == p) b q ≡ seeds_bit d (p + 1) b q
    there t =
        ap {B = Bool} (λ u. (nat_lt q p && at q) || (contains bits b && u)) t
        ∙ ap {B = Bool} (λ u. (nat_lt q p && at q) || u) (and_nothing (contains bits b))
        ∙ or_nothing (nat_lt q p && at q)
        ∙ ap {B = Bool} (λ u. u && at q) (sym (below_other q p t))

-- all processes
pub seeds_all : (d : Design) (b q : ℕ) → seeds_bit d (length d.processes) b q ≡ stirs_bit d [] b q
seeds_all d b q = by_test (it q)
    (λ e. ap {B = Bool} (λ t. t && it q) (lt-ltb q (length d.processes) (number_below d.processes q (λ x. contains (at_once_bits x) b) e)))
    (λ e. ap {B = Bool} (λ t. nat_lt q (length d.processes) && t) e ∙ and_nothing (nat_lt q (length d.processes)) ∙ sym e)
  where
    it : ℕ → Bool
    it n = at_number n d.processes (λ x. contains (at_once_bits x) b)

-- ---- one place more

stir_end : (d : Design) (xs bits : List ℕ) (p : ℕ) → stir d (xs ++ p ∷ []) bits ≡ stir d xs bits ++ stirred_at (stir d xs bits) (slice_get d.processes p)
stir_end d [] bits p = refl
stir_end d (x ∷ xs) bits p = stir_end d xs (bits ++ stirred_at bits (slice_get d.processes x)) p

chosen : (t : Bool) (xs : List ℕ) (b : ℕ) → contains (if t then xs else []) b ≡ (contains xs b && t)
chosen true xs b = sym (go (contains xs b))
  where
    go : (a : Bool) → (a && true) ≡ a
    go true = refl
    go false = refl
chosen false xs b = sym (and_nothing (contains xs b))

stirred_more : (d : Design) (order : List ℕ) (k p : ℕ) (x : Process) → k < length order → get_or order k 0 ≡ p → slice_get d.processes p ≡ Some x → (y : Process) (b : ℕ)
    → contains (stirred d (take (k + 1) order) y) b
    ≡ (contains (stirred d (take k order) y) b
    || (contains (writes_of x) b && (list_any (contains (stirred d (take k order) y)) (reads_of x) || list_any (contains (stirred d (take k order) y)) (waits_of x))))
stirred_more d order k p x l e i y b =
    let m : List ℕ = stirred d (take k order) y in
    ap {B = Bool} (λ zs. contains (stir d zs (at_once_bits y)) b) (take_more order k 0 l ∙ ap {B = List ℕ} (λ n. take k order ++ n ∷ []) e)
    ∙ ap {B = Bool} (λ zs. contains zs b) (stir_end d (take k order) (at_once_bits y) p ∙ ap {B = List ℕ} (λ (o : Option Process). m ++ stirred_at m o) i)
    ∙ contains-append m (if list_any (contains m) (needs x) then writes_of x else []) b
    ∙ ap {B = Bool} (λ t. contains m b || t) (chosen (list_any (contains m) (needs x)) (writes_of x) b)
    ∙ ap {B = Bool} (λ t. contains m b || (contains (writes_of x) b && t)) (list_any-append (contains m) (reads_of x) (waits_of x))

none_any : (bs : List ℕ) → list_any (λ c. false) bs ≡ false
none_any [] = refl
none_any (b ∷ bs) = none_any bs

-- of the process of each number
number_more : (f g : Process → Bool) (h : ℕ → Process → Bool) (w : Bool) (rs vs : List ℕ) → ((y : Process) → f y ≡ (g y || (w && (list_any (λ c. h c y) rs || list_any (λ c. h c y) vs)))) → (q : ℕ) (ps : List Process)
    → at_number q ps f ≡ (at_number q ps g || (w && (list_any (λ c. at_number q ps (h c)) rs || list_any (λ c. at_number q ps (h c)) vs)))
number_more f g h w rs vs e q [] = sym (ap {B = Bool} (λ t. w && (t || list_any (λ c. false) vs)) (none_any rs) ∙ ap {B = Bool} (λ t. w && t) (none_any vs) ∙ and_nothing w)
number_more f g h w rs vs e zero (y ∷ ps) = e y
number_more f g h w rs vs e (suc q) (y ∷ ps) = number_more f g h w rs vs e q ps

pub stirs_more : (d : Design) (prints : List Footprint) (order : List ℕ) (k p : ℕ) (x : Process) → k < length order → get_or order k 0 ≡ p → slice_get d.processes p ≡ Some x
    → ((b : ℕ) → contains (writes_at prints p) b ≡ contains (writes_of x) b) → ((b : ℕ) → contains (reads_at prints p) b ≡ contains (reads_of x) b) → ((b : ℕ) → contains (waits_at prints p) b ≡ contains (waits_of x) b)
    → (b q : ℕ) → passed_on (stirs_bit d (take k order)) prints p b q ≡ stirs_bit d (take (k + 1) order) b q
stirs_more d prints order k p x l e i ws rs vs b q =
    ap {B = Bool} (λ t. stirs b || (t && (list_any stirs (reads_at prints p) || list_any stirs (waits_at prints p)))) (ws b)
    ∙ ap {B = Bool} (λ t. stirs b || (contains (writes_of x) b && (t || list_any stirs (waits_at prints p)))) (any_same stirs (reads_at prints p) (reads_of x) rs)
    ∙ ap {B = Bool} (λ t. stirs b || (contains (writes_of x) b && (list_any stirs (reads_of x) || t))) (any_same stirs (waits_at prints p) (waits_of x) vs)
    ∙ sym (number_more (λ y. contains (stirred d (take (k + 1) order) y) b) (λ y. contains (stirred d (take k order) y) b) (λ c y. contains (stirred d (take k order) y) c) (contains (writes_of x) b) (reads_of x) (waits_of x) (λ y. stirred_more d order k p x l e i y b) q d.processes)
  where
    stirs : ℕ → Bool
    stirs c = stirs_bit d (take k order) c q

-- ---- the table

pub seeded_more : (d : Design) (p : ℕ) (x : Process) (bits : List ℕ) (old new : List Stirrer) → slice_get d.processes p ≡ Some x → bits ≡ at_once_bits x → IsSeeded d p old → length new ≡ length old
    → AreTold new (with_noted (seeds_bit d p) bits (λ q. q == p)) → IsSeeded d (p + 1) new
seeded_more d p x bits old new i e s c t = record {
  count = c ∙ s.count;
  told = λ b l. tells_same (stirrer_at new b) (with_noted (seeds_bit d p) bits (λ q. q == p) b) (seeds_bit d (p + 1) b) (seeds_more d p x bits i e b) (t b l);
}

pub table_begun : (d : Design) (n : ℕ) (table : List Stirrer) → n ≡ length d.processes → IsSeeded d n table → IsTableOf d [] table
table_begun d n table e s = record {
  count = s.count;
  told = λ b l. tells_same (stirrer_at table b) (seeds_bit d n b) (stirs_bit d [] b) (λ q. ap {B = Bool} (λ m. seeds_bit d m b q) e ∙ seeds_all d b q) (s.told b l);
}

-- the bits of one process, each within the table
pub record HasPrints (d : Design) (prints : List Footprint) (p : ℕ) (x : Process) : Type 0 where
  pub writes : HasBitsOf (bit_count d) (writes_at prints p) (writes_of x)
  pub reads : HasBitsOf (bit_count d) (reads_at prints p) (reads_of x)
  pub waits : HasBitsOf (bit_count d) (waits_at prints p) (waits_of x)

pub table_more : (d : Design) (prints : List Footprint) (order : List ℕ) (k p : ℕ) (x : Process) (old new : List Stirrer) → k < length order → get_or order k 0 ≡ p → slice_get d.processes p ≡ Some x → HasPrints d prints p x
    → IsTableOf d (take k order) old → length new ≡ length old → AreTold new (passed_on (stirs_bit d (take k order)) prints p) → IsTableOf d (take (k + 1) order) new
table_more d prints order k p x old new l e i h t c n = record {
  count = c ∙ t.count;
  told = λ b m. tells_same (stirrer_at new b) (passed_on (stirs_bit d (take k order)) prints p b) (stirs_bit d (take (k + 1) order) b) (stirs_more d prints order k p x l e i h.writes.same h.reads.same h.waits.same b) (n b m);
}

pub within_table : (d : Design) (table : List Stirrer) (order bits all : List ℕ) → IsTableOf d order table → HasBitsOf (bit_count d) bits all → IsWithin (length table) bits
within_table d table order bits all t h b c = subst (λ m. b < m) (sym t.count) (h.below b c)

pub seeds_within : (d : Design) (n : ℕ) (table : List Stirrer) (x : Process) (bits own : List ℕ) → IsSeeded d n table → bits ≡ at_once_bits x → HasBitsOf (bit_count d) own (writes_of x) → IsWithin (length table) bits
seeds_within d n table x bits own s e h b c = subst (λ m. b < m) (sym s.count) (h.below b (h.same b ∙ at_once_among x b (subst (λ zs. contains zs b ≡ true) e c)))

-- each place of a level order is a process
pub ordered_there : LevelOrderIs → (d : Design) (order : List ℕ) → is_level_order d order ≡ true → (k : ℕ) → k < length order → (x : Process) × (slice_get d.processes (get_or order k 0) ≡ Some x)
ordered_there law d order level k l = let m = (((law d order level).members (get_or order k 0)).0 (member_at order k l)) in (m.0, m.1)
