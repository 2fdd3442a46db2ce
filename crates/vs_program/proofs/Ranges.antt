-- The slots of a made program are there, and its stores are within the size of the design.
use Rattle.std.proofs.Common.{◌≡◌, ℕ, zero, suc, ◌+◌, ◌*◌, ◌^◌, ◌<◌, ◌≤◌, Bool, true, false, not, List, [], ◌∷◌, ◌&&◌, ◌||◌, ◌==◌, if◌then◌else◌, nat_lt, nat_le, map, length, Option, Some, None, sym, ap, ◌∙◌, subst, refl, arith, eqb-true, slice_get}
use Rattle.std.specs.Prelude.{sum_by, filter, is_some}
use Rattle.std.specs.List.{list_all}
use Rattle.std.proofs.lemmas.Bool.{and_parts}
use Rattle.std.proofs.lemmas.List.{length-map}
use Rattle.std.proofs.lemmas.List.Sums.{sum_by-append, sum_by-cons}
use Rattle.vs_four.specs.declared.Range.{Range}
use Rattle.vs_four.specs.Selects.{range_length, is_descending}
use Rattle.vs_design.specs.Clocks.{clock_bits}
use Rattle.vs_design.specs.Expressions.{Signal, signal_length, range_or_one, words_length}
use Rattle.vs_design.specs.Designs.{Process, Design, bit_count}
use Rattle.vs_design.specs.Footprints.{contains, is_memory}
use Rattle.vs_design.specs.Sizes.{register_bits, process_weight, size}
use Rattle.vs_design.specs.Elaborated.{have_bits_from, is_declared, is_lawful_range}
use Rattle.vs_design.specs.Levels.{is_level_order}
use Rattle.vs_design.specs.Accepted.{IsAcceptedDesign}
use Rattle.vs_cone.specs.Cones.{but_ports}
use Rattle.vs_cone.specs.Given.{data_bits, fall_bits}
use Rattle.vs_cone.specs.Lists.{FewAreApart}
use Rattle.vs_cone.specs.Counts.{clocked, stores_of, AreWithin, StoresFit, StoresFitIn}
use Rattle.vs_cone.specs.Sources.{SourcesAre, SourcesOfDesign}
use Rattle.vs_code.specs.Calls.{Call, call_cost, length_of}
use Rattle.vs_program.specs.declared.compiled.Span.{Span}
use Rattle.vs_program.specs.Lowered.{Layout, home}
use Rattle.vs_program.specs.Program.{Program, IsInRange, is_below, spans, first_stores, fall_stores, rise_stores}
use Rattle.vs_program.specs.Compiled.{span_of}
use Rattle.vs_program.specs.Layouts.{slots_of_design, widest_of}
use Rattle.vs_program.specs.Layouts.{IsLayoutOf, mask_of}
use Rattle.vs_program.specs.Made.{AreCallsOf, AreResetsOf, IsMadeOf, copy_shadows, fall_processes, rise_processes}
use Rattle.vs_program.proofs.Lists.{by_test, in_first, in_rest}
use Rattle.vs_program.proofs.Passes.{lt_true}
use Rattle.vs_program.proofs.Layouts.{few_registers}
use Rattle.vs_program.proofs.Sleeping.{lowered_stores, sleepers_small}

-- ---- stores

-- the stores that a process may make, by its number
abbrev may_or : Design → Option Process → ℕ
may_or d None = 0
may_or d (Some x) = stores_of d x

abbrev may : Design → ℕ → ℕ
may d q = may_or d (slice_get d.processes q)

calls_cost : (d : Design) (l : Layout) (ps : List ℕ) (calls : List Call) → AreCallsOf d l ps calls → length_of calls ≤ sum_by (may d) ps
calls_cost d l [] calls none = let is : length_of calls ≡ 0 = ap length_of none in omega (arith, is)
calls_cost d l (p ∷ ps) calls made =
    let is : length_of calls ≡ length_of made.0 + length_of made.1 = ap length_of made.2 ∙ sum_by-append call_cost made.0 made.1 in
    let rest = calls_cost d l ps made.1 made.4 in
    let first : length_of made.0 ≤ may d p = subst (λ o. length_of made.0 ≤ may_or d o) (sym made.3.1) (lowered_stores d l (mask_of d p) made.3.0 made.0 made.3.2) in
    let sum = sum_by-cons (may d) p ps in
    omega (arith, is, rest, first, sum)

resets_cost : (d : Design) (clocks : List ℕ) (l : Layout) (ps : List ℕ) (calls : List Call) → AreResetsOf d clocks l ps calls → length_of calls ≤ sum_by (may d) ps
resets_cost d clocks l [] calls none = let is : length_of calls ≡ 0 = ap length_of none in omega (arith, is)
resets_cost d clocks l (p ∷ ps) calls made =
    let is : length_of calls ≡ length_of made.0 + length_of made.1 = ap length_of made.2 ∙ sum_by-append call_cost made.0 made.1 in
    let rest = resets_cost d clocks l ps made.1 made.4 in
    let stores = made.3.2.stores in
    let first : length_of made.0 ≤ may d p = subst (λ o. length_of made.0 ≤ may_or d o) (sym made.3.1) (omega (arith, stores)) in
    let sum = sum_by-cons (may d) p ps in
    omega (arith, is, rest, first, sum)

copy_cost : (l : Layout) (bs : List ℕ) → length_of (copy_shadows l bs) ≡ length bs
copy_cost l [] = refl
copy_cost l (b ∷ bs) = let long : length (map home (b ∷ bs)) ≡ length (b ∷ bs) = length-map (b ∷ bs) home in omega (arith, long)

within : (d : Design) → AreWithin d (may d)
within d = record { each = λ p x e. subst (λ o. may_or d o ≤ stores_of d x) (sym e) (same (stores_of d x)) }
  where
    same : (n : ℕ) → n ≤ n
    same n = omega arith

pub record Small (d : Design) (p : Program) : Type 0 where
  pub first : first_stores p ≤ size d
  pub fall : fall_stores p ≤ size d
  pub rise : rise_stores p ≤ size d

pub small : FewAreApart → StoresFit → (d : Design) (names : List (List ℕ)) (a : IsAcceptedDesign d names) (order : List ℕ) → is_level_order d order ≡ true
    → (l : Layout) → IsLayoutOf d l → (regs : List ℕ) (p : Program) → IsMadeOf d (clock_bits a.clocks) order regs l p → Small d p
small fewer fit d names a order ordered l low regs p made =
    let fits : StoresFitIn d (clock_bits a.clocks) order (may d) (may d) = fit d names a order ordered (may d) (may d) (within d) (within d) in
    let inputs : length p.inputs ≡ length (data_bits d (clock_bits a.clocks)) = ap length made.inputs in
    let clocks = made.nets.few in
    let few = few_registers fewer d regs made.registers in
    let resets = resets_cost d (clock_bits a.clocks) l (clocked d) made.resets made.resets_are in
    let first : length_of p.first ≤ sum_by (may d) (clocked d) + sum_by (may d) (but_ports d (clock_bits a.clocks) order) =
    let is : length_of p.first ≡ length_of made.resets + length_of made.settle_first = ap length_of made.first ∙ sum_by-append call_cost made.resets made.settle_first in
    let own = calls_cost d l (but_ports d (clock_bits a.clocks) order) made.settle_first made.first_are in omega (arith, is, own, resets) in
    let fall : length_of p.fall ≤ sum_by (may d) (clocked d) + sum_by (may d) (fall_processes d (clock_bits a.clocks) order) =
    let is : length_of p.fall ≡ length_of made.resets_again + length_of made.settle_fall = ap length_of made.fall ∙ sum_by-append call_cost made.resets_again made.settle_fall in
    let again = resets_cost d (clock_bits a.clocks) l (clocked d) made.resets_again made.again_are in
    let own = calls_cost d l (fall_processes d (clock_bits a.clocks) order) made.settle_fall made.fall_are in omega (arith, is, own, again) in
    let rise = calls_cost d l (rise_processes d (clock_bits a.clocks) order) p.rise made.rise in
    let blocks = calls_cost d l (clocked d) made.blocks made.blocks_are in
    let copy = copy_cost l regs in
    let next : length_of p.next ≡ length_of made.blocks + length_of (copy_shadows l regs) = ap length_of made.next ∙ sum_by-append call_cost made.blocks (copy_shadows l regs) in
    let later = fits.cones (fall_bits d (clock_bits a.clocks)) in
    let risen = fits.cones (register_bits d.processes) in
    record {
      first = omega (arith, fits.fall, inputs, clocks, first);
      fall = omega (arith, fits.fall, inputs, clocks, fall, later);
      rise = omega (arith, fits.rise, clocks, rise, blocks, copy, next, risen, few);
    }

-- ---- slots

all_below : (count : ℕ) (bs : List ℕ) → ((b : ℕ) → contains bs b ≡ true → b < count) → list_all (is_below count) bs ≡ true
all_below count [] h = refl
all_below count (b ∷ bs) h = ap (λ c. c && list_all (is_below count) bs) (lt_true b count (h b (in_first b bs))) ∙ all_below count bs (λ c k. h c (in_rest b bs c k))

le_true : (m n : ℕ) → m ≤ n → nat_le m n ≡ true
le_true m n h = grind arith

true_le : (m n : ℕ) → nat_le m n ≡ true → m ≤ n
true_le m n h = grind arith

positive : (s : Signal) → 1 ≤ signal_length s
positive s = times s.words (range_or_one s.range) (of_range s.range)
  where
    long : (r : Range) → 1 ≤ range_length r
    long r = by_test (is_descending r) (λ e. rw e (omega arith)) (λ e. rw e (omega arith))

    of_range : (r : Option Range) → 1 ≤ range_or_one r
    of_range None = omega arith
    of_range (Some r) = long r

    product : (m n : ℕ) → 1 ≤ m → 1 ≤ n → 1 ≤ m * n
    product (suc m) n h k = omega arith
    product zero n h k = absurd (omega arith)

    times : (o : Option Range) (k : ℕ) → 1 ≤ k → 1 ≤ words_length o k
    times None k h = h
    times (Some r) k h = product (range_length r) k (long r) h

-- all but a memory
few_bits : (s : Signal) → is_memory s ≡ false → is_lawful_range s.range ≡ true → signal_length s ≤ 64
few_bits s plain h = no_words s.words plain
  where
    of_range : (r : Option Range) → is_lawful_range r ≡ true → range_or_one r ≤ 64
    of_range None h = omega arith
    of_range (Some r) h = true_le (range_length r) 64 (and_parts (nat_le r.left 65535 && nat_le r.right 65535) (nat_le (range_length r) 64) h).1

    no_words : (o : Option Range) → is_some o ≡ false → words_length o (range_or_one s.range) ≤ 64
    no_words None e = of_range s.range h
    no_words (Some r) e = cc

abbrev kept : Bool → Signal → List Signal → List Signal
kept c s ss = if not c then (s ∷ ss) else ss

spans_fit : (d : Design) (k count : ℕ) (ss : List Signal) → list_all (is_declared d) ss ≡ true → have_bits_from k ss ≡ true → k + sum_by signal_length ss ≤ count
    → list_all (spans count) (map span_of (filter (λ s. not (is_memory s)) ss)) ≡ true
spans_fit d k count [] declared numbered l = refl
spans_fit d k count (s ∷ ss) declared numbered l =
    let a = and_parts (is_declared d s) (list_all (is_declared d) ss) declared in
    let b = and_parts (s.first == k) (have_bits_from (k + signal_length s) ss) numbered in
    let first : s.first ≡ k = eqb-true s.first k b.0 in
    let sum = sum_by-cons signal_length s ss in
    let range = and_parts (nat_lt s.scope (length d.scopes) && is_lawful_range s.range) (not s.input || (s.net && (s.scope == 0))) a.0 in
    let lawful : is_lawful_range s.range ≡ true = (and_parts (nat_lt s.scope (length d.scopes)) (is_lawful_range s.range) range.0).1 in
    let some = positive s in
    let c3 : nat_le (s.first + signal_length s) count ≡ true = le_true (s.first + signal_length s) count (omega (arith, first, sum, l)) in
    let rest = spans_fit d (k + signal_length s) count ss a.1 b.1 (omega (arith, sum, l)) in
    by_test (is_memory s)
    (λ e. ap (λ (c : Bool). list_all (spans count) (map span_of (kept c s (filter (λ t. not (is_memory t)) ss)))) e ∙ rest)
    (λ e.
    let few = few_bits s e lawful in
    let c1 : nat_le 1 (signal_length s) ≡ true = le_true 1 (signal_length s) some in
    let c2 : nat_le (signal_length s) 64 ≡ true = le_true (signal_length s) 64 few in
    let here : spans count (span_of s) ≡ true = ap (λ z. z && nat_le (signal_length s) 64 && nat_le (s.first + signal_length s) count) c1 ∙ ap (λ z. z && nat_le (s.first + signal_length s) count) c2 ∙ c3 in
    ap (λ (c : Bool). list_all (spans count) (map span_of (kept c s (filter (λ t. not (is_memory t)) ss)))) e
    ∙ ap (λ z. z && list_all (spans count) (map span_of (filter (λ t. not (is_memory t)) ss))) here ∙ rest)

-- the widest process, and the registers, are within the size
widest_small : (xs : List Process) → widest_of xs ≤ sum_by process_weight xs
widest_small [] = omega arith
widest_small (x ∷ xs) = let rest = widest_small xs in omega (arith, rest, sum_by-cons process_weight x xs)

pub in_range : FewAreApart → StoresFit → SourcesOfDesign → (d : Design) (names : List (List ℕ)) (a : IsAcceptedDesign d names) (order : List ℕ) → is_level_order d order ≡ true
    → (l : Layout) → IsLayoutOf d l → (regs : List ℕ) (p : Program) → IsMadeOf d (clock_bits a.clocks) order regs l p → IsInRange p
in_range fewer fit sources d names a order ordered l low regs p made =
    let from : SourcesAre d (clock_bits a.clocks) = sources d names a in
    let fits = small fewer fit d names a order ordered l low regs p made in
    let stores : StoresFitIn d (clock_bits a.clocks) order (may d) (may d) = fit d names a order ordered (may d) (may d) (within d) (within d) in
    let bits : l.bits ≡ bit_count d = low.bits in
    let temps = low.layout.temps_above in
    let homes : home p.bits ≤ length p.initial = subst (λ k. home k ≤ length p.initial) (bits ∙ sym made.bits) (omega (arith, temps, made.slots)) in
    let few : length p.initial ≤ slots_of_design d = made.few_slots in
    let wide = widest_small d.processes in
    let masks = sleepers_small d 0 d.processes in
    let few_slots : length p.initial < 2 ^ 32 = omega (arith, few, wide, masks, stores.rise, a.small, a.lawful.few_bits) in
    record {
      count = few_slots;
      bits = homes;
      inputs = all_below p.bits p.inputs (λ b h. subst (λ k. b < k) (sym made.bits) (from.data_below b (subst (λ bs. contains bs b ≡ true) made.inputs h)));
      nets = all_below p.bits p.nets (λ b h. subst (λ k. b < k) (sym made.bits) (from.nets_below b (sym (made.nets.has b) ∙ h)));
      signals = subst (λ (ss : List Span). list_all (spans p.bits) ss ≡ true) (sym made.signals) (spans_fit d 0 p.bits d.signals a.lawful.declared a.lawful.bits_numbered (omega (arith, made.bits)));
      first = made.first_in;
      fall = made.fall_in;
      next = made.next_in;
      rise = made.rise_in;
      few_first = omega (arith, fits.first, a.small);
      few_fall = omega (arith, fits.fall, a.small);
      few_rise = omega (arith, fits.rise, a.small);
    }
