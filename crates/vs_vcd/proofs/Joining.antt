-- What a port's assign joins, and that both have the same bits.
use Rattle.std.proofs.Common.{◌≡◌, ℕ, zero, suc, ◌-◌, Bool, true, false, not, ◌&&◌, ◌||◌, List, [], ◌∷◌, ◌++◌, length, map, max, replicate, refl, sym, ap, ap₂, ◌∙◌, subst, if◌then◌else◌, append-nil, take_all, arith}
use Rattle.std.specs.Prelude.{slice_get, slice_index_or, Option, None, Some, ◌==◌}
use Rattle.std.specs.List.{filter}
use Rattle.std.proofs.lemmas.Bool.{eqb-true, eq-eqb, and_parts}
use Rattle.std.proofs.lemmas.Option.{get_or_from_slice_get}
use Rattle.std.proofs.lemmas.List.{length-map}
use Rattle.vs_four.specs.declared.Bit4.{Bit4}
use Rattle.vs_four.specs.Logic.{BitList}
use Rattle.vs_four.specs.Lengths.{extend, last_or, cut}
use Rattle.vs_four.specs.declared.Bit4.TheVariants.{Zero}
use Rattle.vs_net.specs.Network.{State, Write, put, write_all, is_written}
use Rattle.vs_net.specs.Queue.{Slot}
use Rattle.vs_net.specs.Solution.{IsSolution}
use Rattle.vs_net.proofs.Basics.{write_all_other}
use Rattle.vs_design.specs.Expressions.{Signal, signal_length, Expression, Literal, Name, Select, Word, WordPart, Unary, Binary, Choice, Join, Repeat, At, Call, width, sign}
use Rattle.vs_design.specs.Statements.{Target, Whole, PartOf, WordOf, WordPartOf, Both}
use Rattle.vs_design.specs.Designs.{Port, Written, InputPort, OutputPort, Process, Continuous, Always, Design}
use Rattle.vs_design.specs.Clocks.{clock_bits, name_of}
use Rattle.vs_design.specs.Values.{count_from, bits_of_signal, read, value, assigned_value}
use Rattle.vs_design.specs.Effects.{pair_up, last_of_each}
use Rattle.vs_design.specs.Bodies.{assignment_writes}
use Rattle.vs_design.specs.Footprints.{contains, is_memory, is_net}
use Rattle.vs_design.specs.Elaborated.{is_plain, is_signal, is_formed, is_formed_target, is_formed_port, is_formed_process, has_constant_selects, IsLawfulDesign}
use Rattle.vs_design.specs.Networks.{network_of}
use Rattle.vs_design.specs.Accepted.{IsAcceptedDesign}
use Rattle.vs_design.specs.SlotValues.{SlotValuesAre}
use Rattle.vs_design.proofs.ClockNets.{name_facts}
use Rattle.vs_design.proofs.Formed.{signal_at, plain_signal}
use Rattle.vs_design.proofs.Parts.{all_at}
use Rattle.vs_design.proofs.Signals.{count_low}
use Rattle.vs_design.proofs.Writes.{written_last, written_pairs, somes_all}
use Rattle.vs_design.proofs.Lengths.{length_signal, length_count}
use Rattle.vs_vcd.specs.Shared.{equally_long, join_of, IsAlike, Itself, Joined, Back, Along, ClassesHaveOneValue}
use Rattle.vs_vcd.specs.Texts.{shown_numbers}
use Rattle.vs_vcd.proofs.Grouping.{by_bool}

-- ---- what is joined

-- a process that joins two signals
pub record IsJoin (x : Process) (m n : ℕ) : Type 0 where
  pub place : ℕ
  pub port : Port
  pub target_place : ℕ
  pub from : Signal
  pub to : Signal
  pub e : Expression
  pub is : x ≡ Continuous place port target_place (Whole to) e
  pub named : name_of e ≡ Some from
  pub long : signal_length from ≡ signal_length to
  pub from_number : from.number ≡ m
  pub to_number : to.number ≡ n

some_pair : (a b m n : ℕ) → ◌≡◌ {A = Option (ℕ × ℕ)} (Some (a, b)) (Some (m, n)) → (a ≡ m) × (b ≡ n)
some_pair a b m n h = (ap (λ (o : Option (ℕ × ℕ)). elim o [ None ↦ a | Some p ↦ p.0 ]) h, ap (λ (o : Option (ℕ × ℕ)). elim o [ None ↦ b | Some p ↦ p.1 ]) h)

no_pair : (m n : ℕ) → ◌≡◌ {A = Option (ℕ × ℕ)} None (Some (m, n)) → ⊥
no_pair m n h = cc

join_by : (place : ℕ) (port : Port) (target_place : ℕ) (to : Signal) (e : Expression) (m n : ℕ) (o : Option Signal) → name_of e ≡ o → equally_long o to ≡ Some (m, n)
    → IsJoin (Continuous place port target_place (Whole to) e) m n
join_by place port target_place to e m n None named h = absurd (no_pair m n h)
join_by place port target_place to e m n (Some from) named h =
    by_bool (IsJoin (Continuous place port target_place (Whole to) e) m n) (signal_length from == signal_length to)
    (λ p.
    let both = some_pair from.number to.number m n (sym (ap (λ (t : Bool). if t then Some (from.number, to.number) else None) p) ∙ h) in
    record { place = place; port = port; target_place = target_place; from = from; to = to; e = e; is = refl; named = named; long = eqb-true (signal_length from) (signal_length to) p; from_number = both.0; to_number = both.1 })
    (λ p. absurd (no_pair m n (sym (ap (λ (t : Bool). if t then Some (from.number, to.number) else None) p) ∙ h)))

pub join_facts : (x : Process) (m n : ℕ) → join_of x ≡ Some (m, n) → IsJoin x m n
join_facts (Continuous place Written target_place target e) m n h = absurd (no_pair m n h)
join_facts (Continuous place InputPort target_place (Whole to) e) m n h = join_by place InputPort target_place to e m n (name_of e) refl h
join_facts (Continuous place InputPort target_place (PartOf to part index) e) m n h = absurd (no_pair m n h)
join_facts (Continuous place InputPort target_place (WordOf to index) e) m n h = absurd (no_pair m n h)
join_facts (Continuous place InputPort target_place (WordPartOf to address part index) e) m n h = absurd (no_pair m n h)
join_facts (Continuous place InputPort target_place (Both high low) e) m n h = absurd (no_pair m n h)
join_facts (Continuous place OutputPort target_place (Whole to) e) m n h = join_by place OutputPort target_place to e m n (name_of e) refl h
join_facts (Continuous place OutputPort target_place (PartOf to part index) e) m n h = absurd (no_pair m n h)
join_facts (Continuous place OutputPort target_place (WordOf to index) e) m n h = absurd (no_pair m n h)
join_facts (Continuous place OutputPort target_place (WordPartOf to address part index) e) m n h = absurd (no_pair m n h)
join_facts (Continuous place OutputPort target_place (Both high low) e) m n h = absurd (no_pair m n h)
join_facts (Always place star events statement) m n h = absurd (no_pair m n h)

-- ---- both are signals of the design

formed_name : (d : Design) (e : Expression) (s : Signal) → name_of e ≡ Some s → is_formed d e ≡ true → is_plain d s ≡ true
formed_name d (Name t) s h f = subst (λ (x : Signal). is_plain d x ≡ true) (same t s h) f
  where
    same : (x y : Signal) → Some x ≡ Some y → x ≡ y
    same x y k = cc
formed_name d (At place e) s h f = formed_name d e s h f
formed_name d (Literal bits signed sized) s h f = cc
formed_name d (Select source part index) s h f = cc
formed_name d (Word signal index) s h f = cc
formed_name d (WordPart signal address part index) s h f = cc
formed_name d (Unary op a) s h f = cc
formed_name d (Binary op a b) s h f = cc
formed_name d (Choice c p q) s h f = cc
formed_name d (Join high low) s h f = cc
formed_name d (Call header statement arguments) s h f = cc
formed_name d (Repeat count a) s h f = cc

pub record ArePlain (d : Design) (s t : Signal) : Type 0 where
  pub from : is_plain d s ≡ true
  pub to : is_plain d t ≡ true

pub formed_assign : (d : Design) (place : ℕ) (port : Port) (target_place : ℕ) (to : Signal) (e : Expression) → is_formed_process d (Continuous place port target_place (Whole to) e) ≡ true → (from : Signal) → name_of e ≡ Some from → ArePlain d from to
formed_assign d place port target_place to e formed from named =
    let k = and_parts (is_formed_target d is_net (Whole to) && has_constant_selects (Whole to) && is_formed d e) (is_formed_port port (Whole to) e) formed in
    let l = and_parts (is_formed_target d is_net (Whole to) && has_constant_selects (Whole to)) (is_formed d e) k.0 in
    let t = and_parts (is_formed_target d is_net (Whole to)) (has_constant_selects (Whole to)) l.0 in
    record { from = formed_name d e from named l.1; to = (and_parts (is_plain d to) (is_net to) t.0).0 }

pub plain_join : (d : Design) (x : Process) (m n : ℕ) → is_formed_process d x ≡ true → (j : IsJoin x m n) → ArePlain d j.from j.to
plain_join d x m n f j = formed_assign d j.place j.port j.target_place j.to j.e (sym (ap (is_formed_process d) j.is) ∙ f) j.from j.named

some_same : {A : Type 0} (x y : A) → Some x ≡ Some y → x ≡ y
some_same x y e = cc

no_some : {A : Type 0} (x : A) → None ≡ Some x → ⊥
no_some x e = cc

or_true : (b : Bool) → (b || true) ≡ true
or_true true = refl
or_true false = refl

-- a plain signal has a line
filtered : {A : Type 0} (number : A → ℕ) (test : A → Bool) (xs : List A) (k : ℕ) (x : A) → slice_get xs k ≡ Some x → test x ≡ true → contains (map number (filter test xs)) (number x) ≡ true
filtered number test [] k x h t = absurd (no_some x h)
filtered number test (y ∷ ys) zero x h t =
    let same : y ≡ x = some_same y x h in
    ap (λ (b : Bool). contains (map number (if b then (y ∷ filter test ys) else filter test ys)) (number x)) (ap test same ∙ t)
    ∙ ap (λ (b : Bool). b || contains (map number (filter test ys)) (number x)) (eq-eqb (number x) (number y) (ap number (sym same)))
filtered number test (y ∷ ys) (suc k) x h t =
    let rest = filtered number test ys k x h t in
    by_bool (contains (map number (filter test (y ∷ ys))) (number x) ≡ true) (test y)
    (λ p. ap (λ (b : Bool). contains (map number (if b then (y ∷ filter test ys) else filter test ys)) (number x)) p ∙ ap (λ (b : Bool). (number x == number y) || b) rest ∙ or_true (number x == number y))
    (λ p. ap (λ (b : Bool). contains (map number (if b then (y ∷ filter test ys) else filter test ys)) (number x)) p ∙ rest)

pub plain_shown : (d : Design) (s : Signal) → is_plain d s ≡ true → contains (shown_numbers d) s.number ≡ true
plain_shown d s h =
    filtered (λ (t : Signal). t.number) (λ (t : Signal). not (is_memory t)) d.signals s.number s
    (signal_at d s (plain_signal d s h))
    (and_parts (is_signal d s) (not (is_memory s)) h).1

-- ---- the bits of both

-- a bit before a run of bits isn't among them
before_run : (first n : ℕ) → contains (count_from (suc first) n) first ≡ false
before_run first n = by_bool (contains (count_from (suc first) n) first ≡ false) (contains (count_from (suc first) n) first) (λ p. let low = count_low (suc first) n first p in absurd (omega arith)) (λ p. p)

-- a run of bits is written with these values
run_writes : (first n : ℕ) (vs : BitList) (s : State) → length vs ≡ n → map (write_all s (last_of_each (pair_up (map Some (count_from first n)) vs))) (count_from first n) ≡ vs
unfolding write_all
run_writes first zero [] s long = refl
run_writes first zero (v ∷ vs) s long = absurd (omega arith)
run_writes first (suc n) [] s long = absurd (omega arith)
run_writes first (suc n) (v ∷ vs) s long =
    let rest : List Write = pair_up (map Some (count_from (suc first) n)) vs in
    let short : length vs ≡ n = omega arith in
    let pairs : length (map (λ (b : ℕ). Some b) (count_from (suc first) n)) ≡ length vs = length-map (count_from (suc first) n) (λ (b : ℕ). Some b) ∙ length_count (suc first) n ∙ sym short in
    let other : is_written rest first ≡ false =
    written_pairs (map Some (count_from (suc first) n)) vs first pairs
    ∙ ap (λ (bs : List ℕ). contains bs first) (somes_all (count_from (suc first) n))
    ∙ before_run first n in
    let written : last_of_each (record { bit = first; value = v } ∷ rest) ≡ record { bit = first; value = v } ∷ last_of_each rest =
    ap (λ (b : Bool). if b then last_of_each rest else (record { bit = first; value = v } ∷ last_of_each rest)) other in
    let next : State = put s first v in
    let own : write_all next (last_of_each rest) first ≡ v =
    write_all_other (last_of_each rest) next first (written_other rest first other)
    ∙ ap (λ (b : Bool). if b then v else s first) (eq-eqb first first refl) in
    ap (λ (ws : List Write). map (write_all s ws) (first ∷ count_from (suc first) n)) written
    ∙ ap₂ (λ (b : Bit4) (bs : BitList). b ∷ bs) own (run_writes (suc first) n vs next short)
  where
    written_other : (ws : List Write) (b : ℕ) → is_written ws b ≡ false → is_written (last_of_each ws) b ≡ false
    written_other ws b h = written_last ws b ∙ h

-- a name as long as its target is assigned as it is
whole_value : (e : Expression) (s : Signal) (n : ℕ) (r : State) → name_of e ≡ Some s → signal_length s ≡ n → assigned_value e n r ≡ read r (bits_of_signal s)
whole_value e s n r named long =
    let f = name_facts e s named in
    let v : BitList = read r (bits_of_signal s) in
    let size : length v ≡ n = length_signal r s ∙ long in
    let wide : width e ≡ n = f.width_is ∙ long in
    ap (λ (w : ℕ). cut n (value e (max w n) (sign e) r)) wide
    ∙ ap (λ (w : ℕ). cut n (value e w (sign e) r)) (max_same n)
    ∙ ap (cut n) (f.value_is n (sign e) r)
    ∙ ap (cut n) (extend_same n (sign e) v size)
    ∙ take_all n v (omega (arith, size))
  where
    max_same : (k : ℕ) → max k k ≡ k
    max_same k = omega arith

    none_more : (k : ℕ) → k - k ≡ 0
    none_more k = omega arith

    extend_same : (k : ℕ) (signed : Bool) (xs : BitList) → length xs ≡ k → extend k signed xs ≡ xs
    extend_same k signed xs h =
        let fill : Bit4 = if signed then last_or Zero xs else Zero in
        ap (λ (m : ℕ). xs ++ replicate (k - m) fill) h
        ∙ ap (λ (m : ℕ). xs ++ replicate m fill) (none_more k)
        ∙ append-nil xs

-- where its assign is settled
pub joined_bits : (s t : Signal) (e : Expression) (r : State) → name_of e ≡ Some s → signal_length s ≡ signal_length t → write_all r (assignment_writes (Whole t) e r) ≡ r → read r (bits_of_signal s) ≡ read r (bits_of_signal t)
joined_bits s t e r named long settled =
    let v : BitList = read r (bits_of_signal s) in
    let assigned : assigned_value e (signal_length t) r ≡ v = whole_value e s (signal_length t) r named long in
    let writes : assignment_writes (Whole t) e r ≡ last_of_each (pair_up (map Some (bits_of_signal t)) v) = ap (λ (x : BitList). last_of_each (pair_up (map Some (bits_of_signal t)) x)) assigned in
    sym (run_writes t.first (signal_length t) v r (length_signal r s ∙ long))
    ∙ ap (λ (ws : List Write). map (write_all r ws) (bits_of_signal t)) (sym writes)
    ∙ ap (λ (f : State). map f (bits_of_signal t)) settled

-- ---- the bits of a class

none_signal : Signal
none_signal = record { name = []; scope = 0; number = 0; net = true; input = false; range = None; signed = false; first = 0; words = None; integer = false }

-- the value of the signal with this number
value_at : Design → State → ℕ → BitList
unfolding none_signal
value_at d r n = read r (bits_of_signal (slice_index_or d.signals n none_signal))

value_at-is : (d : Design) (r : State) (n : ℕ) (s : Signal) → slice_get d.signals n ≡ Some s → value_at d r n ≡ read r (bits_of_signal s)
unfolding value_at none_signal
value_at-is d r n s h = ap (λ (t : Signal). read r (bits_of_signal t)) (get_or_from_slice_get d.signals n s none_signal h)

-- every assign of the design is settled
abbrev AreSettled : Design → State → Type 0
AreSettled d r = (p place : ℕ) (port : Port) (target_place : ℕ) (target : Target) (e : Expression) → slice_get d.processes p ≡ Some (Continuous place port target_place target e) → write_all r (assignment_writes target e r) ≡ r

class_values : (d : Design) (r : State) → IsLawfulDesign d → AreSettled d r → (m n : ℕ) → IsAlike d m n → value_at d r m ≡ value_at d r n
class_values d r lawful settled m n (Itself k) = refl
class_values d r lawful settled m n (Back a b h) = sym (class_values d r lawful settled a b h)
class_values d r lawful settled m n (Along a b c h k) = class_values d r lawful settled a b h ∙ class_values d r lawful settled b c k
class_values d r lawful settled m n (Joined p x a b at h) =
    let j = join_facts x a b h in
    let plain = plain_join d x a b (all_at (is_formed_process d) d.processes p x lawful.formed at) j in
    let from : slice_get d.signals a ≡ Some j.from = subst (λ (k : ℕ). slice_get d.signals k ≡ Some j.from) j.from_number (signal_at d j.from (plain_signal d j.from plain.from)) in
    let to : slice_get d.signals b ≡ Some j.to = subst (λ (k : ℕ). slice_get d.signals k ≡ Some j.to) j.to_number (signal_at d j.to (plain_signal d j.to plain.to)) in
    let here = settled p j.place j.port j.target_place (Whole j.to) j.e (at ∙ ap (λ (y : Process). Some y) j.is) in
    value_at-is d r a j.from from ∙ joined_bits j.from j.to j.e r j.named j.long here ∙ sym (value_at-is d r b j.to to)

-- at the end of each slot
ends_settled : SlotValuesAre → (d : Design) (names : List (List ℕ)) (a : IsAcceptedDesign d names) (before : State) (slots : List Slot) (ends : List State) → IsSolution (network_of d (clock_bits a.clocks)) before slots ends
    → (k : ℕ) (end : State) → slice_get ends k ≡ Some end → AreSettled d end
ends_settled law d names a before [] [] h k end at = absurd (no_some end at)
ends_settled law d names a before [] (s ∷ ss) h k end at = absurd h
ends_settled law d names a before (slot ∷ slots) [] h k end at = absurd h
ends_settled law d names a before (slot ∷ slots) (s ∷ ss) h zero end at =
    let values = (law d names a before slot s).0 h.0 in
    subst (AreSettled d) (some_same s end at) values.assign
ends_settled law d names a before (slot ∷ slots) (s ∷ ss) h (suc k) end at = ends_settled law d names a s slots ss h.1 k end at

pub one_value : SlotValuesAre → ClassesHaveOneValue
one_value law d names a before slots ends h k end at m n s t alike is_s is_t =
    sym (value_at-is d end m s is_s)
    ∙ class_values d end a.lawful (ends_settled law d names a before slots ends h k end at) m n alike
    ∙ value_at-is d end n t is_t
