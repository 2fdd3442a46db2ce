-- Clock nets.
use Rattle.std.proofs.Common.{◌≡◌, ℕ, zero, suc, ◌+◌, Bool, true, false, cond, List, [], ◌∷◌, ◌++◌, ◌||◌, ◌&&◌, ◌==◌, eqb-true, eq-eqb, not, if◌then◌else◌, ◌⊎◌, inl, inr, refl, sym, ap, ◌∙◌, subst, length, Option, Some, None, ◌≤◌, arith, nat_lt}
use Rattle.std.specs.Prelude.{slice_get}
use Rattle.std.specs.List.{list_any, filter, find}
use Rattle.vs_net.specs.Network.{State, Write, Effect, is_written, write_all, Network, Kind, TheClock, AnAssign, AComb, AClocked, kind, writes, listens, made, updates, clock_net}
use Rattle.vs_net.specs.Network as N
use Rattle.vs_net.specs.Lawful.{IsClockPort}
use Rattle.vs_four.specs.Logic.{BitList}
use Rattle.vs_design.specs.Expressions.{Signal, signal_length, Expression, Literal, Name, Select, Word, WordPart, Unary, Binary, Choice, Join, Repeat, At, Call, width, sign}
use Rattle.vs_design.specs.Values.{count_from, bits_of_signal, value}
use Rattle.vs_design.specs.Statements.{Target, Whole, PartOf, WordOf, WordPartOf, Both}
use Rattle.vs_design.specs.Bodies.{assignment_writes, body}
use Rattle.vs_design.specs.Designs.{Port, Process, Continuous, Always, Design, top_inputs, bit_count}
use Rattle.vs_design.specs.Footprints.{contains, read_bits, target_reads, target_bits, input_bits}
use Rattle.vs_design.specs.Clocks.{same_name, named_input, spare_clock, and_inputs, named_inputs, clock_inputs, clock_bits, first_clock, name_of, is_one_of, port_target, port_targets, nets_within, is_clock_port}
use Rattle.vs_design.specs.Networks.{spare_clocks, network_of}
use Rattle.vs_design.specs.Accepted.{IsAcceptedDesign}
use Rattle.vs_design.proofs.Lists.{by_test, and_both, or_left, contains-append, contains-left, contains-right, contains_head}
use Rattle.vs_design.proofs.Writes.{either_way}
use Rattle.vs_design.proofs.Signals.{split, member_bits}
use Rattle.vs_design.proofs.Parts.{writer_there, at_spare}

some_is : {A : Type 0} (x y : A) → Some x ≡ Some y → x ≡ y
some_is x y e = cc

pub one_listed : (n b : ℕ) → contains (n ∷ []) b ≡ true → b ≡ n
one_listed n b h = by_test (b == n) (λ e. eqb-true b n e) (λ e. absurd (either_way (contains [] b) (subst (λ x. (x || false) ≡ true) e h) refl))

-- ---- the clock inputs

pub find_test : (t : Signal → Bool) (ss : List Signal) (s : Signal) → find t ss ≡ Some s → t s ≡ true
find_test t [] s h = cc
find_test t (x ∷ ss) s h =
    by_test (t x)
    (λ e. subst (λ y. t y ≡ true) (some_is x s (subst (λ (c : Bool). cond c (Some x) (find t ss) ≡ Some s) e h)) e)
    (λ e. find_test t ss s (subst (λ (c : Bool). cond c (Some x) (find t ss) ≡ Some s) e h))

find_in : (t u : Signal → Bool) → ((s : Signal) → t s ≡ true → u s ≡ true) → (ss : List Signal) (s : Signal) → find t ss ≡ Some s → (i : ℕ) × (slice_get (filter u ss) i ≡ Some s)
find_in t u f [] s h = cc
find_in t u f (x ∷ ss) s h =
    by_test (t x)
    (λ e. (0, rw (f x e) (subst (λ (c : Bool). cond c (Some x) (find t ss) ≡ Some s) e h)))
    (λ e.
    let r = find_in t u f ss s (subst (λ (c : Bool). cond c (Some x) (find t ss) ≡ Some s) e h) in
    by_test (u x)
    (λ k. (suc r.0, rw k r.1))
    (λ k. (r.0, rw k r.1)))

-- an input of the top, of one bit
abbrev pub IsOneBitInput : Design → Signal → Type 0
IsOneBitInput d s = (i : ℕ) × (slice_get (top_inputs d) i ≡ Some s) × (signal_length s ≡ 1)

-- the clocks are such inputs, or there is one alone, which is none of the design's signals
pub data AreClocks (d : Design) (ss : List Signal) : Type 0 where
  as_inputs : ((k : ℕ) (s : Signal) → slice_get ss k ≡ Some s → IsOneBitInput d s) → AreClocks d ss
  as_spare : ss ≡ spare_clock d ∷ [] → AreClocks d ss

named_one : (d : Design) (name : List ℕ) (s : Signal) → named_input d name ≡ Some s → IsOneBitInput d s
named_one d name s h =
    let r = find_in (λ s. s.input && same_name s.name name && (signal_length s == 1)) (λ s. s.input) (λ s h. (and_both s.input (same_name s.name name) (and_both (s.input && same_name s.name name) (signal_length s == 1) h).0).0) d.signals s h in
    (r.0, r.1, eqb-true (signal_length s) 1 (and_both (s.input && same_name s.name name) (signal_length s == 1) (find_test (λ s. s.input && same_name s.name name && (signal_length s == 1)) d.signals s h)).1)

-- where names are found, so are the first one and the others
pub record FirstNamed (d : Design) (name : List ℕ) (names : List (List ℕ)) (ss : List Signal) : Type 0 where
  pub first : Signal
  pub rest : List Signal
  pub first_is : named_input d name ≡ Some first
  pub rest_is : named_inputs d names ≡ Some rest
  pub both : first ∷ rest ≡ ss

first_named : (d : Design) (name : List ℕ) (names : List (List ℕ)) (ss : List Signal) → named_inputs d (name ∷ names) ≡ Some ss → FirstNamed d name names ss
first_named d name names ss h =
    by_test (list_any (same_name name) names)
    (λ t. absurd (let z = subst (λ (g : Bool). (if g then None else and_inputs (named_input d name) (named_inputs d names)) ≡ Some ss) t h in cc))
    (λ t. both (named_input d name) refl (named_inputs d names) refl (subst (λ (g : Bool). (if g then None else and_inputs (named_input d name) (named_inputs d names)) ≡ Some ss) t h))
  where
    both : (o : Option Signal) → named_input d name ≡ o → (r : Option (List Signal)) → named_inputs d names ≡ r → and_inputs o r ≡ Some ss → FirstNamed d name names ss
    both None p r q g = cc
    both (Some x) p None q g = cc
    both (Some x) p (Some xs) q g = record { first = x; rest = xs; first_is = p; rest_is = q; both = some_is (x ∷ xs) ss g }

named_at : (d : Design) (names : List (List ℕ)) (ss : List Signal) → named_inputs d names ≡ Some ss → (k : ℕ) (s : Signal) → slice_get ss k ≡ Some s → IsOneBitInput d s
named_at d [] ss h k s e = let z = subst (λ (xs : List Signal). slice_get xs k ≡ Some s) (sym (some_is [] ss h)) e in cc
named_at d (name ∷ names) ss h k s e = let f = first_named d name names ss h in at f k (subst (λ (xs : List Signal). slice_get xs k ≡ Some s) (sym f.both) e) (λ j g. named_at d names f.rest f.rest_is j s g)
  where
    at : (f : FirstNamed d name names ss) (k : ℕ) → slice_get (f.first ∷ f.rest) k ≡ Some s → ((j : ℕ) → slice_get f.rest j ≡ Some s → IsOneBitInput d s) → IsOneBitInput d s
    at f zero e g = subst (λ y. IsOneBitInput d y) (some_is f.first s e) (named_one d name f.first f.first_is)
    at f (suc k) e g = g k e

clocks_place : (d : Design) (names : List (List ℕ)) (ss : List Signal) → clock_inputs d names ≡ Some ss → AreClocks d ss
clocks_place d [] ss h = as_spare (sym (some_is (spare_clock d ∷ []) ss h))
clocks_place d (name ∷ names) ss h = as_inputs (λ k s e. named_at d (name ∷ names) ss h k s e)

pub clocks_at : (d : Design) (names : List (List ℕ)) (a : IsAcceptedDesign d names) → AreClocks d a.clocks
clocks_at d names a = clocks_place d names a.clocks a.clocks_found

-- there is a first one
some_first : (d : Design) (names : List (List ℕ)) (ss : List Signal) → clock_inputs d names ≡ Some ss → contains (clock_bits ss) (first_clock (clock_bits ss)) ≡ true
some_first d [] ss h = subst (λ (xs : List Signal). contains (clock_bits xs) (first_clock (clock_bits xs)) ≡ true) (some_is (spare_clock d ∷ []) ss h) (contains_head (bit_count d) [])
some_first d (name ∷ names) ss h = let f = first_named d name names ss h in subst (λ (xs : List Signal). contains (clock_bits xs) (first_clock (clock_bits xs)) ≡ true) f.both (contains_head f.first.first (clock_bits f.rest))

pub first_clock_in : (d : Design) (names : List (List ℕ)) (a : IsAcceptedDesign d names) → contains (clock_bits a.clocks) (first_clock (clock_bits a.clocks)) ≡ true
first_clock_in d names a = some_first d names a.clocks a.clocks_found

-- the clock that has a bit
pub bit_signal : (ss : List Signal) (c : ℕ) → contains (clock_bits ss) c ≡ true → (k : ℕ) × (s : Signal) × (slice_get ss k ≡ Some s) × (s.first ≡ c)
bit_signal [] c h = cc
bit_signal (s ∷ ss) c h =
    by_test (c == s.first)
    (λ e. (0, s, refl, sym (eqb-true c s.first e)))
    (λ e. let r = bit_signal ss c (subst (λ (g : Bool). (g || contains (clock_bits ss) c) ≡ true) e h) in (suc r.0, r.1, r.2, r.3))

-- a clock's bit is that of an input of one bit, or none of the design's
pub data ClockAt (d : Design) (c : ℕ) : Type 0 where
  of_input : (i : ℕ) (s : Signal) → slice_get (top_inputs d) i ≡ Some s → signal_length s ≡ 1 → s.first ≡ c → ClockAt d c
  of_spare : c ≡ bit_count d → ClockAt d c

pub clock_at : (d : Design) (ss : List Signal) → AreClocks d ss → (c : ℕ) → contains (clock_bits ss) c ≡ true → ClockAt d c
clock_at d ss (as_inputs f) c h = let r = bit_signal ss c h in let q = f r.0 r.1 r.2 in of_input q.0 r.1 q.1 q.2 r.3
clock_at d ss (as_spare e) c h = of_spare (one_listed (bit_count d) c (subst (λ (xs : List Signal). contains (clock_bits xs) c ≡ true) e h))

pub clock_inside : (d : Design) (c : ℕ) → ClockAt d c → (contains (input_bits d) c ≡ true) ⊎ (bit_count d ≤ c)
clock_inside d c (of_input i s e l f) = inl (subst (λ m. contains (input_bits d) m ≡ true) f (member_bits (top_inputs d) i s s.first e (subst (λ n. contains (count_from s.first n) s.first ≡ true) (sym l) (contains_head s.first []))))
clock_inside d c (of_spare e) = inr (omega (arith, e))

-- each bit of a clock of an accepted design
pub inside : (d : Design) (names : List (List ℕ)) (a : IsAcceptedDesign d names) (c : ℕ) → contains (clock_bits a.clocks) c ≡ true → (contains (input_bits d) c ≡ true) ⊎ (bit_count d ≤ c)
inside d names a c h = clock_inside d c (clock_at d a.clocks (clocks_at d names a) c h)

-- and a process writes it
pub clock_process : (d : Design) (names : List (List ℕ)) (a : IsAcceptedDesign d names) (c : ℕ) → contains (clock_bits a.clocks) c ≡ true → (p : ℕ) × ((network_of d (clock_bits a.clocks)).process p ≡ N.Clock c)
clock_process d names a c h = by_place (clocks_at d names a)
  where
    spare_first : (b : ℕ) → bit_count d ≤ b → slice_get (spare_clocks d (b ∷ [])) 0 ≡ Some b
    spare_first b l = rw (not_less b (bit_count d) l) refl
      where
        not_less : (m n : ℕ) → n ≤ m → nat_lt m n ≡ false
        not_less m n h = grind arith

    by_place : AreClocks d a.clocks → (p : ℕ) × ((network_of d (clock_bits a.clocks)).process p ≡ N.Clock c)
    by_place (as_inputs f) =
        let r = bit_signal a.clocks c h in
        let q = f r.0 r.1 r.2 in
        (length d.processes + q.0, writer_there d (clock_bits a.clocks) q.0 r.1 q.1 ∙ ap {B = N.Process} (λ (g : Bool). if g then N.Clock r.1.first else N.Input (bits_of_signal r.1)) (subst (λ m. contains (clock_bits a.clocks) m ≡ true) (sym r.3) h) ∙ ap N.Clock r.3)
    by_place (as_spare e) =
        let k = one_listed (bit_count d) c (subst (λ (xs : List Signal). contains (clock_bits xs) c ≡ true) e h) in
        at_spare d (clock_bits a.clocks) 0 c (subst (λ (xs : List Signal). slice_get (spare_clocks d (clock_bits xs)) 0 ≡ Some c) (sym e) (subst (λ m. slice_get (spare_clocks d (bit_count d ∷ [])) 0 ≡ Some m) (sym k) (spare_first (bit_count d) (omega arith))))

-- ---- nets and ports

pub clock_in : (n : ℕ) (ps : List Process) (c : List ℕ) (b : ℕ) → contains c b ≡ true → contains (nets_within n ps c) b ≡ true
clock_in zero ps c b h = h
clock_in (suc n) ps c b h = contains-left c (port_targets (nets_within n ps c) ps) b h

one_of_more : (xs ys : List ℕ) (o : Option Signal) → ((b : ℕ) → contains xs b ≡ true → contains ys b ≡ true) → is_one_of xs o ≡ true → is_one_of ys o ≡ true
one_of_more xs ys None f h = h
one_of_more xs ys (Some s) f h = let p = and_both (signal_length s == 1) (contains xs s.first) h in go (signal_length s == 1) (contains ys s.first) p.0 (f s.first p.1)
  where
    go : (a b : Bool) → a ≡ true → b ≡ true → (a && b) ≡ true
    go true b h k = k
    go false b h k = cc

-- an assign of a one-bit net from such a net
pub record PortFacts (nets : List ℕ) (x : Process) : Type 0 where
  pub place : ℕ
  pub port : Port
  pub target_place : ℕ
  pub signal : Signal
  pub e : Expression
  pub is : x ≡ Continuous place port target_place (Whole signal) e
  pub from : is_one_of nets (name_of e) ≡ true
  pub one_bit : (signal_length signal == 1) ≡ true

pub port_of : (nets : List ℕ) (x : Process) (b : ℕ) → contains (port_target nets x) b ≡ true → PortFacts nets x
port_of nets (Continuous place port target_place (Whole signal) e) b h =
    by_test (is_one_of nets (name_of e) && (signal_length signal == 1))
    (λ k. let p = and_both (is_one_of nets (name_of e)) (signal_length signal == 1) k in record { place = place; port = port; target_place = target_place; signal = signal; e = e; is = refl; from = p.0; one_bit = p.1 })
    (λ k. absurd (either_way (contains [] b) (subst (λ (c : Bool). contains (if c then (signal.first ∷ []) else []) b ≡ true) k h) refl))
port_of nets (Continuous place port target_place (PartOf signal part index) e) b h = cc
port_of nets (Continuous place port target_place (WordOf signal index) e) b h = cc
port_of nets (Continuous place port target_place (WordPartOf signal address part index) e) b h = cc
port_of nets (Continuous place port target_place (Both high low) e) b h = cc
port_of nets (Always place star events st) b h = cc

pub port_value : (nets : List ℕ) (x : Process) → (f : PortFacts nets x) → port_target nets x ≡ f.signal.first ∷ []
port_value nets x f = rw f.is (rw (f.from, f.one_bit) refl)

pub port_more : (xs ys : List ℕ) (x : Process) (b : ℕ) → ((b : ℕ) → contains xs b ≡ true → contains ys b ≡ true) → contains (port_target xs x) b ≡ true → contains (port_target ys x) b ≡ true
port_more xs ys x b f h =
    let p = port_of xs x b h in
    let q : PortFacts ys x = record { place = p.place; port = p.port; target_place = p.target_place; signal = p.signal; e = p.e; is = p.is; from = one_of_more xs ys (name_of p.e) f p.from; one_bit = p.one_bit } in
    subst (λ zs. contains zs b ≡ true) (port_value xs x p ∙ sym (port_value ys x q)) h

pub ports_more : (xs ys : List ℕ) (ps : List Process) (b : ℕ) → ((b : ℕ) → contains xs b ≡ true → contains ys b ≡ true) → contains (port_targets xs ps) b ≡ true → contains (port_targets ys ps) b ≡ true
ports_more xs ys [] b f h = h
ports_more xs ys (x ∷ ps) b f h =
    by_test (contains (port_target xs x) b)
    (λ e. contains-left (port_target ys x) (port_targets ys ps) b (port_more xs ys x b f e))
    (λ e. contains-right (port_target ys x) (port_targets ys ps) b (ports_more xs ys ps b f (subst (λ c. (c || contains (port_targets xs ps) b) ≡ true) e (sym (contains-append (port_target xs x) (port_targets xs ps) b) ∙ h))))

pub nets_more : (n : ℕ) (ps : List Process) (c : List ℕ) (b : ℕ) → contains (nets_within n ps c) b ≡ true → contains (nets_within (suc n) ps c) b ≡ true
nets_more zero ps c b h = contains-left c (port_targets c ps) b h
nets_more (suc n) ps c b h =
    split c (port_targets (nets_within n ps c) ps) b h
    (λ e. contains-left c (port_targets (nets_within (suc n) ps c) ps) b e)
    (λ e. contains-right c (port_targets (nets_within (suc n) ps c) ps) b (ports_more (nets_within n ps c) (nets_within (suc n) ps c) ps b (λ b h. nets_more n ps c b h) e))

-- a net is a clock's bit, or the target of some assign that copies one
pub net_is : (n : ℕ) (ps : List Process) (c : List ℕ) (b : ℕ) → contains (nets_within n ps c) b ≡ true → (contains c b ≡ true) ⊎ (contains (port_targets (nets_within n ps c) ps) b ≡ true)
net_is zero ps c b h = inl h
net_is (suc n) ps c b h =
    split c (port_targets (nets_within n ps c) ps) b h
    (λ e. inl e)
    (λ e. inr (ports_more (nets_within n ps c) (nets_within (suc n) ps c) ps b (λ b h. nets_more n ps c b h) e))

-- the port that has the target
pub record PortAt (nets : List ℕ) (ps : List Process) (b : ℕ) : Type 0 where
  pub number : ℕ
  pub process : Process
  pub is : slice_get ps number ≡ Some process
  pub has_it : contains (port_target nets process) b ≡ true
  pub port : PortFacts nets process

pub port_at : (nets : List ℕ) (ps : List Process) (b : ℕ) → contains (port_targets nets ps) b ≡ true → PortAt nets ps b
port_at nets [] b h = cc
port_at nets (x ∷ ps) b h =
    by_test (contains (port_target nets x) b)
    (λ e. record { number = 0; process = x; is = refl; has_it = e; port = port_of nets x b e })
    (λ e.
    let r = port_at nets ps b (subst (λ c. (c || contains (port_targets nets ps) b) ≡ true) e (sym (contains-append (port_target nets x) (port_targets nets ps) b) ∙ h)) in
    record { number = suc r.number; process = r.process; is = r.is; has_it = r.has_it; port = r.port })

pub port_listed : (nets : List ℕ) (ps : List Process) (n : ℕ) (x : Process) (b : ℕ) → slice_get ps n ≡ Some x → contains (port_target nets x) b ≡ true → contains (port_targets nets ps) b ≡ true
port_listed nets [] n x b e h = cc
port_listed nets (y ∷ ps) zero x b e h = contains-left (port_target nets y) (port_targets nets ps) b (subst (λ z. contains (port_target nets z) b ≡ true) (sym (some_is y x e)) h)
port_listed nets (y ∷ ps) (suc n) x b e h = contains-right (port_target nets y) (port_targets nets ps) b (port_listed nets ps n x b e h)

pub is_port : (nets : List ℕ) (x : Process) (b : ℕ) → contains (port_target nets x) b ≡ true → is_clock_port nets x ≡ true
is_port nets x b h = rw (port_value nets x (port_of nets x b h)) refl

pub port_facts : (nets : List ℕ) (x : Process) → is_clock_port nets x ≡ true → (b : ℕ) × (contains (port_target nets x) b ≡ true)
port_facts nets x h = go (port_target nets x) h
  where
    go : (xs : List ℕ) → not (length xs == 0) ≡ true → (b : ℕ) × (contains xs b ≡ true)
    go [] h = cc
    go (y ∷ ys) h = (y, or_left (y == y) (contains ys y) (eq-eqb y y refl))

-- ---- what a port's expression means

pub record NameFacts (e : Expression) (s : Signal) : Type 0 where
  pub value_is : (w : ℕ) (g : Bool) (r : State) → value e w g r ≡ value (Name s) w g r
  pub width_is : width e ≡ signal_length s
  pub reads_is : read_bits e ≡ bits_of_signal s

pub name_facts : (e : Expression) (s : Signal) → name_of e ≡ Some s → NameFacts e s
name_facts (Name t) s h =
    let k = some_is t s h in
    record { value_is = λ w g r. ap {B = BitList} (λ z. value (Name z) w g r) k; width_is = ap signal_length k; reads_is = ap bits_of_signal k }
name_facts (At place e) s h = let r = name_facts e s h in record { value_is = r.value_is; width_is = r.width_is; reads_is = r.reads_is }
name_facts (Literal bits signed sized) s h = cc
name_facts (Select source part index) s h = cc
name_facts (Word signal index) s h = cc
name_facts (WordPart signal address part index) s h = cc
name_facts (Unary op a) s h = cc
name_facts (Binary op a b) s h = cc
name_facts (Choice c p q) s h = cc
name_facts (Join high low) s h = cc
name_facts (Call header statement arguments) s h = cc
name_facts (Repeat count a) s h = cc

pub one_net : (nets : List ℕ) (o : Option Signal) → is_one_of nets o ≡ true → (s : Signal) × (o ≡ Some s) × (signal_length s ≡ 1) × (contains nets s.first ≡ true)
one_net nets None h = cc
one_net nets (Some s) h = let p = and_both (signal_length s == 1) (contains nets s.first) h in (s, refl, eqb-true (signal_length s) 1 p.0, p.1)

one_bit_of : (s : Signal) → signal_length s ≡ 1 → bits_of_signal s ≡ s.first ∷ []
one_bit_of s h = ap (λ n. count_from s.first n) h

pub copy : (signal s : Signal) (e : Expression) (r : State) → NameFacts e s → signal_length signal ≡ 1 → signal_length s ≡ 1 → assignment_writes (Whole signal) e r ≡ record { bit = signal.first; value = r s.first } ∷ []
unfolding is_written
copy signal s e r f k l = rw (one_bit_of signal k) (rw (k, f.width_is, l) (rw (f.value_is 1 (sign e) r) (rw (one_bit_of s l) (go (sign e)))))
  where
    go : (g : Bool) → Rattle.vs_design.specs.Bodies.last_of_each (Rattle.vs_design.specs.Bodies.pair_up (Some signal.first ∷ []) (Rattle.vs_four.specs.Lengths.cut 1 (Rattle.vs_four.specs.Lengths.extend 1 g (r s.first ∷ [])))) ≡ record { bit = signal.first; value = r s.first } ∷ []
    go g = refl

port_copies : (nets : List ℕ) (signal : Signal) (e : Expression) → is_one_of nets (name_of e) ≡ true → signal_length signal ≡ 1 → contains nets signal.first ≡ true → ((b : ℕ) → contains (bits_of_signal signal) b ≡ true → contains (read_bits e) b ≡ true → ⊥)
    → IsClockPort (contains nets) (N.Assign (contains (read_bits e)) (contains (bits_of_signal signal)) (assignment_writes (Whole signal) e))
port_copies nets signal e h k to apart =
    let o = one_net nets (name_of e) h in
    let s = o.0 in
    let f = name_facts e s o.1 in
    let reads : read_bits e ≡ s.first ∷ [] = f.reads_is ∙ one_bit_of s o.2 in
    let bits : bits_of_signal signal ≡ signal.first ∷ [] = one_bit_of signal k in
    let has_from : contains (read_bits e) s.first ≡ true = subst (λ xs. contains xs s.first ≡ true) (sym reads) (or_left (s.first == s.first) false (eq-eqb s.first s.first refl)) in
    let has_to : contains (bits_of_signal signal) signal.first ≡ true = subst (λ xs. contains xs signal.first ≡ true) (sym bits) (or_left (signal.first == signal.first) false (eq-eqb signal.first signal.first refl)) in
    record {
      from = s.first;
      to = signal.first;
      from_net = o.3;
      to_net = to;
      apart = λ q. apart s.first (subst (λ m. contains (bits_of_signal signal) m ≡ true) q has_to) has_from;
      reads_one = λ b z. one_listed s.first b (subst (λ xs. contains xs b ≡ true) reads z);
      reads_it = has_from;
      writes_one = λ b z. one_listed signal.first b (subst (λ xs. contains xs b ≡ true) bits z);
      writes_it = has_to;
      copies = λ r. copy signal s e r f k o.2;
    }

same_assign : (place place' target_place target_place' : ℕ) (port port' : Port) (t t' : Target) (e e' : Expression) → Continuous place port target_place t e ≡ Continuous place' port' target_place' t' e' → (t ≡ t') × (e ≡ e')
same_assign place place' target_place target_place' port port' t t' e e' h = (cc, cc)

pub clock_port : (nets : List ℕ) (place target_place : ℕ) (port : Port) (t : Target) (e : Expression) → PortFacts nets (Continuous place port target_place t e) → ((b : ℕ) → contains (port_target nets (Continuous place port target_place t e)) b ≡ true → contains nets b ≡ true)
    → ((b : ℕ) → contains (target_bits t) b ≡ true → contains (target_reads t ++ read_bits e) b ≡ true → ⊥)
    → IsClockPort (contains nets) (N.Assign (contains (target_reads t ++ read_bits e)) (contains (target_bits t)) (assignment_writes t e))
clock_port nets place target_place port t e f to apart =
    let q = same_assign place f.place target_place f.target_place port f.port t (Whole f.signal) e f.e f.is in
    let to' = to f.signal.first (subst (λ xs. contains xs f.signal.first ≡ true) (sym (port_value nets (Continuous place port target_place t e) f)) (or_left (f.signal.first == f.signal.first) false (eq-eqb f.signal.first f.signal.first refl))) in
    let P : Target → Expression → Type 0 = λ t e. ((b : ℕ) → contains (target_bits t) b ≡ true → contains (target_reads t ++ read_bits e) b ≡ true → ⊥) → IsClockPort (contains nets) (N.Assign (contains (target_reads t ++ read_bits e)) (contains (target_bits t)) (assignment_writes t e)) in
    let base : P (Whole f.signal) f.e = λ apart. port_copies nets f.signal f.e f.from (eqb-true (signal_length f.signal) 1 f.one_bit) to' apart in
    subst (λ y. P t y) (sym q.1) (subst (λ x. P x f.e) (sym q.0) base) apart
