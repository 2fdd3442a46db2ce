-- The lists of a plan, element by element.
use Rattle.std.proofs.Common.{◌≡◌, ℕ, zero, suc, ◌+◌, ◌<◌, ◌≤◌, Bool, true, false, not, List, [], ◌∷◌, ◌++◌, ◌||◌, if◌then◌else◌, length, get_or, take, slice_get, sym, ap, ◌∙◌, subst, refl, arith, append_assoc, append-nil}
use Rattle.std.specs.List.{filter}
use Rattle.std.proofs.lemmas.List.Elements.{All-append, filter-append, filter_more}
use Rattle.vs_design.specs.Values.{count_from}
use Rattle.vs_design.specs.Designs.{Process, is_clocked, Design}
use Rattle.vs_design.specs.Footprints.{ascending, contains}
use Rattle.vs_design.specs.Clocks.{clock_nets}
use Rattle.vs_design.specs.Sizes.{register_bits}
use Rattle.vs_cone.specs.Cones.{but_ports, is_port_or, writes_or}
use Rattle.vs_cone.specs.Counts.{clocked_from}
use Rattle.vs_cone.specs.Given.{bits_of_resets}
use Rattle.vs_assemble.specs.Flags.{AreFlags, HasBitsOf}
use Rattle.vs_assemble.specs.Plans.{is_clocked_or, reset_bits_or}
use Rattle.vs_assemble.proofs.Lists.{by_test, contains-append}

-- one more of an order, which is no port, or is one
pub ports_kept : (d : Design) (clocks : List ℕ) (order : List ℕ) (n : ℕ) → n < length order → is_port_or (clock_nets d clocks) (slice_get d.processes (get_or order n 0)) ≡ false
    → but_ports d clocks (take (n + 1) order) ≡ but_ports d clocks (take n order) ++ get_or order n 0 ∷ []
ports_kept d clocks order n l e =
    let p : ℕ = get_or order n 0 in
    filter_more (λ q. not (is_port_or (clock_nets d clocks) (slice_get d.processes q))) order n 0 l
    ∙ ap (λ (c : Bool). but_ports d clocks (take n order) ++ (if not c then (p ∷ []) else [])) e

pub ports_left : (d : Design) (clocks : List ℕ) (order : List ℕ) (n : ℕ) → n < length order → is_port_or (clock_nets d clocks) (slice_get d.processes (get_or order n 0)) ≡ true
    → but_ports d clocks (take (n + 1) order) ≡ but_ports d clocks (take n order)
ports_left d clocks order n l e =
    let p : ℕ = get_or order n 0 in
    filter_more (λ q. not (is_port_or (clock_nets d clocks) (slice_get d.processes q))) order n 0 l
    ∙ ap (λ (c : Bool). but_ports d clocks (take n order) ++ (if not c then (p ∷ []) else [])) e
    ∙ append-nil (but_ports d clocks (take n order))

-- one more process, which is clocked or isn't
clocked_next : (k n : ℕ) (xs : List Process) → n < length xs → clocked_from k (take (suc n) xs) ≡ clocked_from k (take n xs) ++ (if is_clocked_or (slice_get xs n) then ((k + n) ∷ []) else [])
clocked_next k n [] l = absurd (omega (arith, l))
clocked_next k zero (x ∷ xs) l =
    let same : k ≡ k + 0 = omega arith in
    ap (λ j. if is_clocked x then (j ∷ []) else []) same
clocked_next k (suc n) (x ∷ xs) l =
    let rest = clocked_next (suc k) n xs (omega (arith, l)) in
    let same : suc k + n ≡ k + suc n = omega arith in
    let next = rest ∙ ap (λ j. clocked_from (suc k) (take n xs) ++ (if is_clocked_or (slice_get xs n) then (j ∷ []) else [])) same in
    by_test (is_clocked x)
    (λ e. rw e (ap (λ (ps : List ℕ). k ∷ ps) next))
    (λ e. rw e next)

pub clocked_more : (d : Design) (n : ℕ) → n < length d.processes → is_clocked_or (slice_get d.processes n) ≡ true → clocked_from 0 (take (n + 1) d.processes) ≡ clocked_from 0 (take n d.processes) ++ n ∷ []
clocked_more d n l e =
    let at : n + 1 ≡ suc n = omega arith in
    let same : 0 + n ≡ n = omega arith in
    ap (λ j. clocked_from 0 (take j d.processes)) at ∙ clocked_next 0 n d.processes l
    ∙ ap (λ (c : Bool). clocked_from 0 (take n d.processes) ++ (if c then ((0 + n) ∷ []) else [])) e
    ∙ ap (λ j. clocked_from 0 (take n d.processes) ++ j ∷ []) same

pub clocked_same : (d : Design) (n : ℕ) → n < length d.processes → is_clocked_or (slice_get d.processes n) ≡ false → clocked_from 0 (take (n + 1) d.processes) ≡ clocked_from 0 (take n d.processes)
clocked_same d n l e =
    let at : n + 1 ≡ suc n = omega arith in
    ap (λ j. clocked_from 0 (take j d.processes)) at ∙ clocked_next 0 n d.processes l
    ∙ ap (λ (c : Bool). clocked_from 0 (take n d.processes) ++ (if c then ((0 + n) ∷ []) else [])) e
    ∙ append-nil (clocked_from 0 (take n d.processes))

-- the registers of one more process
registers_next : (n : ℕ) (xs : List Process) → n < length xs → register_bits (take (suc n) xs) ≡ register_bits (take n xs) ++ (if is_clocked_or (slice_get xs n) then writes_or (slice_get xs n) else [])
registers_next n [] l = absurd (omega (arith, l))
registers_next zero (x ∷ xs) l = append-nil (if is_clocked x then writes_or (Rattle.std.proofs.Common.Some x) else [])
registers_next (suc n) (x ∷ xs) l =
    ap (λ (bs : List ℕ). (if is_clocked x then writes_or (Rattle.std.proofs.Common.Some x) else []) ++ bs) (registers_next n xs (omega (arith, l)))
    ∙ sym (append_assoc (if is_clocked x then writes_or (Rattle.std.proofs.Common.Some x) else []) (register_bits (take n xs)) (if is_clocked_or (slice_get xs n) then writes_or (slice_get xs n) else []))

or_swap : (u v : Bool) → (u || v) ≡ (v || u)
or_swap true true = refl
or_swap true false = refl
or_swap false true = refl
or_swap false false = refl

pub registers_more : (d : Design) (n : ℕ) (bits : List ℕ) → n < length d.processes → is_clocked_or (slice_get d.processes n) ≡ true
    → ((b : ℕ) → contains bits b ≡ contains (writes_or (slice_get d.processes n)) b)
    → (b : ℕ) → contains (bits ++ register_bits (take n d.processes)) b ≡ contains (register_bits (take (n + 1) d.processes)) b
registers_more d n bits l e same b =
    let at : n + 1 ≡ suc n = omega arith in
    contains-append bits (register_bits (take n d.processes)) b
    ∙ ap (λ c. c || contains (register_bits (take n d.processes)) b) (same b)
    ∙ or_swap (contains (writes_or (slice_get d.processes n)) b) (contains (register_bits (take n d.processes)) b)
    ∙ sym (ap (λ j. contains (register_bits (take j d.processes)) b) at
    ∙ ap (λ bs. contains bs b) (registers_next n d.processes l ∙ ap (λ (c : Bool). register_bits (take n d.processes) ++ (if c then writes_or (slice_get d.processes n) else [])) e)
    ∙ contains-append (register_bits (take n d.processes)) (writes_or (slice_get d.processes n)) b)

pub registers_same : (d : Design) (n : ℕ) → n < length d.processes → is_clocked_or (slice_get d.processes n) ≡ false → register_bits (take (n + 1) d.processes) ≡ register_bits (take n d.processes)
registers_same d n l e =
    let at : n + 1 ≡ suc n = omega arith in
    ap (λ j. register_bits (take j d.processes)) at ∙ registers_next n d.processes l
    ∙ ap (λ (c : Bool). register_bits (take n d.processes) ++ (if c then writes_or (slice_get d.processes n) else [])) e
    ∙ append-nil (register_bits (take n d.processes))

-- numbers counted up
pub count_next : (first n : ℕ) → count_from first (suc n) ≡ count_from first n ++ (first + n) ∷ []
count_next first zero = let same : first ≡ first + 0 = omega arith in ap (λ j. j ∷ []) same
count_next first (suc n) =
    let same : suc first + n ≡ first + suc n = omega arith in
    ap (λ (ns : List ℕ). first ∷ ns) (count_next (suc first) n ∙ ap (λ j. count_from (suc first) n ++ j ∷ []) same)

flag_next : (flags : List Bool) (set : List ℕ) (n : ℕ) → n < length flags → AreFlags flags set
    → filter (contains set) (count_from 0 (n + 1)) ≡ filter (contains set) (count_from 0 n) ++ (if get_or flags n false then (n ∷ []) else [])
flag_next flags set n l are =
    let at : n + 1 ≡ suc n = omega arith in
    let same : 0 + n ≡ n = omega arith in
    ap (λ j. filter (contains set) (count_from 0 j)) at
    ∙ ap (filter (contains set)) (count_next 0 n ∙ ap (λ j. count_from 0 n ++ j ∷ []) same)
    ∙ filter-append (contains set) (count_from 0 n) (n ∷ [])
    ∙ ap (λ (c : Bool). filter (contains set) (count_from 0 n) ++ (if c then (n ∷ []) else [])) (sym (are.flag n l))

pub flag_more : (flags : List Bool) (set : List ℕ) (n : ℕ) → n < length flags → AreFlags flags set → get_or flags n false ≡ true
    → ascending (n + 1) set ≡ ascending n set ++ n ∷ []
flag_more flags set n l are e = flag_next flags set n l are ∙ ap (λ (c : Bool). ascending n set ++ (if c then (n ∷ []) else [])) e

pub flag_same : (flags : List Bool) (set : List ℕ) (n : ℕ) → n < length flags → AreFlags flags set → get_or flags n false ≡ false
    → ascending (n + 1) set ≡ ascending n set
flag_same flags set n l are e = flag_next flags set n l are ∙ ap (λ (c : Bool). ascending n set ++ (if c then (n ∷ []) else [])) e ∙ append-nil (ascending n set)

-- the bits that the resets of one more process set
resets_next : (d : Design) (clocks : List ℕ) (n : ℕ) (xs : List Process) → n < length xs → bits_of_resets d clocks (take (suc n) xs) ≡ bits_of_resets d clocks (take n xs) ++ reset_bits_or d clocks (slice_get xs n)
resets_next d clocks n [] l = absurd (omega (arith, l))
resets_next d clocks zero (x ∷ xs) l = append-nil (reset_bits_or d clocks (Rattle.std.proofs.Common.Some x))
resets_next d clocks (suc n) (x ∷ xs) l =
    ap (λ (bs : List ℕ). reset_bits_or d clocks (Rattle.std.proofs.Common.Some x) ++ bs) (resets_next d clocks n xs (omega (arith, l)))
    ∙ sym (append_assoc (reset_bits_or d clocks (Rattle.std.proofs.Common.Some x)) (bits_of_resets d clocks (take n xs)) (reset_bits_or d clocks (slice_get xs n)))

pub resets_more : (d : Design) (clocks : List ℕ) (n count : ℕ) (inputs bits more : List ℕ) → n < length d.processes
    → HasBitsOf count bits (inputs ++ bits_of_resets d clocks (take n d.processes)) → HasBitsOf count more (reset_bits_or d clocks (slice_get d.processes n))
    → HasBitsOf count (bits ++ more) (inputs ++ bits_of_resets d clocks (take (n + 1) d.processes))
resets_more d clocks n count inputs bits more l h k = record {
  same = λ b.
      let at : n + 1 ≡ suc n = omega arith in
      let here : List ℕ = bits_of_resets d clocks (take n d.processes) in
      contains-append bits more b
      ∙ ap (λ c. c || contains more b) (h.same b)
      ∙ ap (λ c. contains (inputs ++ here) b || c) (k.same b)
      ∙ sym (contains-append (inputs ++ here) (reset_bits_or d clocks (slice_get d.processes n)) b)
      ∙ ap (λ bs. contains bs b) (append_assoc inputs here (reset_bits_or d clocks (slice_get d.processes n)) ∙ ap (λ (bs : List ℕ). inputs ++ bs) (sym (resets_next d clocks n d.processes l)))
      ∙ sym (ap (λ j. contains (inputs ++ bits_of_resets d clocks (take j d.processes)) b) at);
  below = All-append (λ b. b < count) bits more h.below k.below;
}
