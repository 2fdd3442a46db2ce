-- The clocks that aren't bits of the design, as writers behind the inputs of the top, and the block that keeps what initial processes alone write, behind that.
use Rattle.std.proofs.Common.{◌≡◌, ℕ, zero, suc, ◌+◌, ◌<◌, ◌≤◌, Bool, true, false, not, if◌then◌else◌, List, [], ◌∷◌, ◌++◌, map, length, get_or, take, drop, replicate, ◌||◌, ◌==◌, subst, eqb-true, eq-eqb, refl, sym, ap, ap₂, ◌∙◌, arith, length-append, append_assoc, Option, Some, None}
use Rattle.std.specs.Prelude.{nat_lt, nat_le}
use Rattle.std.specs.List.{list_any}
use mathlib.Core.Path.{fun_ext}
use Rattle.std.proofs.lemmas.Bool.{ltb-true, leb-true, le-leb}
use Rattle.std.proofs.lemmas.List.{length-map, take_more, take_all}
use Rattle.vs_four.specs.declared.Bit4.{Bit4}
use Rattle.vs_four.specs.declared.Bit4.TheVariants.{X}
use Rattle.vs_net.specs.Network.{Update}
use Rattle.vs_net.specs.Network as N
use Rattle.vs_net.specs.Queue.{Slot, Fall, Rise, drive}
use Rattle.vs_design.specs.Designs.{Design, bit_count, top_inputs}
use Rattle.vs_design.specs.Clocks.{clock_bits, first_clock, clock_inputs, and_inputs, named_input, named_inputs, same_name, spare_clock}
use Rattle.vs_design.specs.Expressions.{Signal}
use Rattle.vs_design.specs.Footprints.{contains}
use Rattle.vs_design.specs.Initials.{sole_bits}
use Rattle.vs_design.specs.RefusalLaws.{is_some_of}
use Rattle.vs_design.specs.Networks.{network_of, process_of, writer_of, spare_clocks, spare_writers, keeper_of, all_processes}
use Rattle.vs_writes.specs.Held.{state_of}
use Rattle.vs_events.specs.declared.beginning.Role.{Role}
use Rattle.vs_events.specs.declared.beginning.Role.TheVariants as R
use Rattle.vs_events.specs.Held.{Events, after_drive}
use Rattle.vs_events.specs.Beginning.{after_drives}
use Rattle.vs_queue.specs.Beginnings.{roles_of, driven_roles, all_roles}
use Rattle.vs_queue.specs.Driven.{Vector, IsSlotOf, each_drive, clock_drives, spare_drives}
use Rattle.vs_queue.specs.Given.{given}
use Rattle.vs_queue.specs.Left.{level_of}
use Rattle.vs_queue.specs.Spare.{alone, spare_count, value_count, has_keeper, keeper_count, keeper_at}

pub spare_writer : (d : Design) (clocks : List ℕ) → length (spare_writers d clocks) ≡ spare_count d clocks
unfolding spare_count
spare_writer d clocks = length-map (spare_clocks d clocks) N.Clock

same_list : (xs ys : List Signal) → Some xs ≡ Some ys → xs ≡ ys
same_list xs ys e = cc

-- where all are bits of the design none is spare
pub no_spares : (d : Design) (cs : List ℕ) → ((c : ℕ) → contains cs c ≡ true → c < bit_count d) → spare_clocks d cs ≡ []
no_spares d [] h = refl
no_spares d (c ∷ cs) h =
    ap (λ (t : Bool). if not t then (c ∷ spare_clocks d cs) else spare_clocks d cs) (below c (bit_count d) (h c (ap (λ t. t || contains cs c) (eq-eqb c c refl))))
    ∙ no_spares d cs (λ b k. h b (or_right (b == c) (contains cs b) k))
  where
    below : (m n : ℕ) → m < n → nat_lt m n ≡ true
    below m n l = grind arith

    or_right : (u v : Bool) → v ≡ true → (u || v) ≡ true
    or_right true v k = refl
    or_right false v k = k

-- a clock beyond the design's bits is one of the spare ones
spare_there : (d : Design) (cs : List ℕ) (c : ℕ) → contains cs c ≡ true → nat_lt c (bit_count d) ≡ false → 1 ≤ length (spare_clocks d cs)
spare_there d [] c h off = cc
spare_there d (k ∷ cs) c h off = by_bit (c == k) refl h (λ has. spare_there d cs c has off)
  where
    more : 1 ≤ length (spare_clocks d cs) → (t : Bool) → 1 ≤ length (if t then (k ∷ spare_clocks d cs) else spare_clocks d cs)
    more l true = omega (arith, l)
    more l false = l

    by_bit : (t : Bool) → (c == k) ≡ t → (t || contains cs c) ≡ true → (contains cs c ≡ true → 1 ≤ length (spare_clocks d cs)) → 1 ≤ length (spare_clocks d (k ∷ cs))
    by_bit true e h later = subst (λ (t : Bool). 1 ≤ length (if not t then (k ∷ spare_clocks d cs) else spare_clocks d cs)) (sym (subst (λ m. nat_lt m (bit_count d) ≡ false) (eqb-true c k e) off)) (omega arith)
    by_bit false e h later = more (later h) (not (nat_lt k (bit_count d)))

pub spare_length : (d : Design) (clocks : List ℕ) → length (spare_clocks d clocks) ≡ spare_count d clocks
unfolding spare_count
spare_length d clocks = refl

-- a spare clock is one of the clocks
pub spare_among : (d : Design) (cs : List ℕ) (c : ℕ) → contains (spare_clocks d cs) c ≡ true → contains cs c ≡ true
spare_among d [] c h = cc
spare_among d (k ∷ cs) c h = by_own (nat_lt k (bit_count d)) refl (λ has. spare_among d cs c has)
  where
    or_right : (u v : Bool) → v ≡ true → (u || v) ≡ true
    or_right true v k = refl
    or_right false v k = k

    by_bit : (t : Bool) → (c == k) ≡ t → (t || contains (spare_clocks d cs) c) ≡ true → (contains (spare_clocks d cs) c ≡ true → contains cs c ≡ true) → (t || contains cs c) ≡ true
    by_bit true e h later = refl
    by_bit false e h later = later h

    by_own : (t : Bool) → nat_lt k (bit_count d) ≡ t → (contains (spare_clocks d cs) c ≡ true → contains cs c ≡ true) → contains (k ∷ cs) c ≡ true
    by_own true e later = or_right (c == k) (contains cs c) (later (subst (λ (t : Bool). contains (if not t then (k ∷ spare_clocks d cs) else spare_clocks d cs) c ≡ true) e h))
    by_own false e later = by_bit (c == k) refl (subst (λ (t : Bool). contains (if not t then (k ∷ spare_clocks d cs) else spare_clocks d cs) c ≡ true) e h) later

-- the first clock is one of them
pub first_there : (d : Design) (names : List (List ℕ)) (ss : List Signal) → clock_inputs d names ≡ Some ss → contains (clock_bits ss) (first_clock (clock_bits ss)) ≡ true
first_there d [] ss is = subst (λ (xs : List Signal). contains (clock_bits xs) (first_clock (clock_bits xs)) ≡ true) (same_list (spare_clock d ∷ []) ss is) (ap (λ t. t || false) (eq-eqb (bit_count d) (bit_count d) refl))
first_there d (name ∷ names) ss is = by_twice (list_any (same_name name) names) refl
  where
    split : (o : Option Signal) (q : Option (List Signal)) → and_inputs o q ≡ Some ss → contains (clock_bits ss) (first_clock (clock_bits ss)) ≡ true
    split None q e = absurd (let z : ⊥ = cc in z)
    split (Some s) None e = absurd (let z : ⊥ = cc in z)
    split (Some s) (Some more) e = subst (λ (xs : List Signal). contains (clock_bits xs) (first_clock (clock_bits xs)) ≡ true) (same_list (s ∷ more) ss e) (ap (λ t. t || contains (clock_bits more) s.first) (eq-eqb s.first s.first refl))

    by_twice : (t : Bool) → list_any (same_name name) names ≡ t → contains (clock_bits ss) (first_clock (clock_bits ss)) ≡ true
    by_twice true t = absurd (let e : None ≡ Some ss = subst (λ (b : Bool). (if b then None else and_inputs (named_input d name) (named_inputs d names)) ≡ Some ss) t is in cc)
    by_twice false t = split (named_input d name) (named_inputs d names) (subst (λ (b : Bool). (if b then None else and_inputs (named_input d name) (named_inputs d names)) ≡ Some ss) t is)

pub keeper_one : (d : Design) → has_keeper d ≡ true → keeper_count d ≡ 1
unfolding keeper_count
keeper_one d h = ap (λ (c : Bool). if c then 1 else 0) h

pub keeper_none : (d : Design) → has_keeper d ≡ false → keeper_count d ≡ 0
unfolding keeper_count
keeper_none d h = ap (λ (c : Bool). if c then 1 else 0) h

pub keeper_small : (d : Design) → keeper_count d ≤ 1
unfolding keeper_count
keeper_small d = go (has_keeper d)
  where
    go : (c : Bool) → (if c then 1 else 0) ≤ 1
    go true = omega arith
    go false = omega arith

keeper_length : (clocks : List ℕ) (bs : List ℕ) → length (keeper_of clocks bs) ≡ (if is_some_of bs then 1 else 0)
keeper_length clocks [] = refl
keeper_length clocks (b ∷ bs) = refl

keeper_writer : (d : Design) (clocks : List ℕ) → length (keeper_of clocks (sole_bits d)) ≡ keeper_count d
unfolding keeper_count
keeper_writer d clocks = keeper_length clocks (sole_bits d)

pub network_count : (d : Design) (clocks : List ℕ) → (network_of d clocks).count ≡ length d.processes + (length (top_inputs d) + (spare_count d clocks + keeper_count d))
network_count d clocks =
    length-append (map (process_of d clocks) d.processes) (map (writer_of clocks) (top_inputs d) ++ (spare_writers d clocks ++ keeper_of clocks (sole_bits d)))
    ∙ ap₂ ◌+◌ (length-map d.processes (process_of d clocks)) (length-append (map (writer_of clocks) (top_inputs d)) (spare_writers d clocks ++ keeper_of clocks (sole_bits d))
    ∙ ap₂ ◌+◌ (length-map (top_inputs d) (writer_of clocks)) (length-append (spare_writers d clocks) (keeper_of clocks (sole_bits d)) ∙ ap₂ ◌+◌ (spare_writer d clocks) (keeper_writer d clocks)))

-- how many stand before the block that keeps what initial processes alone write
pub before_keeper : (d : Design) (clocks : List ℕ) → length (map (process_of d clocks) d.processes ++ (map (writer_of clocks) (top_inputs d) ++ spare_writers d clocks)) ≡ keeper_at d clocks
before_keeper d clocks =
    length-append (map (process_of d clocks) d.processes) (map (writer_of clocks) (top_inputs d) ++ spare_writers d clocks)
    ∙ ap₂ ◌+◌ (length-map d.processes (process_of d clocks)) (length-append (map (writer_of clocks) (top_inputs d)) (spare_writers d clocks) ∙ ap₂ ◌+◌ (length-map (top_inputs d) (writer_of clocks)) (spare_writer d clocks))

-- all others, and then that block
pub with_keeper : (d : Design) (clocks : List ℕ) → (map (process_of d clocks) d.processes ++ (map (writer_of clocks) (top_inputs d) ++ spare_writers d clocks)) ++ keeper_of clocks (sole_bits d) ≡ all_processes d clocks
with_keeper d clocks =
    append_assoc (map (process_of d clocks) d.processes) (map (writer_of clocks) (top_inputs d) ++ spare_writers d clocks) (keeper_of clocks (sole_bits d))
    ∙ ap (λ (ws : List N.Process). map (process_of d clocks) d.processes ++ ws) (append_assoc (map (writer_of clocks) (top_inputs d)) (spare_writers d clocks) (keeper_of clocks (sole_bits d)))

-- a clock that isn't behind the bits has a value
pub clock_valued : (d : Design) (clocks : List ℕ) (c : ℕ) → contains clocks c ≡ true → c ≤ bit_count d → c < value_count d clocks
unfolding spare_count
clock_valued d clocks c has l = go (nat_lt c (bit_count d)) refl
  where
    go : (t : Bool) → nat_lt c (bit_count d) ≡ t → c < value_count d clocks
    go true h = let k = ltb-true c (bit_count d) h in omega (arith, k)
    go false h = let some = spare_there d clocks c has h in omega (arith, l, some)

less_not : (m n : ℕ) → nat_lt m n ≡ false → n ≤ m
less_not m n h = grind arith

-- ---- the one that is spare

is_less : (m n : ℕ) → m < n → nat_lt m n ≡ true
is_less m n l = grind arith

not_less : (m n : ℕ) → n ≤ m → nat_lt m n ≡ false
not_less m n l = grind arith

spares_append : (d : Design) (xs ys : List ℕ) → spare_clocks d (xs ++ ys) ≡ spare_clocks d xs ++ spare_clocks d ys
spares_append d [] ys = refl
spares_append d (x ∷ xs) ys = go (not (nat_lt x (bit_count d))) (spares_append d xs ys)
  where
    go : (t : Bool) → spare_clocks d (xs ++ ys) ≡ spare_clocks d xs ++ spare_clocks d ys → (if t then (x ∷ spare_clocks d (xs ++ ys)) else spare_clocks d (xs ++ ys)) ≡ (if t then (x ∷ spare_clocks d xs) else spare_clocks d xs) ++ spare_clocks d ys
    go true e = ap (λ (cs : List ℕ). x ∷ cs) e
    go false e = e

parted_at : (cs : List ℕ) (i : ℕ) → i < length cs → cs ≡ take i cs ++ get_or cs i 0 ∷ drop (suc i) cs
parted_at [] i l = absurd (omega (arith, l))
parted_at (c ∷ cs) zero l = refl
parted_at (c ∷ cs) (suc i) l = ap (λ (ks : List ℕ). c ∷ ks) (parted_at cs i (omega (arith, l)))

empty_of : (xs : List ℕ) → length xs ≡ 0 → xs ≡ []
empty_of [] h = refl
empty_of (x ∷ xs) h = absurd (omega (arith, h))

-- none of those before this one is spare
pub spare_here : (d : Design) (cs : List ℕ) (i c : ℕ) → c ≡ get_or cs i 0 → i < length cs → spare_count d cs ≤ 1 → spare_clocks d (take i cs) ≡ [] → bit_count d ≤ c → spare_clocks d cs ≡ alone (Some c)
unfolding spare_count
spare_here d cs i c is l one before past = whole ∙ ap (λ (ks : List ℕ). c ∷ ks) (empty_of later none)
  where
    later : List ℕ
    later = spare_clocks d (drop (suc i) cs)

    whole : spare_clocks d cs ≡ c ∷ later
    whole =
        ap (spare_clocks d) (parted_at cs i l ∙ ap (λ (k : ℕ). take i cs ++ k ∷ drop (suc i) cs) (sym is))
        ∙ (spares_append d (take i cs) (c ∷ drop (suc i) cs)
        ∙ (ap (λ (ks : List ℕ). ks ++ spare_clocks d (c ∷ drop (suc i) cs)) before
        ∙ ap (λ (t : Bool). if not t then (c ∷ later) else later) (not_less c (bit_count d) past)))

    none : length later ≡ 0
    none = let n = ap length whole in omega (arith, n, one)

pub spare_more : (d : Design) (cs : List ℕ) (i c : ℕ) → c ≡ get_or cs i 0 → i < length cs → spare_clocks d (take i cs) ≡ [] → c < bit_count d → spare_clocks d (take (i + 1) cs) ≡ []
spare_more d cs i c is l before below =
    ap (spare_clocks d) (take_more cs i 0 l ∙ ap (λ (k : ℕ). take i cs ++ k ∷ []) (sym is))
    ∙ (spares_append d (take i cs) (c ∷ [])
    ∙ (ap (λ (ks : List ℕ). ks ++ spare_clocks d (c ∷ [])) before
    ∙ ap (λ (t : Bool). if not t then (c ∷ []) else []) (is_less c (bit_count d) below)))

pub spare_nowhere : (d : Design) (cs : List ℕ) (i : ℕ) → length cs ≤ i → spare_clocks d (take i cs) ≡ [] → spare_clocks d cs ≡ alone None
spare_nowhere d cs i l none = ap (spare_clocks d) (sym (take_all i cs l)) ∙ none

pub at_least : (a b : ℕ) → nat_le b a ≡ not (nat_lt a b)
at_least a b = go (nat_lt a b) (nat_le b a) refl refl
  where
    go : (c e : Bool) → nat_lt a b ≡ c → nat_le b a ≡ e → e ≡ not c
    go true true h k = let l = ltb-true a b h in let m = leb-true b a k in absurd (omega (arith, l, m))
    go true false h k = refl
    go false true h k = refl
    go false false h k = sym k ∙ le-leb b a (less_not a b h)

-- ---- its value

at_more : (vs : List Bit4) (b : ℕ) → get_or (vs ++ X ∷ []) b X ≡ get_or vs b X
at_more [] zero = refl
at_more [] (suc b) = refl
at_more (v ∷ vs) zero = refl
at_more (v ∷ vs) (suc b) = at_more vs b

pub state_more : (vs now : List Bit4) → now ≡ vs ++ X ∷ [] → state_of now ≡ state_of vs
state_more vs now h = ap state_of h ∙ fun_ext (λ b. at_more vs b)

pub long_more : (vs now : List Bit4) → now ≡ vs ++ X ∷ [] → length now ≡ length vs + 1
long_more vs now h = ap length h ∙ length-append vs (X ∷ [])

-- ---- its role

pub roles_begun : (d : Design) → roles_of d ≡ roles_of d ++ replicate 0 R.Input
roles_begun d = none_more (roles_of d)
  where
    none_more : (rs : List Role) → rs ≡ rs ++ []
    none_more [] = refl
    none_more (r ∷ rs) = ap (λ (xs : List Role). r ∷ xs) (none_more rs)

pub roles_more : (d : Design) (k : ℕ) (rs now : List Role) → rs ≡ roles_of d ++ replicate k R.Input → now ≡ rs ++ R.Input ∷ [] → now ≡ roles_of d ++ replicate (k + 1) R.Input
roles_more d k rs now h is =
    is ∙ ap (λ (xs : List Role). xs ++ R.Input ∷ []) h ∙ append_assoc (roles_of d) (replicate k R.Input) (R.Input ∷ []) ∙ ap (λ (xs : List Role). roles_of d ++ xs) (one_more k ∙ ap (λ n. replicate n R.Input) (let e : suc k ≡ k + 1 = omega arith in e))
  where
    one_more : (k : ℕ) → replicate k R.Input ++ R.Input ∷ [] ≡ replicate (suc k) R.Input
    one_more zero = refl
    one_more (suc k) = ap (λ (xs : List Role). R.Input ∷ xs) (one_more k)

-- and that of the block behind it
pub keeper_more : (d : Design) (clocks : List ℕ) (c : Bool) → c ≡ has_keeper d → c ≡ true → driven_roles d clocks ++ R.Block ∷ [] ≡ all_roles d clocks
keeper_more d clocks c h k = ap (λ (b : Bool). if b then driven_roles d clocks ++ R.Block ∷ [] else driven_roles d clocks) (sym k ∙ h)

pub keeper_same : (d : Design) (clocks : List ℕ) (c : Bool) → c ≡ has_keeper d → c ≡ false → driven_roles d clocks ≡ all_roles d clocks
keeper_same d clocks c h k = ap (λ (b : Bool). if b then driven_roles d clocks ++ R.Block ∷ [] else driven_roles d clocks) (sym k ∙ h)

-- ---- its update

-- it falls with a vector, and rises without one
pub clock_given : (d : Design) (clocks : List ℕ) (clock : ℕ) (vector : Option Vector) (slot : Slot) → IsSlotOf d clocks vector slot → drive (N.Clock clock) slot ≡ given clock (level_of vector ∷ []) ∷ []
clock_given d clocks clock (Some vector) (Fall v) h = refl
clock_given d clocks clock (Some vector) Rise h = absurd h
clock_given d clocks clock None Rise h = refl
clock_given d clocks clock None (Fall v) h = absurd h

pub spare_driven : (d : Design) (clocks : List ℕ) (clock : ℕ) (vector : Option Vector) (slot : Slot) (e now : Events) (p : ℕ) (u : Update) → IsSlotOf d clocks vector slot → spare_clocks d clocks ≡ alone (Some clock) → p ≡ length d.processes + length (top_inputs d) → u ≡ given clock (level_of vector ∷ []) → now ≡ after_drive e p u
    → now ≡ after_drives e (spare_drives d clocks slot)
spare_driven d clocks clock vector slot e now p u h c at is driven =
    let q = length d.processes + length (top_inputs d) in
    driven ∙ ap₂ (after_drive e) at is
    ∙ ap (λ (us : List Update). after_drives e (each_drive q us ++ [])) (sym (clock_given d clocks clock vector slot h))
    ∙ ap (λ (cs : List ℕ). after_drives e (clock_drives slot q cs)) (sym c)

pub spare_left : (d : Design) (clocks : List ℕ) (slot : Slot) (e : Events) → spare_clocks d clocks ≡ alone None → e ≡ after_drives e (spare_drives d clocks slot)
spare_left d clocks slot e c = ap (λ (cs : List ℕ). after_drives e (clock_drives slot (length d.processes + length (top_inputs d)) cs)) (sym c)
