-- The calls do what the reset does.
use Rattle.std.proofs.Common.{◌≡◌, ◌≢◌, ℕ, zero, suc, ◌+◌, ◌^◌, ◌<◌, ◌≤◌, Bool, true, false, List, [], ◌∷◌, ◌++◌, ◌&&◌, ◌||◌, ◌==◌, nat_le, if◌then◌else◌, map, length, get_or, Option, Some, None, sym, ap, ◌∙◌, subst, refl, arith, eqb-true, eq-eqb, slice_get}
use Rattle.std.specs.Prelude.{All, sum_by}
use Rattle.std.proofs.lemmas.Bool.{both_ways}
use Rattle.std.proofs.lemmas.List.{length-map}
use Rattle.std.proofs.lemmas.List.Sums.{sum_by-cons}
use Rattle.std.proofs.lemmas.List.Elements.{All-nil, All-cons, All-append}
use Rattle.vs_four.specs.declared.Bit4.{Bit4}
use Rattle.vs_four.specs.declared.Bit4.TheVariants.{Zero, One, X, Z}
use Rattle.vs_four.specs.Tables.{same, is_one}
use Rattle.vs_four.specs.Logic.{truth}
use Rattle.vs_net.specs.Network.{Edge, Posedge, Negedge, Reset, branch, Write, to_value, write_all, is_written, flatten}
use Rattle.vs_design.specs.Clocks.{clock_bits}
use Rattle.vs_design.specs.Designs.{Process, is_clocked}
use Rattle.vs_design.specs.Footprints.{contains, writes_of}
use Rattle.vs_design.specs.Sizes.{distinct, process_weight, size}
use Rattle.vs_plane.specs.Kernels.{IsArgument}
use Rattle.vs_cone.specs.Lists.{HasEachOnce, FewAreApart}
use Rattle.vs_cone.specs.Given.{bits_of_reset}
use Rattle.vs_cone.specs.Sources.{SourcesAre, SourcesOfDesign}
use Rattle.vs_kern_logic.specs.declared.costs.Kernel.TheVariants.{Copy, LogicalNot}
use Rattle.vs_kern_select.specs.declared.costs.Kernel.TheVariants.{Branch}
use Rattle.vs_code.specs.declared.kernels.AnyKernel.TheVariants.{Logic, Select}
use Rattle.vs_code.specs.Kernels.{operator_of, takes, cost_of, room_of}
use Rattle.vs_code.specs.Calls.{Call, State, IsCall, AreCalled, call_cost, length_of, call_slots, slots_of}
use Rattle.vs_program.specs.Lowered.{Layout, home, bits_of, HasConstants, IsResetRun}
use Rattle.vs_reset.specs.Calls.{constant_slot, set_value, condition_kernel, condition_call, between, constants_of, choice_call, copy_call, NoneAreNeeded, ResetCallsAre}
use Rattle.vs_cone.specs.Writes.{WritesAre}
use Rattle.vs_reset.proofs.Lists.{by_test, in_first, in_rest, first_or, place_in, in_map, in_count, length-count, all_in, apart, none_apart, none_different, different, map_apart, count_apart}
use Rattle.vs_reset.proofs.Weights.{reset_wide}

-- ---- the condition

head : (v w : Bit4) → v ∷ [] ≡ w ∷ [] → v ≡ w
head v w e = cc

one_truth : (v : Bit4) → is_one (truth (v ∷ [])) ≡ same v One
one_truth Zero = refl
one_truth One = refl
one_truth X = refl
one_truth Z = refl

zero_truth : (v w : Bit4) → w ∷ [] ≡ operator_of (Logic LogicalNot) 1 ((v ∷ []) ∷ []) → is_one (truth (w ∷ [])) ≡ same v Zero
zero_truth Zero w e = ap (λ u. is_one (truth (u ∷ []))) (head w One e)
zero_truth One w e = ap (λ u. is_one (truth (u ∷ []))) (head w Zero e)
zero_truth X w e = ap (λ u. is_one (truth (u ∷ []))) (head w X e)
zero_truth Z w e = ap (λ u. is_one (truth (u ∷ []))) (head w X e)

condition_is : (edge : Edge) (v w : Bit4) → w ∷ [] ≡ operator_of (condition_kernel edge) 1 ((v ∷ []) ∷ []) → is_one (truth (w ∷ [])) ≡ same v (to_value edge)
condition_is Posedge v w e = ap (λ u. is_one (truth (u ∷ []))) (head w v e) ∙ one_truth v
condition_is Negedge v w e = zero_truth v w e

condition_takes : (edge : Edge) → takes (condition_kernel edge) (1 ∷ 1 ∷ []) ≡ true
condition_takes Posedge = refl
condition_takes Negedge = refl

condition_cost : (edge : Edge) → cost_of (condition_kernel edge) (1 ∷ 1 ∷ []) ≡ 1
condition_cost Posedge = refl
condition_cost Negedge = refl

condition_room : (edge : Edge) → room_of (condition_kernel edge) (1 ∷ 1 ∷ []) ≤ 0
condition_room Posedge = omega arith
condition_room Negedge = omega arith

pub le_true : (n : ℕ) → 1 ≤ n → nat_le 1 n ≡ true
le_true n h = grind arith

constant_low : (v : Bit4) → constant_slot v < 4
constant_low Zero = omega arith
constant_low One = omega arith
constant_low X = omega arith
constant_low Z = omega arith

constant_is : (s : State) → HasConstants s → (v : Bit4) → s (constant_slot v) ≡ v
constant_is s h Zero = h.zero
constant_is s h One = h.one
constant_is s h X = h.x
constant_is s h Z = h.z

pub map_same : (f g : State) (xs : List ℕ) → ((x : ℕ) → contains xs x ≡ true → f x ≡ g x) → map f xs ≡ map g xs
map_same f g [] h = refl
map_same f g (x ∷ xs) h = Rattle.std.proofs.Common.ap₂ (λ (v : Bit4) (vs : List Bit4). v ∷ vs) (h x (in_first x xs)) (map_same f g xs (λ y k. h y (in_rest x xs y k)))

pick : (g : ℕ → ℕ) (bs : List ℕ) (s t : State) (b : ℕ) → map t (map home bs) ≡ map s (map g bs) → contains bs b ≡ true → t (home b) ≡ s (g b)
pick g [] s t b e h = cc
pick g (c ∷ cs) s t b e h =
    first_or c cs b h
    (λ is. ap (λ z. t (home z)) is ∙ first e ∙ ap (λ z. s (g z)) (sym is))
    (λ k. pick g cs s t b (rest e) k)
  where
    first : map t (map home (c ∷ cs)) ≡ map s (map g (c ∷ cs)) → t (home c) ≡ s (g c)
    first e = cc

    rest : map t (map home (c ∷ cs)) ≡ map s (map g (c ∷ cs)) → map t (map home cs) ≡ map s (map g cs)
    rest e = cc

written : (ws : List Write) (b : ℕ) → contains (map (λ (w : Write). w.bit) ws) b ≡ is_written ws b
unfolding is_written
written [] b = refl
written (w ∷ ws) b = ap (λ c. (b == w.bit) || c) (written ws b)

-- the value that a reset gives, active or not
active_value : WritesAre → (r : Reset) (s : State) (b : ℕ) (v : Bit4) (c : Bool) → is_written (flatten (branch r)) b ≡ true → (if c then set_value r b else s b) ≡ write_all s (flatten (if c then branch r else [])) b
unfolding write_all flatten
active_value law r s b v true h = law.covered (flatten (branch r)) (λ c. X) s b h
active_value law r s b v false h = refl

idle_value : WritesAre → (r : Reset) (s : State) (b : ℕ) (c : Bool) → is_written (flatten (branch r)) b ≡ false → s b ≡ write_all s (flatten (if c then branch r else [])) b
unfolding write_all flatten
idle_value law r s b true h = sym (law.other (flatten (branch r)) s b h)
idle_value law r s b false h = refl

pub none_at : {P : Type 0} (k : ℕ) → k < length {A = ℕ} [] → P
none_at k l = absurd (omega arith)

module _ (law : WritesAre) (l : Layout) (r : Reset) (bits : List ℕ) (has : HasEachOnce (bits_of_reset (Some r)) bits) (temps : home l.bits ≤ l.first_temp) (input : r.input < l.bits) (low : (b : ℕ) → contains bits b ≡ true → b < l.bits) where
  set_is : (b : ℕ) → contains bits b ≡ is_written (flatten (branch r)) b
  set_is b = has.has b ∙ written (flatten (branch r)) b

  home_in : (s : ℕ) → contains (map home bits) s ≡ true → (4 ≤ s) × (s < home l.bits)
  home_in s h = let p = in_map home bits s h in let under = low p.0 p.1 in (omega (arith, p.2), omega (arith, p.2, under))

  between_in : (s : ℕ) → contains (between l bits) s ≡ true → (l.first_temp < s) × (s ≤ l.first_temp + length bits)
  between_in s h = let p = in_count (suc l.first_temp) (length bits) s h in (omega (arith, p.0), omega (arith, p.1))

  constant_in : (s : ℕ) → contains (constants_of r bits) s ≡ true → s < 4
  constant_in s h = let p = in_map (λ b. constant_slot (set_value r b)) bits s h in let under = constant_low (set_value r p.0) in omega (arith, p.2, under)

  homes_apart : (b c : ℕ) → home b ≡ home c → b ≡ c
  homes_apart b c e = omega (arith, e)

  -- what runs
  module _ (before after : State) (const : HasConstants before) (called : AreCalled (condition_call l r ∷ choice_call l r bits ∷ copy_call l bits ∷ []) before after) where
    abbrev m1 : State
    m1 = called.0

    abbrev rest1 : AreCalled (choice_call l r bits ∷ copy_call l bits ∷ []) m1 after
    rest1 = called.2

    abbrev m2 : State
    m2 = rest1.0

    abbrev rest2 : AreCalled (copy_call l bits ∷ []) m2 after
    rest2 = rest1.2

    abbrev m3 : State
    m3 = rest2.0

    last : (slot : ℕ) → after slot ≡ m3 slot
    last slot = rest2.2 slot

    kept1 : (slot : ℕ) → (slot ≡ l.first_temp → ⊥) → m1 slot ≡ before slot
    kept1 slot h = called.1.kept slot
        (λ u. first_or l.first_temp [] slot (place_in (l.first_temp ∷ []) u.0 slot u.1 u.2) (λ e. h e) (λ k. absurd (nothing k)))
        (λ u. none_at u.0 u.1)
      where
        nothing : contains [] slot ≡ true → ⊥
        nothing k = cc

    kept2 : (slot : ℕ) → (contains (between l bits) slot ≡ true → ⊥) → m2 slot ≡ m1 slot
    kept2 slot h = rest1.1.kept slot (λ u. h (place_in (between l bits) u.0 slot u.1 u.2)) (λ u. none_at u.0 u.1)

    kept3 : (slot : ℕ) → (contains (map home bits) slot ≡ true → ⊥) → m3 slot ≡ m2 slot
    kept3 slot h = rest2.1.kept slot (λ u. h (place_in (map home bits) u.0 slot u.1 u.2)) (λ u. none_at u.0 u.1)

    kept : (slot : ℕ) → slot < l.first_temp → (contains (map home bits) slot ≡ true → ⊥) → after slot ≡ before slot
    kept slot h k =
        last slot ∙ kept3 slot k
        ∙ kept2 slot (λ u. let p = between_in slot u in omega (arith, p.0, h))
        ∙ kept1 slot (λ e. omega (arith, e, h))

    active : Bool
    active = same (before (home r.input)) (to_value r.edge)

    condition : is_one (truth (m1 l.first_temp ∷ [])) ≡ same (before (home r.input)) (to_value r.edge)
    condition = condition_is r.edge (before (home r.input)) (m1 l.first_temp) called.1.value

    values : map m3 (map home bits) ≡ (if same (before (home r.input)) (to_value r.edge) then map before (constants_of r bits) else map before (map home bits))
    values =
        rest2.1.value
        ∙ rest1.1.value
        ∙ ap (λ (c : Bool). if c then map m1 (constants_of r bits) else map m1 (map home bits)) condition
        ∙ ap (λ (vs : List Bit4). if same (before (home r.input)) (to_value r.edge) then vs else map m1 (map home bits)) (map_same m1 before (constants_of r bits) (λ s h. kept1 s (λ e. let p = constant_in s h in omega (arith, e, p, temps))))
        ∙ ap (λ (vs : List Bit4). if same (before (home r.input)) (to_value r.edge) then map before (constants_of r bits) else vs) (map_same m1 before (map home bits) (λ s h. kept1 s (λ e. let p = home_in s h in omega (arith, e, p.1, temps))))

    set : (b : ℕ) → contains bits b ≡ true → m3 (home b) ≡ (if same (before (home r.input)) (to_value r.edge) then set_value r b else before (home b))
    set b h = by_test (same (before (home r.input)) (to_value r.edge))
        (λ e. pick (λ c. constant_slot (set_value r c)) bits before m3 b (values ∙ ap (λ (c : Bool). if c then map before (constants_of r bits) else map before (map home bits)) e) h
        ∙ constant_is before const (set_value r b)
        ∙ sym (ap (λ (c : Bool). if c then set_value r b else before (home b)) e))
        (λ e. pick home_of bits before m3 b (values ∙ ap (λ (c : Bool). if c then map before (constants_of r bits) else map before (map home bits)) e) h
        ∙ sym (ap (λ (c : Bool). if c then set_value r b else before (home b)) e))
      where
        home_of : ℕ → ℕ
        home_of b = home b

    ran : IsResetRun l (Some r) before after
    ran = record {
      bits = λ b h. by_test (contains bits b)
          (λ k. last (home b) ∙ set b k ∙ active_value law r (bits_of before) b X (same (before (home r.input)) (to_value r.edge)) (sym (set_is b) ∙ k))
          (λ k. kept (home b) (omega (arith, h, temps)) (λ u. let p = in_map home bits (home b) u in both_ways (contains bits b) k (subst (λ z. contains bits z ≡ true) (homes_apart p.0 b (sym p.2)) p.1))
          ∙ idle_value law r (bits_of before) b (same (before (home r.input)) (to_value r.edge)) (sym (set_is b) ∙ k));
      constants = λ slot h. kept slot (omega (arith, h, temps)) (λ u. let p = home_in slot u in omega (arith, h, p.0));
      others = λ slot h k. kept slot k (λ u. let p = home_in slot u in omega (arith, h, p.1));
    }

  -- they are calls
  module _ (room : l.first_temp + length bits < 2 ^ 32) (some : 1 ≤ length bits) where
    many : length bits < 2 ^ 32
    many = omega (arith, room)

    condition_ok : IsCall (condition_call l r)
    condition_ok = record {
      lengths = condition_takes r.edge;
      short = All-cons (λ n. n < 2 ^ 32) 1 (1 ∷ []) (omega arith) (All-cons (λ n. n < 2 ^ 32) 1 [] (omega arith) (All-nil (λ n. n < 2 ^ 32)));
      room = condition_room r.edge;
      targets = record {
        to_below = All-cons (λ slot. slot < 2 ^ 32) l.first_temp [] (omega (arith, room)) (All-nil (λ slot. slot < 2 ^ 32));
        scratch_below = All-nil (λ slot. slot < 2 ^ 32);
        to_differ = different (l.first_temp ∷ []) (refl, tt);
        scratch_differ = none_different;
        both_apart = none_apart (l.first_temp ∷ []);
      };
      arguments = All-cons (λ arg. IsArgument (2 ^ 32) arg (l.first_temp ∷ []) []) (home r.input ∷ []) [] (record {
        below = All-cons (λ slot. slot < 2 ^ 32) (home r.input) [] (omega (arith, input, temps, room)) (All-nil (λ slot. slot < 2 ^ 32));
        to_apart = apart (home r.input ∷ []) (l.first_temp ∷ []) (λ a b h k e.
            first_or (home r.input) [] a h (λ x. first_or l.first_temp [] b k (λ y. absurd (omega (arith, input, temps, e, x, y))) (λ n. nothing b n)) (λ n. nothing a n));
        scratch_apart = none_apart (home r.input ∷ []);
      }) (All-nil (λ arg. IsArgument (2 ^ 32) arg (l.first_temp ∷ []) []));
    }
      where
        nothing : (a : ℕ) → contains [] a ≡ true → ⊥
        nothing a h = cc

    choice_ok : IsCall (choice_call l r bits)
    choice_ok = record {
      lengths = choice_takes (length (constants_of r bits)) (length (map home bits)) (length (between l bits)) (omega (arith, some, cs)) (omega (arith, cs, hs)) (omega (arith, hs, ts));
      short = All-cons (λ n. n < 2 ^ 32) 1 (length (constants_of r bits) ∷ length (map home bits) ∷ length (between l bits) ∷ []) (omega arith)
          (All-cons (λ n. n < 2 ^ 32) (length (constants_of r bits)) (length (map home bits) ∷ length (between l bits) ∷ []) (omega (arith, cs, many))
          (All-cons (λ n. n < 2 ^ 32) (length (map home bits)) (length (between l bits) ∷ []) (omega (arith, hs, many))
          (All-cons (λ n. n < 2 ^ 32) (length (between l bits)) [] (omega (arith, ts, many)) (All-nil (λ n. n < 2 ^ 32)))));
      room = omega arith;
      targets = record {
        to_below = all_in (λ slot. slot < 2 ^ 32) (between l bits) (λ s h. let p = between_in s h in omega (arith, p.1, room));
        scratch_below = All-nil (λ slot. slot < 2 ^ 32);
        to_differ = different (between l bits) (count_apart (suc l.first_temp) (length bits));
        scratch_differ = none_different;
        both_apart = none_apart (between l bits);
      };
      arguments = All-cons P (l.first_temp ∷ []) (constants_of r bits ∷ map home bits ∷ []) (record {
        below = All-cons (λ slot. slot < 2 ^ 32) l.first_temp [] (omega (arith, room)) (All-nil (λ slot. slot < 2 ^ 32));
        to_apart = apart (l.first_temp ∷ []) (between l bits) (λ a b h k e. first_or l.first_temp [] a h (λ x. let p = between_in b k in absurd (omega (arith, p.0, e, x))) (λ n. nothing a n));
        scratch_apart = none_apart (l.first_temp ∷ []);
      })
          (All-cons P (constants_of r bits) (map home bits ∷ []) (record {
            below = all_in (λ slot. slot < 2 ^ 32) (constants_of r bits) (λ s h. let p = constant_in s h in omega (arith, p));
            to_apart = apart (constants_of r bits) (between l bits) (λ a b h k e. let p = between_in b k in let q = constant_in a h in omega (arith, p.0, q, temps, e));
            scratch_apart = none_apart (constants_of r bits);
          })
          (All-cons P (map home bits) [] (record {
            below = all_in (λ slot. slot < 2 ^ 32) (map home bits) (λ s h. let p = home_in s h in omega (arith, p.1, temps, room));
            to_apart = apart (map home bits) (between l bits) (λ a b h k e. let p = between_in b k in let q = home_in a h in omega (arith, p.0, q.1, temps, e));
            scratch_apart = none_apart (map home bits);
          }) (All-nil P)));
    }
      where
        P : List ℕ → Type 0
        P arg = IsArgument (2 ^ 32) arg (between l bits) []

        nothing : (a : ℕ) → contains [] a ≡ true → ⊥
        nothing a h = cc

        cs : length (constants_of r bits) ≡ length bits
        cs = length-map bits (λ b. constant_slot (set_value r b))

        hs : length (map home bits) ≡ length bits
        hs = length-map bits home_of
          where
            home_of : ℕ → ℕ
            home_of b = home b

        ts : length (between l bits) ≡ length bits
        ts = length-count (suc l.first_temp) (length bits)

        choice_takes : (p q t : ℕ) → 1 ≤ p → p ≡ q → q ≡ t → takes (Select Branch) (1 ∷ p ∷ q ∷ t ∷ []) ≡ true
        choice_takes p q t h e f =
            let a : nat_le 1 p ≡ true = le_true p h in
            let b : (p == q) ≡ true = eq-eqb p q e in
            let c : (q == t) ≡ true = eq-eqb q t f in
            ap (λ u. u && (p == q) && (q == t)) a ∙ ap (λ u. u && (q == t)) b ∙ c

    copy_ok : IsCall (copy_call l bits)
    copy_ok = record {
      lengths = copy_takes (length (between l bits)) (length (map home bits)) (omega (arith, some, ts)) (omega (arith, hs, ts));
      short = All-cons (λ n. n < 2 ^ 32) (length (between l bits)) (length (map home bits) ∷ []) (omega (arith, ts, many))
          (All-cons (λ n. n < 2 ^ 32) (length (map home bits)) [] (omega (arith, hs, many)) (All-nil (λ n. n < 2 ^ 32)));
      room = omega arith;
      targets = record {
        to_below = all_in (λ slot. slot < 2 ^ 32) (map home bits) (λ s h. let p = home_in s h in omega (arith, p.1, temps, room));
        scratch_below = All-nil (λ slot. slot < 2 ^ 32);
        to_differ = different (map home bits) (map_apart (λ b. home b) homes_apart bits has.once);
        scratch_differ = none_different;
        both_apart = none_apart (map home bits);
      };
      arguments = All-cons (λ arg. IsArgument (2 ^ 32) arg (map home bits) []) (between l bits) [] (record {
        below = all_in (λ slot. slot < 2 ^ 32) (between l bits) (λ s h. let p = between_in s h in omega (arith, p.1, room));
        to_apart = apart (between l bits) (map home bits) (λ a b h k e. let p = between_in a h in let q = home_in b k in omega (arith, p.0, q.1, temps, e));
        scratch_apart = none_apart (between l bits);
      }) (All-nil (λ arg. IsArgument (2 ^ 32) arg (map home bits) []));
    }
      where
        hs : length (map home bits) ≡ length bits
        hs = length-map bits home_of
          where
            home_of : ℕ → ℕ
            home_of b = home b

        ts : length (between l bits) ≡ length bits
        ts = length-count (suc l.first_temp) (length bits)

        copy_takes : (p q : ℕ) → 1 ≤ p → p ≡ q → takes (Logic Copy) (p ∷ q ∷ []) ≡ true
        copy_takes p q h e = ap (λ u. u && (p == q)) (le_true p h) ∙ eq-eqb p q e

  calls : List Call
  calls = condition_call l r ∷ choice_call l r bits ∷ copy_call l bits ∷ []

  stores_are : length_of (condition_call l r ∷ choice_call l r bits ∷ copy_call l bits ∷ []) ≡ 1 + length bits + length bits
  stores_are =
      let first : call_cost (condition_call l r) ≡ 1 = condition_cost r.edge in
      let second : call_cost (choice_call l r bits) ≡ length (between l bits) = refl in
      let third : call_cost (copy_call l bits) ≡ length (map home bits) = refl in
      let hs : length (map home bits) ≡ length bits = length-map bits home_of in
      let ts = length-count (suc l.first_temp) (length bits) in
      omega (arith, first, second, third, hs, ts, sum_by-cons call_cost (condition_call l r) (choice_call l r bits ∷ copy_call l bits ∷ []), sum_by-cons call_cost (choice_call l r bits) (copy_call l bits ∷ []), sum_by-cons call_cost (copy_call l bits) [])
    where
      home_of : ℕ → ℕ
      home_of b = home b

  slots_in : (count : ℕ) → l.first_temp + length bits < count → All (λ slot. slot < count) (slots_of (condition_call l r ∷ choice_call l r bits ∷ copy_call l bits ∷ []))
  slots_in count room =
      All-append P (call_slots (condition_call l r)) (call_slots (choice_call l r bits) ++ (call_slots (copy_call l bits) ++ [])) first
      (All-append P (call_slots (choice_call l r bits)) (call_slots (copy_call l bits) ++ []) second
      (All-append P (call_slots (copy_call l bits)) [] third (All-nil P)))
    where
      P : ℕ → Type 0
      P slot = slot < count

      one : (s : ℕ) → s < count → All P (s ∷ [])
      one s h = All-cons P s [] h (All-nil P)

      homes : All P (map home bits)
      homes = all_in P (map home bits) (λ s h. let p = home_in s h in omega (arith, p.1, temps, room))

      ways : All P (between l bits)
      ways = all_in P (between l bits) (λ s h. let p = between_in s h in omega (arith, p.1, room))

      consts : All P (constants_of r bits)
      consts = all_in P (constants_of r bits) (λ s h. let p = constant_in s h in omega (arith, p, temps, room))

      first : All P (call_slots (condition_call l r))
      first = All-cons P (home r.input) (l.first_temp ∷ []) (omega (arith, input, temps, room)) (one l.first_temp (omega (arith, room)))

      second : All P (call_slots (choice_call l r bits))
      second = All-append P ((l.first_temp ∷ []) ++ (constants_of r bits ++ (map home bits ++ []))) (between l bits ++ [])
          (All-cons P l.first_temp (constants_of r bits ++ (map home bits ++ [])) (omega (arith, room)) (All-append P (constants_of r bits) (map home bits ++ []) consts (All-append P (map home bits) [] homes (All-nil P))))
          (All-append P (between l bits) [] ways (All-nil P))

      third : All P (call_slots (copy_call l bits))
      third = All-append P (between l bits ++ []) (map home bits ++ []) (All-append P (between l bits) [] ways (All-nil P)) (All-append P (map home bits) [] homes (All-nil P))

-- a reset that sets nothing does nothing
idle_run : WritesAre → (l : Layout) (r : Reset) → HasEachOnce (bits_of_reset (Some r)) [] → (before after : State) → AreCalled [] before after → IsResetRun l (Some r) before after
idle_run law l r has before after called = record {
  bits = λ b h. called (home b) ∙ idle_value law r (bits_of before) b (same (before (home r.input)) (to_value r.edge)) (sym (has.has b ∙ written (flatten (branch r)) b));
  constants = λ slot h. called slot;
  others = λ slot h k. called slot;
}

pub none_needed : NoneAreNeeded
unfolding write_all flatten
none_needed l x = record {
  are_calls = All-nil IsCall;
  stores = omega arith;
  slots = All-nil (λ slot. slot < l.first_temp + process_weight x);
  run = λ before after const called. nothing_run l before after called;
}
  where
    nothing_run : (l : Layout) (before after : State) → AreCalled [] before after → IsResetRun l None before after
    nothing_run l before after called = record {
      bits = λ b h. called (home b);
      constants = λ slot h. called slot;
      others = λ slot h k. called slot;
    }

pub reset_calls_are : SourcesOfDesign → FewAreApart → WritesAre → ResetCallsAre
reset_calls_are sources fewer law d names a l layout room p x e k r is [] has = record {
  are_calls = All-nil IsCall;
  stores = omega arith;
  slots = All-nil (λ slot. slot < l.first_temp + process_weight x);
  run = λ before after const called. idle_run law l r has before after called;
}
reset_calls_are sources fewer law d names a l layout room p x e k r is (b ∷ bs) has =
    let from : SourcesAre d (clock_bits a.clocks) = sources d names a in
    let wide = reset_wide d (clock_bits a.clocks) x r is in
    let own : (c : ℕ) → contains (b ∷ bs) c ≡ true → contains (writes_of x) c ≡ true = λ c h.
    from.reset_writes p x c e k (ap (λ (o : Option Reset). contains (bits_of_reset o) c) is ∙ sym (has.has c) ∙ h) in
    let few : length (b ∷ bs) ≤ distinct (writes_of x) = fewer (writes_of x) (b ∷ bs) has.once own in
    let low : (c : ℕ) → contains (b ∷ bs) c ≡ true → c < l.bits = λ c h. subst (λ m. c < m) (sym layout.bits) (from.registers_below c (register c (own c h))) in
    let input : r.input < l.bits = subst (λ m. r.input < m) (sym layout.bits) (from.data_below r.input (from.reset_input x r is)) in
    let temps = layout.layout.temps_above in
    let small = weight_small d.processes p x e in
    let fits : l.first_temp + length (b ∷ bs) < 2 ^ 32 = omega (arith, room, wide, few, small) in
    let some : 1 ≤ length (b ∷ bs) = omega arith in
    record {
      are_calls = All-cons IsCall (condition_call l r) (choice_call l r (b ∷ bs) ∷ copy_call l (b ∷ bs) ∷ []) (condition_ok law l r (b ∷ bs) has temps input low fits some)
          (All-cons IsCall (choice_call l r (b ∷ bs)) (copy_call l (b ∷ bs) ∷ []) (choice_ok law l r (b ∷ bs) has temps input low fits some)
          (All-cons IsCall (copy_call l (b ∷ bs)) [] (copy_ok law l r (b ∷ bs) has temps input low fits some) (All-nil IsCall)));
      stores = let stores = stores_are law l r (b ∷ bs) has temps input low in let block : (if is_clocked x then distinct (writes_of x) else 0) ≡ distinct (writes_of x) = ap (λ (c : Bool). if c then distinct (writes_of x) else 0) k in omega (arith, stores, wide, few, block);
      slots = slots_in law l r (b ∷ bs) has temps input low (l.first_temp + process_weight x) (omega (arith, wide, few));
      run = λ before after const called. ran law l r (b ∷ bs) has temps input low before after const called;
    }
  where
    register : (c : ℕ) → contains (writes_of x) c ≡ true → contains (Rattle.vs_design.specs.Sizes.register_bits d.processes) c ≡ true
    register c h = go d.processes p e
      where
        contains-append : (xs ys : List ℕ) → contains xs c ≡ true → contains (xs ++ ys) c ≡ true
        contains-append [] ys h = cc
        contains-append (y ∷ ys) zs h = first_or y ys c h (λ is. subst (λ z. contains (y ∷ (ys ++ zs)) z ≡ true) (sym is) (in_first y (ys ++ zs))) (λ u. in_rest y (ys ++ zs) c (contains-append ys zs u))

        in_right : (xs ys : List ℕ) → contains ys c ≡ true → contains (xs ++ ys) c ≡ true
        in_right [] ys h = h
        in_right (y ∷ xs) ys h = in_rest y (xs ++ ys) c (in_right xs ys h)

        go : (ps : List Process) (q : ℕ) → slice_get ps q ≡ Some x → contains (Rattle.vs_design.specs.Sizes.register_bits ps) c ≡ true
        go [] q f = cc
        go (y ∷ ps) zero f = contains-append (if is_clocked y then writes_of y else []) (Rattle.vs_design.specs.Sizes.register_bits ps)
            (subst (λ z. contains (if is_clocked z then writes_of z else []) c ≡ true) (sym (one y f)) (ap (λ (u : Bool). contains (if u then writes_of x else []) c) k ∙ h))
          where
            one : (y : Process) → Some y ≡ Some x → y ≡ x
            one y f = cc
        go (y ∷ ps) (suc q) f = in_right (if is_clocked y then writes_of y else []) (Rattle.vs_design.specs.Sizes.register_bits ps) (go ps q f)

    weight_small : (ps : List Process) (q : ℕ) (y : Process) → slice_get ps q ≡ Some y → process_weight y ≤ sum_by process_weight ps
    weight_small [] q y f = cc
    weight_small (z ∷ ps) zero y f = let sum = sum_by-cons process_weight z ps in subst (λ w. process_weight w ≤ sum_by process_weight (z ∷ ps)) (one f) (omega (arith, sum))
      where
        one : Some z ≡ Some y → z ≡ y
        one f = cc
    weight_small (z ∷ ps) (suc q) y f = let sum = sum_by-cons process_weight z ps in let rest = weight_small ps q y f in omega (arith, sum, rest)
