-- The calls do what a sleeping block does.
use Rattle.std.proofs.Common.{◌≡◌, ◌≢◌, ℕ, zero, suc, ◌+◌, ◌^◌, ◌<◌, ◌≤◌, Bool, true, false, not, List, [], ◌∷◌, ◌++◌, ◌&&◌, ◌||◌, ◌==◌, ◌⊎◌, inl, inr, nat_le, if◌then◌else◌, map, length, get_or, Option, Some, None, slice_get, sym, ap, ◌∙◌, subst, refl, arith, eqb-true, eq-eqb}
use Rattle.std.specs.Prelude.{All, sum_by}
use Rattle.std.specs.List.{list_all}
use Rattle.std.proofs.lemmas.Bool.{both_ways, and_parts}
use Rattle.std.proofs.lemmas.List.{length-map}
use Rattle.std.proofs.lemmas.List.Sums.{sum_by-cons, sum_by-append}
use Rattle.std.proofs.lemmas.List.Elements.{All-nil, All-cons, All-append}
use Rattle.std.proofs.lemmas.Grind.{flat_map-append}
use Rattle.vs_four.specs.declared.Bit4.{Bit4}
use Rattle.vs_four.specs.declared.Bit4.TheVariants.{Zero, One, X, Z}
use Rattle.vs_four.specs.Tables.{same, same_bit, and_bit, not_bit, of_bool, is_one}
use Rattle.vs_four.specs.Logic.{truth, fold_with, map2, identical}
use Rattle.vs_net.specs.Network.{Sleeper, Write, write_all, is_written, writes, made}
use Rattle.vs_net.specs.Network as N
use Rattle.vs_net.specs.Solution.{all_x, blank}
use Rattle.vs_net.specs.Lawful.{Settles}
use Rattle.vs_design.specs.Clocks.{clock_bits}
use Rattle.vs_design.specs.Bodies.{body}
use Rattle.vs_design.specs.Designs.{Process, Continuous, Always, is_clocked, is_combinational, Design, top_inputs}
use Rattle.vs_design.specs.Footprints.{contains, statement_bits, all_reads, writes_of, waits_of}
use Rattle.vs_design.specs.Sets.{only, is_only_x}
use Rattle.vs_design.specs.LiftedBodies.{lifted_body}
use Rattle.vs_design.specs.Sleepers.{is_still, at_once, stays_x, is_sleeping, sleeper_if, sleeper_of}
use Rattle.vs_design.specs.Sizes.{distinct, process_weight, statement_weight, sleeper_weight, size}
use Rattle.vs_design.specs.Cycles.{AreApart}
use Rattle.vs_design.specs.Initials.{sole_bits}
use Rattle.vs_design.specs.Networks.{process_of, block_process, writer_of, spare_writers, keeper_of, at_or_input, network_of}
use Rattle.vs_design.specs.Accepted.{IsAcceptedDesign}
use Rattle.vs_design.specs.Laws.{AcceptedIsLawful, BitsOfDesign}
use Rattle.vs_design.proofs.Starts.{same_order}
use Rattle.vs_cone.specs.Lists.{HasEachOnce, FewAreApart}
use Rattle.vs_plane.specs.Kernels.{IsArgument}
use Rattle.vs_kern_logic.specs.declared.costs.Kernel.TheVariants.{CaseNotEqual}
use Rattle.vs_kern_select.specs.declared.costs.Kernel.TheVariants.{Branch}
use Rattle.vs_code.specs.declared.kernels.AnyKernel.TheVariants.{Logic, Select}
use Rattle.vs_code.specs.Kernels.{takes}
use Rattle.vs_code.specs.Calls.{Call, State, IsCall, AreCalled, call_cost, length_of, call_slots, slots_of}
use Rattle.vs_code.specs.Laws.{SequenceIsBoth}
use Rattle.vs_program.specs.Lowered.{Layout, home, bits_of, made_of, is_woken, HasConstants, IsSleeperRun, IsLoweredSleeper}
use Rattle.vs_program.specs.Layouts.{IsLayoutOf, mask_of, MasksFit}
use Rattle.vs_program.specs.Made.{IsLoweredAs}
use Rattle.vs_reset.specs.Sleepers.{x_slots, compare_call, mask_call, finish_call, wake_calls, sleeper_calls, IsMask, AreBits, AreOwn, IsBody, FinishIsCall, SleeperCallsAre, SleepersWrite, WakeIsCalls}
use Rattle.vs_cone.specs.Writes.{WritesAre}
use Rattle.vs_reset.proofs.Lists.{by_test, in_first, in_rest, first_or, place_in, in_map, all_in, apart, none_apart, none_different, different, map_apart}
use Rattle.vs_reset.proofs.Calls.{le_true, none_at}

-- ---- writes of x

blank_written : (ws : List Write) (b : ℕ) → is_written (blank ws) b ≡ is_written ws b
unfolding is_written
blank_written [] b = refl
blank_written (w ∷ ws) b = ap (λ c. (b == w.bit) || c) (blank_written ws b)

blank_value : WritesAre → (ws : List Write) (s : N.State) (b : ℕ) → is_written ws b ≡ true → write_all s (blank ws) b ≡ X
unfolding write_all is_written
blank_value law [] s b h = cc
blank_value law (w ∷ ws) s b h =
    by_test (is_written ws b)
    (λ e. blank_value law ws (λ r. if r == w.bit then X else s r) b e)
    (λ e. law.other (blank ws) (λ r. if r == w.bit then X else s r) b (blank_written ws b ∙ e)
    ∙ ap (λ (c : Bool). if c then X else s b) (left (b == w.bit) (is_written ws b) h e))
  where
    left : (u v : Bool) → (u || v) ≡ true → v ≡ false → u ≡ true
    left true v x y = refl
    left false v x y = cc

-- ---- the comparison

fold_zero : (vs : List Bit4) → fold_with and_bit Zero vs ≡ Zero
fold_zero [] = refl
fold_zero (v ∷ vs) = fold_zero vs

same_on : (m : State) → m 2 ≡ X → (on : List ℕ) → fold_with and_bit One (map2 same_bit (map m (map home on)) (map m (x_slots on))) ≡ (if all_x (bits_of m) on then One else Zero)
same_on m x [] = refl
same_on m x (b ∷ bs) =
    ap (λ v. fold_with and_bit (and_bit One (same_bit (m (home b)) v)) (map2 same_bit (map m (map home bs)) (map m (x_slots bs)))) x
    ∙ by_test (same (m (home b)) X)
    (λ e.
    ap (λ c. fold_with and_bit (and_bit One (of_bool c)) (map2 same_bit (map m (map home bs)) (map m (x_slots bs)))) e
    ∙ same_on m x bs
    ∙ sym (ap (λ c. if c && all_x (bits_of m) bs then One else Zero) e))
    (λ e.
    ap (λ c. fold_with and_bit (and_bit One (of_bool c)) (map2 same_bit (map m (map home bs)) (map m (x_slots bs)))) e
    ∙ fold_zero (map2 same_bit (map m (map home bs)) (map m (x_slots bs)))
    ∙ sym (ap (λ c. if c && all_x (bits_of m) bs then One else Zero) e))

flip : (c : Bool) → not_bit (if c then One else Zero) ≡ (if not c then One else Zero)
flip true = refl
flip false = refl

compared : (m : State) (mask : ℕ) (on : List ℕ) → m 0 ≡ Zero → m 2 ≡ X → (m mask ≡ Zero) ⊎ (m mask ≡ One)
    → not_bit (identical (map m (mask ∷ map home on)) (map m (0 ∷ x_slots on))) ≡ (if same (m mask) One || not (all_x (bits_of m) on) then One else Zero)
compared m mask on none x bit =
    ap (λ v. not_bit (fold_with and_bit (and_bit One (same_bit (m mask) v)) (map2 same_bit (map m (map home on)) (map m (x_slots on))))) none
    ∙ elim bit [
      | inl h ↦
          ap (λ v. not_bit (fold_with and_bit (and_bit One (same_bit v Zero)) (map2 same_bit (map m (map home on)) (map m (x_slots on))))) h
          ∙ ap not_bit (same_on m x on)
          ∙ flip (all_x (bits_of m) on)
          ∙ sym (ap (λ v. if same v One || not (all_x (bits_of m) on) then One else Zero) h)
      | inr h ↦
          ap (λ v. not_bit (fold_with and_bit (and_bit One (same_bit v Zero)) (map2 same_bit (map m (map home on)) (map m (x_slots on))))) h
          ∙ ap not_bit (fold_zero (map2 same_bit (map m (map home on)) (map m (x_slots on))))
          ∙ sym (ap (λ v. if same v One || not (all_x (bits_of m) on) then One else Zero) h)
    ]

all_x_same : (s t : N.State) (bs : List ℕ) → ((b : ℕ) → contains bs b ≡ true → s b ≡ t b) → all_x s bs ≡ all_x t bs
all_x_same s t [] h = refl
all_x_same s t (c ∷ cs) h =
    ap (λ v. same v X && all_x s cs) (h c (in_first c cs))
    ∙ ap (λ u. same (t c) X && u) (all_x_same s t cs (λ b k. h b (in_rest c cs b k)))

one_value : (v w : Bit4) → v ∷ [] ≡ w ∷ [] → v ≡ w
one_value v w e = cc

-- a bit's value where those of a list are given
pick_value : (f : ℕ → Bit4) (bs : List ℕ) (t : State) (b : ℕ) → map t (map home bs) ≡ map f bs → contains bs b ≡ true → t (home b) ≡ f b
pick_value f [] t b e h = cc
pick_value f (c ∷ cs) t b e h =
    first_or c cs b h
    (λ is. ap (λ z. t (home z)) is ∙ first e ∙ ap f (sym is))
    (λ k. pick_value f cs t b (rest e) k)
  where
    first : map t (map home (c ∷ cs)) ≡ map f (c ∷ cs) → t (home c) ≡ f c
    first e = cc

    rest : map t (map home (c ∷ cs)) ≡ map f (c ∷ cs) → map t (map home cs) ≡ map f cs
    rest e = cc

map_x : (t : State) (bs : List ℕ) → t 2 ≡ X → map t (x_slots bs) ≡ map (λ b. X) bs
map_x t [] h = refl
map_x t (b ∷ bs) h = Rattle.std.proofs.Common.ap₂ (λ (v : Bit4) (vs : List Bit4). v ∷ vs) h (map_x t bs h)

same_is : (v w : Bit4) → same v w ≡ true → v ≡ w
same_is Zero Zero h = refl
same_is One One h = refl
same_is X X h = refl
same_is Z Z h = refl
same_is Zero One h = cc
same_is Zero X h = cc
same_is Zero Z h = cc
same_is One Zero h = cc
same_is One X h = cc
same_is One Z h = cc
same_is X Zero h = cc
same_is X One h = cc
same_is X Z h = cc
same_is Z Zero h = cc
same_is Z One h = cc
same_is Z X h = cc

x_of_all : (s : N.State) (bs : List ℕ) (b : ℕ) → all_x s bs ≡ true → contains bs b ≡ true → s b ≡ X
x_of_all s [] b h k = cc
x_of_all s (c ∷ cs) b h k =
    let parts = and_parts (same (s c) X) (all_x s cs) h in
    first_or c cs b k (λ e. ap s e ∙ same_is (s c) X parts.0) (λ u. x_of_all s cs b parts.1 u)

all_of_x : (s : N.State) (bs : List ℕ) → ((b : ℕ) → contains bs b ≡ true → s b ≡ X) → all_x s bs ≡ true
all_of_x s [] h = refl
all_of_x s (c ∷ cs) h = ap (λ u. u && all_x s cs) (ap (λ v. same v X) (h c (in_first c cs))) ∙ all_of_x s cs (λ b k. h b (in_rest c cs b k))

-- whether all are x is a matter of the set of the bits
all_x_set : (s : N.State) (cs bs : List ℕ) → ((b : ℕ) → contains cs b ≡ contains bs b) → all_x s cs ≡ all_x s bs
all_x_set s cs bs h =
    by_test (all_x s bs)
    (λ e. all_of_x s cs (λ b k. x_of_all s bs b e (sym (h b) ∙ k)) ∙ sym e)
    (λ e. by_test (all_x s cs)
    (λ k. absurd (both_ways (all_x s bs) e (all_of_x s bs (λ b m. x_of_all s cs b k (h b ∙ m)))))
    (λ k. k ∙ sym e))

-- ---- they are calls

nothing : {P : Type 0} (a : ℕ) → contains [] a ≡ true → P
nothing a h = absurd (none h)
  where
    none : contains [] a ≡ true → ⊥
    none h = cc

home_in : (count : ℕ) (bs : List ℕ) → ((b : ℕ) → contains bs b ≡ true → b < count) → (a : ℕ) → contains (map home bs) a ≡ true → (4 ≤ a) × (a < home count)
home_in count bs low a h = let q = in_map home bs a h in let under = low q.0 q.1 in (omega (arith, q.2), omega (arith, q.2, under))

x_in : (bs : List ℕ) (a : ℕ) → contains (x_slots bs) a ≡ true → a ≡ 2
x_in bs a h = (in_map (λ b. 2) bs a h).2

homes_apart : (b c : ℕ) → home b ≡ home c → b ≡ c
homes_apart b c e = omega (arith, e)

module _ (count first mask : ℕ) (is : IsMask count first mask) where
  compare_ok : (spare : ℕ) (on : List ℕ) → first ≤ spare → spare < 2 ^ 32 → AreBits count on → IsCall (compare_call mask spare on)
  compare_ok spare on high numbered are = record {
    lengths = compare_takes (length (map home on)) (length (x_slots on)) (omega (arith, hs, xs));
    short = All-cons (λ n. n < 2 ^ 32) (suc (length (map home on))) (suc (length (x_slots on)) ∷ 1 ∷ []) (omega (arith, hs, are.few))
        (All-cons (λ n. n < 2 ^ 32) (suc (length (x_slots on))) (1 ∷ []) (omega (arith, xs, are.few)) (All-cons (λ n. n < 2 ^ 32) 1 [] (omega arith) (All-nil (λ n. n < 2 ^ 32))));
    room = omega arith;
    targets = record {
      to_below = All-cons (λ slot. slot < 2 ^ 32) spare [] numbered (All-nil (λ slot. slot < 2 ^ 32));
      scratch_below = All-nil (λ slot. slot < 2 ^ 32);
      to_differ = different (spare ∷ []) (refl, tt);
      scratch_differ = none_different;
      both_apart = none_apart (spare ∷ []);
    };
    arguments = All-cons P (mask ∷ map home on) ((0 ∷ x_slots on) ∷ []) (record {
      below = all_in (λ slot. slot < 2 ^ 32) (mask ∷ map home on) (λ a h. let q = first_in a h in omega (arith, q, high, numbered));
      to_apart = apart (mask ∷ map home on) (spare ∷ []) (λ a b h k e. first_or spare [] b k (λ y. let low = first_in a h in omega (arith, low, high, e, y)) (λ n. nothing b n));
      scratch_apart = none_apart (mask ∷ map home on);
    })
        (All-cons P (0 ∷ x_slots on) [] (record {
          below = all_in (λ slot. slot < 2 ^ 32) (0 ∷ x_slots on) (λ a h. let q = second_in a h in omega (arith, q, high, numbered));
          to_apart = apart (0 ∷ x_slots on) (spare ∷ []) (λ a b h k e. first_or spare [] b k (λ y. let low = second_in a h in omega (arith, low, high, e, y)) (λ n. nothing b n));
          scratch_apart = none_apart (0 ∷ x_slots on);
        }) (All-nil P));
  }
    where
      P : List ℕ → Type 0
      P arg = IsArgument (2 ^ 32) arg (spare ∷ []) []

      hs : length (map home on) ≡ length on
      hs = length-map on home_of
        where
          home_of : ℕ → ℕ
          home_of b = home b

      xs : length (x_slots on) ≡ length on
      xs = length-map on (λ b. 2)

      first_in : (a : ℕ) → contains (mask ∷ map home on) a ≡ true → a < first
      first_in a h = first_or mask (map home on) a h
          (λ e. omega (arith, e, is.below))
          (λ k. let q = home_in count on are.below a k in omega (arith, q.1, is.above, is.below))

      second_in : (a : ℕ) → contains (0 ∷ x_slots on) a ≡ true → a < first
      second_in a h = first_or 0 (x_slots on) a h (λ e. omega (arith, e, is.above, is.below)) (λ k. let q = x_in on a k in omega (arith, q, is.above, is.below))

      compare_takes : (m n : ℕ) → m ≡ n → takes (Logic CaseNotEqual) (suc m ∷ suc n ∷ 1 ∷ []) ≡ true
      compare_takes m n e =
          let a : nat_le 1 (suc m) ≡ true = le_true (suc m) (omega arith) in
          let b : (suc m == suc n) ≡ true = eq-eqb (suc m) (suc n) (ap suc e) in
          ap (λ u. u && (suc m == suc n) && (1 == 1)) a ∙ ap (λ u. u && (1 == 1)) b

  mask_ok : (spare : ℕ) → first ≤ spare → spare < 2 ^ 32 → IsCall (mask_call mask spare)
  mask_ok spare high numbered = record {
    lengths = refl;
    short = All-cons (λ n. n < 2 ^ 32) 1 (1 ∷ []) (omega arith) (All-cons (λ n. n < 2 ^ 32) 1 [] (omega arith) (All-nil (λ n. n < 2 ^ 32)));
    room = omega arith;
    targets = record {
      to_below = All-cons (λ slot. slot < 2 ^ 32) mask [] (omega (arith, is.below, high, numbered)) (All-nil (λ slot. slot < 2 ^ 32));
      scratch_below = All-nil (λ slot. slot < 2 ^ 32);
      to_differ = different (mask ∷ []) (refl, tt);
      scratch_differ = none_different;
      both_apart = none_apart (mask ∷ []);
    };
    arguments = All-cons (λ arg. IsArgument (2 ^ 32) arg (mask ∷ []) []) (spare ∷ []) [] (record {
      below = All-cons (λ slot. slot < 2 ^ 32) spare [] numbered (All-nil (λ slot. slot < 2 ^ 32));
      to_apart = apart (spare ∷ []) (mask ∷ []) (λ a b h k e.
          first_or spare [] a h (λ x. first_or mask [] b k (λ y. omega (arith, is.below, high, e, x, y)) (λ n. nothing b n)) (λ n. nothing a n));
      scratch_apart = none_apart (spare ∷ []);
    }) (All-nil (λ arg. IsArgument (2 ^ 32) arg (mask ∷ []) []));
  }

  finish_ok : (bits now : List ℕ) → first ≤ 2 ^ 32 → AreBits count bits → AreApart bits → 1 ≤ length bits → length now ≡ length bits → AreOwn first now → IsCall (finish_call mask bits now)
  finish_ok bits now numbered are once some long from = record {
    lengths = choice_takes (length now) (length (x_slots bits)) (length (map home bits)) (omega (arith, some, long)) (omega (arith, long, xs)) (omega (arith, xs, hs));
    short = All-cons (λ n. n < 2 ^ 32) 1 (length now ∷ length (x_slots bits) ∷ length (map home bits) ∷ []) (omega arith)
        (All-cons (λ n. n < 2 ^ 32) (length now) (length (x_slots bits) ∷ length (map home bits) ∷ []) (omega (arith, long, are.few))
        (All-cons (λ n. n < 2 ^ 32) (length (x_slots bits)) (length (map home bits) ∷ []) (omega (arith, xs, are.few))
        (All-cons (λ n. n < 2 ^ 32) (length (map home bits)) [] (omega (arith, hs, are.few)) (All-nil (λ n. n < 2 ^ 32)))));
    room = omega arith;
    targets = record {
      to_below = all_in (λ slot. slot < 2 ^ 32) (map home bits) (λ a h. let q = bit_in a h in omega (arith, q, numbered));
      scratch_below = All-nil (λ slot. slot < 2 ^ 32);
      to_differ = different (map home bits) (map_apart (λ b. home b) homes_apart bits once);
      scratch_differ = none_different;
      both_apart = none_apart (map home bits);
    };
    arguments = All-cons P (mask ∷ []) (now ∷ x_slots bits ∷ []) (record {
      below = All-cons (λ slot. slot < 2 ^ 32) mask [] (omega (arith, is.below, numbered)) (All-nil (λ slot. slot < 2 ^ 32));
      to_apart = apart (mask ∷ []) (map home bits) (λ a b h k e. first_or mask [] a h (λ x. let q = home_in count bits are.below b k in omega (arith, q.1, is.above, e, x)) (λ n. nothing a n));
      scratch_apart = none_apart (mask ∷ []);
    })
        (All-cons P now (x_slots bits ∷ []) (record {
          below = all_in (λ slot. slot < 2 ^ 32) now from.below;
          to_apart = apart now (map home bits) (λ a b h k e. own_apart a b (from.own a h) k e);
          scratch_apart = none_apart now;
        })
        (All-cons P (x_slots bits) [] (record {
          below = all_in (λ slot. slot < 2 ^ 32) (x_slots bits) (λ a h. let q = x_in bits a h in omega (arith, q));
          to_apart = apart (x_slots bits) (map home bits) (λ a b h k e. let q = home_in count bits are.below b k in let x = x_in bits a h in omega (arith, q.0, x, e));
          scratch_apart = none_apart (x_slots bits);
        }) (All-nil P)));
  }
    where
      P : List ℕ → Type 0
      P arg = IsArgument (2 ^ 32) arg (map home bits) []

      hs : length (map home bits) ≡ length bits
      hs = length-map bits home_of
        where
          home_of : ℕ → ℕ
          home_of b = home b

      xs : length (x_slots bits) ≡ length bits
      xs = length-map bits (λ b. 2)

      bit_in : (a : ℕ) → contains (map home bits) a ≡ true → a < first
      bit_in a h = let q = home_in count bits are.below a h in omega (arith, q.1, is.above, is.below)

      own_apart : (a b : ℕ) → (a < 4) ⊎ (first ≤ a) → contains (map home bits) b ≡ true → a ≡ b → ⊥
      own_apart a b (inl low) k e = let q = home_in count bits are.below b k in omega (arith, q.0, low, e)
      own_apart a b (inr high) k e = let q = bit_in b k in omega (arith, q, high, e)

      choice_takes : (p q t : ℕ) → 1 ≤ p → p ≡ q → q ≡ t → takes (Select Branch) (1 ∷ p ∷ q ∷ t ∷ []) ≡ true
      choice_takes p q t h e f =
          let a : nat_le 1 p ≡ true = le_true p h in
          let b : (p == q) ≡ true = eq-eqb p q e in
          let c : (q == t) ≡ true = eq-eqb q t f in
          ap (λ u. u && (p == q) && (q == t)) a ∙ ap (λ u. u && (q == t)) b ∙ c

  wake_ok : (spare : ℕ) (on : List ℕ) → first ≤ spare → spare < 2 ^ 32 → AreBits count on → All IsCall (wake_calls mask spare on)
  wake_ok spare [] high numbered are = All-nil IsCall
  wake_ok spare (b ∷ on) high numbered are =
      All-cons IsCall (compare_call mask spare (b ∷ on)) (mask_call mask spare ∷ []) (compare_ok spare (b ∷ on) high numbered are) (All-cons IsCall (mask_call mask spare) [] (mask_ok spare high numbered) (All-nil IsCall))

pub wake_is_calls : WakeIsCalls
wake_is_calls count first mask spare on is high numbered are = wake_ok count first mask is spare on high numbered are

pub finish_is_call : FinishIsCall
finish_is_call count first mask bits now is numbered are once some long from = finish_ok count first mask is bits now numbered are once some long from

-- where the slots lie, and what the block writes and waits on: the bits to wait on are a list of those of the sleeper
record HasRoom (l : Layout) (p : Process) (s : Sleeper) (mask spare : ℕ) (waits bits : List ℕ) : Type 0 where
  temps : home l.bits ≤ l.first_temp
  spare_above : l.first_temp ≤ spare
  spare_below : spare < l.first_temp + process_weight p
  mask_above : home l.bits ≤ mask
  mask_below : mask < l.first_temp
  bits_below : (b : ℕ) → contains bits b ≡ true → b < l.bits
  on_below : (b : ℕ) → contains waits b ≡ true → b < l.bits
  few_on : length waits + 1 < 2 ^ 32
  few_bits : length bits + 1 < 2 ^ 32
  few_written : length bits ≤ distinct s.bits
  numbers : l.first_temp + process_weight p ≤ 2 ^ 32
  written : (t : N.State) (b : ℕ) → is_written (made_of p t) b ≡ contains bits b
  once : AreApart bits
  some : 1 ≤ length bits
  on_same : (b : ℕ) → contains waits b ≡ contains s.on b
  wakes : (b : ℕ) → contains waits b ≡ true → 1 ≤ distinct s.on

module _ (sequence : SequenceIsBoth) (law : WritesAre) (l : Layout) (p : Process) (s : Sleeper) (mask spare : ℕ) (waits bits now : List ℕ) (body : List Call) (is : IsBody l p bits now body) (room : HasRoom l p s mask spare waits bits) where
  -- ---- the mask

  record Woken (m w : State) (woken : Bool) : Type 0 where
    mask_is : w mask ≡ (if woken then One else Zero)
    kept : (slot : ℕ) → (slot ≡ mask → ⊥) → (slot ≡ spare → ⊥) → w slot ≡ m slot

  woke : (on : List ℕ) (m w : State) → m 0 ≡ Zero → m 2 ≡ X → (m mask ≡ Zero) ⊎ (m mask ≡ One) → AreCalled (wake_calls mask spare on) m w → Woken m w (same (m mask) One || not (all_x (bits_of m) on))
  woke [] m w none x bit called = record {
    mask_is = called mask ∙ elim bit [
      | inl h ↦ h ∙ sym (ap (λ v. if same v One || false then One else Zero) h)
      | inr h ↦ h ∙ sym (ap (λ v. if same v One || false then One else Zero) h)
    ];
    kept = λ slot h k. called slot;
  }
  woke (b ∷ on) m w none x bit called = by_rest called.2
    where
      by_rest : AreCalled (mask_call mask spare ∷ []) called.0 w → Woken m w (same (m mask) One || not (all_x (bits_of m) (b ∷ on)))
      by_rest rest = record {
        mask_is = rest.2 mask ∙ one_value (rest.0 mask) (called.0 spare) rest.1.value
            ∙ one_value (called.0 spare) _ called.1.value
            ∙ compared m mask (b ∷ on) none x bit;
        kept = λ slot h k. rest.2 slot
            ∙ rest.1.kept slot (λ u. first_or mask [] slot (place_in (mask ∷ []) u.0 slot u.1 u.2) (λ e. h e) (λ n. nothing slot n)) (λ u. none_at u.0 u.1)
            ∙ called.1.kept slot (λ u. first_or spare [] slot (place_in (spare ∷ []) u.0 slot u.1 u.2) (λ e. k e) (λ n. nothing slot n)) (λ u. none_at u.0 u.1);
      }

  record Finished (before after w : State) : Type 0 where
    value : (b : ℕ) → contains bits b ≡ true → after (home b) ≡ (if is_woken s mask before then write_all (bits_of before) (made_of p (bits_of before)) b else X)
    kept : (slot : ℕ) → (contains (map home bits) slot ≡ true → ⊥) → after slot ≡ w slot

  -- ---- what runs

  ran : (before after : State) → HasConstants before → (before mask ≡ Zero) ⊎ (before mask ≡ One) → AreCalled (sleeper_calls mask spare waits bits now body) before after → IsSleeperRun l p s mask before after
  ran before after const bit called =
      let parts = (sequence (wake_calls mask spare waits) (body ++ finish_call mask bits now ∷ []) before after).0 called in
      let more = (sequence body (finish_call mask bits now ∷ []) parts.0 after).0 parts.2 in
      by_parts parts.0 parts.1 more.0 more.1 more.2
    where
      by_parts : (m : State) → AreCalled (wake_calls mask spare waits) before m → (w : State) → AreCalled body m w → AreCalled (finish_call mask bits now ∷ []) w after → IsSleeperRun l p s mask before after
      by_parts m waking w running finishing =
          let bases = room.temps in
          let mask_low = room.mask_below in
          let mask_high = room.mask_above in
          let spare_high = room.spare_above in
          let done = woke waits before m const.zero const.x bit waking in
          let constant : (slot : ℕ) → slot < 4 → m slot ≡ before slot = λ slot h. done.kept slot (λ e. omega (arith, e, h, mask_high)) (λ e. omega (arith, e, h, spare_high, bases)) in
          let constants : HasConstants m = record { zero = constant 0 (omega arith) ∙ const.zero; one = constant 1 (omega arith) ∙ const.one; x = constant 2 (omega arith) ∙ const.x; z = constant 3 (omega arith) ∙ const.z } in
          let run = is.run m w (bits_of before) constants (λ b h. done.kept (home b) (λ e. omega (arith, e, h, mask_high)) (λ e. omega (arith, e, h, spare_high, bases))) running in
          let woken : (same (before mask) One || not (all_x (bits_of before) waits)) ≡ is_woken s mask before = ap (λ c. same (before mask) One || not c) (all_x_set (bits_of before) waits s.on room.on_same) in
          let mask_is : w mask ≡ (if is_woken s mask before then One else Zero) = run.kept mask mask_low ∙ done.mask_is ∙ ap (λ (c : Bool). if c then One else Zero) woken in
          let x_same : map w (x_slots bits) ≡ map (λ b. X) bits = map_x w bits (run.kept 2 (omega (arith, bases)) ∙ constants.x) in
          let rest = finish w finishing mask_is run.values x_same in
          record {
            bits = λ b h. by_test (contains bits b)
                (λ k. rest.value b k ∙ chosen (bits_of before) (is_woken s mask before) b (room.written (bits_of before) b ∙ k))
                (λ k. rest.kept (home b) (λ u. let q = in_map home bits (home b) u in both_ways (contains bits b) k (subst (λ z. contains bits z ≡ true) (homes_apart q.0 b (sym q.2)) q.1))
                ∙ run.kept (home b) (omega (arith, h, bases))
                ∙ done.kept (home b) (λ e. omega (arith, e, h, mask_high)) (λ e. omega (arith, e, h, spare_high, bases))
                ∙ other (bits_of before) (is_woken s mask before) b (room.written (bits_of before) b ∙ k));
            woken = rest.kept mask (λ u. let q = home_in l.bits bits room.bits_below mask u in omega (arith, q.1, mask_high)) ∙ mask_is;
            constants = λ slot h. rest.kept slot (λ u. let q = home_in l.bits bits room.bits_below slot u in omega (arith, q.0, h))
                ∙ run.kept slot (omega (arith, h, bases))
                ∙ constant slot h;
            others = λ slot h k n. rest.kept slot (λ u. let q = home_in l.bits bits room.bits_below slot u in omega (arith, q.1, h))
                ∙ run.kept slot k
                ∙ done.kept slot n (λ e. omega (arith, e, k, spare_high));
          }
        where
          one : (c : Bool) → is_one (truth ((if c then One else Zero) ∷ [])) ≡ c
          one true = refl
          one false = refl

          finish : (w : State) → AreCalled (finish_call mask bits now ∷ []) w after → w mask ≡ (if is_woken s mask before then One else Zero)
              → map w now ≡ map (λ b. write_all (bits_of before) (made_of p (bits_of before)) b) bits → map w (x_slots bits) ≡ map (λ b. X) bits → Finished before after w
          finish w called mask_is now_same x_same = record {
            value = λ b h. called.2 (home b) ∙ pick_value (λ b. if is_woken s mask before then write_all (bits_of before) (made_of p (bits_of before)) b else X) bits called.0 b
                (called.1.value
                ∙ ap (λ v. if is_one (truth (v ∷ [])) then map w now else map w (x_slots bits)) mask_is
                ∙ ap (λ (c : Bool). if c then map w now else map w (x_slots bits)) (one (is_woken s mask before))
                ∙ by_test (is_woken s mask before)
                (λ e. ap (λ (c : Bool). if c then map w now else map w (x_slots bits)) e ∙ now_same ∙ sym (ap (λ (c : Bool). map (λ b. if c then write_all (bits_of before) (made_of p (bits_of before)) b else X) bits) e))
                (λ e. ap (λ (c : Bool). if c then map w now else map w (x_slots bits)) e ∙ x_same ∙ sym (ap (λ (c : Bool). map (λ b. if c then write_all (bits_of before) (made_of p (bits_of before)) b else X) bits) e)))
                h;
            kept = λ slot h. called.2 slot ∙ called.1.kept slot (λ u. h (place_in (map home bits) u.0 slot u.1 u.2)) (λ u. none_at u.0 u.1);
          }

          chosen : (S : N.State) (c : Bool) (b : ℕ) → is_written (made_of p S) b ≡ true → (if c then write_all S (made_of p S) b else X) ≡ write_all S (if c then made_of p S else blank (made_of p S)) b
          chosen S true b h = refl
          chosen S false b h = sym (blank_value law (made_of p S) S b h)

          other : (S : N.State) (c : Bool) (b : ℕ) → is_written (made_of p S) b ≡ false → S b ≡ write_all S (if c then made_of p S else blank (made_of p S)) b
          other S true b h = sym (law.other (made_of p S) S b h)
          other S false b h = sym (law.other (blank (made_of p S)) S b (blank_written (made_of p S) b ∙ h))

  -- ---- they are calls

  below : (a : ℕ) → a < l.first_temp + process_weight p → a < 2 ^ 32
  below a h = let numbers = room.numbers in omega (arith, h, numbers)

  temp : (a : ℕ) → a < l.first_temp → a < l.first_temp + process_weight p
  temp a h = omega (arith, h)

  wake_cost : (on : List ℕ) → ((b : ℕ) → contains on b ≡ true → 1 ≤ distinct s.on) → length_of (wake_calls mask spare on) ≤ distinct s.on + 1
  wake_cost [] h = omega arith
  wake_cost (b ∷ on) h =
      let one = h b (in_first b on) in
      let first : call_cost (compare_call mask spare (b ∷ on)) ≡ 1 = refl in
      let second : call_cost (mask_call mask spare) ≡ 1 = refl in
      omega (arith, one, first, second, sum_by-cons call_cost (compare_call mask spare (b ∷ on)) (mask_call mask spare ∷ []), sum_by-cons call_cost (mask_call mask spare) [])

  finish_cost : length_of (finish_call mask bits now ∷ []) ≡ length bits
  finish_cost =
      let here : call_cost (finish_call mask bits now) ≡ length (map home bits) = refl in
      let hs : length (map home bits) ≡ length bits = length-map bits home_of in
      omega (arith, here, hs, sum_by-cons call_cost (finish_call mask bits now) [])
    where
      home_of : ℕ → ℕ
      home_of b = home b

  InRange : ℕ → Type 0
  InRange slot = slot < l.first_temp + process_weight p

  wake_slots : (on : List ℕ) → ((b : ℕ) → contains on b ≡ true → b < l.bits) → All (λ slot. slot < l.first_temp + process_weight p) (slots_of (wake_calls mask spare on))
  wake_slots [] low = All-nil (λ slot. slot < l.first_temp + process_weight p)
  wake_slots (b ∷ on) low =
      All-append Q (call_slots (compare_call mask spare (b ∷ on))) (call_slots (mask_call mask spare) ++ [])
      (All-append Q ((mask ∷ map home (b ∷ on)) ++ ((0 ∷ x_slots (b ∷ on)) ++ [])) (spare ∷ [])
      (All-append Q (mask ∷ map home (b ∷ on)) ((0 ∷ x_slots (b ∷ on)) ++ [])
      (all_in Q (mask ∷ map home (b ∷ on)) (λ a h. temp a (first_or mask (map home (b ∷ on)) a h (λ e. let m = room.mask_below in omega (arith, e, m)) (λ k. let q = home_in l.bits (b ∷ on) low a k in let t = room.temps in omega (arith, q.1, t)))))
      (All-append Q (0 ∷ x_slots (b ∷ on)) [] (all_in Q (0 ∷ x_slots (b ∷ on)) (λ a h. temp a (let t = room.temps in first_or 0 (x_slots (b ∷ on)) a h (λ e. omega (arith, e, t)) (λ k. let q = x_in (b ∷ on) a k in omega (arith, q, t))))) (All-nil Q)))
      (All-cons Q spare [] room.spare_below (All-nil Q)))
      (All-append Q (call_slots (mask_call mask spare)) []
      (All-cons Q spare (mask ∷ []) room.spare_below (All-cons Q mask [] (temp mask room.mask_below) (All-nil Q)))
      (All-nil Q))
    where
      Q : ℕ → Type 0
      Q slot = slot < l.first_temp + process_weight p

  finish_slots : All (λ slot. slot < l.first_temp + process_weight p) (slots_of (finish_call mask bits now ∷ []))
  finish_slots =
      All-append Q (call_slots (finish_call mask bits now)) []
      (All-append Q ((mask ∷ []) ++ (now ++ (x_slots bits ++ []))) (map home bits ++ [])
      (All-cons Q mask (now ++ (x_slots bits ++ [])) (temp mask room.mask_below) (All-append Q now (x_slots bits ++ []) (all_in Q now is.below)
      (All-append Q (x_slots bits) [] (all_in Q (x_slots bits) (λ a h. temp a (let t = room.temps in let q = x_in bits a h in omega (arith, q, t)))) (All-nil Q))))
      (All-append Q (map home bits) [] (all_in Q (map home bits) (λ a h. temp a (let q = home_in l.bits bits room.bits_below a h in let t = room.temps in omega (arith, q.1, t)))) (All-nil Q)))
      (All-nil Q)
    where
      Q : ℕ → Type 0
      Q slot = slot < l.first_temp + process_weight p

  lowered : IsLoweredSleeper l p s mask (sleeper_calls mask spare waits bits now body)
  lowered = record {
    are_calls = All-append IsCall (wake_calls mask spare waits) (body ++ finish_call mask bits now ∷ [])
        (wake_ok l.bits l.first_temp mask mask_is spare waits room.spare_above (below spare room.spare_below) (record { below = room.on_below; few = room.few_on }))
        (All-append IsCall body (finish_call mask bits now ∷ []) is.are_calls (All-cons IsCall (finish_call mask bits now) [] finish_is (All-nil IsCall)));
    stores =
        let all = sum_by-append call_cost (wake_calls mask spare waits) (body ++ finish_call mask bits now ∷ []) in
        let rest = sum_by-append call_cost body (finish_call mask bits now ∷ []) in
        let own = is.stores in
        let few = room.few_written in
        omega (arith, all, rest, own, few, wake_cost waits room.wakes, finish_cost);
    slots = subst (All (λ slot. slot < l.first_temp + process_weight p)) (sym (flat_map-append call_slots (wake_calls mask spare waits) (body ++ finish_call mask bits now ∷ [])))
        (All-append (λ slot. slot < l.first_temp + process_weight p) (slots_of (wake_calls mask spare waits)) (slots_of (body ++ finish_call mask bits now ∷ [])) (wake_slots waits room.on_below)
        (subst (All (λ slot. slot < l.first_temp + process_weight p)) (sym (flat_map-append call_slots body (finish_call mask bits now ∷ [])))
        (All-append (λ slot. slot < l.first_temp + process_weight p) (slots_of body) (slots_of (finish_call mask bits now ∷ [])) is.slots finish_slots)));
    run = λ before after const bit called. ran before after const bit called;
  }
    where
      mask_is : IsMask l.bits l.first_temp mask
      mask_is = record { above = room.mask_above; below = room.mask_below }

      finish_is : IsCall (finish_call mask bits now)
      finish_is = finish_ok l.bits l.first_temp mask mask_is bits now (let numbers = room.numbers in omega (arith, numbers)) (record { below = room.bits_below; few = room.few_bits }) room.once room.some is.long
          (record { own = is.own; below = λ slot h. below slot (is.below slot h) })

-- ---- of a design

some_is : {A : Type 0} (x y : A) → Some x ≡ Some y → x ≡ y
some_is x y e = cc

process_number : (d : Design) (clocks : List ℕ) (p : ℕ) (x : Process) → slice_get d.processes p ≡ Some x → (network_of d clocks).process p ≡ process_of d clocks x
process_number d clocks p x e = go d.processes p e
  where
    go : (ps : List Process) (p : ℕ) → slice_get ps p ≡ Some x → at_or_input (map (process_of d clocks) ps ++ (map (writer_of clocks) (top_inputs d) ++ (spare_writers d clocks ++ keeper_of clocks (sole_bits d)))) p ≡ process_of d clocks x
    go [] p e = cc
    go (y ∷ ps) zero e = ap (process_of d clocks) (some_is y x e)
    go (y ∷ ps) (suc p) e = go ps p e

made_is : (d : Design) (clocks : List ℕ) (x : Process) (s : N.State) → made (process_of d clocks x) s ≡ made_of x s
made_is d clocks (Continuous place port target_place target e) s = refl
made_is d clocks (Always place star events statement) s = by_clock (is_clocked (Always place star events statement))
  where
    by_clock : (c : Bool) → made (block_process d clocks c (Always place star events statement) events statement) s ≡ (body statement s).writes
    by_clock true = refl
    by_clock false = refl

-- a list of which something fails isn't empty
some_bit : (test : ℕ → Bool) (bs : List ℕ) → list_all test bs ≡ false → (b : ℕ) × (contains bs b ≡ true)
some_bit test [] h = cc
some_bit test (b ∷ bs) h = (b, in_first b bs)

-- a sleeping block writes a bit
pub writes_some : SleepersWrite
writes_some d (Continuous place port target_place target e) h = cc
writes_some d (Always place star events st) h =
    let last = last_of (is_combinational (Always place star events st)) (list_all (is_still d) (waits_of (Always place star events st))) (not (stays_x st)) h in
    some_bit (λ b. is_only_x (lifted_body (at_once st) (λ c. only X) b)) (statement_bits st) (denied (stays_x st) last)
  where
    last_of : (u v w : Bool) → (u && v && w) ≡ true → w ≡ true
    last_of true true w h = h
    last_of true false w h = cc
    last_of false v w h = cc

    denied : (c : Bool) → not c ≡ true → c ≡ false
    denied true h = cc
    denied false h = refl

-- it weighs no less than the bits that it writes
weighs_writes : (d : Design) (x : Process) → is_sleeping d x ≡ true → distinct (writes_of x) ≤ process_weight x
weighs_writes d (Continuous place port target_place target e) h = cc
weighs_writes d (Always place star events st) h =
    let comb = first_of (is_combinational (Always place star events st)) (list_all (is_still d) (waits_of (Always place star events st))) (not (stays_x st)) h in
    let weight : process_weight (Always place star events st) ≡ distinct (statement_bits st) + statement_weight st = ap (λ (c : Bool). (if c then distinct (statement_bits st) else 0) + statement_weight st) comb in
    omega (arith, weight)
  where
    first_of : (u v w : Bool) → (u && v && w) ≡ true → u ≡ true
    first_of true v w h = refl
    first_of false v w h = cc

not_empty : (bs : List ℕ) (b : ℕ) → contains bs b ≡ true → 1 ≤ length bs
not_empty [] b h = cc
not_empty (c ∷ cs) b h = omega arith

in_left : (xs ys : List ℕ) (b : ℕ) → contains xs b ≡ true → contains (xs ++ ys) b ≡ true
in_left [] ys b h = cc
in_left (x ∷ xs) ys b h = first_or x xs b h (λ e. subst (λ z. contains (x ∷ (xs ++ ys)) z ≡ true) (sym e) (in_first x (xs ++ ys))) (λ k. in_rest x (xs ++ ys) b (in_left xs ys b k))

in_right : (xs ys : List ℕ) (b : ℕ) → contains ys b ≡ true → contains (xs ++ ys) b ≡ true
in_right [] ys b h = h
in_right (x ∷ xs) ys b h = in_rest x (xs ++ ys) b (in_right xs ys b h)

-- one of a list weighs no more than all
one_of_all : (f : Process → ℕ) (ps : List Process) (q : ℕ) (y : Process) → slice_get ps q ≡ Some y → f y ≤ sum_by f ps
one_of_all f [] q y e = cc
one_of_all f (z ∷ ps) zero y e = let sum = sum_by-cons f z ps in subst (λ w. f w ≤ sum_by f (z ∷ ps)) (some_is z y e) (omega (arith, sum))
one_of_all f (z ∷ ps) (suc q) y e = let sum = sum_by-cons f z ps in let rest = one_of_all f ps q y e in omega (arith, sum, rest)

module _ (fewer : FewAreApart) (lawful : AcceptedIsLawful) (footprint : BitsOfDesign) (masks : MasksFit) (d : Design) (names : List (List ℕ)) (a : IsAcceptedDesign d names) (l : Layout) (layout : IsLayoutOf d l) (numbers : l.first_temp + size d ≤ 2 ^ 32) (p : ℕ) (x : Process) (e : slice_get d.processes p ≡ Some x) (h : is_sleeping d x ≡ true) (on bits : List ℕ) (on_is : HasEachOnce (waits_of x) on) (bits_is : HasEachOnce (writes_of x) bits) where
  room_is : HasRoom l x (record { on = waits_of x; bits = writes_of x }) (mask_of d p) l.first_temp on bits
  room_is =
      let fits = masks d l layout p x e h in
      let temps = layout.layout.temps_above in
      let L = lawful d names a d.initials (same_order d.initials) in
      let is = L.sleepers p (record { on = waits_of x; bits = writes_of x }) (ap (sleeper_of d) e ∙ ap (λ (c : Bool). sleeper_if c x) h) in
      let weight = one_of_all process_weight d.processes p x e in
      let more = one_of_all (sleeper_weight d) d.processes p x e in
      let sleeping : sleeper_weight d x ≡ distinct (waits_of x) + 1 + distinct (writes_of x) = ap (λ (c : Bool). if c then distinct (waits_of x) + 1 + distinct (writes_of x) else 0) h in
      let few_waits = fewer (waits_of x) on on_is.once (λ b k. sym (on_is.has b) ∙ k) in
      let few_writes = fewer (writes_of x) bits bits_is.once (λ b k. sym (bits_is.has b) ∙ k) in
      let written = writes_some d x h in
      let heavy = weighs_writes d x h in
      record {
        temps = temps;
        spare_above = omega arith;
        spare_below = omega (arith, heavy, few_writes, not_empty bits written.0 (bits_is.has written.0 ∙ written.1));
        mask_above = fits.above;
        mask_below = fits.below;
        bits_below = λ b k. below b (in_right (all_reads x) (writes_of x ++ waits_of x) b (in_left (writes_of x) (waits_of x) b (sym (bits_is.has b) ∙ k)));
        on_below = λ b k. below b (in_right (all_reads x) (writes_of x ++ waits_of x) b (in_right (writes_of x) (waits_of x) b (sym (on_is.has b) ∙ k)));
        few_on = omega (arith, few_waits, sleeping, more, numbers, temps);
        few_bits = omega (arith, few_writes, sleeping, more, numbers, temps);
        few_written = few_writes;
        numbers = omega (arith, weight, numbers);
        written = λ t b.
            ap (λ ws. is_written ws b) (sym (made_is d (clock_bits a.clocks) x t))
            ∙ sym (ap (λ (q : N.Process). is_written (made q t) b) (process_number d (clock_bits a.clocks) p x e))
            ∙ exactly b t
            ∙ sym (is.bits_is b)
            ∙ sym (bits_is.has b);
        once = bits_is.once;
        some = not_empty bits written.0 (bits_is.has written.0 ∙ written.1);
        on_same = on_is.has;
        wakes = λ b k. fewer (waits_of x) (b ∷ []) (refl, tt) (λ c u. first_or b [] c u (λ same. ap (contains (waits_of x)) same ∙ sym (on_is.has b) ∙ k) (λ none. absurd (nothing_there c none)));
      }
    where
      -- it writes each of its bits, and no other
      exactly : (b : ℕ) (t : N.State) → is_written (made ((network_of d (clock_bits a.clocks)).process p) t) b ≡ writes ((network_of d (clock_bits a.clocks)).process p) b
      exactly b t =
          let L = lawful d names a d.initials (same_order d.initials) in
          let is = L.sleepers p (record { on = waits_of x; bits = writes_of x }) (ap (sleeper_of d) e ∙ ap (λ (c : Bool). sleeper_if c x) h) in
          by_test (writes ((network_of d (clock_bits a.clocks)).process p) b)
          (λ w. is.exact b t w ∙ sym w)
          (λ w. by_test (is_written (made ((network_of d (clock_bits a.clocks)).process p) t) b)
          (λ u. absurd (both_ways (writes ((network_of d (clock_bits a.clocks)).process p) b) w (L.own p b t (subst Settles (sym is.comb) tt) u)))
          (λ u. u ∙ sym w))

      below : (b : ℕ) → contains (all_reads x ++ (writes_of x ++ waits_of x)) b ≡ true → b < l.bits
      below b k = subst (λ m. b < m) (sym layout.bits) (footprint d a.lawful p x e b k)

      nothing_there : (c : ℕ) → contains [] c ≡ true → ⊥
      nothing_there c k = cc

pub sleeper_calls_are : SequenceIsBoth → WritesAre → FewAreApart → AcceptedIsLawful → BitsOfDesign → MasksFit → SleeperCallsAre
sleeper_calls_are sequence law fewer lawful footprint masks d names a l layout numbers p x e h on bits on_is bits_is now body is = (
  x,
  e,
  subst (λ (c : Bool). IsLoweredAs l (mask_of d p) (sleeper_if c x) x (sleeper_calls (mask_of d p) l.first_temp on bits now body)) (sym h)
      (lowered sequence law l x (record { on = waits_of x; bits = writes_of x }) (mask_of d p) l.first_temp on bits now body is (room_is fewer lawful footprint masks d names a l layout numbers p x e h on bits on_is bits_is)),
)
