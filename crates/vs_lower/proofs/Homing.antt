-- Bits copied to their homes at the end of a process.
use Rattle.std.proofs.Common.{◌≡◌, ℕ, zero, suc, ◌<◌, ◌≤◌, ◌^◌, Bool, true, false, ◌||◌, ◌&&◌, ◌==◌, nat_le, List, [], ◌∷◌, map, length, slice_index, sym, ap, ◌∙◌, subst, refl, arith, eq-eqb, true≢false, ◌⊎◌, inl, inr}
use Rattle.std.specs.List.{All}
use Rattle.std.proofs.lemmas.List.{length-map}
use Rattle.std.proofs.lemmas.List.Elements.{All-nil, All-cons, All-head, All-tail, All-weaker, All-map}
use Rattle.std.proofs.lemmas.List.FromFn.{length-range_with_len}
use Rattle.vs_plane.specs.Kernels.{IsArgument}
use Rattle.vs_kern_logic.specs.declared.costs.Kernel.TheVariants as L
use Rattle.vs_code.specs.declared.kernels.AnyKernel.TheVariants.{Logic}
use Rattle.vs_code.specs.Kernels.{takes}
use Rattle.vs_code.specs.Calls.{IsCall, lengths_of}
use Rattle.vs_design.specs.Footprints.{contains}
use Rattle.vs_design.specs.Sizes.{distinct}
use Rattle.vs_program.specs.Lowered.{home}
use Rattle.vs_values.specs.Added.{copy_call}
use Rattle.vs_lower.specs.Copies.{copies, moved, home_copies}
use Rattle.vs_values.specs.Environments.{homes}
use Rattle.vs_values.specs.Valued.{IsSource}
use Rattle.vs_lower.proofs.Branching.{differs, differing_in, still_once}
use Rattle.vs_lower.proofs.Differing.{bits_within}
use Rattle.vs_lower.proofs.Distinct.{Once, distinct_most}
use Rattle.vs_lower.proofs.Joining.{picked}
use Rattle.vs_values.proofs.Lists.{range_at}
use Rattle.vs_lower.proofs.Placing.{by_test}

-- ---- lists

pub picked_at : (env js : List ℕ) (k : ℕ) → k < length js → slice_index (picked env js) k ≡ slice_index env (slice_index js k)
picked_at env [] k l = absurd (omega arith)
picked_at env (x ∷ xs) zero l = refl
picked_at env (x ∷ xs) (suc k) l = picked_at env xs k (omega arith)

pub member_at : (js : List ℕ) (k : ℕ) → k < length js → contains js (slice_index js k) ≡ true
member_at [] k l = absurd (omega arith)
member_at (x ∷ xs) zero l = ap (λ q. q || contains xs x) (eq-eqb x x refl)
member_at (x ∷ xs) (suc k) l =
    by_test (slice_index xs k == x)
    (λ e. ap (λ q. q || contains xs (slice_index xs k)) e)
    (λ e. ap (λ q. q || contains xs (slice_index xs k)) e ∙ member_at xs k (omega arith))

pub once_places : (js : List ℕ) (j k : ℕ) → Once js → j < length js → k < length js → slice_index js j ≡ slice_index js k → j ≡ k
once_places [] j k o l m e = absurd (omega arith)
once_places (x ∷ xs) zero zero o l m e = refl
once_places (x ∷ xs) zero (suc k) o l m e = absurd (true≢false (sym (ap (contains xs) e ∙ member_at xs k (omega arith)) ∙ o.0))
once_places (x ∷ xs) (suc j) zero o l m e = absurd (true≢false (sym (ap (contains xs) (sym e) ∙ member_at xs j (omega arith)) ∙ o.0))
once_places (x ∷ xs) (suc j) (suc k) o l m e = ap suc (once_places xs j k o.1 (omega arith) (omega arith) e)

out_of_range : (xs : List ℕ) (b : ℕ) → length xs ≤ b → slice_index xs b ≡ 0
out_of_range [] b l = refl
out_of_range (x ∷ xs) zero l = absurd (omega arith)
out_of_range (x ∷ xs) (suc b) l = out_of_range xs b (omega arith)

-- ---- homes

pub home_at : (count b : ℕ) → b < count → slice_index (homes count) b ≡ home b
home_at count b l = range_at 4 count b 0 (omega (arith, length-range_with_len 4 count))

pub picked_homes : (count : ℕ) (js : List ℕ) → All (λ b. b < count) js → picked (homes count) js ≡ map home js
picked_homes count [] i = refl
picked_homes count (b ∷ js) i =
    ap (λ s. s ∷ picked (homes count) js) (home_at count b (All-head (λ b. b < count) b js i))
    ∙ ap (λ ss. home b ∷ ss) (picked_homes count js (All-tail (λ b. b < count) b js i))

-- a slot that isn't home is no home of such a bit
not_home : (count first b c slot : ℕ) (reads : List ℕ) → home count ≤ first → b < count → c < count → (slot ≡ slice_index (homes count) b → ⊥) → contains reads c ≡ false
    → (slot ≡ slice_index (homes count) b) ⊎ IsSource (homes count) first reads slot → slot ≡ home c → ⊥
not_home count first b c slot reads room l m away unread (inl h) e = away h
not_home count first b c slot reads room l m away unread (inr (inl h)) e = absurd (omega (arith, h, e))
not_home count first b c slot reads room l m away unread (inr (inr (inl h))) e = absurd (omega (arith, h, e, room, m))
not_home count first b c slot reads room l m away unread (inr (inr (inr (d, r, h)))) e =
    by_range (nat_le count d) refl
  where
    is_le : (x y : ℕ) → nat_le x y ≡ true → x ≤ y
    is_le x y h = grind arith

    is_lt : (x y : ℕ) → nat_le x y ≡ false → y < x
    is_lt x y h = grind arith

    by_range : (q : Bool) → nat_le count d ≡ q → ⊥
    by_range true k = absurd (omega (arith, sym h ∙ out_of_range (homes count) d (omega (arith, length-range_with_len 4 count, is_le count d k)), e))
    by_range false k =
        let same : d ≡ c = omega (arith, home_at count d (is_lt count d k), h, e) in
        true≢false (sym r ∙ ap (contains reads) same ∙ unread)

-- ---- the copy of those that have left

copy_takes : (n : ℕ) → 1 ≤ n → (nat_le 1 n && n == n) ≡ true
copy_takes n h = grind arith

is_copy : (count first most top : ℕ) (bits env reads js : List ℕ) → home count ≤ first → first ≤ 2 ^ 32 → top ≤ 2 ^ 32
    → All (λ b. b < count) js → Once js → 1 ≤ length js → length js < 2 ^ 32 → length env ≡ count → All (λ slot. slot < top) env
    → ((b : ℕ) → contains js b ≡ true → slice_index env b ≡ slice_index (homes count) b → ⊥)
    → ((b : ℕ) → b < count → (slice_index env b ≡ slice_index (homes count) b) ⊎ IsSource (homes count) first reads (slice_index env b))
    → ((b : ℕ) → contains js b ≡ true → contains reads b ≡ false)
    → IsCall (copy_call (picked env js) (picked (homes count) js))
is_copy count first most top bits env reads js room first_fits top_fits inside once some short long below away from unread =
    let n = length js in
    let Q : ℕ → Type 0 = λ k. k < 2 ^ 32 in
    let P : ℕ → Type 0 = λ slot. slot < 2 ^ 32 in
    let call = copy_call (picked env js) (picked (homes count) js) in
    let same : (n ∷ n ∷ []) ≡ lengths_of call = ap (λ (x : ℕ). x ∷ n ∷ []) (sym (length-map js (slice_index env))) ∙ ap (λ (x : ℕ). length (picked env js) ∷ x ∷ []) (sym (length-map js (slice_index (homes count)))) in
    let wide : length (picked env js) ≡ n = length-map js (slice_index env) in
    let tall : length (picked (homes count) js) ≡ n = length-map js (slice_index (homes count)) in
    record {
      lengths = subst (λ ls. takes (Logic L.Copy) ls ≡ true) same (copy_takes n some);
      short = subst (All Q) same (All-cons Q n (n ∷ []) short (All-cons Q n [] short (All-nil Q)));
      room = omega arith;
      targets = record {
        to_below = subst (All P) (sym (picked_homes count js inside)) (All-map P home js (All-weaker (λ b. b < count) (λ b. home b < 2 ^ 32) (λ b l. omega (arith, room, first_fits)) js inside));
        scratch_below = All-nil P;
        to_differ = record { place = λ j k l m e. once_places js j k once (omega (arith, tall, l)) (omega (arith, tall, m)) (at_home j k (omega (arith, tall, l)) (omega (arith, tall, m)) e) };
        scratch_differ = record { place = λ j k l m e. absurd (omega arith) };
        both_apart = record { differ = λ j k l m e. absurd (omega arith) };
      };
      arguments = All-cons (λ arg. IsArgument (2 ^ 32) arg (picked (homes count) js) []) (picked env js) [] (record {
        below = All-map P (slice_index env) js (All-weaker (λ b. b < count) (λ b. slice_index env b < 2 ^ 32) (λ b l. let q : slice_index env b < top = below b 0 (omega (arith, long)) in omega (arith, q, top_fits)) js inside);
        to_apart = record { differ = λ j k l m e. apart j k (omega (arith, wide, l)) (omega (arith, tall, m)) e };
        scratch_apart = record { differ = λ j k l m e. absurd (omega arith) };
      }) (All-nil (λ arg. IsArgument (2 ^ 32) arg (picked (homes count) js) []));
    }
  where
    in_range : (k : ℕ) → k < length js → slice_index js k < count
    in_range k l = inside k 0 l

    at_home : (j k : ℕ) → j < length js → k < length js → slice_index (picked (homes count) js) j ≡ slice_index (picked (homes count) js) k → slice_index js j ≡ slice_index js k
    at_home j k l m e =
        let x : slice_index (picked (homes count) js) j ≡ home (slice_index js j) = picked_at (homes count) js j l ∙ home_at count (slice_index js j) (in_range j l) in
        let y : slice_index (picked (homes count) js) k ≡ home (slice_index js k) = picked_at (homes count) js k m ∙ home_at count (slice_index js k) (in_range k m) in
        omega (arith, x, y, e)

    apart : (j k : ℕ) → j < length js → k < length js → slice_index (picked env js) j ≡ slice_index (picked (homes count) js) k → ⊥
    apart j k l m e =
        let b = slice_index js j in
        let c = slice_index js k in
        not_home count first b c (slice_index env b) reads room (in_range j l) (in_range k m) (away b (member_at js j l)) (unread c (member_at js k m)) (from b (in_range j l))
        (sym (picked_at env js j l) ∙ e ∙ picked_at (homes count) js k m ∙ home_at count c (in_range k m))

some_length : (xs : List ℕ) → (xs ≡ [] → ⊥) → 1 ≤ length xs
some_length [] f = absurd (f refl)
some_length (x ∷ xs) f = omega arith

-- those of these bits that have left are copied by calls, where no slot that they have now is the home of one of them
pub home_calls : (count first top : ℕ) (bits env reads all : List ℕ) → home count ≤ first → first ≤ 2 ^ 32 → top ≤ 2 ^ 32
    → All (λ b. b < count) bits → Once bits → ((b : ℕ) → contains bits b ≡ true → contains all b ≡ true) → distinct all < 2 ^ 32 → length env ≡ count → All (λ slot. slot < top) env
    → ((b : ℕ) → b < count → (slice_index env b ≡ slice_index (homes count) b) ⊎ IsSource (homes count) first reads (slice_index env b))
    → ((b : ℕ) → contains bits b ≡ true → contains reads b ≡ false)
    → All IsCall (home_copies count bits env)
home_calls count first top bits env reads all room first_fits top_fits inside once sub short long below from unread = by (moved count bits env) refl
  where
    js : List ℕ
    js = moved count bits env

    is : (1 ≤ length js) → IsCall (copy_call (picked env js) (picked (homes count) js))
    is some = is_copy count first 0 top bits env reads js room first_fits top_fits (bits_within (λ b. b < count) bits (picked (homes count) bits) env inside) (still_once (homes count) env bits once) some
        (let most : length js ≤ distinct all = distinct_most all js (still_once (homes count) env bits once) (λ b h. sub b (differing_in (homes count) env bits b h)) in omega (arith, most, short))
        long below
        (λ b h e. true≢false (sym h ∙ differs (homes count) env bits b (sym e)))
        from
        (λ b h. unread b (differing_in (homes count) env bits b h))

    one : (x : ℕ) (xs : List ℕ) → js ≡ (x ∷ xs) → copies (picked env js) (picked (homes count) js) ≡ copy_call (picked env js) (picked (homes count) js) ∷ []
    one x xs h = subst (λ (ks : List ℕ). copies (picked env ks) (picked (homes count) ks) ≡ copy_call (picked env ks) (picked (homes count) ks) ∷ []) (sym h) refl

    by : (ks : List ℕ) → js ≡ ks → All IsCall (copies (picked env js) (picked (homes count) js))
    by [] h = subst (λ (ks : List ℕ). All IsCall (copies (picked env ks) (picked (homes count) ks))) (sym h) (All-nil IsCall)
    by (x ∷ xs) h = subst (All IsCall) (sym (one x xs h)) (All-cons IsCall (copy_call (picked env js) (picked (homes count) js)) [] (is (omega (arith, ap (λ (ks : List ℕ). length ks) h))) (All-nil IsCall))

-- of some bits it is one call
pub some_copies : (env to js : List ℕ) → (js ≡ [] → ⊥) → copies (picked env js) to ≡ copy_call (picked env js) to ∷ []
some_copies env to [] f = absurd (f refl)
some_copies env to (x ∷ xs) f = refl
