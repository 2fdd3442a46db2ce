-- Branches: the slots of their bits, the environment put back, and the join.
use Rattle.std.proofs.Common.{◌≡◌, ◌≢◌, ◌⊎◌, inl, inr, ℕ, suc, ◌+◌, ◌<◌, ◌≤◌, ◌^◌, Bool, true, false, ◌||◌, ◌&&◌, ◌==◌, nat_le, if◌then◌else◌, List, [], ◌∷◌, map, length, set, slice_index, Some, sym, ap, ◌∙◌, subst, refl, arith, eqb-true, eq-eqb, true≢false, get_or-set_same, get_or-set_other, length-set}
use Rattle.std.specs.List.{All}
use Rattle.std.proofs.lemmas.List.{ext_get_or, length-map}
use Rattle.std.proofs.lemmas.List.Elements.{All-nil, All-cons, All-head, All-tail, All-weaker}
use Rattle.std.proofs.lemmas.List.FromFn.{length-range_with_len}
use Rattle.vs_design.specs.Footprints.{contains}
use Rattle.vs_kern_select.specs.declared.costs.Kernel.TheVariants as S
use Rattle.vs_code.specs.declared.kernels.AnyKernel.TheVariants.{Select}
use Rattle.vs_code.specs.Kernels.{takes}
use Rattle.vs_code.specs.Calls.{IsCall, call_cost, length_of}
use Rattle.vs_values.specs.Coded.{Coding}
use Rattle.vs_values.specs.Environments.{placed}
use Rattle.vs_lower.specs.Joined.{differing_bits}
use Rattle.vs_values.specs.Made.{IsCallable}
use Rattle.vs_values.proofs.Adding.{is_fresh_call}
use Rattle.vs_lower.proofs.Differing.{bits_within, bits_alike}
use Rattle.vs_lower.proofs.Distinct.{Once}
use Rattle.vs_lower.proofs.Joining.{picked, picked_below, IsJoin, join_call}
use Rattle.vs_lower.proofs.Placing.{by_test}
use Rattle.vs_values.proofs.Environments.{placed_length}
use Rattle.vs_values.proofs.Unary.{not_true}

-- ---- an environment put back

set_keeps : (env back : List ℕ) (c : ℕ) (cs : List ℕ) → c < length env → ((b : ℕ) → contains (c ∷ cs) b ≡ false → slice_index env b ≡ slice_index back b)
    → (b : ℕ) → contains cs b ≡ false → slice_index (set env c (slice_index back c)) b ≡ slice_index back b
set_keeps env back c cs l h b out =
    by_test (b == c)
    (λ e. let same : b ≡ c = eqb-true b c e in
    ap (slice_index (set env c (slice_index back c))) same ∙ get_or-set_same env c (slice_index back c) 0 l ∙ ap (slice_index back) (sym same))
    (λ e. let other : b ≢ c = (λ (q : b ≡ c). true≢false (sym (eq-eqb b c q) ∙ e)) in
    get_or-set_other env c b (slice_index back c) 0 other ∙ h b (ap (λ q. q || contains cs b) e ∙ out))

back_at : (env back bits : List ℕ) → All (λ b. b < length env) bits → ((b : ℕ) → contains bits b ≡ false → slice_index env b ≡ slice_index back b)
    → (b : ℕ) → slice_index (placed env (map Some bits) (map (slice_index back) bits)) b ≡ slice_index back b
back_at env back [] i h b = h b refl
back_at env back (c ∷ cs) i h b =
    let l : c < length env = All-head (λ b. b < length env) c cs i in
    let long = length-set env c (slice_index back c) in
    back_at (set env c (slice_index back c)) back cs
    (All-weaker (λ b. b < length env) (λ b. b < length (set env c (slice_index back c))) (λ b m. omega (arith, long)) cs (All-tail (λ b. b < length env) c cs i))
    (set_keeps env back c cs l h) b

-- bits that get back the slots that they had: where no other has changed, all are as they were
pub put_back : (env back bits : List ℕ) → length env ≡ length back → All (λ b. b < length env) bits → ((b : ℕ) → contains bits b ≡ false → slice_index env b ≡ slice_index back b)
    → placed env (map Some bits) (map (slice_index back) bits) ≡ back
put_back env back bits long i h =
    ext_get_or 0 (placed env (map Some bits) (map (slice_index back) bits)) back (placed_length env (map Some bits) (map (slice_index back) bits) ∙ long) (λ b l. back_at env back bits i h b)

-- ---- the join of two branches

pub differs : (env1 env2 bits : List ℕ) (b : ℕ) → slice_index env1 b ≡ slice_index env2 b → contains (differing_bits bits (map (slice_index env1) bits) env2) b ≡ false
differs env1 env2 [] b e = refl
differs env1 env2 (c ∷ cs) b e =
    by_test (slice_index env1 c == slice_index env2 c)
    (λ q. ap (λ (k : Bool). contains (if k then rest else (c ∷ rest)) b) q ∙ differs env1 env2 cs b e)
    (λ q. ap (λ (k : Bool). contains (if k then rest else (c ∷ rest)) b) q
    ∙ by_test (b == c)
    (λ s. let same : b ≡ c = eqb-true b c s in
    absurd (true≢false (sym (eq-eqb (slice_index env1 c) (slice_index env2 c) (ap (slice_index env1) (sym same) ∙ e ∙ ap (slice_index env2) same)) ∙ q)))
    (λ s. ap (λ k. k || contains rest b) s ∙ differs env1 env2 cs b e))
  where
    rest : List ℕ
    rest = differing_bits cs (map (slice_index env1) cs) env2

pub differing_in : (env1 env2 bits : List ℕ) (b : ℕ) → contains (differing_bits bits (map (slice_index env1) bits) env2) b ≡ true → contains bits b ≡ true
differing_in env1 env2 [] b h = h
differing_in env1 env2 (c ∷ cs) b h =
    by_test (b == c)
    (λ s. ap (λ k. k || contains cs b) s)
    (λ s. ap (λ k. k || contains cs b) s ∙ differing_in env1 env2 cs b (by_test (slice_index env1 c == slice_index env2 c)
    (λ q. sym (ap (λ (k : Bool). contains (if k then rest else (c ∷ rest)) b) q) ∙ h)
    (λ q. sym (ap (λ k. k || contains rest b) s) ∙ sym (ap (λ (k : Bool). contains (if k then rest else (c ∷ rest)) b) q) ∙ h)))
  where
    rest : List ℕ
    rest = differing_bits cs (map (slice_index env1) cs) env2

pub still_once : (env1 env2 bits : List ℕ) → Once bits → Once (differing_bits bits (map (slice_index env1) bits) env2)
still_once env1 env2 [] o = tt
still_once env1 env2 (c ∷ cs) o = by (slice_index env1 c == slice_index env2 c) (not_true (contains rest c) (λ h. true≢false (sym (differing_in env1 env2 cs c h) ∙ o.0))) (still_once env1 env2 cs o.1)
  where
    rest : List ℕ
    rest = differing_bits cs (map (slice_index env1) cs) env2

    by : (q : Bool) → contains rest c ≡ false → Once rest → Once (if q then rest else (c ∷ rest))
    by true n h = h
    by false n h = (n, h)

pub choice_takes : (c n : ℕ) → 1 ≤ c → 1 ≤ n → (nat_le 1 c && nat_le 1 n && n == n && n == n) ≡ true
choice_takes c n h k = grind arith

pub some_length : (xs : List ℕ) → (xs ≡ [] → ⊥) → 1 ≤ length xs
some_length [] f = absurd (f refl)
some_length (x ∷ xs) f = omega arith

-- what the call of a join needs, and what a join of those that differ is
pub record CanJoin (env1 env2 js tc : List ℕ) (code : Coding) : Type 0 where
  pub call : IsCallable code (Select S.Branch) (tc ∷ picked env1 js ∷ picked env2 js ∷ []) (length js)
  pub join : IsJoin env1 env2 js (join_call tc env1 env2 js code.next)

-- two environments that differ at these bits alone
pub record IsFork (env1 env2 bits : List ℕ) (next : ℕ) : Type 0 where
  pub long : length env1 ≡ length env2
  pub same : (b : ℕ) → contains bits b ≡ false → slice_index env1 b ≡ slice_index env2 b
  pub below1 : All (λ slot. slot < next) env1
  pub below2 : All (λ slot. slot < next) env2

pub can_join : (env1 env2 bits tc : List ℕ) (code : Coding) → IsFork env1 env2 bits code.next → All (λ b. b < length env2) bits
    → All (λ slot. slot < code.next) tc → 1 ≤ length tc → length tc < 2 ^ 32
    → code.next + length (differing_bits bits (picked env1 bits) env2) < 2 ^ 32 → length_of code.calls + length (differing_bits bits (picked env1 bits) env2) ≤ 2 ^ 32
    → (differing_bits bits (picked env1 bits) env2 ≡ [] → ⊥) → CanJoin env1 env2 (differing_bits bits (picked env1 bits) env2) tc code
can_join env1 env2 bits tc code f inside below_c some_c short_c slots few differ =
    let js = differing_bits bits (picked env1 bits) env2 in
    let n = length js in
    let inside2 : All (λ b. b < length env2) js = bits_within (λ b. b < length env2) bits (picked env1 bits) env2 inside in
    let inside1 : All (λ b. b < length env1) js = All-weaker (λ b. b < length env2) (λ b. b < length env1) (λ b l. omega (arith, l, f.long)) js inside2 in
    let some : 1 ≤ n = some_length js differ in
    let P : List ℕ → Type 0 = λ to. All (λ slot. slot < code.next) to in
    let one : P (picked env1 js) = picked_below env1 code.next js inside1 f.below1 in
    let two : P (picked env2 js) = picked_below env2 code.next js inside2 f.below2 in
    let args = tc ∷ picked env1 js ∷ picked env2 js ∷ [] in
    let Q : ℕ → Type 0 = λ k. k < 2 ^ 32 in
    let k = length tc in
    let same_lengths : (k ∷ n ∷ n ∷ n ∷ []) ≡ (k ∷ length (picked env1 js) ∷ length (picked env2 js) ∷ n ∷ []) =
    ap (λ (x : ℕ). k ∷ x ∷ n ∷ n ∷ []) (sym (length-map js (slice_index env1))) ∙ ap (λ (x : ℕ). k ∷ length (picked env1 js) ∷ x ∷ n ∷ []) (sym (length-map js (slice_index env2))) in
    let short : n < 2 ^ 32 = omega (arith, slots) in
    let shorts : All Q (k ∷ n ∷ n ∷ n ∷ []) = All-cons Q k (n ∷ n ∷ n ∷ []) short_c (All-cons Q n (n ∷ n ∷ []) short (All-cons Q n (n ∷ []) short (All-cons Q n [] short (All-nil Q)))) in
    let is : IsCall (join_call tc env1 env2 js code.next) = is_fresh_call (Select S.Branch) args code.next n (subst (λ ls. takes (Select S.Branch) ls ≡ true) same_lengths (choice_takes k n some_c some)) (subst (All Q) same_lengths shorts)
    (omega arith) (omega (arith, slots)) (All-cons P tc (picked env1 js ∷ picked env2 js ∷ []) below_c (All-cons P (picked env1 js) (picked env2 js ∷ []) one (All-cons P (picked env2 js) [] two (All-nil P)))) in
    let cost : call_cost (join_call tc env1 env2 js code.next) ≡ n = length-range_with_len code.next n in
    record {
      call = record { is = is; slots = slots; few = omega (arith, few, cost) };
      join = record {
        inside = inside2;
        same = λ b l out. by_test (contains bits b) (λ h. bits_alike env1 bits env2 b h out) (f.same b);
        others = λ b h. differs env1 env2 bits b h;
        is = is;
        cost = cost;
      };
    }

-- ---- both environments

longer : (q : Bool) (b : ℕ) (xs : List ℕ) → length (if q then xs else (b ∷ xs)) ≤ suc (length xs)
longer true b xs = omega arith
longer false b xs = omega arith

one_more : (e1 e2 : List ℕ) (b : ℕ) (bs : List ℕ) → length (differing_bits (b ∷ bs) (picked e1 (b ∷ bs)) e2) ≤ suc (length (differing_bits bs (picked e1 bs) e2))
one_more e1 e2 b bs = longer (slice_index e1 b == slice_index e2 b) b (differing_bits bs (picked e1 bs) e2)

no_more : (e1 e2 : List ℕ) (b : ℕ) (bs : List ℕ) → slice_index e1 b ≡ slice_index e2 b → length (differing_bits (b ∷ bs) (picked e1 (b ∷ bs)) e2) ≡ length (differing_bits bs (picked e1 bs) e2)
no_more e1 e2 b bs e =
    ap (λ (q : Bool). length (if q then differing_bits bs (picked e1 bs) e2 else (b ∷ differing_bits bs (picked e1 bs) e2))) (eq-eqb (slice_index e1 b) (slice_index e2 b) e)

-- in one of both environments a bit keeps its slot
abbrev pub HaveSides : List ℕ → List ℕ → List ℕ → List ℕ → Type 0
HaveSides now1 later1 now2 later2 = (b : ℕ) → (slice_index now1 b ≡ slice_index now2 b) ⊎ (slice_index later1 b ≡ slice_index later2 b)

-- so both joins make no more stores than there are bits
pub both_few : (bits now1 later1 now2 later2 : List ℕ) → HaveSides now1 later1 now2 later2
    → length (differing_bits bits (picked now1 bits) now2) + length (differing_bits bits (picked later1 bits) later2) ≤ length bits
both_few [] now1 later1 now2 later2 h = omega arith
both_few (b ∷ bs) now1 later1 now2 later2 h = step (h b) (both_few bs now1 later1 now2 later2 h)
  where
    step : (slice_index now1 b ≡ slice_index now2 b) ⊎ (slice_index later1 b ≡ slice_index later2 b)
        → length (differing_bits bs (picked now1 bs) now2) + length (differing_bits bs (picked later1 bs) later2) ≤ length bs
        → length (differing_bits (b ∷ bs) (picked now1 (b ∷ bs)) now2) + length (differing_bits (b ∷ bs) (picked later1 (b ∷ bs)) later2) ≤ suc (length bs)
    step (inl e) few = omega (arith, few, no_more now1 now2 b bs e, one_more later1 later2 b bs)
    step (inr e) few = omega (arith, few, one_more now1 now2 b bs, no_more later1 later2 b bs e)
