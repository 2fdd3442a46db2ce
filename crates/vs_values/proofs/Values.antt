-- The slots of an expression's value, of those of its parts.
use Rattle.std.proofs.Common.{◌≡◌, ℕ, suc, ◌+◌, ◌<◌, ◌≤◌, ◌^◌, Bool, true, false, ◌&&◌, ◌||◌, ◌==◌, if◌then◌else◌, List, [], ◌∷◌, ◌++◌, map, length, slice_index, get_or, sym, ap, ◌∙◌, subst, refl, inl, inr, arith, length-append, true≢false}
use Rattle.std.specs.List.{All, range_with_len}
use Rattle.std.proofs.lemmas.List.{map-append, length-map}
use Rattle.std.proofs.lemmas.List.Elements.{All-nil, All-cons, All-append, All-head, All-weaker, All-map}
use Rattle.std.proofs.lemmas.List.FromFn.{length-range_with_len}
use Rattle.vs_four.specs.Logic.{BitList}
use Rattle.vs_four.specs.Lengths.{extend, join}
use Rattle.vs_net.specs.Network as N
use Rattle.vs_design.specs.Expressions.{Signal, BinaryOp, Expression, Name, Binary, Join, At, Way, way, width, sign, is_constant}
use Rattle.vs_design.specs.Values.{value, bits_of_signal, read, apply_binary, left_width, right_width, left_sign, right_sign}
use Rattle.vs_design.specs.Sizes.{weight, binary_weight, is_shift}
use Rattle.vs_design.specs.Footprints.{contains, read_bits}
use Rattle.vs_design.specs.Fits.{is_division}
use Rattle.vs_code.specs.Kernels.{operator_of, takes, cost_of, room_of}
use Rattle.vs_code.specs.Calls.{Call, State, IsCall, AreCalled, call_cost, lengths_of}
use Rattle.vs_values.specs.Added.{IsEnv, Holds, AreValues, fresh_call}
use Rattle.vs_values.specs.Constants.{constant_slots, extended_slots}
use Rattle.vs_values.specs.Choices.{binary_kernel, binary_lengths, result_of_way}
use Rattle.vs_values.specs.Valued.{IsSource, IsValue}
use Rattle.vs_values.proofs.Lists.{map_agree, range_from}
use Rattle.vs_values.proofs.Adding.{added_none, added_within, values_more, values_as, values_call, is_fresh_call}
use Rattle.vs_values.proofs.Moved.{constants_are, all_constant, extended_are, extended_all, length-extended}
use Rattle.vs_values.proofs.Operators.{binary_takes, binary_operator, binary_cost, binary_room}

-- ---- an expression with one value

pub constant_value_is : (env : List ℕ) (mark : ℕ) (e : Expression) (w : ℕ) (s : Bool) (v : BitList) → IsEnv env mark → length v ≡ w → ((state : N.State) → value e w s state ≡ v)
    → IsValue env mark e w s [] (constant_slots v) mark
constant_value_is env mark e w s v ie long is = record {
  values = record {
    added = added_within mark [] mark 0 (weight e w) (omega arith) (added_none mark);
    below = All-cons (λ to. All (λ slot. slot < mark) to) (constant_slots v) []
        (All-weaker (λ slot. slot < 4) (λ slot. slot < mark) (λ slot l. omega (arith, ie.constants)) (constant_slots v) (all_constant v))
        (All-nil (λ to. All (λ slot. slot < mark) to));
    values = λ before after state holds called.
        ap (λ (x : BitList). x ∷ []) (map_agree after before (constant_slots v) (λ k d l. called (get_or (constant_slots v) k d)) ∙ constants_are before v holds.constants ∙ sym (is state));
  };
  length = length-map v _ ∙ long;
  constant = λ c. all_constant v;
  sources = All-weaker (λ slot. slot < 4) (IsSource env mark (read_bits e)) (λ slot l. inl l) (constant_slots v) (all_constant v);
}

-- ---- a place in the text changes nothing

pub at_is : (env : List ℕ) (mark place : ℕ) (e : Expression) (w : ℕ) (s : Bool) (c : List Call) (to : List ℕ) (next : ℕ) → IsValue env mark e w s c to next → IsValue env mark (At place e) w s c to next
at_is env mark place e w s c to next h = record { values = h.values; length = h.length; constant = h.constant; sources = h.sources }

-- ---- a value that is made longer

pub one_more : (P : List ℕ → Type 0) (to : List ℕ) → P to → All P (to ∷ [])
one_more P to h = All-cons P to [] h (All-nil P)

-- the one list of slots, extended; the values may be written in another way
pub extended_values : (env : List ℕ) (m : ℕ) (c : List Call) (to : List ℕ) (n most more : ℕ) (v u : N.State → BitList) (w : ℕ) (s : Bool) → IsEnv env m → most ≤ more
    → ((state : N.State) → v state ≡ u state)
    → AreValues env m c (to ∷ []) n most (λ state. v state ∷ [])
    → AreValues env m c (extended_slots w s to ∷ []) n more (λ state. extend w s (u state) ∷ [])
extended_values env m c to n most more v u w s e l is a =
    values_as env m c (to ∷ []) n most (λ state. v state ∷ []) (extended_slots w s to ∷ []) more (λ state. extend w s (u state) ∷ []) e a l
    (one_more (λ to. All (λ slot. slot < n) to) (extended_slots w s to)
    (extended_all (λ slot. slot < n) w s to (omega (arith, e.constants, a.added.grown)) (All-head (λ to. All (λ slot. slot < n) to) to [] a.below)))
    (λ slots state constants same.
    ap (λ (x : BitList). x ∷ []) (extended_are slots w s to constants ∙ ap (extend w s) (one_is (map slots to) (v state) same ∙ is state)))
  where
    one_is : (x y : BitList) → (x ∷ []) ≡ (y ∷ []) → x ≡ y
    one_is x y h = cc

-- ---- a name

pub name_is : (env : List ℕ) (mark : ℕ) (signal : Signal) (w : ℕ) (s : Bool) → IsEnv env mark → All (λ b. b < length env) (bits_of_signal signal) → length (bits_of_signal signal) ≤ w
    → IsValue env mark (Name signal) w s [] (extended_slots w s (map (slice_index env) (bits_of_signal signal))) mark
name_is env mark signal w s e inside fits =
    let bits = bits_of_signal signal in
    let to = map (slice_index env) bits in
    let source : All (IsSource env mark bits) to = named env mark bits bits (λ b h. h) in
    record {
      values = extended_values env mark [] to mark 0 0 (λ state. read state bits) (λ state. read state bits) w s e (omega arith) (λ state. refl) (record {
        added = added_none mark;
        below = one_more (λ to. All (λ slot. slot < mark) to) to (All-map (λ slot. slot < mark) (slice_index env) bits (All-weaker (λ b. b < length env) (λ b. slice_index env b < mark) (λ b l. e.below b 0 l) bits inside));
        values = λ before after state holds called. ap (λ (x : BitList). x ∷ []) (are before after state bits holds called inside);
      });
      length = length-extended w s to (omega (arith, length-map bits (slice_index env)));
      constant = λ c. absurd (true≢false (sym c));
      sources = extended_all (IsSource env mark bits) w s to (inl (omega arith)) source;
    }
  where
    are : (before after : State) (state : N.State) (bits : List ℕ) → Holds env before state → AreCalled [] before after → All (λ b. b < length env) bits → map after (map (slice_index env) bits) ≡ map state bits
    are before after state [] h c i = refl
    are before after state (b ∷ bits) h c i =
        ap (λ v. v ∷ map after (map (slice_index env) bits)) (c (slice_index env b) ∙ h.bits b (All-head (λ b. b < length env) b bits i))
        ∙ ap (λ vs. state b ∷ vs) (are before after state bits h c (rest b bits i))
      where
        rest : (b : ℕ) (bits : List ℕ) → All (λ b. b < length env) (b ∷ bits) → All (λ b. b < length env) bits
        rest b bits i = λ k d l. i (suc k) d (omega arith)

    first : (b : ℕ) (bs : List ℕ) → contains (b ∷ bs) b ≡ true
    first b bs = grind arith

    later : (c b : ℕ) (bs : List ℕ) → contains bs b ≡ true → contains (c ∷ bs) b ≡ true
    later c b bs h = grind arith

    named : (env : List ℕ) (mark : ℕ) (all bits : List ℕ) → ((b : ℕ) → contains bits b ≡ true → contains all b ≡ true) → All (IsSource env mark all) (map (slice_index env) bits)
    named env mark all [] f = All-nil (IsSource env mark all)
    named env mark all (b ∷ bits) f =
        All-cons (IsSource env mark all) (slice_index env b) (map (slice_index env) bits) (inr (inr (b, f b (first b bits), refl)))
        (named env mark all bits (λ c h. f c (later b c bits h)))

-- ---- an operator of two operands, by its kernel

-- a constant expression weighs nothing
pub weight_of_binary : (op : BinaryOp) (a b : Expression) (w : ℕ) → (is_constant a && is_constant b) ≡ false → (is_shift (way op) && is_constant b) ≡ false
    → weight (Binary op a b) w ≡ binary_weight op w (width a) (width b) + weight a (left_width (way op) w (width a) (width b)) + weight b (right_width (way op) w (width a) (width b))
weight_of_binary op a b w both shifted =
    let x = weight a (left_width (way op) w (width a) (width b)) in
    let y = weight b (right_width (way op) w (width a) (width b)) in
    ap (λ (c : Bool). (if c then 0 else (if is_shift (way op) && is_constant b then 0 else binary_weight op w (width a) (width b))) + x + y) both
    ∙ ap (λ (c : Bool). (if c then 0 else binary_weight op w (width a) (width b)) + x + y) shifted

pub fresh_sources : (env : List ℕ) (m n k : ℕ) (bits : List ℕ) → m ≤ n → All (IsSource env m bits) (range_with_len n k)
fresh_sources env m n k bits l = All-weaker (λ slot. m ≤ slot) (IsSource env m bits) (λ slot g. inr (inl g)) (range_with_len n k) (range_from n k m l)

result_within : (y : Way) (w : ℕ) → 1 ≤ w → result_of_way y w ≤ w
result_within y w h = grind arith

pub binary_is : (env : List ℕ) (m : ℕ) (op : BinaryOp) (a b : Expression) (w : ℕ) (s : Bool) (c : List Call) (ta : List ℕ) (n : ℕ) (d : List Call) (tb : List ℕ) (p : ℕ)
    → IsEnv env m → is_division op ≡ false → 1 ≤ w → 1 ≤ width a → 1 ≤ width b
    → (is_constant a && is_constant b) ≡ false → (is_shift (way op) && is_constant b) ≡ false
    → IsValue env m a (left_width (way op) w (width a) (width b)) (left_sign (way op) s (sign a) (sign b)) c ta n
    → IsValue env n b (right_width (way op) w (width a) (width b)) (right_sign (way op) s (sign a) (sign b)) d tb p
    → 0 ≡ room_of (binary_kernel op (left_sign (way op) s (sign a) (sign b))) (binary_lengths op w (width a) (width b))
    → All (λ k. k < 2 ^ 32) (binary_lengths op w (width a) (width b))
    → p + result_of_way (way op) w ≤ 2 ^ 32
    → IsValue env m (Binary op a b) w s ((c ++ d) ++ fresh_call (binary_kernel op (left_sign (way op) s (sign a) (sign b))) (ta ∷ tb ∷ []) p (result_of_way (way op) w) ∷ [])
    (extended_slots w s (range_with_len p (result_of_way (way op) w))) (p + result_of_way (way op) w)
binary_is env m op a b w s c ta n d tb p e divides some wide_a wide_b both shifted va vb kept short fits =
    let ls = left_sign (way op) s (sign a) (sign b) in
    let rs = right_sign (way op) s (sign a) (sign b) in
    let lw = left_width (way op) w (width a) (width b) in
    let rw = right_width (way op) w (width a) (width b) in
    let k = result_of_way (way op) w in
    let kernel = binary_kernel op ls in
    let parts = values_more env m c (ta ∷ []) n (weight a lw) (λ state. value a lw ls state ∷ []) d (tb ∷ []) p (weight b rw) (λ state. value b rw rs state ∷ []) e va.values vb.values in
    let same : binary_lengths op w (width a) (width b) ≡ (length ta ∷ length tb ∷ k ∷ []) = ap (λ (x : ℕ). x ∷ rw ∷ k ∷ []) (sym va.length) ∙ ap (λ (x : ℕ). length ta ∷ x ∷ k ∷ []) (sym vb.length) in
    let call = fresh_call kernel (ta ∷ tb ∷ []) p k in
    let lengths : lengths_of call ≡ binary_lengths op w (width a) (width b) = ap (λ (x : ℕ). length ta ∷ length tb ∷ x ∷ []) (length-range_with_len p k) ∙ sym same in
    let cost : call_cost call ≡ cost_of kernel (binary_lengths op w (width a) (width b)) = ap (cost_of kernel) lengths in
    let is : IsCall call = is_fresh_call kernel (ta ∷ tb ∷ []) p k
    (subst (λ ls. takes kernel ls ≡ true) same (binary_takes op ls w (width a) (width b) divides some wide_a wide_b))
    (subst (All (λ n. n < 2 ^ 32)) same short)
    (subst (λ xs. room_of kernel xs ≤ 0) same (omega (arith, kept)))
    fits parts.below in
    let done = values_call env m (c ++ d) (ta ∷ tb ∷ []) p (weight a lw + weight b rw) (λ state. value a lw ls state ∷ value b rw rs state ∷ []) kernel k (binary_weight op w (width a) (width b))
    parts is (omega (arith, cost, kept, binary_room op ls w (width a) (width b) divides some)) (omega (arith, cost, binary_cost op ls w (width a) (width b) divides some wide_a wide_b)) in
    record {
      values = extended_values env m ((c ++ d) ++ call ∷ []) (range_with_len p k) (p + k) (weight a lw + weight b rw + binary_weight op w (width a) (width b)) (weight (Binary op a b) w)
          (λ state. operator_of kernel k (value a lw ls state ∷ value b rw rs state ∷ [])) (λ state. apply_binary op ls rs (value a lw ls state) (value b rw rs state)) w s e
          (omega (arith, weight_of_binary op a b w both shifted)) (λ state. binary_operator op ls rs k (value a lw ls state) (value b rw rs state) divides) done;
      length = length-extended w s (range_with_len p k) (omega (arith, length-range_with_len p k, result_within (way op) w some));
      constant = λ h. absurd (true≢false (sym h ∙ both));
      sources = extended_all (IsSource env m (read_bits (Binary op a b))) w s (range_with_len p k) (inl (omega arith))
          (fresh_sources env m p k (read_bits (Binary op a b)) (omega (arith, va.values.added.grown, vb.values.added.grown)));
    }

-- ---- sources

pub both_true : (a b : Bool) → (a && b) ≡ true → (a ≡ true) × (b ≡ true)
both_true true b h = (refl, h)
both_true false b h = absurd (true≢false (sym h))

or_step : (q r t : Bool) → (r ≡ true → t ≡ true) → (q || r) ≡ true → (q || t) ≡ true
or_step true r t f h = refl
or_step false r t f h = f h

or_true : (q r : Bool) → r ≡ true → (q || r) ≡ true
or_true true r h = refl
or_true false r h = h

pub in_left : (xs ys : List ℕ) (b : ℕ) → contains xs b ≡ true → contains (xs ++ ys) b ≡ true
in_left [] ys b h = absurd (true≢false (sym h))
in_left (x ∷ xs) ys b h = or_step (b == x) (contains xs b) (contains (xs ++ ys) b) (in_left xs ys b) h

pub in_right : (xs ys : List ℕ) (b : ℕ) → contains ys b ≡ true → contains (xs ++ ys) b ≡ true
in_right [] ys b h = h
in_right (x ∷ xs) ys b h = or_true (b == x) (contains (xs ++ ys) b) (in_right xs ys b h)

pub wider : (env : List ℕ) (n m : ℕ) (bits more : List ℕ) (slot : ℕ) → m ≤ n → ((b : ℕ) → contains bits b ≡ true → contains more b ≡ true) → IsSource env n bits slot → IsSource env m more slot
wider env n m bits more slot l f (inl h) = inl h
wider env n m bits more slot l f (inr (inl h)) = inr (inl (omega arith))
wider env n m bits more slot l f (inr (inr h)) = inr (inr (h.0, f h.0 h.1, h.2))

-- ---- a concatenation: its low part comes first

pub join_is : (env : List ℕ) (m : ℕ) (high low : Expression) (w : ℕ) (s : Bool) (c : List Call) (tl : List ℕ) (n : ℕ) (d : List Call) (th : List ℕ) (p : ℕ)
    → IsEnv env m → width high + width low ≤ w
    → IsValue env m low (width low) (sign low) c tl n
    → IsValue env n high (width high) (sign high) d th p
    → IsValue env m (Join high low) w s (c ++ d) (extended_slots w s (tl ++ th)) p
join_is env m high low w s c tl n d th p e fits vl vh =
    let x = λ (state : N.State). value low (width low) (sign low) state in
    let y = λ (state : N.State). value high (width high) (sign high) state in
    let parts = values_more env m c (tl ∷ []) n (weight low (width low)) (λ state. x state ∷ []) d (th ∷ []) p (weight high (width high)) (λ state. y state ∷ []) e vl.values vh.values in
    let below = λ (slot : ℕ). slot < p in
    let low_below = All-head (λ to. All below to) tl (th ∷ []) parts.below in
    let high_below : All below th = All-head (λ to. All below to) th [] vh.values.below in
    let joined = values_as env m (c ++ d) (tl ∷ th ∷ []) p (weight low (width low) + weight high (width high)) (λ state. x state ∷ y state ∷ []) ((tl ++ th) ∷ [])
    (weight low (width low) + weight high (width high)) (λ state. join (y state) (x state) ∷ []) e parts (omega arith)
    (one_more (λ to. All below to) (tl ++ th) (All-append below tl th low_below high_below))
    (λ slots state constants same. ap (λ (z : BitList). z ∷ []) (map-append slots tl th ∙ two_are (map slots tl) (map slots th) (x state) (y state) same)) in
    let read = read_bits (Join high low) in
    record {
      values = extended_values env m (c ++ d) (tl ++ th) p (weight low (width low) + weight high (width high)) (weight (Join high low) w) (λ state. join (y state) (x state)) (λ state. join (y state) (x state)) w s e
          (omega arith) (λ state. refl) joined;
      length = length-extended w s (tl ++ th) (omega (arith, length-append tl th, vl.length, vh.length));
      constant = λ h.
          let q = both_true (is_constant high) (is_constant low) h in
          extended_all (λ slot. slot < 4) w s (tl ++ th) (omega arith) (All-append (λ slot. slot < 4) tl th (vl.constant q.1) (vh.constant q.0));
      sources = extended_all (IsSource env m read) w s (tl ++ th) (inl (omega arith))
          (All-append (IsSource env m read) tl th
          (All-weaker (IsSource env m (read_bits low)) (IsSource env m read) (λ slot. wider env m m (read_bits low) read slot (omega arith) (λ b. in_right (read_bits high) (read_bits low) b)) tl vl.sources)
          (All-weaker (IsSource env n (read_bits high)) (IsSource env m read) (λ slot. wider env n m (read_bits high) read slot vl.values.added.grown (λ b. in_left (read_bits high) (read_bits low) b)) th vh.sources));
    }
  where
    two_are : (a b x y : BitList) → (a ∷ b ∷ []) ≡ (x ∷ y ∷ []) → (a ++ b) ≡ (x ++ y)
    two_are a b x y h = cc
