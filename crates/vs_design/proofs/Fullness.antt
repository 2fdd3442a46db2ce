-- A full case takes an arm wherever its selector is known.
use Rattle.std.proofs.Common.{◌≡◌, ℕ, zero, suc, ◌+◌, ◌-◌, ◌*◌, ◌≤◌, Bool, true, false, List, [], ◌∷◌, ◌++◌, ◌||◌, ◌&&◌, ◌==◌, eqb-true, not, map, take, drop, get_or, length, replicate, if◌then◌else◌, nat_lt, nat_le, ◌⊎◌, inl, inr, refl, sym, ap, ◌∙◌, subst, append-nil, length-append, Option, Some, None, is_some, arith, add-zero}
use Rattle.std.specs.List.{list_any, list_all}
use Rattle.std.proofs.lemmas.List.Folds.{list_any-append, list_all-append}
use Rattle.vs_four.specs.declared.Bit4.{Bit4}
use Rattle.vs_four.specs.declared.Bit4.TheVariants.{Zero, One, X, Z}
use Rattle.vs_four.specs.Logic.{BitList, all_known, map2, fold_with}
use Rattle.vs_four.specs.Lengths.{last_or, extend, join, repeat}
use Rattle.vs_four.specs.Selects.{range_length, places, select, at_place}
use Rattle.vs_four.specs.Tables.{is_known, is_one, and_bit}
use Rattle.vs_net.specs.Network.{State}
use Rattle.vs_net.specs.Lawful.{IsKnown}
use Rattle.vs_design.specs.Expressions.{Signal, signal_length, OfSignal, OfConstant, Expression, Literal, Name, Select, Word, WordPart, Unary, Binary, Choice, Join, Repeat, At, Call, Items, NoItem, Item, width, sign, is_constant}
use Rattle.vs_design.specs.Values.{count_from, bits_of_signal, read, source_value, value, item_values, any_matches, unset, constant_value}
use Rattle.vs_design.specs.Statements.{CaseKind, Exact, CaseZ, CaseX, case_match, Arms, Arm, Default, case_width, case_sign}
use Rattle.vs_design.specs.Bodies.{bits_at, is_taken}
use Rattle.vs_design.specs.Designs.{Design}
use Rattle.vs_design.specs.Footprints.{contains, somes, read_bits, selected_bits}
use Rattle.vs_design.specs.Fits.{fits, fits_64}
use Rattle.vs_design.specs.Sets.{Set4, has}
use Rattle.vs_design.specs.LiftedParts.{match_bit}
use Rattle.vs_design.specs.Covers.{Pattern, matched, is_open, meets, patterns_of, covers}
use Rattle.vs_design.specs.Selects.{select_root, is_selector, items_constant, arms_constant, items_in, has_default, item_patterns, arm_patterns, is_full}
use Rattle.vs_design.proofs.Lists.{by_test, or_left, or_right, and_both, contains-left, contains_head}
use Rattle.vs_design.proofs.Lengths.{length_value, length_source, length_signal}
use Rattle.vs_design.proofs.ReadValue.{value_reads, constant_agree}
use Rattle.vs_design.proofs.Writes.{part_bits, constant_index}
use Rattle.vs_design.proofs.SetBranches.{arms_more}
use Rattle.vs_design.proofs.Covering.{and_true, covers_found}

-- ---- what matches bit by bit matches

all_ones : (bs : BitList) → list_all is_one bs ≡ true → fold_with and_bit One bs ≡ One
all_ones [] h = refl
all_ones (One ∷ bs) h = all_ones bs h
all_ones (Zero ∷ bs) h = cc
all_ones (X ∷ bs) h = cc
all_ones (Z ∷ bs) h = cc

-- each pair of bits matches
abbrev pairs_match : CaseKind → BitList → BitList → Bool
pairs_match kind us xs = list_all is_one (map2 (match_bit kind) us xs)

pairs_are : (kind : CaseKind) (us xs : BitList) → pairs_match kind us xs ≡ true → is_one (case_match kind us xs) ≡ true
pairs_are Exact us xs h = ap is_one (all_ones (map2 (match_bit Exact) us xs) h)
pairs_are CaseZ us xs h = ap is_one (all_ones (map2 (match_bit CaseZ) us xs) h)
pairs_are CaseX us xs h = ap is_one (all_ones (map2 (match_bit CaseX) us xs) h)

zeros_match : (kind : CaseKind) (m : ℕ) (xs : BitList) → list_all (λ (s : Set4). s.zero?) (map (matched kind) xs) ≡ true → pairs_match kind (replicate m Zero) xs ≡ true
zeros_match kind zero xs h = refl
zeros_match kind (suc m) [] h = refl
zeros_match kind (suc m) (x ∷ xs) h =
    let a = and_both (matched kind x).zero? (list_all (λ (s : Set4). s.zero?) (map (matched kind) xs)) h in
    and_true (is_one (match_bit kind Zero x)) (pairs_match kind (replicate m Zero) xs) a.0 (zeros_match kind m xs a.1)

bit_matches : (kind : CaseKind) (v x : Bit4) → is_known v ≡ true → has (matched kind x) v ≡ true → is_one (match_bit kind v x) ≡ true
bit_matches kind Zero x k h = h
bit_matches kind One x k h = h
bit_matches kind X x k h = cc
bit_matches kind Z x k h = cc

-- known bits that meet the pattern of an item, and zeros beyond them, match it
met_matches : (kind : CaseKind) (vs : BitList) (m : ℕ) (xs : BitList) → all_known vs ≡ true → meets (take (length vs) (map (matched kind) xs)) vs ≡ true
    → list_all (λ (s : Set4). s.zero?) (drop (length vs) (map (matched kind) xs)) ≡ true → pairs_match kind (vs ++ replicate m Zero) xs ≡ true
met_matches kind [] m xs k h z = zeros_match kind m xs z
met_matches kind (v ∷ vs) m [] k h z = refl
met_matches kind (v ∷ vs) m (x ∷ xs) k h z =
    let a = and_both (is_known v) (all_known vs) k in
    let b = and_both (has (matched kind x) v) (meets (take (length vs) (map (matched kind) xs)) vs) h in
    and_true (is_one (match_bit kind v x)) (pairs_match kind (vs ++ replicate m Zero) xs) (bit_matches kind v x a.0 b.0) (met_matches kind vs m xs a.1 b.1 z)

pattern_matches : (kind : CaseKind) (vs : BitList) (m n : ℕ) (xs : BitList) → length vs ≡ n → all_known vs ≡ true → list_any (λ p. meets p vs) (patterns_of kind n xs) ≡ true → is_one (case_match kind (vs ++ replicate m Zero) xs) ≡ true
pattern_matches kind vs m n xs l k h = pairs_are kind (vs ++ replicate m Zero) xs (go (list_all is_open (take n p)) (list_all (λ (s : Set4). s.zero?) (drop n p)) refl h)
  where
    p : Pattern
    p = map (matched kind) xs

    or_true : (a : Bool) → (a || false) ≡ true → a ≡ true
    or_true true h = refl
    or_true false h = cc

    go : (a z : Bool) → list_all (λ (s : Set4). s.zero?) (drop n p) ≡ z → list_any (λ q. meets q vs) (if a && z then (take n p ∷ []) else []) ≡ true → pairs_match kind (vs ++ replicate m Zero) xs ≡ true
    go true true e h = met_matches kind vs m xs k (subst (λ i. meets (take i p) vs ≡ true) (sym l) (or_true (meets (take n p) vs) h)) (subst (λ i. list_all (λ (s : Set4). s.zero?) (drop i p) ≡ true) (sym l) e)
    go true false e h = cc
    go false z e h = cc

-- ---- some item, and so some arm

-- some arm of the case is taken
abbrev pub arm_taken : Arms → CaseKind → ℕ → Bool → BitList → State → Bool
arm_taken (Arm items statement rest) kind w g v s = is_taken kind w g v items s || arm_taken rest kind w g v s
arm_taken (Default statement) kind w g v s = false

module _ (kind : CaseKind) (n w : ℕ) (g : Bool) (vs : BitList) (m : ℕ) (s : State) (long : length vs ≡ n) (known : all_known vs ≡ true) where
  abbrev found : List Pattern → Bool
  found ps = list_any (λ p. meets p vs) ps

  item_found : (items : Items) → items_constant items ≡ true → found (item_patterns kind n w g items) ≡ true → any_matches kind (vs ++ replicate m Zero) (item_values items w g s) ≡ true
  item_found NoItem c h = cc
  item_found (Item e es) c h =
      let k = and_both (is_constant e) (items_constant es) c in
      let t : (found (patterns_of kind n (value e w g unset)) || found (item_patterns kind n w g es)) ≡ true = sym (list_any-append (λ p. meets p vs) (patterns_of kind n (value e w g unset)) (item_patterns kind n w g es)) ∙ h in
      by_test (found (patterns_of kind n (value e w g unset)))
      (λ q. or_left (is_one (case_match kind (vs ++ replicate m Zero) (value e w g s))) (any_matches kind (vs ++ replicate m Zero) (item_values es w g s))
      (subst (λ (x : BitList). is_one (case_match kind (vs ++ replicate m Zero) x) ≡ true) (value_reads e w g unset s (constant_agree e k.0 unset s)) (pattern_matches kind vs m n (value e w g unset) long known q)))
      (λ q. or_right (is_one (case_match kind (vs ++ replicate m Zero) (value e w g s))) (any_matches kind (vs ++ replicate m Zero) (item_values es w g s))
      (item_found es k.1 (subst (λ (x : Bool). (x || found (item_patterns kind n w g es)) ≡ true) q t)))

  arm_found : (arms : Arms) → arms_constant arms ≡ true → found (arm_patterns kind n w g arms) ≡ true → arm_taken arms kind w g (vs ++ replicate m Zero) s ≡ true
  arm_found (Default statement) c h = cc
  arm_found (Arm items statement rest) c h =
      let k = and_both (items_constant items) (arms_constant rest) c in
      let t : (found (item_patterns kind n w g items) || found (arm_patterns kind n w g rest)) ≡ true = sym (list_any-append (λ p. meets p vs) (item_patterns kind n w g items) (arm_patterns kind n w g rest)) ∙ h in
      by_test (found (item_patterns kind n w g items))
      (λ q. or_left (is_taken kind w g (vs ++ replicate m Zero) items s) (arm_taken rest kind w g (vs ++ replicate m Zero) s) (item_found items k.0 q))
      (λ q. or_right (is_taken kind w g (vs ++ replicate m Zero) items s) (arm_taken rest kind w g (vs ++ replicate m Zero) s) (arm_found rest k.1 (subst (λ (x : Bool). (x || found (arm_patterns kind n w g rest)) ≡ true) q t)))

-- ---- the value of a selector

-- its bits, before it is extended
abbrev raw : Expression → State → BitList
raw (Literal bits signed sized) s = bits
raw (Name signal) s = read s (bits_of_signal signal)
raw (Select source part index) s = select part (sign index) (source_value s source) (value index (width index) (sign index) s)
raw (Word signal index) s = []
raw (WordPart signal address part index) s = []
raw (Unary op a) s = []
raw (Binary op a b) s = []
raw (Choice c p q) s = []
raw (Join high low) s = join (value high (width high) (sign high) s) (value low (width low) (sign low) s)
raw (Repeat count a) s = repeat count (value a (width a) (sign a) s)
raw (At place e) s = raw e s
raw (Call header statement arguments) s = []

same_nat : (n m : ℕ) → m ≡ n → n - m ≡ 0
same_nat n m e = omega (arith, e)

-- a list that is extended by 0, or not at all, is followed by zeros
extended : (a : BitList) (n w : ℕ) (g : Bool) → length a ≡ n → (g ≡ false) ⊎ (w ≡ n) → extend w g a ≡ a ++ replicate (w - n) Zero
extended a n w g l (inl e) = ap (λ (c : Bool). a ++ replicate (w - length a) (if c then last_or Zero a else Zero)) e ∙ ap (λ k. a ++ replicate (w - k) Zero) l
extended a n w g l (inr e) =
    ap (λ k. a ++ replicate k (if g then last_or Zero a else Zero)) (same_nat w (length a) (l ∙ sym e)) ∙ ap (λ k. a ++ replicate k Zero) (sym (same_nat w n (sym e)))

known_last : (a : BitList) (d : Bit4) → is_known d ≡ true → all_known a ≡ true → is_known (last_or d a) ≡ true
known_last [] d h k = h
known_last (v ∷ a) d h k = let b = and_both (is_known v) (all_known a) k in known_last a v b.0 b.1

-- a known literal is extended as it is signed
literal_flag : (g sized : Bool) (a : BitList) → all_known a ≡ true → (g || (not sized && not (is_known (last_or Zero a)))) ≡ g
literal_flag true sized a k = refl
literal_flag false true a k = refl
literal_flag false false a k = rw (known_last a Zero refl k) refl

known_append : (a b : BitList) → all_known a ≡ true → all_known b ≡ true → all_known (a ++ b) ≡ true
known_append a b h k = list_all-append is_known a b ∙ and_true (all_known a) (all_known b) h k

known_zeros : (n : ℕ) → all_known (replicate n Zero) ≡ true
known_zeros zero = refl
known_zeros (suc n) = known_zeros n

pub known_is : (v : Bit4) → IsKnown v → is_known v ≡ true
known_is Zero h = refl
known_is One h = refl
known_is X (inl e) = cc
known_is X (inr e) = cc
known_is Z (inl e) = cc
known_is Z (inr e) = cc

known_read : (bs : List ℕ) (s : State) → ((b : ℕ) → contains bs b ≡ true → IsKnown (s b)) → all_known (read s bs) ≡ true
known_read [] s h = refl
known_read (b ∷ bs) s h = and_true (is_known (s b)) (all_known (read s bs)) (known_is (s b) (h b (contains_head b bs))) (known_read bs s (λ c k. h c (or_right (c == b) (contains bs c) k)))

nth_is : (s : State) (f n len : ℕ) → contains (count_from f len) (f + n) ≡ true → get_or (read s (count_from f len)) n X ≡ s (f + n)
nth_is s f n zero h = cc
nth_is s f zero (suc len) h = ap s (sym (add-zero f))
nth_is s f (suc n) (suc len) h =
    let k : contains (count_from (suc f) len) (f + suc n) ≡ true = subst (λ (c : Bool). (c || contains (count_from (suc f) len) (f + suc n)) ≡ true) (apart (f + suc n == f) refl) h in
    nth_is s (suc f) n len (subst (λ m. contains (count_from (suc f) len) m ≡ true) (omega arith) k) ∙ ap s (omega arith)
  where
    apart : (c : Bool) → (f + suc n == f) ≡ c → (f + suc n == f) ≡ false
    apart true e = absurd (let k = eqb-true (f + suc n) f e in omega (arith, k))
    apart false e = e

known_places : (signal : Signal) (s : State) (ps : List (Option ℕ)) → list_all is_some ps ≡ true → ((b : ℕ) → contains (somes (bits_at signal ps)) b ≡ true → IsKnown (s b) × (contains (bits_of_signal signal) b ≡ true)) → all_known (map (at_place X (read s (bits_of_signal signal))) ps) ≡ true
known_places signal s [] a h = refl
known_places signal s (None ∷ ps) a h = cc
known_places signal s (Some n ∷ ps) a h =
    let k = h (signal.first + n) (contains_head (signal.first + n) (somes (bits_at signal ps))) in
    and_true (is_known (get_or (read s (bits_of_signal signal)) n X)) (all_known (map (at_place X (read s (bits_of_signal signal))) ps))
    (ap is_known (nth_is s signal.first n (signal_length signal) k.1) ∙ known_is (s (signal.first + n)) k.0)
    (known_places signal s ps a (λ b c. h b (or_right (b == (signal.first + n)) (contains (somes (bits_at signal ps)) b) c)))

module _ (d : Design) (s : State) where
  abbrev ReadsKnown : Expression → Type 0
  ReadsKnown e = (b : ℕ) → contains (read_bits e) b ≡ true → IsKnown (s b)

  join_left : (high low : Expression) → ReadsKnown (Join high low) → ReadsKnown high
  join_left high low h b k = h b (contains-left (read_bits high) (read_bits low) b k)

  join_right : (high low : Expression) → ReadsKnown (Join high low) → ReadsKnown low
  join_right high low h b k = h b (Rattle.vs_design.proofs.Lists.contains-right (read_bits high) (read_bits low) b k)

  once : (count : ℕ) (a : BitList) → (count == 1) ≡ true → repeat count a ≡ a
  once count a h = subst (λ k. repeat k a ≡ a) (sym (eqb-true count 1 h)) (append-nil a)

  raw_length : (e : Expression) → is_selector d e ≡ true → length (raw e s) ≡ width e
  raw_length (Literal bits signed sized) h = refl
  raw_length (Name signal) h = length_signal s signal
  raw_length (Select source part index) h = length_source s source part (sign index) (value index (width index) (sign index) s)
  raw_length (Word signal index) h = cc
  raw_length (WordPart signal address part index) h = cc
  raw_length (Unary op a) h = cc
  raw_length (Binary op a b) h = cc
  raw_length (Choice c p q) h = cc
  raw_length (Join high low) h =
      let x = length_value high (width high) (sign high) s (omega arith) in
      let y = length_value low (width low) (sign low) s (omega arith) in
      length-append (value low (width low) (sign low) s) (value high (width high) (sign high) s) ∙ omega (arith, x, y)
  raw_length (Repeat count a) h =
      let c = and_both (count == 1) (is_selector d a) h in
      ap length (once count (value a (width a) (sign a) s) c.0) ∙ length_value a (width a) (sign a) s (omega arith) ∙ subst (λ k. width a ≡ k * width a) (sym (eqb-true count 1 c.0)) (omega arith)
  raw_length (At place e) h = raw_length e h
  raw_length (Call header statement arguments) h = cc

  -- its value in a context is its bits, and zeros
  raw_value : (e : Expression) → is_selector d e ≡ true → (w : ℕ) (g : Bool) → (g ≡ false) ⊎ (w ≡ width e) → value e w g s ≡ raw e s ++ replicate (w - width e) Zero
  raw_value (Literal bits signed sized) h w g c = ap (λ (f : Bool). extend w f bits) (literal_flag g sized bits h) ∙ extended bits (length bits) w g refl c
  raw_value (Name signal) h w g c = extended (raw (Name signal) s) (signal_length signal) w g (raw_length (Name signal) h) c
  raw_value (Select source part index) h w g c = extended (raw (Select source part index) s) part.width w g (raw_length (Select source part index) h) c
  raw_value (Word signal index) h w g c = cc
  raw_value (WordPart signal address part index) h w g c = cc
  raw_value (Unary op a) h w g c = cc
  raw_value (Binary op a b) h w g c = cc
  raw_value (Choice x p q) h w g c = cc
  raw_value (Join high low) h w g c = extended (raw (Join high low) s) (width (Join high low)) w g (raw_length (Join high low) h) c
  raw_value (Repeat count a) h w g c = extended (raw (Repeat count a) s) (width (Repeat count a)) w g (raw_length (Repeat count a) h) c
  raw_value (At place e) h w g c = raw_value e h w g c
  raw_value (Call header statement arguments) h w g c = cc

  -- a selector by itself
  own_known : (e : Expression) → is_selector d e ≡ true → all_known (raw e s) ≡ true → all_known (value e (width e) (sign e) s) ≡ true
  own_known e h k = ap all_known (raw_value e h (width e) (sign e) (inr refl)) ∙ known_append (raw e s) (replicate (width e - width e) Zero) k (known_zeros (width e - width e))

  raw_known : (e : Expression) → is_selector d e ≡ true → fits e ≡ true → ReadsKnown e → all_known (raw e s) ≡ true
  raw_known (Literal bits signed sized) h f k = h
  raw_known (Name signal) h f k = known_read (bits_of_signal signal) s k
  raw_known (Select (OfSignal signal) part index) h f k =
      let a = and_both (is_some (select_root d signal) && is_constant index) (list_all is_some (places part (sign index) (constant_value index))) h in
      let c = (and_both (is_some (select_root d signal)) (is_constant index) a.0).1 in
      let r = eqb-true (range_length part.range) (signal_length signal) (and_both (fits_64 part.width) (range_length part.range == signal_length signal) (and_both (fits_64 part.width && (range_length part.range == signal_length signal)) (fits index) f).0).1 in
      ap (λ (i : BitList). all_known (select part (sign index) (read s (bits_of_signal signal)) i)) (constant_index index s c)
      ∙ known_places signal s (places part (sign index) (constant_value index)) a.1 (λ b m. (k b (contains-left (selected_bits signal part index) (read_bits index) b (selected c b m)), part_bits signal part (sign index) (constant_value index) b r m))
    where
      selected : is_constant index ≡ true → (b : ℕ) → contains (somes (bits_at signal (places part (sign index) (constant_value index)))) b ≡ true → contains (selected_bits signal part index) b ≡ true
      selected c b m = rw c m
  raw_known (Select (OfConstant bits) part index) h f k = cc
  raw_known (Word signal index) h f k = cc
  raw_known (WordPart signal address part index) h f k = cc
  raw_known (Unary op a) h f k = cc
  raw_known (Binary op a b) h f k = cc
  raw_known (Choice c p q) h f k = cc
  raw_known (Join high low) h f k =
      let a = and_both (is_selector d high) (is_selector d low) h in
      let m = and_both (fits_64 (width high + width low) && fits high) (fits low) f in
      let l = and_both (fits_64 (width high + width low)) (fits high) m.0 in
      known_append (value low (width low) (sign low) s) (value high (width high) (sign high) s) (own_known low a.1 (raw_known low a.1 m.1 (join_right high low k))) (own_known high a.0 (raw_known high a.0 l.1 (join_left high low k)))
  raw_known (Repeat count a) h f k =
      let c = and_both (count == 1) (is_selector d a) h in
      ap all_known (once count (value a (width a) (sign a) s) c.0) ∙ own_known a c.1 (raw_known a c.1 (and_both (fits_64 (count * width a)) (fits a) f).1 k)
  raw_known (At place e) h f k = raw_known e h f k
  raw_known (Call header statement arguments) h f k = cc

  -- ---- a full case

  -- it has no default
  pub full_parts : (kind : CaseKind) (subject : Expression) (arms : Arms) → is_full d kind subject arms ≡ true → not (has_default arms) ≡ true
  full_parts kind subject arms h =
      let g = case_sign subject arms && nat_lt (width subject) (case_width subject arms) in
      let c = covers (width subject) (arm_patterns kind (width subject) (case_width subject arms) (case_sign subject arms) arms) in
      let x = is_selector d subject && nat_lt 0 (length (read_bits subject)) in
      (and_both x (not (has_default arms)) (and_both (x && not (has_default arms)) (arms_constant arms) (and_both (x && not (has_default arms) && arms_constant arms) (nat_le (items_in arms) 4096) (and_both (x && not (has_default arms) && arms_constant arms && nat_le (items_in arms) 4096) (not g) (and_both (x && not (has_default arms) && arms_constant arms && nat_le (items_in arms) 4096 && not g) c h).0).0).0).0).1

  -- and its selector is one
  pub full_selector : (kind : CaseKind) (subject : Expression) (arms : Arms) → is_full d kind subject arms ≡ true → is_selector d subject ≡ true
  full_selector kind subject arms h =
      let g = case_sign subject arms && nat_lt (width subject) (case_width subject arms) in
      let c = covers (width subject) (arm_patterns kind (width subject) (case_width subject arms) (case_sign subject arms) arms) in
      let x = is_selector d subject && nat_lt 0 (length (read_bits subject)) in
      (and_both (is_selector d subject) (nat_lt 0 (length (read_bits subject))) (and_both x (not (has_default arms)) (and_both (x && not (has_default arms)) (arms_constant arms) (and_both (x && not (has_default arms) && arms_constant arms) (nat_le (items_in arms) 4096) (and_both (x && not (has_default arms) && arms_constant arms && nat_le (items_in arms) 4096) (not g) (and_both (x && not (has_default arms) && arms_constant arms && nat_le (items_in arms) 4096 && not g) c h).0).0).0).0).0).0

  -- that reads something
  pub full_reads : (kind : CaseKind) (subject : Expression) (arms : Arms) → is_full d kind subject arms ≡ true → nat_lt 0 (length (read_bits subject)) ≡ true
  full_reads kind subject arms h =
      let g = case_sign subject arms && nat_lt (width subject) (case_width subject arms) in
      let c = covers (width subject) (arm_patterns kind (width subject) (case_width subject arms) (case_sign subject arms) arms) in
      let x = is_selector d subject && nat_lt 0 (length (read_bits subject)) in
      (and_both (is_selector d subject) (nat_lt 0 (length (read_bits subject))) (and_both x (not (has_default arms)) (and_both (x && not (has_default arms)) (arms_constant arms) (and_both (x && not (has_default arms) && arms_constant arms) (nat_le (items_in arms) 4096) (and_both (x && not (has_default arms) && arms_constant arms && nat_le (items_in arms) 4096) (not g) (and_both (x && not (has_default arms) && arms_constant arms && nat_le (items_in arms) 4096 && not g) c h).0).0).0).0).0).1

  pub full_taken : (kind : CaseKind) (subject : Expression) (arms : Arms) → is_full d kind subject arms ≡ true → fits subject ≡ true → ReadsKnown subject
      → arm_taken arms kind (case_width subject arms) (case_sign subject arms) (value subject (case_width subject arms) (case_sign subject arms) s) s ≡ true
  full_taken kind subject arms h f k =
      subst (λ (v : BitList). arm_taken arms kind w g v s ≡ true) (sym (raw_value subject sel w g plain))
      (arm_found kind (width subject) w g (raw subject s) (w - width subject) s (raw_length subject sel) (raw_known subject sel f k) arms constants
      (covers_found (width subject) (arm_patterns kind (width subject) w g arms) (raw subject s) covered (raw_length subject sel) (raw_known subject sel f k)))
    where
      w : ℕ
      w = case_width subject arms

      g : Bool
      g = case_sign subject arms

      -- the parts of the test
      a6 : (is_selector d subject && nat_lt 0 (length (read_bits subject)) && not (has_default arms) && arms_constant arms && nat_le (items_in arms) 4096 && not (g && nat_lt (width subject) w) ≡ true) × (covers (width subject) (arm_patterns kind (width subject) w g arms) ≡ true)
      a6 = and_both (is_selector d subject && nat_lt 0 (length (read_bits subject)) && not (has_default arms) && arms_constant arms && nat_le (items_in arms) 4096 && not (g && nat_lt (width subject) w)) (covers (width subject) (arm_patterns kind (width subject) w g arms)) h

      covered : covers (width subject) (arm_patterns kind (width subject) w g arms) ≡ true
      covered = a6.1

      a5 : (is_selector d subject && nat_lt 0 (length (read_bits subject)) && not (has_default arms) && arms_constant arms && nat_le (items_in arms) 4096 ≡ true) × (not (g && nat_lt (width subject) w) ≡ true)
      a5 = and_both (is_selector d subject && nat_lt 0 (length (read_bits subject)) && not (has_default arms) && arms_constant arms && nat_le (items_in arms) 4096) (not (g && nat_lt (width subject) w)) a6.0

      a3 : (is_selector d subject && nat_lt 0 (length (read_bits subject)) && not (has_default arms) ≡ true) × (arms_constant arms ≡ true)
      a3 = and_both (is_selector d subject && nat_lt 0 (length (read_bits subject)) && not (has_default arms)) (arms_constant arms) (and_both (is_selector d subject && nat_lt 0 (length (read_bits subject)) && not (has_default arms) && arms_constant arms) (nat_le (items_in arms) 4096) a5.0).0

      constants : arms_constant arms ≡ true
      constants = a3.1

      sel : is_selector d subject ≡ true
      sel = (and_both (is_selector d subject) (nat_lt 0 (length (read_bits subject))) (and_both (is_selector d subject && nat_lt 0 (length (read_bits subject))) (not (has_default arms)) a3.0).0).0

      plain : (g ≡ false) ⊎ (w ≡ width subject)
      plain = go g (nat_lt (width subject) w) refl refl a5.1
        where
          go : (x y : Bool) → g ≡ x → nat_lt (width subject) w ≡ y → not (x && y) ≡ true → (g ≡ false) ⊎ (w ≡ width subject)
          go false y e l n = inl e
          go true true e l n = cc
          go true false e l n = inr (let m = arms_more (width subject) arms in let z = not_less (width subject) w l in omega (arith, m, z))
            where
              not_less : (i j : ℕ) → nat_lt i j ≡ false → j ≤ i
              not_less i j h = grind arith
