-- The bits at the same places in every word of a memory: its columns.
use Rattle.std.proofs.Common.{◌≡◌, ℕ, zero, suc, ◌+◌, ◌*◌, ◌<◌, ◌≤◌, Bool, true, false, ◌||◌, ◌==◌, nat_lt, if◌then◌else◌, List, [], ◌∷◌, ◌++◌, map, length, replicate, set, take, slice_index, Option, Some, None, sym, ap, ◌∙◌, subst, refl, arith, eqb-true, eq-eqb, true≢false, ℤ, pos, negsuc, ◌+ℤ◌, ◌⊎◌, inl, inr, length-append, append-nil, append_assoc, add-one, zero-add}
use Rattle.std.specs.Prelude.{option_map, slice_index_or}
use Rattle.std.specs.List.{All, flat_map}
use Rattle.std.proofs.Math.Nat.{suc-add}
use Rattle.std.proofs.lemmas.Int.{ints}
use Rattle.std.proofs.lemmas.List.{map-append, length-map, take_more, length-take}
use Rattle.std.proofs.lemmas.List.Concat.{flat_map-append}
use Rattle.std.proofs.lemmas.List.Elements.{All-nil, All-cons, All-head, All-tail}
use Rattle.vs_four.specs.declared.Bit4.{Bit4}
use Rattle.vs_four.specs.Logic.{BitList, all_known}
use Rattle.vs_four.specs.Numbers.{integer}
use Rattle.vs_four.specs.Selects.{Part, range_length, below, places, write_places}
use Rattle.vs_net.specs.Network.{State, Write, write_all}
use Rattle.vs_design.specs.Expressions.{Signal, signal_length, word_length, addresses}
use Rattle.vs_design.specs.Values.{count_from, bits_of_signal}
use Rattle.vs_design.specs.Bodies.{pair_up}
use Rattle.vs_design.specs.Footprints.{contains}
use Rattle.vs_design.proofs.Places.{first_place, places_from, places_are}
use Rattle.vs_lower.specs.Parts.{those_there, bits_there}
use Rattle.vs_values.proofs.Named.{count_more}
use Rattle.vs_values.proofs.Unary.{not_true}
use Rattle.vs_values.proofs.Wording.{word_ends}
use Rattle.vs_lower.proofs.Placing.{by_test, write_all-append, write_all_at, write_all_other, written_as}
use Rattle.vs_lower.proofs.Targets.{IsWithin, written_run}

-- ---- what there is at places

pub map_there : {A B : Type 0} (f : A → B) (ps : List (Option ℕ)) (vs : List A) → map f (those_there ps vs) ≡ those_there ps (map f vs)
map_there f [] vs = refl
map_there f (p ∷ ps) [] = refl
map_there f (None ∷ ps) (v ∷ vs) = map_there f ps vs
map_there {A} {B} f (Some n ∷ ps) (v ∷ vs) = ap {B = List B} (λ xs. f v ∷ xs) (map_there f ps vs)

pub there_long : {A : Type 0} (f : ℕ) (ps : List (Option ℕ)) (vs : List A) → length ps ≡ length vs → length (bits_there f ps) ≡ length (those_there ps vs)
there_long f [] vs l = refl
there_long f (p ∷ ps) [] l = absurd (omega arith)
there_long f (None ∷ ps) (v ∷ vs) l = there_long f ps vs (omega arith)
there_long f (Some n ∷ ps) (v ∷ vs) l = ap suc (there_long f ps vs (omega arith))

no_pairs : (ps : List (Option ℕ)) → pair_up ps [] ≡ []
no_pairs [] = refl
no_pairs (p ∷ ps) = refl

-- the writes of a value to places are those of what there is
pub pair_there : (f : ℕ) (ps : List (Option ℕ)) (vs : BitList) → pair_up (map Some (bits_there f ps)) (those_there ps vs) ≡ pair_up (map (λ p. option_map (λ m. f + m) p) ps) vs
pair_there f [] vs = refl
pair_there f (None ∷ ps) [] = no_pairs (map Some (bits_there f ps))
pair_there f (Some m ∷ ps) [] = refl
pair_there f (None ∷ ps) (v ∷ vs) = pair_there f ps vs
pair_there f (Some m ∷ ps) (v ∷ vs) = ap {B = List Write} (λ ws. record { bit = f + m; value = v } ∷ ws) (pair_there f ps vs)

pub all_there : {A : Type 0} (P : A → Type 0) (ps : List (Option ℕ)) (vs : List A) → All P vs → All P (those_there ps vs)
all_there P [] vs h = All-nil P
all_there P (p ∷ ps) [] h = All-nil P
all_there P (None ∷ ps) (v ∷ vs) h = all_there P ps vs (All-tail P v vs h)
all_there P (Some n ∷ ps) (v ∷ vs) h = All-cons P v (those_there ps vs) (All-head P v vs h) (all_there P ps vs (All-tail P v vs h))

-- ---- the places of a part are no more than its range has

is_less : (m n : ℕ) → nat_lt m n ≡ true → m < n
is_less m n h = grind arith

no_less : (m n : ℕ) → nat_lt m n ≡ false → n ≤ m
no_less m n h = grind arith

not_less : (m n : ℕ) → n ≤ m → nat_lt m n ≡ false
not_less m n h = grind arith

there_head : (f len m : ℕ) (z : ℤ) (ps : List (Option ℕ)) → z ≡ pos m → length (bits_there f (below len z ∷ ps)) ≡ (if nat_lt m len then suc (length (bits_there f ps)) else length (bits_there f ps))
there_head f len m z ps h = ap (λ (y : ℤ). length (bits_there f (below len y ∷ ps))) h ∙ at (nat_lt m len)
  where
    at : (b : Bool) → length (bits_there f ((if b then Some m else None) ∷ ps)) ≡ (if b then suc (length (bits_there f ps)) else length (bits_there f ps))
    at true = refl
    at false = refl

few_past : (f len m w : ℕ) (z : ℤ) → z ≡ pos m → len ≤ m → length (bits_there f (places_from len z w)) ≡ 0
few_past f len m zero z h l = refl
few_past f len m (suc w) z h l =
    let ps = places_from len (z +ℤ pos 1) w in
    there_head f len m z ps h ∙ ap (λ (b : Bool). if b then suc (length (bits_there f ps)) else length (bits_there f ps)) (not_less m len l) ∙ few_past f len (suc m) w (z +ℤ pos 1) (omega (arith, ints)) (omega arith)

few_up : (f len m w : ℕ) (z : ℤ) → z ≡ pos m → m ≤ len → length (bits_there f (places_from len z w)) + m ≤ len
few_up f len m zero z h l = omega arith
few_up f len m (suc w) z h l =
    by_test (nat_lt m len) (inside (λ (k : m < len). few_up f len (suc m) w (z +ℤ pos 1) (omega (arith, ints)) (omega (arith, k)))) outside
  where
    ps : List (Option ℕ)
    ps = places_from len (z +ℤ pos 1) w

    one : (b : Bool) → nat_lt m len ≡ b → length (bits_there f (below len z ∷ ps)) ≡ (if b then suc (length (bits_there f ps)) else length (bits_there f ps))
    one b e = there_head f len m z ps h ∙ ap (λ (c : Bool). if c then suc (length (bits_there f ps)) else length (bits_there f ps)) e

    inside : (m < len → length (bits_there f ps) + suc m ≤ len) → nat_lt m len ≡ true → length (bits_there f (below len z ∷ ps)) + m ≤ len
    inside rest e = omega (arith, one true e, rest (is_less m len e))

    outside : nat_lt m len ≡ false → length (bits_there f (below len z ∷ ps)) + m ≤ len
    outside e = let past = no_less m len e in omega (arith, one false e, few_past f len (suc m) w (z +ℤ pos 1) (omega (arith, ints)) (omega arith))

few_from : (f len w : ℕ) (z : ℤ) → length (bits_there f (places_from len z w)) ≤ len
few_from f len zero z = omega arith
few_from f len (suc w) (pos m) =
    by_test (nat_lt m len)
    (λ e. let less = is_less m len e in omega (arith, few_up f len m (suc w) (pos m) refl (omega arith)))
    (λ e. omega (arith, few_past f len m (suc w) (pos m) refl (no_less m len e)))
few_from f len (suc w) (negsuc k) = few_from f len w (negsuc k +ℤ pos 1)

nothing_there : (f k : ℕ) → bits_there f (replicate k None) ≡ []
nothing_there f zero = refl
nothing_there f (suc k) = nothing_there f k

pub few_places : (f : ℕ) (part : Part) (s : Bool) (index : BitList) → length (bits_there f (places part s index)) ≤ range_length part.range
few_places f part s index = subst (λ (ps : List (Option ℕ)). length (bits_there f ps) ≤ range_length part.range) (sym (places_are part s index)) (at (all_known index))
  where
    at : (b : Bool) → length (bits_there f (if b then places_from (range_length part.range) (first_place part (integer s index)) part.width else replicate part.width None)) ≤ range_length part.range
    at true = few_from f (range_length part.range) part.width (first_place part (integer s index))
    at false = omega (arith, ap (λ (xs : List ℕ). length xs) (nothing_there f part.width))

-- ---- vectors in pieces

set_right : (xs ys : BitList) (n : ℕ) (v : Bit4) → set (xs ++ ys) (length xs + n) v ≡ xs ++ set ys n v
set_right [] ys n v = ap (λ (m : ℕ). set ys m v) (zero-add n)
set_right (x ∷ xs) ys n v = ap (λ (m : ℕ). set (x ∷ (xs ++ ys)) m v) (suc-add (length xs) n) ∙ ap {B = BitList} (λ zs. x ∷ zs) (set_right xs ys n v)

places_right : (xs ys : BitList) (m k : ℕ) (vs : BitList) → write_places (xs ++ ys) (map Some (count_from (length xs + m) k)) vs ≡ xs ++ write_places ys (map Some (count_from m k)) vs
places_right xs ys m zero vs = refl
places_right xs ys m (suc k) [] = refl
places_right xs ys m (suc k) (v ∷ vs) =
    let z : suc (length xs + m) ≡ length xs + suc m = omega arith in
    ap (λ (a : BitList). write_places a (map Some (count_from (suc (length xs + m)) k)) vs) (set_right xs ys m v)
    ∙ ap (λ (n : ℕ). write_places (xs ++ set ys m v) (map Some (count_from n k)) vs) z
    ∙ places_right xs (set ys m v) (suc m) k vs

places_front : (xs ys vs : BitList) → length vs ≡ length xs → write_places (xs ++ ys) (map Some (count_from 0 (length xs))) vs ≡ vs ++ ys
places_front [] ys [] l = refl
places_front [] ys (v ∷ vs) l = absurd (omega arith)
places_front (x ∷ xs) ys [] l = absurd (omega arith)
places_front (x ∷ xs) ys (v ∷ vs) l = places_right (v ∷ []) (xs ++ ys) 0 (length xs) vs ∙ ap {B = BitList} (λ zs. v ∷ zs) (places_front xs ys vs (omega arith))

pair_append : (xs ys : List ℕ) (us vs : BitList) → length us ≡ length xs → pair_up (map Some (xs ++ ys)) (us ++ vs) ≡ pair_up (map Some xs) us ++ pair_up (map Some ys) vs
pair_append [] ys [] vs l = refl
pair_append [] ys (u ∷ us) vs l = absurd (omega arith)
pair_append (x ∷ xs) ys [] vs l = absurd (omega arith)
pair_append (x ∷ xs) ys (u ∷ us) vs l = ap {B = List Write} (λ ws. record { bit = x; value = u } ∷ ws) (pair_append xs ys us vs (omega arith))

-- ---- where bits are

or_rest : (a b : Bool) → (a || b) ≡ true → a ≡ false → b ≡ true
or_rest true b h e = cc
or_rest false b h e = h

either_in : (xs ys : List ℕ) (b : ℕ) → contains (xs ++ ys) b ≡ true → (contains xs b ≡ true) ⊎ (contains ys b ≡ true)
either_in [] ys b h = inr h
either_in (x ∷ xs) ys b h =
    by_test (b == x)
    (λ e. inl (ap (λ q. q || contains xs b) e))
    (λ e. further e (either_in xs ys b (or_rest (b == x) (contains (xs ++ ys) b) h e)))
  where
    further : (b == x) ≡ false → (contains xs b ≡ true) ⊎ (contains ys b ≡ true) → (contains (x ∷ xs) b ≡ true) ⊎ (contains ys b ≡ true)
    further e (inl c) = inl (ap (λ q. q || contains xs b) e ∙ c)
    further e (inr c) = inr c

pub all_of : (P : ℕ → Type 0) (xs : List ℕ) → ((b : ℕ) → contains xs b ≡ true → P b) → All P xs
all_of P [] h = All-nil P
all_of P (x ∷ xs) h = All-cons P x xs (h x (ap (λ q. q || contains xs x) (eq-eqb x x refl))) (all_of P xs (λ b c. h b (later b c)))
  where
    later : (b : ℕ) → contains xs b ≡ true → contains (x ∷ xs) b ≡ true
    later b c = by_test (b == x) (λ e. ap (λ q. q || contains xs b) e) (λ e. ap (λ q. q || contains xs b) e ∙ c)

next_on : (a b : ℕ) → a ≤ b → (b == a) ≡ false → suc a ≤ b
next_on a b l e = grind arith

pub in_count : (first n b : ℕ) → first ≤ b → b < first + n → contains (count_from first n) b ≡ true
in_count first zero b l m = absurd (omega arith)
in_count first (suc n) b l m =
    by_test (b == first)
    (λ e. ap (λ q. q || contains (count_from (suc first) n) b) e)
    (λ e. ap (λ q. q || contains (count_from (suc first) n) b) e ∙ in_count (suc first) n b (next_on first b l e) (omega arith))

column_bound : (f k : ℕ) (ps : List (Option ℕ)) (b : ℕ) → All (IsWithin k) ps → contains (bits_there f ps) b ≡ true → (f ≤ b) × (b < f + k)
column_bound f k [] b h c = absurd (true≢false (sym c))
column_bound f k (None ∷ ps) b h c = column_bound f k ps b (All-tail (IsWithin k) None ps h) c
column_bound f k (Some m ∷ ps) b h c =
    by_test (b == f + m)
    (λ e. let same = eqb-true b (f + m) e in let inside : m < k = All-head (IsWithin k) (Some m) ps h in (omega arith, omega arith))
    (λ e. column_bound f k ps b (All-tail (IsWithin k) (Some m) ps h) (or_rest (b == f + m) (contains (bits_there f ps) b) c e))

-- ---- the columns

module _ (signal : Signal) (ps : List (Option ℕ)) where
  abbrev pub column : ℕ → List ℕ
  column n = bits_there (signal.first + n * word_length signal) ps

  abbrev pub columns_from : ℕ → ℕ → List ℕ
  columns_from n count = flat_map (λ m. bits_there (signal.first + m * word_length signal) ps) (count_from n count)

  pub columns_long : (k n count : ℕ) → ((m : ℕ) → length (column m) ≡ k) → length (columns_from n count) ≡ count * k
  columns_long k n zero h = omega arith
  columns_long k n (suc count) h = omega (arith, length-append (column n) (columns_from (suc n) count), h n, columns_long k (suc n) count h)

  module _ (within : All (IsWithin (word_length signal)) ps) where
    from_on : (n count b : ℕ) → contains (columns_from n count) b ≡ true → signal.first + n * word_length signal ≤ b
    from_on n zero b c = absurd (true≢false (sym c))
    from_on n (suc count) b c = at (λ d. from_on (suc n) count b d) (either_in (column n) (columns_from (suc n) count) b c)
      where
        at : (contains (columns_from (suc n) count) b ≡ true → signal.first + suc n * word_length signal ≤ b) → (contains (column n) b ≡ true) ⊎ (contains (columns_from (suc n) count) b ≡ true)
            → signal.first + n * word_length signal ≤ b
        at rest (inl d) = (column_bound (signal.first + n * word_length signal) (word_length signal) ps b within d).0
        at rest (inr d) = omega (arith, rest d)

    -- no bit of a column is in a later one
    apart : (n count b : ℕ) → contains (column n) b ≡ true → contains (columns_from (suc n) count) b ≡ false
    apart n count b c =
        let low = column_bound (signal.first + n * word_length signal) (word_length signal) ps b within c in
        not_true (contains (columns_from (suc n) count) b) (λ d. absurd (omega (arith, low.1, from_on (suc n) count b d)))

    -- all are bits of the memory
    pub columns_in : (n count b : ℕ) → n + count ≤ range_length (addresses signal) → contains (columns_from n count) b ≡ true → contains (bits_of_signal signal) b ≡ true
    columns_in n zero b l c = absurd (true≢false (sym c))
    columns_in n (suc count) b l c = at (λ d. columns_in (suc n) count b (omega arith) d) (either_in (column n) (columns_from (suc n) count) b c)
      where
        at : (contains (columns_from (suc n) count) b ≡ true → contains (bits_of_signal signal) b ≡ true) → (contains (column n) b ≡ true) ⊎ (contains (columns_from (suc n) count) b ≡ true)
            → contains (bits_of_signal signal) b ≡ true
        at rest (inl d) =
            let low = column_bound (signal.first + n * word_length signal) (word_length signal) ps b within d in
            in_count signal.first (signal_length signal) b (omega (arith, low.0)) (omega (arith, low.1, word_ends signal n (omega arith)))
        at rest (inr d) = rest d

    module _ (s : State) (k : ℕ) (long : (m : ℕ) → length (column m) ≡ k) (vt : BitList) (alike : length vt ≡ k) where
      abbrev rest : ℕ → ℕ → List ℕ
      rest n count = columns_from (suc n) count

      valued : (n : ℕ) → length (map s (column n)) ≡ k
      valued n = length-map (column n) s ∙ long n

      -- a column that gets a value, and the later ones what they have
      first_one : (n count b : ℕ) → write_all s (pair_up (map Some (column n)) vt ++ pair_up (map Some (rest n count)) (map s (rest n count))) b ≡ write_all s (pair_up (map Some (column n)) vt) b
      first_one n count b = ap {B = Bit4} (λ (t : State). t b) (write_all-append (pair_up (map Some (column n)) vt) (pair_up (map Some (rest n count)) (map s (rest n count))) s) ∙ by_test (contains (rest n count) b) there elsewhere
        where
          t : State
          t = write_all s (pair_up (map Some (column n)) vt)

          kept : contains (rest n count) b ≡ true → t b ≡ s b
          kept c =
              let out : contains (column n) b ≡ false = not_true (contains (column n) b) (λ d. true≢false (sym c ∙ apart n count b d)) in
              write_all_other (pair_up (map Some (column n)) vt) s b (written_run (column n) vt b (omega (arith, alike, long n)) ∙ out)

          there : contains (rest n count) b ≡ true → write_all t (pair_up (map Some (rest n count)) (map s (rest n count))) b ≡ t b
          there c = written_as (rest n count) t s b (λ out. absurd (true≢false (sym c ∙ out))) ∙ sym (kept c)

          elsewhere : contains (rest n count) b ≡ false → write_all t (pair_up (map Some (rest n count)) (map s (rest n count))) b ≡ t b
          elsewhere c = write_all_other (pair_up (map Some (rest n count)) (map s (rest n count))) t b (written_run (rest n count) (map s (rest n count)) b (length-map (rest n count) s) ∙ c)

      -- a column that keeps what it has, and what is written behind it
      later_one : (n : ℕ) (ws : List Write) (b : ℕ) → write_all s (pair_up (map Some (column n)) (map s (column n)) ++ ws) b ≡ write_all s ws b
      later_one n ws b =
          ap {B = Bit4} (λ (t : State). t b) (write_all-append (pair_up (map Some (column n)) (map s (column n))) ws s)
          ∙ write_all_at ws (write_all s (pair_up (map Some (column n)) (map s (column n)))) s b (written_as (column n) s s b (λ out. refl))

      -- the write of a word of a memory whose words are the columns writes one of them
      pub column_written : (n j count b : ℕ) → j < count
          → write_all s (pair_up (map Some (columns_from n count)) (write_places (map s (columns_from n count)) (map Some (count_from (j * k) k)) vt)) b ≡ write_all s (pair_up (map Some (column (n + j))) vt) b
      column_written n j zero b l = absurd (omega arith)
      column_written n zero (suc count) b l =
          let C = column n in
          let R = rest n count in
          let same : n ≡ n + 0 = omega arith in
          let begins : 0 * k ≡ 0 = omega arith in
          let value_is : write_places (map s (C ++ R)) (map Some (count_from (0 * k) k)) vt ≡ vt ++ map s R =
          ap (λ (i : ℕ). write_places (map s (C ++ R)) (map Some (count_from i k)) vt) begins
          ∙ ap (λ (a : BitList). write_places a (map Some (count_from 0 k)) vt) (map-append s C R)
          ∙ ap (λ (i : ℕ). write_places (map s C ++ map s R) (map Some (count_from 0 i)) vt) (sym (valued n))
          ∙ places_front (map s C) (map s R) vt (omega (arith, alike, valued n)) in
          ap (λ (a : BitList). write_all s (pair_up (map Some (C ++ R)) a) b) value_is
          ∙ ap (λ (ws : List Write). write_all s ws b) (pair_append C R vt (map s R) (omega (arith, alike, long n)))
          ∙ first_one n count b
          ∙ ap (λ (m : ℕ). write_all s (pair_up (map Some (column m)) vt) b) same
      column_written n (suc j) (suc count) b l =
          let C = column n in
          let R = rest n count in
          let W = write_places (map s R) (map Some (count_from (j * k) k)) vt in
          let same : suc n + j ≡ n + suc j = omega arith in
          let begins : suc j * k ≡ k + j * k = omega arith in
          let value_is : write_places (map s (C ++ R)) (map Some (count_from (suc j * k) k)) vt ≡ map s C ++ W =
          ap (λ (i : ℕ). write_places (map s (C ++ R)) (map Some (count_from i k)) vt) begins
          ∙ ap (λ (a : BitList). write_places a (map Some (count_from (k + j * k) k)) vt) (map-append s C R)
          ∙ ap (λ (i : ℕ). write_places (map s C ++ map s R) (map Some (count_from (i + j * k) k)) vt) (sym (valued n))
          ∙ places_right (map s C) (map s R) (j * k) k vt in
          ap (λ (a : BitList). write_all s (pair_up (map Some (C ++ R)) a) b) value_is
          ∙ ap (λ (ws : List Write). write_all s ws b) (pair_append C R (map s C) W (length-map C s))
          ∙ later_one n (pair_up (map Some R) W) b
          ∙ column_written (suc n) j count b (omega arith)
          ∙ ap (λ (m : ℕ). write_all s (pair_up (map Some (column m)) vt) b) same

pub in_all : (P : ℕ → Type 0) (xs : List ℕ) (b : ℕ) → All P xs → contains xs b ≡ true → P b
in_all P [] b h c = absurd (true≢false (sym c))
in_all P (x ∷ xs) b h c =
    by_test (b == x)
    (λ e. subst P (sym (eqb-true b x e)) (All-head P x xs h))
    (λ e. in_all P xs b (All-tail P x xs h) (or_rest (b == x) (contains xs b) c e))

-- ---- one more

bits_append : (f : ℕ) (ps qs : List (Option ℕ)) → bits_there f (ps ++ qs) ≡ bits_there f ps ++ bits_there f qs
bits_append f [] qs = refl
bits_append f (None ∷ ps) qs = bits_append f ps qs
bits_append f (Some n ∷ ps) qs = ap (λ (xs : List ℕ). (f + n) ∷ xs) (bits_append f ps qs)

those_append : (ps qs : List (Option ℕ)) (vs ws : List ℕ) → length ps ≡ length vs → those_there (ps ++ qs) (vs ++ ws) ≡ those_there ps vs ++ those_there qs ws
those_append [] qs [] ws l = refl
those_append [] qs (v ∷ vs) ws l = absurd (omega arith)
those_append (p ∷ ps) qs [] ws l = absurd (omega arith)
those_append (None ∷ ps) qs (v ∷ vs) ws l = those_append ps qs vs ws (omega arith)
those_append (Some n ∷ ps) qs (v ∷ vs) ws l = ap (λ (xs : List ℕ). v ∷ xs) (those_append ps qs vs ws (omega arith))

pub bits_more : (f : ℕ) (ps : List (Option ℕ)) (k : ℕ) (old now : List ℕ) → k < length ps → now ≡ old ++ bits_there f (take k ps) → now ++ bits_there f (slice_index_or ps k None ∷ []) ≡ old ++ bits_there f (take (k + 1) ps)
bits_more f ps k old now l is =
    let p : Option ℕ = slice_index_or ps k None in
    ap (λ (xs : List ℕ). xs ++ bits_there f (p ∷ [])) is
    ∙ append_assoc old (bits_there f (take k ps)) (bits_there f (p ∷ []))
    ∙ ap (λ (xs : List ℕ). old ++ xs) (sym (bits_append f (take k ps) (p ∷ [])) ∙ ap (bits_there f) (sym (take_more ps k None l)))

pub those_more : (ps : List (Option ℕ)) (vs : List ℕ) (k : ℕ) (now : List ℕ) → k < length ps → length ps ≡ length vs → now ≡ those_there (take k ps) (take k vs)
    → now ++ those_there (slice_index_or ps k None ∷ []) (slice_index vs k ∷ []) ≡ those_there (take (k + 1) ps) (take (k + 1) vs)
those_more ps vs k now l alike is =
    let p : Option ℕ = slice_index_or ps k None in
    let v : ℕ = slice_index vs k in
    ap (λ (xs : List ℕ). xs ++ those_there (p ∷ []) (v ∷ [])) is
    ∙ sym (those_append (take k ps) (p ∷ []) (take k vs) (v ∷ []) (omega (arith, length-take k ps, length-take k vs)))
    ∙ ap (λ (qs : List (Option ℕ)). those_there qs (take k vs ++ v ∷ [])) (sym (take_more ps k None l))
    ∙ ap (those_there (take (k + 1) ps)) (sym (take_more vs k 0 (omega arith)))

pub columns_more : (signal : Signal) (ps : List (Option ℕ)) (n : ℕ) → columns_from signal ps 0 n ++ bits_there (signal.first + n * word_length signal) ps ≡ columns_from signal ps 0 (n + 1)
columns_more signal ps n =
    let f : ℕ → List ℕ = λ m. bits_there (signal.first + m * word_length signal) ps in
    ap (λ (xs : List ℕ). columns_from signal ps 0 n ++ xs) (sym (append-nil (f n)))
    ∙ sym (flat_map-append f (count_from 0 n) (n ∷ []))
    ∙ ap (λ (k : ℕ). flat_map f (count_from 0 n ++ k ∷ [])) (sym (zero-add n))
    ∙ ap (flat_map f) (sym (ap (count_from 0) (add-one n) ∙ count_more 0 n))
