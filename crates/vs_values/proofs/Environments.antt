-- The slots of all bits, where some were moved.
use Rattle.std.proofs.Common.{◌≡◌, ◌≢◌, ℕ, zero, suc, ◌+◌, ◌<◌, ◌≤◌, false, List, [], ◌∷◌, ◌++◌, map, length, replicate, set, slice_index, Some, None, Option, sym, ap, ◌∙◌, refl, arith, length-set}
use Rattle.std.specs.Prelude.{unwrap_or}
use Rattle.std.specs.List.{range_with_len}
use Rattle.std.specs.Ordering.{nat_cmp}
use Rattle.std.specs.BTreeMap.{BTreeMap, get, is_at, Updates}
use Rattle.std.specs.Map.{lookup}
use Rattle.std.proofs.lemmas.List.{length-map, map-append}
use Rattle.std.proofs.lemmas.List.Elements.{All-weaker}
use Rattle.std.proofs.lemmas.List.FromFn.{length-range_with_len}
use Rattle.vs_program.specs.Lowered.{home}
use Rattle.vs_values.specs.Environments.{first_slot, homes, local_slots, placed, slot_in, slots_in}
use Rattle.vs_values.proofs.Lists.{map_agree, range_at, range_below, range_from, map_at}

pub slots_at : (bits housed : ℕ) (moved : BTreeMap ℕ ℕ) (b : ℕ) → b < bits → slice_index (slots_in bits housed moved) b ≡ slot_in housed moved b
slots_at bits housed moved b l =
    let z : 0 + b ≡ b = omega arith in
    map_at (slot_in housed moved) (range_with_len 0 bits) b (omega (arith, length-range_with_len 0 bits)) ∙ ap (slot_in housed moved) (range_at 0 bits b 0 l ∙ z)

pub slots_length : (bits housed : ℕ) (moved : BTreeMap ℕ ℕ) → length (slots_in bits housed moved) ≡ bits
slots_length bits housed moved = length-map (range_with_len 0 bits) (slot_in housed moved) ∙ length-range_with_len 0 bits

-- none moved
moved_up : (a n : ℕ) → map home (range_with_len a n) ≡ range_with_len (4 + a) n
moved_up a zero = refl
moved_up a (suc n) =
    let z : 4 + (a + 1) ≡ (4 + a) + 1 = omega arith in
    ap (λ xs. home a ∷ xs) (moved_up (a + 1) n ∙ ap (λ k. range_with_len k n) z)

-- a bit that wasn't moved has its first slot
first_of : (housed : ℕ) (moved : BTreeMap ℕ ℕ) → moved.entries ≡ [] → (b : ℕ) → slot_in housed moved b ≡ first_slot housed b
first_of housed moved h b = ap (λ es. unwrap_or (lookup (is_at (nat_cmp b)) es) (first_slot housed b)) h

housed_is : (housed b : ℕ) → b < housed → first_slot housed b ≡ home b
housed_is housed b l = grind arith

other_is : (housed b : ℕ) → housed ≤ b → first_slot housed b ≡ 2
other_is housed b l = grind arith

pub none_moved : (bits : ℕ) (moved : BTreeMap ℕ ℕ) → moved.entries ≡ [] → slots_in bits bits moved ≡ homes bits
none_moved bits moved h =
    map_agree (slot_in bits moved) home (range_with_len 0 bits)
    (All-weaker (λ b. b < bits) (λ b. slot_in bits moved b ≡ home b) (λ b l. first_of bits moved h b ∙ housed_is bits b l) (range_with_len 0 bits) (range_below 0 bits bits (omega arith)))
    ∙ moved_up 0 bits

-- the slots of a function's local bits before its statement
split_range : (a i o : ℕ) → range_with_len a (i + o) ≡ range_with_len a i ++ range_with_len (a + i) o
split_range a zero o = let z : a ≡ a + 0 = omega arith in let y : 0 + o ≡ o = omega arith in ap (range_with_len a) y ∙ ap (λ k. range_with_len k o) z
split_range a (suc i) o =
    let z : (a + 1) + i ≡ a + suc i = omega arith in
    let y : suc i + o ≡ suc (i + o) = omega arith in
    ap (range_with_len a) y ∙ ap (λ xs. a ∷ xs) (split_range (a + 1) i o ∙ ap (λ k. range_with_len (a + 1) i ++ range_with_len k o) z)

all_x : (f : ℕ → ℕ) (a o : ℕ) → ((b : ℕ) → a ≤ b → f b ≡ 2) → map f (range_with_len a o) ≡ replicate o 2
all_x f a zero h = refl
all_x f a (suc o) h = ap (λ x. x ∷ map f (range_with_len (a + 1) o)) (h a (omega arith)) ∙ ap (λ xs. 2 ∷ xs) (all_x f (a + 1) o (λ b l. h b (omega arith)))

pub local_moved : (inputs others : ℕ) (moved : BTreeMap ℕ ℕ) → moved.entries ≡ [] → slots_in (inputs + others) inputs moved ≡ local_slots inputs others
local_moved inputs others moved h =
    let f = slot_in inputs moved in
    let z : 0 + inputs ≡ inputs = omega arith in
    ap (map f) (split_range 0 inputs others ∙ ap (λ k. range_with_len 0 inputs ++ range_with_len k others) z)
    ∙ map-append f (range_with_len 0 inputs) (range_with_len inputs others)
    ∙ ap (λ xs. xs ++ map f (range_with_len inputs others))
    (map_agree f home (range_with_len 0 inputs)
    (All-weaker (λ b. b < inputs) (λ b. f b ≡ home b) (λ b l. first_of inputs moved h b ∙ housed_is inputs b l) (range_with_len 0 inputs) (range_below 0 inputs inputs (omega arith)))
    ∙ moved_up 0 inputs)
    ∙ ap (λ xs. homes inputs ++ xs) (all_x f inputs others (λ b l. first_of inputs moved h b ∙ other_is inputs b l))

-- what is found is the slot
pub at_some : (bits housed : ℕ) (moved : BTreeMap ℕ ℕ) (now : List ℕ) (b slot : ℕ) → slots_in bits housed moved ≡ now → b < length now → Some slot ≡ get nat_cmp moved b → slot ≡ slice_index now b
at_some bits housed moved now b slot is l e =
    ap (λ o. unwrap_or o (first_slot housed b)) e ∙ sym (slots_at bits housed moved b (omega (arith, ap length is, slots_length bits housed moved))) ∙ ap (λ xs. slice_index xs b) is

pub at_none : (bits housed : ℕ) (moved : BTreeMap ℕ ℕ) (now : List ℕ) (b : ℕ) → slots_in bits housed moved ≡ now → b < length now → None ≡ get nat_cmp moved b → first_slot housed b ≡ slice_index now b
at_none bits housed moved now b is l e =
    ap (λ o. unwrap_or o (first_slot housed b)) e ∙ sym (slots_at bits housed moved b (omega (arith, ap length is, slots_length bits housed moved))) ∙ ap (λ xs. slice_index xs b) is

-- one more moved
set_map : (f g : ℕ → ℕ) (a n k v : ℕ) → k < n → f (a + k) ≡ v → ((q : ℕ) → q ≢ a + k → f q ≡ g q) → map f (range_with_len a n) ≡ set (map g (range_with_len a n)) k v
set_map f g a zero k v l here rest = absurd (omega arith)
set_map f g a (suc n) zero v l here rest =
    let z : a ≡ a + 0 = omega arith in
    ap (λ x. x ∷ map f (range_with_len (a + 1) n)) (ap f z ∙ here)
    ∙ ap (λ xs. v ∷ xs) (map_agree f g (range_with_len (a + 1) n) (All-weaker (λ q. a + 1 ≤ q) (λ q. f q ≡ g q) (λ q h. rest q (λ e. omega arith)) (range_with_len (a + 1) n) (range_from (a + 1) n (a + 1) (omega arith))))
set_map f g a (suc n) (suc k) v l here rest =
    let z : (a + 1) + k ≡ a + suc k = omega arith in
    ap (λ x. x ∷ map f (range_with_len (a + 1) n)) (rest a (λ e. omega arith))
    ∙ ap (λ xs. g a ∷ xs) (set_map f g (a + 1) n k v (omega arith) (ap f z ∙ here) (λ q ne. rest q (λ e. ne (e ∙ sym z))))

pub set_moved : (bits housed : ℕ) (m n : BTreeMap ℕ ℕ) (now : List ℕ) (b slot : ℕ) → slots_in bits housed m ≡ now → b < length now → Updates nat_cmp m n b (Some slot) → slots_in bits housed n ≡ set now b slot
set_moved bits housed m n now b slot is l h =
    let z : 0 + b ≡ b = omega arith in
    set_map (slot_in housed n) (slot_in housed m) 0 bits b slot (omega (arith, ap length is, slots_length bits housed m))
    (ap (slot_in housed n) z ∙ ap (λ o. unwrap_or o (first_slot housed b)) h.1)
    (λ q ne. ap (λ o. unwrap_or o (first_slot housed q)) (h.2 q (apart b q (λ e. ne (e ∙ sym z)))))
    ∙ ap (λ xs. set xs b slot) is
  where
    apart : (b q : ℕ) → (q ≡ b → ⊥) → is_at (nat_cmp b) q ≡ false
    apart b q ne = grind arith

-- ---- slots that are placed

pub placed_length : (env : List ℕ) (ps : List (Option ℕ)) (to : List ℕ) → length (placed env ps to) ≡ length env
placed_length env [] to = refl
placed_length env (p ∷ ps) [] = refl
placed_length env (None ∷ ps) (t ∷ ts) = placed_length env ps ts
placed_length env (Some b ∷ ps) (t ∷ ts) = placed_length (set env b t) ps ts ∙ length-set env b t

-- one more bit
pub placed_more : (env bits to : List ℕ) (b t : ℕ) → length bits ≡ length to → placed env (map Some (bits ++ b ∷ [])) (to ++ t ∷ []) ≡ set (placed env (map Some bits) to) b t
placed_more env [] [] b t l = refl
placed_more env [] (x ∷ to) b t l = absurd (omega arith)
placed_more env (c ∷ bits) [] b t l = absurd (omega arith)
placed_more env (c ∷ bits) (x ∷ to) b t l = placed_more (set env c x) bits to b t (omega arith)
