-- Writes to parts of words of memories.
use Rattle.std.proofs.Common.{◌≡◌, ℕ, zero, suc, ◌+◌, ◌*◌, ◌<◌, ◌≤◌, ◌^◌, Bool, true, false, ◌&&◌, ◌==◌, nat_le, if◌then◌else◌, List, [], ◌∷◌, ◌++◌, map, length, take, drop, replicate, slice_index, get_or, Option, Some, None, sym, ap, ◌∙◌, subst, refl, arith, append-nil, zero-add, true≢false, ◌⊎◌, inl, inr, Result, Ok, Err}
use Rattle.std.specs.Prelude.{option_map, OnOk}
use Rattle.std.specs.List.{All, Contains, range_with_len}
use Rattle.std.proofs.lemmas.List.{map-append, length-map}
use Rattle.std.proofs.lemmas.List.Elements.{All-nil, All-cons, All-weaker, All-map, All-contains}
use Rattle.std.proofs.lemmas.List.FromFn.{length-range_with_len}
use Rattle.std.proofs.lemmas.List.Sums.{sum_by-cons}
use mathlib.Core.Path.{fun_ext}
use Rattle.vs_four.specs.declared.Bit4.{Bit4}
use Rattle.vs_four.specs.declared.Bit4.TheVariants.{X}
use Rattle.vs_four.specs.Logic.{BitList}
use Rattle.vs_four.specs.Selects.{Part, range_length, at_place, places, write_places}
use Rattle.vs_net.specs.Network.{State, Write, write_all}
use Rattle.vs_design.specs.Expressions.{Signal, signal_length, word_length, addresses, Expression, width, sign, is_constant}
use Rattle.vs_design.specs.Values.{bits_of_signal, count_from, own_value, constant_value, address_place, spread, select_word}
use Rattle.vs_design.specs.Statements.{Target, PartOf, WordOf, WordPartOf}
use Rattle.vs_design.specs.Bodies.{bits_at, pair_up, target_writes}
use Rattle.vs_design.specs.Fits.{fits_target, is_fit, fits_word_part}
use Rattle.vs_design.specs.Footprints.{contains, somes, target_bits}
use Rattle.vs_design.specs.Sizes.{address_weight}
use Rattle.vs_design.specs.TreeLaws.{ValueLength, PartsOfWord, PartsOfNone}
use Rattle.vs_design.proofs.WordParts.{part_constant, part_variable, length_select_word}
use Rattle.vs_design.proofs.Lengths as L
use Rattle.vs_kern_select.specs.declared.costs.Kernel.TheVariants as S
use Rattle.vs_code.specs.declared.kernels.AnyKernel.{AnyKernel}
use Rattle.vs_code.specs.declared.kernels.AnyKernel.TheVariants as K
use Rattle.vs_code.specs.Kernels.{operator_of, takes}
use Rattle.vs_code.specs.Calls as C
use Rattle.vs_code.specs.Calls.{Call, call_cost, length_of}
use Rattle.vs_values.specs.Added.{AreAdded, IsEnv, Holds, vectors, fresh_call}
use Rattle.vs_values.specs.Coded.{Coding, with_call}
use Rattle.vs_values.specs.Constants.{constant_bits, AreConstant}
use Rattle.vs_values.specs.Environments.{placed}
use Rattle.vs_values.specs.Made.{IsCallable, word_kernel}
use Rattle.vs_lower.specs.Done.{index_values, IsWritten}
use Rattle.vs_lower.specs.Parts.{those_there, bits_there, column_bits}
use Rattle.vs_lower.specs.Written.{HasRoom, IsIndex, AddsWrites, write_weight}
use Rattle.vs_values.proofs.Adding.{called_parts, one_called, added_call, added_none, added_more, added_within, holds_after, vector_stays, is_fresh_call}
use Rattle.vs_values.proofs.Environments.{placed_length}
use Rattle.vs_values.proofs.Folding.{bits_are}
use Rattle.vs_values.proofs.Lists.{range_below, range_from}
use Rattle.vs_values.proofs.Named.{all_run, length_count}
use Rattle.vs_values.proofs.Readying.{stores_of, two_added}
use Rattle.vs_values.proofs.Selecting.{selection, range_is_some}
use Rattle.vs_values.proofs.Unary.{not_true}
use Rattle.vs_values.proofs.Values.{both_true}
use Rattle.vs_values.proofs.Wording.{place_less, memory_long, word_ends, word_cost, word_pays}
use Rattle.vs_lower.proofs.Columns.{map_there, there_long, pair_there, all_there, few_places, all_of, in_all, columns_long, columns_in, column_written}
use Rattle.vs_lower.proofs.Joining.{picked, picked_are}
use Rattle.vs_lower.proofs.Partwise.{IsFitWordPart, fit_word_part, part_few, part_pays, words_pay, fixed_adds, part_selecting, word_selecting, part_writer, part_takes, can_write, CanWrite, called_adds, somes_within, word_within}
use Rattle.vs_lower.proofs.Placing.{placed_all, placed_holds, placed_other, placed_from, written_as}
use Rattle.vs_lower.proofs.Targets.{IsWithin, places_within, select_writes, length_places}
use Rattle.vs_lower.proofs.Widths.{fixed_length}
use Rattle.vs_lower.proofs.Wordwise.{run_from}

-- ---- calls of the same arguments

pub callable_same : (code : Coding) (k : AnyKernel) (a a' b b' c c' : List ℕ) (w : ℕ) → a ≡ a' → b ≡ b' → c ≡ c' → IsCallable code k (a ∷ b ∷ c ∷ []) w → IsCallable code k (a' ∷ b' ∷ c' ∷ []) w
callable_same code k a a' b b' c c' w p q r h =
    subst (λ (x : List ℕ). IsCallable code k (a' ∷ b' ∷ x ∷ []) w) r (subst (λ (x : List ℕ). IsCallable code k (a' ∷ x ∷ c ∷ []) w) q (subst (λ (x : List ℕ). IsCallable code k (x ∷ b ∷ c ∷ []) w) p h))

pub with_same : (code : Coding) (k : AnyKernel) (a a' b b' c c' : List ℕ) (w : ℕ) → a ≡ a' → b ≡ b' → c ≡ c' → with_call code k (a' ∷ b' ∷ c' ∷ []) w ≡ with_call code k (a ∷ b ∷ c ∷ []) w
with_same code k a a' b b' c c' w p q r =
    sym (ap (λ (x : List ℕ). with_call code k (x ∷ b ∷ c ∷ []) w) p ∙ ap (λ (x : List ℕ). with_call code k (a' ∷ x ∷ c ∷ []) w) q ∙ ap (λ (x : List ℕ). with_call code k (a' ∷ b' ∷ x ∷ []) w) r)

pub on_ok : {V W : Type 0} {P Q : Type 0} (r : Result V W) → OnOk r P → (P → Q) → OnOk r Q
on_ok (Ok v) h k = k h
on_ok (Err e) h k = h

pub both_ok : {V W : Type 0} {P Q R : Type 0} (r : Result V W) → OnOk r P → OnOk r Q → (P → Q → R) → OnOk r R
both_ok (Ok v) h j k = k h j
both_ok (Err e) h j k = h

-- the word that an address has, and its first bit
pub found_word : (f : ℕ → ℕ) (place : Option ℕ) (b : ℕ) → option_map f place ≡ Some b → (n : ℕ) × (place ≡ Some n) × (b ≡ f n)
found_word f None b h = cc
found_word f (Some n) b h = (n, refl, cc)

pub found_none : (f : ℕ → ℕ) (place : Option ℕ) → option_map f place ≡ None → place ≡ None
found_none f None h = refl
found_none f (Some n) h = cc

-- a word by itself: the bits of the word at this place
abbrev pub word_at : Signal → ℕ → Signal
word_at signal n = record signal { first = signal.first + n * word_length signal; words = None }

-- ---- the values of the address and of the index

split_append : (xs ys us vs : BitList) → length xs ≡ length us → (xs ++ ys) ≡ (us ++ vs) → (xs ≡ us) × (ys ≡ vs)
split_append [] ys [] vs l h = (refl, h)
split_append [] ys (u ∷ us) vs l h = absurd (omega arith)
split_append (x ∷ xs) ys [] vs l h = absurd (omega arith)
split_append (x ∷ xs) ys (u ∷ us) vs l h =
    let heads : (x ≡ u) × ((xs ++ ys) ≡ (us ++ vs)) = (cc, cc) in
    let rest = split_append xs ys us vs (omega arith) heads.1 in
    (ap (λ (z : Bit4). z ∷ xs) heads.0 ∙ ap (λ (zs : BitList). u ∷ zs) rest.0, rest.1)

one_list : (x y : BitList) → (x ∷ []) ≡ (y ∷ []) → x ≡ y
one_list x y h = cc

pub known_parts : ValueLength → (slots : C.State) (state : State) (address index : Expression) (ta ti : List ℕ) → length ta ≡ width address → vectors slots ((ta ++ ti) ∷ []) ≡ (own_value address state ++ own_value index state) ∷ []
    → (map slots ta ≡ own_value address state) × (map slots ti ≡ own_value index state)
known_parts law slots state address index ta ti l h =
    split_append (map slots ta) (map slots ti) (own_value address state) (own_value index state)
    (length-map ta slots ∙ l ∙ sym (law address (width address) (sign address) state (omega arith)))
    (sym (map-append slots ta ti) ∙ one_list (map slots (ta ++ ti)) (own_value address state ++ own_value index state) h)

-- ---- which bits

somes_some : (bits : List ℕ) → somes (map Some bits) ≡ bits
somes_some [] = refl
somes_some (b ∷ bits) = ap (λ (xs : List ℕ). b ∷ xs) (somes_some bits)

word_bits : (signal : Signal) (n : ℕ) → somes (bits_at signal (spread (word_length signal) (Some n))) ≡ bits_of_signal (word_at signal n)
word_bits signal n = ap somes (run_from signal.first (n * word_length signal) (word_length signal)) ∙ somes_some (count_from (signal.first + n * word_length signal) (word_length signal))

word_in_memory : (signal : Signal) (n b : ℕ) → n < range_length (addresses signal) → contains (bits_of_signal (word_at signal n)) b ≡ true → contains (bits_of_signal signal) b ≡ true
word_in_memory signal n b l c =
    somes_within signal (spread (word_length signal) (Some n)) b (word_within signal (Some n) l) (subst (λ (bs : List ℕ). contains bs b ≡ true) (sym (word_bits signal n)) c)

part_in_word : (signal : Signal) (part : Part) (index : Expression) (n b : ℕ) → range_length part.range ≡ word_length signal
    → contains (target_bits (PartOf (word_at signal n) part index)) b ≡ true → contains (bits_of_signal (word_at signal n)) b ≡ true
part_in_word signal part index n b r c = at (is_constant index) refl
  where
    word : Signal
    word = word_at signal n

    at : (q : Bool) → is_constant index ≡ q → contains (bits_of_signal (word_at signal n)) b ≡ true
    at true e =
        let s = part_selecting (word_at signal n) part index r in
        somes_within (word_at signal n) (places part (sign index) (constant_value index)) b (s.within (constant_value index)) (subst (λ (bs : List ℕ). contains bs b ≡ true) (s.fixed e) c)
    at false e =
        let s = part_selecting (word_at signal n) part index r in
        subst (λ (bs : List ℕ). contains bs b ≡ true) (s.varied e) c

-- what is known of a part of a word whose address is in constants' slots, of the word at this place
pub record IsAddressed (signal : Signal) (address : Expression) (part : Part) (ta : List ℕ) (n : ℕ) : Type 0 where
  pub range : range_length part.range ≡ word_length signal
  pub fixed : AreConstant ta
  pub some : 1 ≤ length ta
  pub known : IsIndex address ta
  pub place : address_place signal (sign address) (constant_bits ta) ≡ Some n

both_fixed : (a b c : Bool) → a ≡ c → (a && b) ≡ (c && b)
both_fixed a b c h = ap (λ (x : Bool). x && b) h

-- by a constant address the part has the bits of the part of the word by itself
same_part : PartsOfWord → (signal : Signal) (address : Expression) (part : Part) (index : Expression) (ta : List ℕ) (n : ℕ) → IsAddressed signal address part ta n → is_constant address ≡ true
    → target_bits (WordPartOf signal address part index) ≡ target_bits (PartOf (word_at signal n) part index)
same_part law signal address part index ta n o e = at (is_constant index) refl
  where
    same : address_place signal (sign address) (constant_value address) ≡ Some n
    same = ap (address_place signal (sign address)) (sym (o.known.fixed e)) ∙ o.place

    at : (q : Bool) → is_constant index ≡ q → target_bits (WordPartOf signal address part index) ≡ target_bits (PartOf (word_at signal n) part index)
    at true f =
        let s = part_selecting (word_at signal n) part index o.range in
        part_constant signal address part index (both_fixed (is_constant address) (is_constant index) true e ∙ f)
        ∙ ap somes (law signal (sign address) (constant_value address) part (sign index) (constant_value index) n o.range same)
        ∙ sym (s.fixed f)
    at false f =
        let s = part_selecting (word_at signal n) part index o.range in
        let w = word_selecting signal address in
        part_variable signal address part index (both_fixed (is_constant address) (is_constant index) true e ∙ f)
        ∙ w.fixed e
        ∙ ap (λ (p : Option ℕ). somes (bits_at signal (spread (word_length signal) p))) same
        ∙ word_bits signal n
        ∙ sym (s.varied f)

inside_part : PartsOfWord → (signal : Signal) (address : Expression) (part : Part) (index : Expression) (ta : List ℕ) (n b : ℕ) → IsAddressed signal address part ta n
    → contains (target_bits (WordPartOf signal address part index)) b ≡ false → contains (target_bits (PartOf (word_at signal n) part index)) b ≡ false
inside_part law signal address part index ta n b o out = at (is_constant address) refl
  where
    at : (p : Bool) → is_constant address ≡ p → contains (target_bits (PartOf (word_at signal n) part index)) b ≡ false
    at true e = ap (λ (bs : List ℕ). contains bs b) (sym (same_part law signal address part index ta n o e)) ∙ out
    at false e =
        let w = word_selecting signal address in
        let are : target_bits (WordPartOf signal address part index) ≡ bits_of_signal signal = part_variable signal address part index (both_fixed (is_constant address) (is_constant index) false e) ∙ w.varied e in
        let gone : contains (bits_of_signal signal) b ≡ false = ap (λ (bs : List ℕ). contains bs b) (sym are) ∙ out in
        let less = place_less signal (sign address) (constant_bits ta) n o.place in
        not_true (contains (target_bits (PartOf (word_at signal n) part index)) b) (λ c. true≢false (sym (word_in_memory signal n b less (part_in_word signal part index n b o.range c)) ∙ gone))

-- ---- by an address in constants' slots

-- what writes a part of the word by itself writes the part of the word
as_word_part : ValueLength → PartsOfWord → (env env_after : List ℕ) (mark next most more : ℕ) (signal : Signal) (address : Expression) (part : Part) (index : Expression) (ta ti tv : List ℕ) (n : ℕ) (calls : List Call)
    → IsAddressed signal address part ta n → most ≤ more → IsWritten env mark (PartOf (word_at signal n) part index) (ti ∷ []) tv most calls env_after next
    → IsWritten env mark (WordPartOf signal address part index) ((ta ++ ti) ∷ []) tv more calls env_after next
as_word_part law words env env_after mark next most more signal address part index ta ti tv n calls o l w = record {
  added = added_within mark calls next most more l w.added;
  is_env = w.is_env;
  same_length = w.same_length;
  kept = λ b h. w.kept b (inside_part words signal address part index ta n b o h);
  from = w.from;
  values = λ before after state base h is called.
      let known = known_parts law before state address index ta ti o.known.long is in
      let place : address_place signal (sign address) (own_value address state) ≡ Some n = ap (address_place signal (sign address)) (sym known.0 ∙ bits_are before ta h.constants o.fixed) ∙ o.place in
      let writes : target_writes (PartOf (word_at signal n) part index) (map before tv) state ≡ target_writes (WordPartOf signal address part index) (map before tv) state =
      ap (λ (ps : List (Option ℕ)). pair_up ps (map before tv)) (sym (words signal (sign address) (own_value address state) part (sign index) (own_value index state) n o.range place)) in
      subst (λ (ws : List Write). Holds env_after after (write_all base ws)) writes (w.values before after state base h (ap (λ (x : BitList). x ∷ []) known.1) called);
}

both : (a b : Bool) → a ≡ true → b ≡ true → (a && b) ≡ true
both true b h k = k
both false b h k = cc

pub fits_in_word : (signal : Signal) (address : Expression) (part : Part) (index : Expression) (n : ℕ) → fits_target (WordPartOf signal address part index) ≡ true → fits_target (PartOf (word_at signal n) part index) ≡ true
fits_in_word signal address part index n h =
    let x = both_true (fits_word_part signal part && is_fit address) (is_fit index) h in
    both (fits_word_part signal part) (is_fit index) (both_true (fits_word_part signal part) (is_fit address) x.0).0 x.1

less_room : (env : List ℕ) (code : Coding) (m k : ℕ) → k ≤ m → HasRoom env code m → HasRoom env code k
less_room env code m k l r = record { is_env = r.is_env; light = omega (arith, r.light); slots = omega (arith, r.slots); few = omega (arith, r.few) }

weighs_less : (signal : Signal) (address : Expression) (part : Part) (index : Expression) (n : ℕ) → write_weight (PartOf (word_at signal n) part index) ≤ write_weight (WordPartOf signal address part index)
weighs_less signal address part index n = behind (if is_constant address then 0 else address_weight signal (width address)) (if is_constant index then 0 else part.width * (range_length part.range * (width index + 1)))
  where
    behind : (x y : ℕ) → y ≤ x + y
    behind x y = omega arith

-- what a part of a word weighs, and how many bits it has
weight_varied : (signal : Signal) (address : Expression) (part : Part) (index : Expression) (n : ℕ) → is_constant address ≡ false
    → write_weight (WordPartOf signal address part index) ≡ address_weight signal (width address) + write_weight (PartOf (word_at signal n) part index)
weight_varied signal address part index n e = ap (λ (b : Bool). (if b then 0 else address_weight signal (width address)) + write_weight (PartOf (word_at signal n) part index)) e

memory_bits : (signal : Signal) (address : Expression) (part : Part) (index : Expression) → is_constant address ≡ false → length (target_bits (WordPartOf signal address part index)) ≡ signal_length signal
memory_bits signal address part index e =
    let w = word_selecting signal address in
    ap (λ (bs : List ℕ). length bs) (part_variable signal address part index (both_fixed (is_constant address) (is_constant index) false e) ∙ w.varied e) ∙ length_count signal.first (signal_length signal)

bits_pay : (signal : Signal) (address : Expression) (part : Part) (index : Expression) → fits_target (WordPartOf signal address part index) ≡ true
    → length (target_bits (WordPartOf signal address part index)) ≤ part.width + write_weight (WordPartOf signal address part index)
bits_pay signal address part index f = at (is_constant address) (is_constant index) refl refl
  where
    p : IsFitWordPart signal address part index
    p = fit_word_part signal address part index f

    at : (a i : Bool) → is_constant address ≡ a → is_constant index ≡ i → length (target_bits (WordPartOf signal address part index)) ≤ part.width + write_weight (WordPartOf signal address part index)
    at true true e h = omega (arith, fixed_length (WordPartOf signal address part index) (both_fixed (is_constant address) (is_constant index) true e ∙ h))
    at true false e h =
        let bits = ap (λ (bs : List ℕ). length bs) (part_variable signal address part index (both_fixed (is_constant address) (is_constant index) true e ∙ h)) in
        let few = fixed_length (WordOf signal address) e in
        let weighs : write_weight (WordPartOf signal address part index) ≡ (if is_constant address then 0 else address_weight signal (width address)) + part.width * (range_length part.range * (width index + 1)) =
        ap (λ (b : Bool). (if is_constant address then 0 else address_weight signal (width address)) + (if b then 0 else part.width * (range_length part.range * (width index + 1)))) h in
        omega (arith, bits, few, weighs, part_pays (range_length part.range) part.width (width index) p.some, p.range)
    at false i e h = omega (arith, memory_bits signal address part index e, weight_varied signal address part index 0 e, word_pays signal (width address) p.address_some)

few_as : PartsOfWord → (signal : Signal) (address : Expression) (part : Part) (index : Expression) (ta : List ℕ) (n stores : ℕ) → IsAddressed signal address part ta n → 1 ≤ width address → stores ≤ write_weight (PartOf (word_at signal n) part index)
    → stores + length (target_bits (PartOf (word_at signal n) part index)) ≤ part.width + write_weight (PartOf (word_at signal n) part index)
    → stores + length (target_bits (WordPartOf signal address part index)) ≤ part.width + write_weight (WordPartOf signal address part index)
few_as law signal address part index ta n stores o some most few = at (is_constant address) refl
  where
    at : (a : Bool) → is_constant address ≡ a → stores + length (target_bits (WordPartOf signal address part index)) ≤ part.width + write_weight (WordPartOf signal address part index)
    at true e = omega (arith, few, ap (λ (bs : List ℕ). length bs) (same_part law signal address part index ta n o e), weighs_less signal address part index n)
    at false e = omega (arith, most, memory_bits signal address part index e, weight_varied signal address part index n e, word_pays signal (width address) some)

adds_as : ValueLength → PartsOfWord → (env env_after : List ℕ) (code after : Coding) (signal : Signal) (address : Expression) (part : Part) (index : Expression) (ta ti tv : List ℕ) (n : ℕ) → IsAddressed signal address part ta n
    → AddsWrites env env_after code after (PartOf (word_at signal n) part index) (ti ∷ []) tv (write_weight (PartOf (word_at signal n) part index))
    → AddsWrites env env_after code after (WordPartOf signal address part index) ((ta ++ ti) ∷ []) tv (write_weight (WordPartOf signal address part index))
adds_as law words env env_after code after signal address part index ta ti tv n o w = record {
  few = λ h. few_as words signal address part index ta n (length_of w.calls) o (omega (arith, o.some, o.known.long)) w.written.added.stores (w.few (λ x. x));
  calls = w.calls;
  is = w.is;
  written = as_word_part law words env env_after code.next after.next (write_weight (PartOf (word_at signal n) part index)) (write_weight (WordPartOf signal address part index)) signal address part index ta ti tv n w.calls o
      (weighs_less signal address part index n) w.written;
}

-- and a constant index
pub fixed_in_word : ValueLength → PartsOfWord → (env env_after : List ℕ) (code : Coding) (signal : Signal) (address : Expression) (part : Part) (index : Expression) (ta ti tv : List ℕ) (n : ℕ) → IsAddressed signal address part ta n
    → fits_target (WordPartOf signal address part index) ≡ true
    → HasRoom env code (write_weight (WordPartOf signal address part index)) → All (λ slot. slot < code.next) tv → AreConstant ti → IsIndex index ti
    → env_after ≡ placed env (bits_at (word_at signal n) (places part (sign index) (constant_bits ti))) tv
    → AddsWrites env env_after code code (WordPartOf signal address part index) ((ta ++ ti) ∷ []) tv (write_weight (WordPartOf signal address part index))
fixed_in_word law words env env_after code signal address part index ta ti tv n o f r below c i is =
    let word = word_at signal n in
    let few = part_few word part index (fits_in_word signal address part index n f) 0 (is_constant index) refl (λ e. refl) (omega arith) in
    adds_as law words env env_after code code signal address part index ta ti tv n o
    (fixed_adds env env_after code (PartOf word part index) word index (places part (sign index)) ti tv (part_selecting word part index o.range)
    (less_room env code (write_weight (WordPartOf signal address part index)) (write_weight (PartOf word part index)) (weighs_less signal address part index n) r) below c i (omega (arith, few)) is)

-- and a variable index
pub can_in_word : (env : List ℕ) (code : Coding) (signal : Signal) (address : Expression) (part : Part) (index : Expression) (ti tv : List ℕ) (n : ℕ) → fits_target (WordPartOf signal address part index) ≡ true
    → HasRoom env code (write_weight (WordPartOf signal address part index)) → (signal.first + n * word_length signal) + word_length signal ≤ length env → All (λ slot. slot < code.next) ti → All (λ slot. slot < code.next) tv → length tv ≡ part.width
    → (AreConstant ti → ⊥) → IsIndex index ti → CanWrite env code (S.Write (selection part (sign index))) (PartOf (word_at signal n) part index) (word_at signal n) index ti tv
can_in_word env code signal address part index ti tv n f r inside below_i below_v long variable i =
    let word = word_at signal n in
    can_write env code (S.Write (selection part (sign index))) (PartOf word part index) word index (places part (sign index)) part.width ti tv (part_writer word part index (fits_in_word signal address part index n f))
    (less_room env code (write_weight (WordPartOf signal address part index)) (write_weight (PartOf word part index)) (weighs_less signal address part index n) r) inside below_i below_v long variable i

pub called_in_word : ValueLength → PartsOfWord → (env env_after : List ℕ) (code after : Coding) (signal : Signal) (address : Expression) (part : Part) (index : Expression) (ta ti tv : List ℕ) (n : ℕ) → IsAddressed signal address part ta n
    → fits_target (WordPartOf signal address part index) ≡ true → HasRoom env code (write_weight (WordPartOf signal address part index)) → All (λ slot. slot < code.next) ti → All (λ slot. slot < code.next) tv → length tv ≡ part.width
    → CanWrite env code (S.Write (selection part (sign index))) (PartOf (word_at signal n) part index) (word_at signal n) index ti tv
    → after ≡ with_call code (K.Select (S.Write (selection part (sign index)))) (picked env (bits_of_signal (word_at signal n)) ∷ ti ∷ tv ∷ []) (word_length signal)
    → env_after ≡ placed env (map Some (bits_of_signal (word_at signal n))) (range_with_len code.next (word_length signal))
    → AddsWrites env env_after code after (WordPartOf signal address part index) ((ta ++ ti) ∷ []) tv (write_weight (WordPartOf signal address part index))
called_in_word law words env env_after code after signal address part index ta ti tv n o f r below_i below_v long can call is =
    let word = word_at signal n in
    adds_as law words env env_after code after signal address part index ta ti tv n o
    (called_adds env env_after code after (S.Write (selection part (sign index))) (PartOf word part index) word index (places part (sign index)) part.width ti tv (part_writer word part index (fits_in_word signal address part index n f))
    (less_room env code (write_weight (WordPartOf signal address part index)) (write_weight (PartOf word part index)) (weighs_less signal address part index n) r) below_i below_v long can call is)

-- by an address of no word nothing is written
no_pairs : (k : ℕ) (vs : BitList) → pair_up (replicate k None) vs ≡ []
no_pairs zero vs = refl
no_pairs (suc k) [] = refl
no_pairs (suc k) (v ∷ vs) = no_pairs k vs

nowhere : PartsOfNone → (signal : Signal) (address : Expression) (part : Part) (index : Expression) (state : State) (vs : BitList) → address_place signal (sign address) (own_value address state) ≡ None
    → target_writes (WordPartOf signal address part index) vs state ≡ []
nowhere law signal address part index state vs e =
    ap (λ (ps : List (Option ℕ)). pair_up ps vs) (law signal (sign address) (own_value address state) part (sign index) (own_value index state) e) ∙ no_pairs part.width vs

pub nothing_added : (env : List ℕ) (code : Coding) (signal : Signal) (address : Expression) (part : Part) (index : Expression) (tis : List (List ℕ)) (tv : List ℕ) → IsEnv env code.next
    → fits_target (WordPartOf signal address part index) ≡ true
    → ((before : C.State) (state base : State) → Holds env before base → vectors before tis ≡ index_values (WordPartOf signal address part index) state → target_writes (WordPartOf signal address part index) (map before tv) state ≡ [])
    → AddsWrites env env code code (WordPartOf signal address part index) tis tv (write_weight (WordPartOf signal address part index))
unfolding write_all
nothing_added env code signal address part index tis tv e f none = record {
  few = λ h. omega (arith, bits_pay signal address part index f);
  calls = [];
  is = sym (append-nil code.calls);
  written = record {
    added = added_within code.next [] code.next 0 (write_weight (WordPartOf signal address part index)) (omega arith) (added_none code.next);
    is_env = e;
    same_length = refl;
    kept = λ b h. refl;
    from = λ b l. inl refl;
    values = λ before after state base h is called.
        subst (λ (s : C.State). Holds env s (write_all base (target_writes (WordPartOf signal address part index) (map before tv) state))) (sym (fun_ext called))
        (subst (λ (ws : List Write). Holds env before (write_all base ws)) (sym (none before state base h is)) h);
  };
}

pub no_word_added : ValueLength → PartsOfNone → (env : List ℕ) (code : Coding) (signal : Signal) (address : Expression) (part : Part) (index : Expression) (ta ti tv : List ℕ) → IsEnv env code.next → fits_target (WordPartOf signal address part index) ≡ true → AreConstant ta → IsIndex address ta
    → address_place signal (sign address) (constant_bits ta) ≡ None → AddsWrites env env code code (WordPartOf signal address part index) ((ta ++ ti) ∷ []) tv (write_weight (WordPartOf signal address part index))
no_word_added law none env code signal address part index ta ti tv e f c i place =
    nothing_added env code signal address part index ((ta ++ ti) ∷ []) tv e f (λ before state base h is.
    let known = known_parts law before state address index ta ti i.long is in
    nowhere none signal address part index state (map before tv) (ap (address_place signal (sign address)) (sym known.0 ∙ bits_are before ta h.constants c) ∙ place))

-- ---- bits that all get new slots

renewed : (env : List ℕ) (mark : ℕ) (target : Target) (tis : List (List ℕ)) (tv : List ℕ) (most : ℕ) (calls : List Call) (bits : List ℕ) (low n next : ℕ)
    → IsEnv env mark → AreAdded mark calls next most → mark ≤ low → low + n ≤ next
    → ((b : ℕ) → contains (target_bits target) b ≡ false → contains bits b ≡ false)
    → ((before after : C.State) (state base : State) → Holds env before base → vectors before tis ≡ index_values target state → C.AreCalled calls before after
    → (b : ℕ) → write_all base (pair_up (map Some bits) (map after (range_with_len low n))) b ≡ write_all base (target_writes target (map before tv) state) b)
    → IsWritten env mark target tis tv most calls (placed env (map Some bits) (range_with_len low n)) next
renewed env mark target tis tv most calls bits low n next e added l m within values =
    let to = range_with_len low n in
    record {
      added = added;
      is_env = record {
        constants = omega (arith, e.constants, added.grown);
        below = placed_all (λ slot. slot < next) env (map Some bits) to (range_below low n next m) (All-weaker (λ slot. slot < mark) (λ slot. slot < next) (λ slot k. omega (arith, added.grown)) env e.below);
      };
      same_length = placed_length env (map Some bits) to;
      kept = λ b h. placed_other env bits to b (within b h);
      from = λ b k. new_from (placed_from env (map Some bits) to b k);
      values = λ before after state base h is called.
          let held = placed_holds env after base (map Some bits) to (holds_after env calls mark before after base e added.fresh called h) in
          record { constants = held.constants; bits = λ b k. held.bits b k ∙ values before after state base h is called b };
    }
  where
    new_from : {A : Type 0} {B : Type 0} {x : ℕ} → A ⊎ Contains (range_with_len low n) x → A ⊎ (B ⊎ (mark ≤ x))
    new_from (inl h) = inl h
    new_from {x = x} (inr h) = inr (inr (All-contains (λ slot. mark ≤ slot) (range_with_len low n) x (range_from low n mark l) h))

-- what is written by a variable address are bits of the whole memory
pub all_bits : (signal : Signal) (address : Expression) (part : Part) (index : Expression) → is_constant address ≡ false → target_bits (WordPartOf signal address part index) ≡ bits_of_signal signal
all_bits signal address part index e =
    let w = word_selecting signal address in
    part_variable signal address part index (both_fixed (is_constant address) (is_constant index) false e) ∙ w.varied e

pub nothing_placed : (a : BitList) (k : ℕ) (vs : BitList) → write_places a (replicate k None) vs ≡ a
nothing_placed a zero vs = refl
nothing_placed a (suc k) [] = refl
nothing_placed a (suc k) (v ∷ vs) = nothing_placed a k vs

-- ---- by a variable address and a constant index: the columns of the part

abbrev pub word_writer_kernel : Signal → Bool → AnyKernel
word_writer_kernel signal s = K.Select (S.WriteWord (record { range = addresses signal; signed = s }))

pub word_operator : (signal : Signal) (s : Bool) (n : ℕ) (a x v : BitList) → operator_of (word_writer_kernel signal s) n (a ∷ x ∷ v ∷ []) ≡ write_places a (spread (length v) (address_place signal s x)) v
word_operator signal s n a x v = refl

-- the write of a word of the memory of the columns
abbrev pub index_places : Part → Expression → State → List (Option ℕ)
index_places part index state = places part (sign index) (own_value index state)

abbrev columns_after : Signal → Expression → State → State → List (Option ℕ) → BitList → BitList
columns_after signal address state base ps vs = write_places (map base (column_bits signal ps)) (spread (length (those_there ps vs)) (address_place signal (sign address) (own_value address state))) (those_there ps vs)

column_values : PartsOfWord → PartsOfNone → (signal : Signal) (address : Expression) (part : Part) (index : Expression) (state base : State) (vs : BitList) (b : ℕ) → range_length part.range ≡ word_length signal → length vs ≡ part.width
    → write_all base (pair_up (map Some (column_bits signal (index_places part index state))) (columns_after signal address state base (index_places part index state) vs)) b ≡ write_all base (target_writes (WordPartOf signal address part index) vs state) b
unfolding write_all
column_values law none signal address part index state base vs b r l = at (address_place signal (sign address) (own_value address state)) refl
  where
    ps : List (Option ℕ)
    ps = places part (sign index) (own_value index state)

    vt : BitList
    vt = those_there ps vs

    cols : List ℕ
    cols = column_bits signal ps

    alike : length ps ≡ length vs
    alike = L.length_places part (sign index) (own_value index state) ∙ sym l

    within : All (IsWithin (word_length signal)) ps
    within = subst (λ (k : ℕ). All (IsWithin k) ps) r (places_within part (sign index) (own_value index state))

    at : (o : Option ℕ) → address_place signal (sign address) (own_value address state) ≡ o
        → write_all base (pair_up (map Some cols) (write_places (map base cols) (spread (length vt) (address_place signal (sign address) (own_value address state))) vt)) b ≡ write_all base (target_writes (WordPartOf signal address part index) vs state) b
    at None e =
        ap (λ (o : Option ℕ). write_all base (pair_up (map Some cols) (write_places (map base cols) (spread (length vt) o) vt)) b) e
        ∙ ap (λ (a : BitList). write_all base (pair_up (map Some cols) a) b) (nothing_placed (map base cols) (length vt) vt)
        ∙ written_as cols base base b (λ out. refl)
        ∙ ap (λ (ws : List Write). write_all base ws b) (sym (nowhere none signal address part index state vs e))
    at (Some n) e =
        let less = place_less signal (sign address) (own_value address state) n e in
        let first = signal.first + n * word_length signal in
        ap (λ (o : Option ℕ). write_all base (pair_up (map Some cols) (write_places (map base cols) (spread (length vt) o) vt)) b) e
        ∙ column_written signal ps within base (length vt) (λ m. there_long (signal.first + m * word_length signal) ps vs alike) vt refl 0 n (range_length (addresses signal)) b less
        ∙ ap (λ (m : ℕ). write_all base (pair_up (map Some (bits_there (signal.first + m * word_length signal) ps)) vt) b) (zero-add n)
        ∙ ap (λ (ws : List Write). write_all base ws b)
        (pair_there first ps vs ∙ ap (λ (qs : List (Option ℕ)). pair_up qs vs) (sym (law signal (sign address) (own_value address state) part (sign index) (own_value index state) n r e)))

-- what the write of columns needs
pub record IsColumned (env : List ℕ) (code : Coding) (signal : Signal) (address : Expression) (part : Part) (index : Expression) (ta ti tv : List ℕ) : Type 0 where
  pub fit : fits_target (WordPartOf signal address part index) ≡ true
  pub room : HasRoom env code (write_weight (WordPartOf signal address part index))
  pub inside : signal.first + signal_length signal ≤ length env
  pub address_below : All (λ slot. slot < code.next) ta
  pub value_below : All (λ slot. slot < code.next) tv
  pub long : length tv ≡ part.width
  pub variable : AreConstant ta → ⊥
  pub fixed : AreConstant ti
  pub addressed : IsIndex address ta
  pub indexed : IsIndex index ti

module _ (env : List ℕ) (code : Coding) (signal : Signal) (address : Expression) (part : Part) (index : Expression) (ta ti tv : List ℕ) (o : IsColumned env code signal address part index ta ti tv) where
  abbrev pub taken : List (Option ℕ)
  taken = places part (sign index) (constant_bits ti)

  abbrev pub put : List ℕ
  put = those_there (places part (sign index) (constant_bits ti)) tv

  abbrev pub stored : List ℕ
  stored = column_bits signal (places part (sign index) (constant_bits ti))

  range_is : range_length part.range ≡ word_length signal
  range_is = (fit_word_part signal address part index o.fit).range

  varies : is_constant address ≡ false
  varies = not_true (is_constant address) (λ h. o.variable (o.addressed.constant h))

  places_long : length taken ≡ length tv
  places_long = L.length_places part (sign index) (constant_bits ti) ∙ sym o.long

  are_within : All (IsWithin (word_length signal)) taken
  are_within = subst (λ (k : ℕ). All (IsWithin k) taken) range_is (places_within part (sign index) (constant_bits ti))

  pub stored_long : length stored ≡ range_length (addresses signal) * length put
  stored_long = columns_long signal taken (length put) 0 (range_length (addresses signal)) (λ m. there_long (signal.first + m * word_length signal) taken tv places_long)

  in_memory : (b : ℕ) → contains stored b ≡ true → contains (bits_of_signal signal) b ≡ true
  in_memory b c = columns_in signal taken are_within 0 (range_length (addresses signal)) b (omega arith) c

  pub stored_inside : All (λ b. b < length env) stored
  stored_inside = all_of (λ b. b < length env) stored (λ b c. below_in b (in_memory b c))
    where
      below_in : (b : ℕ) → contains (bits_of_signal signal) b ≡ true → b < length env
      below_in b c = in_all (λ n. n < length env) (bits_of_signal signal) b (all_run signal.first (signal_length signal) (length env) o.inside) c

  product : (d k n : ℕ) → k ≤ n → d * k ≤ d * n
  product d k n h = grind arith

  pub few_stored : length stored ≤ signal_length signal
  few_stored =
      let few = few_places signal.first part (sign index) (constant_bits ti) in
      let k = there_long signal.first taken tv places_long in
      let d = range_length (addresses signal) in
      omega (arith, stored_long, memory_long signal, product d (length put) (word_length signal) (omega (arith, few, k, range_is)))

  address_pays : signal_length signal ≤ write_weight (WordPartOf signal address part index)
  address_pays =
      let f = fit_word_part signal address part index o.fit in
      let is : write_weight (WordPartOf signal address part index) ≡ address_weight signal (width address) + (if is_constant index then 0 else part.width * (range_length part.range * (width index + 1))) =
      ap (λ (b : Bool). (if b then 0 else address_weight signal (width address)) + (if is_constant index then 0 else part.width * (range_length part.range * (width index + 1)))) varies in
      omega (arith, is, word_pays signal (width address) f.address_some)

  abbrev column_args : List (List ℕ)
  column_args = picked env (column_bits signal (places part (sign index) (constant_bits ti))) ∷ ta ∷ those_there (places part (sign index) (constant_bits ti)) tv ∷ []

  abbrev column_call : Call
  column_call = fresh_call (word_writer_kernel signal (sign address)) column_args code.next (length stored)

  args_below : All (λ to. All (λ slot. slot < code.next) to) column_args
  args_below =
      let P : List ℕ → Type 0 = λ to. All (λ slot. slot < code.next) to in
      let under : P (picked env stored) = All-map (λ slot. slot < code.next) (slice_index env) stored (All-weaker (λ b. b < length env) (λ b. slice_index env b < code.next) (λ b l. o.room.is_env.below b 0 l) stored stored_inside) in
      All-cons P (picked env stored) (ta ∷ put ∷ []) under (All-cons P ta (put ∷ []) o.address_below (All-cons P put [] (all_there (λ slot. slot < code.next) taken tv o.value_below) (All-nil P)))

  pub columns_callable : 1 ≤ length put → IsCallable code (word_writer_kernel signal (sign address)) (picked env stored ∷ ta ∷ put ∷ []) (length stored)
  columns_callable some =
      let f = fit_word_part signal address part index o.fit in
      let n = length stored in
      let wide : length (picked env stored) ≡ n = length-map stored (slice_index env) in
      let same : (n ∷ width address ∷ length put ∷ n ∷ []) ≡ (length (picked env stored) ∷ length ta ∷ length put ∷ n ∷ []) =
      ap (λ (k : ℕ). k ∷ width address ∷ length put ∷ n ∷ []) (sym wide) ∙ ap (λ (k : ℕ). length (picked env stored) ∷ k ∷ length put ∷ n ∷ []) (sym o.addressed.long) in
      let Q : ℕ → Type 0 = λ k. k < 2 ^ 32 in
      let short : n < 2 ^ 32 = omega (arith, o.room.slots, address_pays, few_stored) in
      let few = few_places signal.first part (sign index) (constant_bits ti) in
      let k = there_long signal.first taken tv places_long in
      let put_short : length put < 2 ^ 32 = omega (arith, k, few, range_is, word_small, o.room.slots, address_pays) in
      let shorts : All Q (n ∷ width address ∷ length put ∷ n ∷ []) =
      All-cons Q n (width address ∷ length put ∷ n ∷ []) short (All-cons Q (width address) (length put ∷ n ∷ []) (omega (arith, f.address_most)) (All-cons Q (length put) (n ∷ []) put_short (All-cons Q n [] short (All-nil Q)))) in
      let cost : call_cost column_call ≡ n = length-range_with_len code.next n in
      record {
        is = is_fresh_call (word_writer_kernel signal (sign address)) column_args code.next n
            (subst (λ ls. takes (word_writer_kernel signal (sign address)) ls ≡ true) same (part_takes n (range_length (addresses signal) * length put) (width address) (length put) stored_long f.address_some some))
            (subst (All Q) same shorts) (omega arith) (omega (arith, o.room.slots, address_pays, few_stored)) args_below;
        slots = omega (arith, o.room.slots, address_pays, few_stored);
        few = omega (arith, o.room.few, address_pays, few_stored, cost);
      }
    where
      word_small : word_length signal ≤ signal_length signal
      word_small = omega (arith, memory_long signal, some_times (range_length (addresses signal)) (word_length signal) (range_is_some (addresses signal)))
        where
          some_times : (d k : ℕ) → 1 ≤ d → k ≤ d * k
          some_times d k h = grind arith

  module _ (law : ValueLength) (words : PartsOfWord) (none : PartsOfNone) where
    -- what a lane has in the new slots
    column_is : (before after : C.State) (state base : State) → Holds env before base → vectors before ((ta ++ ti) ∷ []) ≡ index_values (WordPartOf signal address part index) state → C.AreCalled (column_call ∷ []) before after
        → (b : ℕ) → write_all base (pair_up (map Some stored) (map after (range_with_len code.next (length stored)))) b ≡ write_all base (target_writes (WordPartOf signal address part index) (map before tv) state) b
    column_is before after state base h is called b =
        let done = one_called column_call before after called in
        let known = known_parts law before state address index ta ti o.addressed.long is in
        let index_is : constant_bits ti ≡ own_value index state = sym (bits_are before ti h.constants o.fixed) ∙ known.1 in
        let vs = map before tv in
        let V : BitList → BitList → BitList = λ a v. write_places a (spread (length v) (address_place signal (sign address) (own_value address state))) v in
        let value_is : map after (range_with_len code.next (length stored)) ≡ V (map base stored) (those_there taken vs) =
        done.value
        ∙ word_operator signal (sign address) (length (range_with_len code.next (length stored))) (map before (picked env stored)) (map before ta) (map before put)
        ∙ ap (λ (x : BitList). write_places (map before (picked env stored)) (spread (length (map before put)) (address_place signal (sign address) x)) (map before put)) known.0
        ∙ ap (λ (a : BitList). V a (map before put)) (picked_are env before base stored stored_inside h)
        ∙ ap (V (map base stored)) (map_there before taken tv) in
        ap (λ (x : BitList). write_all base (pair_up (map Some stored) x) b) value_is
        ∙ ap (λ (x : BitList). write_all base (pair_up (map Some (column_bits signal (places part (sign index) x))) (V (map base (column_bits signal (places part (sign index) x))) (those_there (places part (sign index) x) vs))) b) index_is
        ∙ column_values words none signal address part index state base vs b range_is (length-map tv before ∙ o.long)

    pub columns_add : (env_after : List ℕ) (after : Coding) → 1 ≤ length put
        → after ≡ with_call code (word_writer_kernel signal (sign address)) (picked env stored ∷ ta ∷ put ∷ []) (length stored)
        → env_after ≡ placed env (map Some stored) (range_with_len code.next (length stored))
        → AddsWrites env env_after code after (WordPartOf signal address part index) ((ta ++ ti) ∷ []) tv (write_weight (WordPartOf signal address part index))
    columns_add env_after after some call is =
        let target = WordPartOf signal address part index in
        let most = write_weight target in
        let n = length stored in
        let can = columns_callable some in
        let cost : call_cost column_call ≡ n = length-range_with_len code.next n in
        let added = added_call (word_writer_kernel signal (sign address)) column_args code.next n most can.is args_below (omega (arith, cost)) (omega (arith, cost, few_stored, address_pays)) in
        let out = λ (b : ℕ) (h : contains (target_bits target) b ≡ false).
        not_true (contains stored b) (λ c. true≢false (sym (in_memory b c) ∙ ap (λ (bs : List ℕ). contains bs b) (sym (all_bits signal address part index varies)) ∙ h)) in
        let written = renewed env code.next target ((ta ++ ti) ∷ []) tv most (column_call ∷ []) stored code.next n (code.next + n) o.room.is_env added (omega arith) (omega arith) out column_is in
        record {
          calls = column_call ∷ [];
          few = λ h. omega (arith, sum_by-cons call_cost column_call [], cost, few_stored, memory_bits signal address part index varies, weight_varied signal address part index 0 varies, memory_long signal, words_pay (range_length (addresses signal)) (width address) (word_length signal));
          is = ap (λ (x : Coding). x.calls) call;
          written = subst (λ (m : ℕ). IsWritten env code.next target ((ta ++ ti) ∷ []) tv most (column_call ∷ []) env_after m) (sym (ap (λ (x : Coding). x.next) call))
              (subst (λ (x : List ℕ). IsWritten env code.next target ((ta ++ ti) ∷ []) tv most (column_call ∷ []) x (code.next + n)) (sym is) written);
        }

    -- where nothing of the part is in the word, nothing is written
    pub no_columns_add : those_there (places part (sign index) (constant_bits ti)) tv ≡ [] → AddsWrites env env code code (WordPartOf signal address part index) ((ta ++ ti) ∷ []) tv (write_weight (WordPartOf signal address part index))
    no_columns_add gone =
        nothing_added env code signal address part index ((ta ++ ti) ∷ []) tv o.room.is_env o.fit (λ before state base h is.
        let known = known_parts law before state address index ta ti o.addressed.long is in
        let index_is : constant_bits ti ≡ own_value index state = sym (bits_are before ti h.constants o.fixed) ∙ known.1 in
        let left : those_there (places part (sign index) (own_value index state)) (map before tv) ≡ [] =
        ap (λ (x : BitList). those_there (places part (sign index) x) (map before tv)) (sym index_is) ∙ sym (map_there before taken tv) ∙ ap (λ (xs : List ℕ). map before xs) gone in
        none_left state (map before tv) left (address_place signal (sign address) (own_value address state)) refl)
      where
        no_values : (ps : List ℕ) → pair_up (map Some ps) [] ≡ []
        no_values [] = refl
        no_values (p ∷ ps) = refl

        none_left : (state : State) (vs : BitList) → those_there (places part (sign index) (own_value index state)) vs ≡ [] → (p : Option ℕ) → address_place signal (sign address) (own_value address state) ≡ p
            → target_writes (WordPartOf signal address part index) vs state ≡ []
        none_left state vs left None e = nowhere none signal address part index state vs e
        none_left state vs left (Some n) e =
            let first = signal.first + n * word_length signal in
            let ps = places part (sign index) (own_value index state) in
            ap (λ (qs : List (Option ℕ)). pair_up qs vs) (words signal (sign address) (own_value address state) part (sign index) (own_value index state) n range_is e)
            ∙ sym (pair_there first ps vs)
            ∙ ap (pair_up (map Some (bits_there first ps))) left
            ∙ no_values (bits_there first ps)

-- ---- by a variable address and a variable index: the word is read, changed and written

pick_run : {A : Type 0} (other : A) (f : ℕ → A) (first len m k : ℕ) → m + k ≤ len → map (at_place other (map f (count_from first len))) (map Some (count_from m k)) ≡ map f (count_from (first + m) k)
pick_run other f first len m zero h = refl
pick_run {A} other f first len m (suc k) h =
    let z : first + suc m ≡ suc (first + m) = omega arith in
    ap {B = List A} (λ x. x ∷ map (at_place other (map f (count_from first len))) (map Some (count_from (suc m) k))) (one first len m (omega arith))
    ∙ ap {B = List A} (λ xs. f (first + m) ∷ xs) (pick_run other f first len (suc m) k (omega arith))
    ∙ ap {B = List A} (λ n. f (first + m) ∷ map f (count_from n k)) z
  where
    one : (first len m : ℕ) → m < len → get_or (map f (count_from first len)) m other ≡ f (first + m)
    one first zero m h = absurd (omega arith)
    one first (suc len) zero h = let z : first ≡ first + 0 = omega arith in ap f z
    one first (suc len) (suc m) h = let z : suc first + m ≡ first + suc m = omega arith in one (suc first) len m (omega arith) ∙ ap f z

-- a word that is changed and written again
abbrev pub word_changed : Signal → Expression → State → State → List (Option ℕ) → BitList → BitList
word_changed signal address state base ps vs = write_places (select_word signal (sign address) (map base (bits_of_signal signal)) (own_value address state)) ps vs

abbrev pub memory_after : Signal → Expression → State → State → BitList → BitList
memory_after signal address state base v = write_places (map base (bits_of_signal signal)) (spread (length v) (address_place signal (sign address) (own_value address state))) v

pub changed_values : PartsOfWord → PartsOfNone → (signal : Signal) (address : Expression) (part : Part) (index : Expression) (state base : State) (vs : BitList) (b : ℕ) → range_length part.range ≡ word_length signal
    → write_all base (pair_up (map Some (bits_of_signal signal)) (memory_after signal address state base (word_changed signal address state base (index_places part index state) vs))) b ≡ write_all base (target_writes (WordPartOf signal address part index) vs state) b
unfolding write_all
changed_values law none signal address part index state base vs b r = at (address_place signal (sign address) (own_value address state)) refl
  where
    k : ℕ
    k = word_length signal

    bits : List ℕ
    bits = bits_of_signal signal

    ps : List (Option ℕ)
    ps = places part (sign index) (own_value index state)

    word : BitList
    word = select_word signal (sign address) (map base bits) (own_value address state)

    v : BitList
    v = write_places word ps vs

    long : length v ≡ word_length signal
    long = length_places word ps vs ∙ length_select_word signal (sign address) (own_value address state) (map base bits)

    within : All (IsWithin (word_length signal)) ps
    within = subst (λ (n : ℕ). All (IsWithin n) ps) r (places_within part (sign index) (own_value index state))

    at : (o : Option ℕ) → address_place signal (sign address) (own_value address state) ≡ o
        → write_all base (pair_up (map Some bits) (write_places (map base bits) (spread (length v) (address_place signal (sign address) (own_value address state))) v)) b ≡ write_all base (target_writes (WordPartOf signal address part index) vs state) b
    at None e =
        ap (λ (o : Option ℕ). write_all base (pair_up (map Some bits) (write_places (map base bits) (spread (length v) o) v)) b) e
        ∙ ap (λ (a : BitList). write_all base (pair_up (map Some bits) a) b) (nothing_placed (map base bits) (length v) v)
        ∙ written_as bits base base b (λ out. refl)
        ∙ ap (λ (ws : List Write). write_all base ws b) (sym (nowhere none signal address part index state vs e))
    at (Some n) e =
        let less = place_less signal (sign address) (own_value address state) n e in
        let first = signal.first + n * word_length signal in
        let word_is : word ≡ map base (count_from first (word_length signal)) =
        ap (λ (o : Option ℕ). map (at_place X (map base bits)) (spread (word_length signal) o)) e ∙ pick_run X base signal.first (signal_length signal) (n * word_length signal) (word_length signal) (word_ends signal n less) in
        ap (λ (o : Option ℕ). write_all base (pair_up (map Some bits) (write_places (map base bits) (spread (length v) o) v)) b) e
        ∙ ap (λ (j : ℕ). write_all base (pair_up (map Some bits) (write_places (map base bits) (spread j (Some n)) v)) b) long
        ∙ sym (select_writes signal.first (signal_length signal) (spread (word_length signal) (Some n)) v base b (word_within signal (Some n) less))
        ∙ ap (λ (qs : List (Option ℕ)). write_all base (pair_up qs v) b) (run_from signal.first (n * word_length signal) (word_length signal))
        ∙ ap (λ (w : BitList). write_all base (pair_up (map Some (count_from first (word_length signal))) (write_places w ps vs)) b) word_is
        ∙ sym (select_writes first (word_length signal) ps vs base b within)
        ∙ ap (λ (qs : List (Option ℕ)). write_all base (pair_up qs vs) b) (sym (law signal (sign address) (own_value address state) part (sign index) (own_value index state) n r e))

read_takes : (n m i k : ℕ) → n ≡ m → 1 ≤ i → 1 ≤ k → (n == m && nat_le 1 i && nat_le 1 k) ≡ true
read_takes n m i k e h l = grind arith

take_front : (n : ℕ) (xs ys : List ℕ) → length xs ≡ n → take n (xs ++ ys) ≡ xs
take_front zero [] ys e = refl
take_front zero (x ∷ xs) ys e = absurd (omega (arith, e))
take_front (suc n) [] ys e = absurd (omega (arith, e))
take_front (suc n) (x ∷ xs) ys e = ap (λ (zs : List ℕ). x ∷ zs) (take_front n xs ys (omega (arith, e)))

drop_front : (n : ℕ) (xs ys : List ℕ) → length xs ≡ n → drop n (xs ++ ys) ≡ ys
drop_front zero [] ys e = refl
drop_front zero (x ∷ xs) ys e = absurd (omega (arith, e))
drop_front (suc n) [] ys e = absurd (omega (arith, e))
drop_front (suc n) (x ∷ xs) ys e = drop_front n xs ys (omega (arith, e))

-- what the three calls need
pub record IsVaried (env : List ℕ) (code : Coding) (signal : Signal) (address : Expression) (part : Part) (index : Expression) (ta ti tv : List ℕ) : Type 0 where
  pub fit : fits_target (WordPartOf signal address part index) ≡ true
  pub room : HasRoom env code (write_weight (WordPartOf signal address part index))
  pub inside : signal.first + signal_length signal ≤ length env
  pub address_below : All (λ slot. slot < code.next) ta
  pub index_below : All (λ slot. slot < code.next) ti
  pub value_below : All (λ slot. slot < code.next) tv
  pub long : length tv ≡ part.width
  pub variable : AreConstant ta → ⊥
  pub index_variable : AreConstant ti → ⊥
  pub addressed : IsIndex address ta
  pub indexed : IsIndex index ti

module _ (env : List ℕ) (code : Coding) (signal : Signal) (address : Expression) (part : Part) (index : Expression) (ta ti tv : List ℕ) (o : IsVaried env code signal address part index ta ti tv) where
  abbrev word : List ℕ
  word = range_with_len code.next (word_length signal)

  abbrev changed : List ℕ
  changed = range_with_len (code.next + word_length signal) (word_length signal)

  abbrev under : List ℕ
  under = picked env (bits_of_signal signal)

  abbrev change : AnyKernel
  change = K.Select (S.Write (selection part (sign index)))

  abbrev pub after_read : Coding
  after_read = with_call code (word_kernel signal (sign address)) (picked env (bits_of_signal signal) ∷ ta ∷ []) (word_length signal)

  abbrev pub after_change : Coding
  after_change = with_call after_read change (range_with_len code.next (word_length signal) ∷ ti ∷ tv ∷ []) (word_length signal)

  -- the calls of the word read, and changed
  abbrev pub change_calls : List Call
  change_calls =
      fresh_call (word_kernel signal (sign address)) (picked env (bits_of_signal signal) ∷ ta ∷ []) code.next (word_length signal)
      ∷ fresh_call change (range_with_len code.next (word_length signal) ∷ ti ∷ tv ∷ []) (code.next + word_length signal) (word_length signal) ∷ []

  abbrev read_call : Call
  read_call = fresh_call (word_kernel signal (sign address)) (picked env (bits_of_signal signal) ∷ ta ∷ []) code.next (word_length signal)

  abbrev change_call : Call
  change_call = fresh_call change (range_with_len code.next (word_length signal) ∷ ti ∷ tv ∷ []) (code.next + word_length signal) (word_length signal)

  abbrev store_call : Call
  store_call = fresh_call (word_writer_kernel signal (sign address)) (under ∷ ta ∷ changed ∷ []) ((code.next + word_length signal) + word_length signal) (signal_length signal)

  pub fit_is : IsFitWordPart signal address part index
  fit_is = fit_word_part signal address part index o.fit

  pub address_varies : is_constant address ≡ false
  address_varies = not_true (is_constant address) (λ h. o.variable (o.addressed.constant h))

  index_varies : is_constant index ≡ false
  index_varies = not_true (is_constant index) (λ h. o.index_variable (o.indexed.constant h))

  pub some_word : 1 ≤ word_length signal
  some_word = omega (arith, fit_is.range, range_is_some part.range)

  memory_some : (d k : ℕ) → 1 ≤ d → k ≤ d * k
  memory_some d k h = grind arith

  word_small : word_length signal ≤ signal_length signal
  word_small = omega (arith, memory_long signal, memory_some (range_length (addresses signal)) (word_length signal) (range_is_some (addresses signal)))

  twice_pays : (d i k : ℕ) → 2 * (d * k) ≤ 2 * (d * (i + k))
  twice_pays d i k = grind arith

  change_pays : (p n i : ℕ) → 1 ≤ p → 1 ≤ i → 2 * n ≤ p * (n * (i + 1))
  change_pays p n i h l = grind arith

  -- the weight has room for all three
  pub total : (word_length signal + signal_length signal) + (word_length signal + signal_length signal) ≤ write_weight (WordPartOf signal address part index)
  total =
      let d = range_length (addresses signal) in
      let is : write_weight (WordPartOf signal address part index) ≡ address_weight signal (width address) + part.width * (range_length part.range * (width index + 1)) =
      ap (λ (b : Bool). (if b then 0 else address_weight signal (width address)) + (if is_constant index then 0 else part.width * (range_length part.range * (width index + 1)))) address_varies
      ∙ ap (λ (b : Bool). address_weight signal (width address) + (if b then 0 else part.width * (range_length part.range * (width index + 1)))) index_varies in
      omega (arith, is, memory_long signal, twice_pays d (width address) (word_length signal), change_pays part.width (range_length part.range) (width index) fit_is.some fit_is.index_some, fit_is.range)

  varied_front : AreConstant (take (width address) (ta ++ ti)) → ⊥
  varied_front h = o.variable (subst AreConstant (take_front (width address) ta ti o.addressed.long) h)

  varied_back : AreConstant (drop (width address) (ta ++ ti)) → ⊥
  varied_back h = o.index_variable (subst AreConstant (drop_front (width address) ta ti o.addressed.long) h)

  pub bits_inside : All (λ b. b < length env) (bits_of_signal signal)
  bits_inside = all_run signal.first (signal_length signal) (length env) o.inside

  more_below : (m n : ℕ) (xs : List ℕ) → m ≤ n → All (λ slot. slot < m) xs → All (λ slot. slot < n) xs
  more_below m n xs l h = All-weaker (λ slot. slot < m) (λ slot. slot < n) (λ slot k. omega arith) xs h

  pub under_below : All (λ slot. slot < code.next) under
  under_below = All-map (λ slot. slot < code.next) (slice_index env) (bits_of_signal signal) (All-weaker (λ b. b < length env) (λ b. slice_index env b < code.next) (λ b l. o.room.is_env.below b 0 l) (bits_of_signal signal) bits_inside)

  pub under_long : length under ≡ signal_length signal
  under_long = length-map (bits_of_signal signal) (slice_index env) ∙ length_count signal.first (signal_length signal)

  read_below : All (λ to. All (λ slot. slot < code.next) to) (under ∷ ta ∷ [])
  read_below =
      let P : List ℕ → Type 0 = λ to. All (λ slot. slot < code.next) to in
      All-cons P under (ta ∷ []) under_below (All-cons P ta [] o.address_below (All-nil P))

  change_below : All (λ to. All (λ slot. slot < after_read.next) to) (word ∷ ti ∷ tv ∷ [])
  change_below =
      let n = code.next + word_length signal in
      let P : List ℕ → Type 0 = λ to. All (λ slot. slot < n) to in
      All-cons P word (ti ∷ tv ∷ []) (range_below code.next (word_length signal) n (omega arith))
      (All-cons P ti (tv ∷ []) (more_below code.next n ti (omega arith) o.index_below) (All-cons P tv [] (more_below code.next n tv (omega arith) o.value_below) (All-nil P)))

  store_below : All (λ to. All (λ slot. slot < after_change.next) to) (under ∷ ta ∷ changed ∷ [])
  store_below =
      let m = code.next + word_length signal in
      let n = m + word_length signal in
      let P : List ℕ → Type 0 = λ to. All (λ slot. slot < n) to in
      All-cons P under (ta ∷ changed ∷ []) (more_below code.next n under (omega arith) under_below)
      (All-cons P ta (changed ∷ []) (more_below code.next n ta (omega arith) o.address_below) (All-cons P changed [] (range_below m (word_length signal) n (omega arith)) (All-nil P)))

  read_cost : call_cost read_call ≡ word_length signal + signal_length signal
  read_cost = word_cost env signal (sign address) ta code.next

  change_cost : call_cost change_call ≡ word_length signal
  change_cost = length-range_with_len (code.next + word_length signal) (word_length signal)

  store_cost : call_cost store_call ≡ signal_length signal
  store_cost = length-range_with_len ((code.next + word_length signal) + word_length signal) (signal_length signal)

  read_stores : length_of after_read.calls ≡ length_of code.calls + (word_length signal + signal_length signal)
  read_stores =
      let one : length_of (read_call ∷ []) ≡ call_cost read_call = sum_by-cons call_cost read_call [] ∙ omega arith in
      omega (arith, stores_of code.calls (read_call ∷ []) after_read.calls refl, one, read_cost)

  pub change_stores : length_of after_change.calls ≡ length_of code.calls + ((word_length signal + signal_length signal) + word_length signal)
  change_stores =
      let one : length_of (change_call ∷ []) ≡ call_cost change_call = sum_by-cons call_cost change_call [] ∙ omega arith in
      omega (arith, stores_of after_read.calls (change_call ∷ []) after_change.calls refl, one, change_cost, read_stores)

  pub read_callable : IsCallable code (word_kernel signal (sign address)) (picked env (bits_of_signal signal) ∷ ta ∷ []) (word_length signal)
  read_callable =
      let n = signal_length signal in
      let k = word_length signal in
      let same : (n ∷ width address ∷ k ∷ []) ≡ (length under ∷ length ta ∷ k ∷ []) = ap (λ (m : ℕ). m ∷ width address ∷ k ∷ []) (sym under_long) ∙ ap (λ (m : ℕ). length under ∷ m ∷ k ∷ []) (sym o.addressed.long) in
      let Q : ℕ → Type 0 = λ m. m < 2 ^ 32 in
      let shorts : All Q (n ∷ width address ∷ k ∷ []) = All-cons Q n (width address ∷ k ∷ []) (omega (arith, o.room.slots, total)) (All-cons Q (width address) (k ∷ []) (omega (arith, fit_is.address_most)) (All-cons Q k [] (omega (arith, o.room.slots, total)) (All-nil Q))) in
      record {
        is = is_fresh_call (word_kernel signal (sign address)) (under ∷ ta ∷ []) code.next k
            (subst (λ ls. takes (word_kernel signal (sign address)) ls ≡ true) same (read_takes n (range_length (addresses signal) * k) (width address) k (memory_long signal) fit_is.address_some some_word))
            (subst (All Q) same shorts) (omega arith) (omega (arith, o.room.slots, total)) read_below;
        slots = omega (arith, o.room.slots, total);
        few = omega (arith, o.room.few, total, read_cost);
      }

  pub change_callable : IsCallable after_read change (range_with_len code.next (word_length signal) ∷ ti ∷ tv ∷ []) (word_length signal)
  change_callable =
      let k = word_length signal in
      let long = length-range_with_len code.next k in
      let same : (k ∷ width index ∷ part.width ∷ k ∷ []) ≡ (length word ∷ length ti ∷ length tv ∷ k ∷ []) =
      ap (λ (m : ℕ). m ∷ width index ∷ part.width ∷ k ∷ []) (sym long) ∙ ap (λ (m : ℕ). length word ∷ m ∷ part.width ∷ k ∷ []) (sym o.indexed.long) ∙ ap (λ (m : ℕ). length word ∷ length ti ∷ m ∷ k ∷ []) (sym o.long) in
      let Q : ℕ → Type 0 = λ m. m < 2 ^ 32 in
      let short : k < 2 ^ 32 = omega (arith, o.room.slots, total) in
      let shorts : All Q (k ∷ width index ∷ part.width ∷ k ∷ []) =
      All-cons Q k (width index ∷ part.width ∷ k ∷ []) short (All-cons Q (width index) (part.width ∷ k ∷ []) (omega (arith, fit_is.index_most)) (All-cons Q part.width (k ∷ []) (omega (arith, fit_is.most)) (All-cons Q k [] short (All-nil Q)))) in
      record {
        is = is_fresh_call change (word ∷ ti ∷ tv ∷ []) (code.next + k) k
            (subst (λ ls. takes change ls ≡ true) same (part_takes k (range_length part.range) (width index) part.width (sym fit_is.range) fit_is.index_some fit_is.some))
            (subst (All Q) same shorts) (omega arith) (omega (arith, o.room.slots, total)) change_below;
        slots = omega (arith, o.room.slots, total);
        few = omega (arith, o.room.few, total, change_cost, read_stores);
      }

  pub store_callable : IsCallable after_change (word_writer_kernel signal (sign address)) (picked env (bits_of_signal signal) ∷ ta ∷ range_with_len (code.next + word_length signal) (word_length signal) ∷ []) (signal_length signal)
  store_callable =
      let n = signal_length signal in
      let k = word_length signal in
      let long = length-range_with_len (code.next + k) k in
      let same : (n ∷ width address ∷ k ∷ n ∷ []) ≡ (length under ∷ length ta ∷ length changed ∷ n ∷ []) =
      ap (λ (m : ℕ). m ∷ width address ∷ k ∷ n ∷ []) (sym under_long) ∙ ap (λ (m : ℕ). length under ∷ m ∷ k ∷ n ∷ []) (sym o.addressed.long) ∙ ap (λ (m : ℕ). length under ∷ length ta ∷ m ∷ n ∷ []) (sym long) in
      let Q : ℕ → Type 0 = λ m. m < 2 ^ 32 in
      let short : n < 2 ^ 32 = omega (arith, o.room.slots, total) in
      let shorts : All Q (n ∷ width address ∷ k ∷ n ∷ []) =
      All-cons Q n (width address ∷ k ∷ n ∷ []) short (All-cons Q (width address) (k ∷ n ∷ []) (omega (arith, fit_is.address_most)) (All-cons Q k (n ∷ []) (omega (arith, o.room.slots, total)) (All-cons Q n [] short (All-nil Q)))) in
      record {
        is = is_fresh_call (word_writer_kernel signal (sign address)) (under ∷ ta ∷ changed ∷ []) ((code.next + k) + k) n
            (subst (λ ls. takes (word_writer_kernel signal (sign address)) ls ≡ true) same (part_takes n (range_length (addresses signal) * k) (width address) k (memory_long signal) fit_is.address_some some_word))
            (subst (All Q) same shorts) (omega arith) (omega (arith, o.room.slots, total)) store_below;
        slots = omega (arith, o.room.slots, total);
        few = omega (arith, o.room.few, total, store_cost, change_stores);
      }

  module _ (law : ValueLength) (words : PartsOfWord) (none : PartsOfNone) where
    read_added : AreAdded code.next (read_call ∷ []) (code.next + word_length signal) (word_length signal + signal_length signal)
    read_added = added_call (word_kernel signal (sign address)) (under ∷ ta ∷ []) code.next (word_length signal) (word_length signal + signal_length signal) read_callable.is read_below (omega (arith, read_cost)) (omega (arith, read_cost))

    change_added : AreAdded (code.next + word_length signal) (change_call ∷ []) ((code.next + word_length signal) + word_length signal) (word_length signal)
    change_added = added_call change (word ∷ ti ∷ tv ∷ []) (code.next + word_length signal) (word_length signal) (word_length signal) change_callable.is change_below (omega (arith, change_cost)) (omega (arith, change_cost))

    store_added : AreAdded ((code.next + word_length signal) + word_length signal) (store_call ∷ []) (((code.next + word_length signal) + word_length signal) + signal_length signal) (signal_length signal)
    store_added =
        added_call (word_writer_kernel signal (sign address)) (under ∷ ta ∷ changed ∷ []) ((code.next + word_length signal) + word_length signal) (signal_length signal) (signal_length signal) store_callable.is store_below (omega (arith, store_cost)) (omega (arith, store_cost))

    pub change_calls_added : AreAdded code.next change_calls ((code.next + word_length signal) + word_length signal) ((word_length signal + signal_length signal) + word_length signal)
    change_calls_added =
        added_more code.next (read_call ∷ []) (code.next + word_length signal) (word_length signal + signal_length signal) (change_call ∷ []) ((code.next + word_length signal) + word_length signal) (word_length signal) read_added change_added

    -- what a lane has in the slots of the changed word
    pub change_is : (before after : C.State) (state base : State) → Holds env before base → vectors before ((ta ++ ti) ∷ []) ≡ index_values (WordPartOf signal address part index) state → C.AreCalled change_calls before after
        → map after changed ≡ word_changed signal address state base (index_places part index state) (map before tv)
    change_is before after state base h is called =
        let bits = bits_of_signal signal in
        let k = word_length signal in
        let g = sign address in
        let p = called_parts (read_call ∷ []) (change_call ∷ []) before after called in
        let m1 = p.0 in
        let known = known_parts law before state address index ta ti o.addressed.long is in
        let stays : (xs : List ℕ) → All (λ slot. slot < code.next) xs → map m1 xs ≡ map before xs = λ xs below. vector_stays (read_call ∷ []) code.next before m1 xs read_added.fresh p.1 below in
        let index_is : map m1 ti ≡ own_value index state = stays ti o.index_below ∙ known.1 in
        let av = own_value address state in
        let iv = own_value index state in
        let W = select_word signal g (map base bits) av in
        let read_is : map m1 word ≡ W =
        (one_called read_call before m1 p.1).value
        ∙ ap (λ (n : ℕ). operator_of (word_kernel signal g) n (map before under ∷ map before ta ∷ [])) (length-range_with_len code.next k)
        ∙ ap (λ (a : BitList). select_word signal g a (map before ta)) (picked_are env before base bits bits_inside h)
        ∙ ap (select_word signal g (map base bits)) known.0 in
        (one_called change_call m1 after p.2).value
        ∙ ap (λ (n : ℕ). write_places (map m1 word) (places (record { range = part.range; up = part.up; width = n }) (sign index) (map m1 ti)) (map m1 tv)) (length-map tv m1 ∙ o.long)
        ∙ ap (λ (a : BitList). write_places a (places part (sign index) (map m1 ti)) (map m1 tv)) read_is
        ∙ ap (λ (x : BitList). write_places W (places part (sign index) x) (map m1 tv)) index_is
        ∙ ap (write_places W (places part (sign index) iv)) (stays tv o.value_below)

    -- what it has in the new slots
    stored_is : (before after : C.State) (state base : State) → Holds env before base → vectors before ((ta ++ ti) ∷ []) ≡ index_values (WordPartOf signal address part index) state → C.AreCalled (read_call ∷ change_call ∷ store_call ∷ []) before after
        → (b : ℕ) → write_all base (pair_up (map Some (bits_of_signal signal)) (map after (range_with_len ((code.next + word_length signal) + word_length signal) (signal_length signal)))) b ≡ write_all base (target_writes (WordPartOf signal address part index) (map before tv) state) b
    stored_is before after state base h is called b =
        let bits = bits_of_signal signal in
        let k = word_length signal in
        let low = (code.next + k) + k in
        let g = sign address in
        let p = called_parts change_calls (store_call ∷ []) before after called in
        let mid = p.0 in
        let known = known_parts law before state address index ta ti o.addressed.long is in
        let held = holds_after env change_calls code.next before mid base o.room.is_env change_calls_added.fresh p.1 h in
        let address_is : map mid ta ≡ own_value address state = vector_stays change_calls code.next before mid ta change_calls_added.fresh p.1 o.address_below ∙ known.0 in
        let vs = map before tv in
        let av = own_value address state in
        let V = word_changed signal address state base (index_places part index state) vs in
        let changed_is : map mid changed ≡ V = change_is before mid state base h is p.1 in
        let value_is : map after (range_with_len low (signal_length signal)) ≡ write_places (map base bits) (spread (length V) (address_place signal g av)) V =
        (one_called store_call mid after p.2).value
        ∙ word_operator signal g (length (range_with_len low (signal_length signal))) (map mid under) (map mid ta) (map mid changed)
        ∙ ap (λ (a : BitList). write_places a (spread (length (map mid changed)) (address_place signal g (map mid ta))) (map mid changed)) (picked_are env mid base bits bits_inside held)
        ∙ ap (λ (x : BitList). write_places (map base bits) (spread (length (map mid changed)) (address_place signal g x)) (map mid changed)) address_is
        ∙ ap (λ (v : BitList). write_places (map base bits) (spread (length v) (address_place signal g av)) v) changed_is in
        ap (λ (x : BitList). write_all base (pair_up (map Some bits) x) b) value_is
        ∙ changed_values words none signal address part index state base vs b fit_is.range

    pub changed_adds : (env_after : List ℕ) (after : Coding)
        → after ≡ with_call after_change (word_writer_kernel signal (sign address)) (picked env (bits_of_signal signal) ∷ ta ∷ range_with_len (code.next + word_length signal) (word_length signal) ∷ []) (signal_length signal)
        → env_after ≡ placed env (map Some (bits_of_signal signal)) (range_with_len ((code.next + word_length signal) + word_length signal) (signal_length signal))
        → AddsWrites env env_after code after (WordPartOf signal address part index) ((ta ++ ti) ∷ []) tv (write_weight (WordPartOf signal address part index))
    changed_adds env_after after call is =
        let target = WordPartOf signal address part index in
        let most = write_weight target in
        let k = word_length signal in
        let n = signal_length signal in
        let calls = read_call ∷ change_call ∷ store_call ∷ [] in
        let low = (code.next + k) + k in
        let all = added_more code.next (read_call ∷ []) (code.next + k) (k + n) (change_call ∷ store_call ∷ []) (low + n) (k + n) read_added (added_more (code.next + k) (change_call ∷ []) low k (store_call ∷ []) (low + n) n change_added store_added) in
        let added = added_within code.next calls (low + n) ((k + n) + (k + n)) most total all in
        let out = λ (b : ℕ) (h : contains (target_bits target) b ≡ false). ap (λ (bs : List ℕ). contains bs b) (sym (all_bits signal address part index address_varies)) ∙ h in
        let written = renewed env code.next target ((ta ++ ti) ∷ []) tv most calls (bits_of_signal signal) low n (low + n) o.room.is_env added (omega arith) (omega arith) out stored_is in
        record {
          calls = calls;
          few = λ h. absurd (h (varied_front, varied_back));
          is = two_added code.calls (read_call ∷ change_call ∷ []) (store_call ∷ []) after_change.calls after.calls (two_added code.calls (read_call ∷ []) (change_call ∷ []) after_read.calls after_change.calls refl refl) (ap (λ (x : Coding). x.calls) call);
          written = subst (λ (m : ℕ). IsWritten env code.next target ((ta ++ ti) ∷ []) tv most calls env_after m) (sym (ap (λ (x : Coding). x.next) call))
              (subst (λ (x : List ℕ). IsWritten env code.next target ((ta ++ ti) ∷ []) tv most calls x (low + n)) (sym is) written);
        }
