-- Targets that are selects, or several.
use Rattle.std.proofs.Common.{◌≡◌, ◌≢◌, ℕ, zero, suc, ◌+◌, ◌<◌, ◌≤◌, Bool, true, false, ◌||◌, ◌==◌, nat_lt, if◌then◌else◌, List, [], ◌∷◌, ◌++◌, map, length, get_or, set, take, drop, slice_index, Some, None, Option, option_map, sym, ap, ◌∙◌, subst, refl, arith, true≢false, inl, inr, ◌⊎◌, get_or-set_other, length-set, eqb-true, eq-eqb, ℤ, pos, negsuc, ne_eqb, replicate}
use Rattle.std.specs.List.{All, Contains, range_with_len}
use Rattle.std.proofs.lemmas.List.{map-append, length-map}
use Rattle.std.proofs.lemmas.List.Elements.{All-nil, All-cons, All-head, All-tail, All-weaker, All-take, All-contains, All-map, All-replicate}
use mathlib.Core.Path.{fun_ext}
use Rattle.vs_four.specs.declared.Bit4.{Bit4}
use Rattle.vs_four.specs.Logic.{BitList, all_known}
use Rattle.vs_four.specs.Numbers.{integer}
use Rattle.vs_four.specs.Selects.{Part, range_length, below, place_of, indices, places, write_places}
use Rattle.vs_net.specs.Network.{State, Write, put, write_all, is_written}
use Rattle.vs_design.specs.Expressions.{Signal, signal_length, Expression, is_constant}
use Rattle.vs_design.specs.Values.{bits_of_signal, count_from, own_value, constant_value}
use Rattle.vs_design.specs.Statements.{Target, Both, target_width}
use Rattle.vs_design.specs.Bodies.{bits_at, pair_up, target_writes}
use Rattle.vs_design.specs.Footprints.{contains, somes, target_bits}
use Rattle.vs_code.specs.Calls as C
use Rattle.vs_code.specs.Calls.{IsCall, call_cost}
use Rattle.vs_code.specs.declared.kernels.AnyKernel.{AnyKernel}
use Rattle.vs_code.specs.Kernels.{operator_of}
use Rattle.vs_values.specs.Added.{IsEnv, Holds, vectors, fresh_call}
use Rattle.vs_values.specs.Constants.{constant_bits, AreConstant}
use Rattle.vs_values.specs.Environments.{placed}
use Rattle.vs_lower.specs.Done.{index_values, IsWritten}
use Rattle.vs_values.proofs.Adding.{called_parts, one_called, added_call, added_none, added_more, holds_after, vectors_stay, vector_stays}
use Rattle.vs_values.proofs.Folding.{bits_are}
use Rattle.vs_values.proofs.Lists.{range_below, range_from}
use Rattle.vs_lower.proofs.Joining.{picked, picked_are}
use Rattle.vs_lower.proofs.Placing.{by_test, placed_all, placed_holds, placed_other, placed_from, put-same, put-other, write_all_at, write_all_covered, write_all-append, written_as}
use Rattle.vs_values.proofs.Environments.{placed_length}

-- ---- by an index in constants' slots

-- bits that are none of those placed keep their slots
placed_none : (env : List ℕ) (ps : List (Option ℕ)) (to : List ℕ) (b : ℕ) → contains (somes ps) b ≡ false → slice_index (placed env ps to) b ≡ slice_index env b
placed_none env [] to b h = refl
placed_none env (p ∷ ps) [] b h = refl
placed_none env (None ∷ ps) (t ∷ ts) b h = placed_none env ps ts b h
placed_none env (Some c ∷ ps) (t ∷ ts) b h =
    by_test (b == c)
    (λ e. absurd (true≢false (sym (ap (λ q. q || contains (somes ps) b) e) ∙ h)))
    (λ e.
    let other : b ≢ c = λ same. true≢false (sym (eq-eqb b c same) ∙ e) in
    placed_none (set env c t) ps ts b (sym (ap (λ q. q || contains (somes ps) b) e) ∙ h) ∙ get_or-set_other env c b t 0 other)

one_list : (x y : BitList) → (x ∷ []) ≡ (y ∷ []) → x ≡ y
one_list x y h = cc

-- a place that is there is below this length
abbrev pub IsWithin : ℕ → Option ℕ → Type 0
IsWithin n None = Unit {0}
IsWithin n (Some q) = q < n

-- a target by an index: by the index's value it has bits of its signal at these places
pub record IsSelecting (target : Target) (signal : Signal) (index : Expression) (at : BitList → List (Option ℕ)) : Type 0 where
  pub writes : (v : BitList) (state : State) → target_writes target v state ≡ pair_up (bits_at signal (at (own_value index state))) v
  pub values : (state : State) → index_values target state ≡ own_value index state ∷ []
  pub fixed : is_constant index ≡ true → target_bits target ≡ somes (bits_at signal (at (constant_value index)))
  pub varied : is_constant index ≡ false → target_bits target ≡ bits_of_signal signal
  pub within : (x : BitList) → All (IsWithin (signal_length signal)) (at x)

pub fixed_written : (env : List ℕ) (mark : ℕ) (target : Target) (signal : Signal) (index : Expression) (at : BitList → List (Option ℕ)) (ti tv : List ℕ) → IsSelecting target signal index at
    → IsEnv env mark → All (λ slot. slot < mark) tv → AreConstant ti
    → ((b : ℕ) → contains (target_bits target) b ≡ false → contains (somes (bits_at signal (at (constant_bits ti)))) b ≡ false)
    → IsWritten env mark target (ti ∷ []) tv 0 [] (placed env (bits_at signal (at (constant_bits ti))) tv) mark
fixed_written env mark target signal index at ti tv q e below fixed within =
    let ps = bits_at signal (at (constant_bits ti)) in
    record {
      added = added_none mark;
      is_env = record { constants = e.constants; below = placed_all (λ slot. slot < mark) env ps tv below e.below };
      same_length = placed_length env ps tv;
      kept = λ b h. placed_none env ps tv b (within b h);
      from = λ b l. from_placed (placed_from env ps tv b l);
      values = λ before after state base h is called.
          let index_is : constant_bits ti ≡ own_value index state = sym (bits_are before ti h.constants fixed) ∙ one_list (map before ti) (own_value index state) (is ∙ q.values state) in
          let writes : pair_up ps (map before tv) ≡ target_writes target (map before tv) state =
          ap (λ (x : BitList). pair_up (bits_at signal (at x)) (map before tv)) index_is ∙ sym (q.writes (map before tv) state) in
          subst (λ (s : C.State). Holds (placed env ps tv) s (write_all base (target_writes target (map before tv) state))) (sym (fun_ext called))
          (subst (λ (ws : List Write). Holds (placed env ps tv) before (write_all base ws)) writes (placed_holds env before base ps tv h));
    }
  where
    from_placed : {A B D : Type 0} → A ⊎ B → A ⊎ (B ⊎ D)
    from_placed (inl h) = inl h
    from_placed (inr h) = inr (inl h)

-- ---- several, the high ones first

pub map_take : {A B : Type 0} (f : A → B) (n : ℕ) (xs : List A) → map f (take n xs) ≡ take n (map f xs)
map_take f zero xs = refl
map_take f (suc n) [] = refl
map_take f (suc n) (x ∷ xs) = ap (λ ys. f x ∷ ys) (map_take f n xs)

pub map_drop : {A B : Type 0} (f : A → B) (n : ℕ) (xs : List A) → map f (drop n xs) ≡ drop n (map f xs)
map_drop f zero xs = refl
map_drop f (suc n) [] = refl
map_drop f (suc n) (x ∷ xs) = map_drop f n xs

pub in_take : (n : ℕ) (xs : List ℕ) (x : ℕ) → Contains (take n xs) x → Contains xs x
in_take n xs x c = All-contains (Contains xs) (take n xs) x (All-take (Contains xs) n xs (λ k d l. (k, l, at xs k d x l))) c
  where
    at : (ys : List ℕ) (k d e : ℕ) → k < length ys → get_or ys k (get_or ys k d) ≡ get_or ys k d
    at [] k d e l = absurd (omega arith)
    at (y ∷ ys) zero d e l = refl
    at (y ∷ ys) (suc k) d e l = other ys k (get_or ys k d) d (omega arith)
      where
        other : (zs : List ℕ) (k e f : ℕ) → k < length zs → get_or zs k e ≡ get_or zs k f
        other [] k e f m = absurd (omega arith)
        other (z ∷ zs) zero e f m = refl
        other (z ∷ zs) (suc k) e f m = other zs k e f (omega arith)

pub split_vectors : (xs ys us vs : List BitList) → length xs ≡ length us → (xs ++ ys) ≡ (us ++ vs) → (xs ≡ us) × (ys ≡ vs)
split_vectors [] ys [] vs l h = (refl, h)
split_vectors [] ys (u ∷ us) vs l h = absurd (omega arith)
split_vectors (x ∷ xs) ys [] vs l h = absurd (omega arith)
split_vectors (x ∷ xs) ys (u ∷ us) vs l h =
    let heads : (x ≡ u) × ((xs ++ ys) ≡ (us ++ vs)) = (cc, cc) in
    let rest = split_vectors xs ys us vs (omega arith) heads.1 in
    (ap (λ (z : BitList). z ∷ xs) heads.0 ∙ ap (λ (zs : List BitList). u ∷ zs) rest.0, rest.1)

neither : (xs ys : List ℕ) (b : ℕ) → contains (xs ++ ys) b ≡ false → (contains xs b ≡ false) × (contains ys b ≡ false)
neither [] ys b h = (refl, h)
neither (x ∷ xs) ys b h =
    by_test (b == x)
    (λ e. absurd (true≢false (sym (ap (λ q. q || contains (xs ++ ys) b) e) ∙ h)))
    (λ e.
    let rest = neither xs ys b (sym (ap (λ q. q || contains (xs ++ ys) b) e) ∙ h) in
    (ap (λ q. q || contains xs b) e ∙ rest.0, rest.1))

pub both_written : (env : List ℕ) (mark : ℕ) (high low : Target) (th tl : List (List ℕ)) (tv : List ℕ) (c : List C.Call) (env1 : List ℕ) (n most : ℕ) (d : List C.Call) (env2 : List ℕ) (p more : ℕ)
    → All (λ slot. slot < mark) tv → All (λ to. All (λ slot. slot < mark) to) tl
    → ((state : State) → length (index_values high state) ≡ length th)
    → IsWritten env mark high th (drop (target_width low) tv) most c env1 n
    → IsWritten env1 n low tl (take (target_width low) tv) more d env2 p
    → ((x : ℕ) → Contains (drop (target_width low) tv) x → Contains tv x)
    → IsWritten env mark (Both high low) (th ++ tl) tv (most + more) (c ++ d) env2 p
both_written env mark high low th tl tv c env1 n most d env2 p more below_v below_l long a b in_drop =
    let k = target_width low in
    record {
      added = added_more mark c n most d p more a.added b.added;
      is_env = b.is_env;
      same_length = b.same_length ∙ a.same_length;
      kept = λ bit h. let q = neither (target_bits high) (target_bits low) bit h in b.kept bit q.1 ∙ a.kept bit q.0;
      from = λ bit l. chain bit (b.from bit (omega (arith, a.same_length))) (a.from bit l);
      values = λ before after state base h is called.
          let parts = called_parts c d before after called in
          let mid = parts.0 in
          let v = map before tv in
          let pieces = split_vectors (vectors before th) (vectors before tl) (index_values high state) (index_values low state) (length-map th (λ to. map before to) ∙ sym (long state)) (sym (map-append (λ to. map before to) th tl) ∙ is) in
          let first = a.values before mid state base h pieces.0 parts.1 in
          let high_v : map before (drop k tv) ≡ drop k v = map_drop before k tv in
          let low_v : map mid (take k tv) ≡ take k v = map_take mid k tv ∙ ap (take k) (vector_stays c mark before mid tv a.added.fresh parts.1 below_v) in
          let tl_is : vectors mid tl ≡ index_values low state = vectors_stay c mark before mid tl a.added.fresh parts.1 below_l ∙ pieces.1 in
          let second = b.values mid after state (write_all base (target_writes high (map before (drop k tv)) state)) first tl_is parts.2 in
          subst (λ (s : State). Holds env2 after s)
          (ap (λ (x : BitList). write_all (write_all base (target_writes high x state)) (target_writes low (map mid (take k tv)) state)) high_v
          ∙ ap (λ (x : BitList). write_all (write_all base (target_writes high (drop k v) state)) (target_writes low x state)) low_v
          ∙ sym (write_all-append (target_writes high (drop k v) state) (target_writes low (take k v) state) base))
          second;
    }
  where
    up : (bit x : ℕ) → (x ≡ slice_index env1 bit) → (slice_index env1 bit ≡ slice_index env bit) ⊎ (Contains (drop (target_width low) tv) (slice_index env1 bit) ⊎ (mark ≤ slice_index env1 bit)) → (x ≡ slice_index env bit) ⊎ (Contains tv x ⊎ (mark ≤ x))
    up bit x e (inl h) = inl (e ∙ h)
    up bit x e (inr (inl h)) = inr (inl (in_drop x (subst (λ y. Contains (drop (target_width low) tv) y) (sym e) h)))
    up bit x e (inr (inr h)) = inr (inr (omega arith))

    chain : (bit : ℕ) → (slice_index env2 bit ≡ slice_index env1 bit) ⊎ (Contains (take (target_width low) tv) (slice_index env2 bit) ⊎ (n ≤ slice_index env2 bit))
        → (slice_index env1 bit ≡ slice_index env bit) ⊎ (Contains (drop (target_width low) tv) (slice_index env1 bit) ⊎ (mark ≤ slice_index env1 bit))
        → (slice_index env2 bit ≡ slice_index env bit) ⊎ (Contains tv (slice_index env2 bit) ⊎ (mark ≤ slice_index env2 bit))
    chain bit (inl e) g = up bit (slice_index env2 bit) e g
    chain bit (inr (inl h)) g = inr (inl (in_take (target_width low) tv (slice_index env2 bit) h))
    chain bit (inr (inr h)) g = inr (inr (omega (arith, a.added.grown)))

-- ---- by a variable index: the whole signal is written again

below_within : (n : ℕ) (z : ℤ) → IsWithin n (below n z)
below_within n (pos k) = by_test (nat_lt k n) (λ e. subst (λ (b : Bool). IsWithin n (if b then Some k else None)) (sym e) (lt_is k n e)) (λ e. subst (λ (b : Bool). IsWithin n (if b then Some k else None)) (sym e) tt)
  where
    lt_is : (k n : ℕ) → nat_lt k n ≡ true → k < n
    lt_is k n h = grind arith
below_within n (negsuc k) = tt

pub places_within : (part : Part) (s : Bool) (index : BitList) → All (IsWithin (range_length part.range)) (places part s index)
places_within part s index =
    by_bool (all_known index) (map (place_of part.range) (indices part (integer s index))) (replicate part.width None)
    (All-map (IsWithin (range_length part.range)) (place_of part.range) (indices part (integer s index)) (λ k d l. below_within (range_length part.range) _))
    (All-replicate (IsWithin (range_length part.range)) part.width None tt)
  where
    by_bool : (b : Bool) (x y : List (Option ℕ)) → All (IsWithin (range_length part.range)) x → All (IsWithin (range_length part.range)) y → All (IsWithin (range_length part.range)) (if b then x else y)
    by_bool true x y f g = f
    by_bool false x y f g = g

-- a state with one bit more, read over a run of bits
later_same : (s : State) (p : ℕ) (v : Bit4) (first n : ℕ) → p < first → map (put s p v) (count_from first n) ≡ map s (count_from first n)
later_same s p v first zero h = refl
later_same s p v first (suc n) h =
    ap (λ x. x ∷ map (put s p v) (count_from (suc first) n)) (put-other s p v first (ne_eqb first p (omega arith))) ∙ ap (λ xs. s first ∷ xs) (later_same s p v (suc first) n (omega arith))

put_run : (s : State) (v : Bit4) (n q first : ℕ) → q < n → map (put s (first + q) v) (count_from first n) ≡ set (map s (count_from first n)) q v
put_run s v zero q first h = absurd (omega arith)
put_run s v (suc n) zero first h =
    let at : first + 0 ≡ first = omega arith in
    ap (λ p. map (put s p v) (count_from first (suc n))) at
    ∙ ap (λ x. x ∷ map (put s first v) (count_from (suc first) n)) (put-same s first v first (eq-eqb first first refl))
    ∙ ap (λ xs. v ∷ xs) (later_same s first v (suc first) n (omega arith))
put_run s v (suc n) (suc q) first h =
    let at : first + suc q ≡ suc first + q = omega arith in
    ap (λ p. map (put s p v) (count_from first (suc n))) at
    ∙ ap (λ x. x ∷ map (put s (suc first + q) v) (count_from (suc first) n)) (put-other s (suc first + q) v first (ne_eqb first (suc first + q) (omega arith)))
    ∙ ap (λ xs. s first ∷ xs) (put_run s v n q (suc first) (omega arith))

pub in_run : (n q first : ℕ) → q < n → contains (count_from first n) (first + q) ≡ true
in_run zero q first h = absurd (omega arith)
in_run (suc n) zero first h = let at : first + 0 ≡ first = omega arith in ap (λ b. b || contains (count_from (suc first) n) (first + 0)) (eq-eqb (first + 0) first at)
in_run (suc n) (suc q) first h =
    let at : first + suc q ≡ suc first + q = omega arith in
    by_test (first + suc q == first)
    (λ e. ap (λ b. b || contains (count_from (suc first) n) (first + suc q)) e)
    (λ e. ap (λ b. b || contains (count_from (suc first) n) (first + suc q)) e ∙ ap (contains (count_from (suc first) n)) at ∙ in_run n q (suc first) (omega arith))

pub written_run : (bits : List ℕ) (vs : BitList) (b : ℕ) → length vs ≡ length bits → is_written (pair_up (map Some bits) vs) b ≡ contains bits b
unfolding is_written
written_run [] [] b l = refl
written_run [] (v ∷ vs) b l = refl
written_run (c ∷ bits) [] b l = absurd (omega arith)
written_run (c ∷ bits) (v ∷ vs) b l = ap (λ q. (b == c) || q) (written_run bits vs b (omega arith))

pub length_places : (a : BitList) (ps : List (Option ℕ)) (vs : BitList) → length (write_places a ps vs) ≡ length a
length_places a [] vs = refl
length_places a (p ∷ ps) [] = refl
length_places a (None ∷ ps) (v ∷ vs) = length_places a ps vs
length_places a (Some n ∷ ps) (v ∷ vs) = length_places (set a n v) ps vs ∙ length-set a n v

length_count : (first n : ℕ) → length (count_from first n) ≡ n
length_count first zero = refl
length_count first (suc n) = ap suc (length_count (suc first) n)

-- writes to places of a signal are the write of all its bits
pub select_writes : (first n : ℕ) (ps : List (Option ℕ)) (vs : BitList) (s : State) (b : ℕ) → All (IsWithin n) ps
    → write_all s (pair_up (map (λ p. option_map (λ q. first + q) p) ps) vs) b ≡ write_all s (pair_up (map Some (count_from first n)) (write_places (map s (count_from first n)) ps vs)) b
unfolding write_all
select_writes first n [] vs s b h = sym (written_as (count_from first n) s s b (λ out. refl))
select_writes first n (None ∷ ps) [] s b h = sym (written_as (count_from first n) s s b (λ out. refl))
select_writes first n (Some q ∷ ps) [] s b h = sym (written_as (count_from first n) s s b (λ out. refl))
select_writes first n (None ∷ ps) (v ∷ vs) s b h = select_writes first n ps vs s b (All-tail (IsWithin n) None ps h)
select_writes first n (Some q ∷ ps) (v ∷ vs) s b h =
    let inside : q < n = All-head (IsWithin n) (Some q) ps h in
    let t = put s (first + q) v in
    let bits = count_from first n in
    let value = write_places (set (map s bits) q v) ps vs in
    let long : length value ≡ length bits = length_places (set (map s bits) q v) ps vs ∙ length-set (map s bits) q v ∙ length-map bits s in
    select_writes first n ps vs t b (All-tail (IsWithin n) (Some q) ps h)
    ∙ ap (λ (a : BitList). write_all t (pair_up (map Some bits) (write_places a ps vs)) b) (put_run s v n q first inside)
    ∙ by_test (contains bits b)
    (λ e. write_all_covered (pair_up (map Some bits) value) t s b (written_run bits value b long ∙ e))
    (λ e. write_all_at (pair_up (map Some bits) value) t s b (put-other s (first + q) v b (not_here (b == first + q) refl e)))
  where
    not_here : (x : Bool) → (b == first + q) ≡ x → contains (count_from first n) b ≡ false → (b == first + q) ≡ false
    not_here false e h2 = e
    not_here true e h2 = absurd (true≢false (sym (ap (contains (count_from first n)) (eqb-true b (first + q) e) ∙ in_run n q first (All-head (IsWithin n) (Some q) ps h)) ∙ h2))

-- the write of a value to bits of a signal by a kernel
abbrev pub write_call : AnyKernel → Signal → List ℕ → List ℕ → List ℕ → ℕ → C.Call
write_call kernel signal env ti tv mark = fresh_call kernel (picked env (bits_of_signal signal) ∷ ti ∷ tv ∷ []) mark (signal_length signal)

-- it gives the vector with a value of this length at these places
abbrev pub WritesPlaces : AnyKernel → ℕ → (BitList → List (Option ℕ)) → Type 0
WritesPlaces kernel width at = (n : ℕ) (a x v : BitList) → length v ≡ width → operator_of kernel n (a ∷ x ∷ v ∷ []) ≡ write_places a (at x) v

pub called_written : (env : List ℕ) (mark : ℕ) (target : Target) (signal : Signal) (index : Expression) (at : BitList → List (Option ℕ)) (kernel : AnyKernel) (width : ℕ) (ti tv : List ℕ) (more : ℕ)
    → IsSelecting target signal index at → WritesPlaces kernel width at
    → IsEnv env mark → All (λ slot. slot < mark) ti → All (λ slot. slot < mark) tv → length tv ≡ width
    → All (λ b. b < length env) (bits_of_signal signal)
    → ((b : ℕ) → contains (target_bits target) b ≡ false → contains (bits_of_signal signal) b ≡ false)
    → IsCall (write_call kernel signal env ti tv mark) → signal_length signal ≤ call_cost (write_call kernel signal env ti tv mark) → call_cost (write_call kernel signal env ti tv mark) ≤ more
    → IsWritten env mark target (ti ∷ []) tv more (write_call kernel signal env ti tv mark ∷ []) (placed env (map Some (bits_of_signal signal)) (range_with_len mark (signal_length signal))) (mark + signal_length signal)
called_written env mark target signal index at kernel width ti tv more q operator e below_i below_v long inside within is paid stores =
    let bits = bits_of_signal signal in
    let n = signal_length signal in
    let to = range_with_len mark n in
    let top = mark + n in
    let call = write_call kernel signal env ti tv mark in
    let P : List ℕ → Type 0 = λ xs. All (λ slot. slot < mark) xs in
    let picked_below : P (picked env bits) = All-map (λ slot. slot < mark) (slice_index env) bits (All-weaker (λ b. b < length env) (λ b. slice_index env b < mark) (λ b l. e.below b 0 l) bits inside) in
    let args_below : All P (picked env bits ∷ ti ∷ tv ∷ []) = All-cons P (picked env bits) (ti ∷ tv ∷ []) picked_below (All-cons P ti (tv ∷ []) below_i (All-cons P tv [] below_v (All-nil P))) in
    let one = added_call kernel (picked env bits ∷ ti ∷ tv ∷ []) mark n more is args_below (omega (arith, paid)) stores in
    record {
      added = one;
      is_env = record {
        constants = omega (arith, e.constants);
        below = placed_all (λ slot. slot < top) env (map Some bits) to (range_below mark n top (omega arith)) (All-weaker (λ slot. slot < mark) (λ slot. slot < top) (λ slot l. omega arith) env e.below);
      };
      same_length = placed_length env (map Some bits) to;
      kept = λ b h. placed_other env bits to b (within b h);
      from = λ b l. new_from (placed_from env (map Some bits) to b l);
      values = λ before after state base h index_is called.
          let done = one_called call before after called in
          let iv : map before ti ≡ own_value index state = one_list (map before ti) (own_value index state) (index_is ∙ q.values state) in
          let v = map before tv in
          let ps = at (own_value index state) in
          let value_is : map after to ≡ write_places (map base bits) ps v =
          done.value
          ∙ operator (length to) (map before (picked env bits)) (map before ti) v (length-map tv before ∙ long)
          ∙ ap (λ (x : BitList). write_places x (at (map before ti)) v) (picked_are env before base bits inside h)
          ∙ ap (λ (x : BitList). write_places (map base bits) (at x) v) iv in
          let held = placed_holds env after base (map Some bits) to (holds_after env (call ∷ []) mark before after base e one.fresh called h) in
          record {
            constants = held.constants;
            bits = λ b l. held.bits b l ∙ ap (λ (x : BitList). write_all base (pair_up (map Some bits) x) b) value_is ∙ sym (select_writes signal.first n ps v base b (q.within (own_value index state))) ∙ ap (λ (ws : List Write). write_all base ws b) (sym (q.writes v state));
          };
    }
  where
    new_from : {A : Type 0} {B : Type 0} {x : ℕ} → A ⊎ Contains (range_with_len mark (signal_length signal)) x → A ⊎ (B ⊎ (mark ≤ x))
    new_from (inl h) = inl h
    new_from {x = x} (inr h) = inr (inr (All-contains (λ slot. mark ≤ slot) (range_with_len mark (signal_length signal)) x (range_from mark (signal_length signal) mark (omega arith)) h))
