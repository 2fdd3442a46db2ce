-- What a body writes is in the lifted body's sets.
use Rattle.std.proofs.Common.{◌≡◌, ◌≢◌, ℕ, ◌+◌, max, true, false, List, [], ◌∷◌, ◌++◌, ◌||◌, ◌&&◌, ◌⊎◌, inl, inr, refl, sym, ap, ◌∙◌, subst, map, length, take, drop, Option, Some, None, arith, eqb-true, ◌==◌, length-take, length-drop}
use Rattle.std.specs.Prelude.{option_map}
use Rattle.std.specs.List.{list_all}
use Rattle.std.proofs.lemmas.List.{length-map}
use Rattle.vs_four.specs.declared.Bit4.{Bit4}
use Rattle.vs_net.specs.Network.{State, Write, put, write_all, is_written}
use Rattle.vs_net.proofs.Basics.{same_number, put-same, put-other, write_all_other, write_all_covered, write_all_at, write_all-append}
use Rattle.vs_four.specs.Logic.{BitList}
use Rattle.vs_four.specs.Selects.{range_length, places}
use Rattle.vs_design.specs.Expressions.{signal_length, Expression, width, sign, is_constant}
use Rattle.vs_design.specs.Values.{bits_of_signal, word_places, value, own_value, constant_value, assigned_value, word_part_places}
use Rattle.vs_design.specs.Statements.{Target, Whole, PartOf, WordOf, WordPartOf, Both, target_width}
use Rattle.vs_design.specs.Bodies.{bits_at, pair_up, target_writes, last_of_each, assignment_writes}
use Rattle.vs_design.specs.Footprints.{contains, somes, addressed_bits}
use Rattle.vs_design.specs.Latches.{assigns}
use Rattle.vs_design.specs.Fits.{fits_target, fits_64, is_fit}
use Rattle.vs_design.specs.Sets.{Set4, has, all_of}
use Rattle.vs_design.specs.Lifted.{Family, lifted, assigned_sets}
use Rattle.vs_design.specs.LiftedBodies.{put_each, widen, write_sets, assign_sets}
use Rattle.vs_design.specs.TreeLaws.{AllIn, none_in, one_in}
use Rattle.vs_design.proofs.Lists.{by_test, and_both, contains-append}
use Rattle.vs_design.proofs.Writes.{either_way, written_pairs, somes_all, part_bits, constant_index, part_addressed}
use Rattle.vs_design.proofs.Words.{long_word, word_within}
use Rattle.vs_design.proofs.Lengths.{length_places, length_count, length_assigned}
use Rattle.vs_design.proofs.SetBits.{union_left, union_right, all_take, all_drop}
use Rattle.vs_design.proofs.SetOps.{Each, each_of_all}
use Rattle.vs_design.proofs.WordParts.{long_word_part}

-- the bit is in its set
abbrev pub In : Family → State → ℕ → Type 0
In sets s b = has (sets b) (s b) ≡ true

-- ---- one assignment

last_same : (ws : List Write) (s : State) (b : ℕ) → write_all s (last_of_each ws) b ≡ write_all s ws b
unfolding write_all
last_same [] s b = refl
last_same (w ∷ ws) s b =
    by_test (is_written ws w.bit)
    (λ e. rw e
    (same_number b w.bit
    (λ k. last_same ws s b ∙ write_all_covered ws s (put s w.bit w.value) b (subst (λ c. is_written ws c ≡ true) (sym k) e))
    (λ k. last_same ws s b ∙ write_all_at ws s (put s w.bit w.value) b (sym (put-other s w.bit w.value b k)))))
    (λ e. rw e (last_same ws (put s w.bit w.value) b))

put_in : (sets : Family) (s : State) (c b : ℕ) (t : Set4) (v : Bit4) → has t v ≡ true → (In sets s b) ⊎ (b ≡ c) → In (put sets c t) (put s c v) b
put_in sets s c b t v h k =
    same_number b c
    (λ e. subst (λ d. In (put sets c t) (put s c v) d) (sym e) (rw (put-same sets c t) (rw (put-same s c v) h)))
    (λ e. go e k)
  where
    go : b ≢ c → (In sets s b) ⊎ (b ≡ c) → In (put sets c t) (put s c v) b
    go e (inl q) = rw (put-other sets c t b e) (rw (put-other s c v b e) q)
    go e (inr q) = absurd (e q)

pub pairs_in : (ps : List (Option ℕ)) (sets : Family) (s : State) (b : ℕ) {ss : List Set4} {vs : BitList} → length ps ≡ length vs → AllIn ss vs → (In sets s b) ⊎ (contains (somes ps) b ≡ true) → In (put_each ps ss sets) (write_all s (pair_up ps vs)) b
unfolding write_all
pairs_in [] sets s b l h (inl k) = k
pairs_in [] sets s b l h (inr k) = cc
pairs_in (p ∷ ps) sets s b l none_in k = absurd (omega arith)
pairs_in (None ∷ ps) sets s b l (one_in e h) k = pairs_in ps sets s b (omega arith) h k
pairs_in (Some c ∷ ps) sets s b l (one_in {s = t} {v} e h) k = pairs_in ps (put sets c t) (put s c v) b (omega arith) h (go k)
  where
    go : (In sets s b) ⊎ (((b == c) || contains (somes ps) b) ≡ true) → (In (put sets c t) (put s c v) b) ⊎ (contains (somes ps) b ≡ true)
    go (inl q) = inl (put_in sets s c b t v e (inl q))
    go (inr q) = by_test (b == c) (λ d. inl (put_in sets s c b t v e (inr (eqb-true b c d)))) (λ d. inr (subst (λ x. (x || contains (somes ps) b) ≡ true) d q))

written_has : (t : Set4) (ps : List (Option ℕ)) (vs : BitList) (s : State) (b : ℕ) → Each t vs → is_written (pair_up ps vs) b ≡ true → has t (write_all s (pair_up ps vs) b) ≡ true
unfolding write_all is_written
written_has t [] vs s b h k = cc
written_has t (p ∷ ps) [] s b h k = cc
written_has t (None ∷ ps) (v ∷ vs) s b h k = written_has t ps vs s b (and_both (has t v) (list_all (has t) vs) h).1 k
written_has t (Some c ∷ ps) (v ∷ vs) s b h k =
    let p = and_both (has t v) (list_all (has t) vs) h in
    by_test (is_written (pair_up ps vs) b)
    (λ e. written_has t ps vs (put s c v) b p.1 e)
    (λ e.
    by_test (b == c)
    (λ d. rw (write_all_other (pair_up ps vs) (put s c v) b e) (subst (λ x. has t (put s c v x) ≡ true) (sym (eqb-true b c d)) (rw (put-same s c v) p.0)))
    (λ d. absurd (either_way _ (subst (λ x. (x || is_written (pair_up ps vs) b) ≡ true) d k) e)))

widen_keeps : (bits : List ℕ) (t : Set4) (sets : Family) (b : ℕ) (v : Bit4) → has (sets b) v ≡ true → has (widen bits t sets b) v ≡ true
widen_keeps bits t sets b v h = by_test (contains bits b) (λ e. rw e (union_left (sets b) t v h)) (λ e. rw e h)

widen_adds : (bits : List ℕ) (t : Set4) (sets : Family) (b : ℕ) (v : Bit4) → contains bits b ≡ true → has t v ≡ true → has (widen bits t sets b) v ≡ true
widen_adds bits t sets b v e h = rw e (union_right (sets b) t v h)

target_in : (t : Target) (v : BitList) (ss : List Set4) (sets : Family) (from s : State) (b : ℕ) → fits_target t ≡ true → AllIn ss v → length v ≡ target_width t → (In sets s b) ⊎ (contains (assigns t) b ≡ true) → In (write_sets t ss sets) (write_all s (target_writes t v from)) b
target_in (Whole signal) v ss sets from s b f h l k =
    pairs_in (map Some (bits_of_signal signal)) sets s b (length-map (bits_of_signal signal) Some ∙ length_count signal.first (signal_length signal) ∙ sym l) h (subst (λ c. (In sets s b) ⊎ (contains c b ≡ true)) (sym (somes_all (bits_of_signal signal))) k)
target_in (PartOf signal part index) v ss sets from s b f h l k =
    by_test (is_constant index)
    (λ e. rw e (rw (constant_index index from e)
    (pairs_in (bits_at signal (places part (sign index) (constant_value index))) sets s b (long (constant_value index)) h (go k (by_constant e)))))
    (λ e. rw e
    (by_test (is_written (pair_up (bits_at signal (places part (sign index) (own_value index from))) v) b)
    (λ q. widen_adds (bits_of_signal signal) (all_of ss) sets b (write_all s (pair_up (bits_at signal (places part (sign index) (own_value index from))) v) b)
    (part_bits signal part (sign index) (own_value index from) b (eqb-true (range_length part.range) (signal_length signal) own) (sym (written_pairs (bits_at signal (places part (sign index) (own_value index from))) v b (long (own_value index from))) ∙ q))
    (written_has (all_of ss) (bits_at signal (places part (sign index) (own_value index from))) v s b (each_of_all h) q))
    (λ q. widen_keeps (bits_of_signal signal) (all_of ss) sets b (write_all s (pair_up (bits_at signal (places part (sign index) (own_value index from))) v) b)
    (rw (write_all_other (pair_up (bits_at signal (places part (sign index) (own_value index from))) v) s b q) (only_left k (none e))))))
  where
    own : (range_length part.range == signal_length signal) ≡ true
    own = (and_both (fits_64 part.width) (range_length part.range == signal_length signal) (and_both (fits_64 part.width && (range_length part.range == signal_length signal)) (is_fit index) f).0).1

    long : (i : BitList) → length (bits_at signal (places part (sign index) i)) ≡ length v
    long i = length-map (places part (sign index) i) (λ p. option_map (λ n. signal.first + n) p) ∙ length_places part (sign index) i ∙ sym l

    by_constant : is_constant index ≡ true → assigns (PartOf signal part index) ≡ somes (bits_at signal (places part (sign index) (constant_value index)))
    by_constant e = rw e refl

    none : is_constant index ≡ false → assigns (PartOf signal part index) ≡ []
    none e = rw e refl

    go : (In sets s b) ⊎ (contains (assigns (PartOf signal part index)) b ≡ true) → {xs : List ℕ} → assigns (PartOf signal part index) ≡ xs → (In sets s b) ⊎ (contains xs b ≡ true)
    go (inl q) e = inl q
    go (inr q) e = inr (subst (λ c. contains c b ≡ true) e q)

    only_left : (In sets s b) ⊎ (contains (assigns (PartOf signal part index)) b ≡ true) → assigns (PartOf signal part index) ≡ [] → In sets s b
    only_left (inl q) e = q
    only_left (inr q) e = absurd (either_way (contains (assigns (PartOf signal part index)) b) q (ap (λ c. contains c b) e))
target_in (WordOf signal index) v ss sets from s b f h l k =
    by_test (is_constant index)
    (λ e. rw e (rw (constant_index index from e)
    (pairs_in (bits_at signal (word_places signal (sign index) (constant_value index))) sets s b (long (constant_value index)) h (go k (by_constant e)))))
    (λ e. rw e
    (by_test (is_written (pair_up (bits_at signal (word_places signal (sign index) (own_value index from))) v) b)
    (λ q. widen_adds (bits_of_signal signal) (all_of ss) sets b (write_all s (pair_up (bits_at signal (word_places signal (sign index) (own_value index from))) v) b)
    (word_within signal (sign index) (own_value index from) b (sym (written_pairs (bits_at signal (word_places signal (sign index) (own_value index from))) v b (long (own_value index from))) ∙ q))
    (written_has (all_of ss) (bits_at signal (word_places signal (sign index) (own_value index from))) v s b (each_of_all h) q))
    (λ q. widen_keeps (bits_of_signal signal) (all_of ss) sets b (write_all s (pair_up (bits_at signal (word_places signal (sign index) (own_value index from))) v) b)
    (rw (write_all_other (pair_up (bits_at signal (word_places signal (sign index) (own_value index from))) v) s b q) (only_left k (none e))))))
  where
    long : (i : BitList) → length (bits_at signal (word_places signal (sign index) i)) ≡ length v
    long i = long_word signal (sign index) i ∙ sym l

    by_constant : is_constant index ≡ true → assigns (WordOf signal index) ≡ somes (bits_at signal (word_places signal (sign index) (constant_value index)))
    by_constant e = rw e refl

    none : is_constant index ≡ false → assigns (WordOf signal index) ≡ []
    none e = rw e refl

    go : (In sets s b) ⊎ (contains (assigns (WordOf signal index)) b ≡ true) → {xs : List ℕ} → assigns (WordOf signal index) ≡ xs → (In sets s b) ⊎ (contains xs b ≡ true)
    go (inl q) e = inl q
    go (inr q) e = inr (subst (λ c. contains c b ≡ true) e q)

    only_left : (In sets s b) ⊎ (contains (assigns (WordOf signal index)) b ≡ true) → assigns (WordOf signal index) ≡ [] → In sets s b
    only_left (inl q) e = q
    only_left (inr q) e = absurd (either_way (contains (assigns (WordOf signal index)) b) q (ap (λ c. contains c b) e))
target_in (WordPartOf signal address part index) v ss sets from s b f h l k =
    by_test (is_constant address && is_constant index)
    (λ e.
    let p = and_both (is_constant address) (is_constant index) e in
    rw e (rw (constant_index address from p.0, constant_index index from p.1)
    (pairs_in (bits_at signal (word_part_places signal (sign address) (constant_value address) part (sign index) (constant_value index))) sets s b (long (constant_value address) (constant_value index)) h (go k (by_constants e)))))
    (λ e. rw e
    (by_test (is_written (pair_up there v) b)
    (λ q. widen_adds (addressed_bits signal address) (all_of ss) sets b (write_all s (pair_up there v) b)
    (part_addressed signal address part index from b (sym (written_pairs there v b (long (own_value address from) (own_value index from))) ∙ q))
    (written_has (all_of ss) there v s b (each_of_all h) q))
    (λ q. widen_keeps (addressed_bits signal address) (all_of ss) sets b (write_all s (pair_up there v) b)
    (rw (write_all_other (pair_up there v) s b q) (only_left k (none e))))))
  where
    there : List (Option ℕ)
    there = bits_at signal (word_part_places signal (sign address) (own_value address from) part (sign index) (own_value index from))

    long : (a i : BitList) → length (bits_at signal (word_part_places signal (sign address) a part (sign index) i)) ≡ length v
    long a i = long_word_part signal (sign address) a part (sign index) i ∙ sym l

    by_constants : (is_constant address && is_constant index) ≡ true → assigns (WordPartOf signal address part index) ≡ somes (bits_at signal (word_part_places signal (sign address) (constant_value address) part (sign index) (constant_value index)))
    by_constants e = rw e refl

    none : (is_constant address && is_constant index) ≡ false → assigns (WordPartOf signal address part index) ≡ []
    none e = rw e refl

    go : (In sets s b) ⊎ (contains (assigns (WordPartOf signal address part index)) b ≡ true) → {xs : List ℕ} → assigns (WordPartOf signal address part index) ≡ xs → (In sets s b) ⊎ (contains xs b ≡ true)
    go (inl q) e = inl q
    go (inr q) e = inr (subst (λ c. contains c b ≡ true) e q)

    only_left : (In sets s b) ⊎ (contains (assigns (WordPartOf signal address part index)) b ≡ true) → assigns (WordPartOf signal address part index) ≡ [] → In sets s b
    only_left (inl q) e = q
    only_left (inr q) e = absurd (either_way (contains (assigns (WordPartOf signal address part index)) b) q (ap (λ c. contains c b) e))
target_in (Both high low) v ss sets from s b f h l k =
    let fs = and_both (fits_64 (target_width high + target_width low) && fits_target high) (fits_target low) f in
    let fh = and_both (fits_64 (target_width high + target_width low)) (fits_target high) fs.0 in
    let dl = length-drop (target_width low) v in
    let tl = length-take (target_width low) v in
    rw (write_all-append (target_writes high (drop (target_width low) v) from) (target_writes low (take (target_width low) v) from) s)
    (target_in low (take (target_width low) v) (take (target_width low) ss) (write_sets high (drop (target_width low) ss) sets) from (write_all s (target_writes high (drop (target_width low) v) from)) b fs.1 (all_take (target_width low) h) (omega (arith, tl))
    (go k (λ q. target_in high (drop (target_width low) v) (drop (target_width low) ss) sets from s b fh.1 (all_drop (target_width low) h) (omega (arith, dl)) q)))
  where
    go : {P : Type 0} → (In sets s b) ⊎ (contains (assigns high ++ assigns low) b ≡ true) → ((In sets s b) ⊎ (contains (assigns high) b ≡ true) → P) → P ⊎ (contains (assigns low) b ≡ true)
    go (inl q) r = inl (r (inl q))
    go (inr q) r = by_test (contains (assigns high) b) (λ e. inl (r (inr e))) (λ e. inr (subst (λ c. (c || contains (assigns low) b) ≡ true) e (sym (contains-append (assigns high) (assigns low) b) ∙ q)))

-- an assignment whose value is in its sets
pub assignment_by : (t : Target) (e : Expression) (sets : Family) (s : State) (b : ℕ) → fits_target t ≡ true → AllIn (lifted e (max (width e) (target_width t)) (sign e) sets) (value e (max (width e) (target_width t)) (sign e) s) → (In sets s b) ⊎ (contains (assigns t) b ≡ true)
    → In (assign_sets t e sets) (write_all s (assignment_writes t e s)) b
assignment_by t e sets s b f h k =
    rw (last_same (target_writes t (assigned_value e (target_width t) s) s) s b)
    (target_in t (assigned_value e (target_width t) s) (assigned_sets e (target_width t) sets) sets s s b f (all_take (target_width t) h) (length_assigned e (target_width t) s) k)
