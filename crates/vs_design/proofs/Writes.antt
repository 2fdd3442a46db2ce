-- The bits that an assignment writes.
use Rattle.std.proofs.Common.{◌≡◌, ℕ, zero, suc, ◌+◌, ◌<◌, Bool, true, false, List, [], ◌∷◌, ◌++◌, ◌||◌, ◌&&◌, ◌==◌, nat_lt, if◌then◌else◌, refl, sym, ap, ◌∙◌, subst, map, length, take, drop, Option, Some, None, arith, length-take, length-drop, eqb-true, ℤ, pos, negsuc, ◌+ℤ◌, replicate}
use Rattle.std.specs.Prelude.{option_map}
use Rattle.std.proofs.lemmas.List.{length-map}
use Rattle.vs_four.specs.declared.Bit4.TheVariants.{X}
use Rattle.vs_net.specs.Network.{State, Write, is_written}
use Rattle.vs_four.specs.Logic.{BitList, all_known}
use Rattle.vs_four.specs.Numbers.{integer}
use Rattle.vs_four.specs.Selects.{Part, range_length, below, places}
use Rattle.vs_design.proofs.Places.{first_place, places_from, places_are}
use Rattle.vs_design.specs.Expressions.{Signal, signal_length, word_length, Expression, width, sign, is_constant}
use Rattle.vs_design.specs.Values.{bits_of_signal, word_places, value, own_value, constant_value, assigned_value, word_part_places}
use Rattle.vs_design.specs.Statements.{Target, Whole, PartOf, WordOf, WordPartOf, Both, target_width}
use Rattle.vs_design.specs.Bodies.{bits_at, pair_up, target_writes, last_of_each, assignment_writes}
use Rattle.vs_design.specs.Footprints.{contains, somes, selected_bits, addressed_bits, read_bits, target_bits, target_reads, word_part_bits}
use Rattle.vs_design.specs.Latches.{assigns}
use Rattle.vs_design.specs.Fits.{fits_target, fits_64, is_fit}
use Rattle.vs_design.specs.TreeLaws.{Agree}
use Rattle.vs_design.proofs.Lists.{by_test, or_left, or_right, and_both, contains-append, contains-left, contains-right, agree-left, agree-right}
use Rattle.vs_design.proofs.ReadValue.{value_reads, constant_agree}
use Rattle.vs_design.proofs.Words.{in_count, no_places, long_word, word_within, addressed_constant, addressed_variable}
use Rattle.vs_design.proofs.Lengths.{length_places, length_count, length_assigned}
use Rattle.vs_design.proofs.WordParts.{long_word_part, part_in_word, part_constant, part_variable}

pub either_way : (b : Bool) → b ≡ true → b ≡ false → ⊥
either_way b p q = go b p q
  where
    go : (x : Bool) → x ≡ true → x ≡ false → ⊥
    go x p q = cc

pub written-append : (xs ys : List Write) (b : ℕ) → is_written (xs ++ ys) b ≡ (is_written xs b || is_written ys b)
unfolding is_written
written-append [] ys b = refl
written-append (x ∷ xs) ys b = by_test (b == x.bit) (λ e. rw e refl) (λ e. rw e (written-append xs ys b))

pub written_last : (ws : List Write) (b : ℕ) → is_written (last_of_each ws) b ≡ is_written ws b
unfolding is_written
written_last [] b = refl
written_last (w ∷ ws) b =
    by_test (is_written ws w.bit)
    (λ e. rw e (written_last ws b ∙ by_test (b == w.bit) (λ k. rw k (subst (λ c. is_written ws c ≡ true) (sym (eqb-true b w.bit k)) e)) (λ k. rw k refl)))
    (λ e. rw e (ap (λ c. (b == w.bit) || c) (written_last ws b)))

pub written_pairs : (ps : List (Option ℕ)) (vs : BitList) (b : ℕ) → length ps ≡ length vs → is_written (pair_up ps vs) b ≡ contains (somes ps) b
unfolding is_written
written_pairs [] vs b h = refl
written_pairs (p ∷ ps) [] b h = absurd (omega arith)
written_pairs (None ∷ ps) (v ∷ vs) b h = written_pairs ps vs b (omega arith)
written_pairs (Some c ∷ ps) (v ∷ vs) b h = ap (λ k. (b == c) || k) (written_pairs ps vs b (omega arith))

pub somes_all : (bs : List ℕ) → somes (map Some bs) ≡ bs
somes_all [] = refl
somes_all (b ∷ bs) = ap {B = List ℕ} (λ r. b ∷ r) (somes_all bs)

-- places are below the length
in_range_bits : (signal : Signal) (len : ℕ) (z : ℤ) (rest : List (Option ℕ)) (b : ℕ) → len ≡ signal_length signal
    → (contains (somes (bits_at signal rest)) b ≡ true → contains (bits_of_signal signal) b ≡ true)
    → contains (somes (bits_at signal (below len z ∷ rest))) b ≡ true → contains (bits_of_signal signal) b ≡ true
in_range_bits signal len (negsuc n) rest b e k h = k h
in_range_bits signal len (pos n) rest b e k h =
    by_test (nat_lt n len)
    (λ t.
    let h' : ((b == (signal.first + n)) || contains (somes (bits_at signal rest)) b) ≡ true = subst (λ (c : Bool). contains (somes (bits_at signal ((if c then Some n else None) ∷ rest))) b ≡ true) t h in
    by_test (b == (signal.first + n))
    (λ q. in_count (signal_length signal) signal.first n b (eqb-true b (signal.first + n) q) (subst (λ m. n < m) e (is_below t)))
    (λ q. k (subst (λ c. (c || contains (somes (bits_at signal rest)) b) ≡ true) q h')))
    (λ t. k (subst (λ (c : Bool). contains (somes (bits_at signal ((if c then Some n else None) ∷ rest))) b ≡ true) t h))
  where
    is_below : nat_lt n len ≡ true → n < len
    is_below t = grind (arith)

places_bits : (signal : Signal) (len n : ℕ) (z : ℤ) (b : ℕ) → len ≡ signal_length signal → contains (somes (bits_at signal (places_from len z n))) b ≡ true → contains (bits_of_signal signal) b ≡ true
places_bits signal len zero z b e h = absurd (either_way _ h refl)
places_bits signal len (suc n) z b e h = in_range_bits signal len z (places_from len (z +ℤ pos 1) n) b e (λ k. places_bits signal len n (z +ℤ pos 1) b e k) h

-- whatever the index, a part's bits are the signal's
pub part_bits : (signal : Signal) (part : Part) (g : Bool) (index : BitList) (b : ℕ) → range_length part.range ≡ signal_length signal → contains (somes (bits_at signal (places part g index))) b ≡ true → contains (bits_of_signal signal) b ≡ true
part_bits signal part g index b e h = go (subst (λ (ps : List (Option ℕ)). contains (somes (bits_at signal ps)) b ≡ true) (places_are part g index) h)
  where
    go : contains (somes (bits_at signal (if all_known index then places_from (range_length part.range) (first_place part (integer g index)) part.width else replicate part.width None))) b ≡ true → contains (bits_of_signal signal) b ≡ true
    go k =
        by_test (all_known index)
        (λ t. places_bits signal (range_length part.range) part.width (first_place part (integer g index)) b e (subst (λ (c : Bool). contains (somes (bits_at signal (if c then places_from (range_length part.range) (first_place part (integer g index)) part.width else replicate part.width None))) b ≡ true) t k))
        (λ t. absurd (either_way _ (subst (λ (c : Bool). contains (somes (bits_at signal (if c then places_from (range_length part.range) (first_place part (integer g index)) part.width else replicate part.width None))) b ≡ true) t k) (no_places signal part.width b)))

pub constant_index : (index : Expression) (s : State) → is_constant index ≡ true → own_value index s ≡ constant_value index
constant_index index s e = value_reads index (width index) (sign index) s (λ b. X) (constant_agree index e s (λ b. X))

pub written_part : (signal : Signal) (part : Part) (index : Expression) (v : BitList) (s : State) (b : ℕ) → length v ≡ part.width → is_written (target_writes (PartOf signal part index) v s) b ≡ contains (somes (bits_at signal (places part (sign index) (own_value index s)))) b
written_part signal part index v s b h =
    written_pairs (bits_at signal (places part (sign index) (own_value index s))) v b (length-map (places part (sign index) (own_value index s)) (λ p. option_map (λ n. signal.first + n) p) ∙ length_places part (sign index) (own_value index s) ∙ sym h)

pub written_word : (signal : Signal) (index : Expression) (v : BitList) (s : State) (b : ℕ) → length v ≡ word_length signal → is_written (target_writes (WordOf signal index) v s) b ≡ contains (somes (bits_at signal (word_places signal (sign index) (own_value index s)))) b
written_word signal index v s b h = written_pairs (bits_at signal (word_places signal (sign index) (own_value index s))) v b (long_word signal (sign index) (own_value index s) ∙ sym h)

pub written_word_part : (signal : Signal) (address : Expression) (part : Part) (index : Expression) (v : BitList) (s : State) (b : ℕ) → length v ≡ part.width
    → is_written (target_writes (WordPartOf signal address part index) v s) b ≡ contains (somes (bits_at signal (word_part_places signal (sign address) (own_value address s) part (sign index) (own_value index s)))) b
written_word_part signal address part index v s b h =
    written_pairs (bits_at signal (word_part_places signal (sign address) (own_value address s) part (sign index) (own_value index s))) v b (long_word_part signal (sign address) (own_value address s) part (sign index) (own_value index s) ∙ sym h)

-- a word's bits are among those that its address may name
pub word_addressed : (signal : Signal) (index : Expression) (s : State) (b : ℕ) → contains (somes (bits_at signal (word_places signal (sign index) (own_value index s)))) b ≡ true → contains (addressed_bits signal index) b ≡ true
word_addressed signal index s b w =
    by_test (is_constant index)
    (λ e. subst (λ xs. contains xs b ≡ true) (sym (addressed_constant signal index e)) (subst (λ (x : BitList). contains (somes (bits_at signal (word_places signal (sign index) x))) b ≡ true) (constant_index index s e) w))
    (λ e. subst (λ xs. contains xs b ≡ true) (sym (addressed_variable signal index e)) (word_within signal (sign index) (own_value index s) b w))

-- and so are those of a part of it
pub part_addressed : (signal : Signal) (address : Expression) (part : Part) (index : Expression) (s : State) (b : ℕ)
    → contains (somes (bits_at signal (word_part_places signal (sign address) (own_value address s) part (sign index) (own_value index s)))) b ≡ true → contains (addressed_bits signal address) b ≡ true
part_addressed signal address part index s b w = word_addressed signal address s b (part_in_word signal (sign address) (own_value address s) part (sign index) (own_value index s) b w)

-- a part is of as many bits as its signal has
abbrev pub HasParts : Target → Type 0
HasParts (Whole signal) = Unit {0}
HasParts (PartOf signal part index) = range_length part.range ≡ signal_length signal
HasParts (WordOf signal index) = Unit {0}
HasParts (WordPartOf signal address part index) = Unit {0}
HasParts (Both high low) = HasParts high × HasParts low

pub fit_parts : (t : Target) → fits_target t ≡ true → HasParts t
fit_parts (Whole signal) f = tt
fit_parts (PartOf signal part index) f = eqb-true _ _ (and_both (fits_64 part.width) (range_length part.range == signal_length signal) (and_both (fits_64 part.width && (range_length part.range == signal_length signal)) (is_fit index) f).0).1
fit_parts (WordOf signal index) f = tt
fit_parts (WordPartOf signal address part index) f = tt
fit_parts (Both high low) f =
    let fs = and_both (fits_64 (target_width high + target_width low) && fits_target high) (fits_target low) f in
    (fit_parts high (and_both (fits_64 (target_width high + target_width low)) (fits_target high) fs.0).1, fit_parts low fs.1)

-- an assignment writes bits of its target alone
pub target_within : (t : Target) (v : BitList) (s : State) (b : ℕ) → HasParts t → length v ≡ target_width t → is_written (target_writes t v s) b ≡ true → contains (target_bits t) b ≡ true
target_within (Whole signal) v s b f h k =
    subst (λ c. contains c b ≡ true) (somes_all (bits_of_signal signal)) (sym (written_pairs (map Some (bits_of_signal signal)) v b (length-map (bits_of_signal signal) Some ∙ length_count signal.first (signal_length signal) ∙ sym h)) ∙ k)
target_within (PartOf signal part index) v s b f h k =
    let w : contains (somes (bits_at signal (places part (sign index) (own_value index s)))) b ≡ true = sym (written_part signal part index v s b h) ∙ k in
    by_test (is_constant index)
    (λ e. subst (λ (c : Bool). contains (if c then somes (bits_at signal (places part (sign index) (constant_value index))) else bits_of_signal signal) b ≡ true) (sym e) (subst (λ (x : BitList). contains (somes (bits_at signal (places part (sign index) x))) b ≡ true) (constant_index index s e) w))
    (λ e. subst (λ (c : Bool). contains (if c then somes (bits_at signal (places part (sign index) (constant_value index))) else bits_of_signal signal) b ≡ true) (sym e) (part_bits signal part (sign index) (own_value index s) b f w))
target_within (WordOf signal index) v s b f h k =
    word_addressed signal index s b (sym (written_word signal index v s b h) ∙ k)
target_within (WordPartOf signal address part index) v s b f h k =
    let w : contains (somes (bits_at signal (word_part_places signal (sign address) (own_value address s) part (sign index) (own_value index s)))) b ≡ true = sym (written_word_part signal address part index v s b h) ∙ k in
    by_test (is_constant address && is_constant index)
    (λ e.
    let p = and_both (is_constant address) (is_constant index) e in
    subst (λ xs. contains xs b ≡ true) (sym (part_constant signal address part index e))
    (subst (λ (x : BitList). contains (somes (bits_at signal (word_part_places signal (sign address) x part (sign index) (constant_value index)))) b ≡ true) (constant_index address s p.0)
    (subst (λ (x : BitList). contains (somes (bits_at signal (word_part_places signal (sign address) (own_value address s) part (sign index) x))) b ≡ true) (constant_index index s p.1) w)))
    (λ e. subst (λ xs. contains xs b ≡ true) (sym (part_variable signal address part index e)) (part_addressed signal address part index s b w))
target_within (Both high low) v s b f h k =
    let w : (is_written (target_writes high (drop (target_width low) v) s) b || is_written (target_writes low (take (target_width low) v) s) b) ≡ true = sym (written-append (target_writes high (drop (target_width low) v) s) (target_writes low (take (target_width low) v) s) b) ∙ k in
    let dl = length-drop (target_width low) v in
    let tl = length-take (target_width low) v in
    by_test (is_written (target_writes high (drop (target_width low) v) s) b)
    (λ e. contains-left (target_bits high) (target_bits low) b (target_within high (drop (target_width low) v) s b f.0 (omega (arith, dl)) e))
    (λ e. contains-right (target_bits high) (target_bits low) b (target_within low (take (target_width low) v) s b f.1 (omega (arith, tl)) (subst (λ c. (c || is_written (target_writes low (take (target_width low) v) s) b) ≡ true) e w)))

-- it writes all that it assigns
pub target_assigns : (t : Target) (v : BitList) (s : State) (b : ℕ) → length v ≡ target_width t → contains (assigns t) b ≡ true → is_written (target_writes t v s) b ≡ true
target_assigns (Whole signal) v s b h k =
    written_pairs (map Some (bits_of_signal signal)) v b (length-map (bits_of_signal signal) Some ∙ length_count signal.first (signal_length signal) ∙ sym h) ∙ subst (λ c. contains c b ≡ true) (sym (somes_all (bits_of_signal signal))) k
target_assigns (PartOf signal part index) v s b h k =
    by_test (is_constant index)
    (λ e.
    let k' : contains (if true then selected_bits signal part index else []) b ≡ true = subst (λ (c : Bool). contains (if c then selected_bits signal part index else []) b ≡ true) e k in
    let k2 : contains (somes (bits_at signal (places part (sign index) (constant_value index)))) b ≡ true = subst (λ (c : Bool). contains (if c then somes (bits_at signal (places part (sign index) (constant_value index))) else bits_of_signal signal) b ≡ true) e k' in
    written_part signal part index v s b h ∙ subst (λ (x : BitList). contains (somes (bits_at signal (places part (sign index) x))) b ≡ true) (sym (constant_index index s e)) k2)
    (λ e. absurd (either_way _ (subst (λ (c : Bool). contains (if c then selected_bits signal part index else []) b ≡ true) e k) refl))
target_assigns (WordOf signal index) v s b h k =
    by_test (is_constant index)
    (λ e.
    let k' : contains (addressed_bits signal index) b ≡ true = subst (λ (c : Bool). contains (if c then addressed_bits signal index else []) b ≡ true) e k in
    written_word signal index v s b h
    ∙ subst (λ (x : BitList). contains (somes (bits_at signal (word_places signal (sign index) x))) b ≡ true) (sym (constant_index index s e)) (subst (λ xs. contains xs b ≡ true) (addressed_constant signal index e) k'))
    (λ e. absurd (either_way (contains [] b) (subst (λ (c : Bool). contains (if c then addressed_bits signal index else []) b ≡ true) e k) refl))
target_assigns (WordPartOf signal address part index) v s b h k =
    by_test (is_constant address && is_constant index)
    (λ e.
    let p = and_both (is_constant address) (is_constant index) e in
    let k' : contains (word_part_bits signal address part index) b ≡ true = subst (λ (c : Bool). contains (if c then word_part_bits signal address part index else []) b ≡ true) e k in
    written_word_part signal address part index v s b h
    ∙ subst (λ (x : BitList). contains (somes (bits_at signal (word_part_places signal (sign address) (own_value address s) part (sign index) x))) b ≡ true) (sym (constant_index index s p.1))
    (subst (λ (x : BitList). contains (somes (bits_at signal (word_part_places signal (sign address) x part (sign index) (constant_value index)))) b ≡ true) (sym (constant_index address s p.0))
    (subst (λ xs. contains xs b ≡ true) (part_constant signal address part index e) k')))
    (λ e. absurd (either_way (contains [] b) (subst (λ (c : Bool). contains (if c then word_part_bits signal address part index else []) b ≡ true) e k) refl))
target_assigns (Both high low) v s b h k =
    let dl = length-drop (target_width low) v in
    let tl = length-take (target_width low) v in
    written-append (target_writes high (drop (target_width low) v) s) (target_writes low (take (target_width low) v) s) b
    ∙ by_test (contains (assigns high) b)
    (λ e. or_left (is_written (target_writes high (drop (target_width low) v) s) b) (is_written (target_writes low (take (target_width low) v) s) b) (target_assigns high (drop (target_width low) v) s b (omega (arith, dl)) e))
    (λ e. or_right (is_written (target_writes high (drop (target_width low) v) s) b) (is_written (target_writes low (take (target_width low) v) s) b) (target_assigns low (take (target_width low) v) s b (omega (arith, tl)) (subst (λ c. (c || contains (assigns low) b) ≡ true) e (sym (contains-append (assigns high) (assigns low) b) ∙ k))))

pub parts_within : (t : Target) (e : Expression) (s : State) (b : ℕ) → HasParts t → is_written (assignment_writes t e s) b ≡ true → contains (target_bits t) b ≡ true
parts_within t e s b f h = target_within t (assigned_value e (target_width t) s) s b f (length_assigned e (target_width t) s) (sym (written_last (target_writes t (assigned_value e (target_width t) s) s) b) ∙ h)

pub assignment_within : (t : Target) (e : Expression) (s : State) (b : ℕ) → fits_target t ≡ true → is_written (assignment_writes t e s) b ≡ true → contains (target_bits t) b ≡ true
assignment_within t e s b f = parts_within t e s b (fit_parts t f)

pub assignment_assigns : (t : Target) (e : Expression) (s : State) (b : ℕ) → contains (assigns t) b ≡ true → is_written (assignment_writes t e s) b ≡ true
assignment_assigns t e s b h = written_last (target_writes t (assigned_value e (target_width t) s) s) b ∙ target_assigns t (assigned_value e (target_width t) s) s b (length_assigned e (target_width t) s) h

-- where the writes go depends on the indices alone
pub target_reads_law : (g : Target) (v : BitList) (s t : State) → Agree (target_reads g) s t → target_writes g v s ≡ target_writes g v t
target_reads_law (Whole signal) v s t h = refl
target_reads_law (PartOf signal part index) v s t h = ap {B = List Write} (λ i. pair_up (bits_at signal (places part (sign index) i)) v) (value_reads index (width index) (sign index) s t h)
target_reads_law (WordOf signal index) v s t h = ap {B = List Write} (λ i. pair_up (bits_at signal (word_places signal (sign index) i)) v) (value_reads index (width index) (sign index) s t h)
target_reads_law (WordPartOf signal address part index) v s t h =
    ap {B = List Write} (λ a. pair_up (bits_at signal (word_part_places signal (sign address) a part (sign index) (value index (width index) (sign index) s))) v) (value_reads address (width address) (sign address) s t (agree-left (read_bits address) (read_bits index) s t h))
    ∙ ap {B = List Write} (λ i. pair_up (bits_at signal (word_part_places signal (sign address) (value address (width address) (sign address) t) part (sign index) i)) v) (value_reads index (width index) (sign index) s t (agree-right (read_bits address) (read_bits index) s t h))
target_reads_law (Both high low) v s t h =
    ap {B = List Write} (λ ws. ws ++ target_writes low (take (target_width low) v) s) (target_reads_law high (drop (target_width low) v) s t (agree-left (target_reads high) (target_reads low) s t h))
    ∙ ap {B = List Write} (λ ws. target_writes high (drop (target_width low) v) t ++ ws) (target_reads_law low (take (target_width low) v) s t (agree-right (target_reads high) (target_reads low) s t h))
