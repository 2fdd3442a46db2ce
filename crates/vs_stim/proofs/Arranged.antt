-- Values written over stored ones, column by column, stand in the design's order.
use Rattle.std.proofs.Common.{◌≡◌, ◌≢◌, ℕ, zero, suc, ◌+◌, ◌<◌, Bool, true, false, ◌&&◌, List, [], ◌∷◌, ◌++◌, length, take, drop, refl, ap, sym, ◌∙◌, arith, nat_eq, get_or, length-set, eqb-true, append_assoc, append-nil, get_or-set_same, get_or-set_other, ◌⊎◌, inl, inr, add-one}
use Rattle.std.proofs.lemmas.List.{length-map, take_all}
use Rattle.std.proofs.lemmas.Bool.Decides.{eqb_tells}
use Rattle.std.proofs.Math.Seq.{drop-cons, take-suc-set}
use Rattle.std.proofs.Math.ListN.{drop_of_length-le}
use Rattle.std.specs.Prelude.{Option, Some, None, IfSome, IsTrue, codes, bytes_eq, slice_set}
use Rattle.vs_four.specs.declared.Bit4.{Bit4}
use Rattle.vs_stim.specs.declared.input.Column.{Column}
use Rattle.vs_stim.specs.declared.input.Expected.{Expected}
use Rattle.vs_stim.specs.declared.wanted.Digit.{Digit}
use Rattle.vs_stim.specs.declared.row.Row.{Row}
use Rattle.vs_stim.specs.declared.row.Spot.TheVariants.{Start}
use Rattle.vs_stim.specs.Header.{count_of, each_once, is_arrow}
use Rattle.vs_stim.specs.Vectors.{value, with_value, values, value_at, values_from, arranged, vector, wanted, with_wanted, all_wanted, wants, Entry, both_parts, field_count, entry}
use Rattle.vs_stim.specs.Reading.{Said, said, vector_line}
use Rattle.vs_stim.specs.Reading.Said.{Skipped, Malformed, Given}
use Rattle.vs_stim.specs.Fields.{is_skipped, fields}
use Rattle.vs_stim.specs.Wanted.{Wanteds}
use Rattle.vs_stim.specs.Wants.{wanted_to_come, wants_to_come, wants_said, AreWants}
use Rattle.vs_stim.specs.Row.{Values, Tail, with_values, to_come, from_start, row_with, columns_in, each_input, sizes}

-- the values written over the stored ones, each at its column's input
pub written : List Column → Values → Values → Values
written [] vs stored = stored
written (c ∷ cs) [] stored = stored
written (c ∷ cs) (v ∷ vs) stored = written cs vs (slice_set stored c.input v)

pub written_said : Tail → List Column → Option Values → Values → List (List ℕ) → Said Entry
written_said tail cs None stored fs = Malformed
written_said tail cs (Some vs) stored fs = with_values (written cs vs stored) (tail fs)

pub said_next : (tail : Tail) (c : Column) (cs : List Column) (v : List Bit4) (vs : Option Values) (stored : Values) (fs : List (List ℕ))
    → written_said tail cs vs (slice_set stored c.input v) fs ≡ written_said tail (c ∷ cs) (with_value v vs) stored fs
unfolding written written_said
said_next tail c cs v None stored fs = refl
said_next tail c cs v (Some vs) stored fs = refl

pub to_come_written : (tail : Tail) (cs : List Column) (stored : Values) (fs : List (List ℕ))
    → to_come tail cs stored fs ≡ written_said tail cs (values cs (take (length cs) fs)) stored (drop (length cs) fs)
unfolding written written_said
to_come_written tail [] stored [] = refl
to_come_written tail [] stored (f ∷ fs) = refl
to_come_written tail (c ∷ cs) stored [] = refl
to_come_written tail (c ∷ cs) stored (f ∷ fs) = go (value c f) (λ v. to_come_written tail cs (slice_set stored c.input v) fs)
  where
    go : (o : Option (List Bit4))
        → ((v : List Bit4) → to_come tail cs (slice_set stored c.input v) fs ≡ written_said tail cs (values cs (take (length cs) fs)) (slice_set stored c.input v) (drop (length cs) fs))
        → (elim o as (λ _. Said Entry) [ None ↦ Malformed | Some v ↦ to_come tail cs (slice_set stored c.input v) fs ])
        ≡ written_said tail (c ∷ cs) (elim o as (λ _. Option Values) [ None ↦ None | Some v ↦ with_value v (values cs (take (length cs) fs)) ]) stored (drop (length cs) fs)
    go None h = refl
    go (Some v) h = h v ∙ said_next tail c cs v (values cs (take (length cs) fs)) stored (drop (length cs) fs)

pub length-written : (cs : List Column) (vs stored : Values) → length (written cs vs stored) ≡ length stored
unfolding written
length-written [] vs stored = refl
length-written (c ∷ cs) [] stored = refl
length-written (c ∷ cs) (v ∷ vs) stored = length-written cs vs (slice_set stored c.input v) ∙ length-set stored c.input v

-- whether the column is that of input n
pub Told : Column → ℕ → Type 0
Told c n = ((nat_eq c.input n ≡ true) × (c.input ≡ n)) ⊎ ((nat_eq c.input n ≡ false) × (c.input ≢ n))

-- an input without a column keeps its value
pub other_kept : (n : ℕ) (cs : List Column) (vs stored : Values) → count_of n cs ≡ 0 → get_or (written cs vs stored) n [] ≡ get_or stored n []
unfolding written Told
other_kept n [] vs stored h = refl
other_kept n (c ∷ cs) [] stored h = refl
other_kept n (c ∷ cs) (v ∷ vs) stored h = go (eqb_tells c.input n) (other_kept n cs vs (slice_set stored c.input v))
  where
    go : Told c n → (count_of n cs ≡ 0 → get_or (written cs vs (slice_set stored c.input v)) n [] ≡ get_or (slice_set stored c.input v) n []) → get_or (written cs vs (slice_set stored c.input v)) n [] ≡ get_or stored n []
    go (inl t) k = absurd (omega (arith, rw (t.0, count_of) at h))
    go (inr t) k = k (rw (t.0, count_of) at h) ∙ get_or-set_other stored c.input n v [] (λ e. t.1 (sym e))

-- an input with one column gets that column's value
pub one_written : (n : ℕ) (cs : List Column) (vs stored : Values) → length vs ≡ length cs → n < length stored → count_of n cs ≡ 1 → get_or (written cs vs stored) n [] ≡ value_at n cs vs
unfolding written Told
one_written n [] vs stored l b h = absurd (omega arith)
one_written n (c ∷ cs) [] stored l b h = absurd (omega arith)
one_written n (c ∷ cs) (v ∷ vs) stored l b h = go (eqb_tells c.input n) (one_written n cs vs (slice_set stored c.input v) (omega arith) (simp length-set (b)))
  where
    go : Told c n → (count_of n cs ≡ 1 → get_or (written cs vs (slice_set stored c.input v)) n [] ≡ value_at n cs vs) → get_or (written cs vs (slice_set stored c.input v)) n [] ≡ (elim (nat_eq c.input n) as (λ _. List Bit4) [ true ↦ v | false ↦ value_at n cs vs ])
    go (inl t) k =
        let none : count_of n cs ≡ 0 = omega (arith, rw (t.0, count_of) at h) in
        rw t.0 (other_kept n cs vs (slice_set stored c.input v) none ∙ rw t.1 (get_or-set_same stored n v [] b))
    go (inr t) k = rw t.0 (k (rw (t.0, count_of) at h))

-- where each place has its input's value, the list is the values in the design's order
pub values_in_order : (cs : List Column) (vs st : Values) (n k : ℕ) → n + k ≡ length st → ((j : ℕ) → j < length st → get_or st j [] ≡ value_at j cs vs) → drop n st ≡ values_from n k cs vs
values_in_order cs vs st n zero e h = drop_of_length-le st (omega arith)
values_in_order cs vs st n (suc k) e h =
    let lt : n < length st = omega arith in
    drop-cons st n [] lt
    ∙ ap (λ v. v ∷ drop (suc n) st) (h n lt)
    ∙ ap (λ ys. value_at n cs vs ∷ ys) (rw add-one (values_in_order cs vs st (suc n) k (omega arith) h))

both : (a b : Bool) → (a && b) ≡ true → (a ≡ true) × (b ≡ true)
both true b h = (refl, h)
both false b h = absurd (cc)

pub once_below : (m : ℕ) (cs : List Column) → each_once m cs ≡ true → (j : ℕ) → j < m → count_of j cs ≡ 1
once_below zero cs h j lt = absurd (omega arith)
once_below (suc m) cs h j lt = go (eqb_tells j m) (once_below m cs (both _ _ h).1 j)
  where
    go : ((nat_eq j m ≡ true) × (j ≡ m)) ⊎ ((nat_eq j m ≡ false) × (j ≢ m)) → (j < m → count_of j cs ≡ 1) → count_of j cs ≡ 1
    go (inl t) k = rw t.1 (eqb-true (count_of m cs) 1 (both _ _ h).0)
    go (inr t) k = k (omega (arith, t.1))

pub one_each : (cs : List Column) (fs : List (List ℕ)) → IfSome (values cs fs) (λ vs. length vs ≡ length cs)
one_each [] [] = refl
one_each [] (f ∷ fs) = tt
one_each (c ∷ cs) [] = tt
one_each (c ∷ cs) (f ∷ fs) = go (value c f) (values cs fs) (one_each cs fs)
  where
    go : (o : Option (List Bit4)) (p : Option Values) → IfSome p (λ vs. length vs ≡ length cs) → IfSome (elim o as (λ _. Option Values) [ None ↦ None | Some v ↦ with_value v p ]) (λ vs. length vs ≡ length (c ∷ cs))
    go None p h = tt
    go (Some v) None h = tt
    go (Some v) (Some vs) h = ap suc h

pub in_order : (cs : List Column) (vs stored : Values) → length vs ≡ length cs → length stored ≡ length cs → each_once (length cs) cs ≡ true → written cs vs stored ≡ values_from 0 (length cs) cs vs
in_order cs vs stored l m h =
    values_in_order cs vs (written cs vs stored) 0 (length cs) (omega (arith, length-written cs vs stored))
    (λ j lt. let lt' : j < length stored = omega (arith, length-written cs vs stored) in one_written j cs vs stored l lt' (once_below (length cs) cs h j (omega arith)))

-- ---- what is behind the inputs

-- digits in front of others
placed : Wanteds → Option Wanteds → Said Wanteds
placed ps None = Malformed
placed ps (Some ws) = Given (ps ++ ws)

placed_next : (ps : Wanteds) (w : List Digit) (o : Option Wanteds) → placed (ps ++ w ∷ []) o ≡ placed ps (with_wanted w o)
unfolding placed
placed_next ps w None = refl
placed_next ps w (Some ws) = ap Given (append_assoc ps (w ∷ []) ws)

wanted_placed : (es : List Expected) (n : ℕ) (stored : Wanteds) (fs : List (List ℕ)) → n + length es ≡ length stored
    → wanted_to_come es n stored fs ≡ placed (take n stored) (all_wanted es fs)
unfolding placed
wanted_placed [] n stored [] h = ap Given (sym (append-nil (take n stored) ∙ take_all n stored (omega (arith, h))))
wanted_placed [] n stored (f ∷ fs) h = refl
wanted_placed (e ∷ es) n stored [] h = refl
wanted_placed (e ∷ es) n stored (f ∷ fs) h =
    go (omega (arith, h)) (wanted e f) (λ w. wanted_placed es (n + 1) (slice_set stored n w) fs (omega (arith, h, length-set stored n w)))
  where
    go : n < length stored → (o : Option (List Digit)) → ((w : List Digit) → wanted_to_come es (n + 1) (slice_set stored n w) fs ≡ placed (take (n + 1) (slice_set stored n w)) (all_wanted es fs))
        → (elim o as (λ _. Said Wanteds) [ None ↦ Malformed | Some w ↦ wanted_to_come es (n + 1) (slice_set stored n w) fs ])
        ≡ placed (take n stored) (elim o as (λ _. Option Wanteds) [ None ↦ None | Some w ↦ with_wanted w (all_wanted es fs) ])
    go here None next = refl
    go here (Some w) next =
        next w
        ∙ ap (λ ps. placed ps (all_wanted es fs)) (ap (λ m. take m (slice_set stored n w)) (add-one n) ∙ take-suc-set stored n w here)
        ∙ placed_next (take n stored) w (all_wanted es fs)

wants_are : (es : List Expected) (stored : Wanteds) (fs : List (List ℕ)) → length es ≡ length stored → wants_to_come es stored fs ≡ said (wants es fs)
unfolding placed
wants_are [] [] [] h = refl
wants_are [] (w ∷ ws) [] h = absurd (omega (arith, h))
wants_are [] stored (f ∷ fs) h = refl
wants_are (e ∷ es) stored [] h = refl
wants_are (e ∷ es) stored (f ∷ fs) h = go (is_arrow f)
  where
    front : (o : Option Wanteds) → placed [] o ≡ said o
    front None = refl
    front (Some ws) = refl

    go : (b : Bool) → (elim b as (λ _. Said Wanteds) [ true ↦ wanted_to_come (e ∷ es) 0 stored fs | false ↦ Malformed ])
        ≡ said (elim b as (λ _. Option Wanteds) [ true ↦ all_wanted (e ∷ es) fs | false ↦ None ])
    go true = wanted_placed (e ∷ es) 0 stored fs (omega (arith, h)) ∙ front (all_wanted (e ∷ es) fs)
    go false = refl

-- ---- the whole

both_said : (vs : Values) (o : Option Wanteds) → with_values vs (said o) ≡ said (both_parts (Some vs) o)
both_said vs None = refl
both_said vs (Some ws) = refl

-- A line from its start says what the definition says.
pub from_start_said : (tail : Tail) (wanted_by : List (List ℕ) → Option Wanteds) (cs : List Column) (stored : Values) (fs : List (List ℕ)) → ((fs : List (List ℕ)) → tail fs ≡ said (wanted_by fs))
    → length stored ≡ length cs → each_once (length cs) cs ≡ true → from_start tail cs stored fs ≡ said (both_parts (vector cs (take (field_count cs) fs)) (wanted_by (drop (field_count cs) fs)))
unfolding written_said
from_start_said tail wanted_by [] (v ∷ vs) fs t m h = absurd (omega arith)
from_start_said tail wanted_by [] [] [] t m h = refl
from_start_said tail wanted_by [] [] (f ∷ fs) t m h = go (bytes_eq f (codes "-"))
  where
    go : (b : Bool) → (elim b as (λ _. Said Entry) [ true ↦ with_values [] (tail fs) | false ↦ Malformed ]) ≡ said (both_parts (elim b as (λ _. Option Values) [ true ↦ Some [] | false ↦ None ]) (wanted_by fs))
    go true = ap (with_values []) (t fs) ∙ both_said [] (wanted_by fs)
    go false = refl
from_start_said tail wanted_by (c ∷ cs) stored fs t m h =
    to_come_written tail (c ∷ cs) stored fs ∙ go (values (c ∷ cs) (take (length (c ∷ cs)) fs)) (one_each (c ∷ cs) (take (length (c ∷ cs)) fs))
  where
    go : (o : Option Values) → IfSome o (λ vs. length vs ≡ length (c ∷ cs)) → written_said tail (c ∷ cs) o stored (drop (length (c ∷ cs)) fs) ≡ said (both_parts (arranged (c ∷ cs) o) (wanted_by (drop (length (c ∷ cs)) fs)))
    go None l = refl
    go (Some vs) l =
        (λ i. with_values (in_order (c ∷ cs) vs stored l m h i) (t (drop (length (c ∷ cs)) fs) i)) ∙ both_said (values_from 0 (length (c ∷ cs)) (c ∷ cs) vs) (wanted_by (drop (length (c ∷ cs)) fs))

pub row_from_start : (row : Row) (rest : List ℕ) → row.spot ≡ Start → length row.values.items ≡ length row.columns.items → each_once (length row.columns.items) row.columns.items ≡ true
    → AreWants row.wants → row_with row rest ≡ vector_line (columns_in row) rest
row_from_start row rest s m h w = rw s (go (is_skipped rest))
  where
    many : length row.wants.expected.items ≡ length row.wants.values.items
    many =
        sym (length-map row.wants.expected.items (λ e. e.length)) ∙ ap length (sym w.sizes) ∙ length-map row.wants.values.items (λ v. length v)

    go : (b : Bool)
        → (elim b as (λ _. Said Entry) [ true ↦ Skipped | false ↦ from_start (wants_said row.wants) row.columns.items row.values.items (fields rest) ])
        ≡ (elim b as (λ _. Said Entry) [ true ↦ Skipped | false ↦ said (entry (columns_in row) (fields rest)) ])
    go true = refl
    go false =
        from_start_said (wants_said row.wants) (wants row.wants.expected.items) row.columns.items row.values.items (fields rest)
        (λ fs. wants_are row.wants.expected.items row.wants.values.items fs many) m h

pub row_says : (row : Row) (rest : List ℕ) → row.spot ≡ Start → IsTrue (each_input row) → AreWants row.wants → row_with row rest ≡ vector_line (columns_in row) rest
row_says row rest s h w =
    let p = both (nat_eq (length (sizes row.values.items)) (length row.columns.items)) (each_once (length row.columns.items) row.columns.items) h in
    row_from_start row rest s (sym (length-map row.values.items (λ v. length v)) ∙ eqb-true (length (sizes row.values.items)) (length row.columns.items) p.0) p.1 w
