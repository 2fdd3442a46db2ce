-- Lanes that are looked at by themselves.
use Rattle.std.proofs.Common.{◌≡◌, ℕ, ◌+◌, ◌<◌, ◌≤◌, Bool, true, false, List, [], ◌∷◌, length, get_or, set, drop, slice_get, Option, Some, None, refl, sym, ap, ap₂, ◌∙◌, subst, inl, inr, arith}
use Rattle.std.specs.List.{list_all}
use Rattle.std.proofs.lemmas.Bool.{cases_eq, false≢true}
use Rattle.std.proofs.lemmas.List.{length-set, get_or-set_same, get_or-set_other, drop_more, drop_all}
use Rattle.std.proofs.lemmas.Option.{slice_get_within, slice_get_read, slice_get-get_or, get_or_from_slice_get}
use Rattle.vs_net.specs.Network.{State}
use Rattle.vs_design.specs.Values.{read}
use Rattle.vs_four.specs.Logic.{BitList}
use Rattle.vs_program.specs.declared.compiled.Span.{Span}
use Rattle.vs_program.specs.Compiled.{span_bits}
use Rattle.vs_program.specs.Program.{spans}
use Rattle.vs_stim.specs.declared.input.Expected.{Expected}
use Rattle.vs_stim.specs.declared.wanted.Digit.{Digit}
use Rattle.vs_stim.specs.Known.{Known}
use Rattle.vs_feed.specs.Lanes.{lane_at}
use Rattle.vs_misses.specs.Missed.{are_met, value_of, Miss, first_miss, Found, on_line, line_of}
use Rattle.vs_misses.specs.declared.row.Row.{Row}
use Rattle.vs_misses.specs.Watch.{found_at, Fits}
use Rattle.vs_misses.specs.Rows.{spans_of}
use Rattle.vs_misses.proofs.Columns.{has_row, few_of_rows}
use Rattle.vs_misses.proofs.Finds.{IsInside, value_of_row, wanted_long, digits_size, column_size, row_inside, some_row}

-- ---- the columns of a lane

-- what the first of the columns that are left comes to
miss_here : (outputs : List Span) (s : State) (n : ℕ) (es : List Expected) (ws : List (List Digit)) (e : Expected) (w : List Digit) → slice_get es n ≡ Some e → slice_get ws n ≡ Some w
    → first_miss outputs s n (drop n es) (drop n ws)
    ≡ (elim (are_met w (value_of outputs s e)) as (λ _. Option Miss) [ true ↦ first_miss outputs s (n + 1) (drop (n + 1) es) (drop (n + 1) ws) | false ↦ Some (record { output = n; wanted = w; got = value_of outputs s e }) ])
miss_here outputs s n es ws e w at wants =
    ap₂ (first_miss outputs s n)
    (drop_more es n e (slice_get_within es n e at) ∙ ap (λ x. x ∷ drop (n + 1) es) (get_or_from_slice_get es n e e at))
    (drop_more ws n w (slice_get_within ws n w wants) ∙ ap (λ x. x ∷ drop (n + 1) ws) (get_or_from_slice_get ws n w w wants))

pub miss_behind : (outputs : List Span) (s : State) (n : ℕ) (es : List Expected) (ws : List (List Digit)) (e : Expected) (w : List Digit) → slice_get es n ≡ Some e → slice_get ws n ≡ Some w
    → are_met w (value_of outputs s e) ≡ true → first_miss outputs s n (drop n es) (drop n ws) ≡ first_miss outputs s (n + 1) (drop (n + 1) es) (drop (n + 1) ws)
miss_behind outputs s n es ws e w at wants met =
    miss_here outputs s n es ws e w at wants
    ∙ ap (λ t. elim t as (λ _. Option Miss) [ true ↦ first_miss outputs s (n + 1) (drop (n + 1) es) (drop (n + 1) ws) | false ↦ Some (record { output = n; wanted = w; got = value_of outputs s e }) ]) met

pub miss_found : (outputs : List Span) (s : State) (n : ℕ) (es : List Expected) (ws : List (List Digit)) (e : Expected) (w : List Digit) → slice_get es n ≡ Some e → slice_get ws n ≡ Some w
    → are_met w (value_of outputs s e) ≡ false → first_miss outputs s n (drop n es) (drop n ws) ≡ Some (record { output = n; wanted = w; got = value_of outputs s e })
miss_found outputs s n es ws e w at wants never =
    miss_here outputs s n es ws e w at wants
    ∙ ap (λ t. elim t as (λ _. Option Miss) [ true ↦ first_miss outputs s (n + 1) (drop (n + 1) es) (drop (n + 1) ws) | false ↦ Some (record { output = n; wanted = w; got = value_of outputs s e }) ]) never

pub miss_none : (outputs : List Span) (s : State) (n : ℕ) (es : List Expected) (ws : List (List Digit)) → length es ≤ n → first_miss outputs s n (drop n es) (drop n ws) ≡ None
miss_none outputs s n es ws h = ap (λ xs. first_miss outputs s n xs (drop n ws)) (drop_all n es h)

-- the column whose output is that of this row, with these digits and the bits that it has
pub record IsColumn (rows : List Row) (s : State) (es : List Expected) (ws : List (List Digit)) (n : ℕ) (e : Expected) (w : List Digit) (got : BitList) : Type 0 where
  pub column : slice_get es n ≡ Some e
  pub wanted : slice_get ws n ≡ Some w
  pub row : Row
  pub row_is : slice_get rows e.output ≡ Some row
  pub got_is : got ≡ read s (span_bits row.span)

-- its bits
value_is : (rows : List Row) (s : State) (es : List Expected) (ws : List (List Digit)) (n : ℕ) (e : Expected) (w : List Digit) (got : BitList) → IsColumn rows s es ws n e w got
    → got ≡ value_of (spans_of rows) s e
value_is rows s es ws n e w got c = c.got_is ∙ sym (value_of_row rows s e c.row c.row_is)

-- what is known of a column and its digits, where the rows are of outputs among so many bits
pub record IsHere (bits : ℕ) (rows : List Row) (k : Known) (n : ℕ) (e : Expected) (w : List Digit) : Type 0 where
  pub column : slice_get k.columns.expected n ≡ Some e
  pub wanted : slice_get k.wanted n ≡ Some w
  pub size : length w ≡ e.length
  pub below : e.output < length rows
  pub few : n < length rows
  pub some : 1 ≤ e.length
  pub short : e.length ≤ 64

-- what is known of its row
pub record HasRow (bits : ℕ) (rows : List Row) (e : Expected) (r : Row) : Type 0 where
  pub row_is : slice_get rows e.output ≡ Some r
  pub length_is : e.length ≡ r.span.length
  pub inside : IsInside bits r.span

has_row_at : (bits : ℕ) (rows : List Row) (k : Known) (n : ℕ) (e : Expected) (r : Row) → list_all (spans bits) (spans_of rows) ≡ true → Fits (spans_of rows) k
    → slice_get k.columns.expected n ≡ Some e → slice_get rows e.output ≡ Some r → HasRow bits rows e r
has_row_at bits rows k n e r inside fits at row = record { row_is = row; length_is = column_size rows k n e r fits at row; inside = row_inside bits rows e.output r inside row }

pub row_read : (bits : ℕ) (rows : List Row) (k : Known) (n : ℕ) (e : Expected) (d : Row) → list_all (spans bits) (spans_of rows) ≡ true → Fits (spans_of rows) k
    → slice_get k.columns.expected n ≡ Some e → e.output < length rows → HasRow bits rows e (get_or rows e.output d)
row_read bits rows k n e d inside fits at below = has_row_at bits rows k n e (get_or rows e.output d) inside fits at (slice_get-get_or rows e.output d below)

pub column_here : (bits : ℕ) (rows : List Row) (k : Known) (n : ℕ) (es : List Expected) (d : Expected) (ws : List (List Digit)) (w : List Digit) → list_all (spans bits) (spans_of rows) ≡ true → Fits (spans_of rows) k
    → es ≡ k.columns.expected → n < length es → ws ≡ k.wanted → w ≡ get_or ws n w → IsHere bits rows k n (get_or es n d) w
column_here bits rows k n es d ws w inside fits same within wants is =
    let e = get_or es n d in
    let at : slice_get k.columns.expected n ≡ Some e = ap (λ (xs : List Expected). slice_get xs n) (sym same) ∙ slice_get-get_or es n d within in
    let there : n < length k.wanted = omega (arith, slice_get_within k.columns.expected n e at, wanted_long k fits.sizes) in
    let digits : slice_get k.wanted n ≡ Some w = slice_get_read k.wanted (length k.wanted) n w refl there (is ∙ ap (λ (xs : List (List Digit)). get_or xs n w) wants) in
    let below : e.output < length rows = has_row rows k.columns.expected n e fits.columns at in
    let found = some_row rows e.output below in
    let row = has_row_at bits rows k n e found.0 inside fits at found.1 in
    record {
      column = at;
      wanted = digits;
      size = sym (ap (λ (ds : List Digit). length ds) (get_or_from_slice_get k.wanted n w [] digits)) ∙ digits_size k n e fits.sizes at;
      below = below;
      few = omega (arith, slice_get_within k.columns.expected n e at, few_of_rows rows k.columns.expected fits.columns fits.once);
      some = omega (arith, row.inside.some, row.length_is);
      short = omega (arith, row.inside.short, row.length_is);
    }

-- it isn't met
pub found_here : (rows : List Row) (s : State) (es : List Expected) (ws : List (List Digit)) (n : ℕ) (e : Expected) (w : List Digit) (got : BitList) (line : ℕ) → IsColumn rows s es ws n e w got
    → are_met w got ≡ false → first_miss (spans_of rows) s n (drop n es) (drop n ws) ≡ first_miss (spans_of rows) s 0 es ws
    → Some (record { line = line; miss = record { output = n; wanted = w; got = got } }) ≡ on_line line (first_miss (spans_of rows) s 0 es ws)
found_here rows s es ws n e w got line c never all =
    let is = value_is rows s es ws n e w got c in
    ap (λ (bits : BitList). on_line line (Some (record { output = n; wanted = w; got = bits }))) is
    ∙ ap (on_line line) (sym (miss_found (spans_of rows) s n es ws e w c.column c.wanted (sym (ap (are_met w) is) ∙ never)) ∙ all)

-- it is met
pub met_here : (rows : List Row) (s : State) (es : List Expected) (ws : List (List Digit)) (n : ℕ) (e : Expected) (w : List Digit) (got : BitList) → IsColumn rows s es ws n e w got
    → are_met w got ≡ true → first_miss (spans_of rows) s n (drop n es) (drop n ws) ≡ first_miss (spans_of rows) s 0 es ws
    → first_miss (spans_of rows) s (n + 1) (drop (n + 1) es) (drop (n + 1) ws) ≡ first_miss (spans_of rows) s 0 es ws
met_here rows s es ws n e w got c met all =
    let is = value_is rows s es ws n e w got c in
    sym (miss_behind (spans_of rows) s n es ws e w c.column c.wanted (sym (ap (are_met w) is) ∙ met)) ∙ all

-- ---- the lanes

-- the first lanes were looked at where they are to be, and the others are as they were
pub record AreLooked (outputs : List Span) (state : ℕ → State) (ks : List Known) (lanes : ℕ → Bool) (count : ℕ) (olds news : List (Option Found)) : Type 0 where
  pub long : length news ≡ length olds
  pub looked : (i : ℕ) → i < count → lanes i ≡ true
      → found_at news i ≡ on_line (line_of (lane_at ks i)) (first_miss outputs (state i) 0 (lane_at ks i).columns.expected (lane_at ks i).wanted)
  pub others : (i : ℕ) → lanes i ≡ false → found_at news i ≡ found_at olds i
  pub later : (i : ℕ) → count ≤ i → found_at news i ≡ found_at olds i

pub looked_more : (outputs : List Span) (state : ℕ → State) (ks : List Known) (lanes : ℕ → Bool) (count : ℕ) (olds news : List (Option Found)) (new : Option Found)
    → count < length news → lanes count ≡ true → new ≡ on_line (line_of (lane_at ks count)) (first_miss outputs (state count) 0 (lane_at ks count).columns.expected (lane_at ks count).wanted)
    → AreLooked outputs state ks lanes count olds news → AreLooked outputs state ks lanes (count + 1) olds (set news count new)
looked_more outputs state ks lanes count olds news new within to_look is h = record {
  long = length-set news count new ∙ h.long;
  looked = λ i below look.
      let P : ℕ → Type 0 = λ n. found_at (set news count new) n ≡ on_line (line_of (lane_at ks n)) (first_miss outputs (state n) 0 (lane_at ks n).columns.expected (lane_at ks n).wanted) in
      elim (cases_eq i count) as (λ _. P i) [
        | inl e ↦ subst P (sym e) (get_or-set_same news count new None within ∙ is)
        | inr ne ↦ get_or-set_other news count i new None ne ∙ h.looked i (omega arith) look
      ];
  others = λ i never. elim (cases_eq i count) as (λ _. found_at (set news count new) i ≡ found_at olds i) [
    | inl e ↦ absurd (false≢true (sym never ∙ ap lanes e ∙ to_look))
    | inr ne ↦ get_or-set_other news count i new None ne ∙ h.others i never
  ];
  later = λ i past. get_or-set_other news count i new None (λ e. let never : ⊥ = omega arith in never) ∙ h.later i (omega arith);
}

pub looked_not : (outputs : List Span) (state : ℕ → State) (ks : List Known) (lanes : ℕ → Bool) (count : ℕ) (olds news : List (Option Found)) → lanes count ≡ false
    → AreLooked outputs state ks lanes count olds news → AreLooked outputs state ks lanes (count + 1) olds news
looked_not outputs state ks lanes count olds news never h = record {
  long = h.long;
  looked = λ i below look. elim (cases_eq i count) as (λ _. found_at news i ≡ on_line (line_of (lane_at ks i)) (first_miss outputs (state i) 0 (lane_at ks i).columns.expected (lane_at ks i).wanted)) [
    | inl e ↦ absurd (false≢true (sym never ∙ sym (ap lanes e) ∙ look))
    | inr ne ↦ h.looked i (omega arith) look
  ];
  others = h.others;
  later = λ i past. h.later i (omega arith);
}
