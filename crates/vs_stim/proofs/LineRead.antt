-- Lines of plain digits, field by field.
use Rattle.std.proofs.Common.{All, ◌≡◌, ℕ, zero, suc, ◌+◌, ◌<◌, ◌≤◌, Bool, true, false, ◌||◌, ◌&&◌, ◌-◌, nat_eq, nat_le, nat_lt, ◌≢◌, List, [], ◌∷◌, ◌++◌, length, drop, get_or, refl, sym, ap, ◌∙◌, subst, arith, add-one, append_assoc, length-append}
use Rattle.std.proofs.lemmas.List.{append-nil, drop-drop, length-map}
use Rattle.std.proofs.lemmas.List.Elements.{All-get_or}
use Rattle.std.proofs.lemmas.Bool.{eq-eqb, le-ltb}
use Rattle.std.proofs.Math.Seq.{drop-cons}
use Rattle.std.proofs.Math.ListN.{drop_of_length-le}
use Rattle.std.specs.Prelude.{Option, Some, None, take, slice_set, slice_index, IsTrue}
use Rattle.vs_desk.specs.Desk.{Told}
use Rattle.vs_four.specs.declared.Bit4.{Bit4}
use Rattle.vs_four.specs.Planes.{bits_of_planes}
use Rattle.vs_stim.specs.declared.input.Column.{Column}
use Rattle.vs_stim.specs.declared.input.Expected.{Expected}
use Rattle.vs_stim.specs.declared.wanted.Digit.{Digit}
use Rattle.vs_stim.specs.declared.wanted.Digit.TheVariants.{Exactly}
use Rattle.vs_stim.specs.declared.row.Row.{Row}
use Rattle.vs_stim.specs.declared.row.Spot.TheVariants.{Start}
use Rattle.vs_stim.specs.declared.source.Source.{Source}
use Rattle.vs_stim.specs.declared.error.StimError.{StimError}
use Rattle.vs_stim.specs.declared.error.StimError.TheVariants.{StimulusTooLong, LineTooLong}
use Rattle.vs_stim.specs.Fields.{Fields, is_skipped, all_fields, fields}
use Rattle.vs_stim.specs.Header.{each_once}
use Rattle.vs_stim.specs.Lines.{Lines, lines, all_lines, content, without_cr, is_inner}
use Rattle.vs_stim.specs.Reading.{Said, Place, limits, too_long}
use Rattle.vs_stim.specs.Reading.Said.{Skipped, Malformed, Given}
use Rattle.vs_stim.specs.Vectors.{Entry, digit, bits_of, wanted_of}
use Rattle.vs_stim.specs.Wanted.{Wanteds, exactly, wanted_sizes}
use Rattle.vs_stim.specs.Wants.{wanted_to_come, wants_to_come, wants_said, expected_lengths, IsExpected}
use Rattle.vs_stim.specs.Row.{Values, Tail, with_values, to_come, from_start, row_with, entry_in, sizes, each_input, IsColumn}
use Rattle.vs_stim.specs.Source.{Open, open_before, open_at, line_length, says, Passes, PassesLf}
use Rattle.vs_stim.specs.Plain.{IsField, Begins, BeginsLine, ReadsInputs, EndsInputs, ReadsExpected, EndsExpected, IsArrow, IsLine, PassedLine, HasLine}
use Rattle.vs_stim.proofs.Ahead.{behind_place, NoBlanks, NoEnds, other, first_digit, words_ahead, inner_digits, inner-append, no_lf_ahead, without_cr_ahead, exactly_read}
use Rattle.vs_stim.proofs.Sized.{sizes-set}
use Rattle.vs_stim.proofs.Untold.{lines_closed}
use Rattle.vs_stim.proofs.Wanting.{length_at, wanted_sizes-set}

-- ---- fields

no_blanks : NoBlanks digit
no_blanks = record { space = refl; tab = refl }

no_ends : NoEnds digit
no_ends = record { lf = refl; cr = refl }

-- a field of one digit
pub one_field : (bytes : List ℕ) (digit_read : ℕ) → 1 < length bytes → digit_read ≤ 1 → (digit_read ≡ 0 → get_or bytes 0 0 ≡ 48) → (digit_read ≡ 1 → get_or bytes 0 0 ≡ 49)
    → IsField bytes 1 (get_or bytes 1 0) (bits_of_planes 1 digit_read 0)
unfolding bits_of_planes
one_field [] m h few p q = absurd (let e : ⊥ = omega arith in e)
one_field (a ∷ []) m h few p q = absurd (let e : ⊥ = omega arith in e)
one_field (a ∷ (b ∷ bytes)) zero h few p q = record { digits = a ∷ []; bytes_are = refl; many = refl; are = ap (λ (x : ℕ). bits_of (x ∷ [])) (p refl) }
one_field (a ∷ (b ∷ bytes)) (suc zero) h few p q = record { digits = a ∷ []; bytes_are = refl; many = refl; are = ap (λ (x : ℕ). bits_of (x ∷ [])) (q refl) }
one_field (a ∷ (b ∷ bytes)) (suc (suc m)) h few p q = absurd (let e : ⊥ = omega arith in e)

-- a field with a space behind it
first_field : (text rest : List ℕ) (bits : List Bit4) → bits_of text ≡ Some bits → 1 ≤ length text → fields (text ++ 32 ∷ rest) ≡ text ∷ fields rest
first_field [] rest bits h k = absurd (omega (arith, k))
first_field (a ∷ text) rest bits h k =
    ap (λ (t : Fields). all_fields t.word t.later) (words_ahead digit no_blanks (a ∷ text) (32 ∷ rest) bits h) ∙ ap (λ w. w ∷ fields rest) (append-nil (a ∷ text))

-- a field alone
last_field : (text : List ℕ) (bits : List Bit4) → bits_of text ≡ Some bits → 1 ≤ length text → fields text ≡ text ∷ []
last_field [] bits h k = absurd (omega (arith, k))
last_field (a ∷ text) bits h k =
    ap fields (sym (append-nil (a ∷ text)))
    ∙ ap (λ (t : Fields). all_fields t.word t.later) (words_ahead digit no_blanks (a ∷ text) [] bits h)
    ∙ ap (λ w. w ∷ []) (append-nil (a ∷ text))

-- a line that begins with a digit isn't skipped
digit_counts : (text rest : List ℕ) (bits : List Bit4) → bits_of text ≡ Some bits → 1 ≤ length text → is_skipped (text ++ rest) ≡ false
digit_counts [] rest bits h k = absurd (omega (arith, k))
digit_counts (a ∷ text) rest bits h k =
    let f = first_digit digit a text bits h in
    (λ i. elim (other digit a 32 f.first f.is refl i || other digit a 9 f.first f.is refl i) as (λ _. Bool) [ true ↦ is_skipped (text ++ rest) | false ↦ nat_eq a 35 ]) ∙ other digit a 35 f.first f.is refl

-- the first of these columns is read
input_said : (tail : Tail) (c : Column) (cs : List Column) (stored : Values) (text : List ℕ) (fs : List (List ℕ)) (bits : List Bit4) → bits_of text ≡ Some bits → length text ≡ c.length
    → to_come tail (c ∷ cs) stored (text ∷ fs) ≡ to_come tail cs (slice_set stored c.input bits) fs
input_said tail c cs stored text fs bits h k =
    ap (λ b. elim (elim b as (λ _. Option (List Bit4)) [ true ↦ bits_of text | false ↦ None ]) as (λ _. Said Entry) [ None ↦ Malformed | Some v ↦ to_come tail cs (slice_set stored c.input v) fs ])
    (eq-eqb (length text) c.length k)
    ∙ ap (λ o. elim o as (λ _. Said Entry) [ None ↦ Malformed | Some v ↦ to_come tail cs (slice_set stored c.input v) fs ]) h

wanted_said : (e : Expected) (es : List Expected) (n : ℕ) (stored : Wanteds) (text : List ℕ) (fs : List (List ℕ)) (bits : List Bit4) → bits_of text ≡ Some bits → length text ≡ e.length
    → wanted_to_come (e ∷ es) n stored (text ∷ fs) ≡ wanted_to_come es (n + 1) (slice_set stored n (exactly bits)) fs
wanted_said e es n stored text fs bits h k =
    ap (λ b. elim (elim b as (λ _. Option (List Digit)) [ true ↦ wanted_of text | false ↦ None ]) as (λ _. Said Wanteds) [ None ↦ Malformed | Some w ↦ wanted_to_come es (n + 1) (slice_set stored n w) fs ])
    (eq-eqb (length text) e.length k)
    ∙ ap (λ o. elim o as (λ _. Said Wanteds) [ None ↦ Malformed | Some w ↦ wanted_to_come es (n + 1) (slice_set stored n w) fs ]) (exactly_read text bits h)

-- ---- texts

-- one more field, with the byte behind it
joined : (text digits rest : List ℕ) (end : ℕ) → (text ++ (digits ++ end ∷ [])) ++ rest ≡ text ++ (digits ++ end ∷ rest)
joined text digits rest end = append_assoc text (digits ++ end ∷ []) rest ∙ ap (λ xs. text ++ xs) (append_assoc digits (end ∷ []) rest)

bytes_behind : (bytes text digits : List ℕ) (at more end : ℕ) → bytes ≡ text ++ drop at bytes → drop at bytes ≡ digits ++ end ∷ drop more (drop at bytes)
    → bytes ≡ text ++ (digits ++ end ∷ drop (at + more) bytes)
bytes_behind bytes text digits at more end h k = h ∙ ap (λ xs. text ++ xs) (k ∙ ap (λ xs. digits ++ end ∷ xs) (drop-drop more at bytes))

begins_none : (bytes : List ℕ) → Begins bytes [] 0
begins_none bytes = record { bytes_are = refl; long = refl; inner = refl }

begins_more : (bytes text : List ℕ) (at size : ℕ) (bits : List Bit4) → Begins bytes text at → (f : IsField (drop at bytes) size 32 bits)
    → Begins bytes (text ++ (f.digits ++ 32 ∷ [])) (at + (size + 1))
begins_more bytes text at size bits b f = record {
  bytes_are = bytes_behind bytes text f.digits at (size + 1) 32 b.bytes_are f.bytes_are ∙ sym (joined text f.digits (drop (at + (size + 1)) bytes) 32);
  long = omega (arith, length-append text (f.digits ++ 32 ∷ []), length-append f.digits (32 ∷ []), b.long, f.many);
  inner = inner-append text (f.digits ++ 32 ∷ []) b.inner (inner-append f.digits (32 ∷ []) (inner_digits digit no_ends f.digits bits f.are) refl);
}

begins_line : (bytes text : List ℕ) (at size : ℕ) (bits : List Bit4) → Begins bytes text at → (f : IsField (drop at bytes) size 10 bits) → BeginsLine bytes (text ++ f.digits) (at + (size + 1))
begins_line bytes text at size bits b f = record {
  bytes_are = bytes_behind bytes text f.digits at (size + 1) 10 b.bytes_are f.bytes_are ∙ sym (append_assoc text f.digits (10 ∷ drop (at + (size + 1)) bytes));
  long = omega (arith, length-append text f.digits, b.long, f.many);
  inner = inner-append text f.digits b.inner (inner_digits digit no_ends f.digits bits f.are);
}

field_here : (bytes : List ℕ) (at size end : ℕ) (bits : List Bit4) → IsField (take (length bytes - at) (drop at bytes)) size end bits → IsField (drop at bytes) size end bits
field_here bytes at size end bits f = subst (λ xs. IsField xs size end bits) (behind_place bytes at) f

-- what was read is no more than there is
pub begins_within : (bytes text : List ℕ) (at : ℕ) → Begins bytes text at → at ≤ length bytes
begins_within bytes text at b = let e : length bytes ≡ length (text ++ drop at bytes) = ap length b.bytes_are in omega (arith, e, length-append text (drop at bytes), b.long)

-- ---- inputs

pub inputs_none : (columns : List Column) (bytes : List ℕ) (stored : Values) → ReadsInputs columns 0 0 bytes stored stored
inputs_none columns bytes stored = record { text = []; begins = begins_none bytes; counts = λ rest h. h; says = λ tail rest. refl }

more_inputs : (columns : List Column) (n at : ℕ) (bytes : List ℕ) (before now : Values) (c d : Column) (bits : List Bit4) → ReadsInputs columns n at bytes before now
    → n < length columns → c ≡ get_or columns n d → 1 ≤ c.length → IsField (drop at bytes) c.length 32 bits → ReadsInputs columns (n + 1) (at + (c.length + 1)) bytes before (slice_set now c.input bits)
more_inputs columns n at bytes before now c d bits r k e some f = record {
  text = r.text ++ (f.digits ++ 32 ∷ []);
  begins = begins_more bytes r.text at c.length bits r.begins f;
  counts = λ rest h. ap is_skipped (joined r.text f.digits rest 32) ∙ r.counts (f.digits ++ 32 ∷ rest) (digit_counts f.digits (32 ∷ rest) bits f.are long);
  says = λ tail rest.
      ap (λ xs. to_come tail columns before (fields xs)) (joined r.text f.digits rest 32)
      ∙ r.says tail (f.digits ++ 32 ∷ rest)
      ∙ (λ i. to_come tail (left i) now (first_field f.digits rest bits f.are long i))
      ∙ input_said tail c (drop (n + 1) columns) now f.digits (fields rest) bits f.are f.many;
}
  where
    long : 1 ≤ length f.digits
    long = omega (arith, some, f.many)

    left : drop n columns ≡ c ∷ drop (n + 1) columns
    left = drop-cons columns n d k ∙ (λ i. sym e i ∷ drop (sym (add-one n) i) columns)

end_inputs : (columns : List Column) (n at : ℕ) (bytes : List ℕ) (before now : Values) (c d : Column) (bits : List Bit4) → ReadsInputs columns n at bytes before now
    → n + 1 ≡ length columns → c ≡ get_or columns n d → 1 ≤ c.length → IsField (drop at bytes) c.length 10 bits → EndsInputs columns (at + (c.length + 1)) bytes before (slice_set now c.input bits)
end_inputs columns n at bytes before now c d bits r k e some f = record {
  text = r.text ++ f.digits;
  begins = begins_line bytes r.text at c.length bits r.begins f;
  counts = r.counts f.digits (ap is_skipped (sym (append-nil f.digits)) ∙ digit_counts f.digits [] bits f.are long);
  says = λ tail.
      r.says tail f.digits
      ∙ (λ i. to_come tail (left i) now (last_field f.digits bits f.are long i))
      ∙ input_said tail c [] now f.digits [] bits f.are f.many;
}
  where
    long : 1 ≤ length f.digits
    long = omega (arith, some, f.many)

    past : length columns ≤ suc n
    past = omega (arith, k)

    left : drop n columns ≡ c ∷ []
    left = drop-cons columns n d (omega (arith, k)) ∙ (λ i. sym e i ∷ drop_of_length-le columns past i)

-- the same by the columns' places
pub inputs_more : (columns : List Column) (n at : ℕ) (bytes : List ℕ) (before now : Values) (d : Column) (bits : List Bit4) → All (IsColumn (sizes before)) columns → ReadsInputs columns n at bytes before now
    → n < length columns → IsField (take (length bytes - at) (drop at bytes)) (get_or columns n d).length 32 bits
    → ReadsInputs columns (n + 1) (at + ((get_or columns n d).length + 1)) bytes before (slice_set now (get_or columns n d).input bits)
inputs_more columns n at bytes before now d bits a r k f =
    more_inputs columns n at bytes before now (get_or columns n d) d bits r k refl (All-get_or (IsColumn (sizes before)) columns n d k a).some (field_here bytes at (get_or columns n d).length 32 bits f)

pub inputs_end : (columns : List Column) (n at : ℕ) (bytes : List ℕ) (before now : Values) (d : Column) (bits : List Bit4) → All (IsColumn (sizes before)) columns → ReadsInputs columns n at bytes before now
    → n + 1 ≡ length columns → IsField (take (length bytes - at) (drop at bytes)) (get_or columns n d).length 10 bits
    → EndsInputs columns (at + (get_or columns n d).length + 1) bytes before (slice_set now (get_or columns n d).input bits)
inputs_end columns n at bytes before now d bits a r k f =
    let c = get_or columns n d in
    subst (λ count. EndsInputs columns count bytes before (slice_set now c.input bits)) (let e : at + (c.length + 1) ≡ at + c.length + 1 = omega arith in e)
    (end_inputs columns n at bytes before now c d bits r k refl (All-get_or (IsColumn (sizes before)) columns n d (omega (arith, k)) a).some (field_here bytes at (get_or columns n d).length 10 bits f))

pub inputs_sizes : (columns : List Column) (n : ℕ) (before now : Values) (d : Column) (bits : List Bit4) → All (IsColumn (sizes before)) columns → sizes now ≡ sizes before → n < length columns
    → length bits ≡ (get_or columns n d).length → sizes (slice_set now (get_or columns n d).input bits) ≡ sizes before
inputs_sizes columns n before now d bits a e k l =
    let c = get_or columns n d in
    sizes-set now c bits (subst (λ lengths. IsColumn lengths c) (sym e) (All-get_or (IsColumn (sizes before)) columns n d k a)) l ∙ e

-- ---- expected outputs

pub expected_none : (columns : List Expected) (bytes : List ℕ) (stored : Wanteds) → ReadsExpected columns 0 0 bytes stored stored
expected_none columns bytes stored = record { text = []; begins = begins_none bytes; says = λ rest. refl }

more_expected : (columns : List Expected) (n at : ℕ) (bytes : List ℕ) (before now : Wanteds) (c d : Expected) (bits : List Bit4) → ReadsExpected columns n at bytes before now
    → n < length columns → c ≡ get_or columns n d → 1 ≤ c.length → IsField (drop at bytes) c.length 32 bits → ReadsExpected columns (n + 1) (at + (c.length + 1)) bytes before (slice_set now n (exactly bits))
more_expected columns n at bytes before now c d bits r k e some f = record {
  text = r.text ++ (f.digits ++ 32 ∷ []);
  begins = begins_more bytes r.text at c.length bits r.begins f;
  says = λ rest.
      ap (λ xs. wanted_to_come columns 0 before (fields xs)) (joined r.text f.digits rest 32)
      ∙ r.says (f.digits ++ 32 ∷ rest)
      ∙ (λ i. wanted_to_come (left i) n now (first_field f.digits rest bits f.are long i))
      ∙ wanted_said c (drop (n + 1) columns) n now f.digits (fields rest) bits f.are f.many;
}
  where
    long : 1 ≤ length f.digits
    long = omega (arith, some, f.many)

    left : drop n columns ≡ c ∷ drop (n + 1) columns
    left = drop-cons columns n d k ∙ (λ i. sym e i ∷ drop (sym (add-one n) i) columns)

end_expected : (columns : List Expected) (n at : ℕ) (bytes : List ℕ) (before now : Wanteds) (c d : Expected) (bits : List Bit4) → ReadsExpected columns n at bytes before now
    → n + 1 ≡ length columns → c ≡ get_or columns n d → 1 ≤ c.length → IsField (drop at bytes) c.length 10 bits → EndsExpected columns (at + (c.length + 1)) bytes before (slice_set now n (exactly bits))
end_expected columns n at bytes before now c d bits r k e some f = record {
  text = r.text ++ f.digits;
  begins = begins_line bytes r.text at c.length bits r.begins f;
  says =
      r.says f.digits
      ∙ (λ i. wanted_to_come (left i) n now (last_field f.digits bits f.are long i))
      ∙ wanted_said c [] n now f.digits [] bits f.are f.many;
}
  where
    long : 1 ≤ length f.digits
    long = omega (arith, some, f.many)

    past : length columns ≤ suc n
    past = omega (arith, k)

    left : drop n columns ≡ c ∷ []
    left = drop-cons columns n d (omega (arith, k)) ∙ (λ i. sym e i ∷ drop_of_length-le columns past i)

pub expected_more : (columns : List Expected) (n at : ℕ) (bytes : List ℕ) (before now : Wanteds) (d : Expected) (bits : List Bit4) → All IsExpected columns → ReadsExpected columns n at bytes before now
    → n < length columns → IsField (take (length bytes - at) (drop at bytes)) (get_or columns n d).length 32 bits → ReadsExpected columns (n + 1) (at + ((get_or columns n d).length + 1)) bytes before (slice_set now n (exactly bits))
expected_more columns n at bytes before now d bits a r k f =
    more_expected columns n at bytes before now (get_or columns n d) d bits r k refl (All-get_or IsExpected columns n d k a).some (field_here bytes at (get_or columns n d).length 32 bits f)

pub expected_end : (columns : List Expected) (n at : ℕ) (bytes : List ℕ) (before now : Wanteds) (d : Expected) (bits : List Bit4) → All IsExpected columns → ReadsExpected columns n at bytes before now
    → n + 1 ≡ length columns → IsField (take (length bytes - at) (drop at bytes)) (get_or columns n d).length 10 bits → EndsExpected columns (at + (get_or columns n d).length + 1) bytes before (slice_set now n (exactly bits))
expected_end columns n at bytes before now d bits a r k f =
    let c = get_or columns n d in
    subst (λ count. EndsExpected columns count bytes before (slice_set now n (exactly bits))) (let e : at + (c.length + 1) ≡ at + c.length + 1 = omega arith in e)
    (end_expected columns n at bytes before now c d bits r k refl (All-get_or IsExpected columns n d (omega (arith, k)) a).some (field_here bytes at (get_or columns n d).length 10 bits f))

pub expected_sizes : (columns : List Expected) (n : ℕ) (before now : Wanteds) (d : Expected) (bits : List Bit4) → wanted_sizes before ≡ expected_lengths columns → wanted_sizes now ≡ wanted_sizes before
    → n < length columns → length bits ≡ (get_or columns n d).length → wanted_sizes (slice_set now n (exactly bits)) ≡ wanted_sizes before
expected_sizes columns n before now d bits s e k l =
    wanted_sizes-set now n (exactly bits)
    (length-map bits (λ b. Exactly b) ∙ l ∙ sym (length_at columns n (get_or columns n d) d refl k) ∙ ap (λ lengths. slice_index lengths n) (sym s ∙ sym e))
    ∙ e

-- ---- lines

pub inputs_line : (columns : List Column) (expected : List Expected) (count : ℕ) (bytes : List ℕ) (before after : Values) (stored : Wanteds) → length expected ≡ 0 → EndsInputs columns count bytes before after
    → IsLine columns expected count bytes (record { values = before; wanted = stored }) (record { values = after; wanted = stored })
inputs_line columns [] count bytes before after stored z r = record { text = r.text; begins = r.begins; counts = r.counts; says = r.says (wants_to_come [] stored) }
inputs_line columns (e ∷ es) count bytes before after stored z r = absurd (omega (arith, z))

arrow_said : (es : List Expected) (stored : Wanteds) (fs : List (List ℕ)) → length es ≢ 0 → wants_to_come es stored ((45 ∷ 62 ∷ []) ∷ fs) ≡ wanted_to_come es 0 stored fs
arrow_said [] stored fs h = absurd (h refl)
arrow_said (e ∷ es) stored fs h = refl

none_left : (tail : Tail) (columns : List Column) (n : ℕ) (stored : Values) (fs : List (List ℕ)) → length columns ≤ n → to_come tail (drop n columns) stored fs ≡ with_values stored (tail fs)
none_left tail columns n stored fs h = ap (λ cs. to_come tail cs stored fs) (drop_of_length-le columns h)

line_of_both : (columns : List Column) (expected : List Expected) (at count : ℕ) (bytes : List ℕ) (before after : Values) (old new : Wanteds) → length expected ≢ 0
    → ReadsInputs columns (length columns) at bytes before after → IsArrow (drop at bytes) → EndsExpected expected count (drop (at + 3) bytes) old new
    → IsLine columns expected (at + 3 + count) bytes (record { values = before; wanted = old }) (record { values = after; wanted = new })
line_of_both columns expected at count bytes before after old new some r a w = record {
  text = r.text ++ (45 ∷ 62 ∷ 32 ∷ w.text);
  begins = record {
    bytes_are =
        r.begins.bytes_are
        ∙ ap (λ xs. r.text ++ xs) (a ∙ ap (λ xs. 45 ∷ 62 ∷ 32 ∷ xs) (drop-drop 3 at bytes ∙ w.begins.bytes_are ∙ ap (λ xs. w.text ++ 10 ∷ xs) (drop-drop count (at + 3) bytes)))
        ∙ sym (append_assoc r.text (45 ∷ 62 ∷ 32 ∷ w.text) (10 ∷ drop (at + 3 + count) bytes));
    long = omega (arith, length-append r.text (45 ∷ 62 ∷ 32 ∷ w.text), r.begins.long, w.begins.long);
    inner = inner-append r.text (45 ∷ 62 ∷ 32 ∷ w.text) r.begins.inner w.begins.inner;
  };
  counts = r.counts (45 ∷ 62 ∷ 32 ∷ w.text) refl;
  says =
      r.says (wants_to_come expected old) (45 ∷ 62 ∷ 32 ∷ w.text)
      ∙ none_left (wants_to_come expected old) columns (length columns) after (fields (45 ∷ 62 ∷ 32 ∷ w.text)) (omega arith)
      ∙ ap (with_values after) (arrow_said expected old (fields w.text) some ∙ w.says);
}

some_of : (n : ℕ) → nat_eq n 0 ≡ false → n ≢ 0
some_of zero h = absurd (let e = h in cc)
some_of (suc n) h = λ e. absurd (omega (arith, e))

pub both_line : (columns : List Column) (expected : List Expected) (at count : ℕ) (bytes : List ℕ) (before after : Values) (old new : Wanteds) → nat_eq (length expected) 0 ≡ false
    → ReadsInputs columns (length columns) at bytes before after → IsArrow (take (length bytes - at) (drop at bytes)) → EndsExpected expected count (take (length bytes - (at + 3)) (drop (at + 3) bytes)) old new
    → IsLine columns expected (at + 3 + count) bytes (record { values = before; wanted = old }) (record { values = after; wanted = new })
both_line columns expected at count bytes before after old new some r a w =
    line_of_both columns expected at count bytes before after old new (some_of (length expected) some) r (subst (λ xs. IsArrow xs) (behind_place bytes at) a)
    (subst (λ xs. EndsExpected expected count xs old new) (behind_place bytes (at + 3)) w)

-- ---- in a row

begun_said : (tail : Tail) (columns : List Column) (stored : Values) (fs : List (List ℕ)) → 0 < length columns → from_start tail columns stored fs ≡ to_come tail columns stored fs
begun_said tail [] stored fs h = absurd (omega (arith, h))
begun_said tail (c ∷ cs) stored fs h = refl

pub has_line : (before after : Row) (s : Source) (count : ℕ) → before.spot ≡ Start → 0 < length before.columns.items
    → IsLine before.columns.items before.wants.expected.items count s.block (entry_in before) (entry_in after)
    → s.length + count ≤ limits.line → s.start + s.length + count ≤ limits.bytes → HasLine before after s count
has_line before after s count spot some l line bytes = record {
  text = l.text;
  begins = l.begins;
  line = line;
  bytes = bytes;
  says = rw spot (
      ap (λ b. elim b as (λ _. Said Entry) [ true ↦ Skipped | false ↦ from_start (wants_said before.wants) before.columns.items before.values.items (fields l.text) ]) l.counts
      ∙ begun_said (wants_said before.wants) before.columns.items before.values.items (fields l.text) some
      ∙ l.says);
}

-- an input has its column still
pub each_kept : (a b : Row) → sizes b.values.items ≡ sizes a.values.items → b.columns ≡ a.columns → IsTrue (each_input a) → IsTrue (each_input b)
each_kept a b e k h = (λ i. nat_eq (length (e i)) (length (k i).items) && each_once (length (k i).items) (k i).items) ∙ h

-- ---- in a text

passed_line : (before after : Row) (old new : Source) (count : ℕ) (l : HasLine before after old count)
    → new ≡ record old { block = drop count old.block; number = old.number + 1; start = old.start + old.length + count; length = 0 } → PassedLine l.text old new
passed_line before after old new count l m = record {
  block = l.begins.bytes_are ∙ ap (λ (x : Source). l.text ++ 10 ∷ x.block) (sym m);
  moved = m ∙ (λ i. record old { block = (sym m i).block; number = old.number + 1; start = old.start + old.length + sym l.begins.long i; length = 0 });
  line = omega (arith, l.line, l.begins.long);
  bytes = omega (arith, l.bytes, l.begins.long);
}

-- a line with its LF, and what is behind it
pub record LinePassed (text : List ℕ) (o p : Open) : Type 0 where
  pub spoken : says o ≡ text
  pub whole : Passes false o p
  pub lf : PassesLf o p

in_limits : (at : Place) (n : ℕ) → n ≤ 65536 → at.start + n < 4294967296 → too_long limits at n true ≡ None
in_limits at n h k = ap first (le-ltb 65536 n h) ∙ ap second (le-ltb 4294967296 (at.start + (n + 1)) (omega (arith, k)))
  where
    second : Bool → Option StimError
    second b = elim b as (λ _. Option StimError) [ true ↦ Some StimulusTooLong | false ↦ None ]

    first : Bool → Option StimError
    first b = elim b as (λ _. Option StimError) [
      | true ↦ elim (nat_le (at.start + 65536) 4294967296) as (λ _. Option StimError) [ true ↦ Some (LineTooLong at.number) | false ↦ Some StimulusTooLong ]
      | false ↦ second (nat_lt 4294967296 (at.start + (n + 1)))
    ]

pub line_passed : (text : List ℕ) (old new : Source) (a b : List ℕ) → PassedLine text old new → is_inner text ≡ true → a ≡ text ++ 10 ∷ b → LinePassed text (open_before old a) (open_before new b)
line_passed text old new a b h inner e = record {
  spoken = ap (λ (x : Lines). content x.first) l ∙ ap without_cr (sym (append-nil text)) ∙ without_cr_ahead text [] inner ∙ append-nil text;
  whole = record {
    kept = (λ i. too_long limits (open_before old a).at (size i) (l i).first.ended) ∙ in_limits (open_before old a).at (old.length + length text) h.line (omega (arith, h.bytes));
    more = λ _. sym (ap (λ (x : Lines). x.later) l);
    at = λ _. (λ i. record { number = (h.moved i).number; start = start i });
    none = λ x. absurd (let y = x in cc);
    nothing = λ x. absurd (let y = x in cc);
  };
  lf = record { bytes = text; inner = no_lf_ahead text inner; rest = e };
}
  where
    l : lines a ≡ record { first = record { bytes = text; ended = true }; later = all_lines (lines b) }
    l = ap lines e ∙ lines_closed text b (no_lf_ahead text inner)

    size : line_length (open_before old a) ≡ old.length + length text
    size = ap (λ (x : Lines). old.length + length x.first.bytes) l

    start : new.start ≡ old.start + line_length (open_before old a) + 1
    start = omega (arith, ap (λ (x : Source). x.start) h.moved, size)

-- the line that a row has read, on a desk and in the block
pub record RowPassed {tells : Bool} (told : Told tells) (before after : Row) (old new : Source) : Type 0 where
  pub text : List ℕ
  pub says : row_with before text ≡ Given (entry_in after)
  pub on_desk : LinePassed text (open_at old told) (open_at new told)
  pub in_block : LinePassed text (open_before old old.block) (open_before new new.block)

pub row_passed : {tells : Bool} (told : Told tells) (before after : Row) (old new : Source) (count : ℕ) → HasLine before after old count
    → new ≡ record old { block = drop count old.block; number = old.number + 1; start = old.start + old.length + count; length = 0 } → RowPassed told before after old new
row_passed told before after old new count l m =
    let h = passed_line before after old new count l m in
    let left = told.contents.left old.place in
    record {
      text = l.text;
      says = l.says;
      on_desk = line_passed l.text old new (old.block ++ left) (new.block ++ told.contents.left new.place) h l.begins.inner
          (ap (λ bs. bs ++ left) h.block ∙ append_assoc l.text (10 ∷ new.block) left ∙ ap (λ (s : Source). l.text ++ 10 ∷ (new.block ++ told.contents.left s.place)) (sym h.moved));
      in_block = line_passed l.text old new old.block new.block h l.begins.inner h.block;
    }
