-- Vectors depend on no line behind theirs.
use Rattle.std.proofs.Common.{◌≡◌, ℕ, zero, suc, ◌+◌, Bool, true, false, nat_eq, List, [], ◌∷◌, ◌++◌, length, take, refl, ap, sym, ◌∙◌}
use Rattle.std.proofs.lemmas.List.{take_at}
use Rattle.std.specs.Prelude.{Option, Some, None}
use Rattle.vs_stim.specs.Header.{PortLists, ColumnLists, lacks_output}
use Rattle.vs_stim.specs.declared.error.StimError.{StimError}
use Rattle.vs_stim.specs.declared.error.StimError.TheVariants.{BadHeader, NoExpectation, BadVector}
use Rattle.vs_stim.specs.Lines.{Line, Lines, lines, all_lines, with_lf, with_byte, content}
use Rattle.vs_stim.specs.Reading.{Reading, refused, with_vector, limits, Place, behind, too_long, Said, header_line, vector_line, not_taken, first_place, reading, read_vectors, read_header}
use Rattle.vs_stim.specs.Reading.Said.{Skipped, Malformed, Given}
use Rattle.vs_stim.specs.Vectors.{Entry}
use Rattle.vs_four.specs.declared.Bit4.{Bit4}
use Rattle.vs_stim.proofs.Turns.{if_named}

abbrev Vector : Type 0
Vector = List (List Bit4)

-- the lines of a text that an LF follows
closed : List ℕ → Lines
closed [] = record { first = record { bytes = []; ended = true }; later = [] }
closed (b ∷ bs) = elim (nat_eq b 10) [ true ↦ with_lf (closed bs) | false ↦ with_byte b (closed bs) ]

-- more lines behind
joined : Lines → List Line → Lines
joined t more = record { first = t.first; later = t.later ++ more }

lines_joined : (text later : List ℕ) → lines (text ++ 10 ∷ later) ≡ joined (closed text) (all_lines (lines later))
unfolding closed joined
lines_joined [] later = refl
lines_joined (b ∷ bs) later = go (nat_eq b 10) (lines_joined bs later)
  where
    go : (c : Bool) → lines (bs ++ 10 ∷ later) ≡ joined (closed bs) (all_lines (lines later))
        → (elim c as (λ _. Lines) [ true ↦ with_lf (lines (bs ++ 10 ∷ later)) | false ↦ with_byte b (lines (bs ++ 10 ∷ later)) ])
        ≡ joined (elim c as (λ _. Lines) [ true ↦ with_lf (closed bs) | false ↦ with_byte b (closed bs) ]) (all_lines (lines later))
    go true h = ap with_lf h
    go false h = ap (with_byte b) h

-- the vectors of the one reading begin the other's
record Begins (a b : Reading) : Type 0 where
  more : List Vector
  same : b.vectors ≡ a.vectors ++ more

none_first : (a b : Reading) → a.vectors ≡ [] → Begins a b
none_first a b e = record { more = b.vectors; same = ap (λ vs. vs ++ b.vectors) (sym e) }

with_both : (v : Entry) (a b : Reading) → Begins a b → Begins (with_vector v a) (with_vector v b)
with_both v a b h = record { more = h.more; same = ap (λ vs. v.values ∷ vs) h.same }

-- the line behind the last LF of a text that ends with it
last_lines : List Line
last_lines = record { bytes = []; ended = false } ∷ []

last_vectors : (cs : ColumnLists) (p : Place) (count : ℕ) → (read_vectors limits cs p count last_lines).vectors ≡ []
unfolding last_lines
last_vectors cs p count = go (too_long limits p 0 false) count
  where
    go : (long : Option StimError) (count : ℕ) → (elim long as (λ _. Reading) [ Some e ↦ refused e | None ↦ read_vectors limits cs (behind p 0) count [] ]).vectors ≡ []
    go (Some e) count = refl
    go None zero = refl
    go None (suc n) = refl

last_header : (is : PortLists) (p : Place) → (read_header limits is p last_lines).vectors ≡ []
unfolding last_lines
last_header is p = go (too_long limits p 0 false)
  where
    go : (long : Option StimError) → (elim long as (λ _. Reading) [ Some e ↦ refused e | None ↦ refused BadHeader ]).vectors ≡ []
    go (Some e) = refl
    go None = refl

vectors_begin : (cs : ColumnLists) (p : Place) (count : ℕ) (ls ms : List Line)
    → Begins (read_vectors limits cs p count (ls ++ last_lines)) (read_vectors limits cs p count (ls ++ ms))
vectors_begin cs p count [] ms = none_first (read_vectors limits cs p count last_lines) (read_vectors limits cs p count ms) (last_vectors cs p count)
vectors_begin cs p count (l ∷ ls) ms =
    go (too_long limits p (length l.bytes) l.ended) (vector_line cs (content l)) (not_taken limits cs p.number count) _ _ _ _
    (vectors_begin cs (behind p (length l.bytes)) count ls ms) (vectors_begin cs (behind p (length l.bytes)) (count + 1) ls ms)
  where
    turn : Option StimError → Said Entry → (Entry → Option StimError) → Reading → Reading → Reading
    turn long s taken skipped given =
        elim long [
          | Some e ↦ refused e
          | None ↦ elim s [
            | Skipped ↦ skipped
            | Malformed ↦ refused (BadVector p.number)
            | Given v ↦ elim (taken v) [ Some e ↦ refused e | None ↦ with_vector v given ]
          ]
        ]

    last : (v : Entry) (o : Option StimError) (a b : Reading) → Begins a b
        → Begins (elim o as (λ _. Reading) [ Some e ↦ refused e | None ↦ with_vector v a ]) (elim o as (λ _. Reading) [ Some e ↦ refused e | None ↦ with_vector v b ])
    last v (Some e) a b h = none_first (refused e) (refused e) refl
    last v None a b h = with_both v a b h

    go : (long : Option StimError) (s : Said Entry) (taken : Entry → Option StimError) (a b c d : Reading) → Begins a b → Begins c d → Begins (turn long s taken a c) (turn long s taken b d)
    go (Some e) s taken a b c d h k = none_first (refused e) (refused e) refl
    go None Skipped taken a b c d h k = h
    go None Malformed taken a b c d h k = none_first (refused (BadVector p.number)) (refused (BadVector p.number)) refl
    go None (Given v) taken a b c d h k = last v (taken v) c d k

named_begins : (b : Bool) (x y : Reading) → Begins x y → Begins (if_named b x) (if_named b y)
unfolding if_named
named_begins true x y h = none_first (refused NoExpectation) (refused NoExpectation) refl
named_begins false x y h = h

header_begins : (is : PortLists) (p : Place) (ls ms : List Line) → Begins (read_header limits is p (ls ++ last_lines)) (read_header limits is p (ls ++ ms))
unfolding if_named
header_begins is p [] ms = none_first (read_header limits is p last_lines) (read_header limits is p ms) (last_header is p)
header_begins is p (l ∷ ls) ms =
    go (too_long limits p (length l.bytes) l.ended) (header_line is (content l)) _ _ _ _ (header_begins is (behind p (length l.bytes)) ls ms)
    (λ cs. named_begins (lacks_output is cs) _ _ (vectors_begin cs (behind p (length l.bytes)) 0 ls ms))
  where
    turn : Option StimError → Said (ColumnLists) → Reading → (ColumnLists → Reading) → Reading
    turn long s skipped given =
        elim long [
          | Some e ↦ refused e
          | None ↦ elim s [ Skipped ↦ skipped | Malformed ↦ refused BadHeader | Given cs ↦ given cs ]
        ]

    go : (long : Option StimError) (s : Said (ColumnLists)) (a b : Reading) (c d : ColumnLists → Reading) → Begins a b → ((cs : ColumnLists) → Begins (c cs) (d cs)) → Begins (turn long s a c) (turn long s b d)
    go (Some e) s a b c d h k = none_first (refused e) (refused e) refl
    go None Skipped a b c d h k = h
    go None Malformed a b c d h k = none_first (refused BadHeader) (refused BadHeader) refl
    go None (Given cs) a b c d h k = k cs

pub later_lines : (is : PortLists) (text later : List ℕ)
    → take (length (reading is (text ++ 10 ∷ [])).vectors) (reading is (text ++ 10 ∷ later)).vectors ≡ (reading is (text ++ 10 ∷ [])).vectors
unfolding joined last_lines
later_lines is text later =
    let read : List Line → List Vector = λ ls. (read_header limits is first_place ls).vectors in
    let first = all_lines (closed text) in
    let here : (reading is (text ++ 10 ∷ [])).vectors ≡ read (first ++ last_lines) = ap (λ t. read (all_lines t)) (lines_joined text []) in
    let there : (reading is (text ++ 10 ∷ later)).vectors ≡ read (first ++ all_lines (lines later)) = ap (λ t. read (all_lines t)) (lines_joined text later) in
    let begins = header_begins is first_place first (all_lines (lines later)) in
    (λ i. take (length (here i)) (there i))
    ∙ ap (take (length (read (first ++ last_lines)))) begins.same
    ∙ take_at (read (first ++ last_lines)) begins.more (length (read (first ++ last_lines))) refl
    ∙ sym here
