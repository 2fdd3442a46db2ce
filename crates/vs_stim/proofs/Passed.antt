-- What lines that were passed give, whatever stands behind them.
use Rattle.std.proofs.Common.{◌≡◌, ℕ, ◌+◌, ◌≤◌, Bool, true, false, List, [], ◌∷◌, ◌++◌, length, refl, ap, sym, ◌∙◌, append_assoc, append-nil, zero-add, arith}
use Rattle.std.proofs.lemmas.List.{length_push, get_or_at}
use Rattle.std.specs.Prelude.{Option, Some, None, ◌==◌}
use Rattle.std.proofs.lemmas.Bool.{cond-true, eq-eqb}
use Rattle.vs_desk.specs.declared.desk.Way.TheVariants.{Read}
use Rattle.vs_desk.specs.Desk.{Contents, Told, with_attached}
use Rattle.vs_stim.specs.Header.{PortLists, ColumnLists, lacks_output, header}
use Rattle.vs_stim.specs.Vectors.{Entry, entry}
use Rattle.vs_stim.specs.declared.error.StimError.{StimError}
use Rattle.vs_stim.specs.declared.error.StimError.TheVariants.{BadHeader, BadVector}
use Rattle.vs_stim.specs.Known.{IsReadTo}
use Rattle.vs_stim.specs.Numbers.{filled}
use Rattle.vs_stim.specs.Fields.{is_skipped, fields}
use Rattle.vs_stim.specs.Lines.{lines, all_lines, content}
use Rattle.vs_stim.specs.Reading.{limits, Place, behind, too_long, Reading, Said, refused, with_vector, with_vectors, header_line, vector_line, not_taken, first_place, reading, read_vectors, read_header, header_columns}
use Rattle.vs_stim.specs.Reading.Said.{Skipped, Malformed, Given}
use Rattle.vs_stim.specs.declared.source.Source.{Source}
use Rattle.vs_stim.specs.Source.{Open, line_length, line_refusal, says, rest_of, PassesLf, Passes, PassesVector, PassesHeader}
use Rattle.vs_stim.proofs.Turns.{given_is, if_named, vectors_found, header_last}
use Rattle.vs_stim.proofs.Untold.{IsPassed, lines_closed, number_here}

-- a line that isn't skipped and has its LF is the first of those that aren't
number_ended : (o p : Open) (h : PassesLf o p) → Passes false o p → is_skipped (says o) ≡ false → (more : List ℕ)
    → filled o.at.number (all_lines (lines ((h.bytes ++ 10 ∷ []) ++ more))) ≡ o.at.number ∷ filled p.at.number (all_lines (lines more))
unfolding number_here
number_ended o p h k s more =
    let first : lines o.rest ≡ record { first = record { bytes = h.bytes; ended = true }; later = all_lines (lines p.rest) } =
    ap lines h.rest ∙ lines_closed h.bytes p.rest h.inner in
    let kept : is_skipped (content (record { bytes = h.bytes; ended = true })) ≡ false = (λ i. is_skipped (content (sym first i).first)) ∙ s in
    let later = all_lines (lines more) in
    ap (λ bs. filled o.at.number (all_lines (lines bs))) (append_assoc h.bytes (10 ∷ []) more)
    ∙ ap (λ t. filled o.at.number (all_lines t)) (lines_closed h.bytes more h.inner)
    ∙ (λ i. number_here (kept i) o.at.number (filled (o.at.number + 1) later))
    ∙ ap (λ at. o.at.number ∷ filled at.number later) (sym (k.at refl))

-- and so is one with which the text ends
number_last : (o p : Open) → Passes true o p → is_skipped (says o) ≡ false → (more : List ℕ) → more ≡ []
    → filled o.at.number (all_lines (lines (o.rest ++ more))) ≡ o.at.number ∷ filled p.at.number (all_lines (lines more))
unfolding number_here
number_last o p k s more e =
    ap (λ bs. filled o.at.number (all_lines (lines bs))) (ap (λ m. o.rest ++ m) e ∙ append-nil o.rest)
    ∙ (λ i. number_here (s i) o.at.number (filled (o.at.number + 1) (k.none refl i)))
    ∙ ap (λ m. o.at.number ∷ filled p.at.number (all_lines (lines m))) (sym e)

-- what lines behind the header give, by the first one's refusal, what it says, and whether its vector is taken
vectors_turn : Place → Option StimError → Said Entry → (Entry → Option StimError) → Reading → Reading → Reading
vectors_turn at r s taken skipped given =
    elim r [
      | Some e ↦ refused e
      | None ↦ elim s [
        | Skipped ↦ skipped
        | Malformed ↦ refused (BadVector at.number)
        | Given v ↦ elim (taken v) [ Some e ↦ refused e | None ↦ with_vector v given ]
      ]
    ]

-- the vector's line has its LF
vector_ended : (cs : ColumnLists) (count : ℕ) (v : Entry) (o p : Open) → o.taken ≡ 0 → PassesLf o p → Passes false o p → vector_line cs (says o) ≡ Given v
    → not_taken limits cs o.at.number count v ≡ None → PassesVector cs count o.at.number v o p
unfolding vectors_turn
vector_ended cs count v o p z h k s n =
    let first : lines o.rest ≡ record { first = record { bytes = h.bytes; ended = true }; later = all_lines (lines p.rest) } =
    ap lines h.rest ∙ lines_closed h.bytes p.rest h.inner in
    let long : line_length o ≡ length h.bytes = (λ i. z i + length (first i).first.bytes) ∙ zero-add (length h.bytes) in
    let kept : too_long limits o.at (length h.bytes) true ≡ None = (λ i. too_long limits o.at (sym long i) (sym first i).first.ended) ∙ k.kept in
    let given : vector_line cs (content (record { bytes = h.bytes; ended = true })) ≡ Given v = (λ i. vector_line cs (content (sym first i).first)) ∙ s in
    record {
      bytes = h.bytes ++ 10 ∷ [];
      rest = h.rest ∙ sym (append_assoc h.bytes (10 ∷ []) p.rest);
      gives = λ more _.
          let next = behind o.at (length h.bytes) in
          let later = all_lines (lines more) in
          let skipped = read_vectors limits cs next count later in
          let taken = read_vectors limits cs next (count + 1) later in
          ap (λ bs. read_vectors limits cs o.at count (all_lines (lines bs))) (append_assoc h.bytes (10 ∷ []) more)
          ∙ ap (λ t. read_vectors limits cs o.at count (all_lines t)) (lines_closed h.bytes more h.inner)
          ∙ (λ i. vectors_turn o.at (kept i) (given i) (not_taken limits cs o.at.number count) skipped taken)
          ∙ (λ i. vectors_turn o.at None (Given v) (λ _. n i) skipped taken)
          ∙ ap (λ at. with_vector v (read_vectors limits cs at (count + 1) later)) (sym (k.at refl ∙ ap (behind o.at) long));
      filled = λ more _. number_ended o p h k (given_is (says o) (entry cs (fields (says o))) v s) more;
    }

-- the text ends with the vector's line
vector_last : (cs : ColumnLists) (count : ℕ) (v : Entry) (o p : Open) → o.taken ≡ 0 → Passes true o p → p.at.start ≤ 4294967296
    → vector_line cs (says o) ≡ Given v → not_taken limits cs o.at.number count v ≡ None → PassesVector cs count o.at.number v o p
vector_last cs count v o p z k b s n =
    let nothing : p.rest ≡ [] = k.nothing refl in
    record {
      bytes = o.rest;
      rest = sym (ap (λ r. o.rest ++ r) nothing ∙ append-nil o.rest);
      gives = λ more none.
          let e : more ≡ [] = none nothing in
          ap (λ bs. read_vectors limits cs o.at count (all_lines (lines bs))) (ap (λ m. o.rest ++ m) e ∙ append-nil o.rest)
          ∙ vectors_found cs o p count v true z k b s n
          ∙ ap (λ r. with_vector v (read_vectors limits cs p.at (count + 1) (all_lines (lines r)))) (nothing ∙ sym e);
      filled = λ more none. number_last o p k (given_is (says o) (entry cs (fields (says o))) v s) more (none nothing);
    }

vector_here : (cs : ColumnLists) (count : ℕ) (v : Entry) (o p : Open) (last : Bool) → o.taken ≡ 0 → (last ≡ false → PassesLf o p) → Passes last o p
    → p.at.start ≤ 4294967296 → vector_line cs (says o) ≡ Given v → not_taken limits cs o.at.number count v ≡ None → PassesVector cs count o.at.number v o p
vector_here cs count v o p true z h k b s n = vector_last cs count v o p z k b s n
vector_here cs count v o p false z h k b s n = vector_ended cs count v o p z (h refl) k s n

-- A vector was read, behind whole lines.
pub vector_passed : (cs : ColumnLists) (count : ℕ) (v : Entry) (a o p : Open) (last : Bool) → IsPassed a o → o.taken ≡ 0 → (last ≡ false → PassesLf o p)
    → Passes last o p → p.at.start ≤ 4294967296 → vector_line cs (says o) ≡ Given v → not_taken limits cs o.at.number count v ≡ None → PassesVector cs count o.at.number v a p
unfolding IsPassed
vector_passed cs count v a o p last h z f k b s n =
    let here = vector_here cs count v o p last z f k b s n in
    record {
      bytes = h.bytes ++ here.bytes;
      rest = h.rest ∙ ap (λ r. h.bytes ++ r) here.rest ∙ sym (append_assoc h.bytes here.bytes p.rest);
      gives = λ more none.
          ap (λ bs. read_vectors limits cs a.at count (all_lines (lines bs))) (append_assoc h.bytes here.bytes more)
          ∙ h.vectors cs count (here.bytes ++ more)
          ∙ here.gives more none;
      filled = λ more none.
          ap (λ bs. filled a.at.number (all_lines (lines bs))) (append_assoc h.bytes here.bytes more) ∙ h.numbers (here.bytes ++ more) ∙ here.filled more none;
    }

-- what lines before the vectors give, by the first one's refusal, and what it says
header_turn : PortLists → Option StimError → Said ColumnLists → Reading → (ColumnLists → Reading) → Reading
header_turn is r s skipped given =
    elim r [ Some e ↦ refused e | None ↦ elim s [ Skipped ↦ skipped | Malformed ↦ refused BadHeader | Given cs ↦ if_named (lacks_output is cs) (given cs) ] ]

-- the columns that lines call for, by the first one's refusal, and what it says
called_turn : PortLists → Option StimError → Said ColumnLists → Option ColumnLists → Option ColumnLists
called_turn is r s skipped =
    elim r [ Some e ↦ None | None ↦ elim s [ Skipped ↦ skipped | Malformed ↦ None | Given cs ↦ elim (lacks_output is cs) [ true ↦ None | false ↦ Some cs ] ] ]

named_here : (cs : ColumnLists) (b : Bool) → b ≡ false → (elim b as (λ _. Option ColumnLists) [ true ↦ None | false ↦ Some cs ]) ≡ Some cs
named_here cs true h = absurd (cc)
named_here cs false h = refl

-- a header calls for its columns
called_here : (is : PortLists) (cs : ColumnLists) (o : Open) → o.taken ≡ 0 → line_refusal o ≡ None → header_line is (says o) ≡ Given cs → lacks_output is cs ≡ false
    → header_columns limits is o.at (all_lines (lines o.rest)) ≡ Some cs
unfolding called_turn
called_here is cs o z kept s n =
    let line = (lines o.rest).first in
    let long : line_length o ≡ length line.bytes = (λ i. z i + length line.bytes) ∙ zero-add (length line.bytes) in
    let fine : too_long limits o.at (length line.bytes) line.ended ≡ None = (λ i. too_long limits o.at (sym long i) line.ended) ∙ kept in
    (λ i. called_turn is (fine i) (s i) (header_columns limits is (behind o.at (length line.bytes)) (lines o.rest).later)) ∙ named_here cs (lacks_output is cs) n

header_ended : (is : PortLists) (cs : ColumnLists) (o p : Open) → o.taken ≡ 0 → PassesLf o p → Passes false o p → header_line is (says o) ≡ Given cs → lacks_output is cs ≡ false
    → PassesHeader is cs o p
unfolding header_turn if_named
header_ended is cs o p z h k s n =
    let first : lines o.rest ≡ record { first = record { bytes = h.bytes; ended = true }; later = all_lines (lines p.rest) } =
    ap lines h.rest ∙ lines_closed h.bytes p.rest h.inner in
    let long : line_length o ≡ length h.bytes = (λ i. z i + length (first i).first.bytes) ∙ zero-add (length h.bytes) in
    let kept : too_long limits o.at (length h.bytes) true ≡ None = (λ i. too_long limits o.at (sym long i) (sym first i).first.ended) ∙ k.kept in
    let given : header_line is (content (record { bytes = h.bytes; ended = true })) ≡ Given cs = (λ i. header_line is (content (sym first i).first)) ∙ s in
    record {
      bytes = h.bytes ++ 10 ∷ [];
      rest = h.rest ∙ sym (append_assoc h.bytes (10 ∷ []) p.rest);
      columns_are = called_here is cs o z k.kept s n;
      gives = λ more _.
          let next = behind o.at (length h.bytes) in
          let later = all_lines (lines more) in
          ap (λ bs. read_header limits is o.at (all_lines (lines bs))) (append_assoc h.bytes (10 ∷ []) more)
          ∙ ap (λ t. read_header limits is o.at (all_lines t)) (lines_closed h.bytes more h.inner)
          ∙ (λ i. header_turn is (kept i) (given i) (read_header limits is next later) (λ ds. read_vectors limits ds next 0 later))
          ∙ (λ i. if_named (n i) (read_vectors limits cs next 0 later))
          ∙ ap (λ at. read_vectors limits cs at 0 later) (sym (k.at refl ∙ ap (behind o.at) long));
      line = o.at.number;
      filled = λ more _. number_ended o p h k (given_is (says o) (header is (fields (says o))) cs s) more;
    }

header_ends : (is : PortLists) (cs : ColumnLists) (o p : Open) → o.taken ≡ 0 → Passes true o p → p.at.start ≤ 4294967296 → header_line is (says o) ≡ Given cs → lacks_output is cs ≡ false
    → PassesHeader is cs o p
header_ends is cs o p z k b s n =
    let nothing : p.rest ≡ [] = k.nothing refl in
    record {
      bytes = o.rest;
      rest = sym (ap (λ r. o.rest ++ r) nothing ∙ append-nil o.rest);
      columns_are = called_here is cs o z k.kept s n;
      gives = λ more none.
          let e : more ≡ [] = none nothing in
          ap (λ bs. read_header limits is o.at (all_lines (lines bs))) (ap (λ m. o.rest ++ m) e ∙ append-nil o.rest)
          ∙ header_last is cs o p z k b s n
          ∙ ap (λ r. read_vectors limits cs p.at 0 (all_lines (lines r))) (nothing ∙ sym e);
      line = o.at.number;
      filled = λ more none. number_last o p k (given_is (says o) (header is (fields (says o))) cs s) more (none nothing);
    }

header_here : (is : PortLists) (cs : ColumnLists) (o p : Open) (last : Bool) → o.taken ≡ 0 → (last ≡ false → PassesLf o p) → Passes last o p → p.at.start ≤ 4294967296
    → header_line is (says o) ≡ Given cs → lacks_output is cs ≡ false → PassesHeader is cs o p
header_here is cs o p true z h k b s n = header_ends is cs o p z k b s n
header_here is cs o p false z h k b s n = header_ended is cs o p z (h refl) k s n

-- A header was read, behind whole lines.
pub header_passed : (is : PortLists) (cs : ColumnLists) (a o p : Open) (last : Bool) → IsPassed a o → o.taken ≡ 0 → (last ≡ false → PassesLf o p) → Passes last o p
    → p.at.start ≤ 4294967296 → header_line is (says o) ≡ Given cs → lacks_output is cs ≡ false → PassesHeader is cs a p
unfolding IsPassed
header_passed is cs a o p last h z f k b s n =
    let here = header_here is cs o p last z f k b s n in
    record {
      bytes = h.bytes ++ here.bytes;
      rest = h.rest ∙ ap (λ r. h.bytes ++ r) here.rest ∙ sym (append_assoc h.bytes here.bytes p.rest);
      columns_are = ap (λ bs. header_columns limits is a.at (all_lines (lines bs))) h.rest ∙ h.columns is o.rest ∙ here.columns_are;
      gives = λ more none.
          ap (λ bs. read_header limits is a.at (all_lines (lines bs))) (append_assoc h.bytes here.bytes more) ∙ h.headers is (here.bytes ++ more) ∙ here.gives more none;
      line = here.line;
      filled = λ more none.
          ap (λ bs. filled a.at.number (all_lines (lines bs))) (append_assoc h.bytes here.bytes more) ∙ h.numbers (here.bytes ++ more) ∙ here.filled more none;
    }

-- the text was read up to behind its header
pub read_first : (is : PortLists) (cs : ColumnLists) (line : ℕ) (o p : Open) → o.at ≡ first_place → PassesHeader is cs o p → IsReadTo is o.rest 0 cs line p.at p.rest
read_first is cs line o p e h = record {
  given = h.bytes;
  text_is = h.rest;
  vectors = [];
  count_is = refl;
  columns_are = (λ i. header_columns limits is (sym e i) (all_lines (lines o.rest))) ∙ h.columns_are;
  goes_on = λ more none. (λ i. read_header limits is (sym e i) (all_lines (lines (h.bytes ++ more)))) ∙ h.gives more none;
  numbers = h.line ∷ [];
  numbers_are = refl;
  last = λ some. absurd (omega (arith, some));
  filled = λ more none. (λ i. filled (sym e i).number (all_lines (lines (h.bytes ++ more)))) ∙ h.filled more none;
}

-- and then up to behind one more vector
none_before : (xs ys : List ℕ) → xs ++ ys ≡ [] → (xs ≡ []) × (ys ≡ [])
none_before [] ys e = (refl, e)
none_before (x ∷ xs) ys e = absurd (cc)

with_more : (vs : List Entry) (v : Entry) (r : Reading) → with_vectors vs (with_vector v r) ≡ with_vectors (vs ++ v ∷ []) r
with_more [] v r = refl
with_more (w ∷ vs) v r = ap (with_vector w) (with_more vs v r)

pub read_more : (is : PortLists) (text : List ℕ) (cs : ColumnLists) (count before line : ℕ) (v : Entry) (o p : Open) → PassesVector cs count line v o p
    → IsReadTo is text count cs before o.at o.rest → IsReadTo is text (count + 1) cs line p.at p.rest
read_more is text cs count before line v o p h r = record {
  given = r.given ++ h.bytes;
  text_is = r.text_is ∙ ap (λ rest. r.given ++ rest) h.rest ∙ sym (append_assoc r.given h.bytes p.rest);
  vectors = r.vectors ++ v ∷ [];
  columns_are = r.columns_are;
  count_is = length_push r.vectors v ∙ ap (λ n. n + 1) r.count_is;
  goes_on = λ more none.
      let no_more : o.rest ≡ [] → h.bytes ++ more ≡ [] =
      λ e. let parts = none_before h.bytes p.rest (sym h.rest ∙ e) in (λ i. parts.0 i ++ none parts.1 i) in
      let later = read_vectors limits cs p.at (count + 1) (all_lines (lines more)) in
      ap (reading is) (append_assoc r.given h.bytes more)
      ∙ r.goes_on (h.bytes ++ more) no_more
      ∙ ap (with_vectors r.vectors) (h.gives more none)
      ∙ with_more r.vectors v later;
  numbers = r.numbers ++ line ∷ [];
  numbers_are = length_push r.numbers line ∙ ap (λ n. n + 1) r.numbers_are;
  last = λ some. get_or_at r.numbers line [] 0 (count + 1) r.numbers_are;
  filled = λ more none.
      let no_more : o.rest ≡ [] → h.bytes ++ more ≡ [] =
      λ e. let parts = none_before h.bytes p.rest (sym h.rest ∙ e) in (λ i. parts.0 i ++ none parts.1 i) in
      ap (λ bs. filled 1 (all_lines (lines bs))) (append_assoc r.given h.bytes more)
      ∙ r.filled (h.bytes ++ more) no_more
      ∙ ap (λ ns. r.numbers ++ ns) (h.filled more none)
      ∙ sym (append_assoc r.numbers (line ∷ []) (filled p.at.number (all_lines (lines more))));
}

-- what is left of a text whose place was attached, where nothing was taken
pub opened_rest : {tells : Bool} (s : Source) (old : Contents) (mid : Told tells) (place : ℕ) (path : List ℕ) → s.block ≡ [] → s.place ≡ place → mid.contents ≡ with_attached old place Read path
    → rest_of s mid ≡ old.files path
opened_rest s old mid place path b p m =
    (λ i. b i ++ (m i).left (p i)) ∙ cond-true (place == place) (old.files path) (old.left place) (eq-eqb place place refl)
