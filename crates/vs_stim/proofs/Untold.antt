-- Bytes of a text that don't tell what is read next.
use Rattle.std.proofs.Common.{◌≡◌, ℕ, ◌+◌, ◌≤◌, Bool, true, false, not, ◌&&◌, nat_eq, nat_le, List, [], ◌∷◌, ◌++◌, length, refl, ap, sym, ◌∙◌, arith, append_assoc, length-append, add-zero, zero-add}
use Rattle.std.proofs.lemmas.Bool.{le-ltb}
use Rattle.std.specs.Prelude.{Option, Some, None}
use Rattle.vs_stim.specs.declared.error.StimError.{StimError}
use Rattle.vs_stim.specs.declared.error.StimError.TheVariants.{BadHeader, NoExpectation, BadVector, LineTooLong, StimulusTooLong}
use Rattle.vs_stim.specs.Fields.{is_skipped, fields}
use Rattle.vs_stim.specs.Header.{PortLists, ColumnLists, lacks_output, header}
use Rattle.vs_stim.specs.Lines.{Lines, lines, all_lines, with_lf, with_byte, content, no_lf}
use Rattle.vs_stim.specs.Known.{lines_tell, IsUntold}
use Rattle.vs_stim.specs.Numbers.{filled}
use Rattle.vs_stim.specs.Reading.{limits, Place, behind, too_long, Reading, Said, said, refused, with_vector, not_taken, read_vectors, read_header, header_columns}
use Rattle.vs_stim.specs.Reading.Said.{Skipped, Malformed, Given}
use Rattle.vs_stim.specs.Vectors.{Entry, entry}
use Rattle.vs_stim.specs.Source.{Open, line_length, says, GoesOn, PassesLf, Passes}
use Rattle.vs_stim.proofs.Counted.{both}

no_lf-append : (a b : List ℕ) → no_lf a ≡ true → no_lf b ≡ true → no_lf (a ++ b) ≡ true
no_lf-append [] b h k = k
no_lf-append (x ∷ a) b h k = go (not (nat_eq x 10)) (both (not (nat_eq x 10)) (no_lf a) h) (no_lf-append a b)
  where
    go : (c : Bool) → (c ≡ true) × (no_lf a ≡ true) → (no_lf a ≡ true → no_lf b ≡ true → no_lf (a ++ b) ≡ true) → (c && no_lf (a ++ b)) ≡ true
    go c p f = rw (p.0) (f p.1 k)

-- bytes without an LF are a line that goes on
lines_open : (bs : List ℕ) → no_lf bs ≡ true → lines bs ≡ record { first = record { bytes = bs; ended = false }; later = [] }
lines_open [] h = refl
lines_open (b ∷ bs) h = go (nat_eq b 10) (both (not (nat_eq b 10)) (no_lf bs) h) (lines_open bs)
  where
    go : (c : Bool) → (not c ≡ true) × (no_lf bs ≡ true) → (no_lf bs ≡ true → lines bs ≡ record { first = record { bytes = bs; ended = false }; later = [] })
        → (elim c as (λ _. Lines) [ true ↦ with_lf (lines bs) | false ↦ with_byte b (lines bs) ]) ≡ record { first = record { bytes = b ∷ bs; ended = false }; later = [] }
    go true p f = absurd (let e = p.0 in cc)
    go false p f = ap (with_byte b) (f p.1)

-- and with an LF behind them they are a line
pub lines_closed : (bs more : List ℕ) → no_lf bs ≡ true → lines (bs ++ 10 ∷ more) ≡ record { first = record { bytes = bs; ended = true }; later = all_lines (lines more) }
lines_closed [] more h = refl
lines_closed (b ∷ bs) more h = go (nat_eq b 10) (both (not (nat_eq b 10)) (no_lf bs) h) (lines_closed bs more)
  where
    go : (c : Bool) → (not c ≡ true) × (no_lf bs ≡ true)
        → (no_lf bs ≡ true → lines (bs ++ 10 ∷ more) ≡ record { first = record { bytes = bs; ended = true }; later = all_lines (lines more) })
        → (elim c as (λ _. Lines) [ true ↦ with_lf (lines (bs ++ 10 ∷ more)) | false ↦ with_byte b (lines (bs ++ 10 ∷ more)) ])
        ≡ record { first = record { bytes = b ∷ bs; ended = true }; later = all_lines (lines more) }
    go true p f = absurd (let e = p.0 in cc)
    go false p f = ap (with_byte b) (f p.1)

-- the reader stays
pub stays : (o : Open) → GoesOn o o
stays o = record { bytes = []; inner = refl; rest = refl; taken = sym (add-zero o.taken); at = refl }

-- it goes on by one more piece of its line
pub goes_on : (a b c : Open) → GoesOn a b → GoesOn b c → GoesOn a c
goes_on a b c h k = record {
  bytes = h.bytes ++ k.bytes;
  inner = no_lf-append h.bytes k.bytes h.inner k.inner;
  rest = h.rest ∙ ap (λ r. h.bytes ++ r) k.rest ∙ sym (append_assoc h.bytes k.bytes c.rest);
  taken = omega (arith, h.taken, k.taken, length-append h.bytes k.bytes);
  at = k.at ∙ h.at;
}

pub passes_lf : (a b c : Open) → GoesOn a b → PassesLf b c → PassesLf a c
passes_lf a b c h k = record {
  bytes = h.bytes ++ k.bytes;
  inner = no_lf-append h.bytes k.bytes h.inner k.inner;
  rest = h.rest ∙ ap (λ r. h.bytes ++ r) k.rest ∙ sym (append_assoc h.bytes k.bytes (10 ∷ c.rest));
}

-- whole lines, which tell nothing, and give nothing
pub record WholeLines (old new : Open) : Type 0 where
  pub bytes : List ℕ
  pub rest : old.rest ≡ bytes ++ new.rest
  pub tells : (more : List ℕ) → lines_tell old.at (all_lines (lines (bytes ++ more))) ≡ lines_tell new.at (all_lines (lines more))
  pub vectors : (cs : ColumnLists) (count : ℕ) (more : List ℕ)
      → read_vectors limits cs old.at count (all_lines (lines (bytes ++ more))) ≡ read_vectors limits cs new.at count (all_lines (lines more))
  pub headers : (is : PortLists) (more : List ℕ) → read_header limits is old.at (all_lines (lines (bytes ++ more))) ≡ read_header limits is new.at (all_lines (lines more))
  pub columns : (is : PortLists) (more : List ℕ) → header_columns limits is old.at (all_lines (lines (bytes ++ more))) ≡ header_columns limits is new.at (all_lines (lines more))
  pub numbers : (more : List ℕ) → filled old.at.number (all_lines (lines (bytes ++ more))) ≡ filled new.at.number (all_lines (lines more))

-- the reader passed whole lines, which tell nothing, and give nothing
unfoldable pub IsPassed : Open → Open → Type 0
IsPassed old new = WholeLines old new

pub none_passed : (o : Open) → IsPassed o o
unfolding IsPassed
none_passed o = record { bytes = []; rest = refl; tells = λ more. refl; vectors = λ cs count more. refl; headers = λ is more. refl; columns = λ is more. refl; numbers = λ more. refl }

passed_on : (a b c : Open) → IsPassed a b → IsPassed b c → IsPassed a c
unfolding IsPassed
passed_on a b c h k = record {
  bytes = h.bytes ++ k.bytes;
  rest = h.rest ∙ ap (λ r. h.bytes ++ r) k.rest ∙ sym (append_assoc h.bytes k.bytes c.rest);
  tells = λ more.
      ap (λ bs. lines_tell a.at (all_lines (lines bs))) (append_assoc h.bytes k.bytes more) ∙ h.tells (k.bytes ++ more) ∙ k.tells more;
  vectors = λ cs count more.
      ap (λ bs. read_vectors limits cs a.at count (all_lines (lines bs))) (append_assoc h.bytes k.bytes more)
      ∙ h.vectors cs count (k.bytes ++ more)
      ∙ k.vectors cs count more;
  headers = λ is more.
      ap (λ bs. read_header limits is a.at (all_lines (lines bs))) (append_assoc h.bytes k.bytes more) ∙ h.headers is (k.bytes ++ more) ∙ k.headers is more;
  columns = λ is more.
      ap (λ bs. header_columns limits is a.at (all_lines (lines bs))) (append_assoc h.bytes k.bytes more) ∙ h.columns is (k.bytes ++ more) ∙ k.columns is more;
  numbers = λ more.
      ap (λ bs. filled a.at.number (all_lines (lines bs))) (append_assoc h.bytes k.bytes more) ∙ h.numbers (k.bytes ++ more) ∙ k.numbers more;
}

-- whether lines tell, by the first one's refusal, and whether it is skipped, where it has its LF
tell_ended : Option StimError → Bool → Bool → Bool
tell_ended r s k = elim r [ Some e ↦ true | None ↦ elim s [ false ↦ true | true ↦ k ] ]

-- what lines give, by the first one's refusal, whether it is skipped, what it says else, and what the later lines give
give_ended : {A : Type 0} → Option StimError → Bool → Said A → Reading → Reading → (A → Reading) → Reading
give_ended {A = A} r s other later malformed given =
    elim r [
      | Some e ↦ refused e
      | None ↦ elim (elim s as (λ _. Said A) [ true ↦ Skipped | false ↦ other ]) [ Skipped ↦ later | Malformed ↦ malformed | Given a ↦ given a ]
    ]

-- the columns that lines call for, by the first one's refusal, whether it is skipped, what it says else, and what the later lines call for
unfoldable pub call_ended : Option StimError → Bool → Said ColumnLists → Option ColumnLists → (ColumnLists → Option ColumnLists) → Option ColumnLists
call_ended r s other later given =
    elim r [
      | Some e ↦ None
      | None ↦ elim (elim s as (λ _. Said ColumnLists) [ true ↦ Skipped | false ↦ other ]) [ Skipped ↦ later | Malformed ↦ None | Given cs ↦ given cs ]
    ]

-- the numbers of lines, by whether the first is skipped, its number, and those of the later lines
unfoldable pub number_here : Bool → ℕ → List ℕ → List ℕ
number_here s n later = elim s [ true ↦ later | false ↦ n ∷ later ]

-- a line that was skipped
line_passed : (o p : Open) → o.taken ≡ 0 → PassesLf o p → Passes false o p → is_skipped (says o) ≡ true → IsPassed o p
unfolding tell_ended give_ended call_ended number_here IsPassed
line_passed o p z h k s =
    let first : lines o.rest ≡ record { first = record { bytes = h.bytes; ended = true }; later = all_lines (lines p.rest) } =
    ap lines h.rest ∙ lines_closed h.bytes p.rest h.inner in
    let long : line_length o ≡ length h.bytes = (λ i. z i + length (first i).first.bytes) ∙ zero-add (length h.bytes) in
    let kept : too_long limits o.at (length h.bytes) true ≡ None = (λ i. too_long limits o.at (sym long i) (sym first i).first.ended) ∙ k.kept in
    let skipped : is_skipped (content (record { bytes = h.bytes; ended = true })) ≡ true = (λ i. is_skipped (content (sym first i).first)) ∙ s in
    record {
      bytes = h.bytes ++ 10 ∷ [];
      rest = h.rest ∙ sym (append_assoc h.bytes (10 ∷ []) p.rest);
      tells = λ more.
          ap (λ bs. lines_tell o.at (all_lines (lines bs))) (append_assoc h.bytes (10 ∷ []) more)
          ∙ ap (λ t. lines_tell o.at (all_lines t)) (lines_closed h.bytes more h.inner)
          ∙ (λ i. tell_ended (kept i) (skipped i) (lines_tell (behind o.at (length h.bytes)) (all_lines (lines more))))
          ∙ ap (λ at. lines_tell at (all_lines (lines more))) (sym (k.at refl ∙ ap (behind o.at) long));
      vectors = λ cs count more.
          let next = behind o.at (length h.bytes) in
          let later = all_lines (lines more) in
          let text = content (record { bytes = h.bytes; ended = true }) in
          let given : Entry → Reading =
          λ v. elim (not_taken limits cs o.at.number count v) [ Some e ↦ refused e | None ↦ with_vector v (read_vectors limits cs next (count + 1) later) ] in
          ap (λ bs. read_vectors limits cs o.at count (all_lines (lines bs))) (append_assoc h.bytes (10 ∷ []) more)
          ∙ ap (λ t. read_vectors limits cs o.at count (all_lines t)) (lines_closed h.bytes more h.inner)
          ∙ (λ i. give_ended (kept i) (skipped i) (said (entry cs (fields text))) (read_vectors limits cs next count later) (refused (BadVector o.at.number)) given)
          ∙ ap (λ at. read_vectors limits cs at count later) (sym (k.at refl ∙ ap (behind o.at) long));
      headers = λ is more.
          let next = behind o.at (length h.bytes) in
          let later = all_lines (lines more) in
          let text = content (record { bytes = h.bytes; ended = true }) in
          let given : ColumnLists → Reading = λ cs. elim (lacks_output is cs) [ true ↦ refused NoExpectation | false ↦ read_vectors limits cs next 0 later ] in
          ap (λ bs. read_header limits is o.at (all_lines (lines bs))) (append_assoc h.bytes (10 ∷ []) more)
          ∙ ap (λ t. read_header limits is o.at (all_lines t)) (lines_closed h.bytes more h.inner)
          ∙ (λ i. give_ended (kept i) (skipped i) (said (header is (fields text))) (read_header limits is next later) (refused BadHeader) given)
          ∙ ap (λ at. read_header limits is at later) (sym (k.at refl ∙ ap (behind o.at) long));
      columns = λ is more.
          let next = behind o.at (length h.bytes) in
          let later = all_lines (lines more) in
          let text = content (record { bytes = h.bytes; ended = true }) in
          let given : ColumnLists → Option ColumnLists = λ cs. elim (lacks_output is cs) [ true ↦ None | false ↦ Some cs ] in
          ap (λ bs. header_columns limits is o.at (all_lines (lines bs))) (append_assoc h.bytes (10 ∷ []) more)
          ∙ ap (λ t. header_columns limits is o.at (all_lines t)) (lines_closed h.bytes more h.inner)
          ∙ (λ i. call_ended (kept i) (skipped i) (said (header is (fields text))) (header_columns limits is next later) given)
          ∙ ap (λ at. header_columns limits is at later) (sym (k.at refl ∙ ap (behind o.at) long));
      numbers = λ more.
          let later = all_lines (lines more) in
          ap (λ bs. filled o.at.number (all_lines (lines bs))) (append_assoc h.bytes (10 ∷ []) more)
          ∙ ap (λ t. filled o.at.number (all_lines t)) (lines_closed h.bytes more h.inner)
          ∙ (λ i. number_here (skipped i) o.at.number (filled (o.at.number + 1) later))
          ∙ ap (λ at. filled at.number later) (sym (k.at refl));
    }

pub passed_more : (a o p : Open) → IsPassed a o → o.taken ≡ 0 → PassesLf o p → Passes false o p → is_skipped (says o) ≡ true → IsPassed a p
passed_more a o p h z e k s = passed_on a o p h (line_passed o p z e k s)

-- a line of which some bytes were read, none past a limit
line_untold : (at : Place) (bytes : List ℕ) → no_lf bytes ≡ true → length bytes ≤ 65536 → at.start + length bytes ≤ 4294967296
    → lines_tell at (all_lines (lines bytes)) ≡ false
line_untold at bytes h k m =
    ap (λ t. lines_tell at (all_lines t)) (lines_open bytes h)
    ∙ (λ i. tell (le-ltb 65536 (length bytes) k i) (le-ltb 4294967296 (at.start + length bytes) m i))
  where
    tell : Bool → Bool → Bool
    tell long past =
        elim (elim long as (λ _. Option StimError) [
          | true ↦ elim (nat_le (at.start + 65536) 4294967296) as (λ _. Option StimError) [ true ↦ Some (LineTooLong at.number) | false ↦ Some StimulusTooLong ]
          | false ↦ elim past as (λ _. Option StimError) [ true ↦ Some StimulusTooLong | false ↦ None ]
        ]) as (λ _. Bool) [ Some e ↦ true | None ↦ false ]

-- where a reader stops in a line, behind whole ones
pub untold_here : (a o p : Open) (left : List ℕ) → IsPassed a o → o.taken ≡ 0 → GoesOn o p → p.taken ≤ 65536 → p.at.start + p.taken ≤ 4294967296 → p.rest ≡ left
    → IsUntold a.at a.rest left
unfolding IsPassed
untold_here a o p left h z k few some e =
    let count : p.taken ≡ length k.bytes = omega (arith, k.taken) in
    let start : p.at.start ≡ o.at.start = ap (λ at. at.start) k.at in
    record {
      taken = h.bytes ++ k.bytes;
      text_is = h.rest ∙ ap (λ r. h.bytes ++ r) (k.rest ∙ ap (λ r. k.bytes ++ r) e) ∙ sym (append_assoc h.bytes k.bytes left);
      untold = h.tells k.bytes ∙ line_untold o.at k.bytes k.inner (omega arith) (omega arith);
    }
