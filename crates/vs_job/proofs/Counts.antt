-- The number that digits write, up to a greatest one.
use Rattle.std.proofs.Common.{◌≡◌, ◌≢◌, ℕ, ◌^◌, ◌<◌, ◌≤◌, nat_le, eqb, true, not, List, [], ◌∷◌, length, get_or, None, Some, Result, Ok, Err, sym, ap, ◌∙◌, arith}
use Rattle.std.proofs.lemmas.Bool.{and_parts, and_from, cond-true, cond-false, false_from_ne_true, leb-true, le-leb, ne_eqb, not_from_false}
use Rattle.std.proofs.lemmas.Str.Parse.{IsNumeralModel, numerals_by_value, tells_all_ascii_digits, parse_plain}
use Rattle.std.specs.Result.{OkIff, result_ok}
use Rattle.std.specs.Str.{all_ascii_digits}
use Rattle.std.specs.Str.Parse.{ParsesUnsigned, digits_value}
use Rattle.vs_job.specs.Job.{count_value, is_count}

-- the digits and nothing else, and a number of so many bits
pub record IsNumber (w : ℕ) (ds : List ℕ) : Type 0 where
  pub digits : all_ascii_digits ds ≡ true
  pub some : 0 < length ds
  pub value : digits_value 10 ds < 2 ^ w

abbrev Digits : List ℕ → Type 0
Digits ds = all_ascii_digits ds ≡ true

numerals : IsNumeralModel Digits (digits_value 10)
numerals = numerals_by_value Digits tells_all_ascii_digits

abbrev Parsed : {E : Type 0} → ℕ → List ℕ → Result ℕ E → Type 0
Parsed w ds r = OkIff r (Digits ds × (0 < length ds) × (digits_value 10 ds < 2 ^ w)) (digits_value 10 ds)

parsed : {E : Type 0} (w : ℕ) (ds : List ℕ) (r : Result ℕ E) → ParsesUnsigned w 10 ds r → get_or ds 0 0 ≢ 43 → Parsed w ds r
parsed w ds r h no_sign = parse_plain numerals w ds r h no_sign

no_number : {E : Type 0} (w : ℕ) (ds : List ℕ) (r : Result ℕ E) → Parsed w ds r → result_ok r ≡ None → ¬ IsNumber w ds
no_number w ds (Ok x) h e n = absurd (cc)
no_number w ds (Err x) h e n = h (n.digits, n.some, n.value)

number : {E : Type 0} (w : ℕ) (ds : List ℕ) (r : Result ℕ E) (n : ℕ) → Parsed w ds r → result_ok r ≡ Some n → (all_ascii_digits ds ≡ true) × (n ≡ digits_value 10 ds)
number w ds (Ok x) n h e = let same : x ≡ n = cc in (h.0.0, sym same ∙ h.1)
number w ds (Err x) n h e = absurd (cc)

not_empty : (ds : List ℕ) → 1 ≤ digits_value 10 ds → 0 < length ds
not_empty [] low = absurd (omega arith)
not_empty (d ∷ ds) low = omega arith

number_of_count : (w most : ℕ) (ds : List ℕ) → most < 2 ^ w → is_count most ds ≡ true → IsNumber w ds
number_of_count w most ds fits h =
    let digits = and_parts (all_ascii_digits ds) _ h in
    let first = and_parts (not (eqb (get_or ds 0 0) 48)) _ digits.1 in
    let range = and_parts (nat_le 1 (digits_value 10 ds)) _ first.1 in
    let low = leb-true 1 (digits_value 10 ds) range.0 in
    let high = leb-true (digits_value 10 ds) most range.1 in
    record { digits = digits.0; some = not_empty ds low; value = omega arith }

-- what isn't read as a number gives none
pub count_value-none : {E : Type 0} (w most : ℕ) (ds : List ℕ) (r : Result ℕ E) → most < 2 ^ w → ParsesUnsigned w 10 ds r → get_or ds 0 0 ≢ 43 → result_ok r ≡ None → None ≡ count_value most ds
count_value-none w most ds r fits h no_sign e =
    let none = no_number w ds r (parsed w ds r h no_sign) e in
    sym (cond-false (is_count most ds) _ _ (false_from_ne_true (is_count most ds) (λ is. none (number_of_count w most ds fits is))))

-- a number in range is the one
pub count_value-some : {E : Type 0} (w most : ℕ) (ds : List ℕ) (r : Result ℕ E) (n : ℕ) → ParsesUnsigned w 10 ds r → get_or ds 0 0 ≢ 43 → get_or ds 0 0 ≢ 48 → result_ok r ≡ Some n → 1 ≤ n → n ≤ most → Some n ≡ count_value most ds
count_value-some w most ds r n h no_sign no_zero e low high =
    let num = number w ds r n (parsed w ds r h no_sign) e in
    let value = num.1 in
    let low' : 1 ≤ digits_value 10 ds = omega arith in
    let high' : digits_value 10 ds ≤ most = omega arith in
    let is : is_count most ds ≡ true = and_from _ _ num.0 (and_from _ _ (not_from_false _ (ne_eqb _ _ no_zero)) (and_from _ _ (le-leb _ _ low') (le-leb _ _ high'))) in
    ap (λ (x : ℕ). Some x) value ∙ sym (cond-true (is_count most ds) _ _ is)
