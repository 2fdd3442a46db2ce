-- Expressions in which nothing is over 64 bits or divided at run time, and their parts.
use Rattle.std.proofs.Common.{◌≡◌, ◌+◌, ◌*◌, ℕ, Bool, true, false, not, length, refl, arith}
use Rattle.std.specs.Prelude.{◌&&◌, ◌||◌, ◌==◌, nat_le}
use Rattle.std.specs.List.{list_all}
use Rattle.std.proofs.lemmas.Bool.Decides.{nat_tests}
use Rattle.vs_four.specs.Selects.{range_length}
use Rattle.vs_design.specs.Expressions.{Expression, Literal, Name, Select, Word, WordPart, Unary, Binary, Choice, Join, Repeat, At, Call, signal_length, word_length, width, is_constant, UnaryOp, unary_length, binary_length, Way, InContext, Own, Compared, Shifted, Raised, way}
use Rattle.vs_design.specs.Expressions as E
use Rattle.vs_design.specs.Fits.{source_length, is_fit, fit_items, fits_signal, fits_statement, is_division, fits, divides_constants, fits_64, fits_word_part}
use Rattle.vs_sets.specs.FitParts.{Is64, FitParts}

-- ---- both tests

pub and_left : (a b : Bool) → (a && b) ≡ true → a ≡ true
and_left true b h = refl
and_left false b h = h

pub and_right : (a b : Bool) → (a && b) ≡ true → b ≡ true
and_right true b h = h
and_right false b h = absurd (let k : ⊥ = cc in k)

pub and_both : (a b : Bool) → a ≡ true → b ≡ true → (a && b) ≡ true
and_both true b p q = q
and_both false b p q = p

-- a && b && c groups to the left
pub left3 : (a b c : Bool) → (a && b && c) ≡ true → a ≡ true
left3 a b c h = and_left a b (and_left (a && b) c h)

pub middle3 : (a b c : Bool) → (a && b && c) ≡ true → b ≡ true
middle3 a b c h = and_right a b (and_left (a && b) c h)

pub is64_of : (n : ℕ) → fits_64 n ≡ true → Is64 n
is64_of n h =
    let low : nat_le 1 n ≡ true = and_left _ _ h in
    let high : nat_le n 64 ≡ true = and_right _ _ h in
    (grind (arith, nat_tests, low), grind (arith, nat_tests, high))

pub same_number : (m n : ℕ) → (m == n) ≡ true → m ≡ n
same_number m n h = grind (arith, nat_tests, h)

fit : (e : Expression) → fits e ≡ true → divides_constants e ≡ true → is_fit e ≡ true
fit e p q = and_both (fits e) (divides_constants e) p q

-- where the test says so the consequence holds
implied : (a b : Bool) → (not a || b) ≡ true → a ≡ true → b ≡ true
implied true b h k = h
implied false b h k = absurd (let z : ⊥ = cc in z)

parts : (e : Expression) → fits e ≡ true → divides_constants e ≡ true → FitParts e
parts (Literal bits signed sized) p q = is64_of (length bits) p
parts (Name signal) p q = is64_of (signal_length signal) p
parts (Select source part index) p q =
    let wide = left3 (fits_64 part.width) (range_length part.range == source_length source) (fits index) p in
    let range = middle3 (fits_64 part.width) (range_length part.range == source_length source) (fits index) p in
    (is64_of part.width wide, same_number _ _ range, fit index (and_right (fits_64 part.width && (range_length part.range == source_length source)) (fits index) p) q)
parts (Word signal index) p q = (is64_of (word_length signal) (and_left (fits_64 (word_length signal)) (fits index) p), fit index (and_right (fits_64 (word_length signal)) (fits index) p) q)
parts (WordPart signal address part index) p q =
    let front = and_left (fits_word_part signal part && fits address) (fits index) p in
    let own = and_left (fits_word_part signal part) (fits address) front in (
      is64_of part.width (and_left (fits_64 part.width) _ own),
      same_number _ _ (and_right (fits_64 part.width) _ own),
      fit address (and_right (fits_word_part signal part) (fits address) front) (and_left (divides_constants address) _ q),
      fit index (and_right (fits_word_part signal part && fits address) (fits index) p) (and_right (divides_constants address) _ q),
    )
parts (Unary op a) p q = fit a p q
parts (Binary op a b) p q =
    let divides = not (is_division op) || (is_constant a && is_constant b) in
    let a_divides = middle3 divides (divides_constants a) (divides_constants b) q in
    let b_divides = and_right (divides && divides_constants a) (divides_constants b) q in
    (fit a (and_left _ _ p) a_divides, fit b (and_right (fits a) (fits b) p) b_divides, λ d. implied (is_division op) _ (left3 divides (divides_constants a) (divides_constants b) q) d)
parts (Choice c a b) p q = (
  fit c (left3 (fits c) (fits a) (fits b) p) (left3 (divides_constants c) (divides_constants a) (divides_constants b) q),
  fit a (middle3 (fits c) (fits a) (fits b) p) (middle3 (divides_constants c) (divides_constants a) (divides_constants b) q),
  fit b (and_right (fits c && fits a) (fits b) p) (and_right (divides_constants c && divides_constants a) (divides_constants b) q),
)
parts (Join high low) p q = (
  is64_of (width high + width low) (left3 (fits_64 (width high + width low)) (fits high) (fits low) p),
  fit high (middle3 (fits_64 (width high + width low)) (fits high) (fits low) p) (and_left (divides_constants high) (divides_constants low) q),
  fit low (and_right (fits_64 (width high + width low) && fits high) (fits low) p) (and_right (divides_constants high) (divides_constants low) q),
)
parts (Repeat count a) p q = (is64_of (count * width a) (and_left (fits_64 (count * width a)) (fits a) p), fit a (and_right (fits_64 (count * width a)) (fits a) p) q)
parts (At place e) p q = parts e p q
parts (Call header statement arguments) p q =
    let result = fits_64 (signal_length header.result) in
    let inputs = list_all fits_signal header.inputs in
    let inner = and_left (result && inputs && fit_items arguments) (fits_statement statement) p in (
      is64_of (signal_length header.result) (left3 result inputs (fit_items arguments) inner),
      middle3 result inputs (fit_items arguments) inner,
      and_right (result && inputs) (fit_items arguments) inner,
      and_right (result && inputs && fit_items arguments) (fits_statement statement) p,
    )

pub fit_parts : (e : Expression) → is_fit e ≡ true → FitParts e
fit_parts e h = parts e (and_left (fits e) (divides_constants e) h) (and_right (fits e) (divides_constants e) h)

pub fits-from_fit : (e : Expression) → is_fit e ≡ true → fits e ≡ true
fits-from_fit e h = and_left (fits e) (divides_constants e) h

-- ---- lengths

unary_is64 : (op : UnaryOp) (n : ℕ) → Is64 n → Is64 (unary_length op n)
unary_is64 E.Plus n h = h
unary_is64 E.Minus n h = h
unary_is64 E.BitNot n h = h
unary_is64 E.Signed n h = h
unary_is64 E.Unsigned n h = h
unary_is64 E.LogicalNot n h = (omega arith, omega arith)
unary_is64 E.ReduceAnd n h = (omega arith, omega arith)
unary_is64 E.ReduceNand n h = (omega arith, omega arith)
unary_is64 E.ReduceOr n h = (omega arith, omega arith)
unary_is64 E.ReduceNor n h = (omega arith, omega arith)
unary_is64 E.ReduceXor n h = (omega arith, omega arith)
unary_is64 E.ReduceXnor n h = (omega arith, omega arith)

binary_is64 : (w : Way) (m n : ℕ) → Is64 m → Is64 n → Is64 (binary_length w m n)
binary_is64 InContext m n h k = (omega arith, omega arith)
binary_is64 Own m n h k = (omega arith, omega arith)
binary_is64 Compared m n h k = (omega arith, omega arith)
binary_is64 Shifted m n h k = h
binary_is64 Raised m n h k = h

width64 : (e : Expression) → fits e ≡ true → Is64 (width e)
width64 (Literal bits signed sized) p = is64_of (length bits) p
width64 (Name signal) p = is64_of (signal_length signal) p
width64 (Select source part index) p = is64_of part.width (left3 (fits_64 part.width) (range_length part.range == source_length source) (fits index) p)
width64 (Word signal index) p = is64_of (word_length signal) (and_left (fits_64 (word_length signal)) (fits index) p)
width64 (WordPart signal address part index) p = is64_of part.width (and_left (fits_64 part.width) _ (left3 (fits_word_part signal part) (fits address) (fits index) p))
width64 (Unary op a) p = unary_is64 op (width a) (width64 a p)
width64 (Binary op a b) p = binary_is64 (way op) (width a) (width b) (width64 a (and_left _ _ p)) (width64 b (and_right (fits a) (fits b) p))
width64 (Choice c a b) p =
    let h = width64 a (middle3 (fits c) (fits a) (fits b) p) in
    let k = width64 b (and_right (fits c && fits a) (fits b) p) in
    (omega (arith, h.0, k.0), omega (arith, h.1, k.1))
width64 (Join high low) p = is64_of (width high + width low) (left3 (fits_64 (width high + width low)) (fits high) (fits low) p)
width64 (Repeat count a) p = is64_of (count * width a) (and_left (fits_64 (count * width a)) (fits a) p)
width64 (At place e) p = width64 e p
width64 (Call header statement arguments) p =
    let inputs = list_all fits_signal header.inputs in
    is64_of (signal_length header.result) (left3 (fits_64 (signal_length header.result)) inputs (fit_items arguments) (and_left (fits_64 (signal_length header.result) && inputs && fit_items arguments) (fits_statement statement) p))

-- an expression has 1 to 64 bits
pub fit_width : (e : Expression) → is_fit e ≡ true → Is64 (width e)
fit_width e h = width64 e (fits-from_fit e h)
