-- Concatenations and replications whose parts were lowered.
use Rattle.std.proofs.Common.{◌≡◌, ℕ, suc, ◌+◌, ◌*◌, ◌<◌, ◌≤◌, Bool, true, false, ◌&&◌, List, [], ◌∷◌, ◌++◌, map, length, slice_index, drop, take, sym, ap, ◌∙◌, subst, refl, arith, true≢false, length-append, append-nil, replicate, ◌-◌}
use Rattle.std.specs.List.{All}
use Rattle.std.proofs.lemmas.List.Elements.{All-nil, All-cons, All-take, All-drop}
use Rattle.vs_four.specs.Lengths.{repeat, extend_with}
use Rattle.vs_design.specs.Expressions.{Expression, Join, Repeat, width, sign}
use Rattle.vs_design.specs.Fits.{fits, fits_64, divides_constants, is_fit}
use Rattle.vs_design.specs.Within.{names_within}
use Rattle.vs_flat.specs.Trees.{joined, copy_count, first_copy}
use Rattle.vs_shape.specs.Nodes.{EachBelow}
use Rattle.vs_values.specs.Constants.{extended_slots}
use Rattle.vs_values.specs.Coded.{Coding}
use Rattle.vs_values.specs.Ready.{IsReady}
use Rattle.vs_values.specs.Valued.{AddsValue}
use Rattle.vs_values.proofs.Adding.{env_more}
use Rattle.vs_values.proofs.Values.{both_true, join_is}
use Rattle.vs_values.proofs.Parts.{repeat_is}
use Rattle.vs_values.proofs.Periods.{take_whole}
use Rattle.vs_values.proofs.Readying.{fits_length, stores_of, two_added}

both : (a b : Bool) → a ≡ true → b ≡ true → (a && b) ≡ true
both true b h k = k
both false b h k = cc

-- ---- the tree of parts

pub split_parts : (t : ℕ → Expression) (parts : List ℕ) → 1 ≤ length parts → (length parts ≡ 1 → ⊥) → joined (map t parts) ≡ Join (t (slice_index parts 0)) (joined (map t (drop 1 parts)))
split_parts t [] h k = absurd (omega arith)
split_parts t (x ∷ []) h k = absurd (k refl)
split_parts t (x ∷ y ∷ ys) h k = refl

pub one_part : (t : ℕ → Expression) (parts : List ℕ) → length parts ≡ 1 → joined (map t parts) ≡ t (slice_index parts 0)
one_part t [] h = absurd (omega arith)
one_part t (x ∷ []) h = refl
one_part t (x ∷ y ∷ ys) h = absurd (omega arith)

-- all parts but the first
abbrev pub rest : List ℕ → List ℕ
rest parts = take (length parts - 1) (drop 1 parts)

rest_is : (parts : List ℕ) → rest parts ≡ drop 1 parts
rest_is [] = refl
rest_is (x ∷ xs) = let z : length (x ∷ xs) - 1 ≡ length xs = omega arith in ap (λ k. take k xs) z ∙ take_whole xs

pub split_rest : (t : ℕ → Expression) (parts : List ℕ) → 1 ≤ length parts → (length parts ≡ 1 → ⊥) → joined (map t parts) ≡ Join (t (slice_index parts 0)) (joined (map t (rest parts)))
split_rest t parts h k = split_parts t parts h k ∙ ap (λ (x : List ℕ). Join (t (slice_index parts 0)) (joined (map t x))) (sym (rest_is parts))

pub rest_short : (parts : List ℕ) → 1 ≤ length parts → length (rest parts) + 1 ≡ length parts
rest_short [] h = absurd (omega arith)
rest_short (x ∷ xs) h = omega (arith, ap (λ (ys : List ℕ). length ys) (rest_is (x ∷ xs)))

pub rest_all : (P : ℕ → Type 0) (parts : List ℕ) → All P parts → All P (rest parts)
rest_all P parts h = All-take P (length parts - 1) (drop 1 parts) (All-drop P 1 parts h)

-- there are no more parts than bits
pub parts_short : (t : ℕ → Expression) (parts : List ℕ) → fits (joined (map t parts)) ≡ true → (1 ≤ length parts) × (length parts ≤ width (joined (map t parts)))
parts_short t [] h = absurd (true≢false (sym h))
parts_short t (x ∷ []) h = (omega arith, (fits_length (t x) h).0)
parts_short t (x ∷ y ∷ ys) h =
    let p = both_true (fits_64 (width (t x) + width (joined (map t (y ∷ ys)))) && fits (t x)) (fits (joined (map t (y ∷ ys)))) h in
    let q = both_true (fits_64 (width (t x) + width (joined (map t (y ∷ ys))))) (fits (t x)) p.0 in
    let rest = parts_short t (y ∷ ys) p.1 in
    let here = (fits_length (t x) q.1).0 in
    (omega arith, omega (arith, rest.1, here))

pub parts_most : (env : List ℕ) (code : Coding) (t : ℕ → Expression) (parts : List ℕ) (w : ℕ) → IsReady env code (joined (map t parts)) w → (1 ≤ length parts) × (length parts ≤ 64)
parts_most env code t parts w r =
    let p = both_true (fits (joined (map t parts))) (divides_constants (joined (map t parts))) r.fit in
    let l = parts_short t parts p.0 in
    let m = fits_length (joined (map t parts)) p.0 in
    (l.0, omega (arith, l.1, m.1))

-- ---- what the parts need

fit_join : (high low : Expression) → is_fit (Join high low) ≡ true → (is_fit high ≡ true) × (is_fit low ≡ true)
fit_join high low h =
    let x = both_true (fits (Join high low)) (divides_constants (Join high low)) h in
    let f = both_true (fits_64 (width high + width low) && fits high) (fits low) x.0 in
    let g = both_true (fits_64 (width high + width low)) (fits high) f.0 in
    let d = both_true (divides_constants high) (divides_constants low) x.1 in
    (both (fits high) (divides_constants high) g.1 d.0, both (fits low) (divides_constants low) f.1 d.1)

pub ready_low : (env : List ℕ) (code : Coding) (high low : Expression) → IsReady env code (Join high low) (width (Join high low)) → IsReady env code low (width low)
ready_low env code high low r =
    let f = fit_join high low r.fit in
    record {
      is_env = r.is_env;
      has_bits = (both_true (names_within (length env) high) (names_within (length env) low) r.has_bits).1;
      fit = f.1;
      wide = omega arith;
      at_most_64 = omega (arith, r.at_most_64);
      light = omega (arith, r.light);
      slots = omega (arith, r.slots);
      few = omega (arith, r.few);
    }

pub ready_high : (env : List ℕ) (code code1 : Coding) (high low : Expression) (k : ℕ) (tl : List ℕ) → k ≡ width high → IsReady env code (Join high low) (width (Join high low))
    → AddsValue env code.calls code.next code1.calls code1.next low (width low) (sign low) tl → IsReady env code1 high k
ready_high env code code1 high low k tl h r v =
    let f = fit_join high low r.fit in
    let added = v.value.values.added in
    let stored = stores_of code.calls v.calls code1.calls v.is in
    subst (IsReady env code1 high) (sym h) (record {
      is_env = env_more env code.next code1.next added.grown r.is_env;
      has_bits = (both_true (names_within (length env) high) (names_within (length env) low) r.has_bits).0;
      fit = f.0;
      wide = omega arith;
      at_most_64 = omega (arith, r.at_most_64);
      light = omega (arith, r.light);
      slots = omega (arith, r.slots, added.paid, added.stores);
      few = omega (arith, r.few, added.stores, stored);
    })

pub ready_one : (env : List ℕ) (code : Coding) (e one : Expression) (k : ℕ) → e ≡ one → k ≡ width one → IsReady env code e (width e) → IsReady env code one k
ready_one env code e one k h i r = subst (IsReady env code one) (sym i) (subst (λ (x : Expression). IsReady env code x (width x)) h r)

pub ready_part : (env : List ℕ) (code : Coding) (e both : Expression) → e ≡ both → IsReady env code e (width e) → IsReady env code both (width both)
ready_part env code e both h r = subst (λ (x : Expression). IsReady env code x (width x)) h r

-- ---- what comes of them

pub adds_one : (env : List ℕ) (code code1 : Coding) (e one : Expression) (k : ℕ) (t : Bool) (to : List ℕ) → e ≡ one → k ≡ width one → t ≡ sign one
    → AddsValue env code.calls code.next code1.calls code1.next one k t to → AddsValue env code.calls code.next code1.calls code1.next e (width e) (sign e) to
adds_one env code code1 e one k t to h i j v =
    subst (λ (x : Expression). AddsValue env code.calls code.next code1.calls code1.next x (width x) (sign x) to) (sym h)
    (subst (λ (x : ℕ). AddsValue env code.calls code.next code1.calls code1.next one x (sign one) to) i (subst (λ (x : Bool). AddsValue env code.calls code.next code1.calls code1.next one k x to) j v))

pub no_more : (fill w : ℕ) (to : List ℕ) → length to ≡ w → extend_with fill w to ≡ to
no_more fill w to h = let z : w - length to ≡ 0 = omega arith in ap (λ n. to ++ replicate n fill) z ∙ append-nil to

pub adds_join : (env : List ℕ) (code code1 code2 : Coding) (e high low : Expression) (k : ℕ) (t : Bool) (tl th to : List ℕ) → e ≡ Join high low → k ≡ width high → t ≡ sign high
    → IsReady env code (Join high low) (width (Join high low))
    → AddsValue env code.calls code.next code1.calls code1.next low (width low) (sign low) tl
    → AddsValue env code1.calls code1.next code2.calls code2.next high k t th
    → to ≡ tl ++ th
    → AddsValue env code.calls code.next code2.calls code2.next e (width e) (sign e) to
adds_join env code code1 code2 e high low k t tl th to h i j r vl v is =
    let vh : AddsValue env code1.calls code1.next code2.calls code2.next high (width high) (sign high) th = adds_one env code1 code2 high high k t th refl i j v in
    let w = width (Join high low) in
    let s = sign (Join high low) in
    let full : extended_slots w s (tl ++ th) ≡ tl ++ th = no_more _ w (tl ++ th) (omega (arith, length-append tl th, vl.value.length, vh.value.length)) in
    let value = join_is env code.next high low w s vl.calls tl code1.next vh.calls th code2.next r.is_env (omega arith) vl.value vh.value in
    subst (λ (x : Expression). AddsValue env code.calls code.next code2.calls code2.next x (width x) (sign x) to) (sym h)
    (subst (λ (x : List ℕ). AddsValue env code.calls code.next code2.calls code2.next (Join high low) w s x) (full ∙ sym is) (record {
      calls = vl.calls ++ vh.calls;
      is = two_added code.calls vl.calls vh.calls code1.calls code2.calls vl.is vh.is;
      value = value;
    }))

-- ---- replications

some_copies : (parts : List ℕ) → 1 ≤ copy_count parts
some_copies [] = omega arith
some_copies (e ∷ es) = omega arith

pub some_first : (parts : List ℕ) → 1 ≤ length (first_copy parts) → 1 ≤ length parts
some_first [] h = h
some_first (e ∷ es) h = omega arith

pub ready_copy : (env : List ℕ) (code : Coding) (count : ℕ) (a : Expression) (w : ℕ) → IsReady env code (Repeat count a) w → IsReady env code a (width a)
ready_copy env code count a w r =
    let x = both_true (fits (Repeat count a)) (divides_constants a) r.fit in
    let f = both_true (fits_64 (count * width a)) (fits a) x.0 in
    record {
      is_env = r.is_env;
      has_bits = r.has_bits;
      fit = both (fits a) (divides_constants a) f.1 x.1;
      wide = omega arith;
      at_most_64 = (fits_length a f.1).1;
      light = r.light;
      slots = r.slots;
      few = r.few;
    }

pub parts_some : (env : List ℕ) (code : Coding) (t : ℕ → Expression) (parts : List ℕ) (w : ℕ) → IsReady env code (Repeat (copy_count parts) (joined (map t (first_copy parts)))) w → 1 ≤ length parts
parts_some env code t parts w r =
    some_first parts (parts_most env code t (first_copy parts) (width (joined (map t (first_copy parts)))) (ready_copy env code (copy_count parts) (joined (map t (first_copy parts))) w r)).0

pub adds_copies : (env : List ℕ) (code code1 : Coding) (count : ℕ) (a b : Expression) (w : ℕ) (s : Bool) (ta to : List ℕ) → b ≡ a → IsReady env code (Repeat count a) w
    → AddsValue env code.calls code.next code1.calls code1.next b (width b) (sign b) ta
    → to ≡ extended_slots w s (repeat count ta)
    → AddsValue env code.calls code.next code1.calls code1.next (Repeat count a) w s to
adds_copies env code code1 count a b w s ta to h r u is =
    let v = subst (λ (x : Expression). AddsValue env code.calls code.next code1.calls code1.next x (width x) (sign x) ta) h u in
    subst (λ (x : List ℕ). AddsValue env code.calls code.next code1.calls code1.next (Repeat count a) w s x) (sym is) (record {
      calls = v.calls;
      is = v.is;
      value = repeat_is env code.next count a w s v.calls ta code1.next r.is_env r.wide v.value;
    })

-- ---- parts come before their node

-- the k-th of them is below e
pub each_below : (e : ℕ) (parts : List ℕ) → EachBelow e parts → All (λ p. p < e) parts
each_below e [] h = All-nil (λ p. p < e)
each_below e (p ∷ ps) h = All-cons (λ q. q < e) p ps (h 0 (omega arith)) (each_below e ps (λ k l. h (suc k) (omega arith)))
