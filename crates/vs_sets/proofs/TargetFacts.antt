-- Targets of which nothing is over 64 bits.
use Rattle.std.proofs.Common.{◌≡◌, ℕ, suc, ◌+◌, ◌<◌, ◌≤◌, Bool, true, false, Option, Some, None, List, [], ◌∷◌, length, map, refl, sym, ap, ◌∙◌, subst, arith}
use Rattle.std.specs.Prelude.{◌&&◌, ◌==◌, if◌then◌else◌}
use Rattle.vs_four.specs.Selects.{Part, range_length}
use Rattle.std.proofs.Common.{◌*◌, ◌-◌, ap₂, take, drop}
use Rattle.std.specs.Prelude.{min}
use Rattle.std.proofs.lemmas.List.{length-take, length-drop}
use Rattle.std.proofs.Math.Seq.{take-length}
use Rattle.vs_design.specs.Sets.{Set4}
use Rattle.vs_design.specs.Lifted.{Family}
use Rattle.std.proofs.lemmas.Bool.{cond-true, cond-false}
use Rattle.vs_four.specs.Selects.{places}
use Rattle.vs_design.specs.Expressions.{is_constant, sign}
use Rattle.vs_design.specs.LiftedBodies.{put_each, widen, write_sets}
use Rattle.vs_design.specs.Sets.{all_of}
use Rattle.vs_design.specs.Values.{bits_of_signal, constant_value, count_from}
use Rattle.vs_design.specs.Within.{names_within, signal_within, target_within}
use Rattle.vs_sets.specs.Tables.{bits_from}
use Rattle.vs_sets.proofs.Limits.{signal_ends}
use Rattle.std.specs.Prelude.{unwrap_or}
use Rattle.vs_design.specs.Expressions.{Expression, Source, OfSignal, OfConstant, Signal, signal_length, word_length, Literal, Name, Select, Word, WordPart, Unary, Binary, Choice, Join, Repeat, At, Call, width}
use Rattle.vs_design.specs.Statements.{Target, Whole, PartOf, WordOf, WordPartOf, Both, target_width}
use Rattle.vs_flat.specs.Targets.{target_of, both_of}
use Rattle.vs_flat.specs.Trees.{joined, no_signal}
use Rattle.vs_design.specs.Fits.{is_fit, fits_target, fits_64, fits_word_part}
use Rattle.vs_sets.specs.FitParts.{Is64}
use Rattle.vs_sets.specs.Nodes.{EachBelow}
use Rattle.vs_sets.specs.TargetsOf.{IsTarget, target_tree}
use Rattle.vs_sets.proofs.Fit.{and_left, and_right, is64_of, same_number}

pub record PartFacts (signal : Signal) (p : Part) (index : Expression) : Type 0 where
  pub range : range_length p.range ≡ signal_length signal
  pub fit : is_fit index ≡ true
  pub few : Is64 p.width

pub part_facts : (src : Source) (s : Signal) (p : Part) (index : Expression) → IsTarget (Select src p index) → src ≡ OfSignal s → PartFacts s p index
part_facts src s p index target e =
    let h : fits_target (target_tree (Select (OfSignal s) p index)) ≡ true = subst (λ (x : Source). fits_target (target_tree (Select x p index)) ≡ true) e target.fits in
    let front = and_left (fits_64 p.width && (range_length p.range == signal_length s)) (is_fit index) h in
    record {
      range = same_number (range_length p.range) (signal_length s) (and_right (fits_64 p.width) _ front);
      fit = and_right (fits_64 p.width && (range_length p.range == signal_length s)) (is_fit index) h;
      few = is64_of p.width (and_left (fits_64 p.width) _ front);
    }

-- ---- concatenations

pub joined_more : (tree : ℕ → Expression) (f : ℕ) (rest : List ℕ) → 0 < length rest → joined (map tree (f ∷ rest)) ≡ Join (tree f) (joined (map tree rest))
joined_more tree f [] h = absurd (omega arith)
joined_more tree f (r ∷ rest) h = refl

pub joined_one : (tree : ℕ → Expression) (f : ℕ) (rest : List ℕ) → length rest ≡ 0 → joined (map tree (f ∷ rest)) ≡ tree f
joined_one tree f [] h = refl
joined_one tree f (r ∷ rest) h = absurd (omega arith)

pub record BothFacts (high low : Expression) : Type 0 where
  pub high_target : IsTarget high
  pub low_target : IsTarget low
  pub is : target_tree (Join high low) ≡ Both (target_tree high) (target_tree low)
  pub few : target_width (target_tree high) + target_width (target_tree low) ≤ 64

both_facts_at : (h l : Option Target) (high low : Expression) → target_of high ≡ h → target_of low ≡ l → both_of h l ≡ Some (target_tree (Join high low)) → fits_target (target_tree (Join high low)) ≡ true → BothFacts high low
both_facts_at None l high low e f i g = absurd (let z : ⊥ = cc in z)
both_facts_at (Some t) None high low e f i g = absurd (let z : ⊥ = cc in z)
both_facts_at (Some t) (Some u) high low e f i g =
    let whole : target_tree (Join high low) ≡ Both t u = cc in
    let left : target_tree high ≡ t = ap (λ (o : Option Target). unwrap_or o (Whole no_signal)) e in
    let right : target_tree low ≡ u = ap (λ (o : Option Target). unwrap_or o (Whole no_signal)) f in
    let fit : fits_target (Both t u) ≡ true = subst (λ (x : Target). fits_target x ≡ true) whole g in
    let front = and_left (fits_64 (target_width t + target_width u) && fits_target t) (fits_target u) fit in
    let few = is64_of (target_width t + target_width u) (and_left (fits_64 (target_width t + target_width u)) _ front) in
    record {
      high_target = record { is = e ∙ ap Some (sym left); fits = ap fits_target left ∙ and_right (fits_64 (target_width t + target_width u)) (fits_target t) front };
      low_target = record { is = f ∙ ap Some (sym right); fits = ap fits_target right ∙ and_right (fits_64 (target_width t + target_width u) && fits_target t) (fits_target u) fit };
      is = whole ∙ ap₂ Both (sym left) (sym right);
      few = omega (arith, ap target_width left, ap target_width right, few.1);
    }

pub both_facts : (high low : Expression) → IsTarget (Join high low) → BothFacts high low
both_facts high low h = both_facts_at (target_of high) (target_of low) high low refl refl h.is h.fits

-- ---- lengths

width_at : (e : Expression) (t : Target) → target_of e ≡ Some t → target_width t ≡ width e
width_at (Literal bits signed sized) t h = absurd (let z : ⊥ = cc in z)
width_at (Name signal) t h = let same : t ≡ Whole signal = cc in ap target_width same
width_at (Select (OfSignal signal) p index) t h = let same : t ≡ PartOf signal p index = cc in ap target_width same
width_at (Select (OfConstant bits) p index) t h = absurd (let z : ⊥ = cc in z)
width_at (Word signal index) t h = let same : t ≡ WordOf signal index = cc in ap target_width same
width_at (WordPart signal address p index) t h = let same : t ≡ WordPartOf signal address p index = cc in ap target_width same
width_at (Unary op a) t h = absurd (let z : ⊥ = cc in z)
width_at (Binary op a b) t h = absurd (let z : ⊥ = cc in z)
width_at (Choice c p q) t h = absurd (let z : ⊥ = cc in z)
width_at (Join high low) t h = at (target_of high) (target_of low) refl refl h (λ u e. width_at high u e) (λ u e. width_at low u e) where
  at : (x y : Option Target) → target_of high ≡ x → target_of low ≡ y → both_of x y ≡ Some t → ((u : Target) → target_of high ≡ Some u → target_width u ≡ width high) → ((u : Target) → target_of low ≡ Some u → target_width u ≡ width low) → target_width t ≡ width high + width low
  at None y e f h p q = absurd (let z : ⊥ = cc in z)
  at (Some u) None e f h p q = absurd (let z : ⊥ = cc in z)
  at (Some u) (Some v) e f h p q = let same : t ≡ Both u v = cc in ap target_width same ∙ ap₂ ◌+◌ (p u e) (q v f)
width_at (Repeat count a) t h = at (count == 1) refl h (λ e. width_at a t e) where
  at : (k : Bool) → (count == 1) ≡ k → (if k then target_of a else None) ≡ Some t → (target_of a ≡ Some t → target_width t ≡ width a) → target_width t ≡ count * width a
  at true e h p = let one = same_number count 1 e in p h ∙ (omega (arith, one, ap (λ n. n * width a) one))
  at false e h p = absurd (let z : ⊥ = cc in z)
width_at (At place e) t h = width_at e t h
width_at (Call header statement arguments) t h = absurd (let z : ⊥ = cc in z)

pub target_length : (e : Expression) → IsTarget e → target_width (target_tree e) ≡ width e
target_length e h = width_at e (target_tree e) h.is

few_bits : (t : Target) → fits_target t ≡ true → Is64 (target_width t)
few_bits (Whole signal) h = is64_of (signal_length signal) h
few_bits (PartOf signal p index) h = is64_of p.width (and_left (fits_64 p.width) _ (and_left (fits_64 p.width && (range_length p.range == signal_length signal)) (is_fit index) h))
few_bits (WordOf signal index) h = is64_of (word_length signal) (and_left (fits_64 (word_length signal)) (is_fit index) h)
few_bits (WordPartOf signal address p index) h = is64_of p.width (and_left (fits_64 p.width) _ (and_left (fits_word_part signal p) _ (and_left (fits_word_part signal p && is_fit address) (is_fit index) h)))
few_bits (Both high low) h = is64_of (target_width high + target_width low) (and_left (fits_64 (target_width high + target_width low)) _ (and_left (fits_64 (target_width high + target_width low) && fits_target high) (fits_target low) h))

pub target_few : (e : Expression) → IsTarget e → Is64 (width e)
target_few e h = subst Is64 (target_length e h) (few_bits (target_tree e) h.fits)

-- ---- the first part, and the rest

pub record SplitFacts (tree : ℕ → Expression) (f : ℕ) (rest : List ℕ) (sets : List Set4) (low : ℕ) : Type 0 where
  pub first_target : IsTarget (tree f)
  pub rest_target : IsTarget (joined (map tree rest))
  pub first_many : length (take (length sets - low) (drop low sets)) ≡ width (tree f)
  pub rest_many : length (take low sets) ≡ width (joined (map tree rest))
  pub writes : (g : Family) → write_sets (target_tree (joined (map tree (f ∷ rest)))) sets g
      ≡ write_sets (target_tree (joined (map tree rest))) (take low sets) (write_sets (target_tree (tree f)) (take (length sets - low) (drop low sets)) g)

whole_rest : (sets : List Set4) (low : ℕ) → take (length sets - low) (drop low sets) ≡ drop low sets
whole_rest sets low = let e : length sets - low ≡ length (drop low sets) = sym (length-drop low sets) in ap (λ n. take n (drop low sets)) e ∙ take-length (drop low sets)

split_of : (tree : ℕ → Expression) (f : ℕ) (rest : List ℕ) (sets : List Set4) (low w : ℕ) → 0 < length rest → IsTarget (joined (map tree (f ∷ rest)))
    → length sets ≡ width (joined (map tree (f ∷ rest))) → w ≡ min (width (tree f)) 65 → low ≡ length sets - w → SplitFacts tree f rest sets low
split_of tree f rest sets low w some target many short is =
    let high = tree f in
    let others = joined (map tree rest) in
    let join = joined_more tree f rest some in
    let facts = both_facts high others (subst IsTarget join target) in
    let high_length = target_length high facts.high_target in
    let low_length = target_length others facts.low_target in
    let total : length sets ≡ width high + width others = many ∙ ap width join in
    let own : w ≡ width high = omega (arith, short, facts.few, high_length) in
    let rest_is : low ≡ width others = omega (arith, is, total, own) in
    record {
      first_target = facts.high_target;
      rest_target = facts.low_target;
      first_many = ap length (whole_rest sets low) ∙ omega (arith, length-drop low sets, total, rest_is);
      rest_many = omega (arith, length-take low sets, total, rest_is);
      writes = λ g. ap (λ e. write_sets (target_tree e) sets g) join ∙ ap (λ t. write_sets t sets g) facts.is
          ∙ ap (λ n. write_sets (target_tree others) (take n sets) (write_sets (target_tree high) (drop n sets) g)) (low_length ∙ sym rest_is)
          ∙ ap (λ ss. write_sets (target_tree others) (take low sets) (write_sets (target_tree high) ss g)) (sym (whole_rest sets low));
    }

-- of a list that is told as one with a first part
pub split_facts : (tree : ℕ → Expression) (parts : List ℕ) (f : ℕ) (rest : List ℕ) (sets : List Set4) (low w : ℕ) → parts ≡ f ∷ rest → 0 < length rest → IsTarget (joined (map tree parts))
    → length sets ≡ width (joined (map tree parts)) → w ≡ min (width (tree f)) 65 → low ≡ length sets - w → SplitFacts tree f rest sets low
split_facts tree parts f rest sets low w e some target many short is =
    split_of tree f rest sets low w some (subst (λ (ps : List ℕ). IsTarget (joined (map tree ps))) e target) (many ∙ ap (λ (ps : List ℕ). width (joined (map tree ps))) e) short is

pub first_below : (e : ℕ) (parts : List ℕ) (f : ℕ) (rest : List ℕ) → EachBelow e parts → parts ≡ f ∷ rest → f < e
first_below e parts f rest h same = let k : EachBelow e (f ∷ rest) = subst (EachBelow e) same h in k 0 (omega arith)

pub rest_below : (e : ℕ) (parts : List ℕ) (f : ℕ) (rest : List ℕ) → EachBelow e parts → parts ≡ f ∷ rest → EachBelow e rest
rest_below e parts f rest h same = let k : EachBelow e (f ∷ rest) = subst (EachBelow e) same h in λ n i. k (suc n) (omega (arith, i))

-- ---- where the bits of targets are

-- what a select that is a target is taken of
pub part_signal : (src : Source) (p : Part) (index : Expression) → IsTarget (Select src p index) → (s : Signal) × (src ≡ OfSignal s)
part_signal (OfSignal s) p index h = (s, refl)
part_signal (OfConstant bits) p index h = absurd (let i = h.is in let z : ⊥ = cc in z)

pub part_ends : (n : ℕ) (src : Source) (s : Signal) (p : Part) (index : Expression) → src ≡ OfSignal s → target_within n (target_tree (Select src p index)) ≡ true → s.first + signal_length s ≤ n
part_ends n src s p index e h =
    let part : (signal_within n s && names_within n index) ≡ true = subst (λ (x : Source). target_within n (target_tree (Select x p index)) ≡ true) e h in
    signal_ends n s (and_left (signal_within n s) _ part)

pub word_ends_at : (n : ℕ) (s : Signal) (index : Expression) → target_within n (target_tree (Word s index)) ≡ true → s.first + signal_length s ≤ n
word_ends_at n s index h = signal_ends n s (and_left (signal_within n s) (names_within n index) h)

-- a part of a word that is a target
pub record WordPartFacts (signal : Signal) (address : Expression) (p : Part) (index : Expression) : Type 0 where
  pub range : range_length p.range ≡ word_length signal
  pub few : Is64 p.width
  pub address_fit : is_fit address ≡ true
  pub index_fit : is_fit index ≡ true

pub word_part_facts : (s : Signal) (address : Expression) (p : Part) (index : Expression) → IsTarget (WordPart s address p index) → WordPartFacts s address p index
word_part_facts s address p index target =
    let h : fits_target (WordPartOf s address p index) ≡ true = target.fits in
    let front = and_left (fits_word_part s p && is_fit address) (is_fit index) h in
    let own = and_left (fits_word_part s p) (is_fit address) front in
    record {
      range = same_number (range_length p.range) (word_length s) (and_right (fits_64 p.width) _ own);
      few = is64_of p.width (and_left (fits_64 p.width) _ own);
      address_fit = and_right (fits_word_part s p) (is_fit address) front;
      index_fit = and_right (fits_word_part s p && is_fit address) (is_fit index) h;
    }

pub word_part_ends_at : (n : ℕ) (s : Signal) (address : Expression) (p : Part) (index : Expression) → target_within n (target_tree (WordPart s address p index)) ≡ true → s.first + signal_length s ≤ n
word_part_ends_at n s address p index h = signal_ends n s (and_left (signal_within n s) _ (and_left (signal_within n s && names_within n address) (names_within n index) h))

pub both_within : (tree : ℕ → Expression) (parts : List ℕ) (f : ℕ) (rest : List ℕ) (n : ℕ) → parts ≡ f ∷ rest → 0 < length rest → IsTarget (joined (map tree parts)) → target_within n (target_tree (joined (map tree parts))) ≡ true
    → (target_within n (target_tree (tree f)) ≡ true) × (target_within n (target_tree (joined (map tree rest))) ≡ true)
both_within tree parts f rest n e some target h =
    let whole = ap (λ (ps : List ℕ). joined (map tree ps)) e ∙ joined_more tree f rest some in
    let facts = both_facts (tree f) (joined (map tree rest)) (subst IsTarget whole target) in
    let both : (target_within n (target_tree (tree f)) && target_within n (target_tree (joined (map tree rest)))) ≡ true = ap (target_within n) (sym facts.is) ∙ ap (λ x. target_within n (target_tree x)) (sym whole) ∙ h in
    (and_left (target_within n (target_tree (tree f))) _ both, and_right (target_within n (target_tree (tree f))) _ both)

-- a write to a select by a constant index, and by any other
pub part_put : (src : Source) (s : Signal) (p : Part) (index : Expression) (first : ℕ) (ps : List (Option ℕ)) (constant : Bool) (sets : List Set4) (f g : Family) → src ≡ OfSignal s → first ≡ s.first → constant ≡ true → constant ≡ is_constant index
    → ps ≡ places p (sign index) (constant_value index) → g ≡ put_each (bits_from first ps) sets f → g ≡ write_sets (target_tree (Select src p index)) sets f
part_put src s p index first ps constant sets f g e begins known is places_are written =
    written ∙ ap₂ (λ m qs. put_each (bits_from m qs) sets f) begins places_are
    ∙ sym (cond-true (is_constant index) _ _ (sym is ∙ known)) ∙ ap (λ x. write_sets (target_tree (Select x p index)) sets f) (sym e)

pub part_widened : (src : Source) (s : Signal) (p : Part) (index : Expression) (first len : ℕ) (constant : Bool) (set : Set4) (sets : List Set4) (f g : Family) → src ≡ OfSignal s → first ≡ s.first → len ≡ signal_length s → constant ≡ false → constant ≡ is_constant index
    → set ≡ all_of sets → g ≡ widen (count_from first len) set f → g ≡ write_sets (target_tree (Select src p index)) sets f
part_widened src s p index first len constant set sets f g e begins long unknown is all written =
    written ∙ ap₂ (λ m n. widen (count_from m n) set f) begins long ∙ ap (λ x. widen (bits_of_signal s) x f) all
    ∙ sym (cond-false (is_constant index) _ _ (sym is ∙ unknown)) ∙ ap (λ x. write_sets (target_tree (Select x p index)) sets f) (sym e)
