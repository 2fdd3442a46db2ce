-- Targets by their parts, and what is written to them.
use Rattle.std.proofs.Common.{◌≡◌, ℕ, zero, suc, ◌+◌, ◌-◌, ◌*◌, ◌<◌, ◌≤◌, Bool, true, List, [], ◌∷◌, ◌++◌, map, take, drop, length, get_or, min, Option, Some, None, refl, sym, ap, ap₂, ◌∙◌, subst, arith, append_assoc, append-nil, if◌then◌else◌}
use Rattle.std.proofs.lemmas.List.{drop_more, length-take, length-drop}
use Rattle.std.proofs.Math.Seq.{take-length}
use Rattle.vs_four.specs.declared.Bit4.{Bit4}
use Rattle.vs_four.specs.declared.Bit4.TheVariants.{Zero}
use Rattle.vs_four.specs.declared.Range.{Range}
use Rattle.vs_four.specs.Logic.{BitList, all_known}
use Rattle.vs_four.specs.Numbers.{integer}
use Rattle.vs_four.specs.Selects.{Part, place_of, places, range_length}
use Rattle.vs_net.specs.Network.{State, Write}
use Rattle.vs_design.specs.Bodies.{pair_up, target_writes}
use Rattle.std.specs.Prelude.{◌&&◌}
use Rattle.vs_design.specs.Expressions.{Expression, Source, OfSignal, Signal, Select, Word, WordPart, addresses, signal_length, word_length, sign, width}
use Rattle.vs_design.specs.Fits.{fits_64, is_fit}
use Rattle.vs_design.specs.Within.{names_within, signal_within, target_within}
use Rattle.vs_design.specs.TreeLaws.{PartsOfWord, PartsOfNone}
use Rattle.vs_design.specs.Values.{address_place, count_from, own_value, spread}
use Rattle.vs_flat.specs.Trees.{joined}
use Rattle.vs_sets.specs.TargetsOf.{IsTarget, target_tree}
use Rattle.vs_sets.proofs.Fit.{and_left, and_right}
use Rattle.vs_sets.proofs.WordSteps.{word_ends}
use Rattle.vs_sets.proofs.Widths.{words_are}
use Rattle.vs_sets.proofs.TargetFacts.{both_facts, joined_more, target_few, target_length}
use Rattle.vs_shape.specs.Gathered.{bits_from}
use Rattle.vs_writes.proofs.Writing.{drop_end}

-- ---- runs of bits

pub run_step : (xs ys all : List Write) (first k : ℕ) (v : Bit4) (vs : BitList) → k < length vs → v ≡ get_or vs k Zero → xs ++ pair_up (map Some (count_from (first + k) (length vs - k))) (drop k vs) ≡ all
    → ys ≡ xs ++ record { bit = first + k; value = v } ∷ [] → ys ++ pair_up (map Some (count_from (first + (k + 1)) (length vs - (k + 1)))) (drop (k + 1) vs) ≡ all
run_step xs ys all first k v vs h is so_far pushed =
    let left = length vs - (k + 1) in
    let rest = drop (k + 1) vs in
    let count : length vs - k ≡ suc left = omega arith in
    let next : first + (k + 1) ≡ suc (first + k) = omega arith in
    let front : drop k vs ≡ v ∷ rest = drop_more vs k Zero h ∙ ap {B = BitList} (λ x. x ∷ rest) (sym is) in
    ap (λ ws. ws ++ pair_up (map Some (count_from (first + (k + 1)) left)) rest) pushed
    ∙ append_assoc xs (record { bit = first + k; value = v } ∷ []) (pair_up (map Some (count_from (first + (k + 1)) left)) rest)
    ∙ ap (λ b. xs ++ record { bit = first + k; value = v } ∷ pair_up (map Some (count_from b left)) rest) next
    ∙ ap₂ (λ n us. xs ++ pair_up (map Some (count_from (first + k) n)) us) (sym count) (sym front) ∙ so_far

pub run_done : (xs all : List Write) (first k : ℕ) (vs : BitList) → length vs ≤ k → xs ++ pair_up (map Some (count_from (first + k) (length vs - k))) (drop k vs) ≡ all → xs ≡ all
run_done xs all first k vs done so_far =
    let none : length vs - k ≡ 0 = omega arith in
    sym (append-nil xs) ∙ ap₂ (λ n us. xs ++ pair_up (map Some (count_from (first + k) n)) us) (sym none) (sym (drop_end k vs done)) ∙ so_far

-- ---- places

one_place : (xs all : List Write) (first : ℕ) (place : Option ℕ) (rest : List (Option ℕ)) (v : Bit4) (vs : BitList) → xs ++ pair_up (bits_from first (place ∷ rest)) (v ∷ vs) ≡ all
    → (xs ++ pair_up (bits_from first (place ∷ [])) (v ∷ [])) ++ pair_up (bits_from first rest) vs ≡ all
one_place xs all first None rest v vs is = ap (λ ys. ys ++ pair_up (bits_from first rest) vs) (append-nil xs) ∙ is
one_place xs all first (Some n) rest v vs is = append_assoc xs (record { bit = first + n; value = v } ∷ []) (pair_up (bits_from first rest) vs) ∙ is

pub place_step : (xs ys all : List Write) (first k : ℕ) (p : Option ℕ) (ps : List (Option ℕ)) (v : Bit4) (vs : BitList) → length vs ≡ length ps → k < length ps → p ≡ get_or ps k None → v ≡ get_or vs k Zero
    → xs ++ pair_up (bits_from first (drop k ps)) (drop k vs) ≡ all → ys ≡ xs ++ pair_up (bits_from first (p ∷ [])) (v ∷ []) → ys ++ pair_up (bits_from first (drop (k + 1) ps)) (drop (k + 1) vs) ≡ all
place_step xs ys all first k p ps v vs as_many h at is so_far pushed =
    let rest = drop (k + 1) vs in
    let front : drop k vs ≡ v ∷ rest = drop_more vs k Zero (omega (arith, as_many, h)) ∙ ap {B = BitList} (λ x. x ∷ rest) (sym is) in
    let places : drop k ps ≡ p ∷ drop (k + 1) ps = drop_more ps k None h ∙ ap {B = List (Option ℕ)} (λ x. x ∷ drop (k + 1) ps) (sym at) in
    ap (λ ws. ws ++ pair_up (bits_from first (drop (k + 1) ps)) rest) pushed
    ∙ one_place xs all first p (drop (k + 1) ps) v rest (ap₂ (λ qs us. xs ++ pair_up (bits_from first qs) us) (sym places) (sym front) ∙ so_far)

pub places_done : (xs all : List Write) (first k : ℕ) (ps : List (Option ℕ)) (vs : BitList) → length ps ≤ k → xs ++ pair_up (bits_from first (drop k ps)) (drop k vs) ≡ all → xs ≡ all
places_done xs all first k ps vs done so_far = sym (append-nil xs) ∙ ap (λ qs. xs ++ pair_up (bits_from first qs) (drop k vs)) (sym (drop_end k ps done)) ∙ so_far

-- ---- words

run_bits : (first m n : ℕ) → bits_from first (map Some (count_from m n)) ≡ map Some (count_from (first + m) n)
run_bits first m zero = refl
run_bits first m (suc n) = let next : first + suc m ≡ suc (first + m) = omega arith in ap {B = List (Option ℕ)} (λ ps. Some (first + m) ∷ ps) (run_bits first (suc m) n ∙ ap (λ k. map Some (count_from k n)) next)

pub word_run : (first len n : ℕ) (place : Option ℕ) (vs : BitList) → place ≡ Some n → pair_up (map Some (count_from (first + n * len) len)) vs ≡ pair_up (bits_from first (spread len place)) vs
word_run first len n place vs e = ap (λ ps. pair_up ps vs) (sym (run_bits first (n * len) len)) ∙ ap (λ p. pair_up (bits_from first (spread len p)) vs) (sym e)

pair_none : (first n : ℕ) (vs : BitList) → pair_up (bits_from first (Rattle.std.specs.Prelude.replicate n None)) vs ≡ []
pair_none first zero vs = refl
pair_none first (suc n) [] = refl
pair_none first (suc n) (v ∷ vs) = pair_none first n vs

pub no_word : (xs : List Write) (first len : ℕ) (place : Option ℕ) (vs : BitList) → place ≡ None → xs ≡ xs ++ pair_up (bits_from first (spread len place)) vs
no_word xs first len place vs e = sym (append-nil xs) ∙ ap (λ ws. xs ++ ws) (sym (pair_none first len vs)) ∙ ap (λ p. xs ++ pair_up (bits_from first (spread len p)) vs) (sym e)

-- ---- selects

pub select_writes : (src : Source) (s : Signal) (part : Part) (index : Expression) (first : ℕ) (ps : List (Option ℕ)) (vs : BitList) (state : State) (old new : List Write) → src ≡ OfSignal s → first ≡ s.first → ps ≡ places part (sign index) (own_value index state)
    → new ≡ old ++ pair_up (bits_from first ps) vs → new ≡ old ++ target_writes (target_tree (Select src part index)) vs state
select_writes src s part index first ps vs state old new e begins places_are is =
    is ∙ ap₂ (λ m qs. old ++ pair_up (bits_from m qs) vs) begins places_are ∙ sym (ap (λ x. old ++ target_writes (target_tree (Select x part index)) vs state) e)

pub word_writes : (s : Signal) (index : Expression) (first len : ℕ) (place : Option ℕ) (range : Range) (signed : Bool) (address vs : BitList) (state : State) (old new : List Write) → first ≡ s.first → len ≡ word_length s
    → place ≡ (if all_known address then place_of range (integer signed address) else None) → range ≡ addresses s → signed ≡ sign index → address ≡ own_value index state
    → new ≡ old ++ pair_up (bits_from first (spread len place)) vs → new ≡ old ++ target_writes (target_tree (Word s index)) vs state
word_writes s index first len place range signed address vs state old new begins long place_is range_is signed_is address_is is =
    is ∙ ap₂ (λ m n. old ++ pair_up (bits_from m (spread n place)) vs) begins long
    ∙ ap (λ p. old ++ pair_up (bits_from s.first (spread (word_length s) p)) vs)
    (place_is ∙ ap₂ (λ r g. if all_known address then place_of r (integer g address) else None) range_is signed_is ∙ ap (λ i. if all_known i then place_of (addresses s) (integer (sign index) i) else None) address_is)

-- ---- parts of words

no_pairs : (n : ℕ) (vs : BitList) → pair_up (Rattle.std.specs.Prelude.replicate n None) vs ≡ []
no_pairs zero vs = refl
no_pairs (suc n) [] = refl
no_pairs (suc n) (v ∷ vs) = no_pairs n vs

module _ (s : Signal) (address : Expression) (part : Part) (index : Expression) where
  pub part_writes : PartsOfWord → (n first : ℕ) (ps : List (Option ℕ)) (vs : BitList) (state : State) (old new : List Write) → range_length part.range ≡ word_length s → address_place s (sign address) (own_value address state) ≡ Some n
      → first ≡ s.first + n * word_length s → ps ≡ places part (sign index) (own_value index state) → new ≡ old ++ pair_up (bits_from first ps) vs → new ≡ old ++ target_writes (target_tree (WordPart s address part index)) vs state
  part_writes law n first ps vs state old new long place begins places_are is =
      is ∙ ap₂ (λ m qs. old ++ pair_up (bits_from m qs) vs) begins places_are
      ∙ ap (λ qs. old ++ pair_up qs vs) (sym (law s (sign address) (own_value address state) part (sign index) (own_value index state) n long place))

  pub part_unwritten : PartsOfNone → (vs : BitList) (state : State) (old : List Write) → address_place s (sign address) (own_value address state) ≡ None → old ≡ old ++ target_writes (target_tree (WordPart s address part index)) vs state
  part_unwritten law vs state old none =
      sym (append-nil old) ∙ ap (λ ws. old ++ ws) (sym (ap (λ qs. pair_up qs vs) (law s (sign address) (own_value address state) part (sign index) (own_value index state) none) ∙ no_pairs part.width vs))

  pub part_indices : (n : ℕ) → target_within n (target_tree (WordPart s address part index)) ≡ true → (names_within n address ≡ true) × (names_within n index ≡ true)
  part_indices n h =
      (and_right (signal_within n s) (names_within n address) (and_left (signal_within n s && names_within n address) (names_within n index) h), and_right (signal_within n s && names_within n address) (names_within n index) h)

-- ---- the first part of a concatenation, and the rest

pub record SplitFacts (tree : ℕ → Expression) (f : ℕ) (rest : List ℕ) (vs : BitList) (low : ℕ) : Type 0 where
  pub first_target : IsTarget (tree f)
  pub rest_target : IsTarget (joined (map tree rest))
  pub first_many : length (take (length vs - low) (drop low vs)) ≡ width (tree f)
  pub rest_many : length (take low vs) ≡ width (joined (map tree rest))
  pub writes : (s : State) → target_writes (target_tree (joined (map tree (f ∷ rest)))) vs s
      ≡ target_writes (target_tree (tree f)) (take (length vs - low) (drop low vs)) s ++ target_writes (target_tree (joined (map tree rest))) (take low vs) s

whole_rest : (vs : BitList) (low : ℕ) → take (length vs - low) (drop low vs) ≡ drop low vs
whole_rest vs low = let e : length vs - low ≡ length (drop low vs) = sym (length-drop low vs) in ap (λ n. take n (drop low vs)) e ∙ take-length (drop low vs)

split_of : (tree : ℕ → Expression) (f : ℕ) (rest : List ℕ) (vs : BitList) (low w : ℕ) → 0 < length rest → IsTarget (joined (map tree (f ∷ rest)))
    → length vs ≡ width (joined (map tree (f ∷ rest))) → w ≡ min (width (tree f)) 65 → low ≡ length vs - w → SplitFacts tree f rest vs low
split_of tree f rest vs low w some target many short is =
    let high = tree f in
    let others = joined (map tree rest) in
    let join = joined_more tree f rest some in
    let facts = both_facts high others (subst IsTarget join target) in
    let high_length = target_length high facts.high_target in
    let low_length = target_length others facts.low_target in
    let total : length vs ≡ width high + width others = many ∙ ap width join in
    let own : w ≡ width high = omega (arith, short, facts.few, high_length) in
    let rest_is : low ≡ width others = omega (arith, is, total, own) in
    record {
      first_target = facts.high_target;
      rest_target = facts.low_target;
      first_many = ap length (whole_rest vs low) ∙ omega (arith, length-drop low vs, total, rest_is);
      rest_many = omega (arith, length-take low vs, total, rest_is);
      writes = λ s. ap (λ e. target_writes (target_tree e) vs s) join ∙ ap (λ t. target_writes t vs s) facts.is
          ∙ ap (λ n. target_writes (target_tree high) (drop n vs) s ++ target_writes (target_tree others) (take n vs) s) (low_length ∙ sym rest_is)
          ∙ ap (λ us. target_writes (target_tree high) us s ++ target_writes (target_tree others) (take low vs) s) (sym (whole_rest vs low));
    }

-- of a list that is told as one with a first part
pub split_facts : (tree : ℕ → Expression) (parts : List ℕ) (f : ℕ) (rest : List ℕ) (vs : BitList) (low w : ℕ) → parts ≡ f ∷ rest → 0 < length rest → IsTarget (joined (map tree parts))
    → length vs ≡ width (joined (map tree parts)) → w ≡ min (width (tree f)) 65 → low ≡ length vs - w → SplitFacts tree f rest vs low
split_facts tree parts f rest vs low w e some target many short is =
    split_of tree f rest vs low w some (subst (λ (ps : List ℕ). IsTarget (joined (map tree ps))) e target) (many ∙ ap (λ (ps : List ℕ). width (joined (map tree ps))) e) short is

pub both_writes : (old middle new high low all : List Write) → middle ≡ old ++ high → new ≡ middle ++ low → all ≡ high ++ low → new ≡ old ++ all
both_writes old middle new high low all first second is = second ∙ ap (λ ws. ws ++ low) first ∙ append_assoc old high low ∙ ap (λ ws. old ++ ws) (sym is)

-- ---- indices

pub index_within : (n : ℕ) (src : Source) (s : Signal) (part : Part) (index : Expression) → src ≡ OfSignal s → target_within n (target_tree (Select src part index)) ≡ true → names_within n index ≡ true
index_within n src s part index e h =
    let both : (signal_within n s && names_within n index) ≡ true = subst (λ (x : Source). target_within n (target_tree (Select x part index)) ≡ true) e h in
    and_right (signal_within n s) (names_within n index) both

pub word_index : (n : ℕ) (s : Signal) (index : Expression) → IsTarget (Word s index) → target_within n (target_tree (Word s index)) ≡ true → (is_fit index ≡ true) × (names_within n index ≡ true)
word_index n s index target h = (and_right (fits_64 (word_length s)) (is_fit index) target.fits, and_right (signal_within n s) (names_within n index) h)

pub word_room : (s : Signal) (first : ℕ) (range : Range) (len n count : ℕ) → first ≡ s.first → range ≡ addresses s → len ≡ word_length s → n < range_length range → s.first + signal_length s ≤ count → first + (n * len + len) ≤ count
word_room s first range len n count begins range_is long below ends =
    let inside = word_ends (range_length range) len n below in
    let all : range_length range * len ≡ signal_length s = ap₂ ◌*◌ (ap range_length range_is) long ∙ sym (words_are s) in
    omega (arith, inside, all, ends, begins)

-- ---- how many parts there are

pub some_rest : (parts : List ℕ) (f : ℕ) (rest : List ℕ) → parts ≡ f ∷ rest → (length parts ≡ 1 → ⊥) → 0 < length rest
some_rest parts f [] e h = absurd (h (ap length e))
some_rest parts f (r ∷ rest) e h = omega arith

-- each has a bit, so there are 64 at most
parts_within : (tree : ℕ → Expression) (parts : List ℕ) → IsTarget (joined (map tree parts)) → length parts ≤ width (joined (map tree parts))
parts_within tree [] h = omega arith
parts_within tree (p ∷ []) h = let few = target_few (tree p) h in omega (arith, few.0)
parts_within tree (p ∷ q ∷ ps) h =
    let facts = both_facts (tree p) (joined (map tree (q ∷ ps))) h in
    let few = target_few (tree p) facts.high_target in
    let rest = parts_within tree (q ∷ ps) facts.low_target in
    omega (arith, few.0, rest)

pub parts_few : (tree : ℕ → Expression) (parts : List ℕ) → IsTarget (joined (map tree parts)) → length parts ≤ 64
parts_few tree parts h = let few = target_few (joined (map tree parts)) h in let within = parts_within tree parts h in omega (arith, few.1, within)

pub one_part : (tree : ℕ → Expression) (parts : List ℕ) (f : ℕ) (rest : List ℕ) → parts ≡ f ∷ rest → length parts ≡ 1 → joined (map tree parts) ≡ tree f
one_part tree parts f [] e h = ap (λ (ps : List ℕ). joined (map tree ps)) e
one_part tree parts f (r ∷ rest) e h = absurd (let long = ap length e in omega (arith, long, h))
