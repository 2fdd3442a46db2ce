-- What makes an expression a selector, part by part.
use Rattle.std.proofs.Common.{◌≡◌, ℕ, zero, suc, ◌+◌, ◌<◌, ◌≤◌, Bool, true, false, not, ◌&&◌, ◌==◌, eqb-true, eq-eqb, List, [], ◌∷◌, length, map, take, drop, get_or, Option, Some, None, option_map, refl, sym, ap, ◌∙◌, subst, arith}
use Rattle.std.specs.Prelude.{slice_get, slice_index_or, is_some}
use Rattle.std.specs.List.{list_all}
use Rattle.std.proofs.lemmas.List.{drop_more, length-map}
use Rattle.vs_four.specs.Selects.{Part, places}
use Rattle.vs_design.specs.Expressions.{Signal, Source, OfSignal, OfConstant, Expression, Literal, Name, Select, Word, WordPart, Unary, Binary, Choice, Join, Repeat, At, Call, sign, is_constant}
use Rattle.vs_design.specs.Values.{constant_value}
use Rattle.vs_design.specs.Designs.{Design}
use Rattle.vs_design.specs.Clocks.{name_of}
use Rattle.vs_design.specs.Fits.{fits_64}
use Rattle.vs_design.specs.Elaborated.{is_plain, same_range, is_formed, is_formed_select}
use Rattle.vs_design.specs.Selects.{is_selector, select_root}
use Rattle.vs_design.proofs.Lists.{and_both}
use Rattle.vs_design.proofs.Formed.{signal_at as plain_at, plain_signal}
use Rattle.vs_flat.specs.Arena.{Arena}
use Rattle.vs_flat.specs.DesignOf.{design_of}
use Rattle.vs_flat.specs.Targets.{source_of}
use Rattle.vs_flat.specs.Trees.{joined, no_expression}
use Rattle.vs_shape.specs.Nodes.{EachBelow}
use Rattle.vs_sets.proofs.Joins.{get_or-trees}
use Rattle.vs_full.specs.Roots.{AreRoots, number_of}
use Rattle.vs_full.specs.Selectors.{has_root, is_source}
use Rattle.vs_full.proofs.Copying.{root_at}

-- ---- names

pub source_name : (e : Expression) (s : Signal) → name_of e ≡ Some s → source_of e ≡ OfSignal s
source_name (Name t) s h = ap OfSignal (some_is t s h)
  where
    some_is : (x y : Signal) → Some x ≡ Some y → x ≡ y
    some_is x y e = cc
source_name (At place e) s h = source_name e s h
source_name (Literal bits signed sized) s h = cc
source_name (Select source part index) s h = cc
source_name (Word signal index) s h = cc
source_name (WordPart signal address part index) s h = cc
source_name (Unary op a) s h = cc
source_name (Binary op a b) s h = cc
source_name (Choice c p q) s h = cc
source_name (Join high low) s h = cc
source_name (Repeat count a) s h = cc
source_name (Call header statement arguments) s h = cc

source_none : (d : Design) (e : Expression) → name_of e ≡ None → has_root d (source_of e) ≡ false
source_none d (Name t) h = cc
source_none d (At place e) h = source_none d e h
source_none d (Literal bits signed sized) h = refl
source_none d (Select source part index) h = refl
source_none d (Word signal index) h = refl
source_none d (WordPart signal address part index) h = refl
source_none d (Unary op a) h = refl
source_none d (Binary op a b) h = refl
source_none d (Choice c p q) h = refl
source_none d (Join high low) h = refl
source_none d (Repeat count a) h = refl
source_none d (Call header statement arguments) h = refl

pub source_named : (d : Design) (e : Expression) → is_source d (source_of e) ≡ true → (s : Signal) → name_of e ≡ Some s → slice_get d.signals s.number ≡ Some s
source_named d e h s n = plain_at d s (ap (is_source d) (sym (source_name e s n)) ∙ h)

some_number : (o : Option Signal) → is_some (option_map number_of o) ≡ is_some o
some_number None = refl
some_number (Some s) = refl

pub rooted_name : (a : Arena) (roots : List (Option ℕ)) (e : Expression) (n : ℕ) → AreRoots (design_of a) roots → is_source (design_of a) (source_of e) ≡ true → Some n ≡ option_map number_of (name_of e) → is_some (slice_index_or roots n None) ≡ has_root (design_of a) (source_of e)
rooted_name a roots e n r h is = go (name_of e) refl is
  where
    same_number : (m n : ℕ) → Some m ≡ Some n → m ≡ n
    same_number m n h = cc

    known : Option ℕ → Bool
    known o = is_some o

    go : (o : Option Signal) → name_of e ≡ o → Some n ≡ option_map number_of o → is_some (slice_index_or roots n None) ≡ has_root (design_of a) (source_of e)
    go None q k = cc
    go (Some s) q k =
        let there = source_named (design_of a) e h s q in
        ap known (root_at (design_of a) roots n s r (ap (slice_get (design_of a).signals) (same_number n s.number k) ∙ there))
        ∙ some_number (select_root (design_of a) s) ∙ sym (ap (has_root (design_of a)) (source_name e s q))

pub no_name : (d : Design) (e : Expression) → None ≡ option_map number_of (name_of e) → false ≡ has_root d (source_of e)
no_name d e h = go (name_of e) refl h
  where
    go : (o : Option Signal) → name_of e ≡ o → None ≡ option_map number_of o → false ≡ has_root d (source_of e)
    go None q k = sym (source_none d e q)
    go (Some s) q k = cc

-- ---- selects

pub held : (c : Bool) → not c ≡ false → c ≡ true
held true h = refl
held false h = sym h

pub failed : (c : Bool) → not c ≡ true → c ≡ false
failed true h = sym h
failed false h = refl

abbrev pub inside_all : List (Option ℕ) → Bool
inside_all ps = list_all is_some ps

and_assoc : (a b c : Bool) → (a && (b && c)) ≡ ((a && b) && c)
and_assoc true b c = refl
and_assoc false b c = refl

select_is : (d : Design) (source : Source) (part : Part) (index : Expression) → is_selector d (Select source part index) ≡ (has_root d source && (is_constant index && list_all is_some (places part (sign index) (constant_value index))))
select_is d (OfSignal s) part index = sym (and_assoc (is_some (select_root d s)) (is_constant index) (list_all is_some (places part (sign index) (constant_value index))))
select_is d (OfConstant bits) part index = refl

pub no_root : (d : Design) (source : Source) (part : Part) (index : Expression) (r : Bool) → r ≡ has_root d source → r ≡ false → false ≡ is_selector d (Select source part index)
no_root d source part index r is h = sym (select_is d source part index ∙ ap (λ (c : Bool). c && (is_constant index && list_all is_some (places part (sign index) (constant_value index)))) (sym is ∙ h))

pub with_root : (d : Design) (source : Source) (part : Part) (index : Expression) (r inside : Bool) → r ≡ has_root d source → r ≡ true → inside ≡ (is_constant index && list_all is_some (places part (sign index) (constant_value index)))
    → inside ≡ is_selector d (Select source part index)
with_root d source part index r inside is h k = k ∙ sym (select_is d source part index ∙ ap (λ (c : Bool). c && (is_constant index && list_all is_some (places part (sign index) (constant_value index)))) (sym is ∙ h))

pub source_formed : (d : Design) (source : Source) (part : Part) (index : Expression) → is_formed d (Select source part index) ≡ true → is_source d source ≡ true
source_formed d (OfConstant bits) part index h = refl
source_formed d (OfSignal s) part index h =
    let f = (and_both (is_formed_select d (OfSignal s) part) (is_formed d index) h).0 in
    let g = (and_both (is_plain d s && same_range s.range (Some part.range)) (fits_64 part.width) f).0 in
    plain_signal d s (and_both (is_plain d s) (same_range s.range (Some part.range)) g).0

-- ---- concatenations

and_true : (a : Bool) → (a && true) ≡ a
and_true true = refl
and_true false = refl

joined_step : (d : Design) (e : Expression) (es : List Expression) → is_selector d (joined (e ∷ es)) ≡ (is_selector d e && is_selector d (joined es))
joined_step d e [] = sym (and_true (is_selector d e))
joined_step d e (f ∷ es) = refl

next_part : (d : Design) (tree : ℕ → Expression) (ns : List ℕ) (k : ℕ) → k < length ns → is_selector d (joined (map tree (drop k ns))) ≡ (is_selector d (tree (get_or ns k 0)) && is_selector d (joined (map tree (drop (k + 1) ns))))
next_part d tree ns k h = ap (λ (ms : List ℕ). is_selector d (joined (map tree ms))) (drop_more ns k 0 h) ∙ joined_step d (tree (get_or ns k 0)) (map tree (drop (k + 1) ns))

pub part_no : (d : Design) (tree : ℕ → Expression) (ns : List ℕ) (k : ℕ) (whole r : Bool) → k < length ns → r ≡ is_selector d (tree (get_or ns k 0)) → r ≡ false → is_selector d (joined (map tree (drop k ns))) ≡ whole → false ≡ whole
part_no d tree ns k whole r h is told rest = sym (next_part d tree ns k h ∙ ap (λ (c : Bool). c && is_selector d (joined (map tree (drop (k + 1) ns)))) (sym is ∙ told)) ∙ rest

pub part_yes : (d : Design) (tree : ℕ → Expression) (ns : List ℕ) (k : ℕ) (whole r : Bool) → k < length ns → r ≡ is_selector d (tree (get_or ns k 0)) → r ≡ true → is_selector d (joined (map tree (drop k ns))) ≡ whole
    → is_selector d (joined (map tree (drop (k + 1) ns))) ≡ whole
part_yes d tree ns k whole r h is told rest = sym (next_part d tree ns k h ∙ ap (λ (c : Bool). c && is_selector d (joined (map tree (drop (k + 1) ns)))) (sym is ∙ told)) ∙ rest

part_formed : (d : Design) (es : List Expression) (k : ℕ) → is_formed d (joined es) ≡ true → k < length es → is_formed d (get_or es k no_expression) ≡ true
part_formed d [] k h inside = absurd (omega arith)
part_formed d (e ∷ []) zero h inside = h
part_formed d (e ∷ []) (suc k) h inside = absurd (omega arith)
part_formed d (e ∷ f ∷ es) zero h inside = (and_both (is_formed d e) (is_formed d (joined (f ∷ es))) h).0
part_formed d (e ∷ f ∷ es) (suc k) h inside = part_formed d (f ∷ es) k (and_both (is_formed d e) (is_formed d (joined (f ∷ es))) h).1 (omega arith)

-- each part of a concatenation is formed
pub each_formed : (d : Design) (tree : ℕ → Expression) (ns : List ℕ) (k : ℕ) → is_formed d (joined (map tree ns)) ≡ true → k < length ns → is_formed d (tree (get_or ns k 0)) ≡ true
each_formed d tree ns k h inside = subst (λ (e : Expression). is_formed d e ≡ true) (get_or-trees tree ns k inside) (part_formed d (map tree ns) k h (omega (arith, length-map ns tree)))

pub repeated_formed : (d : Design) (count : ℕ) (e : Expression) → is_formed d (Repeat count e) ≡ true → is_formed d e ≡ true
repeated_formed d count e h = (and_both (fits_64 count) (is_formed d e) h).1

pub once : (d : Design) (count n : ℕ) (e : Expression) (r : Bool) → n ≡ count → n ≡ 1 → r ≡ is_selector d e → r ≡ is_selector d (Repeat count e)
once d count n e r is one k = k ∙ sym (ap (λ (c : Bool). c && is_selector d e) (eq-eqb count 1 (sym is ∙ one)))

pub more_times : (d : Design) (count n : ℕ) (e : Expression) → n ≡ count → (n ≡ 1 → ⊥) → false ≡ is_selector d (Repeat count e)
more_times d count n e is other = go (count == 1) refl
  where
    go : (c : Bool) → (count == 1) ≡ c → false ≡ ((count == 1) && is_selector d e)
    go true q = absurd (other (is ∙ eqb-true count 1 q))
    go false q = sym (ap (λ (c : Bool). c && is_selector d e) q)

-- what is before all parts is before those of a copy
get_take : (n k : ℕ) (xs : List ℕ) → k < n → get_or (take n xs) k 0 ≡ get_or xs k 0
get_take zero k xs h = absurd (omega arith)
get_take (suc n) k [] h = refl
get_take (suc n) zero (x ∷ xs) h = refl
get_take (suc n) (suc k) (x ∷ xs) h = get_take n k xs (omega arith)

pub copy_below : (e : ℕ) (all copy : List ℕ) → EachBelow e all → copy ≡ take (length copy) all → length copy ≤ length all → EachBelow e copy
copy_below e all copy h is short k inside = subst (λ n. n < e) (sym (ap (λ xs. get_or xs k 0) is ∙ get_take (length copy) k all inside)) (h k (omega (arith, inside, short)))
