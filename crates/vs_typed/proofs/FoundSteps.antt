-- Places of targets and statements, step by step.
use Rattle.std.proofs.Common.{◌≡◌, ℕ, zero, suc, ◌+◌, ◌*◌, ◌<◌, ◌≤◌, Bool, true, false, if◌then◌else◌, List, [], ◌∷◌, ◌++◌, length, map, drop, get_or, Option, Some, None, refl, sym, ap, ap₂, ◌∙◌, arith}
use Rattle.std.specs.Prelude.{◌==◌, ◌&&◌, nat_lt, unwrap_or, slice_get}
use Rattle.std.proofs.lemmas.Bool.Decides.{nat_tests}
use Rattle.std.proofs.lemmas.List.{append-nil, drop_more}
use Rattle.vs_design.specs.Expressions.{Expression, Literal, Name, Select, Word, WordPart, Unary, Binary, Choice, Join, Repeat, At, Call, items_of, OfSignal, OfConstant, width}
use Rattle.vs_design.specs.Statements.{Target, Whole, PartOf, WordOf, WordPartOf, Both, target_width, Statement}
use Rattle.vs_flat.specs.declared.statements.Arm as F
use Rattle.vs_flat.specs.Targets.{target_of, both_of}
use Rattle.vs_flat.specs.Trees.{joined, no_signal, target_tree, sequence, arms_tree}
use Rattle.vs_typed.specs.declared.places.Rule.{Rule}
use Rattle.vs_typed.specs.declared.places.Rule.TheVariants.{Wide}
use Rattle.vs_typed.specs.declared.error.WidthError.{WidthError}
use Rattle.vs_typed.specs.declared.error.WidthError.TheVariants as W
use Rattle.vs_typed.specs.declared.error.WidthError.TheVariants.{TooWide, TooLarge, Memory}
use Rattle.vs_typed.specs.Refused.{IsFound, IsWidthError, refused_in, first_refused}
use Rattle.std.specs.Prelude.{IfErr}
use Rattle.std.proofs.Common.{Result, Ok, Err}
use Rattle.std.proofs.lemmas.Option.{slice_get_within, get_or_from_slice_get}
use Rattle.vs_typed.specs.Places.{own_places, HasKindNames}
use Rattle.vs_design.specs.Refusals.{WidthRefusal, first_in, otherwise, too_large, width_refusal}
use Rattle.vs_design.specs.Refusals as R
use Rattle.vs_design.specs.Designs as D
use Rattle.vs_design.specs.Designs.{in_text_order}
use Rattle.vs_flat.specs.declared.processes.Process.{Process}
use Rattle.vs_flat.specs.declared.processes.Kind.{Kind}
use Rattle.vs_flat.specs.declared.processes.Kind.TheVariants as K
use Rattle.vs_flat.specs.Arena.{Arena}
use Rattle.vs_flat.specs.Named.{all_below, kind_names_below, kind_signals}
use Rattle.vs_flat.specs.Lawful.{IsLawful}
use Rattle.vs_flat.specs.Laws.{ProcessNames, AssignTargets, EachProcess}
use Rattle.vs_flat.specs.Trees.{signal_at}
use Rattle.vs_flat.specs.DesignOf.{kind_of, arena_signals, design_of}
use Rattle.vs_shape.specs.Nodes.{tree_of}
use Rattle.vs_shape.specs.Bodies.{body_of}
use Rattle.vs_sets.proofs.Fit.{and_left, and_right}
use Rattle.vs_sets.proofs.Names.{all_below-each}
use Rattle.vs_typed.specs.Places.{least_from, places_of, target_places, item_places, statement_places, arms_places, HasTargetTree}
use Rattle.vs_typed.proofs.LeastSteps.{from_none, from_append, drop_none}

-- ---- targets

abbrev pub part_targets : Rule → ℕ → List Expression → List ℕ
part_targets rule at [] = []
part_targets rule at (e ∷ es) = target_places rule at (target_tree e) ++ part_targets rule at es

pub record AreTargets (high low : Expression) : Type 0 where
  pub high_is : HasTargetTree high
  pub low_is : HasTargetTree low
  pub both : target_tree (Join high low) ≡ Both (target_tree high) (target_tree low)

pub two_targets : (high low : Expression) → HasTargetTree (Join high low) → AreTargets high low
two_targets high low h = at (target_of high) (target_of low) refl refl h where
  at : (x y : Option Target) → target_of high ≡ x → target_of low ≡ y → both_of x y ≡ Some (target_tree (Join high low)) → AreTargets high low
  at None y e f i = absurd (let z : ⊥ = cc in z)
  at (Some t) None e f i = absurd (let z : ⊥ = cc in z)
  at (Some t) (Some u) e f i =
      let whole : target_tree (Join high low) ≡ Both t u = cc in
      let left : target_tree high ≡ t = ap (λ (o : Option Target). unwrap_or o (Whole no_signal)) e in
      let right : target_tree low ≡ u = ap (λ (o : Option Target). unwrap_or o (Whole no_signal)) f in
      record { high_is = e ∙ ap Some (sym left); low_is = f ∙ ap Some (sym right); both = whole ∙ ap₂ Both (sym left) (sym right) }

pub joined_targets : (rule : Rule) (at : ℕ) (es : List Expression) → HasTargetTree (joined es) → target_places rule at (target_tree (joined es)) ≡ part_targets rule at es
joined_targets rule at [] h = absurd (let z : ⊥ = cc in z)
joined_targets rule at (e ∷ []) h = sym (append-nil (target_places rule at (target_tree e)))
joined_targets rule at (e ∷ f ∷ es) h =
    let b = two_targets e (joined (f ∷ es)) h in
    ap (target_places rule at) b.both ∙ ap (λ xs. target_places rule at (target_tree e) ++ xs) (joined_targets rule at (f ∷ es) b.low_is)

pub part_target : (tree : ℕ → Expression) (parts : List ℕ) (k : ℕ) → k < length parts → HasTargetTree (joined (map tree parts)) → HasTargetTree (tree (get_or parts k 0))
part_target tree [] k inside h = absurd (omega arith)
part_target tree (p ∷ []) zero inside h = h
part_target tree (p ∷ []) (suc k) inside h = absurd (omega arith)
part_target tree (p ∷ q ∷ parts) zero inside h = (two_targets (tree p) (joined (map tree (q ∷ parts))) h).high_is
part_target tree (p ∷ q ∷ parts) (suc k) inside h = part_target tree (q ∷ parts) k (omega arith) ((two_targets (tree p) (joined (map tree (q ∷ parts))) h).low_is)

pub record IsOneCopy (t x : Expression) : Type 0 where
  pub target : HasTargetTree x
  pub same : target_tree t ≡ target_tree x

pub one_copy : (place count : ℕ) (x : Expression) → HasTargetTree (At place (Repeat count x)) → IsOneCopy (At place (Repeat count x)) x
one_copy place count x h = at (count == 1) refl h where
  at : (k : Bool) → (count == 1) ≡ k → (if k then target_of x else None) ≡ Some (target_tree (At place (Repeat count x))) → IsOneCopy (At place (Repeat count x)) x
  at true e i =
      let tree : target_tree (At place (Repeat count x)) ≡ target_tree x = ap (λ k. unwrap_or (if k then target_of x else None) (Whole no_signal)) e in
      record { target = i ∙ ap Some tree; same = tree }
  at false e i = absurd (let z : ⊥ = cc in z)

pub target_step : (rule : Rule) (at : ℕ) (tree : ℕ → Expression) (parts : List ℕ) (k : ℕ) (best after : Option ℕ) → k < length parts → after ≡ least_from best (target_places rule at (target_tree (tree (get_or parts k 0))))
    → least_from after (part_targets rule at (map tree (drop (k + 1) parts))) ≡ least_from best (part_targets rule at (map tree (drop k parts)))
target_step rule at tree parts k best after h is =
    ap (λ b. least_from b (part_targets rule at (map tree (drop (k + 1) parts)))) is
    ∙ sym (from_append best (target_places rule at (target_tree (tree (get_or parts k 0)))) (part_targets rule at (map tree (drop (k + 1) parts))))
    ∙ ap (λ ps. least_from best (part_targets rule at (map tree ps))) (sym (drop_more parts k 0 h))

width_at : (e : Expression) (t : Target) → target_of e ≡ Some t → target_width t ≡ width e
width_at (Literal bits signed sized) t h = absurd (let z : ⊥ = cc in z)
width_at (Name signal) t h = let same : t ≡ Whole signal = cc in ap target_width same
width_at (Select (OfSignal signal) p index) t h = let same : t ≡ PartOf signal p index = cc in ap target_width same
width_at (Select (OfConstant bits) p index) t h = absurd (let z : ⊥ = cc in z)
width_at (Word signal index) t h = let same : t ≡ WordOf signal index = cc in ap target_width same
width_at (WordPart signal address p index) t h = let same : t ≡ WordPartOf signal address p index = cc in ap target_width same
width_at (Unary op a) t h = absurd (let z : ⊥ = cc in z)
width_at (Binary op a b) t h = absurd (let z : ⊥ = cc in z)
width_at (Choice c p q) t h = absurd (let z : ⊥ = cc in z)
width_at (Join high low) t h = at (target_of high) (target_of low) refl refl h (λ u e. width_at high u e) (λ u e. width_at low u e) where
  at : (x y : Option Target) → target_of high ≡ x → target_of low ≡ y → both_of x y ≡ Some t → ((u : Target) → target_of high ≡ Some u → target_width u ≡ width high) → ((u : Target) → target_of low ≡ Some u → target_width u ≡ width low) → target_width t ≡ width high + width low
  at None y e f h p q = absurd (let z : ⊥ = cc in z)
  at (Some u) None e f h p q = absurd (let z : ⊥ = cc in z)
  at (Some u) (Some v) e f h p q = let same : t ≡ Both u v = cc in ap target_width same ∙ ap₂ ◌+◌ (p u e) (q v f)
width_at (Repeat count a) t h = at (count == 1) refl h (λ e. width_at a t e) where
  at : (k : Bool) → (count == 1) ≡ k → (if k then target_of a else None) ≡ Some t → (target_of a ≡ Some t → target_width t ≡ width a) → target_width t ≡ count * width a
  at true e h p = let one : count ≡ 1 = grind (arith, nat_tests, e) in p h ∙ (omega (arith, one, ap (λ n. n * width a) one))
  at false e h p = absurd (let z : ⊥ = cc in z)
width_at (At place e) t h = width_at e t h
width_at (Call header statement arguments) t h = absurd (let z : ⊥ = cc in z)

-- a target has the length of its expression
pub target_length : (e : Expression) → HasTargetTree e → target_width (target_tree e) ≡ width e
target_length e h = width_at e (target_tree e) h

-- ---- items, sequences and arms

pub item_step : (rule : Rule) (at : ℕ) (tree : ℕ → Expression) (items : List ℕ) (k : ℕ) (best after : Option ℕ) → k < length items → after ≡ least_from best (places_of rule at (tree (get_or items k 0)))
    → least_from after (item_places rule at (items_of (map tree (drop (k + 1) items)))) ≡ least_from best (item_places rule at (items_of (map tree (drop k items))))
item_step rule at tree items k best after h is =
    ap (λ b. least_from b (item_places rule at (items_of (map tree (drop (k + 1) items))))) is
    ∙ sym (from_append best (places_of rule at (tree (get_or items k 0))) (item_places rule at (items_of (map tree (drop (k + 1) items)))))
    ∙ ap (λ ps. least_from best (item_places rule at (items_of (map tree ps)))) (sym (drop_more items k 0 h))

next_places : (rule : Rule) (at : ℕ) (s : Statement) (ss : List Statement) → statement_places rule at (sequence (s ∷ ss)) ≡ statement_places rule at s ++ statement_places rule at (sequence ss)
next_places rule at s [] = sym (append-nil (statement_places rule at s))
next_places rule at s (t ∷ ss) = refl

pub sequence_step : (rule : Rule) (at : ℕ) (st : ℕ → Statement) (parts : List ℕ) (k : ℕ) (best after : Option ℕ) → k < length parts → after ≡ least_from best (statement_places rule at (st (get_or parts k 0)))
    → least_from after (statement_places rule at (sequence (map st (drop (k + 1) parts)))) ≡ least_from best (statement_places rule at (sequence (map st (drop k parts))))
sequence_step rule at st parts k best after h is =
    ap (λ b. least_from b (statement_places rule at (sequence (map st (drop (k + 1) parts))))) is
    ∙ sym (from_append best (statement_places rule at (st (get_or parts k 0))) (statement_places rule at (sequence (map st (drop (k + 1) parts)))))
    ∙ ap (least_from best) (sym (next_places rule at (st (get_or parts k 0)) (map st (drop (k + 1) parts))))
    ∙ ap (λ ps. least_from best (statement_places rule at (sequence (map st ps)))) (sym (drop_more parts k 0 h))

arms_from : (rule : Rule) (at : ℕ) (tree : ℕ → Expression) (st : ℕ → Statement) (other : Option ℕ) (arms : List F.Arm) (k : ℕ) (arm : F.Arm) → slice_get arms k ≡ Some arm
    → arms_places rule at (arms_tree tree st other (drop k arms)) ≡ item_places rule at (items_of (map tree arm.items)) ++ (statement_places rule at (st arm.statement) ++ arms_places rule at (arms_tree tree st other (drop (suc k) arms)))
arms_from rule at tree st other [] k arm e = absurd (let z : ⊥ = cc in z)
arms_from rule at tree st other (x ∷ arms) zero arm e =
    let same : x ≡ arm = cc in
    ap (λ (y : F.Arm). item_places rule at (items_of (map tree y.items)) ++ (statement_places rule at (st y.statement) ++ arms_places rule at (arms_tree tree st other arms))) same
arms_from rule at tree st other (x ∷ arms) (suc k) arm e = arms_from rule at tree st other arms k arm e

pub arm_step : (rule : Rule) (at : ℕ) (tree : ℕ → Expression) (st : ℕ → Statement) (other : Option ℕ) (arms : List F.Arm) (k : ℕ) (arm : F.Arm) (best items after : Option ℕ) → slice_get arms k ≡ Some arm
    → items ≡ least_from best (item_places rule at (items_of (map tree arm.items))) → after ≡ least_from items (statement_places rule at (st arm.statement))
    → least_from after (arms_places rule at (arms_tree tree st other (drop (k + 1) arms))) ≡ least_from best (arms_places rule at (arms_tree tree st other (drop k arms)))
arm_step rule at tree st other arms k arm best items after e i s =
    let here = item_places rule at (items_of (map tree arm.items)) in
    let body = statement_places rule at (st arm.statement) in
    let rest = arms_places rule at (arms_tree tree st other (drop (suc k) arms)) in
    let on : k + 1 ≡ suc k = omega arith in
    ap (λ n. least_from after (arms_places rule at (arms_tree tree st other (drop n arms)))) on
    ∙ ap (λ b. least_from b rest) (s ∙ ap (λ b. least_from b body) i)
    ∙ sym (from_append (least_from best here) body rest) ∙ sym (from_append best here (body ++ rest))
    ∙ ap (least_from best) (sym (arms_from rule at tree st other arms k arm e))

-- ---- a target's own length

pub own_wide : (rule : Rule) (best : Option ℕ) (at : ℕ) (e : Expression) → rule ≡ Wide → HasTargetTree e → 64 < width e → least_from best (at ∷ []) ≡ least_from best (own_places rule at (target_width (target_tree e)))
own_wide rule best at e is target more =
    let over : nat_lt 64 (target_width (target_tree e)) ≡ true = ap (nat_lt 64) (target_length e target) ∙ (grind (arith, nat_tests, more)) in
    sym (ap (λ r. least_from best (own_places r at (target_width (target_tree e)))) is ∙ ap (λ k. least_from best (if k then (at ∷ []) else [])) over)

pub own_narrow : (rule : Rule) (best : Option ℕ) (at : ℕ) (e : Expression) → rule ≡ Wide → HasTargetTree e → width e ≤ 64 → best ≡ least_from best (own_places rule at (target_width (target_tree e)))
own_narrow rule best at e is target few =
    let over : nat_lt 64 (target_width (target_tree e)) ≡ false = ap (nat_lt 64) (target_length e target) ∙ (grind (arith, nat_tests, few)) in
    sym (from_none best) ∙ sym (ap (λ r. least_from best (own_places r at (target_width (target_tree e)))) is ∙ ap (λ k. least_from best (if k then (at ∷ []) else [])) over)

-- ---- processes

pub kind_names : ProcessNames → AssignTargets → (a : Arena) → IsLawful a → (p : ℕ) (process : Process) → slice_get a.processes p ≡ Some process → (k : Kind) → process.kind ≡ k → HasKindNames a k
kind_names names targets a lawful p process at (K.Assign target e port) is =
    let all = ap (kind_names_below (length a.signals) (length a.nodes) (length a.statements)) (sym is) ∙ names a lawful.names p process at in
    let front = and_left _ _ all in
    let each = all_below-each (length a.nodes) (target ∷ e ∷ []) (and_right (all_below (length a.signals) []) (all_below (length a.nodes) (target ∷ e ∷ [])) front) in
    let found : slice_get a.processes p ≡ Some (record { at = process.at; kind = K.Assign target e port }) = at ∙ ap (λ k. let q : Process = record { at = process.at; kind = k } in Some q) is in
    (each 0 (omega arith), each 1 (omega arith), targets a lawful p process.at target e port found)
kind_names names targets a lawful p process at (K.Block star events statement) is =
    let all = ap (kind_names_below (length a.signals) (length a.nodes) (length a.statements)) (sym is) ∙ names a lawful.names p process at in
    all_below-each (length a.statements) (statement ∷ []) (and_right (all_below (length a.signals) (kind_signals (K.Block star events statement)) && all_below (length a.nodes) []) (all_below (length a.statements) (statement ∷ [])) all) 0 (omega arith)

pub found_kind : EachProcess → (a : Arena) (p : ℕ) (process : Process) (k : Kind) (x : D.Process) → slice_get a.processes p ≡ Some process → process.kind ≡ k → slice_get (design_of a).processes p ≡ Some x
    → kind_of (signal_at (arena_signals a)) (tree_of a) (body_of a) process.at k ≡ x
found_kind each a p process k x at is h =
    let found = each a p process at ∙ ap (λ j. Some (kind_of (signal_at (arena_signals a)) (tree_of a) (body_of a) process.at j)) is in
    same _ _ (sym found ∙ h)
  where
    same : (y z : D.Process) → Some y ≡ Some z → y ≡ z
    same y z e = cc

-- what is found from a place in the text on
found_in : (find : D.AnyProcess → Option WidthRefusal) (xs : List D.AnyProcess) (n : ℕ) (x : D.AnyProcess) → slice_get xs n ≡ Some x → first_in find (drop n xs) ≡ otherwise (find x) (first_in find (drop (n + 1) xs))
found_in find xs n x at =
    ap (first_in find) (drop_more xs n x (slice_get_within xs n x at)) ∙ ap (λ y. otherwise (find y) (first_in find (drop (n + 1) xs))) (get_or_from_slice_get xs n x x at)

pub refused_at : (d : D.Design) (n : ℕ) (x : D.AnyProcess) (e : WidthError) → slice_get (in_text_order d) n ≡ Some x → first_in refused_in (drop n (in_text_order d)) ≡ first_refused d → IsFound (refused_in x) e → IsFound (first_refused d) e
refused_at d n x e h i f = go e f where
  first : (r : WidthRefusal) → refused_in x ≡ Some r → first_refused d ≡ Some r
  first r k = sym i ∙ found_in refused_in (in_text_order d) n x h ∙ ap (λ o. otherwise o (first_in refused_in (drop (n + 1) (in_text_order d)))) k

  go : (e : WidthError) → IsFound (refused_in x) e → IsFound (first_refused d) e
  go (TooWide at) k = first (R.TooWide at) k
  go (W.Division at) k = first (R.Division at) k
  go (TooLarge size) k = first (R.TooLarge size) k
  go Memory k = tt

-- what refuses a process refuses the design
pub whole_refused : (d : D.Design) (e : WidthError) → IsFound (first_refused d) e → IsWidthError d e
whole_refused d e f = go e f where
  whole : (r : WidthRefusal) → first_refused d ≡ Some r → width_refusal d ≡ Some r
  whole r k = ap (λ o. otherwise o (too_large d)) k

  go : (e : WidthError) → IsFound (first_refused d) e → IsWidthError d e
  go (TooWide at) k = whole (R.TooWide at) k
  go (W.Division at) k = whole (R.Division at) k
  go (TooLarge size) k = whole (R.TooLarge size) k
  go Memory k = tt

pub passed_at : (d : D.Design) (n : ℕ) (x : D.AnyProcess) → slice_get (in_text_order d) n ≡ Some x → first_in refused_in (drop n (in_text_order d)) ≡ first_refused d → refused_in x ≡ None
    → first_in refused_in (drop (n + 1) (in_text_order d)) ≡ first_refused d
passed_at d n x h i k = sym (found_in refused_in (in_text_order d) n x h ∙ ap (λ o. otherwise o (first_in refused_in (drop (n + 1) (in_text_order d)))) k) ∙ i

pub if_err : {V W : Type 0} {P Q : W → Type 0} (r : Result V W) → IfErr r P → ((e : W) → P e → Q e) → IfErr r Q
if_err (Ok v) h k = h
if_err (Err e) h k = k e h

pub none_left : (d : D.Design) (n : ℕ) → length (in_text_order d) ≤ n → first_in refused_in (drop n (in_text_order d)) ≡ first_refused d → first_refused d ≡ None
none_left d n h i = sym i ∙ ap (first_in refused_in) (drop_none (in_text_order d) n h)
