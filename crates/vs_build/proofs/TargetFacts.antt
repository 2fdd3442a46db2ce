-- Targets without a fault.
use Rattle.std.proofs.Common.{rules, ◌≡◌, ℕ, zero, suc, ◌+◌, ◌*◌, ◌<◌, ◌≤◌, Bool, true, false, not, ◌&&◌, ◌||◌, List, [], ◌∷◌, ◌++◌, length, get_or, map, take, Option, Some, None, Vec, Global, Result, OnOk, refl, sym, ap, ◌∙◌, subst, arith}
use Rattle.std.proofs.Math.Seq.{take-suc, take-length}
use Rattle.std.proofs.lemmas.List.{map-append, length-map}
use denote.Param.Weighed.{most, at_most}
use Rattle.vs_four.specs.declared.Range.{Range}
use Rattle.vs_design.specs.Expressions as E
use Rattle.vs_design.specs.Expressions.{Expression}
use Rattle.vs_design.specs.Statements.{Whole, PartOf}
use Rattle.vs_design.specs.Designs.{Design}
use Rattle.vs_design.specs.Fits.{fits_64}
use Rattle.vs_design.specs.Elaborated.{is_plain, has_words, same_range, is_formed, is_formed_select, is_formed_word_part}
use Rattle.vs_grammar.specs.Trees as tree
use Rattle.vs_grammar.specs.Trees.{expr_place, target_place}
use Rattle.vs_grammar.specs.Shapes.{IsExpr, IsSelect, IsTarget, ArePartsOfTarget, AreTargets}
use Rattle.vs_grammar.specs.Depths.{target_depth, targets_depth}
use Rattle.vs_ast.proofs.statements.Target.TheLaws.{the_size}
use Rattle.vs_ast.specs.declared.statements.Target.{Target, Concatenation, the_lemmas}
use Rattle.vs_ast.specs.Views.{target, targets}
use Rattle.vs_ast.proofs.Rows.{target_rows}
use Rattle.vs_const.specs.Faults.{fault_if}
use Rattle.vs_const.specs.declared.rules.Rule.TheVariants.{WrongKind}
use Rattle.vs_const.specs.Meanings.{SignalMeaning, Meaning, AValue, Undefined, ASignal, AMemory, AFunction, Incomplete, Another, Barred, Unknown, Find, steady}
use Rattle.vs_const.specs.Sound.{IsSound, AreSound}
use Rattle.vs_const.specs.Typed.{Typed, begins_at, fine}
use Rattle.vs_const.specs.Selects.{Base, signal_base, base_of, is_scalar, name_typed, known_signal, Taken, taken, slice_taken, first_needed, first_names, select_if, select_typed, is_array, addressed, word_if, bit_typed, word_range, word_part_if, further_typed}
use Rattle.vs_const.specs.Expressions.{constant, typed, taken_by}
use Rattle.vs_const.proofs.Steady.{sound_needed, steady_sound, first_sound}
use Rattle.vs_const.proofs.Formed.{both_nil, both, no_fault, signal_base_fine, IsFineTaken, bit_fine, slice_fine, taken_faults, typed_fine, taken_by_fine, word_ranged, same_itself, address_fine, need_less, range_same}
use Rattle.vs_flat.specs.Targets.{target_of, both_of, place_of}
use Rattle.vs_flat.specs.Trees.{joined}
use Rattle.vs_elaborated.specs.Targets.{meant_signal, TypedTarget, is_wrong_target, target_rule, target_base, part_target, word_target, bit_target, word_part_target, further_target, selected_target, typed_target, typed_targets}
use Rattle.vs_build.specs.Drafts.{Draft, home, AddsExpression, AddsParts}
use Rattle.vs_build.specs.Buildable.{selected_by, memory_of, IsSelectable}
use Rattle.vs_build.specs.Writable.{target_expression, targets_expression, IsWritable, AreWritable, target_expressions}
use Rattle.vs_build.proofs.Lists.{parts_home}
use Rattle.vs_build.proofs.Selects.{bit_is, memory_is}

-- ---- names

-- what a target names is a signal
pub record NamesSignal (d : Design) (place : ℕ) (selected : Bool) (m : Meaning) : Type 0 where
  pub s : SignalMeaning
  pub is : m ≡ ASignal s
  pub of_design : is_plain d s.signal ≡ true
  pub known : s.known ≡ true
  pub vector : (selected && is_scalar s) ≡ false

names_signal : (d : Design) (procedural selected : Bool) (place : ℕ) (m : Meaning) → IsSound d false m → (target_base procedural place selected m).faults ≡ [] → NamesSignal d place selected m
names_signal d procedural selected place (AValue v r turns) h f = cc
names_signal d procedural selected place (Undefined r) h f = cc
names_signal d procedural selected place (ASignal s) h f =
    record { s = s; is = refl; of_design = h.0; known = h.1; vector = no_fault (selected && is_scalar s) WrongKind place (both_nil (fault_if (is_wrong_target procedural s) (target_rule s) place) (fault_if (selected && is_scalar s) WrongKind place) f).1 }
names_signal d procedural selected place (AMemory s) h f = cc
names_signal d procedural selected place (AFunction g) h f = cc
names_signal d procedural selected place Incomplete h f = cc
names_signal d procedural selected place Another h f = cc
names_signal d procedural selected place (Barred rule) h f = cc
names_signal d procedural selected place Unknown h f = cc

-- the parts of what bits of a signal are
pub record IsNamedTarget (d : Design) (find : Find) (procedural : Bool) (name : tree.Name) (select : tree.Select) : Type 0 where
  pub good : (selected_by select name find false (not procedural)).good ≡ true
  pub clean : (selected_by select name find false (not procedural)).faults ≡ []
  pub formed : is_formed d (selected_by select name find false (not procedural)).expression ≡ true
  pub written : target_of (selected_by select name find false (not procedural)).expression ≡ Some (selected_target select name find procedural).target

whole_target : (d : Design) (find : Find) (procedural : Bool) (name : tree.Name) → IsSound d false (find name.bytes) → (selected_target tree.Whole name find procedural).faults ≡ [] → IsNamedTarget d find procedural name tree.Whole
whole_target d find procedural name sound h =
    let n = names_signal d procedural false name.place (find name.bytes) sound h in
    let is : name_typed false name.place (find name.bytes) ≡ fine (E.Name n.s.signal) [] = ap (name_typed false name.place) n.is ∙ ap (λ k. known_signal k n.s.signal) n.known in
    record {
      good = ap (λ (t : Typed). t.good) is;
      clean = ap (λ (t : Typed). t.faults) is;
      formed = ap (λ (t : Typed). is_formed d t.expression) is ∙ n.of_design;
      written = ap (λ (t : Typed). target_of t.expression) is ∙ ap (λ m. Some (Whole (meant_signal m))) (sym n.is);
    }

select_of : (d : Design) (needed : Bool) (s : SignalMeaning) (b : Base) (t : Taken) (r : Range) → b.source ≡ E.OfSignal s.signal → b.good ≡ true → IsFineTaken d needed r t → select_typed b t ≡ record { expression = E.Select (E.OfSignal s.signal) t.part t.index; length = t.length; good = true; faults = b.faults ++ t.faults }
select_of d needed s b t r source good f =
    ap (λ c. select_if c b t) (both b.good t.good good f.good) ∙ ap (λ x. (let y : Typed = record { expression = E.Select x t.part t.index; length = t.length; good = true; faults = b.faults ++ t.faults } in y)) source

-- whatever bits are taken
part_case : (d : Design) (find : Find) (procedural : Bool) (name : tree.Name) (select : tree.Select) (tk : Option Range → Taken) → IsSound d false (find name.bytes)
    → (selected_by select name find false (not procedural)) ≡ select_typed (base_of false name.place (find name.bytes)) (tk (base_of false name.place (find name.bytes)).range)
    → selected_target select name find procedural ≡ part_target (meant_signal (find name.bytes)) (target_base procedural name.place true (find name.bytes)) (tk (target_base procedural name.place true (find name.bytes)).range)
    → ((r : Range) (o : Option Range) → o ≡ Some r → (tk o).faults ≡ [] → IsFineTaken d (not procedural) r (tk o))
    → (selected_target select name find procedural).faults ≡ [] → IsNamedTarget d find procedural name select
part_case d find procedural name select tk sound by_name by_target fine_if h =
    let m = find name.bytes in
    let tb = target_base procedural name.place true m in
    let k = both_nil tb.faults (tk tb.range).faults (sym (ap (λ (t : TypedTarget). t.faults) by_target) ∙ h) in
    let n = names_signal d procedural true name.place m sound k.0 in
    let s = n.s in
    let none : fault_if (is_scalar s) WrongKind name.place ≡ [] = ap (λ b. fault_if b WrongKind name.place) n.vector in
    let fb = signal_base_fine d name.place s s.signal.range refl n.of_design n.known none in
    let range_is : tb.range ≡ s.signal.range = ap (λ x. (target_base procedural name.place true x).range) n.is in
    let t = tk s.signal.range in
    let clean : t.faults ≡ [] = ap (λ o. (tk o).faults) (sym range_is) ∙ k.1 in
    let f : IsFineTaken d (not procedural) fb.r t = fine_if fb.r s.signal.range fb.range clean in
    let base_is : base_of false name.place m ≡ signal_base [] s = ap (base_of false name.place) n.is ∙ ap (λ fs. signal_base fs s) none in
    let is : selected_by select name find false (not procedural) ≡ (let y : Typed = record { expression = E.Select (E.OfSignal s.signal) t.part t.index; length = t.length; good = true; faults = t.faults } in y) =
    by_name ∙ ap (λ b. select_typed b (tk b.range)) base_is ∙ select_of d (not procedural) s (signal_base [] s) t fb.r refl n.known f
    in
    record {
      good = ap (λ (x : Typed). x.good) is;
      clean = ap (λ (x : Typed). x.faults) is ∙ clean;
      formed = ap (λ (x : Typed). is_formed d x.expression) is ∙ both (is_formed_select d (E.OfSignal s.signal) t.part) (is_formed d t.index) (fb.formed t.part f.range f.fits) f.formed;
      written =
          ap (λ (x : Typed). target_of x.expression) is
          ∙ ap (λ o. Some (PartOf s.signal (tk o).part (tk o).index)) (sym range_is)
          ∙ ap (λ x. Some (PartOf (meant_signal x) (tk tb.range).part (tk tb.range).index)) (sym n.is)
          ∙ ap (λ (x : TypedTarget). Some x.target) (sym by_target);
    }

needed_sound : (d : Design) (needed : Bool) (find : Find) → AreSound d false find → AreSound d needed find
needed_sound d true find s = λ name. sound_needed d false (find name) (s name)
needed_sound d false find s = s

-- a word of a memory, or a net of an array
word_case : (d : Design) (find : Find) (procedural : Bool) (name : tree.Name) (bracket : ℕ) (index : tree.Expr) (m : SignalMeaning) → find name.bytes ≡ AMemory m → IsExpr index → AreSound d false find
    → (selected_target (tree.BitAt bracket index) name find procedural).faults ≡ [] → IsNamedTarget d find procedural name (tree.BitAt bracket index)
word_case d find procedural name bracket index m e x sound h =
    let needed = not procedural in
    let at = expr_place index in
    let indexed = λ (y : Meaning). typed index find (is_array y || needed) in
    let i = indexed (AMemory m) in
    let a = addressed m at i in
    let by_target : selected_target (tree.BitAt bracket index) name find procedural ≡ word_target procedural name.place m a = ap (λ y. bit_target procedural name.place y at (indexed y)) e in
    let k = both_nil (fault_if (is_wrong_target procedural m) WrongKind name.place) a.faults (sym (ap (λ (t : TypedTarget). t.faults) by_target) ∙ h) in
    let s = subst (IsSound d false) e (sound name.bytes) in
    let f = address_fine d m at i s.0 (λ z. need_less d m.signal.net needed i (typed_fine d find index (m.signal.net || needed) (needed_sound d (m.signal.net || needed) find sound) x z)) k.1 in
    let is : selected_by (tree.BitAt bracket index) name find false needed ≡ fine (E.Word a.signal a.index) a.faults = ap (λ y. bit_typed false name.place y at (indexed y)) e ∙ ap (λ b. word_if b m a) (both m.known a.good s.1 f.good) in
    record {
      good = ap (λ (t : Typed). t.good) is;
      clean = ap (λ (t : Typed). t.faults) is ∙ k.1;
      formed = ap (λ (t : Typed). is_formed d t.expression) is ∙ both (has_words d a.signal) (is_formed d a.index) f.words f.formed;
      written = ap (λ (t : Typed). target_of t.expression) is ∙ ap (λ (t : TypedTarget). Some t.target) (sym by_target);
    }

-- a bit of what is no memory, whatever the address
pub bit_target_is : (procedural : Bool) (place : ℕ) (m : Meaning) (at : ℕ) (i j : Typed) → memory_of m at j ≡ None
    → bit_target procedural place m at i ≡ part_target (meant_signal m) (target_base procedural place true m) (taken (target_base procedural place true m).range true 1 i i.faults)
bit_target_is procedural place (AValue v r turns) at i j e = refl
bit_target_is procedural place (Undefined r) at i j e = refl
bit_target_is procedural place (ASignal s) at i j e = refl
bit_target_is procedural place (AMemory s) at i j e = cc
bit_target_is procedural place (AFunction g) at i j e = refl
bit_target_is procedural place Incomplete at i j e = refl
bit_target_is procedural place Another at i j e = refl
bit_target_is procedural place (Barred rule) at i j e = refl
bit_target_is procedural place Unknown at i j e = refl

not_array : (m : Meaning) (at : ℕ) (j : Typed) → memory_of m at j ≡ None → is_array m ≡ false
not_array (AValue v r turns) at j e = refl
not_array (Undefined r) at j e = refl
not_array (ASignal s) at j e = refl
not_array (AMemory s) at j e = cc
not_array (AFunction g) at j e = refl
not_array Incomplete at j e = refl
not_array Another at j e = refl
not_array (Barred rule) at j e = refl
not_array Unknown at j e = refl

bit_case : (d : Design) (find : Find) (procedural : Bool) (name : tree.Name) (bracket : ℕ) (index : tree.Expr) → memory_of (find name.bytes) (expr_place index) (constant index find) ≡ None → IsExpr index → AreSound d false find
    → (selected_target (tree.BitAt bracket index) name find procedural).faults ≡ [] → IsNamedTarget d find procedural name (tree.BitAt bracket index)
bit_case d find procedural name bracket index e x sound h =
    let needed = not procedural in
    let i = typed index find needed in
    let m = find name.bytes in
    let at = expr_place index in
    let none = not_array m at (constant index find) e in
    part_case d find procedural name (tree.BitAt bracket index) (λ o. taken o true 1 i i.faults) (sound name.bytes)
    (ap (λ b. bit_typed false name.place m at (typed index find (b || needed))) none ∙ bit_is false name.place m at i (constant index find) e)
    (ap (λ b. bit_target procedural name.place m at (typed index find (b || needed))) none ∙ bit_target_is procedural name.place m at i (constant index find) e)
    (λ r o q f. bit_fine d needed o r i q (typed_fine d find index needed (needed_sound d needed find sound) x (sym (taken_faults o true 1 i i.faults) ∙ f))) h

-- bits of a word
word_part_case : (d : Design) (find : Find) (procedural : Bool) (name : tree.Name) (bracket : ℕ) (address : tree.Expr) (part : tree.Select) (m : SignalMeaning) → find name.bytes ≡ AMemory m → IsSelect (tree.OfWord bracket address part) → AreSound d false find
    → (selected_target (tree.OfWord bracket address part) name find procedural).faults ≡ [] → IsNamedTarget d find procedural name (tree.OfWord bracket address part)
word_part_case d find procedural name bracket address part m e x sound h =
    let needed = not procedural in
    let at = expr_place address in
    let indexed = λ (y : Meaning). typed address find (is_array y || needed) in
    let take = λ (y : Meaning). taken_by (word_range y) part find needed in
    let i = indexed (AMemory m) in
    let a = addressed m at i in
    let t = take (AMemory m) in
    let wrong = fault_if (is_wrong_target procedural m) WrongKind name.place in
    let scalar = fault_if (is_scalar m) WrongKind name.place in
    let by_target : selected_target (tree.OfWord bracket address part) name find procedural ≡ word_part_target procedural name.place m a t = ap (λ y. further_target procedural name.place y at (indexed y) (take y)) e in
    let k = both_nil wrong (scalar ++ (a.faults ++ t.faults)) (sym (ap (λ (u : TypedTarget). u.faults) by_target) ∙ h) in
    let l = both_nil scalar (a.faults ++ t.faults) k.1 in
    let n = both_nil a.faults t.faults l.1 in
    let s = subst (IsSound d false) e (sound name.bytes) in
    let r = word_ranged m name.place s.1 l.0 in
    let f = address_fine d m at i s.0 (λ z. need_less d m.signal.net needed i (typed_fine d find address (m.signal.net || needed) (needed_sound d (m.signal.net || needed) find sound) x.0 z)) n.0 in
    let g = taken_by_fine d part find needed m.signal.range r.0 (needed_sound d needed find sound) x.1 x.2 r.1 n.1 in
    let is : selected_by (tree.OfWord bracket address part) name find false needed ≡ (let y : Typed = record { expression = E.WordPart a.signal a.index t.part t.index; length = t.length; good = true; faults = scalar ++ (a.faults ++ t.faults) } in y) =
    ap (λ y. further_typed false name.place y at (indexed y) (take y)) e ∙ ap (λ b. word_part_if b m scalar a t) (both (m.known && a.good) t.good (both m.known a.good s.1 f.good) g.good)
    in
    record {
      good = ap (λ (u : Typed). u.good) is;
      clean = ap (λ (u : Typed). u.faults) is ∙ k.1;
      formed = ap (λ (u : Typed). is_formed d u.expression) is
          ∙ both (is_formed_word_part d a.signal t.part && is_formed d a.index) (is_formed d t.index) (both (is_formed_word_part d a.signal t.part) (is_formed d a.index) (of_words a.signal f.words r.0 (range_same m at i ∙ r.1) g) f.formed) g.formed;
      written = ap (λ (u : Typed). target_of u.expression) is ∙ ap (λ (u : TypedTarget). Some u.target) (sym by_target);
    }
  where
    of_words : (w : E.Signal) → has_words d w ≡ true → (r : Range) → w.range ≡ Some r → IsFineTaken d (not procedural) r (taken_by m.signal.range part find (not procedural)) → is_formed_word_part d w (taken_by m.signal.range part find (not procedural)).part ≡ true
    of_words w has r i g =
        let p = (taken_by m.signal.range part find (not procedural)).part in
        both (has_words d w && same_range w.range (Some p.range)) (fits_64 p.width)
        (both (has_words d w) (same_range w.range (Some p.range)) has
        (subst (λ q. same_range q (Some p.range) ≡ true) (sym i) (subst (λ q. same_range (Some r) (Some q) ≡ true) (sym g.range) (same_itself r)))) g.fits

-- of what is no memory, whatever the address
pub no_memory_part : (procedural : Bool) (place : ℕ) (m : Meaning) (at : ℕ) (a : Typed) (t : Taken) (j : Typed) → memory_of m at j ≡ None → (further_target procedural place m at a t).faults ≡ [] → ⊥
no_memory_part procedural place (AValue v r turns) at a t j e h = cc
no_memory_part procedural place (Undefined r) at a t j e h = cc
no_memory_part procedural place (ASignal s) at a t j e h = cc
no_memory_part procedural place (AMemory s) at a t j e h = cc
no_memory_part procedural place (AFunction g) at a t j e h = cc
no_memory_part procedural place Incomplete at a t j e h = cc
no_memory_part procedural place Another at a t j e h = cc
no_memory_part procedural place (Barred rule) at a t j e h = cc
no_memory_part procedural place Unknown at a t j e h = cc

pub named_target : (d : Design) (find : Find) (procedural : Bool) (name : tree.Name) (select : tree.Select) → IsSelect select → AreSound d false find → (selected_target select name find procedural).faults ≡ [] → IsNamedTarget d find procedural name select
named_target d find procedural name tree.Whole x sound h = whole_target d find procedural name (sound name.bytes) h
named_target d find procedural name (tree.BitAt bracket index) x sound h = of (memory_of (find name.bytes) (expr_place index) (constant index find)) refl
  where
    of : (o : Option ℕ) → memory_of (find name.bytes) (expr_place index) (constant index find) ≡ o → IsNamedTarget d find procedural name (tree.BitAt bracket index)
    of None e = bit_case d find procedural name bracket index e x sound h
    of (Some n) e = let w = memory_is (find name.bytes) (expr_place index) (constant index find) n e in word_case d find procedural name bracket index w.0 w.1 x sound h
named_target d find procedural name (tree.OfWord bracket address part) x sound h = of (memory_of (find name.bytes) (expr_place address) (constant address find)) refl
  where
    of : (o : Option ℕ) → memory_of (find name.bytes) (expr_place address) (constant address find) ≡ o → IsNamedTarget d find procedural name (tree.OfWord bracket address part)
    of None e =
        let m = find name.bytes in
        absurd (no_memory_part procedural name.place m (expr_place address) (typed address find (is_array m || not procedural)) (taken_by (word_range m) part find (not procedural)) (constant address find) e h)
    of (Some n) e = let w = memory_is (find name.bytes) (expr_place address) (constant address find) n e in word_part_case d find procedural name bracket address part w.0 w.1 x sound h
named_target d find procedural name (tree.Slice bracket kind a b) x sound h =
    let needed = not procedural in
    let all = needed_sound d needed find sound in
    part_case d find procedural name (tree.Slice bracket kind a b) (λ o. slice_taken o bracket kind (expr_place a) (typed a (first_names kind find) (first_needed kind needed)) (expr_place b) (typed b (steady find) true)) (sound name.bytes) refl refl
    (λ r o e f. slice_fine d needed o r bracket kind (expr_place a) (typed a (first_names kind find) (first_needed kind needed)) (expr_place b) (typed b (steady find) true) e
    (λ k. typed_fine d (first_names kind find) a (first_needed kind needed) (first_sound d kind needed find all) x.0 k) (λ k. typed_fine d (steady find) b true (steady_sound d true find (needed_sound d true find sound)) x.1 k) f) h

pub named_selectable : (d : Design) (find : Find) (procedural : Bool) (name : tree.Name) (select : tree.Select) → IsWritable d find procedural (tree.NamedTarget name select) → IsSelectable d find false (not procedural) name select
named_selectable d find procedural name select w =
    let n = named_target d find procedural name select w.shaped.1 w.sound w.clean in
    record { shaped = w.shaped.1; signals = w.sound name.bytes; sound = needed_sound d (not procedural) find w.sound; numbered = w.numbered; clean = n.clean; good = n.good; formed = n.formed; shallow = w.shallow }

-- ---- the whole is a target, that of the definition

begins_target : (p : ℕ) (e : Expression) → target_of (begins_at p e) ≡ target_of e
begins_target p (E.Literal bits signed sized) = refl
begins_target p (E.Name signal) = refl
begins_target p (E.Select source part index) = refl
begins_target p (E.Word signal index) = refl
begins_target p (E.WordPart signal address part index) = refl
begins_target p (E.Unary op a) = refl
begins_target p (E.Binary op a b) = refl
begins_target p (E.Choice c a b) = refl
begins_target p (E.Join a b) = refl
begins_target p (E.Repeat n a) = refl
begins_target p (E.At q e) = refl
begins_target p (E.Call header statement arguments) = refl

begins_place : (p : ℕ) (e : Expression) → place_of (begins_at p e) ≡ p
begins_place p (E.Literal bits signed sized) = refl
begins_place p (E.Name signal) = refl
begins_place p (E.Select source part index) = refl
begins_place p (E.Word signal index) = refl
begins_place p (E.WordPart signal address part index) = refl
begins_place p (E.Unary op a) = refl
begins_place p (E.Binary op a b) = refl
begins_place p (E.Choice c a b) = refl
begins_place p (E.Join a b) = refl
begins_place p (E.Repeat n a) = refl
begins_place p (E.At q e) = refl
begins_place p (E.Call header statement arguments) = refl

mutual
  pub written : (d : Design) (find : Find) (procedural : Bool) (t : tree.Target) → IsTarget t → AreSound d false find → (typed_target t find procedural).faults ≡ [] → target_of (target_expression t find procedural) ≡ Some (typed_target t find procedural).target
  written d find procedural (tree.NamedTarget name select) x s h =
      begins_target name.place (selected_by select name find false (not procedural)).expression ∙ (named_target d find procedural name select x.1 s h).written
  written d find procedural (tree.Targeted place parts) x s h = parts_written d find procedural parts x s h

  pub parts_written : (d : Design) (find : Find) (procedural : Bool) (ts : tree.Targets) → ArePartsOfTarget ts → AreSound d false find → (typed_targets ts find procedural).faults ≡ [] → target_of (targets_expression ts find procedural) ≡ Some (typed_targets ts find procedural).target
  parts_written d find procedural tree.NoTarget x s h = absurd x
  parts_written d find procedural (tree.AndTarget t tree.NoTarget) x s h = written d find procedural t x.0 s h
  parts_written d find procedural (tree.AndTarget t (tree.AndTarget u rest)) x s h =
      let k = both_nil (typed_target t find procedural).faults (typed_targets (tree.AndTarget u rest) find procedural).faults h in
      ap (λ o. both_of o (target_of (targets_expression (tree.AndTarget u rest) find procedural))) (written d find procedural t x.0 s k.0)
      ∙ ap (λ o. both_of (Some (typed_target t find procedural).target) o) (parts_written d find procedural (tree.AndTarget u rest) x.1 s k.1)

pub begins_there : (t : tree.Target) (find : Find) (procedural : Bool) → place_of (target_expression t find procedural) ≡ target_place t
begins_there (tree.NamedTarget name select) find procedural = begins_place name.place (selected_by select name find false (not procedural)).expression
begins_there (tree.Targeted place parts) find procedural = refl

-- ---- the parts, one after the other

pub concatenation_view : (place : ℕ) (list : Vec Target Global) → target (Concatenation place list) ≡ tree.Targeted place (targets list.items)
concatenation_view place list = search (rules, target_rows, the_lemmas)

pub some_part : (ts : List Target) → ArePartsOfTarget (targets ts) → 1 ≤ length ts
some_part [] x = absurd x
some_part (t ∷ ts) x = omega arith

each_shaped : (ts : List Target) (i : ℕ) (x : Target) → AreTargets (targets ts) → i < length ts → IsTarget (target (get_or ts i x))
each_shaped [] i x s h = absurd (omega arith)
each_shaped (t ∷ ts) zero x s h = s.0
each_shaped (t ∷ ts) (suc i) x s h = each_shaped ts i x s.1 (omega arith)

shaped_at : (ts : List Target) (i : ℕ) (x : Target) → ArePartsOfTarget (targets ts) → i < length ts → IsTarget (target (get_or ts i x))
shaped_at [] i x s h = absurd s
shaped_at (t ∷ ts) i x s h = each_shaped (t ∷ ts) i x s h

clean_at : (find : Find) (procedural : Bool) (ts : List Target) (i : ℕ) (x : Target) → (typed_targets (targets ts) find procedural).faults ≡ [] → i < length ts → (typed_target (target (get_or ts i x)) find procedural).faults ≡ []
clean_at find procedural [] i x h k = absurd (omega arith)
clean_at find procedural (t ∷ []) zero x h k = h
clean_at find procedural (t ∷ []) (suc i) x h k = absurd (omega arith)
clean_at find procedural (t ∷ u ∷ ts) zero x h k = (both_nil (typed_target (target t) find procedural).faults (typed_targets (targets (u ∷ ts)) find procedural).faults h).0
clean_at find procedural (t ∷ u ∷ ts) (suc i) x h k = clean_at find procedural (u ∷ ts) i x (both_nil (typed_target (target t) find procedural).faults (typed_targets (targets (u ∷ ts)) find procedural).faults h).1 (omega arith)

depth_at : (ts : List Target) (i : ℕ) (x : Target) → i < length ts → target_depth (target (get_or ts i x)) ≤ targets_depth (targets ts)
depth_at [] i x k = absurd (omega arith)
depth_at (t ∷ ts) zero x k = omega arith
depth_at (t ∷ ts) (suc i) x k = omega (arith, depth_at ts i x (omega arith))

pub each_part : (d : Design) (find : Find) (procedural : Bool) (ts : List Target) (i : ℕ) (x : Target) → AreWritable d find procedural (targets ts) → i < length ts → x ≡ get_or ts i x → IsWritable d find procedural (target x)
each_part d find procedural ts i x b k e = record {
  shaped = subst (λ y. IsTarget (target y)) (sym e) (shaped_at ts i x b.shaped k);
  sound = b.sound;
  numbered = b.numbered;
  clean = subst (λ y. (typed_target (target y) find procedural).faults ≡ []) (sym e) (clean_at find procedural ts i x b.clean k);
  shallow = omega (arith, b.shallow, depth_at ts i x k, ap (λ y. target_depth (target y)) e);
}

pub part_levels : (ts : List Target) (i : ℕ) (x : Target) → i < length ts → x ≡ get_or ts i x → target_depth (target x) ≤ targets_depth (targets ts)
part_levels ts i x k e = omega (arith, depth_at ts i x k, ap (λ y. target_depth (target y)) e)

pub taken_more : (find : Find) (procedural : Bool) (ts : List Target) (i : ℕ) (x : Target) → i < length ts → x ≡ get_or ts i x → target_expressions find procedural (take (i + 1) ts) ≡ target_expressions find procedural (take i ts) ++ target_expression (target x) find procedural ∷ []
taken_more find procedural ts i x h e =
    let f = λ (y : Target). target_expression (target y) find procedural in
    let next : i + 1 ≡ suc i = omega arith in
    ap (λ n. map f (take n ts)) next ∙ ap (map f) (take-suc ts i x h) ∙ map-append f (take i ts) (get_or ts i x ∷ []) ∙ ap (λ y. map f (take i ts) ++ f y ∷ []) (sym e)

pub taken_all : (find : Find) (procedural : Bool) (ts : List Target) (i : ℕ) → i ≡ length ts → target_expressions find procedural (take i ts) ≡ target_expressions find procedural ts
taken_all find procedural ts i e = ap (λ n. target_expressions find procedural (take n ts)) e ∙ ap (target_expressions find procedural) (take-length ts)

pub part_count : (find : Find) (procedural : Bool) (ts : List Target) → length (target_expressions find procedural ts) ≡ length ts
part_count find procedural ts = length-map ts (λ (y : Target). target_expression (target y) find procedural)

parts_joined : (find : Find) (procedural : Bool) (ts : List Target) → 1 ≤ length ts → joined (target_expressions find procedural ts) ≡ targets_expression (targets ts) find procedural
parts_joined find procedural [] h = absurd (omega arith)
parts_joined find procedural (t ∷ []) h = refl
parts_joined find procedural (t ∷ u ∷ ts) h = ap (λ e. E.Join (target_expression (target t) find procedural) e) (parts_joined find procedural (u ∷ ts) (omega arith))

pub part_after : (s v : Draft) (es : List Expression) (m : ℕ) (find : Find) (procedural : Bool) (t : tree.Target) → AddsParts s v es m → IsWritable (home s) find procedural t → IsWritable (home v) find procedural t
part_after s v es m find procedural t h b = subst (λ d. IsWritable d find procedural t) (parts_home s v es m h) b

pub concatenation_parts : (d : Design) (find : Find) (procedural : Bool) (place : ℕ) (parts : tree.Targets) → IsWritable d find procedural (tree.Targeted place parts) → AreWritable d find procedural parts
concatenation_parts d find procedural place parts b = record { shaped = b.shaped; sound = b.sound; numbered = b.numbered; clean = b.clean; shallow = omega (arith, b.shallow) }

pub join_arm : {U F : Type 0} (r : Result U F) (s v new : Draft) (find : Find) (procedural : Bool) (at n : ℕ) (es xs : List Target) → xs ≡ es → 1 ≤ length es → n ≡ length es
    → AddsParts s v (target_expressions find procedural xs) (1 + targets_depth (targets xs))
    → ((q : Draft) (ts : List Expression) (m : ℕ) → AddsParts q v ts m → length ts ≡ n → OnOk r (AddsExpression q new (E.At at (E.Repeat 1 (joined ts))) (1 + m)))
    → OnOk r (AddsExpression s new (E.At at (E.Repeat 1 (targets_expression (targets es) find procedural))) (1 + (1 + targets_depth (targets es))))
join_arm r s v new find procedural at n es xs e some count h f =
    let made = f s (target_expressions find procedural xs) (1 + targets_depth (targets xs)) h (part_count find procedural xs ∙ ap length e ∙ sym count) in
    let same : OnOk r (AddsExpression s new (E.At at (E.Repeat 1 (joined (target_expressions find procedural es)))) (1 + (1 + targets_depth (targets es)))) =
    subst (λ ys. OnOk r (AddsExpression s new (E.At at (E.Repeat 1 (joined (target_expressions find procedural ys)))) (1 + (1 + targets_depth (targets ys))))) e made
    in
    subst (λ t. OnOk r (AddsExpression s new (E.At at (E.Repeat 1 t)) (1 + (1 + targets_depth (targets es))))) (parts_joined find procedural es some) same

pub part_falls : (ts : List Target) (i : ℕ) (x : Target) (t : ℕ) → i < length ts → x ≡ get_or ts i x → 2 * most the_size ts + 1 ≡ t → 2 * the_size x + 0 < t
part_falls ts i x t h k m =
    let b : the_size x ≤ most the_size ts = subst (λ z. the_size z ≤ most the_size ts) (sym k) (at_most the_size ts i x h) in
    omega (arith, b, m)
