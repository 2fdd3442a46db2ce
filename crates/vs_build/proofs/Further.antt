-- Selects of one or several bits by themselves, and those of words of memories.
use Rattle.std.proofs.Common.{◌≡◌, ℕ, ◌+◌, ◌<◌, Bool, true, false, ◌&&◌, ◌||◌, List, [], ◌++◌, length, max, Option, Some, None, Result, OnOk, refl, sym, ap, ◌∙◌, subst, arith}
use Rattle.vs_four.specs.declared.Range.{Range}
use Rattle.vs_four.specs.Selects.{Part, range_length}
use Rattle.vs_design.specs.Expressions as E
use Rattle.vs_design.specs.Expressions.{Expression}
use Rattle.vs_design.specs.Designs.{Design}
use Rattle.vs_design.specs.Fits.{fits_64}
use Rattle.vs_design.specs.Elaborated.{has_words, same_range, is_formed_word_part}
use Rattle.vs_grammar.specs.Trees as tree
use Rattle.vs_grammar.specs.Trees.{expr_place}
use Rattle.vs_grammar.specs.Depths.{expr_depth, select_depth}
use Rattle.vs_const.specs.declared.faults.Fault.{Fault}
use Rattle.vs_const.specs.Faults.{fault, fault_if}
use Rattle.vs_const.specs.declared.rules.Rule.TheVariants.{BadRange, WrongKind}
use Rattle.vs_const.specs.Meanings.{SignalMeaning, Meaning, AValue, Undefined, ASignal, AMemory, AFunction, Incomplete, Another, Barred, Unknown, Find, steady}
use Rattle.vs_const.specs.Sound.{IsSound, IsSoundMemory}
use Rattle.vs_const.specs.Typed.{Typed, begins_at, natural}
use Rattle.vs_const.specs.Selects.{is_scalar, Taken, taken, if_width, moving, is_against, lesser_bound, along, between, range_of, bounds, word_range, is_array, Addressed, addressed, word_part_if, word_part_typed, further_typed}
use Rattle.vs_const.specs.Expressions.{constant, typed, taken_by}
use Rattle.vs_const.proofs.Steady.{steady_sound}
use Rattle.vs_const.proofs.Formed.{both_nil, both, typed_fine, taken_by_fine, part_faults, word_ranged, same_itself, array_sound, address_fine, address_clean, index_same, need_less, range_same}
use Rattle.vs_flat.specs.Trees.{signal_at}
use Rattle.vs_build.specs.Drafts.{Draft, home, EndsWith, AddsExpression}
use Rattle.vs_build.specs.Buildable.{IsBuildable, selected_by, memory_of, IsWordAddressable, IsSelectable, IsTakable, HasWords, IsRangeOf}
use Rattle.vs_build.proofs.Arms.{ends_two, same_home, ok_up_to}
use Rattle.vs_build.proofs.Lists.{number_is}
use Rattle.vs_build.proofs.SignalNames.{signal_is, signal_within, memory_signal}
use Rattle.vs_build.proofs.Selects.{IsMoving, width_faults, IsBetween, between_faults, between_range, one_number, is_addressable}

-- ---- what is taken of something with this range

-- one bit
pub index_parts : (d : Design) (find : Find) (needed : Bool) (r : Range) (bracket : ℕ) (index : tree.Expr) → IsTakable d find needed r (tree.BitAt bracket index) → IsBuildable d find needed index
index_parts d find needed r bracket index t = record { shaped = t.shaped; sound = t.sound; numbered = t.numbered; clean = t.clean; shallow = omega (arith, t.shallow) }

-- so many from an index on
pub moving_parts : (d : Design) (find : Find) (needed : Bool) (r : Range) (up : Bool) (bracket : ℕ) (kind : tree.SliceKind) (a w : tree.Expr) → taken_by (Some r) (tree.Slice bracket kind a w) find needed ≡ moving (Some r) up (typed a find needed) (expr_place w) (typed w (steady find) true)
    → IsTakable d find needed r (tree.Slice bracket kind a w) → IsMoving d find needed a w
moving_parts d find needed r up bracket kind a w is t =
    let m = natural 1 64 (expr_place w) (typed w (steady find) true) in
    let fs = (typed a find needed).faults ++ m.faults in
    let p = both_nil (typed a find needed).faults m.faults (sym (ap (λ (x : Taken). x.faults) is ∙ width_faults (Some r) up m.number (typed a find needed) fs) ∙ t.clean) in
    record {
      index = record { shaped = t.shaped.0; sound = t.sound; numbered = t.numbered; clean = p.0; shallow = omega (arith, t.shallow) };
      width = number_is d true (steady find) 1 64 w (steady_sound d needed find t.sound) t.shaped.1 p.1;
    }

pub moving_bits : (find : Find) (needed : Bool) (r : Range) (up : Bool) (bracket : ℕ) (kind : tree.SliceKind) (a w : tree.Expr) (n : ℕ) → taken_by (Some r) (tree.Slice bracket kind a w) find needed ≡ moving (Some r) up (typed a find needed) (expr_place w) (typed w (steady find) true)
    → (natural 1 64 (expr_place w) (constant w (steady find))).number ≡ Some n
    → taken_by (Some r) (tree.Slice bracket kind a w) find needed ≡ taken (Some r) up n (typed a find needed) ((typed a find needed).faults ++ (natural 1 64 (expr_place w) (typed w (steady find) true)).faults)
moving_bits find needed r up bracket kind a w n is e =
    is ∙ ap (λ o. if_width (Some r) up o (typed a find needed) ((typed a find needed).faults ++ (natural 1 64 (expr_place w) (typed w (steady find) true)).faults)) e

-- from one bound to the other
pub between_parts : (d : Design) (find : Find) (needed : Bool) (r : Range) (bracket : ℕ) (a b : tree.Expr) → IsTakable d find needed r (tree.Slice bracket tree.Between a b) → IsBetween d find needed bracket a b
between_parts d find needed r bracket a b t =
    let q = bounds bracket (expr_place a) (typed a (steady find) true) (expr_place b) (typed b (steady find) true) in
    let m = natural 0 65535 (expr_place a) (typed a (steady find) true) in
    let n = natural 0 65535 (expr_place b) (typed b (steady find) true) in
    let w = both_nil m.faults (n.faults ++ (range_of 64 bracket m.number n.number).faults) (between_faults (Some r) bracket (expr_place a) q.range q.faults t.clean) in
    let v = both_nil n.faults (range_of 64 bracket m.number n.number).faults w.1 in
    let first = number_is d true (steady find) 0 65535 a (steady_sound d needed find t.sound) t.shaped.0 w.0 in
    let second = number_is d true (steady find) 0 65535 b (steady_sound d needed find t.sound) t.shaped.1 v.0 in
    record {
      bounds_are = record { first = first; second = second; short = (between_range bracket m.number n.number first.number second.number first.is second.is v.1).0 };
      range = λ k l e f. (between_range bracket m.number n.number k l e f v.1).1;
    }

along_clean : (declared : Option Range) (bracket place : ℕ) (q : Range) (fs : List Fault) (against : Bool) → (along against declared bracket place q fs).faults ≡ [] → along against declared bracket place q fs ≡ taken declared true (range_length q) (lesser_bound place q) fs
along_clean declared bracket place q fs false h = refl
along_clean declared bracket place q fs true h = absurd (no (both_nil fs (fault BadRange bracket) h).1)
  where
    no : fault BadRange bracket ≡ [] → ⊥
    no k = cc

pub between_bits : (d : Design) (find : Find) (needed : Bool) (r q : Range) (bracket : ℕ) (a b : tree.Expr) → IsTakable d find needed r (tree.Slice bracket tree.Between a b) → IsRangeOf (steady find) a b q
    → taken_by (Some r) (tree.Slice bracket tree.Between a b) find needed ≡ taken (Some r) true (range_length q) (lesser_bound (expr_place a) q) (bounds bracket (expr_place a) (typed a (steady find) true) (expr_place b) (typed b (steady find) true)).faults
between_bits d find needed r q bracket a b t p =
    let w = bounds bracket (expr_place a) (typed a (steady find) true) (expr_place b) (typed b (steady find) true) in
    let range : w.range ≡ Some q = (between_parts d find needed r bracket a b t).range q.left q.right p.first p.second in
    let is : taken_by (Some r) (tree.Slice bracket tree.Between a b) find needed ≡ along (is_against (Some r) q) (Some r) bracket (expr_place a) q w.faults = ap (λ o. between (Some r) bracket (expr_place a) o w.faults) range in
    is ∙ along_clean (Some r) bracket (expr_place a) q w.faults (is_against (Some r) q) (sym (ap (λ (x : Taken). x.faults) is) ∙ t.clean)

-- the index, and the part that begins there
pub taken_index : (x : Taken) (r : Range) (up : Bool) (n : ℕ) (i : Typed) (fs : List Fault) → x ≡ taken (Some r) up n i fs → x.index ≡ i.expression
taken_index x r up n i fs e = ap (λ (y : Taken). y.index) e

pub taken_part : (x : Taken) (r : Range) (up : Bool) (n : ℕ) (i : Typed) (fs : List Fault) → x ≡ taken (Some r) up n i fs → x.part ≡ record { range = r; up = up; width = n }
taken_part x r up n i fs e = ap (λ (y : Taken). y.part) e

-- ---- what is selected of a word

-- of a memory whose words have a range, or of an array of nets: what has the word, the address, and the bits
pub record IsFurther (d : Design) (find : Find) (needed : Bool) (m : Meaning) (address : tree.Expr) (part : tree.Select) (t : Typed) : Type 0 where
  pub words : HasWords m
  pub signal : E.Signal
  pub has : has_words d signal ≡ true
  pub ranged : signal.range ≡ Some words.range
  pub number : memory_of m (expr_place address) (constant address find) ≡ Some signal.number
  pub addressable : IsWordAddressable m find address
  pub address_is : IsBuildable d find (is_array m || needed) address
  pub takable : IsTakable d find needed words.range part
  pub expression : t.expression ≡ E.WordPart signal (typed address find (is_array m || needed)).expression (taken_by (Some words.range) part find needed).part (taken_by (Some words.range) part find needed).index

further_memory : (fixed : Bool) (place : ℕ) (m : Meaning) (at : ℕ) (i : Typed) (t : Taken) → (further_typed fixed place m at i t).good ≡ true → (fixed ≡ false) × ((s : SignalMeaning) × (m ≡ AMemory s))
further_memory true place m at i t h = cc
further_memory false place (AValue v r turns) at i t h = cc
further_memory false place (Undefined r) at i t h = cc
further_memory false place (ASignal s) at i t h = cc
further_memory false place (AMemory s) at i t h = (refl, (s, refl))
further_memory false place (AFunction f) at i t h = cc
further_memory false place Incomplete at i t h = cc
further_memory false place Another at i t h = cc
further_memory false place (Barred rule) at i t h = cc
further_memory false place Unknown at i t h = cc

part_good : (good : Bool) (m : SignalMeaning) (fs : List Fault) (a : Addressed) (t : Taken) → (word_part_if good m fs a t).good ≡ true → (word_part_if good m fs a t).expression ≡ E.WordPart a.signal a.index t.part t.index
part_good true m fs a t h = refl
part_good false m fs a t h = cc

further_of : (d : Design) (find : Find) (fixed needed : Bool) (name : tree.Name) (bracket : ℕ) (address : tree.Expr) (part : tree.Select) (s : SignalMeaning) → fixed ≡ false → find name.bytes ≡ AMemory s → IsSelectable d find fixed needed name (tree.OfWord bracket address part)
    → IsFurther d find needed (find name.bytes) address part (selected_by (tree.OfWord bracket address part) name find fixed needed)
further_of d find fixed needed name bracket address part s e f b =
    let m = find name.bytes in
    let at = expr_place address in
    let index = λ (y : Meaning). typed address find (is_array y || needed) in
    let i = index (AMemory s) in
    let a = addressed s at i in
    let t = taken_by s.signal.range part find needed in
    let scalar = fault_if (is_scalar s) WrongKind name.place in
    let is : selected_by (tree.OfWord bracket address part) name find fixed needed ≡ word_part_typed name.place s a t =
    ap (λ c. further_typed c name.place m at (index m) (taken_by (word_range m) part find needed)) e ∙ ap (λ y. further_typed false name.place y at (index y) (taken_by (word_range y) part find needed)) f
    in
    let sound : IsSoundMemory d false s = subst (IsSound d false) f (subst (λ c. IsSound d c m) e b.signals) in
    let good = s.known && a.good && t.good in
    let k = both_nil scalar (a.faults ++ t.faults) (sym (part_faults good s scalar a t) ∙ sym (ap (λ (x : Typed). x.faults) is) ∙ b.clean) in
    let l = both_nil a.faults t.faults k.1 in
    let r = word_ranged s name.place sound.1 k.0 in
    let fine = address_fine d s at i sound.0 (λ z. need_less d s.signal.net needed i (typed_fine d find address (s.signal.net || needed) (array_sound d s.signal.net needed find b.sound) b.shaped.0 z)) l.0 in
    let same : index m ≡ i = ap index f in
    record {
      words = record { memory = s; is = f; range = r.0; has_range = r.1 };
      signal = a.signal;
      has = fine.words;
      ranged = range_same s at i ∙ r.1;
      number = ap (λ y. memory_of y at (constant address find)) f ∙ ap (λ z. Some z) (one_number s needed at (λ c. typed address find c));
      addressable = subst (λ y. IsWordAddressable y find address) (sym f) (is_addressable d find needed s address b.sound b.shaped.0 l.0);
      address_is = record {
        shaped = b.shaped.0;
        sound = array_sound d (is_array m) needed find b.sound;
        numbered = b.numbered;
        clean = ap (λ (x : Typed). x.faults) same ∙ address_clean s at i l.0;
        shallow = omega (arith, b.shallow);
      };
      takable = record {
        shaped = b.shaped.1;
        one_or_several = b.shaped.2;
        sound = b.sound;
        numbered = b.numbered;
        clean = ap (λ o. (taken_by o part find needed).faults) (sym r.1) ∙ l.1;
        shallow = omega (arith, b.shallow);
      };
      expression =
          ap (λ (x : Typed). x.expression) is ∙ part_good good s scalar a t (sym (ap (λ (x : Typed). x.good) is) ∙ b.good)
          ∙ ap (λ x. E.WordPart a.signal x t.part t.index) (index_same s at i ∙ sym (ap (λ (x : Typed). x.expression) same))
          ∙ ap (λ o. E.WordPart a.signal (index m).expression (taken_by o part find needed).part (taken_by o part find needed).index) r.1;
    }

pub further_is : (d : Design) (find : Find) (fixed needed : Bool) (name : tree.Name) (bracket : ℕ) (address : tree.Expr) (part : tree.Select) → IsSelectable d find fixed needed name (tree.OfWord bracket address part)
    → IsFurther d find needed (find name.bytes) address part (selected_by (tree.OfWord bracket address part) name find fixed needed)
further_is d find fixed needed name bracket address part b =
    let m = find name.bytes in
    let w = further_memory fixed name.place m (expr_place address) (typed address find (is_array m || needed)) (taken_by (word_range m) part find needed) b.good in
    further_of d find fixed needed name bracket address part w.1.0 w.0 w.1.1 b

-- after the address
pub takable_after : (s v : Draft) (t : Expression) (m : ℕ) (find : Find) (needed : Bool) (r : Range) (part : tree.Select) → AddsExpression s v t m → IsTakable (home s) find needed r part → IsTakable (home v) find needed r part
takable_after s v t m find needed r part h b = subst (λ d. IsTakable d find needed r part) (same_home s v t m h) b

-- what the part is built on: the address and the index, and the memory with this number, whose words have this range
pub record EndsInWordPart (n : ℕ) (part : Part) (v : Draft) : Type 0 where
  pub there : n < length (home v).signals
  pub formed : is_formed_word_part (home v) (signal_at (home v).signals n) part ≡ true
  pub ends : EndsWith 2 v

-- the number of what has the word and the range that a look-up answers, and the bits
pub record IsLookedUp (signal : E.Signal) (range : Range) (t : Taken) (n : ℕ) (q : Range) (up : Bool) (width : ℕ) : Type 0 where
  pub number : n ≡ signal.number
  pub range_is : range ≡ q
  pub part : t.part ≡ record { range = range; up = up; width = width }

one_range : (o : Option Range) (q r : Range) → o ≡ Some q → o ≡ Some r → r ≡ q
one_range (Some p) q r e f = cc
one_range None q r e f = cc

one_signal : (o : Option ℕ) (n k : ℕ) → o ≡ Some n → o ≡ Some k → n ≡ k
one_signal (Some z) n k e f = cc
one_signal None n k e f = cc

pub looked_up : (d : Design) (find : Find) (needed : Bool) (m : Meaning) (address : tree.Expr) (part : tree.Select) (t : Typed) (f : IsFurther d find needed m address part t) (n : ℕ) (q : Range) (up : Bool) (width : ℕ) → memory_of m (expr_place address) (constant address find) ≡ Some n → f.words.memory.signal.range ≡ Some q
    → (taken_by (Some f.words.range) part find needed).part ≡ record { range = f.words.range; up = up; width = width } → IsLookedUp f.signal f.words.range (taken_by (Some f.words.range) part find needed) n q up width
looked_up d find needed m address part t f n q up width number range bits =
    record { number = one_signal (memory_of m (expr_place address) (constant address find)) n f.signal.number number f.number; range_is = one_range f.words.memory.signal.range q f.words.range range f.words.has_range; part = bits }

part_looked_up : (signal : E.Signal) (range : Range) (t : Taken) (n : ℕ) (q : Range) (up : Bool) (width : ℕ) → IsLookedUp signal range t n q up width → t.part ≡ record { range = q; up = up; width = width }
part_looked_up signal range t n q up width l = l.part ∙ ap (λ r. (let p : Part = record { range = r; up = up; width = width } in p)) l.range_is

formed_part : (d : Design) (find : Find) (needed : Bool) (m : Meaning) (address : tree.Expr) (part : tree.Select) (t : Typed) → (f : IsFurther d find needed m address part t) → is_formed_word_part d f.signal (taken_by (Some f.words.range) part find needed).part ≡ true
formed_part d find needed m address part t f =
    let s = f.signal in
    let k = f.takable in
    let r = f.words.range in
    let g = taken_by_fine d part find needed (Some r) r k.sound k.shaped k.one_or_several refl k.clean in
    let p = (taken_by (Some r) part find needed).part in
    both (has_words d s && same_range s.range (Some p.range)) (fits_64 p.width)
    (both (has_words d s) (same_range s.range (Some p.range)) f.has
    (subst (λ q. same_range q (Some p.range) ≡ true) (sym f.ranged) (subst (λ q. same_range (Some r) (Some q) ≡ true) (sym g.range) (same_itself r)))) g.fits

memory_at : (c d : Design) (s : E.Signal) (n : ℕ) → d ≡ c → n ≡ s.number → has_words d s ≡ true → signal_at c.signals n ≡ s
memory_at c d s n e h w = ap (λ (x : Design). signal_at x.signals n) (sym e) ∙ ap (signal_at d.signals) h ∙ signal_is d s (memory_signal d s w)

pub further_ends : (d : Design) (find : Find) (needed : Bool) (m : Meaning) (address : tree.Expr) (part : tree.Select) (t : Typed) (f : IsFurther d find needed m address part t) (n : ℕ) (q : Range) (up : Bool) (width : ℕ) (s r v : Draft) → home s ≡ d
    → IsLookedUp f.signal f.words.range (taken_by (Some f.words.range) part find needed) n q up width
    → AddsExpression s r (typed address find (is_array m || needed)).expression (1 + expr_depth address) → AddsExpression r v (taken_by (Some f.words.range) part find needed).index (select_depth part)
    → EndsInWordPart n (record { range = q; up = up; width = width }) v
further_ends d find needed m address part t f n q up width s r v e l h k =
    let a = (typed address find (is_array m || needed)).expression in
    let x = taken_by (Some f.words.range) part find needed in
    let design : d ≡ home v = sym e ∙ same_home s r a (1 + expr_depth address) h ∙ same_home r v x.index (select_depth part) k in
    let memory = f.signal in
    let at : signal_at (home v).signals n ≡ memory = memory_at (home v) d memory n design l.number f.has in
    let bits : x.part ≡ record { range = q; up = up; width = width } = part_looked_up f.signal f.words.range x n q up width l in
    record {
      there = subst (λ (c : Design). n < length c.signals) design (subst (λ i. i < length d.signals) (sym l.number) (signal_within d memory (memory_signal d memory f.has)));
      formed = ap (λ z. is_formed_word_part (home v) z (record { range = q; up = up; width = width })) at ∙ ap (is_formed_word_part (home v) memory) (sym bits) ∙ ap (λ c. is_formed_word_part c memory x.part) (sym design) ∙ formed_part d find needed m address part t f;
      ends = ends_two s r v a x.index (1 + expr_depth address) (select_depth part) h k (omega (arith, f.address_is.shallow)) (omega (arith, f.takable.shallow));
    }

pub further_arm : {U F : Type 0} (o : Result U F) (d : Design) (find : Find) (needed : Bool) (m : Meaning) (address : tree.Expr) (part : tree.Select) (t : Typed) (f : IsFurther d find needed m address part t) (n : ℕ) (q : Range) (up : Bool) (width : ℕ) (s r v new : Draft) (at : ℕ) → home s ≡ d
    → IsLookedUp f.signal f.words.range (taken_by (Some f.words.range) part find needed) n q up width
    → AddsExpression s r (typed address find (is_array m || needed)).expression (1 + expr_depth address) → AddsExpression r v (taken_by (Some f.words.range) part find needed).index (select_depth part)
    → ((p k : Draft) (x y : Expression) (i j : ℕ) → AddsExpression p k x i → AddsExpression k v y j
    → OnOk o (AddsExpression p new (E.At at (E.WordPart (signal_at (home v).signals n) x (record { range = q; up = up; width = width }) y)) (1 + max i j)))
    → OnOk o (AddsExpression s new (begins_at at t.expression) (1 + (1 + max (expr_depth address) (select_depth part))))
further_arm o d find needed m address part t f n q up width s r v new at e l h k g =
    let a = (typed address find (is_array m || needed)).expression in
    let x = taken_by (Some f.words.range) part find needed in
    let design : d ≡ home v = sym e ∙ same_home s r a (1 + expr_depth address) h ∙ same_home r v x.index (select_depth part) k in
    let memory = f.signal in
    let is : signal_at (home v).signals n ≡ memory = memory_at (home v) d memory n design l.number f.has in
    let bits : x.part ≡ record { range = q; up = up; width = width } = part_looked_up f.signal f.words.range x n q up width l in
    let same : E.At at (E.WordPart (signal_at (home v).signals n) a (record { range = q; up = up; width = width }) x.index) ≡ begins_at at t.expression =
    ap (λ z. E.At at (E.WordPart z a (record { range = q; up = up; width = width }) x.index)) is ∙ ap (λ p. E.At at (E.WordPart memory a p x.index)) (sym bits) ∙ ap (begins_at at) (sym f.expression)
    in
    subst (λ z. OnOk o (AddsExpression s new z (1 + (1 + max (expr_depth address) (select_depth part))))) same
    (ok_up_to o s new (E.At at (E.WordPart (signal_at (home v).signals n) a (record { range = q; up = up; width = width }) x.index)) (1 + max (1 + expr_depth address) (select_depth part)) (1 + (1 + max (expr_depth address) (select_depth part)))
    (g s r a x.index (1 + expr_depth address) (select_depth part) h k) (omega arith))
