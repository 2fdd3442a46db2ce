-- An expression without a fault stands for a formed one, whose length and value are known.
use Rattle.std.proofs.Common.{◌≡◌, ℕ, suc, ◌+◌, ◌*◌, ◌≤◌, Bool, true, false, not, ◌&&◌, List, [], ◌∷◌, ◌++◌, Option, Some, None, length, max, nat_le, if◌then◌else◌, ◌==◌, ◌-◌, ◌||◌, is_none, eq-eqb, refl, sym, ap, ◌∙◌, subst, arith, ℤ, pos, negsuc}
use Rattle.std.proofs.lemmas.Bool.{le-leb, leb-true}
use Rattle.vs_four.specs.declared.Range.{Range}
use Rattle.vs_four.specs.Logic.{BitList, all_known}
use Rattle.vs_four.specs.Numbers.{integer, clog2}
use Rattle.vs_four.specs.Selects.{Part, range_length, is_descending}
use Rattle.vs_design.specs.Expressions.{addresses, OfSignal, OfConstant, Expression, Items, NoItem, Item, Literal, Name, Select, Word, WordPart, Unary, Binary, Choice, Join, Repeat, At, Call, UnaryOp, Signed, Unsigned, BinaryOp, Way, InContext, Own, Compared, Shifted, Raised, way, binary_length, width, sign, is_constant}
use Rattle.vs_design.specs.Values.{constant_value}
use Rattle.vs_design.specs.Designs.{Design}
use Rattle.vs_design.specs.Fits.{fits_64}
use Rattle.vs_design.specs.Elaborated.{is_plain, has_words, is_lawful_range, same_range, is_formed, is_formed_select, is_formed_word_part, is_formed_header, is_formed_statement, is_nil, inside, are_as_many, are_formed}
use Rattle.vs_design.specs.Rules.{mixed_in}
use Rattle.vs_grammar.specs.Trees as tree
use Rattle.vs_grammar.specs.Trees.{expr_place}
use Rattle.vs_grammar.specs.Shapes.{IsExpr, AreParts, AreExprs, IsSelect, IsLiteral, is_part}
use Rattle.vs_const.specs.declared.faults.Fault.{Fault}
use Rattle.vs_const.specs.Faults.{Rule, fault, fault_if, names_signal, BadRange, UnknownConstant, UnknownName, WrongKind, FunctionRule}
use Rattle.vs_const.specs.Meanings.{SignalMeaning, FunctionMeaning, Meaning, AValue, Undefined, ASignal, AMemory, AFunction, Incomplete, Another, Barred, Unknown, Find, ConstantValue, IsFairValue, steady}
use Rattle.vs_const.specs.Sound.{AreSoundSignals, HasAllWords, IsSoundMemory, IsFormedFunction, IsSoundFunction, IsSound, AreSound, IsFine}
use Rattle.vs_const.specs.Typed.{Typed, begins_at, is_over, noted, known_number, number_known, number_if, number_of, natural_if, natural_within, natural, both_lengths, length_map, unary_op_length, unary_typed, binary_way_length, binary_typed, choice_typed, join_typed, copies_typed, fine}
use Rattle.vs_const.specs.Selects.{range_if, range_of, bounds, known_signal, name_typed, Base, is_scalar, signal_base, base_of, Taken, taken, if_width, moving, is_against, lesser_bound, along, between, slice_taken, first_needed, first_names, select_if, select_typed, wrong_rule, is_array, array_net, Addressed, in_array, addressed_in, addressed, word_if, word_typed, bit_typed, word_range, word_part_if, word_part_typed, further_typed}
use Rattle.vs_const.specs.Expressions.{unsized_faults, is_clean, part_typed, replicated, replication_typed, clog2_of, clog2_typed, call_typed, argument_needed, TypedItems, joined_items, passed_items, with_passed, and_argument, call_if, called, applied, typed, selected, taken_by, typed_parts, typed_arguments}
use Rattle.vs_const.proofs.Steady.{sound_needed, steady_sound, first_sound}

pub array_sound : (d : Design) (array needed : Bool) (find : Find) → AreSound d needed find → AreSound d (array || needed) find
array_sound d true needed find s = λ name. sound_needed d needed (find name) (s name)
array_sound d false needed find s = s

argument_sound : (d : Design) (function : tree.SystemFunction) (needed : Bool) (find : Find) → AreSound d needed find → AreSound d (argument_needed function needed) find
argument_sound d tree.AsSigned needed find s = s
argument_sound d tree.AsUnsigned needed find s = s
argument_sound d tree.Clog2 needed find s = λ name. sound_needed d needed (find name) (s name)

-- ---- lists of faults, and tests

pub both_nil : {A : Type 0} (xs ys : List A) → xs ++ ys ≡ [] → (xs ≡ []) × (ys ≡ [])
both_nil [] ys h = (refl, h)
both_nil (x ∷ xs) ys h = cc

pub no_fault : (b : Bool) (r : Rule) (p : ℕ) → fault_if b r p ≡ [] → b ≡ false
no_fault true n p h = cc
no_fault false n p h = refl

pub both : (a b : Bool) → a ≡ true → b ≡ true → (a && b) ≡ true
both true true h k = refl
both true false h k = cc
both false b h k = cc

pub split : (a b : Bool) → (a && b) ≡ true → (a ≡ true) × (b ≡ true)
split true true h = (refl, refl)
split true false h = cc
split false b h = cc

unless_long : (a b : Bool) → a ≡ true → b ≡ false → (a && not b) ≡ true
unless_long true false h k = refl
unless_long true true h k = cc
unless_long false b h k = cc

not_long : (b : Bool) → (b && true) ≡ false → b ≡ false
not_long true h = h
not_long false h = refl

-- ---- where an expression begins is no matter

pub begins_same : {A : Type 0} (f : Expression → A) → ((p : ℕ) (e : Expression) → f (At p e) ≡ f e) → (p : ℕ) (e : Expression) → f (begins_at p e) ≡ f e
begins_same f h p (Literal bits signed sized) = h p (Literal bits signed sized)
begins_same f h p (Name signal) = h p (Name signal)
begins_same f h p (Select source part index) = h p (Select source part index)
begins_same f h p (Word signal index) = h p (Word signal index)
begins_same f h p (WordPart signal address part index) = h p (WordPart signal address part index)
begins_same f h p (Unary op a) = h p (Unary op a)
begins_same f h p (Binary op a b) = h p (Binary op a b)
begins_same f h p (Choice c a b) = h p (Choice c a b)
begins_same f h p (Join a b) = h p (Join a b)
begins_same f h p (Repeat n a) = h p (Repeat n a)
begins_same f h p (Call header statement arguments) = h p (Call header statement arguments)
begins_same f h p (At q e) = h p e ∙ sym (h q e)

noted_fine : (d : Design) (needed : Bool) (place : ℕ) (t : Typed) → (t.faults ≡ [] → IsFine d needed t) → (noted needed place t).faults ≡ [] → IsFine d needed (noted needed place t)
noted_fine d needed place t fine_if h =
    let n = both_nil t.faults (fault_if ((needed && is_over 64 t.length) && not (names_signal t.faults)) BadRange place) h in
    let f = fine_if n.0 in
    let short : ((needed && is_over 64 t.length) && not (names_signal t.faults)) ≡ false = no_fault ((needed && is_over 64 t.length) && not (names_signal t.faults)) BadRange place n.1 in
    record {
      good = unless_long t.good (needed && is_over 64 t.length) f.good (not_long (needed && is_over 64 t.length) (subst (λ fs. ((needed && is_over 64 t.length) && not (names_signal fs)) ≡ false) n.0 short));
      formed = begins_same (is_formed d) (λ p e. refl) place t.expression ∙ f.formed;
      length = f.length ∙ ap Some (sym (begins_same width (λ p e. refl) place t.expression));
      constant = λ k. begins_same is_constant (λ p e. refl) place t.expression ∙ f.constant k;
    }

-- ---- operators

unary_fine : (d : Design) (needed : Bool) (op : UnaryOp) (t : Typed) → IsFine d needed t → IsFine d needed (unary_typed op t)
unary_fine d needed op t f = record { good = f.good; formed = f.formed; length = ap (unary_op_length op) f.length; constant = f.constant }

pub way_length : (w : Way) (m n : ℕ) → binary_way_length w (Some m) (Some n) ≡ Some (binary_length w m n)
way_length InContext m n = refl
way_length Own m n = refl
way_length Compared m n = refl
way_length Shifted m n = refl
way_length Raised m n = refl

binary_fine : (d : Design) (needed : Bool) (op : BinaryOp) (t u : Typed) → IsFine d needed t → IsFine d needed u → IsFine d needed (binary_typed op t u)
binary_fine d needed op t u f g = record {
  good = both t.good u.good f.good g.good;
  formed = both (is_formed d t.expression) (is_formed d u.expression) f.formed g.formed;
  length = ap (λ l. binary_way_length (way op) l u.length) f.length ∙ ap (binary_way_length (way op) (Some (width t.expression))) g.length ∙ way_length (way op) (width t.expression) (width u.expression);
  constant = λ k. both (is_constant t.expression) (is_constant u.expression) (f.constant k) (g.constant k);
}

choice_fine : (d : Design) (needed : Bool) (t u v : Typed) → IsFine d needed t → IsFine d needed u → IsFine d needed v → IsFine d needed (choice_typed t u v)
choice_fine d needed t u v f g h = record {
  good = both t.good (u.good && v.good) f.good (both u.good v.good g.good h.good);
  formed = three (is_formed d t.expression) (is_formed d u.expression) (is_formed d v.expression) f.formed g.formed h.formed;
  length = ap (λ l. both_lengths max l v.length) g.length ∙ ap (both_lengths max (Some (width u.expression))) h.length;
  constant = λ k. three (is_constant t.expression) (is_constant u.expression) (is_constant v.expression) (f.constant k) (g.constant k) (h.constant k);
}
  where
    three : (a b c : Bool) → a ≡ true → b ≡ true → c ≡ true → (a && b && c) ≡ true
    three true true true h k l = refl
    three true true false h k l = cc
    three true false c h k l = cc
    three false b c h k l = cc

join_fine : (d : Design) (needed : Bool) (t u : Typed) → IsFine d needed t → IsFine d needed u → IsFine d needed (join_typed t u)
join_fine d needed t u f g = record {
  good = both t.good u.good f.good g.good;
  formed = both (is_formed d t.expression) (is_formed d u.expression) f.formed g.formed;
  length = ap (λ l. both_lengths ◌+◌ l u.length) f.length ∙ ap (both_lengths ◌+◌ (Some (width t.expression))) g.length;
  constant = λ k. both (is_constant t.expression) (is_constant u.expression) (f.constant k) (g.constant k);
}

copies_fine : (d : Design) (needed : Bool) (n : ℕ) (t : Typed) → fits_64 n ≡ true → IsFine d needed t → IsFine d needed (copies_typed n t)
copies_fine d needed n t h f = record {
  good = f.good;
  formed = both (fits_64 n) (is_formed d t.expression) h f.formed;
  length = ap (length_map (λ m. n * m)) f.length;
  constant = f.constant;
}

part_fine : (d : Design) (needed : Bool) (e : tree.Expr) (t : Typed) → (t.faults ≡ [] → IsFine d needed t) → (part_typed e t).faults ≡ [] → IsFine d needed (part_typed e t)
part_fine d needed e t fine_if h =
    let n = both_nil t.faults (unsized_faults e) h in
    let f = fine_if n.0 in
    record { good = both t.good (is_clean (unsized_faults e)) f.good (ap is_clean n.1); formed = f.formed; length = f.length; constant = f.constant }

-- ---- numbers

pub record IsNumber (low high : ℕ) (number : Option ℕ) : Type 0 where
  pub n : ℕ
  pub is : number ≡ Some n
  pub within : (nat_le low n && nat_le n high) ≡ true

if_is : (low high place n : ℕ) (b : Bool) → (nat_le low n && nat_le n high) ≡ b → (natural_if b place n).faults ≡ [] → IsNumber low high (natural_if b place n).number
if_is low high place n true e h = record { n = n; is = refl; within = e }
if_is low high place n false e h = cc

within_is : (low high place : ℕ) (z : ℤ) → (natural_within low high place (Some z)).faults ≡ [] → IsNumber low high (natural_within low high place (Some z)).number
within_is low high place (pos n) h = if_is low high place n (nat_le low n && nat_le n high) refl h
within_is low high place (negsuc n) h = cc

known_is : (low high place : ℕ) (known : Bool) (bits : BitList) (signed : Bool) → (number_known known bits signed place).faults ≡ []
    → (natural_within low high place (number_known known bits signed place).number).faults ≡ [] → IsNumber low high (natural_within low high place (number_known known bits signed place).number).number
known_is low high place true bits signed h k = within_is low high place (integer signed bits) k
known_is low high place false bits signed h k = cc

pub number_fine : (low high place : ℕ) (t : Typed) (good : Bool) → good ≡ true → (number_if good place t).faults ≡ [] → (natural_within low high place (number_if good place t).number).faults ≡ []
    → IsNumber low high (natural_within low high place (number_if good place t).number).number
number_fine low high place t false g h k = cc
number_fine low high place t true g h k = known_is low high place (all_known (constant_value t.expression)) (constant_value t.expression) (sign t.expression) (both_nil t.faults (known_number (constant_value t.expression) (sign t.expression) place).faults h).1 k

pub number_faults : (place : ℕ) (t : Typed) (good : Bool) → (number_if good place t).faults ≡ [] → t.faults ≡ []
number_faults place t false h = h
number_faults place t true h = (both_nil t.faults (known_number (constant_value t.expression) (sign t.expression) place).faults h).0

-- a needed number without a fault
pub natural_fine : (d : Design) (needed : Bool) (low high place : ℕ) (t : Typed) → (t.faults ≡ [] → IsFine d needed t) → (natural low high place t).faults ≡ [] → IsNumber low high (natural low high place t).number
natural_fine d needed low high place t fine_if h =
    let n = both_nil (number_of place t).faults (natural_within low high place (number_of place t).number).faults h in
    number_fine low high place t t.good (fine_if (number_faults place t t.good n.0)).good n.0 n.1

-- ---- calls

clog2_fine : (d : Design) (needed : Bool) (place : ℕ) (n : Option ℕ) (fs : List Fault) → (clog2_of n place fs).faults ≡ [] → IsFine d needed (clog2_of n place fs)
clog2_fine d needed place None fs h = absurd (cons_nil (both_nil fs (fault UnknownConstant place) h).1)
  where
    cons_nil : fault UnknownConstant place ≡ [] → ⊥
    cons_nil k = cc
clog2_fine d needed place (Some n) fs h = record { good = refl; formed = refl; length = refl; constant = λ k. refl }

clog2_typed_fine : (d : Design) (needed : Bool) (place : ℕ) (t : Typed) (good : Bool) → good ≡ true → (clog2_typed good place t).faults ≡ [] → IsFine d needed (clog2_typed good place t)
clog2_typed_fine d needed place t false g h = cc
clog2_typed_fine d needed place t true g h = clog2_fine d needed place (clog2 (constant_value t.expression)) t.faults h

clog2_faults : (place : ℕ) (t : Typed) (good : Bool) → (clog2_typed good place t).faults ≡ [] → t.faults ≡ []
clog2_faults place t false h = h
clog2_faults place t true h = of (clog2 (constant_value t.expression)) h
  where
    of : (n : Option ℕ) → (clog2_of n place t.faults).faults ≡ [] → t.faults ≡ []
    of None k = (both_nil t.faults (fault UnknownConstant place) k).0
    of (Some n) k = k

call_fine : (d : Design) (needed : Bool) (function : tree.SystemFunction) (place : ℕ) (t : Typed) → (t.faults ≡ [] → IsFine d (argument_needed function needed) t) → (call_typed function place t).faults ≡ [] → IsFine d needed (call_typed function place t)
call_fine d needed tree.AsSigned place t fine_if h = unary_fine d needed Signed t (fine_if h)
call_fine d needed tree.AsUnsigned place t fine_if h = unary_fine d needed Unsigned t (fine_if h)
call_fine d needed tree.Clog2 place t fine_if h = clog2_typed_fine d needed place t t.good (fine_if (clog2_faults place t t.good h)).good h

-- ---- replications

replicated_fine : (d : Design) (needed : Bool) (n : Option ℕ) (fs : List Fault) (t : Typed) → IsNumber 1 64 n → IsFine d needed t → IsFine d needed (replicated n fs t)
replicated_fine d needed None fs t w f = absurd (none_some w.is)
  where
    none_some : {m : ℕ} → None ≡ Some m → ⊥
    none_some k = cc
replicated_fine d needed (Some n) fs t w f = let c = copies_fine d needed n t (subst (λ m. fits_64 m ≡ true) (sym (same w.is)) w.within) f in record { good = c.good; formed = c.formed; length = c.length; constant = c.constant }
  where
    same : {m : ℕ} → Some n ≡ Some m → n ≡ m
    same k = cc

replicated_faults : (n : Option ℕ) (fs : List Fault) (t : Typed) → (replicated n fs t).faults ≡ [] → (fs ≡ []) × (t.faults ≡ [])
replicated_faults None fs t h = both_nil fs t.faults h
replicated_faults (Some n) fs t h = both_nil fs t.faults h

replication_fine : (d : Design) (needed : Bool) (place : ℕ) (count t : Typed) → (count.faults ≡ [] → IsFine d true count) → (t.faults ≡ [] → IsFine d needed t) → (replication_typed place count t).faults ≡ [] → IsFine d needed (replication_typed place count t)
replication_fine d needed place count t count_if fine_if h =
    let n = natural 1 64 place count in
    let k = replicated_faults n.number n.faults t h in
    replicated_fine d needed n.number n.faults t (natural_fine d true 1 64 place count count_if k.0) (fine_if k.1)

-- ---- ranges

pub length_some : (r : Range) → nat_le 1 (range_length r) ≡ true
length_some r = by (is_descending r)
  where
    by : (b : Bool) → nat_le 1 (if b then suc (r.left - r.right) else suc (r.right - r.left)) ≡ true
    by true = le-leb 1 (suc (r.left - r.right)) (omega arith)
    by false = le-leb 1 (suc (r.right - r.left)) (omega arith)

pub record IsRange (range : Option Range) : Type 0 where
  pub r : Range
  pub is : range ≡ Some r
  pub lawful : is_lawful_range (Some r) ≡ true
  pub fits : fits_64 (range_length r) ≡ true

range_is : (bracket left right : ℕ) (short : Bool) → nat_le (range_length (record { left = left; right = right })) 64 ≡ short → nat_le left 65535 ≡ true → nat_le right 65535 ≡ true
    → (range_if short bracket (record { left = left; right = right })).faults ≡ [] → IsRange (range_if short bracket (record { left = left; right = right })).range
range_is bracket left right true e h k f =
    record { r = record { left = left; right = right }; is = refl; lawful = all_three (nat_le left 65535) (nat_le right 65535) (nat_le (range_length (record { left = left; right = right })) 64) h k e; fits = both (nat_le 1 (range_length (record { left = left; right = right }))) (nat_le (range_length (record { left = left; right = right })) 64) (length_some (record { left = left; right = right })) e }
  where
    all_three : (a b c : Bool) → a ≡ true → b ≡ true → c ≡ true → (a && b && c) ≡ true
    all_three true true true h k l = refl
    all_three true true false h k l = cc
    all_three true false c h k l = cc
    all_three false b c h k l = cc
range_is bracket left right false e h k f = cc

range_of_is : (bracket : ℕ) (m n : Option ℕ) → IsNumber 0 65535 m → IsNumber 0 65535 n → (range_of 64 bracket m n).faults ≡ [] → IsRange (range_of 64 bracket m n).range
range_of_is bracket None n g h k = absurd (no g.is)
  where
    no : {m : ℕ} → None ≡ Some m → ⊥
    no e = cc
range_of_is bracket (Some m) None g h k = absurd (no h.is)
  where
    no : {m : ℕ} → None ≡ Some m → ⊥
    no e = cc
range_of_is bracket (Some m) (Some n) g h k =
    range_is bracket m n (nat_le (range_length (record { left = m; right = n })) 64) refl (small m g) (small n h) k
  where
    same : {a b : ℕ} → Some a ≡ Some b → a ≡ b
    same e = cc

    small : (a : ℕ) → IsNumber 0 65535 (Some a) → nat_le a 65535 ≡ true
    small a w = subst (λ b. nat_le b 65535 ≡ true) (sym (same w.is)) (split (nat_le 0 w.n) (nat_le w.n 65535) w.within).1

pub bounds_fine : (d : Design) (bracket p q : ℕ) (t u : Typed) → (t.faults ≡ [] → IsFine d true t) → (u.faults ≡ [] → IsFine d true u) → (bounds bracket p t q u).faults ≡ [] → IsRange (bounds bracket p t q u).range
bounds_fine d bracket p q t u t_if u_if h =
    let m = natural 0 65535 p t in
    let n = natural 0 65535 q u in
    let a = both_nil m.faults (n.faults ++ (range_of 64 bracket m.number n.number).faults) h in
    let b = both_nil n.faults (range_of 64 bracket m.number n.number).faults a.1 in
    range_of_is bracket m.number n.number (natural_fine d true 0 65535 p t t_if a.0) (natural_fine d true 0 65535 q u u_if b.0) b.1

-- ---- names

name_fine : (d : Design) (needed : Bool) (place : ℕ) (m : Meaning) → IsSound d needed m → (name_typed needed place m).faults ≡ [] → IsFine d needed (name_typed needed place m)
name_fine d needed place (AValue v r turns) s h = record { good = refl; formed = literal (length v.bits) s.0.some s.0.most; length = refl; constant = λ k. refl }
  where
    literal : (n : ℕ) → 1 ≤ n → n ≤ 64 → (fits_64 n && true) ≡ true
    literal n a b = both (fits_64 n) true (both (nat_le 1 n) (nat_le n 64) (le-leb 1 n a) (le-leb n 64 b)) refl
name_fine d needed place (Undefined r) s h = absurd s
name_fine d true place (ASignal m) s h = cc
name_fine d false place (ASignal m) s h = known m.known s.1
  where
    known : (b : Bool) → b ≡ true → IsFine d false (known_signal b m.signal)
    known true e = record { good = refl; formed = s.0; length = refl; constant = λ k. no k }
      where
        no : false ≡ true → is_constant (Name m.signal) ≡ true
        no k = cc
    known false e = cc
name_fine d true place (AMemory m) s h = cc
name_fine d false place (AMemory m) s h = cc
name_fine d needed place (AFunction f) s h = cc
name_fine d needed place Incomplete s h = cc
name_fine d needed place Another s h = cc
name_fine d needed place (Barred rule) s h = cc
name_fine d needed place Unknown s h = cc

-- ---- selects

-- what a select takes bits of, where no fault was met
pub record IsFineBase (d : Design) (needed : Bool) (b : Base) : Type 0 where
  pub good : b.good ≡ true
  pub r : Range
  pub range : b.range ≡ Some r
  pub formed : (part : Part) → part.range ≡ r → fits_64 part.width ≡ true → is_formed_select d b.source part ≡ true
  pub constant : needed ≡ true → (part : Part) (index : Expression) → is_constant index ≡ true → is_constant (Select b.source part index) ≡ true

eqb_same : (n : ℕ) → (n == n) ≡ true
eqb_same n = eq-eqb n n refl

pub same_itself : (r : Range) → same_range (Some r) (Some r) ≡ true
same_itself r = both (r.left == r.left) (r.right == r.right) (eqb_same r.left) (eqb_same r.right)

value_base_fine : (d : Design) (needed : Bool) (v : ConstantValue) (r : Range) → IsFairValue v r → is_lawful_range (Some r) ≡ true → IsFineBase d needed (record { source = OfConstant v.bits; range = Some r; good = true; faults = [] })
value_base_fine d needed v r f l = record { good = refl; r = r; range = refl; formed = formed; constant = λ k part index c. c }
  where
    three : (a b c : Bool) → a ≡ true → b ≡ true → c ≡ true → (a && b && c) ≡ true
    three true true true h k l = refl
    three true true false h k l = cc
    three true false c h k l = cc
    three false b c h k l = cc

    formed : (part : Part) → part.range ≡ r → fits_64 part.width ≡ true → is_formed_select d (OfConstant v.bits) part ≡ true
    formed part e w =
        three (is_lawful_range (Some part.range)) (range_length part.range == length v.bits) (fits_64 part.width)
        (subst (λ q. is_lawful_range (Some q) ≡ true) (sym e) l)
        (eq-eqb (range_length part.range) (length v.bits) (ap range_length e ∙ f.range))
        w

pub signal_base_fine : (d : Design) (place : ℕ) (s : SignalMeaning) (range : Option Range) → s.signal.range ≡ range → is_plain d s.signal ≡ true → s.known ≡ true → fault_if (is_scalar s) WrongKind place ≡ [] → IsFineBase d false (signal_base (fault_if (is_scalar s) WrongKind place) s)
signal_base_fine d place s None e h k f = absurd (no (scalar s.known s.signal.range k e) (no_fault (is_scalar s) WrongKind place f))
  where
    scalar : (b : Bool) (r : Option Range) → b ≡ true → r ≡ None → (b && is_none r) ≡ true
    scalar true None g i = refl
    scalar true (Some r) g i = cc
    scalar false r g i = cc

    no : is_scalar s ≡ true → is_scalar s ≡ false → ⊥
    no g i = cc
signal_base_fine d place s (Some r) e h k f = record { good = k; r = r; range = e; formed = formed; constant = λ c. no c }
  where
    no : false ≡ true → (part : Part) (index : Expression) → is_constant index ≡ true → is_constant (Select (OfSignal s.signal) part index) ≡ true
    no c = cc

    three : (a b c : Bool) → a ≡ true → b ≡ true → c ≡ true → (a && b && c) ≡ true
    three true true true h k l = refl
    three true true false h k l = cc
    three true false c h k l = cc
    three false b c h k l = cc

    formed : (part : Part) → part.range ≡ r → fits_64 part.width ≡ true → is_formed_select d (OfSignal s.signal) part ≡ true
    formed part i w = three (is_plain d s.signal) (same_range s.signal.range (Some part.range)) (fits_64 part.width) h (subst (λ q. same_range q (Some part.range) ≡ true) (sym e) (subst (λ q. same_range (Some r) (Some q) ≡ true) (sym i) (same_itself r))) w

base_fine : (d : Design) (needed : Bool) (place : ℕ) (m : Meaning) → IsSound d needed m → (base_of needed place m).faults ≡ [] → IsFineBase d needed (base_of needed place m)
base_fine d true place (AValue v r turns) s h = value_base_fine d true v r s.0 s.1
base_fine d false place (AValue v r turns) s h = value_base_fine d false v r s.0 s.1
base_fine d true place (Undefined r) s h = absurd s
base_fine d false place (Undefined r) s h = absurd s
base_fine d true place (ASignal m) s h = cc
base_fine d false place (ASignal m) s h = signal_base_fine d place m m.signal.range refl s.0 s.1 h
base_fine d true place (AMemory m) s h = cc
base_fine d false place (AMemory m) s h = cc
base_fine d true place (AFunction f) s h = cc
base_fine d false place (AFunction f) s h = cc
base_fine d true place Incomplete s h = cc
base_fine d false place Incomplete s h = cc
base_fine d true place Another s h = cc
base_fine d false place Another s h = cc
base_fine d true place (Barred rule) s h = cc
base_fine d false place (Barred rule) s h = cc
base_fine d true place Unknown s h = cc
base_fine d false place Unknown s h = cc

-- the bits that a select takes
pub record IsFineTaken (d : Design) (needed : Bool) (r : Range) (t : Taken) : Type 0 where
  pub good : t.good ≡ true
  pub range : t.part.range ≡ r
  pub fits : fits_64 t.part.width ≡ true
  pub length : t.length ≡ Some t.part.width
  pub formed : is_formed d t.index ≡ true
  pub constant : needed ≡ true → is_constant t.index ≡ true

pub taken_fine : (d : Design) (needed : Bool) (declared : Option Range) (r : Range) (up : Bool) (n : ℕ) (t : Typed) (fs : List Fault) → declared ≡ Some r → fits_64 n ≡ true → IsFine d needed t → IsFineTaken d needed r (taken declared up n t fs)
taken_fine d needed None r up n t fs e h f = absurd (no e)
  where
    no : None ≡ Some r → ⊥
    no k = cc
taken_fine d needed (Some declared) r up n t fs e h f = record { good = f.good; range = same e; fits = h; length = refl; formed = f.formed; constant = f.constant }
  where
    same : Some declared ≡ Some r → declared ≡ r
    same k = cc

-- the bit select: one bit
pub bit_fine : (d : Design) (needed : Bool) (declared : Option Range) (r : Range) (t : Typed) → declared ≡ Some r → IsFine d needed t → IsFineTaken d needed r (taken declared true 1 t t.faults)
bit_fine d needed declared r t e f = taken_fine d needed declared r true 1 t t.faults e refl f

width_fine : (d : Design) (needed : Bool) (declared : Option Range) (r : Range) (up : Bool) (n : Option ℕ) (t : Typed) (fs : List Fault) → declared ≡ Some r → IsNumber 1 64 n → IsFine d needed t → IsFineTaken d needed r (if_width declared up n t fs)
width_fine d needed declared r up None t fs e w f = absurd (no w.is)
  where
    no : {m : ℕ} → None ≡ Some m → ⊥
    no k = cc
width_fine d needed declared r up (Some n) t fs e w f = taken_fine d needed declared r up n t fs e (subst (λ m. fits_64 m ≡ true) (sym (same w.is)) w.within) f
  where
    same : {m : ℕ} → Some n ≡ Some m → n ≡ m
    same k = cc

width_faults : (declared : Option Range) (up : Bool) (n : Option ℕ) (t : Typed) (fs : List Fault) → (if_width declared up n t fs).faults ≡ fs
width_faults declared up None t fs = refl
width_faults None up (Some n) t fs = refl
width_faults (Some r) up (Some n) t fs = refl

moving_fine : (d : Design) (needed : Bool) (declared : Option Range) (r : Range) (up : Bool) (a : Typed) (place : ℕ) (w : Typed) → declared ≡ Some r → (a.faults ≡ [] → IsFine d needed a) → (w.faults ≡ [] → IsFine d true w)
    → (moving declared up a place w).faults ≡ [] → IsFineTaken d needed r (moving declared up a place w)
moving_fine d needed declared r up a place w e a_if w_if h =
    let n = natural 1 64 place w in
    let k = both_nil a.faults n.faults (sym (width_faults declared up n.number a (a.faults ++ n.faults)) ∙ h) in
    width_fine d needed declared r up n.number a (a.faults ++ n.faults) e (natural_fine d true 1 64 place w w_if k.1) (a_if k.0)

along_fine : (d : Design) (needed : Bool) (declared : Option Range) (r q : Range) (bracket place : ℕ) (fs : List Fault) (against : Bool) → declared ≡ Some r → fits_64 (range_length q) ≡ true → (along against declared bracket place q fs).faults ≡ [] → IsFineTaken d needed r (along against declared bracket place q fs)
along_fine d needed declared r q bracket place fs true e w h = absurd (no (both_nil fs (fault BadRange bracket) h).1)
  where
    no : fault BadRange bracket ≡ [] → ⊥
    no k = cc
along_fine d needed declared r q bracket place fs false e w h = taken_fine d needed declared r true (range_length q) (lesser_bound place q) fs e w (record { good = refl; formed = refl; length = refl; constant = λ k. refl })

between_fine : (d : Design) (needed : Bool) (declared : Option Range) (r : Range) (bracket place : ℕ) (range : Option Range) (fs : List Fault) → declared ≡ Some r → IsRange range → (between declared bracket place range fs).faults ≡ [] → IsFineTaken d needed r (between declared bracket place range fs)
between_fine d needed declared r bracket place None fs e g h = absurd (no g.is)
  where
    no : {q : Range} → None ≡ Some q → ⊥
    no k = cc
between_fine d needed declared r bracket place (Some q) fs e g h = along_fine d needed declared r q bracket place fs (is_against declared q) e (subst (λ s. fits_64 (range_length s) ≡ true) (sym (same g.is)) g.fits) h
  where
    same : {s : Range} → Some q ≡ Some s → q ≡ s
    same k = cc

between_faults : (declared : Option Range) (bracket place : ℕ) (range : Option Range) (fs : List Fault) → (between declared bracket place range fs).faults ≡ [] → fs ≡ []
between_faults declared bracket place None fs h = h
between_faults declared bracket place (Some q) fs h = of (is_against declared q) declared h
  where
    of : (b : Bool) (declared : Option Range) → (along b declared bracket place q fs).faults ≡ [] → fs ≡ []
    of true declared k = (both_nil fs (fault BadRange bracket) k).0
    of false None k = k
    of false (Some s) k = k

pub slice_fine : (d : Design) (needed : Bool) (declared : Option Range) (r : Range) (bracket : ℕ) (kind : tree.SliceKind) (p : ℕ) (a : Typed) (q : ℕ) (b : Typed) → declared ≡ Some r
    → (a.faults ≡ [] → IsFine d (first_needed kind needed) a) → (b.faults ≡ [] → IsFine d true b) → (slice_taken declared bracket kind p a q b).faults ≡ [] → IsFineTaken d needed r (slice_taken declared bracket kind p a q b)
slice_fine d needed declared r bracket tree.Between p a q b e a_if b_if h =
    let range = bounds bracket p a q b in
    between_fine d needed declared r bracket p range.range range.faults e (bounds_fine d bracket p q a b a_if b_if (between_faults declared bracket p range.range range.faults h)) h
slice_fine d needed declared r bracket tree.Upward p a q b e a_if b_if h = moving_fine d needed declared r true a q b e a_if b_if h
slice_fine d needed declared r bracket tree.Downward p a q b e a_if b_if h = moving_fine d needed declared r false a q b e a_if b_if h

select_faults : (b : Base) (t : Taken) → (select_typed b t).faults ≡ [] → (b.faults ≡ []) × (t.faults ≡ [])
select_faults b t h = of (b.good && t.good) h
  where
    of : (c : Bool) → (select_if c b t).faults ≡ [] → (b.faults ≡ []) × (t.faults ≡ [])
    of true k = both_nil b.faults t.faults k
    of false k = both_nil b.faults t.faults k

select_fine : (d : Design) (needed : Bool) (b : Base) (t : Taken) → (f : IsFineBase d needed b) → IsFineTaken d needed f.r t → IsFine d needed (select_typed b t)
select_fine d needed b t f g = of (b.good && t.good) (both b.good t.good f.good g.good)
  where
    of : (c : Bool) → c ≡ true → IsFine d needed (select_if c b t)
    of true k = record {
      good = refl;
      formed = both (is_formed_select d b.source t.part) (is_formed d t.index) (f.formed t.part g.range g.fits) g.formed;
      length = g.length;
      constant = λ m. f.constant m t.part t.index (g.constant m);
    }
    of false k = cc

pub taken_faults : (declared : Option Range) (up : Bool) (n : ℕ) (t : Typed) (fs : List Fault) → (taken declared up n t fs).faults ≡ fs
taken_faults None up n t fs = refl
taken_faults (Some r) up n t fs = refl

-- ---- words

-- what has the word at an address without a fault
pub record IsFineAddress (d : Design) (a : Addressed) : Type 0 where
  pub words : has_words d a.signal ≡ true
  pub formed : is_formed d a.index ≡ true
  pub good : a.good ≡ true

pub in_array_faults : (m : SignalMeaning) (i : Typed) (o : Option ℕ) (fs : List Fault) → (in_array m i o fs).faults ≡ fs
in_array_faults m i None fs = refl
in_array_faults m i (Some n) fs = refl

pub address_fine : (d : Design) (m : SignalMeaning) (at : ℕ) (i : Typed) → HasAllWords m.signal.net d m.signal → (i.faults ≡ [] → IsFine d (m.signal.net || false) i) → (addressed m at i).faults ≡ [] → IsFineAddress d (addressed m at i)
address_fine d m at i w fine_if h = of m.signal.net w fine_if h
  where
    found : (o : Option ℕ) (fs : List Fault) → ((n : ℕ) → (addresses m.signal).right ≤ n → n ≤ (addresses m.signal).left → has_words d (array_net m.signal n) ≡ true) → IsFine d true i
        → IsNumber (addresses m.signal).right (addresses m.signal).left o → IsFineAddress d (in_array m i o fs)
    found None fs w f k = absurd (none k.n k.is)
      where
        none : (n : ℕ) → None ≡ Some n → ⊥
        none n e = cc
    found (Some n) fs w f k =
        let b = split (nat_le (addresses m.signal).right k.n) (nat_le k.n (addresses m.signal).left) k.within in
        record {
          words = subst (λ z. has_words d (array_net m.signal z) ≡ true) (same k.n k.is) (w k.n (leb-true (addresses m.signal).right k.n b.0) (leb-true k.n (addresses m.signal).left b.1));
          formed = f.formed;
          good = f.good;
        }
      where
        same : (z : ℕ) → Some n ≡ Some z → z ≡ n
        same z e = cc

    of : (array : Bool) → HasAllWords array d m.signal → (i.faults ≡ [] → IsFine d (array || false) i) → (addressed_in array m at i).faults ≡ [] → IsFineAddress d (addressed_in array m at i)
    of false w f k = let g = f k in record { words = w; formed = g.formed; good = g.good }
    of true w f k =
        let n = natural (addresses m.signal).right (addresses m.signal).left at i in
        let none : n.faults ≡ [] = sym (in_array_faults m i n.number n.faults) ∙ k in
        let p = both_nil (number_of at i).faults (natural_within (addresses m.signal).right (addresses m.signal).left at (number_of at i).number).faults none in
        found n.number n.faults w (f (number_faults at i i.good p.0)) (natural_fine d true (addresses m.signal).right (addresses m.signal).left at i f none)

-- its index is without a fault, and stays as it is
pub address_clean : (m : SignalMeaning) (at : ℕ) (i : Typed) → (addressed m at i).faults ≡ [] → i.faults ≡ []
address_clean m at i h = of m.signal.net h
  where
    of : (array : Bool) → (addressed_in array m at i).faults ≡ [] → i.faults ≡ []
    of false k = k
    of true k =
        let n = natural (addresses m.signal).right (addresses m.signal).left at i in
        number_faults at i i.good (both_nil (number_of at i).faults (natural_within (addresses m.signal).right (addresses m.signal).left at (number_of at i).number).faults (sym (in_array_faults m i n.number n.faults) ∙ k)).0

pub index_same : (m : SignalMeaning) (at : ℕ) (i : Typed) → (addressed m at i).index ≡ i.expression
index_same m at i = of m.signal.net
  where
    found : (o : Option ℕ) (fs : List Fault) → (in_array m i o fs).index ≡ i.expression
    found None fs = refl
    found (Some n) fs = refl

    of : (array : Bool) → (addressed_in array m at i).index ≡ i.expression
    of false = refl
    of true = let n = natural (addresses m.signal).right (addresses m.signal).left at i in found n.number n.faults

-- where an address has to be a constant it is enough that an array's is one
pub need_less : (d : Design) (array needed : Bool) (i : Typed) → IsFine d (array || needed) i → IsFine d (array || false) i
need_less d true needed i f = f
need_less d false needed i f = record { good = f.good; formed = f.formed; length = f.length; constant = λ e. absurd (no e) }
  where
    no : false ≡ true → ⊥
    no e = cc

-- the words of an array are as its nets
pub range_same : (m : SignalMeaning) (at : ℕ) (i : Typed) → (addressed m at i).signal.range ≡ m.signal.range
range_same m at i = of m.signal.net
  where
    found : (o : Option ℕ) (fs : List Fault) → (in_array m i o fs).signal.range ≡ m.signal.range
    found None fs = refl
    found (Some n) fs = refl

    of : (array : Bool) → (addressed_in array m at i).signal.range ≡ m.signal.range
    of false = refl
    of true = let n = natural (addresses m.signal).right (addresses m.signal).left at i in found n.number n.faults

-- a word is named where no constant is needed
word_fine : (d : Design) (needed : Bool) (place : ℕ) (m : SignalMeaning) (at : ℕ) (i : Typed) → IsSoundMemory d needed m → (i.faults ≡ [] → IsFine d (m.signal.net || needed) i) → (word_typed needed place m (addressed m at i)).faults ≡ []
    → IsFine d needed (word_typed needed place m (addressed m at i))
word_fine d true place m at i s fine_if h = cc
word_fine d false place m at i s fine_if h = of (m.known && (addressed m at i).good) refl h
  where
    no : false ≡ true → is_constant (Word (addressed m at i).signal (addressed m at i).index) ≡ true
    no c = cc

    found : IsFineAddress d (addressed m at i) → IsFine d false (word_if true m (addressed m at i))
    found f = record { good = refl; formed = both (has_words d (addressed m at i).signal) (is_formed d (addressed m at i).index) f.words f.formed; length = refl; constant = λ k. no k }

    of : (b : Bool) → (m.known && (addressed m at i).good) ≡ b → (word_if b m (addressed m at i)).faults ≡ [] → IsFine d false (word_if b m (addressed m at i))
    of true e k = found (address_fine d m at i s.0 fine_if k)
    of false e k = absurd (wrong (both m.known (addressed m at i).good s.1 (address_fine d m at i s.0 fine_if k).good) e)
      where
        wrong : (m.known && (addressed m at i).good) ≡ true → (m.known && (addressed m at i).good) ≡ false → ⊥
        wrong g f = cc

-- one bit of a name that is no memory's
one_bit_fine : (d : Design) (needed : Bool) (place : ℕ) (m : Meaning) (i : Typed) → IsSound d needed m → (i.faults ≡ [] → IsFine d needed i)
    → (select_typed (base_of needed place m) (taken (base_of needed place m).range true 1 i i.faults)).faults ≡ [] → IsFine d needed (select_typed (base_of needed place m) (taken (base_of needed place m).range true 1 i i.faults))
one_bit_fine d needed place m i s fine_if h =
    let b = base_of needed place m in
    let k = select_faults b (taken b.range true 1 i i.faults) h in
    let f = base_fine d needed place m s k.0 in
    select_fine d needed b (taken b.range true 1 i i.faults) f (bit_fine d needed b.range f.r i f.range (fine_if (sym (taken_faults b.range true 1 i i.faults) ∙ k.1)))

bit_typed_fine : (d : Design) (needed : Bool) (place : ℕ) (m : Meaning) (at : ℕ) (i : Typed) → IsSound d needed m → (i.faults ≡ [] → IsFine d (is_array m || needed) i) → (bit_typed needed place m at i).faults ≡ [] → IsFine d needed (bit_typed needed place m at i)
bit_typed_fine d needed place (AMemory m) at i s fine_if h = word_fine d needed place m at i s fine_if h
bit_typed_fine d needed place (AValue v r turns) at i s fine_if h = one_bit_fine d needed place (AValue v r turns) i s fine_if h
bit_typed_fine d needed place (Undefined r) at i s fine_if h = one_bit_fine d needed place (Undefined r) i s fine_if h
bit_typed_fine d needed place (ASignal m) at i s fine_if h = one_bit_fine d needed place (ASignal m) i s fine_if h
bit_typed_fine d needed place (AFunction f) at i s fine_if h = one_bit_fine d needed place (AFunction f) i s fine_if h
bit_typed_fine d needed place Incomplete at i s fine_if h = one_bit_fine d needed place Incomplete i s fine_if h
bit_typed_fine d needed place Another at i s fine_if h = one_bit_fine d needed place Another i s fine_if h
bit_typed_fine d needed place (Barred rule) at i s fine_if h = one_bit_fine d needed place (Barred rule) i s fine_if h
bit_typed_fine d needed place Unknown at i s fine_if h = one_bit_fine d needed place Unknown i s fine_if h

-- a name at fault
misnamed_fine : (d : Design) (needed : Bool) (t : Typed) (rule : Rule) (place : ℕ) → fault rule place ≡ [] → IsFine d needed t
misnamed_fine d needed t rule place h = absurd (no h)
  where
    no : fault rule place ≡ [] → ⊥
    no k = cc

-- ---- parts of words

-- a memory has a range of its words where a part is taken without a fault
pub word_ranged : (m : SignalMeaning) (place : ℕ) → m.known ≡ true → fault_if (is_scalar m) WrongKind place ≡ [] → (r : Range) × (m.signal.range ≡ Some r)
word_ranged m place k f = of m.signal.range refl
  where
    scalar : (b : Bool) (r : Option Range) → b ≡ true → r ≡ None → (b && is_none r) ≡ true
    scalar true None g i = refl
    scalar true (Some r) g i = cc
    scalar false r g i = cc

    no : is_scalar m ≡ true → is_scalar m ≡ false → ⊥
    no g i = cc

    of : (o : Option Range) → m.signal.range ≡ o → (r : Range) × (m.signal.range ≡ Some r)
    of (Some r) e = (r, e)
    of None e = absurd (no (scalar m.known m.signal.range k e) (no_fault (is_scalar m) WrongKind place f))

pub part_faults : (good : Bool) (m : SignalMeaning) (fs : List Fault) (a : Addressed) (t : Taken) → (word_part_if good m fs a t).faults ≡ fs ++ (a.faults ++ t.faults)
part_faults true m fs a t = refl
part_faults false m fs a t = refl

word_part_fine : (d : Design) (place : ℕ) (m : SignalMeaning) (a : Addressed) (t : Taken) → IsSoundMemory d false m → a.signal.range ≡ m.signal.range → (a.faults ≡ [] → IsFineAddress d a) → ((r : Range) → m.signal.range ≡ Some r → t.faults ≡ [] → IsFineTaken d false r t)
    → (word_part_typed place m a t).faults ≡ [] → IsFine d false (word_part_typed place m a t)
word_part_fine d place m a t s same a_if t_if h =
    let k = both_nil fs (a.faults ++ t.faults) (sym (part_faults (m.known && a.good && t.good) m fs a t) ∙ h) in
    let n = both_nil a.faults t.faults k.1 in
    let w = word_ranged m place s.1 k.0 in
    let f = a_if n.0 in
    let g = t_if w.0 w.1 n.1 in
    of (m.known && a.good && t.good) (both (m.known && a.good) t.good (both m.known a.good s.1 f.good) g.good) w.0 w.1 f g
  where
    fs : List Fault
    fs = fault_if (is_scalar m) WrongKind place

    no : false ≡ true → is_constant (WordPart a.signal a.index t.part t.index) ≡ true
    no c = cc

    three : (a b c : Bool) → a ≡ true → b ≡ true → c ≡ true → (a && b && c) ≡ true
    three true true true h k l = refl
    three true true false h k l = cc
    three true false c h k l = cc
    three false b c h k l = cc

    of : (c : Bool) → c ≡ true → (r : Range) → m.signal.range ≡ Some r → IsFineAddress d a → IsFineTaken d false r t → IsFine d false (word_part_if c m fs a t)
    of true e r ranged f g = record {
      good = refl;
      formed = three (is_formed_word_part d a.signal t.part) (is_formed d a.index) (is_formed d t.index)
          (three (has_words d a.signal) (same_range a.signal.range (Some t.part.range)) (fits_64 t.part.width) f.words
          (subst (λ q. same_range q (Some t.part.range) ≡ true) (sym ranged ∙ sym same) (subst (λ q. same_range (Some r) (Some q) ≡ true) (sym g.range) (same_itself r))) g.fits)
          f.formed g.formed;
      length = g.length;
      constant = λ k. no k;
    }
    of false e r ranged f g = cc

further_fine : (d : Design) (needed : Bool) (place : ℕ) (m : Meaning) (at : ℕ) (i : Typed) (t : Taken) → IsSound d needed m → (i.faults ≡ [] → IsFine d (is_array m || needed) i) → ((r : Range) → word_range m ≡ Some r → t.faults ≡ [] → IsFineTaken d needed r t)
    → (further_typed needed place m at i t).faults ≡ [] → IsFine d needed (further_typed needed place m at i t)
further_fine d true place m at i t s i_if t_if h = misnamed_fine d true (further_typed true place m at i t) (wrong_rule true m) place h
further_fine d false place (AMemory m) at i t s i_if t_if h = word_part_fine d place m (addressed m at i) t s (range_same m at i) (λ k. address_fine d m at i s.0 i_if k) t_if h
further_fine d false place (AValue v r turns) at i t s i_if t_if h = misnamed_fine d false (further_typed false place (AValue v r turns) at i t) WrongKind place h
further_fine d false place (Undefined r) at i t s i_if t_if h = misnamed_fine d false (further_typed false place (Undefined r) at i t) WrongKind place h
further_fine d false place (ASignal m) at i t s i_if t_if h = misnamed_fine d false (further_typed false place (ASignal m) at i t) WrongKind place h
further_fine d false place (AFunction f) at i t s i_if t_if h = misnamed_fine d false (further_typed false place (AFunction f) at i t) WrongKind place h
further_fine d false place Incomplete at i t s i_if t_if h = misnamed_fine d false (further_typed false place Incomplete at i t) WrongKind place h
further_fine d false place Another at i t s i_if t_if h = misnamed_fine d false (further_typed false place Another at i t) WrongKind place h
further_fine d false place (Barred rule) at i t s i_if t_if h = misnamed_fine d false (further_typed false place (Barred rule) at i t) rule place h
further_fine d false place Unknown at i t s i_if t_if h = misnamed_fine d false (further_typed false place Unknown at i t) UnknownName place h

-- ---- calls of functions

-- the arguments of a call, where no fault was met
pub record AreFine (d : Design) (t : TypedItems) : Type 0 where
  pub good : t.good ≡ true
  pub formed : are_formed d t.items ≡ true

argument_fine : (d : Design) (needed : Bool) (t : Typed) (others : TypedItems) → IsFine d needed t → AreFine d others → AreFine d (and_argument t others)
argument_fine d needed t others f g = record {
  good = both t.good others.good f.good g.good;
  formed = both (is_formed d t.expression) (are_formed d others.items) f.formed g.formed;
}

call_faults : (good : Bool) (f : FunctionMeaning) (t : TypedItems) (fs : List Fault) → (call_if good f t fs).faults ≡ fs
call_faults true f t fs = refl
call_faults false f t fs = refl

-- a known function is called with as many arguments as it has inputs
as_many : (known fits : Bool) → known ≡ true → (known && not fits) ≡ false → fits ≡ true
as_many true true h k = refl
as_many true false h k = cc
as_many false fits h k = cc

call_fits : (d : Design) (f : FunctionMeaning) (t : TypedItems) (fs : List Fault) (good : Bool) → good ≡ true → IsFormedFunction d f → are_as_many t.items f.header.inputs ≡ true → are_formed d t.items ≡ true → IsFine d false (call_if good f t fs)
call_fits d f t fs false e g k a = cc
call_fits d f t fs true e g k a = record {
  good = refl;
  formed = five (is_formed_header d f.header) (is_nil (mixed_in false f.statement)) (is_formed_statement (inside d f.header) f.statement) (are_as_many t.items f.header.inputs) (are_formed d t.items) g.header g.blocking g.statement k a;
  length = refl;
  constant = λ c. no c;
}
  where
    no : false ≡ true → is_constant (Call f.header f.statement t.items) ≡ true
    no c = cc

    five : (a b c d e : Bool) → a ≡ true → b ≡ true → c ≡ true → d ≡ true → e ≡ true → (a && b && c && d && e) ≡ true
    five true true true true true h k l m n = refl
    five true true true true false h k l m n = cc
    five true true true false e h k l m n = cc
    five true true false d e h k l m n = cc
    five true false c d e h k l m n = cc
    five false b c d e h k l m n = cc

-- what it passes are signals of the design
passed_formed : (d : Design) (place : ℕ) (ss : List SignalMeaning) → AreSoundSignals d ss → are_formed d (passed_items place ss) ≡ true
passed_formed d place [] h = refl
passed_formed d place (s ∷ ss) h = both (is_plain d s.signal) (are_formed d (passed_items place ss)) h.0.0 (passed_formed d place ss h.1)

joined_formed : (d : Design) (items others : Items) → are_formed d items ≡ true → are_formed d others ≡ true → are_formed d (joined_items items others) ≡ true
joined_formed d NoItem others h k = k
joined_formed d (Item e es) others h k =
    let g = split (is_formed d e) (are_formed d es) h in
    both (is_formed d e) (are_formed d (joined_items es others)) g.0 (joined_formed d es others g.1 k)

called_fine : (d : Design) (f : FunctionMeaning) (place : ℕ) (t : TypedItems) → IsSoundFunction d false f → (t.faults ≡ [] → AreFine d t) → (called f place t).faults ≡ [] → IsFine d false (called f place t)
called_fine d f place t s fine_if h =
    let whole = with_passed place f.passed t in
    let fits = are_as_many whole.items f.header.inputs in
    let fs = fault_if (f.known && not fits) FunctionRule place ++ t.faults in
    let n = both_nil (fault_if (f.known && not fits) FunctionRule place) t.faults (sym (call_faults (f.known && (fits && t.good)) f whole fs) ∙ h) in
    let k = as_many f.known fits s.0 (no_fault (f.known && not fits) FunctionRule place n.0) in
    let a = fine_if n.1 in
    call_fits d f whole fs (f.known && (fits && t.good)) (both f.known (fits && t.good) s.0 (both fits t.good k a.good)) s.1 k (joined_formed d t.items (passed_items place f.passed) a.formed (passed_formed d place f.passed s.2))

applied_fine : (d : Design) (needed : Bool) (place : ℕ) (m : Meaning) (t : TypedItems) → IsSound d needed m → (t.faults ≡ [] → AreFine d t) → (applied needed place m t).faults ≡ [] → IsFine d needed (applied needed place m t)
applied_fine d true place (AFunction f) t s fine_if h = cc
applied_fine d false place (AFunction f) t s fine_if h = called_fine d f place t s fine_if h
applied_fine d needed place (AValue v r turns) t s fine_if h = cc
applied_fine d needed place (Undefined r) t s fine_if h = cc
applied_fine d needed place (ASignal m) t s fine_if h = cc
applied_fine d needed place (AMemory m) t s fine_if h = cc
applied_fine d needed place Incomplete t s fine_if h = cc
applied_fine d needed place Another t s fine_if h = cc
applied_fine d needed place (Barred rule) t s fine_if h = cc
applied_fine d needed place Unknown t s fine_if h = cc

some_exprs : (es : tree.Exprs) → AreParts es → AreExprs es
some_exprs tree.NoExpr x = absurd x
some_exprs (tree.AndExpr e rest) x = x

-- a literal of the text has 1 to 64 bits, and 32 without a size
literal_formed : (d : Design) (n : tree.Literal) → IsLiteral n → is_formed d (Literal n.bits n.signed n.sized) ≡ true
literal_formed d n x = both (fits_64 (length n.bits)) (n.sized || (length n.bits == 32)) (both (nat_le 1 (length n.bits)) (nat_le (length n.bits) 64) (le-leb 1 (length n.bits) x.some) (le-leb (length n.bits) 64 x.most)) (sized n.sized x.unsized)
  where
    sized : (b : Bool) → (b ≡ false → length n.bits ≡ 32) → (b || (length n.bits == 32)) ≡ true
    sized true k = refl
    sized false k = eq-eqb (length n.bits) 32 (k refl)

-- ---- the whole

module _ (d : Design) where
  mutual
    every_fine : (e : tree.Expr) (find : Find) (needed : Bool) → AreSound d needed find → IsExpr e → (typed e find needed).faults ≡ [] → IsFine d needed (typed e find needed)
    every_fine (tree.Number n) find needed s x h = noted_fine d needed n.place (fine (Literal n.bits n.signed n.sized) []) (λ k. record { good = refl; formed = literal_formed d n x; length = refl; constant = λ m. refl }) h
    every_fine (tree.Named name select) find needed s x h = noted_fine d needed name.place (selected select name find needed) (λ k. selected_fine select name find needed s x.1 k) h
    every_fine (tree.Apply name arguments) find needed s x h =
        let t = typed_arguments arguments find needed in
        noted_fine d needed name.place (applied needed name.place (find name.bytes) t)
        (λ k. applied_fine d needed name.place (find name.bytes) t (s name.bytes) (λ n. arguments_fine arguments find needed s (some_exprs arguments x.1) n) k) h
    every_fine (tree.Unary place op a) find needed s x h = noted_fine d needed place (unary_typed op (typed a find needed)) (λ k. unary_fine d needed op (typed a find needed) (every_fine a find needed s x k)) h
    every_fine (tree.Binary op a b) find needed s x h =
        noted_fine d needed (expr_place a) (binary_typed op (typed a find needed) (typed b find needed))
        (λ k. let n = both_nil (typed a find needed).faults (typed b find needed).faults k in binary_fine d needed op (typed a find needed) (typed b find needed) (every_fine a find needed s x.0 n.0) (every_fine b find needed s x.1 n.1)) h
    every_fine (tree.Choice c p q) find needed s x h =
        noted_fine d needed (expr_place c) (choice_typed (typed c find needed) (typed p find needed) (typed q find needed))
        (λ k.
        let n = both_nil (typed c find needed).faults ((typed p find needed).faults ++ (typed q find needed).faults) k in
        let m = both_nil (typed p find needed).faults (typed q find needed).faults n.1 in
        choice_fine d needed (typed c find needed) (typed p find needed) (typed q find needed) (every_fine c find needed s x.0 n.0) (every_fine p find needed s x.1 m.0) (every_fine q find needed s x.2 m.1)) h
    every_fine (tree.Concatenation place parts) find needed s x h = noted_fine d needed place (copies_typed 1 (typed_parts parts find needed)) (λ k. copies_fine d needed 1 (typed_parts parts find needed) refl (parts_fine parts find needed s x k)) h
    every_fine (tree.Replication place count parts) find needed s x h =
        let n = typed count (steady find) true in
        noted_fine d needed place (replication_typed (expr_place count) n (typed_parts parts find needed))
        (λ k. replication_fine d needed (expr_place count) n (typed_parts parts find needed) (every_fine count (steady find) true (steady_sound d needed find s) x.0) (parts_fine parts find needed s x.1) k) h
    every_fine (tree.Call place function a) find needed s x h =
        noted_fine d needed place (call_typed function (expr_place a) (typed a find (argument_needed function needed)))
        (λ k. call_fine d needed function (expr_place a) (typed a find (argument_needed function needed)) (every_fine a find (argument_needed function needed) (argument_sound d function needed find s) x) k) h
    every_fine (tree.Brackets place e) find needed s x h = noted_fine d needed place (typed e find needed) (every_fine e find needed s x) h

    selected_fine : (select : tree.Select) (name : tree.Name) (find : Find) (needed : Bool) → AreSound d needed find → IsSelect select → (selected select name find needed).faults ≡ [] → IsFine d needed (selected select name find needed)
    selected_fine tree.Whole name find needed s x h = name_fine d needed name.place (find name.bytes) (s name.bytes) h
    selected_fine (tree.BitAt bracket index) name find needed s x h =
        let m = find name.bytes in
        let n = is_array m || needed in
        bit_typed_fine d needed name.place m (expr_place index) (typed index find n) (s name.bytes) (λ k. every_fine index find n (array_sound d (is_array m) needed find s) x k) h
    selected_fine (tree.Slice bracket kind e g) name find needed s x h =
        let b = base_of needed name.place (find name.bytes) in
        let first = typed e (first_names kind find) (first_needed kind needed) in
        let second = typed g (steady find) true in
        let t = slice_taken b.range bracket kind (expr_place e) first (expr_place g) second in
        let k = select_faults b t h in
        let f = base_fine d needed name.place (find name.bytes) (s name.bytes) k.0 in
        select_fine d needed b t f (slice_fine d needed b.range f.r bracket kind (expr_place e) first (expr_place g) second f.range (every_fine e (first_names kind find) (first_needed kind needed) (first_sound d kind needed find s) x.0) (every_fine g (steady find) true (steady_sound d needed find s) x.1) k.1)
    selected_fine (tree.OfWord bracket address part) name find needed s x h =
        let m = find name.bytes in
        let n = is_array m || needed in
        further_fine d needed name.place m (expr_place address) (typed address find n) (taken_by (word_range m) part find needed) (s name.bytes) (λ k. every_fine address find n (array_sound d (is_array m) needed find s) x.0 k)
        (λ r e k. taken_by_fine part find needed (word_range m) r s x.1 x.2 e k) h

    pub taken_by_fine : (part : tree.Select) (find : Find) (needed : Bool) (declared : Option Range) (r : Range) → AreSound d needed find → IsSelect part → is_part part ≡ true → declared ≡ Some r
        → (taken_by declared part find needed).faults ≡ [] → IsFineTaken d needed r (taken_by declared part find needed)
    taken_by_fine (tree.BitAt bracket index) find needed declared r s x p e h =
        let i = typed index find needed in bit_fine d needed declared r i e (every_fine index find needed s x (sym (taken_faults declared true 1 i i.faults) ∙ h))
    taken_by_fine (tree.Slice bracket kind e g) find needed declared r s x p known h =
        let first = typed e (first_names kind find) (first_needed kind needed) in
        let second = typed g (steady find) true in
        slice_fine d needed declared r bracket kind (expr_place e) first (expr_place g) second known (every_fine e (first_names kind find) (first_needed kind needed) (first_sound d kind needed find s) x.0) (every_fine g (steady find) true (steady_sound d needed find s) x.1) h
    taken_by_fine tree.Whole find needed declared r s x p e h = cc
    taken_by_fine (tree.OfWord bracket address part) find needed declared r s x p e h = cc

    parts_fine : (parts : tree.Exprs) (find : Find) (needed : Bool) → AreSound d needed find → AreParts parts → (typed_parts parts find needed).faults ≡ [] → IsFine d needed (typed_parts parts find needed)
    parts_fine tree.NoExpr find needed s x h = absurd x
    parts_fine (tree.AndExpr e tree.NoExpr) find needed s x h = part_fine d needed e (typed e find needed) (every_fine e find needed s x.0) h
    parts_fine (tree.AndExpr e (tree.AndExpr g rest)) find needed s x h =
        let t = part_typed e (typed e find needed) in
        let u = typed_parts (tree.AndExpr g rest) find needed in
        let n = both_nil t.faults u.faults h in
        join_fine d needed t u (part_fine d needed e (typed e find needed) (every_fine e find needed s x.0) n.0) (parts_fine (tree.AndExpr g rest) find needed s x.1 n.1)

    arguments_fine : (es : tree.Exprs) (find : Find) (needed : Bool) → AreSound d needed find → AreExprs es → (typed_arguments es find needed).faults ≡ [] → AreFine d (typed_arguments es find needed)
    arguments_fine tree.NoExpr find needed s x h = record { good = refl; formed = refl }
    arguments_fine (tree.AndExpr e rest) find needed s x h =
        let t = typed e find needed in
        let others = typed_arguments rest find needed in
        let n = both_nil t.faults others.faults h in
        argument_fine d needed t others (every_fine e find needed s x.0 n.0) (arguments_fine rest find needed s x.1 n.1)

pub typed_fine : (d : Design) (find : Find) (e : tree.Expr) (needed : Bool) → AreSound d needed find → IsExpr e → (typed e find needed).faults ≡ [] → IsFine d needed (typed e find needed)
typed_fine d find e needed s x h = every_fine d e find needed s x h
