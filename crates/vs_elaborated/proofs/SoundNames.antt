-- Where a scope has no fault, each of its names means a known signal of the design, a value, or nothing that an expression can name.
use Rattle.std.proofs.Common.{◌≡◌, ℕ, zero, suc, ◌*◌, ◌-◌, ◌≤◌, Bool, true, false, ◌&&◌, ◌||◌, List, [], ◌∷◌, ◌++◌, Option, Some, None, is_some, not, length, map, nat_lt, nat_le, if◌then◌else◌, ◌==◌, ◌⊎◌, inl, inr, refl, sym, ap, ◌∙◌, subst, arith, eq-eqb}
use Rattle.std.specs.List.{list_any}
use Rattle.std.proofs.lemmas.Bool.{leb-true, le-leb, ltb-false}
use Rattle.vs_four.specs.declared.Bit4.TheVariants.{X}
use Rattle.vs_four.specs.declared.Range.{Range}
use Rattle.vs_four.specs.Selects.{Part, range_length}
use Rattle.vs_design.specs.Expressions.{Signal, range_or_one, words_length, signal_length, OfSignal as SignalSource, OfConstant, Expression, Literal, Name, Select, Word, WordPart, Unary, Binary, Choice, Join, Repeat, At, Call, UnaryOp, Plus, Minus, BitNot, LogicalNot, ReduceAnd, ReduceNand, ReduceOr, ReduceNor, ReduceXor, ReduceXnor, Signed, Unsigned, unary_length, Way, InContext, Own, Compared, Shifted, Raised, way, binary_length, width, sign}
use Rattle.vs_design.specs.Values.{constant_value}
use Rattle.vs_design.specs.Designs.{Design}
use Rattle.vs_design.specs.Fits.{fits_64}
use Rattle.vs_design.specs.Footprints.{is_memory}
use Rattle.vs_design.specs.Elaborated.{is_signal, is_plain, has_words, is_lawful_range, are_lawful_words, same_range, is_formed, is_formed_select, is_formed_word_part}
use Rattle.vs_design.proofs.Lengths.{length_bits_of, length_value, length_assigned}
use Rattle.vs_design.specs.Clocks.{same_name}
use Rattle.vs_grammar.specs.Trees as tree
use Rattle.vs_grammar.specs.Shapes.{Each, Given, IsExpr, IsRange as IsRangeTree, IsValueType, IsFunction, is_port_kind}
use Rattle.vs_const.specs.declared.faults.Fault.{Fault}
use Rattle.vs_const.specs.Meanings.{ConstantValue, SignalMeaning, Meaning, Unknown, Find, IsFairValue}
use Rattle.vs_const.specs.Typed.{Typed, is_over, natural}
use Rattle.vs_const.specs.Selects.{range_if, range_of, bounds, address_bounds}
use Rattle.vs_const.specs.Expressions.{constant}
use Rattle.vs_const.specs.Sound.{IsSound, AreSound, IsFine}
use Rattle.vs_const.proofs.Short.{short}
use Rattle.vs_const.proofs.Formed.{IsNumber, natural_fine, IsRange, both_nil, both, split, bounds_fine, typed_fine, length_some}
use Rattle.vs_elaborated.specs.Environments.{Declared, Later, OfSignal, OfParameter, OfGenvar, OfInteger, OfFunction, OfScope, Entry, Env, within, up_to, find_entry, find_name, turn_of, is_late, parameter_meaning, turn_meaning, with_words, declared_meaning, entry_meaning, named}
use Rattle.vs_elaborated.specs.Declarations.{SignalSort, has_addresses, ParameterSort, Sort, SignalOf, ParameterOf, FunctionOf, GenvarSort, IntegerSort, InstanceSort, Declaration, Named}
use Rattle.vs_elaborated.specs.Parameters.{SaidRange, of_bounds, said_range, descending, of_addresses, said_addresses, said_type, is_signed, Override, override_of, chosen, converted, declared_if, said_parameter, valued, put_value, first_declared, first_entries, said_parameters}
use Rattle.vs_elaborated.specs.Signals.{Start, said_signal, said_signals, nets_of, after, SaidSignal, put_signal, put_signals, range_faults}
use Rattle.vs_elaborated.specs.Sound.{IsSoundDeclared, AreSoundEntries, AreSoundFrames, IsConstantFine, AreFineOverrides}
use Rattle.vs_elaborated.proofs.Nets.{length_is, no_array, has_all}

-- ---- sound names mean sound things

pub turn_sound : (d : Design) (needed : Bool) (v : Option ℕ) → IsSound d needed (turn_meaning v)
turn_sound d needed None = tt
turn_sound d needed (Some v) = (record { some = omega (arith, length_bits_of 32 v); most = omega (arith, length_bits_of 32 v); range = sym (length_bits_of 32 v) }, refl)

parameter_sound : (d : Design) (needed late : Bool) (v : Option ConstantValue) (r : Option Range) → IsSoundDeclared d needed (OfParameter v r) → IsSound d needed (if late then Unknown else parameter_meaning v r)
parameter_sound d needed true v r s = tt
parameter_sound d needed false (Some v) (Some r) s = s
parameter_sound d needed false (Some v) None s = absurd s
parameter_sound d needed false None r s = absurd s

pub declared_sound : (d : Design) (needed : Bool) (env : Env) (place : ℕ) (declared : Declared) → IsSoundDeclared d needed declared → IsSound d needed (declared_meaning env place declared)
declared_sound d needed env place Later s = tt
declared_sound d needed env place (OfSignal m) s = s.0
declared_sound d needed env place (OfParameter v r) s = parameter_sound d needed (is_late env.before place) v r s
declared_sound d needed env place OfGenvar s = turn_sound d needed (turn_of env.turns place)
declared_sound d needed env place (OfInteger owner) s = tt
declared_sound d needed env place (OfFunction None) s = tt
declared_sound d needed env place (OfFunction (Some f)) s = s
declared_sound d needed env place OfScope s = tt

-- what holds of all that is declared around
abbrev pub AreAll : (Declared → Type 0) → List (List Entry) → Type 0
AreAll R fs = Each (λ (f : List Entry). Each (λ (e : Entry). R e.declared) f) fs

module _ (P : Meaning → Type 0) (env : Env) (R : Declared → Type 0) (unknown : P Unknown) (meets : (place : ℕ) (x : Declared) → R x → P (declared_meaning env place x)) where
  entry_meets : (es : List Entry) (name : List ℕ) → Each (λ (e : Entry). R e.declared) es → P (entry_meaning env (find_entry es name))
  entry_meets [] name s = unknown
  entry_meets (e ∷ es) name s = of (same_name e.name name) (entry_meets es name s.1)
    where
      of : (b : Bool) → P (entry_meaning env (find_entry es name)) → P (entry_meaning env (if b then Some e else find_entry es name))
      of true k = meets e.place e.declared s.0
      of false k = k

  -- what each name means there meets what everything does that is declared
  pub name_meets : (fs : List (List Entry)) (name : List ℕ) → AreAll R fs → P (entry_meaning env (find_name fs name))
  name_meets [] name s = unknown
  name_meets (f ∷ fs) name s = of (find_entry f name) (entry_meets f name s.0) (name_meets fs name s.1)
    where
      of : (o : Option Entry) → P (entry_meaning env o) → P (entry_meaning env (find_name fs name)) → P (entry_meaning env (elim o [ Some e ↦ Some e | None ↦ find_name fs name ]))
      of None k l = l
      of (Some e) k l = k

pub named_sound : (d : Design) (needed : Bool) (env : Env) → AreSoundFrames d needed env.frames → AreSound d needed (named env)
named_sound d needed env s name = name_meets (IsSound d needed) env (IsSoundDeclared d needed) tt (declared_sound d needed env) env.frames name s

-- in a constant nothing is asked of signals
signal_needed : (d : Design) (m : SignalMeaning) (words : Option Range) → IsSound d true (with_words words m)
signal_needed d m None = tt
signal_needed d m (Some r) = tt

declared_needed : (d : Design) (declared : Declared) → IsSoundDeclared d false declared → IsSoundDeclared d true declared
declared_needed d Later s = s
declared_needed d (OfSignal m) s = (signal_needed d m m.signal.words, tt)
declared_needed d (OfParameter (Some v) (Some r)) s = s
declared_needed d (OfParameter (Some v) None) s = s
declared_needed d (OfParameter None r) s = s
declared_needed d OfGenvar s = s
declared_needed d (OfInteger owner) s = s
declared_needed d (OfFunction None) s = s
declared_needed d (OfFunction (Some f)) s = tt
declared_needed d OfScope s = s

pub entries_needed : (d : Design) (es : List Entry) → AreSoundEntries d false es → AreSoundEntries d true es
entries_needed d [] s = tt
entries_needed d (e ∷ es) s = (declared_needed d e.declared s.0, entries_needed d es s.1)

pub frames_needed : (d : Design) (fs : List (List Entry)) → AreSoundFrames d false fs → AreSoundFrames d true fs
frames_needed d [] s = tt
frames_needed d (f ∷ fs) s = (entries_needed d f s.0, frames_needed d fs s.1)

-- ---- a formed expression has a bit, and a needed constant at most 64

fits_some : (n : ℕ) → fits_64 n ≡ true → 1 ≤ n
fits_some n h = leb-true 1 n (split (nat_le 1 n) (nat_le n 64) h).0

range_some : (r : Option Range) → 1 ≤ range_or_one r
range_some None = omega arith
range_some (Some r) = leb-true 1 (range_length r) (length_some r)

unary_some : (op : UnaryOp) (n : ℕ) → 1 ≤ n → 1 ≤ unary_length op n
unary_some Plus n h = h
unary_some Minus n h = h
unary_some BitNot n h = h
unary_some LogicalNot n h = omega arith
unary_some ReduceAnd n h = omega arith
unary_some ReduceNand n h = omega arith
unary_some ReduceOr n h = omega arith
unary_some ReduceNor n h = omega arith
unary_some ReduceXor n h = omega arith
unary_some ReduceXnor n h = omega arith
unary_some Signed n h = h
unary_some Unsigned n h = h

binary_some : (w : Way) (m n : ℕ) → 1 ≤ m → 1 ≤ binary_length w m n
binary_some InContext m n h = omega arith
binary_some Own m n h = omega arith
binary_some Compared m n h = omega arith
binary_some Shifted m n h = h
binary_some Raised m n h = h

times_some : (n m : ℕ) → 1 ≤ n → 1 ≤ m → 1 ≤ n * m
times_some zero m h k = absurd (omega arith)
times_some (suc n) m h k = omega (arith, k)

signal_some : (s : Signal) → 1 ≤ signal_length s
signal_some s = words_some s.words
  where
    words_some : (words : Option Range) → 1 ≤ words_length words (range_or_one s.range)
    words_some None = range_some s.range
    words_some (Some r) = times_some (range_length r) (range_or_one s.range) (leb-true 1 (range_length r) (length_some r)) (range_some s.range)

select_width : (d : Design) (source : _) (part : Part) → is_formed_select d source part ≡ true → fits_64 part.width ≡ true
select_width d (SignalSource s) part h = last (is_plain d s) (same_range s.range (Some part.range)) (fits_64 part.width) h
  where
    last : (a b c : Bool) → (a && b && c) ≡ true → c ≡ true
    last true true c h = h
    last true false c h = cc
    last false b c h = cc
select_width d (OfConstant bits) part h = last (is_lawful_range (Some part.range)) (range_length part.range == length bits) (fits_64 part.width) h
  where
    last : (a b c : Bool) → (a && b && c) ≡ true → c ≡ true
    last true true c h = h
    last true false c h = cc
    last false b c h = cc

word_part_width : (d : Design) (s : Signal) (part : Part) → is_formed_word_part d s part ≡ true → fits_64 part.width ≡ true
word_part_width d s part h = last (has_words d s) (same_range s.range (Some part.range)) (fits_64 part.width) h
  where
    last : (a b c : Bool) → (a && b && c) ≡ true → c ≡ true
    last true true c h = h
    last true false c h = cc
    last false b c h = cc

pub wide : (d : Design) (e : Expression) → is_formed d e ≡ true → 1 ≤ width e
wide d (Literal bits signed sized) h = fits_some (length bits) (split (fits_64 (length bits)) (sized || (length bits == 32)) h).0
wide d (Name s) h = signal_some s
wide d (Select source part index) h = fits_some part.width (select_width d source part (split (is_formed_select d source part) (is_formed d index) h).0)
wide d (Word signal index) h = range_some signal.range
wide d (WordPart signal address part index) h = fits_some part.width (word_part_width d signal part (split (is_formed_word_part d signal part) (is_formed d address) (split (is_formed_word_part d signal part && is_formed d address) (is_formed d index) h).0).0)
wide d (Unary op a) h = unary_some op (width a) (wide d a h)
wide d (Binary op a b) h = binary_some (way op) (width a) (width b) (wide d a (split (is_formed d a) (is_formed d b) h).0)
wide d (Choice c p q) h = let k = wide d p (middle (is_formed d c) (is_formed d p) (is_formed d q) h) in omega (arith, k)
  where
    middle : (a b c : Bool) → (a && b && c) ≡ true → b ≡ true
    middle true true c h = refl
    middle true false c h = cc
    middle false b c h = cc
wide d (Join high low) h = let k = wide d high (split (is_formed d high) (is_formed d low) h).0 in omega (arith, k)
wide d (Repeat count a) h = let k = split (fits_64 count) (is_formed d a) h in times_some count (width a) (fits_some count k.0) (wide d a k.1)
wide d (At place e) h = wide d e h
wide d (Call header statement arguments) h = signal_some header.result

pub constant_fine : (d : Design) (e : tree.Expr) (find : Find) → AreSound d true find → IsExpr e → (constant e find).faults ≡ [] → IsConstantFine d (constant e find)
constant_fine d e find s x h =
    let f = typed_fine d find e true s x h in
    record { is_fine = f; most = at_most (width (constant e find).expression) (ap (is_over 64) (sym f.length) ∙ short e find f.good) }
  where
    at_most : (n : ℕ) → nat_lt 64 n ≡ false → n ≤ 64
    at_most n k = ltb-false 64 n k

-- ---- ranges and parameters

pub record IsFineRange (r : SaidRange) : Type 0 where
  pub known : r.known ≡ true
  pub lawful : is_lawful_range r.range ≡ true

bounds_range : (o : Option Range) (fs : List Fault) → IsRange o → IsFineRange (of_bounds o fs)
bounds_range None fs w = absurd (no w.is)
  where
    no : {r : Range} → None ≡ Some r → ⊥
    no k = cc
bounds_range (Some r) fs w = record { known = refl; lawful = subst (λ o. is_lawful_range o ≡ true) (sym w.is) w.lawful }

bounds_faults : (o : Option Range) (fs : List Fault) → (of_bounds o fs).faults ≡ [] → fs ≡ []
bounds_faults None fs h = h
bounds_faults (Some r) fs h = h

pub range_fine : (d : Design) (o : Option tree.RangeTree) (env : Env) → AreSoundFrames d true env.frames → Given IsRangeTree o → (said_range o env).faults ≡ [] → IsFineRange (said_range o env)
range_fine d None env s x h = record { known = refl; lawful = refl }
range_fine d (Some t) env s x h =
    let b = bounds t.bracket (tree.expr_place t.left) (constant t.left (named env)) (tree.expr_place t.right) (constant t.right (named env)) in
    bounds_range b.range b.faults
    (bounds_fine d t.bracket (tree.expr_place t.left) (tree.expr_place t.right) (constant t.left (named env)) (constant t.right (named env))
    (typed_fine d (named env) t.left true (named_sound d true env s) x.0) (typed_fine d (named env) t.right true (named_sound d true env s) x.1) (bounds_faults b.range b.faults h))

-- a type
pub type_fine : (d : Design) (v : tree.ValueType) (env : Env) → AreSoundFrames d true env.frames → IsValueType v → (said_type v env).faults ≡ [] → IsFineRange (said_type v env)
type_fine d tree.IntegerType env s x h = record { known = refl; lawful = refl }
type_fine d (tree.RangeType signed range) env s x h = range_fine d range env s x h

-- the addresses of a memory
pub record AreFineAddresses (r : SaidRange) : Type 0 where
  pub known : r.known ≡ true
  pub lawful : are_lawful_words r.range ≡ true

-- two bounds that are not too far apart
record AreBounds (o : Option Range) : Type 0 where
  r : Range
  is : o ≡ Some r
  left : r.left ≤ 65535
  right : r.right ≤ 65535
  few : range_length r ≤ 1024

descending_lawful : (r : Range) → r.left ≤ 65535 → r.right ≤ 65535 → range_length r ≤ 1024 → are_lawful_words (Some (descending r)) ≡ true
descending_lawful r h k l =
    let q = descending r in
    let m = length_is r in
    let n = length_is q in
    three (nat_le q.right q.left) (nat_le q.left 65535) (nat_le (range_length q) 1024) (le-leb q.right q.left (omega arith)) (le-leb q.left 65535 (omega (arith, h, k))) (le-leb (range_length q) 1024 (omega (arith, l, m, n)))
  where
    three : (a b c : Bool) → a ≡ true → b ≡ true → c ≡ true → (a && b && c) ≡ true
    three true true true h k l = refl
    three true true false h k l = cc
    three true false c h k l = cc
    three false b c h k l = cc

bounds_are : (bracket m n : ℕ) (few : Bool) → nat_le (range_length (record { left = m; right = n })) 1024 ≡ few → m ≤ 65535 → n ≤ 65535 → (range_if few bracket (record { left = m; right = n })).faults ≡ [] → AreBounds (range_if few bracket (record { left = m; right = n })).range
bounds_are bracket m n true e h k f = record { r = record { left = m; right = n }; is = refl; left = h; right = k; few = leb-true (range_length (record { left = m; right = n })) 1024 e }
bounds_are bracket m n false e h k f = cc

numbers_bound : (bracket : ℕ) (m n : Option ℕ) → IsNumber 0 65535 m → IsNumber 0 65535 n → (range_of 1024 bracket m n).faults ≡ [] → AreBounds (range_of 1024 bracket m n).range
numbers_bound bracket None n g h f = absurd (no g.is)
  where
    no : {m : ℕ} → None ≡ Some m → ⊥
    no e = cc
numbers_bound bracket (Some m) None g h f = absurd (no h.is)
  where
    no : {m : ℕ} → None ≡ Some m → ⊥
    no e = cc
numbers_bound bracket (Some m) (Some n) g h f = bounds_are bracket m n (nat_le (range_length (record { left = m; right = n })) 1024) refl (small m g) (small n h) f
  where
    same : {a b : ℕ} → Some a ≡ Some b → a ≡ b
    same e = cc

    small : (a : ℕ) → IsNumber 0 65535 (Some a) → a ≤ 65535
    small a w = subst (λ b. b ≤ 65535) (sym (same w.is)) (leb-true w.n 65535 (split (nat_le 0 w.n) (nat_le w.n 65535) w.within).1)

address_bounds_are : (d : Design) (bracket p q : ℕ) (t u : Typed) → (t.faults ≡ [] → IsFine d true t) → (u.faults ≡ [] → IsFine d true u) → (address_bounds bracket p t q u).faults ≡ [] → AreBounds (address_bounds bracket p t q u).range
address_bounds_are d bracket p q t u t_if u_if h =
    let m = natural 0 65535 p t in
    let n = natural 0 65535 q u in
    let a = both_nil m.faults (n.faults ++ (range_of 1024 bracket m.number n.number).faults) h in
    let b = both_nil n.faults (range_of 1024 bracket m.number n.number).faults a.1 in
    numbers_bound bracket m.number n.number (natural_fine d true 0 65535 p t t_if a.0) (natural_fine d true 0 65535 q u u_if b.0) b.1

bounds_addresses : (o : Option Range) (fs : List Fault) → AreBounds o → AreFineAddresses (of_addresses o fs)
bounds_addresses None fs w = absurd (no w.is)
  where
    no : {r : Range} → None ≡ Some r → ⊥
    no k = cc
bounds_addresses (Some r) fs w = record { known = refl; lawful = subst (λ (q : Range). are_lawful_words (Some (descending q)) ≡ true) (sym (same w.is)) (descending_lawful w.r w.left w.right w.few) }
  where
    same : {q : Range} → Some r ≡ Some q → r ≡ q
    same k = cc

addresses_faults : (o : Option Range) (fs : List Fault) → (of_addresses o fs).faults ≡ [] → fs ≡ []
addresses_faults None fs h = h
addresses_faults (Some r) fs h = h

pub addresses_fine : (d : Design) (o : Option tree.RangeTree) (env : Env) → AreSoundFrames d true env.frames → Given IsRangeTree o → (said_addresses o env).faults ≡ [] → AreFineAddresses (said_addresses o env)
addresses_fine d None env s x h = record { known = refl; lawful = refl }
addresses_fine d (Some t) env s x h =
    let b = address_bounds t.bracket (tree.expr_place t.left) (constant t.left (named env)) (tree.expr_place t.right) (constant t.right (named env)) in
    bounds_addresses b.range b.faults
    (address_bounds_are d t.bracket (tree.expr_place t.left) (tree.expr_place t.right) (constant t.left (named env)) (constant t.right (named env))
    (typed_fine d (named env) t.left true (named_sound d true env s) x.0) (typed_fine d (named env) t.right true (named_sound d true env s) x.1) (addresses_faults b.range b.faults h))

override_fine : (d : Design) (os : List Override) (name : List ℕ) (t : Typed) → AreFineOverrides d os → override_of os name ≡ Some t → IsConstantFine d t
override_fine d [] name t f h = cc
override_fine d (o ∷ os) name t f h = of (same_name o.name name) h (λ k. override_fine d os name t f.1 k)
  where
    of : (b : Bool) → (if b then Some o.typed else override_of os name) ≡ Some t → (override_of os name ≡ Some t → IsConstantFine d t) → IsConstantFine d t
    of true k g = subst (IsConstantFine d) (same k) f.0
      where
        same : Some o.typed ≡ Some t → o.typed ≡ t
        same i = cc
    of false k g = g k

chosen_fine : (d : Design) (p : ParameterSort) (os : List Override) (name : List ℕ) (t : Typed) → AreFineOverrides d os → IsConstantFine d t → IsConstantFine d (chosen p os name t)
chosen_fine d p os name t f g = of p.is_local (override_of os name) refl
  where
    of : (b : Bool) (o : Option Typed) → override_of os name ≡ o → IsConstantFine d (elim b [ true ↦ t | false ↦ elim o [ None ↦ t | Some u ↦ u ] ])
    of true o e = g
    of false None e = g
    of false (Some u) e = override_fine d os name u f e

converted_sound : (d : Design) (signed : Bool) (r : Option Range) (t : Typed) → is_lawful_range r ≡ true → IsConstantFine d t → IsSoundDeclared d false (converted signed r t)
converted_sound d signed (Some r) t h f = (
  record {
    some = subst (λ n. 1 ≤ n) (sym (length_assigned t.expression (range_length r) (λ b. X))) (leb-true 1 (range_length r) (length_some r));
    most = subst (λ n. n ≤ 64) (sym (length_assigned t.expression (range_length r) (λ b. X))) (leb-true (range_length r) 64 (last (nat_le r.left 65535) (nat_le r.right 65535) (nat_le (range_length r) 64) h));
    range = sym (length_assigned t.expression (range_length r) (λ b. X));
  },
  h,
)
  where
    last : (a b c : Bool) → (a && b && c) ≡ true → c ≡ true
    last true true c h = h
    last true false c h = cc
    last false b c h = cc
converted_sound d signed None t h f = own (width t.expression) (width t.expression - 1) (omega (arith, wide d t.expression f.is_fine.formed)) (length_value t.expression (width t.expression) (sign t.expression) (λ b. X) (omega arith)) f.most
  where
    from_zero : (m : ℕ) → range_length (record { left = m; right = 0 }) ≡ suc m
    from_zero m = by (nat_le 0 m) (le-leb 0 m (omega arith))
      where
        by : (b : Bool) → b ≡ true → (if b then suc (m - 0) else suc (0 - m)) ≡ suc m
        by true e = ap suc (omega arith)
        by false e = cc

    own : (n m : ℕ) → n ≡ suc m → length (constant_value t.expression) ≡ n → n ≤ 64 → IsFairValue (record { bits = constant_value t.expression; signed = signed || sign t.expression }) (record { left = m; right = 0 }) × (is_lawful_range (Some (record { left = m; right = 0 })) ≡ true)
    own n m g e b = (
      record { some = omega (arith, e, g); most = omega (arith, e); range = from_zero m ∙ sym g ∙ sym e },
      three (nat_le m 65535) (nat_le 0 65535) (nat_le (range_length (record { left = m; right = 0 })) 64) (le-leb m 65535 (omega (arith, g))) refl (le-leb (range_length (record { left = m; right = 0 })) 64 (omega (arith, from_zero m, g))),
    )
      where
        three : (a b c : Bool) → a ≡ true → b ≡ true → c ≡ true → (a && b && c) ≡ true
        three true true true h k l = refl
        three true true false h k l = cc
        three true false c h k l = cc
        three false b c h k l = cc

-- a parameter without a fault is sound
parameter_fine : (d : Design) (env : Env) (os : List Override) (name : tree.Name) (p : ParameterSort) → AreSoundFrames d true env.frames → AreFineOverrides d os → IsValueType p.value_type → IsExpr p.value
    → (said_parameter env os name p).faults ≡ [] → IsSoundDeclared d false (said_parameter env os name p).declared
parameter_fine d env os name p s f x y h =
    let r = said_type p.value_type env in
    let signed = is_signed p.value_type in
    let t = constant p.value (named env) in
    let n = both_nil r.faults t.faults h in
    let g = type_fine d p.value_type env s x n.0 in
    let c = chosen_fine d p os name.bytes t f (constant_fine d p.value (named env) (named_sound d true env s) y n.1) in
    if_both r.known (chosen p os name.bytes t).good signed r.range (chosen p os name.bytes t) g.known c.is_fine.good (converted_sound d signed r.range (chosen p os name.bytes t) g.lawful c)
  where
    if_both : (a b : Bool) (signed : Bool) (range : Option Range) (u : Typed) → a ≡ true → b ≡ true → IsSoundDeclared d false (converted signed range u) → IsSoundDeclared d false (declared_if a b signed range u)
    if_both true true signed range u k l q = q
    if_both true false signed range u k l q = cc
    if_both false b signed range u k l q = cc

-- ---- putting what is declared

value_kept : (d : Design) (needed : Bool) (value declared : Declared) → IsSoundDeclared d needed value → IsSoundDeclared d needed declared → IsSoundDeclared d needed (valued value declared)
value_kept d needed value Later k s = k
value_kept d needed value (OfSignal m) k s = s
value_kept d needed value (OfParameter v r) k s = s
value_kept d needed value OfGenvar k s = s
value_kept d needed value (OfInteger owner) k s = s
value_kept d needed value (OfFunction f) k s = s
value_kept d needed value OfScope k s = s

put_sound : (d : Design) (needed : Bool) (name : List ℕ) (value : Declared) (es : List Entry) → IsSoundDeclared d needed value → AreSoundEntries d needed es → AreSoundEntries d needed (put_value name value es)
put_sound d needed name value [] k s = tt
put_sound d needed name value (e ∷ es) k s = (of (same_name e.name name), put_sound d needed name value es k s.1)
  where
    of : (b : Bool) → IsSoundDeclared d needed (if b then record e { declared = valued value e.declared } else e).declared
    of true = value_kept d needed value e.declared k s.0
    of false = s.0

-- only a `reg` and a `wire` have addresses, and none of a header's ports has
pub record IsShapedSignal (s : SignalSort) : Type 0 where
  pub value_type : IsValueType s.value_type
  pub addresses : Given IsRangeTree s.addresses
  pub inner : has_addresses s ≡ true → is_port_kind s.kind ≡ false
  pub body : has_addresses s ≡ true → s.header ≡ false

-- the shape of what is declared
abbrev pub IsShapedSort : Sort → Type 0
IsShapedSort (SignalOf s) = IsShapedSignal s
IsShapedSort (ParameterOf p) = IsValueType p.value_type × IsExpr p.value
IsShapedSort (FunctionOf f) = IsFunction f
IsShapedSort GenvarSort = Unit {0}
IsShapedSort IntegerSort = Unit {0}
IsShapedSort InstanceSort = Unit {0}

abbrev pub AreShapedDeclarations : List Declaration → Type 0
AreShapedDeclarations ds = Each (λ (x : Declaration). IsShapedSort x.sort) ds

first_sound_declared : (d : Design) (scope : ℕ) (k : Sort) → IsSoundDeclared d true (first_declared scope k)
first_sound_declared d scope (SignalOf s) = (tt, tt)
first_sound_declared d scope (ParameterOf p) = tt
first_sound_declared d scope (FunctionOf f) = tt
first_sound_declared d scope GenvarSort = tt
first_sound_declared d scope IntegerSort = tt
first_sound_declared d scope InstanceSort = tt

pub first_entries_sound : (d : Design) (scope : ℕ) (names : List Named) → AreSoundEntries d true (first_entries scope names)
first_entries_sound d scope [] = tt
first_entries_sound d scope (n ∷ ns) = (first_sound_declared d scope n.first.sort, first_entries_sound d scope ns)

-- each entry is sound, or one of these signals has its name
abbrev pub IsSettled : Design → List SaidSignal → Entry → Type 0
IsSettled d ss e = IsSoundDeclared d false e.declared ⊎ (list_any (λ (s : SaidSignal). same_name e.name s.meaning.signal.name) ss ≡ true)

put_settled : (d : Design) (ss : List SaidSignal) (name : List ℕ) (value : Declared) (es : List Entry) → IsSoundDeclared d false value → Each (IsSettled d ss) es → Each (IsSettled d ss) (put_value name value es)
put_settled d ss name value [] k s = tt
put_settled d ss name value (e ∷ es) k s = (of (same_name e.name name) s.0, put_settled d ss name value es k s.1)
  where
    of : (b : Bool) → IsSettled d ss e → IsSettled d ss (if b then record e { declared = valued value e.declared } else e)
    of true (inl a) = inl (value_kept d false value e.declared k a)
    of true (inr a) = inr a
    of false a = a

pub record AreGoodEntries (d : Design) (ss : List SaidSignal) (es : List Entry) : Type 0 where
  pub sound : AreSoundEntries d true es
  pub settled : Each (IsSettled d ss) es

-- the parameters in text order
parameter_good : (d : Design) (outer : Env) (os : List Override) (ss : List SaidSignal) (ds : List Declaration) (es : List Entry) → AreSoundFrames d true outer.frames → AreFineOverrides d os → AreGoodEntries d ss es
    → ((fs : List Entry) → AreGoodEntries d ss fs → (said_parameters outer os ds fs).faults ≡ [] → AreGoodEntries d ss (said_parameters outer os ds fs).entries)
    → (n : tree.Name) (k : Sort) → IsShapedSort k → (said_parameters outer os (record { name = n; sort = k } ∷ ds) es).faults ≡ [] → AreGoodEntries d ss (said_parameters outer os (record { name = n; sort = k } ∷ ds) es).entries
parameter_good d outer os ss ds es s f g next n (SignalOf q) x h = next es g h
parameter_good d outer os ss ds es s f g next n (FunctionOf q) x h = next es g h
parameter_good d outer os ss ds es s f g next n GenvarSort x h = next es g h
parameter_good d outer os ss ds es s f g next n IntegerSort x h = next es g h
parameter_good d outer os ss ds es s f g next n InstanceSort x h = next es g h
parameter_good d outer os ss ds es s f g next n (ParameterOf p) x h =
    let env = up_to (within outer es) n.place in
    let v = said_parameter env os n p in
    let fs = put_value n.bytes v.declared es in
    let k = both_nil v.faults (said_parameters outer os ds fs).faults h in
    let c = parameter_fine d env os n p (g.sound, s) f x.0 x.1 k.0 in
    next fs (record { sound = put_sound d true n.bytes v.declared es (declared_needed d v.declared c) g.sound; settled = put_settled d ss n.bytes v.declared es c g.settled }) k.1

pub parameters_good : (d : Design) (outer : Env) (os : List Override) (ss : List SaidSignal) → AreSoundFrames d true outer.frames → AreFineOverrides d os → (ds : List Declaration) (es : List Entry) → AreShapedDeclarations ds → AreGoodEntries d ss es
    → (said_parameters outer os ds es).faults ≡ [] → AreGoodEntries d ss (said_parameters outer os ds es).entries
parameters_good d outer os ss s f [] es x g h = g
parameters_good d outer os ss s f (a ∷ ds) es x g h = parameter_good d outer os ss ds es s f g (λ fs k l. parameters_good d outer os ss s f ds fs x.1 k l) a.name a.sort x.0 h

-- ---- signals

pub same_itself : (xs : List ℕ) → same_name xs xs ≡ true
same_itself [] = refl
same_itself (x ∷ xs) = both (x == x) (same_name xs xs) (eq-eqb x x refl) (same_itself xs)

-- at first, each entry of a signal has the name of one that is said
pub there : (d : Design) (scope : ℕ) (env : Env) (names : List Named) (start : Start) → Each (IsSettled d (said_signals env start names)) (first_entries scope names)
there d scope env [] start = tt
there d scope env (n ∷ ns) start = of n.first.name n.first.sort n.second (there d scope env ns)
  where
    of : (w : tree.Name) (k : Sort) (second : Option Declaration) → ((next : Start) → Each (IsSettled d (said_signals env next ns)) (first_entries scope ns))
        → Each (IsSettled d (said_signals env start (record { first = record { name = w; sort = k }; second = second } ∷ ns))) (first_entries scope (record { first = record { name = w; sort = k }; second = second } ∷ ns))
    of w (SignalOf s) second rest =
        let m : Named = record { first = record { name = w; sort = SignalOf s }; second = second } in
        let one = said_signal env start m s in
        (inr (here w.bytes (list_any (λ (s : SaidSignal). same_name w.bytes s.meaning.signal.name) (said_signals env (after start one.meaning) ns))), more (after start one.meaning) one (first_entries scope ns) (rest (after start one.meaning)))
      where
        here : (p : List ℕ) (b : Bool) → (same_name p p || b) ≡ true
        here p b = rw_here (same_name p p) b (same_itself p)
          where
            rw_here : (a b : Bool) → a ≡ true → (a || b) ≡ true
            rw_here true b k = refl
            rw_here false b k = cc

        more : (next : Start) (one : SaidSignal) (es : List Entry) → Each (IsSettled d (said_signals env next ns)) es → Each (IsSettled d (one ∷ said_signals env next ns)) es
        more next one [] k = tt
        more next one (e ∷ es) k = (wider k.0, more next one es k.1)
          where
            wider : IsSettled d (said_signals env next ns) e → IsSettled d (one ∷ said_signals env next ns) e
            wider (inl a) = inl a
            wider (inr a) = inr (either (same_name e.name one.meaning.signal.name) (list_any (λ (s : SaidSignal). same_name e.name s.meaning.signal.name) (said_signals env next ns)) a)
              where
                either : (a b : Bool) → b ≡ true → (a || b) ≡ true
                either true b k = refl
                either false b k = k
    of w (ParameterOf p) second rest = (inl tt, rest start)
    of w (FunctionOf f) second rest = (inl tt, rest start)
    of w GenvarSort second rest = (inl tt, rest start)
    of w IntegerSort second rest = (inl tt, rest start)
    of w InstanceSort second rest = (inl tt, rest start)

-- a signal that is said is sound where its scope declares it
abbrev pub IsSoundSaid : Design → SaidSignal → Type 0
IsSoundSaid d s = IsSoundDeclared d false (OfSignal s.meaning)

-- once all signals are put, each entry is sound
pub all_settled : (d : Design) (ss : List SaidSignal) (es : List Entry) → Each (IsSoundSaid d) ss → Each (IsSettled d ss) es → AreSoundEntries d false (put_signals ss es)
all_settled d [] [] k g = tt
all_settled d [] (e ∷ es) k g = (of g.0, all_settled d [] es k g.1)
  where
    of : IsSettled d [] e → IsSoundDeclared d false e.declared
    of (inl a) = a
    of (inr a) = absurd (no a)
      where
        no : false ≡ true → ⊥
        no i = cc
all_settled d (s ∷ ss) es k g = all_settled d ss (put_signal s.meaning es) k.1 (put es g)
  where
    put : (es : List Entry) → Each (IsSettled d (s ∷ ss)) es → Each (IsSettled d ss) (put_signal s.meaning es)
    put [] g = tt
    put (e ∷ es) g = (of (same_name e.name s.meaning.signal.name) refl g.0, put es g.1)
      where
        of : (b : Bool) → same_name e.name s.meaning.signal.name ≡ b → IsSettled d (s ∷ ss) e → IsSettled d ss (if b then record e { declared = OfSignal s.meaning } else e)
        of true i q = inl k.0
        of false i (inl a) = inl a
        of false i (inr a) = inr (rest (same_name e.name s.meaning.signal.name) (list_any (λ (t : SaidSignal). same_name e.name t.meaning.signal.name) ss) i a)
          where
            rest : (a b : Bool) → a ≡ false → (a || b) ≡ true → b ≡ true
            rest false b i k = k
            rest true b i k = cc

-- the signals of a scope whose ranges have no fault
signal_sound : (d : Design) (m : SignalMeaning) (words : Option Range) → m.signal.words ≡ words → Each (λ x. is_signal d x ≡ true) (nets_of m.signal) → m.known ≡ true → (m.signal.input ≡ true → m.input ≡ true) → is_lawful_range m.signal.range ≡ true → IsSound d false (with_words words m)
signal_sound d m None e h k i l = (both (is_signal d m.signal) (not (is_memory m.signal)) (no_array (λ x. is_signal d x ≡ true) m.signal (ap (λ (w : Option Range). m.signal.net && is_some w) e ∙ and_false m.signal.net) h) (ap (λ (w : Option Range). not (is_some w)) e), k, i, l)
  where
    and_false : (b : Bool) → (b && false) ≡ false
    and_false true = refl
    and_false false = refl
signal_sound d m (Some r) e h k i l = (has_all d m.signal r e h, k, i)

pub signals_sound : (d : Design) (env : Env) → AreSoundFrames d true env.frames → (names : List Named) (start : Start) → Each (λ (s : SaidSignal). Each (λ x. is_signal d x ≡ true) (nets_of s.meaning.signal)) (said_signals env start names)
    → Each (λ (n : Named). IsShapedSort n.first.sort) names → range_faults env (map (λ (n : Named). n.first) names) ≡ [] → Each (IsSoundSaid d) (said_signals env start names)
signals_sound d env s [] start h x k = tt
signals_sound d env s (n ∷ ns) start h x k = of n.first.name n.first.sort n.second h x.0 k (λ next g l. signals_sound d env s ns next g x.1 l)
  where
    of : (w : tree.Name) (q : Sort) (second : Option Declaration) → Each (λ (s : SaidSignal). Each (λ x. is_signal d x ≡ true) (nets_of s.meaning.signal)) (said_signals env start (record { first = record { name = w; sort = q }; second = second } ∷ ns)) → IsShapedSort q
        → range_faults env (record { name = w; sort = q } ∷ map (λ (n : Named). n.first) ns) ≡ []
        → ((next : Start) → Each (λ (s : SaidSignal). Each (λ x. is_signal d x ≡ true) (nets_of s.meaning.signal)) (said_signals env next ns) → range_faults env (map (λ (n : Named). n.first) ns) ≡ [] → Each (IsSoundSaid d) (said_signals env next ns))
        → Each (IsSoundSaid d) (said_signals env start (record { first = record { name = w; sort = q }; second = second } ∷ ns))
    of w (SignalOf t) second h x k rest =
        let m : Named = record { first = record { name = w; sort = SignalOf t }; second = second } in
        let f = both_nil ((said_type t.value_type env).faults ++ (said_addresses t.addresses env).faults) (range_faults env (map (λ (n : Named). n.first) ns)) k in
        let g = both_nil (said_type t.value_type env).faults (said_addresses t.addresses env).faults f.0 in
        let one = (said_signal env start m t).meaning in
        let known = both (said_type t.value_type env).known (said_addresses t.addresses env).known (type_fine d t.value_type env s x.value_type g.0).known (addresses_fine d t.addresses env s x.addresses g.1).known in
        ((signal_sound d one one.signal.words refl h.0 known (λ i. (split one.input start.top i).0) (type_fine d t.value_type env s x.value_type g.0).lawful, refl), rest (after start one) h.1 f.1)
    of w (ParameterOf p) second h x k rest = rest start h k
    of w (FunctionOf f) second h x k rest = rest start h k
    of w GenvarSort second h x k rest = rest start h k
    of w IntegerSort second h x k rest = rest start h k
    of w InstanceSort second h x k rest = rest start h k
