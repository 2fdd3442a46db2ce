-- The names of declarations, and those that are repeated, by one declaration more.
use Rattle.std.proofs.Common.{◌≡◌, ℕ, Bool, true, false, not, ◌&&◌, ◌||◌, ◌==◌, List, [], ◌∷◌, ◌++◌, is_some, Option, Some, None, if◌then◌else◌, refl, sym, ap, ◌∙◌, subst, arith, append_assoc}
use Rattle.std.specs.List.{list_any}
use Rattle.vs_design.specs.Clocks.{same_name}
use Rattle.vs_grammar.specs.Trees.{SignalKind, Input, InputWire, Output, OutputWire, OutputReg, Reg, Wire}
use Rattle.vs_const.specs.declared.faults.Fault.{Fault}
use Rattle.vs_const.specs.Faults.{fault_if}
use Rattle.vs_const.specs.declared.rules.Rule.TheVariants.{DuplicateName}
use Rattle.vs_elaborated.specs.Declarations.{Sort, SignalOf, ParameterOf, FunctionOf, GenvarSort, IntegerSort, InstanceSort, Declaration, Named, are_kinds_of_one, has_addresses, are_sorts_of_one, second_of, names_after, names_of, first_named, is_repeated, repeated_names}
use Rattle.vs_scope.specs.Declares.{with_second, is_open, with_named, is_one_too_many}
use Rattle.vs_scope.proofs.Entries.{same_is}
use Rattle.vs_scope.proofs.Steps.{append_none}

eqb_self : (n : ℕ) → (n == n) ≡ true
eqb_self n = grind arith

pub same_self : (a : List ℕ) → same_name a a ≡ true
same_self [] = refl
same_self (x ∷ xs) = ap (λ b. b && same_name xs xs) (eqb_self x) ∙ same_self xs

eqb_swap : (m n : ℕ) → (m == n) ≡ (n == m)
eqb_swap m n = grind arith

pub same_swap : (a b : List ℕ) → same_name a b ≡ same_name b a
same_swap [] [] = refl
same_swap [] (y ∷ ys) = refl
same_swap (x ∷ xs) [] = refl
same_swap (x ∷ xs) (y ∷ ys) = ap (λ t. t && same_name xs ys) (eqb_swap x y) ∙ ap (λ t. (y == x) && t) (same_swap xs ys)

-- ---- second declarations

abbrev or_second : Bool → Declaration → Option Declaration
or_second true a = Some a
or_second false a = None

abbrev or_open : (s : Bool) → Declaration → Option Declaration → Option Declaration
or_open s a (Some b) = Some b
or_open s a None = or_second s a

second_other : (x : Declaration) (xs : List Declaration) (a : Declaration) → same_name x.name.bytes a.name.bytes ≡ false → second_of x (xs ++ a ∷ []) ≡ second_of x xs
second_other x [] a h = ap (λ (t : Bool). if t && are_sorts_of_one x.sort a.sort then Some a else None) h
second_other x (b ∷ bs) a h = ap (λ (r : Option Declaration). if same_name x.name.bytes b.name.bytes && are_sorts_of_one x.sort b.sort then Some b else r) (second_other x bs a h)

second_first : (s : Bool) (a : Declaration) → (if s then Some a else None) ≡ or_second s a
second_first true a = refl
second_first false a = refl

second_to : (x : Declaration) (xs : List Declaration) (a : Declaration) → same_name x.name.bytes a.name.bytes ≡ true
    → second_of x (xs ++ a ∷ []) ≡ or_open (are_sorts_of_one x.sort a.sort) a (second_of x xs)
second_to x [] a h = ap (λ (t : Bool). if t && are_sorts_of_one x.sort a.sort then Some a else None) h ∙ second_first (are_sorts_of_one x.sort a.sort) a
second_to x (b ∷ bs) a h = by (same_name x.name.bytes b.name.bytes && are_sorts_of_one x.sort b.sort) (second_to x bs a h)
  where
    by : (t : Bool) → second_of x (bs ++ a ∷ []) ≡ or_open (are_sorts_of_one x.sort a.sort) a (second_of x bs)
        → (if t then Some b else second_of x (bs ++ a ∷ [])) ≡ or_open (are_sorts_of_one x.sort a.sort) a (if t then Some b else second_of x bs)
    by true rest = refl
    by false rest = rest

abbrev two : Declaration → Option Declaration → Named
two x o = record { first = x; second = o }

opened : (s : Bool) (x a : Declaration) (o : Option Declaration) → two x (or_open s a o) ≡ with_second (not (not s || is_some o)) a (two x o)
opened true x a None = refl
opened true x a (Some b) = refl
opened false x a None = refl
opened false x a (Some b) = refl

-- ---- names

after_step : (x a : Declaration) (xs : List Declaration) (p1 p2 n1 n2 : List Named) (sx sa e : Bool) → same_name x.name.bytes a.name.bytes ≡ e → (e ≡ true → sa ≡ sx)
    → p1 ≡ (if sa then n1 else with_named a n1) → p2 ≡ (if e || sa then n2 else with_named a n2)
    → (if sx then p1 else two x (second_of x (xs ++ a ∷ [])) ∷ p2) ≡ (if sa then (if sx then n1 else two x (second_of x xs) ∷ n2) else with_named a (if sx then n1 else two x (second_of x xs) ∷ n2))
after_step x a xs p1 p2 n1 n2 true true e m k h1 h2 = h1
after_step x a xs p1 p2 n1 n2 true false e m k h1 h2 = h1
after_step x a xs p1 p2 n1 n2 false true true m k h1 h2 = let bad : true ≡ false = k refl in cc
after_step x a xs p1 p2 n1 n2 false false true m k h1 h2 =
    ap (λ (r : List Named). two x (second_of x (xs ++ a ∷ [])) ∷ r) h2
    ∙ ap (λ (n : Named). n ∷ n2) (ap (two x) (second_to x xs a m) ∙ opened (are_sorts_of_one x.sort a.sort) x a (second_of x xs))
    ∙ sym (ap (λ (t : Bool). if t then with_second (is_open (two x (second_of x xs)) a) a (two x (second_of x xs)) ∷ n2 else two x (second_of x xs) ∷ with_named a n2) m)
after_step x a xs p1 p2 n1 n2 false true false m k h1 h2 = ap (λ (r : List Named). two x (second_of x (xs ++ a ∷ [])) ∷ r) h2 ∙ ap (λ (o : Option Declaration). two x o ∷ n2) (second_other x xs a m)
after_step x a xs p1 p2 n1 n2 false false false m k h1 h2 =
    ap (λ (r : List Named). two x (second_of x (xs ++ a ∷ [])) ∷ r) h2 ∙ ap (λ (o : Option Declaration). two x o ∷ with_named a n2) (second_other x xs a m)
    ∙ sym (ap (λ (t : Bool). if t then with_second (is_open (two x (second_of x xs)) a) a (two x (second_of x xs)) ∷ n2 else two x (second_of x xs) ∷ with_named a n2) m)

after_more : (seen : List (List ℕ)) (xs : List Declaration) (a : Declaration)
    → names_after seen (xs ++ a ∷ []) ≡ (if list_any (same_name a.name.bytes) seen then names_after seen xs else with_named a (names_after seen xs))
after_more seen [] a = refl
after_more seen (x ∷ xs) a =
    after_step x a xs (names_after seen (xs ++ a ∷ [])) (names_after (x.name.bytes ∷ seen) (xs ++ a ∷ [])) (names_after seen xs) (names_after (x.name.bytes ∷ seen) xs)
    (list_any (same_name x.name.bytes) seen) (list_any (same_name a.name.bytes) seen) (same_name x.name.bytes a.name.bytes) refl
    (λ h. ap (λ (n : List ℕ). list_any (same_name n) seen) (sym (same_is x.name.bytes a.name.bytes h)))
    (after_more seen xs a)
    (after_more (x.name.bytes ∷ seen) xs a ∙ ap (λ (t : Bool). if t || list_any (same_name a.name.bytes) seen then names_after (x.name.bytes ∷ seen) xs else with_named a (names_after (x.name.bytes ∷ seen) xs)) (same_swap a.name.bytes x.name.bytes))

pub names_of_more : (xs : List Declaration) (a : Declaration) → names_of (xs ++ a ∷ []) ≡ with_named a (names_of xs)
names_of_more xs a = after_more [] xs a

-- ---- repeated names

no_kind_of_itself : (k : SignalKind) → are_kinds_of_one k k ≡ false
no_kind_of_itself Input = refl
no_kind_of_itself InputWire = refl
no_kind_of_itself Output = refl
no_kind_of_itself OutputWire = refl
no_kind_of_itself OutputReg = refl
no_kind_of_itself Reg = refl
no_kind_of_itself Wire = refl

and_false : (b : Bool) → (b && false) ≡ false
and_false true = refl
and_false false = refl

none_of_all : (a b c : Bool) → c ≡ false → (a && (a && (b && (b && c)))) ≡ false
none_of_all true true c h = h
none_of_all true false c h = refl
none_of_all false b c h = refl

no_sort_of_itself : (s : Sort) → are_sorts_of_one s s ≡ false
no_sort_of_itself (SignalOf s) = none_of_all (not s.header) (not (has_addresses s)) (are_kinds_of_one s.kind s.kind) (no_kind_of_itself s.kind)
no_sort_of_itself (ParameterOf p) = refl
no_sort_of_itself (FunctionOf f) = refl
no_sort_of_itself GenvarSort = refl
no_sort_of_itself IntegerSort = refl
no_sort_of_itself InstanceSort = refl

not_itself : (x : Declaration) (xs : List Declaration) → second_of x (x ∷ xs) ≡ second_of x xs
not_itself x xs = ap (λ (t : Bool). if same_name x.name.bytes x.name.bytes && t then Some x else second_of x xs) (no_sort_of_itself x.sort) ∙ ap (λ (t : Bool). if t then Some x else second_of x xs) (and_false (same_name x.name.bytes x.name.bytes))

abbrev one_more : Declaration → List Declaration → Option Declaration → Bool
one_more a before None = false
one_more a before (Some first) = not (are_sorts_of_one first.sort a.sort) || is_some (second_of first before)

named_so : (name : List ℕ) (xs : List Declaration) (f : Declaration) → first_named name xs ≡ Some f → same_name f.name.bytes name ≡ true
named_so name [] f h = cc
named_so name (x ∷ xs) f h = by (same_name x.name.bytes name) refl (named_so name xs f) h
  where
    by : (t : Bool) → same_name x.name.bytes name ≡ t → (first_named name xs ≡ Some f → same_name f.name.bytes name ≡ true) → (if t then Some x else first_named name xs) ≡ Some f → same_name f.name.bytes name ≡ true
    by true e rest h = let same : x ≡ f = cc in subst (λ (y : Declaration). same_name y.name.bytes name ≡ true) same e
    by false e rest h = rest h

-- one of another name before is no matter
skips : (a x : Declaration) (xs : List Declaration) → same_name x.name.bytes a.name.bytes ≡ false → one_more a xs (first_named a.name.bytes xs) ≡ one_more a (x ∷ xs) (first_named a.name.bytes xs)
skips a x xs h = by (first_named a.name.bytes xs) refl
  where
    by : (o : Option Declaration) → first_named a.name.bytes xs ≡ o → one_more a xs o ≡ one_more a (x ∷ xs) o
    by None e = refl
    by (Some f) e =
        let same : f.name.bytes ≡ a.name.bytes = same_is f.name.bytes a.name.bytes (named_so a.name.bytes xs f e) in
        let other : same_name f.name.bytes x.name.bytes ≡ false = ap (λ (n : List ℕ). same_name n x.name.bytes) same ∙ same_swap a.name.bytes x.name.bytes ∙ h in
        ap (λ (r : Option Declaration). not (are_sorts_of_one f.sort a.sort) || is_some r) (sym (ap (λ (t : Bool). if t && are_sorts_of_one f.sort x.sort then Some x else second_of f xs) other))

too_step : (a x : Declaration) (xs : List Declaration) (n1 n2 : List Named) (sx e : Bool) → same_name x.name.bytes a.name.bytes ≡ e → (e ≡ true → sx ≡ false)
    → is_one_too_many n1 a ≡ one_more a xs (first_named a.name.bytes xs) → (e ≡ false → is_one_too_many n2 a ≡ one_more a xs (first_named a.name.bytes xs))
    → is_one_too_many (if sx then n1 else two x (second_of x xs) ∷ n2) a ≡ one_more a (x ∷ xs) (if e then Some x else first_named a.name.bytes xs)
too_step a x xs n1 n2 true true m k h1 h2 = let bad : true ≡ false = k refl in cc
too_step a x xs n1 n2 true false m k h1 h2 = h1 ∙ skips a x xs m
too_step a x xs n1 n2 false true m k h1 h2 =
    ap (λ (t : Bool). if t then not (are_sorts_of_one x.sort a.sort) || is_some (second_of x xs) else is_one_too_many n2 a) m ∙ ap (λ (o : Option Declaration). not (are_sorts_of_one x.sort a.sort) || is_some o) (sym (not_itself x xs))
too_step a x xs n1 n2 false false m k h1 h2 =
    ap (λ (t : Bool). if t then not (are_sorts_of_one x.sort a.sort) || is_some (second_of x xs) else is_one_too_many n2 a) m ∙ h2 refl ∙ skips a x xs m

too_many : (seen : List (List ℕ)) (xs : List Declaration) (a : Declaration) → list_any (same_name a.name.bytes) seen ≡ false
    → is_one_too_many (names_after seen xs) a ≡ one_more a xs (first_named a.name.bytes xs)
too_many seen [] a h = refl
too_many seen (x ∷ xs) a h =
    too_step a x xs (names_after seen xs) (names_after (x.name.bytes ∷ seen) xs) (list_any (same_name x.name.bytes) seen) (same_name x.name.bytes a.name.bytes) refl
    (λ e. ap (λ (n : List ℕ). list_any (same_name n) seen) (same_is x.name.bytes a.name.bytes e) ∙ h)
    (too_many seen xs a h)
    (λ e. too_many (x.name.bytes ∷ seen) xs a (ap (λ (t : Bool). t || list_any (same_name a.name.bytes) seen) (same_swap a.name.bytes x.name.bytes ∙ e) ∙ h))

repeated_is : (xs : List Declaration) (a : Declaration) → is_repeated xs a ≡ is_one_too_many (names_of xs) a
repeated_is xs a = by (first_named a.name.bytes xs) refl ∙ sym (too_many [] xs a refl)
  where
    by : (o : Option Declaration) → first_named a.name.bytes xs ≡ o → is_repeated xs a ≡ one_more a xs (first_named a.name.bytes xs)
    by None e = rw e refl
    by (Some f) e = rw e refl

repeated_from : (before xs : List Declaration) (a : Declaration) → repeated_names before (xs ++ a ∷ []) ≡ repeated_names before xs ++ fault_if (is_repeated (before ++ xs) a) DuplicateName a.name.place
repeated_from before [] a = append_none (fault_if (is_repeated before a) DuplicateName a.name.place) ∙ ap (λ (b : List Declaration). fault_if (is_repeated b a) DuplicateName a.name.place) (sym (append_none before))
repeated_from before (x ∷ xs) a =
    ap (λ (r : List Fault). fault_if (is_repeated before x) DuplicateName x.name.place ++ r)
    (repeated_from (before ++ x ∷ []) xs a ∙ ap (λ (b : List Declaration). repeated_names (before ++ x ∷ []) xs ++ fault_if (is_repeated b a) DuplicateName a.name.place) (append_assoc before (x ∷ []) xs))
    ∙ sym (append_assoc (fault_if (is_repeated before x) DuplicateName x.name.place) (repeated_names (before ++ x ∷ []) xs) (fault_if (is_repeated (before ++ x ∷ xs) a) DuplicateName a.name.place))

pub repeated_more : (xs : List Declaration) (a : Declaration) → repeated_names [] (xs ++ a ∷ []) ≡ repeated_names [] xs ++ fault_if (is_one_too_many (names_of xs) a) DuplicateName a.name.place
repeated_more xs a = repeated_from [] xs a ∙ ap (λ (t : Bool). repeated_names [] xs ++ fault_if t DuplicateName a.name.place) (repeated_is xs a)
