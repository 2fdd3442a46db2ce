-- What functions say, one after the other, and which are complete then (IEEE 1364-2005, 10.4).
use Rattle.std.proofs.Common.{◌≡◌, ℕ, ◌+◌, List, [], ◌∷◌, ◌++◌, length, length-append, map, take, drop, refl, sym, ap, ◌∙◌, arith, append_assoc}
use Rattle.std.proofs.lemmas.List.{append-nil}
use Rattle.vs_design.specs.Statements.{Function}
use Rattle.vs_const.specs.declared.faults.Fault.{Fault}
use Rattle.vs_elaborated.specs.Limits.{Limits, the_limits}
use Rattle.vs_elaborated.specs.Environments.{Entry, Env, within}
use Rattle.vs_elaborated.specs.Declarations.{Sort, SignalOf, ParameterOf, FunctionOf, GenvarSort, IntegerSort, InstanceSort, Declaration}
use Rattle.vs_elaborated.specs.Functions.{Counts, SaidFunctions, and_function, next_function, put_function, said_functions}
use Rattle.vs_scope.specs.declared.names.Names.{Names}
use Rattle.vs_scope.specs.Complete.{complete, completed, function_declaration}
use Rattle.vs_scope.specs.Counts.{counted}
use Rattle.vs_scope.specs.Functions.{functions_in}
use Rattle.vs_scope.specs.Views.{entries}
use Rattle.vs_scope.specs.Again.{IsPart}

-- one after others
abbrev pub and_said : SaidFunctions → SaidFunctions → SaidFunctions
and_said a b = record { entries = b.entries; functions = a.functions ++ b.functions; faults = a.faults ++ b.faults; counts = b.counts }

module _ (limits : Limits) (scope : ℕ) (outer : Env) where
  abbrev says : Counts → List Declaration → List Entry → SaidFunctions
  says counts ds es = said_functions limits scope outer counts ds es

  abbrev behind : SaidFunctions → List Declaration → SaidFunctions
  behind a ds = says a.counts ds a.entries

  pub said_behind : (ds more : List Declaration) (counts : Counts) (es : List Entry) → says counts (ds ++ more) es ≡ and_said (says counts ds es) (behind (says counts ds es) more)
  said_behind [] more counts es = refl
  said_behind (d ∷ ds) more counts es = of d.sort (λ c e. said_behind ds more c e)
    where
      of : (sort : Sort) → ((c : Counts) (e : List Entry) → says c (ds ++ more) e ≡ and_said (says c ds e) (behind (says c ds e) more))
          → says counts (record { name = d.name; sort = sort } ∷ (ds ++ more)) es ≡ and_said (says counts (record { name = d.name; sort = sort } ∷ ds) es) (behind (says counts (record { name = d.name; sort = sort } ∷ ds) es) more)
      of (FunctionOf f) k =
          let s = next_function limits scope (within outer es) counts f in
          let c = and_function counts s in
          let e = put_function d.name.bytes s.meaning es in
          let r = says c ds e in
          let whole : SaidFunctions → SaidFunctions =
          λ x. record { entries = x.entries; functions = record { header = s.meaning.header; statement = s.meaning.statement } ∷ x.functions; faults = s.faults ++ x.faults; counts = x.counts } in
          ap whole (k c e) ∙ ap (λ (fs : List Fault). let x : SaidFunctions = record { entries = (behind r more).entries; functions = record { header = s.meaning.header; statement = s.meaning.statement } ∷ (r.functions ++ (behind r more).functions); faults = fs; counts = (behind r more).counts } in x)
          (sym (append_assoc s.faults r.faults (behind r more).faults))
      of (SignalOf s) k = k counts es
      of (ParameterOf p) k = k counts es
      of GenvarSort k = k counts es
      of IntegerSort k = k counts es
      of InstanceSort k = k counts es

  -- what is no function says nothing
  pub functions_alone : (ds : List Declaration) (counts : Counts) (es : List Entry) → says counts (functions_in ds) es ≡ says counts ds es
  functions_alone [] counts es = refl
  functions_alone (d ∷ ds) counts es = of d.sort (λ c e. functions_alone ds c e)
    where
      of : (sort : Sort) → ((c : Counts) (e : List Entry) → says c (functions_in ds) e ≡ says c ds e)
          → says counts (functions_in (record { name = d.name; sort = sort } ∷ ds)) es ≡ says counts (record { name = d.name; sort = sort } ∷ ds) es
      of (FunctionOf f) k =
          let s = next_function limits scope (within outer es) counts f in
          ap (λ (x : SaidFunctions). let y : SaidFunctions = record { entries = x.entries; functions = record { header = s.meaning.header; statement = s.meaning.statement } ∷ x.functions; faults = s.faults ++ x.faults; counts = x.counts } in y)
          (k (and_function counts s) (put_function d.name.bytes s.meaning es))
      of (SignalOf s) k = k counts es
      of (ParameterOf p) k = k counts es
      of GenvarSort k = k counts es
      of IntegerSort k = k counts es
      of InstanceSort k = k counts es

-- ---- the functions that are complete

completed_is : (outer : Env) (names : Names) → completed outer names ≡ said_functions the_limits names.scope outer (counted names.counts) (map function_declaration names.functions.items) (take names.plain (entries names))
unfolding completed
completed_is outer names = refl

complete_is : (outer : Env) (names : Names) → complete outer names ≡ (completed outer names).entries ++ drop names.plain (entries names)
unfolding complete
complete_is outer names = refl

take_whole : {A : Type 0} (xs : List A) → take (length xs) xs ≡ xs
take_whole [] = refl
take_whole (x ∷ xs) = ap (λ r. x ∷ r) (take_whole xs)

none_behind : {A : Type 0} (xs : List A) → drop (length xs) xs ≡ []
none_behind [] = refl
none_behind (x ∷ xs) = none_behind xs

module _ (outer : Env) (names whole : Names) where
  abbrev first : List Entry
  first = take whole.plain (entries whole)

  abbrev called : List Declaration → SaidFunctions
  called ds = said_functions the_limits whole.scope outer (counted whole.counts) ds first

  module _ (rest : List Declaration) (part : IsPart outer names whole rest) where
    pub part_completed : completed outer names ≡ called (map function_declaration names.functions.items)
    part_completed =
        completed_is outer names
        ∙ ap (λ (n : ℕ). said_functions the_limits n outer (counted names.counts) (map function_declaration names.functions.items) (take names.plain (entries names))) part.scope
        ∙ ap (λ c. said_functions the_limits whole.scope outer (counted c) (map function_declaration names.functions.items) (take names.plain (entries names))) part.counts
        ∙ ap (called_with (map function_declaration names.functions.items)) (ap (λ (n : ℕ). take n (entries names)) part.plain ∙ take_whole (entries names) ∙ part.names_are)
      where
        called_with : List Declaration → List Entry → SaidFunctions
        called_with ds es = said_functions the_limits whole.scope outer (counted whole.counts) ds es

    pub part_complete : complete outer names ≡ (completed outer names).entries
    part_complete =
        complete_is outer names
        ∙ ap (λ (es : List Entry). (completed outer names).entries ++ es) (ap (λ (n : ℕ). drop n (entries names)) part.plain ∙ none_behind (entries names))
        ∙ append-nil (completed outer names).entries

-- all of them
pub whole_completed : (outer : Env) (whole : Names) → completed outer whole ≡ said_functions the_limits whole.scope outer (counted whole.counts) (map function_declaration whole.functions.items) (take whole.plain (entries whole))
whole_completed outer whole = completed_is outer whole

pub whole_complete : (outer : Env) (whole : Names) → complete outer whole ≡ (completed outer whole).entries ++ drop whole.plain (entries whole)
whole_complete outer whole = complete_is outer whole

-- ---- lists of declarations

-- what comes before the same rest is the same
pub front_same : (xs ys zs : List Declaration) → xs ++ zs ≡ ys ++ zs → xs ≡ ys
front_same [] [] zs h = refl
front_same [] (y ∷ ys) zs h = absurd (let a = ap (λ (ds : List Declaration). length ds) h in let b = length-append ys zs in let no : ⊥ = omega (arith, a, b) in no)
front_same (x ∷ xs) [] zs h = absurd (let a = ap (λ (ds : List Declaration). length ds) h in let b = length-append xs zs in let no : ⊥ = omega (arith, a, b) in no)
front_same (x ∷ xs) (y ∷ ys) zs h = let p = heads h in ap (λ d. d ∷ xs) p.0 ∙ ap (λ ds. y ∷ ds) (front_same xs ys zs p.1)
  where
    heads : (let a : List Declaration = x ∷ (xs ++ zs) in a) ≡ y ∷ (ys ++ zs) → (x ≡ y) × (xs ++ zs ≡ ys ++ zs)
    heads k = (cc, cc)

-- one function more is complete
pub one_called : (outer : Env) (old new whole : Names) (x : Declaration) (rest : List Declaration) → IsPart outer old whole (x ∷ rest) → IsPart outer new whole rest
    → map function_declaration new.functions.items ≡ map function_declaration old.functions.items ++ x ∷ []
one_called outer old new whole x rest a b =
    front_same (map function_declaration new.functions.items) (map function_declaration old.functions.items ++ x ∷ []) rest
    (sym b.functions ∙ a.functions ∙ sym (append_assoc (map function_declaration old.functions.items) (x ∷ []) rest))

-- none is complete yet
pub none_called : (outer : Env) (names whole : Names) → IsPart outer names whole (map function_declaration whole.functions.items) → map function_declaration names.functions.items ≡ []
none_called outer names whole part = sym (front_same [] (map function_declaration names.functions.items) (map function_declaration whole.functions.items) part.functions)

-- at the end all are
pub all_called : (outer : Env) (names whole : Names) → IsPart outer names whole [] → map function_declaration names.functions.items ≡ map function_declaration whole.functions.items
all_called outer names whole part = sym (part.functions ∙ append-nil (map function_declaration names.functions.items))
