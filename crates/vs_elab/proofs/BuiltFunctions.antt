-- The functions of a scope are built one after the other (IEEE 1364-2005, 10.4).
use Rattle.std.proofs.Common.{◌≡◌, ◌<◌, ℕ, zero, suc, ◌+◌, List, [], ◌∷◌, ◌++◌, length, get_or, take, drop, map, sym, ap, ◌∙◌, subst, arith, append_assoc}
use Rattle.std.specs.Borrow.{Bor}
use Rattle.std.proofs.lemmas.List.{append-nil}
use Rattle.vs_design.specs.Statements as T
use Rattle.vs_design.specs.Designs.{Design}
use Rattle.vs_grammar.specs.Trees as tree
use Rattle.vs_grammar.specs.Shapes.{Each, IsFunction}
use Rattle.vs_ast.specs.declared.items.Function.{Function}
use Rattle.vs_ast.specs.Views as view
use Rattle.vs_elaborated.specs.Limits.{the_limits}
use Rattle.vs_elaborated.specs.Environments.{Entry, Env, within}
use Rattle.vs_elaborated.specs.Declarations.{Declaration}
use Rattle.vs_elaborated.specs.Functions.{Counts, SaidFunction, SaidFunctions, and_function, next_function, put_function, said_functions}
use Rattle.vs_scope.specs.declared.names.Names.{Names}
use Rattle.vs_scope.specs.Again.{IsPart}
use Rattle.vs_scope.specs.Complete.{complete, completed, function_declaration}
use Rattle.vs_scope.specs.Counts.{counted}
use Rattle.vs_scope.specs.Views.{entries}
use Rattle.vs_build.specs.Drafts.{Draft}
use Rattle.vs_elab.specs.Functions.{AreBuildable, CanBuild, IsIdle, and_functions, function_in, function_of, with_function}
use Rattle.vs_elab.proofs.SaidFunctions.{and_said, none_called, one_called, part_complete, part_completed, said_behind, whole_completed}

-- ---- drafts

pub nothing_more : (s : Draft) → s ≡ and_functions s []
nothing_more s = ap (λ fs. let t : Draft = record s { design = record s.design { functions = fs } } in t) (sym (append-nil s.design.functions))

pub more_more : (s : Draft) (xs ys : List T.Function) → and_functions (and_functions s xs) ys ≡ and_functions s (xs ++ ys)
more_more s xs ys = ap (λ fs. let t : Draft = record s { design = record s.design { functions = fs } } in t) (append_assoc s.design.functions xs ys)

pub still_idle : (s t : Draft) (fs : List T.Function) → t ≡ and_functions s fs → IsIdle s → IsIdle t
still_idle s t fs e h = subst IsIdle (sym e) (record { outside = h.outside; expressions = h.expressions; statements = h.statements })

-- ---- the loop

abbrev pub declarations : List (Bor Function) → List Declaration
declarations fs = map function_declaration fs

-- some are built, and these are left
pub record IsBuilding (outer : Env) (names whole : Names) (old now : Draft) (rest : List (Bor Function)) : Type 0 where
  pub part : IsPart outer names whole (declarations rest)
  pub idle : IsIdle now
  pub fine : AreBuildable now.design whole.scope outer (completed outer names).counts (complete outer names) (declarations rest)
  pub same : and_functions now (said_functions the_limits whole.scope outer (completed outer names).counts (declarations rest) (complete outer names)).functions ≡ and_functions old (completed outer whole).functions

-- what functions say behind these
abbrev says : Names → Env → Counts → List Entry → List Declaration → SaidFunctions
says whole outer counts es ds = said_functions the_limits whole.scope outer counts ds es

module _ (outer : Env) (whole : Names) where
  -- before the first one
  pub building_first : (names : Names) (s : Draft) → IsPart outer names whole (declarations whole.functions.items) → IsIdle s
      → AreBuildable s.design whole.scope outer (counted whole.counts) (take whole.plain (entries whole)) (declarations whole.functions.items) → IsBuilding outer names whole s s whole.functions.items
  building_first names s part idle fine = record {
    part = part;
    idle = idle;
    fine =
        subst (λ (c : Counts). AreBuildable s.design whole.scope outer c (complete outer names) all) (sym counts)
        (subst (λ (es : List Entry). AreBuildable s.design whole.scope outer (counted whole.counts) es all) (sym seen) fine);
    same =
        ap (λ (x : SaidFunctions). and_functions s x.functions)
        (ap (λ (c : Counts). says whole outer c (complete outer names) all) counts ∙ ap (λ (es : List Entry). says whole outer (counted whole.counts) es all) seen ∙ sym (whole_completed outer whole));
  }
    where
      all : List Declaration
      all = declarations whole.functions.items

      nothing : completed outer names ≡ says whole outer (counted whole.counts) (take whole.plain (entries whole)) []
      nothing = part_completed outer names whole all part ∙ ap (says whole outer (counted whole.counts) (take whole.plain (entries whole))) (none_called outer names whole part)

      counts : (completed outer names).counts ≡ counted whole.counts
      counts = ap (λ (x : SaidFunctions). x.counts) nothing

      seen : complete outer names ≡ take whole.plain (entries whole)
      seen = part_complete outer names whole all part ∙ ap (λ (x : SaidFunctions). x.entries) nothing

  -- the next one can be built
  pub can_build : (names : Names) (s now : Draft) (f : Bor Function) (rest : List (Bor Function)) → IsBuilding outer names whole s now (f ∷ rest) → CanBuild now.design names.scope (within outer (complete outer names)) (view.function f.now)
  can_build names s now f rest b = subst (λ (n : ℕ). CanBuild now.design n (within outer (complete outer names)) (view.function f.now)) (sym b.part.scope) b.fine.0

  -- one more
  module _ (names new : Names) (s now next : Draft) (f : Bor Function) (rest : List (Bor Function)) (b : IsBuilding outer names whole s now (f ∷ rest)) (part : IsPart outer new whole (declarations rest)) where
    abbrev g : tree.Function
    g = view.function f.now

    abbrev before : SaidFunctions
    before = completed outer names

    abbrev sees : List Entry
    sees = complete outer names

    abbrev one : List Entry → SaidFunction
    one es = next_function the_limits whole.scope (within outer es) before.counts g

    abbrev put : List Entry → List Entry
    put es = put_function g.name.bytes (one es).meaning es

    seen : sees ≡ before.entries
    seen = part_complete outer names whole (declarations (f ∷ rest)) b.part

    new_completed : completed outer new ≡ and_said before (says whole outer before.counts before.entries (function_declaration f ∷ []))
    new_completed =
        part_completed outer new whole (declarations rest) part
        ∙ ap (says whole outer (counted whole.counts) (take whole.plain (entries whole))) (one_called outer names new whole (function_declaration f) (declarations rest) b.part part)
        ∙ said_behind the_limits whole.scope outer (map function_declaration names.functions.items) (function_declaration f ∷ []) (counted whole.counts) (take whole.plain (entries whole))
        ∙ sym (ap (λ (x : SaidFunctions). and_said x (says whole outer x.counts x.entries (function_declaration f ∷ []))) (part_completed outer names whole (declarations (f ∷ rest)) b.part))

    new_counts : (completed outer new).counts ≡ and_function before.counts (one sees)
    new_counts = ap (λ (x : SaidFunctions). x.counts) new_completed ∙ ap (λ (es : List Entry). and_function before.counts (one es)) (sym seen)

    new_seen : complete outer new ≡ put sees
    new_seen = part_complete outer new whole (declarations rest) part ∙ ap (λ (x : SaidFunctions). x.entries) new_completed ∙ ap put (sym seen)

    built : next ≡ and_functions now (function_in names.scope (within outer sees) g ∷ []) → next ≡ and_functions now (function_of (one sees) ∷ [])
    built e = e ∙ ap (λ (n : ℕ). and_functions now (function_in n (within outer sees) g ∷ [])) b.part.scope ∙ ap (λ (x : T.Function). and_functions now (x ∷ [])) b.fine.1

    pub building_more : next ≡ and_functions now (function_in names.scope (within outer sees) g ∷ []) → IsBuilding outer new whole s next rest
    building_more e = record {
      part = part;
      idle = still_idle now next (function_of (one sees) ∷ []) (built e) b.idle;
      fine =
          subst (λ (d : Design). AreBuildable d whole.scope outer (completed outer new).counts (complete outer new) (declarations rest)) (sym (ap (λ (x : Draft). x.design) (built e)))
          (subst (λ (c : Counts). AreBuildable (with_function now.design (function_of (one sees))) whole.scope outer c (complete outer new) (declarations rest)) (sym new_counts)
          (subst (λ (es : List Entry). AreBuildable (with_function now.design (function_of (one sees))) whole.scope outer (and_function before.counts (one sees)) es (declarations rest)) (sym new_seen) b.fine.2));
      same =
          ap (λ (x : Draft). and_functions x (says whole outer (completed outer new).counts (complete outer new) (declarations rest)).functions) (built e)
          ∙ ap (λ (c : Counts). and_functions (and_functions now (function_of (one sees) ∷ [])) (says whole outer c (complete outer new) (declarations rest)).functions) new_counts
          ∙ ap (λ (es : List Entry). and_functions (and_functions now (function_of (one sees) ∷ [])) (says whole outer (and_function before.counts (one sees)) es (declarations rest)).functions) new_seen
          ∙ more_more now (function_of (one sees) ∷ []) (says whole outer (and_function before.counts (one sees)) (put sees) (declarations rest)).functions
          ∙ b.same;
    }

  -- at the end
  pub all_built : (names : Names) (s now : Draft) → IsBuilding outer names whole s now [] → now ≡ and_functions s (completed outer whole).functions
  all_built names s now b = nothing_more now ∙ b.same

-- ---- one of several

-- the rest begins with it
rest_suc : (fs : List (Bor Function)) (i : ℕ) (f : Bor Function) → i < length fs → f ≡ get_or fs i f → drop i fs ≡ f ∷ drop (suc i) fs
rest_suc [] i f h e = absurd (let no : ⊥ = omega (arith, h) in no)
rest_suc (x ∷ fs) zero f h e = ap (λ y. y ∷ fs) (sym e)
rest_suc (x ∷ fs) (suc i) f h e = rest_suc fs i f (omega (arith, h)) e

pub rest_is : (fs : List (Bor Function)) (i : ℕ) (f : Bor Function) → i < length fs → f ≡ get_or fs i f → drop i fs ≡ f ∷ drop (i + 1) fs
rest_is fs i f h e = rest_suc fs i f h e ∙ ap (λ (n : ℕ). f ∷ drop n fs) (let k : suc i ≡ i + 1 = omega arith in k)

pub shaped_at : (fs : List (Bor Function)) (i : ℕ) (f : Bor Function) → i < length fs → f ≡ get_or fs i f → Each (λ (g : Bor Function). IsFunction (view.function g.now)) fs → IsFunction (view.function f.now)
shaped_at [] i f h e all = absurd (let no : ⊥ = omega (arith, h) in no)
shaped_at (x ∷ fs) zero f h e all = subst (λ (g : Bor Function). IsFunction (view.function g.now)) (sym e) all.0
shaped_at (x ∷ fs) (suc i) f h e all = shaped_at fs i f (omega (arith, h)) e all.1
