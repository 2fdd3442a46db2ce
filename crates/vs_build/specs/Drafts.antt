-- A design that is being built: what it is so far, and the expressions and statements that nothing in it names yet, in the order in which they were built.
use Rattle.std.specs.Prelude.{◌≡◌, ◌≤◌, ◌+◌, ℕ, Bool, true, false, ◌&&◌, List, [], ◌∷◌, ◌++◌, map, length, max, nat_lt, is_some, Option, None, Some}
use Rattle.std.specs.List.{list_all}
use Rattle.vs_design.specs.Expressions.{Signal, Header, Expression, items_of}
use Rattle.vs_design.specs.Statements.{Target, Whole, PartOf, WordOf, WordPartOf, Both, Statement, Arms, Arm, Default}
use Rattle.vs_design.specs.Designs.{Scope, Process, Design}
use Rattle.vs_design.specs.Elaborated.{inside, is_nil, is_formed_select}
use Rattle.vs_design.specs.Rules.{mixed_in}
use Rattle.vs_design.specs.Footprints.{is_variable}
use Rattle.vs_four.specs.Selects.{Part}
use Rattle.vs_flat.specs.declared.processes.Port.{Port}
use Rattle.vs_flat.specs.Targets.{source_of, target_of}
use Rattle.vs_flat.specs.Trees.{target_tree}
use Rattle.vs_flat.specs.Lawful.{is_target}

-- an expression, and on how many levels it stands: the longest chain of expressions, each within the one before it
pub record Root : Type 0 where
  pub tree : Expression
  pub levels : ℕ

-- a statement, and on how many levels it stands
pub record Body : Type 0 where
  pub statement : Statement
  pub levels : ℕ

pub record Draft : Type 0 where
  pub design : Design
  -- the header of the function whose statement is being built, if one is (10.4)
  pub function : Option Header
  pub expressions : List Root
  pub statements : List Body

-- nothing was built
abbrev pub no_design : Design
no_design = record { scopes = []; signals = []; processes = []; initials = []; functions = [] }

abbrev pub no_draft : Draft
no_draft = record { design = no_design; function = None; expressions = []; statements = [] }

-- what names mean in a function: its local signals alone, and the functions of the design
abbrev pub home_in : Design → Option Header → Design
home_in d None = d
home_in d (Some h) = record (inside d h) { functions = d.functions }

-- where the next expression stands
abbrev pub home : Draft → Design
home s = home_in s.design s.function

-- ---- with one more of a kind

abbrev pub and_scope : Draft → Scope → Draft
and_scope s x = record s { design = record s.design { scopes = s.design.scopes ++ x ∷ [] } }

abbrev pub and_signal : Draft → Signal → Draft
and_signal s x = record s { design = record s.design { signals = s.design.signals ++ x ∷ [] } }

abbrev pub and_process : Draft → Process → Draft
and_process s x = record s { design = record s.design { processes = s.design.processes ++ x ∷ [] } }

-- an initial process that begins at this place, behind the processes so far
abbrev pub and_initial : Draft → (place : ℕ) → Statement → Draft
and_initial s place statement = record s { design = record s.design { initials = s.design.initials ++ record { place = place; behind = length s.design.processes; statement = statement } ∷ [] } }

-- a function's statement is to be built, and it was
abbrev pub in_function : Draft → Header → Draft
in_function s h = record s { function = Some h }

abbrev pub and_function : Draft → Header → Statement → Draft
and_function s h t = record s { design = record s.design { functions = s.design.functions ++ record { header = h; statement = t } ∷ [] }; function = None }

abbrev pub and_root : Draft → Root → Draft
and_root s x = record s { expressions = s.expressions ++ x ∷ [] }

abbrev pub and_roots : Draft → List Root → Draft
and_roots s xs = record s { expressions = s.expressions ++ xs }

abbrev pub and_body : Draft → Body → Draft
and_body s x = record s { statements = s.statements ++ x ∷ [] }

abbrev pub and_bodies : Draft → List Body → Draft
and_bodies s xs = record s { statements = s.statements ++ xs }

-- ---- levels

-- the most levels of several
abbrev pub most_levels : List Root → ℕ
most_levels [] = 0
most_levels (r ∷ rs) = max r.levels (most_levels rs)

abbrev pub most_body_levels : List Body → ℕ
most_body_levels [] = 0
most_body_levels (b ∷ bs) = max b.levels (most_body_levels bs)

-- the last so many expressions are on so few levels that each may be part of one more
pub record EndsWith (count : ℕ) (s : Draft) : Type 0 where
  pub before : Draft
  pub last : List Root
  pub is : s ≡ and_roots before last
  pub many : length last ≡ count
  pub few : most_levels last ≤ 254

-- the last ones are an index and a signal's name or a parameter's value, of which these bits may be selected (5.2.1)
pub record EndsInSelect (part : Part) (s : Draft) : Type 0 where
  pub before : Draft
  pub index : Root
  pub of : Root
  pub is : s ≡ and_roots before (index ∷ of ∷ [])
  pub few : most_levels (index ∷ of ∷ []) ≤ 254
  pub formed : is_formed_select (home s) (source_of of.tree) part ≡ true

-- the last ones are what an assign of this kind writes, and its expression
pub record EndsInAssign (port : Port) (s : Draft) : Type 0 where
  pub before : Draft
  pub target : Root
  pub value : Root
  pub is : s ≡ and_roots before (target ∷ value ∷ [])
  pub written : is_target port target.tree ≡ true

-- nothing is there but the statement of the function that is being built, which has no delayed assignment (10.4.4)
pub record EndsFunction (s : Draft) : Type 0 where
  pub header : Header
  pub body : Body
  pub within : s.function ≡ Some header
  pub expressions : s.expressions ≡ []
  pub statements : s.statements ≡ body ∷ []
  pub blocking : is_nil (mixed_in false body.statement) ≡ true

-- ---- what a step does

-- one more expression, on at most so many levels
pub record AddsExpression (old new : Draft) (tree : Expression) (most : ℕ) : Type 0 where
  pub levels : ℕ
  pub few : levels ≤ most
  pub is : new ≡ and_root old (record { tree = tree; levels = levels })

-- these expressions more, in this order
pub record AddsParts (old new : Draft) (trees : List Expression) (most : ℕ) : Type 0 where
  pub roots : List Root
  pub are : map (λ (r : Root). r.tree) roots ≡ trees
  pub few : most_levels roots ≤ most
  pub is : new ≡ and_roots old roots

pub record AddsStatement (old new : Draft) (statement : Statement) (most : ℕ) : Type 0 where
  pub levels : ℕ
  pub few : levels ≤ most
  pub is : new ≡ and_body old (record { statement = statement; levels = levels })

-- these expressions and statements more, in this order, each on at most so many levels
pub record Adds (old new : Draft) (trees : List Expression) (statements : List Statement) (most : ℕ) : Type 0 where
  pub roots : List Root
  pub bodies : List Body
  pub trees_are : map (λ (r : Root). r.tree) roots ≡ trees
  pub statements_are : map (λ (b : Body). b.statement) bodies ≡ statements
  pub few : most_levels roots ≤ most
  pub low : most_body_levels bodies ≤ most
  pub is : new ≡ and_bodies (and_roots old roots) bodies

-- ---- what a statement is built of

-- the last ones are so many expressions and statements, on so few levels that each may be part of a statement
pub record EndsInParts (expressions statements : ℕ) (s : Draft) : Type 0 where
  pub before : Draft
  pub trees : List Expression
  pub parts : List Statement
  pub adds : Adds before s trees parts 255
  pub many : length trees ≡ expressions
  pub several : length parts ≡ statements

-- all that a target writes are variables (table 6-1)
abbrev pub writes_variables : Target → Bool
writes_variables (Whole signal) = is_variable signal
writes_variables (PartOf signal part index) = is_variable signal
writes_variables (WordOf signal index) = is_variable signal
writes_variables (WordPartOf signal address part index) = is_variable signal
writes_variables (Both high low) = writes_variables high && writes_variables low

-- the last ones are what an assignment writes, and its expression (9.2)
pub record EndsInAssignment (s : Draft) : Type 0 where
  pub before : Draft
  pub target : Expression
  pub value : Expression
  pub adds : Adds before s (target ∷ value ∷ []) [] 255
  pub written : is_some (target_of target) ≡ true
  pub variables : writes_variables (target_tree target) ≡ true

-- an arm of a case: its labels, and its statement
pub record Labelled : Type 0 where
  pub labels : List Expression
  pub statement : Statement

-- arms in order, and at the end the default (9.5)
abbrev pub arms_with : List Labelled → Statement → Arms
arms_with [] other = Default other
arms_with (a ∷ rest) other = Arm (items_of a.labels) a.statement (arms_with rest other)

abbrev pub total : List ℕ → ℕ
total [] = 0
total (n ∷ ns) = n + total ns

-- the last ones are a case's subject, of which this is the number among the expressions, so many labels for each arm, and a statement for each arm
-- and so many others
pub record EndsInCase (first : ℕ) (counts : List ℕ) (others : ℕ) (s : Draft) : Type 0 where
  pub before : Draft
  pub subject : Expression
  pub labels : List Expression
  pub parts : List Statement
  pub adds : Adds before s (subject ∷ labels) parts 255
  pub at : length before.expressions ≡ first
  pub some : list_all (λ n. nat_lt 0 n) counts ≡ true
  pub many : length labels ≡ total counts
  pub several : length parts ≡ length counts + others
