-- A flat design to which more is added: what makes it lawful holds all the time (IEEE 1364-2005, clause 12, as far as it can be told without the text).
use Rattle.std.specs.Prelude.{◌≡◌, ◌+◌, ◌≤◌, ◌<◌, ◌^◌, ◌==◌, ℕ, true, List, map, length, count_by, slice_index_or, slice_get, nat_le, if◌then◌else◌, Option, None, Some}
use Rattle.std.specs.List.{list_all}
use Rattle.vs_design.specs.Expressions.{Header}
use Rattle.vs_design.specs.Designs.{Design}
use Rattle.vs_design.specs.Elaborated.{is_formed, is_formed_statement, is_formed_header, is_formed_function}
use Rattle.vs_flat.specs.declared.placed.Placed.{Placed}
use Rattle.vs_flat.specs.declared.expressions.Node.{Node}
use Rattle.vs_flat.specs.declared.functions.Declared.{Declared}
use Rattle.vs_flat.specs.declared.processes.Process.{Process}
use Rattle.vs_flat.specs.declared.statements.Statement.{Statement}
use Rattle.vs_flat.specs.Arena.{Arena, declared_at}
use Rattle.vs_flat.specs.Trees.{tree_at, statement_at}
use Rattle.vs_flat.specs.DesignOf.{header_of, header_in, arena_trees, arena_statements, design_of}
use Rattle.vs_flat.specs.Lawful.{NamesEarlier, has_locals, has_copies, has_target, assigns_target, named_expressions, named_statements, are_chains, node_depths, statement_depths, node_home, statement_home}
use Rattle.vs_grammar.specs.Shapes.{Each}
use Rattle.vs_build.specs.Drafts.{Root, Body, Draft, home_in}

abbrev pub times : ℕ → List ℕ → ℕ
times n ns = count_by (λ m. m == n) ns

-- ---- functions (10.4)

-- the last function, while it has no statement yet
abbrev pub open_function : Arena → Option Declared
open_function a = slice_get a.functions (length a.bodies)

abbrev pub header_if : Option Declared → Option Header
header_if None = None
header_if (Some f) = Some (header_of f.function)

-- its header
abbrev pub open_header : Arena → Option Header
open_header a = header_if (open_function a)

-- where the next expression stands
abbrev pub current : Arena → Design
current a = home_in (design_of a) (open_header a)

-- the header of the function in which the expression or the statement of this number stands, if one does: what is behind the first of an open function is in that one
abbrev pub header_behind : (n : ℕ) → (first : Declared → ℕ) → Option Declared → Option Header
header_behind n first None = None
header_behind n first (Some f) = if nat_le (first f) n then Some (header_of f.function) else None

-- and else in one that has its statement
abbrev pub header_at : Arena → Option ℕ → (n : ℕ) → (first : Declared → ℕ) → Option Header
header_at a None n first = header_behind n first (open_function a)
header_at a (Some f) n first = Some (header_in (declared_at a f))

abbrev pub first_node : Declared → ℕ
first_node f = f.nodes

abbrev pub first_statement : Declared → ℕ
first_statement f = f.statements

abbrev pub expression_header : Arena → ℕ → Option Header
expression_header a e = header_at a (node_home 0 a.functions a.bodies e) e first_node

abbrev pub statement_header : Arena → ℕ → Option Header
statement_header a s = header_at a (statement_home 0 a.functions a.bodies s) s first_statement

-- ---- what holds all the time

-- all that `IsLawful` says but of its plain design; `roots` and `bodies` are the expressions and statements that nothing names yet
pub record IsGrowing (a : Arena) (roots bodies : List ℕ) : Type 0 where
  pub few_scopes : length a.scopes < 2 ^ 32
  pub few_nodes : length a.nodes < 2 ^ 32
  pub few_statements : length a.statements < 2 ^ 32
  pub few_functions : length a.functions < 2 ^ 32
  pub names : NamesEarlier a
  -- one function at most has no statement yet
  pub open_one : length a.functions ≤ length a.bodies + 1
  pub begun : (f : Declared) → open_function a ≡ Some f → (f.nodes ≤ length a.nodes) × (f.statements ≤ length a.statements)
  pub locals : list_all (λ (d : Declared). has_locals d.function) a.functions ≡ true
  pub header : (h : Header) → open_header a ≡ Some h → is_formed_header (design_of a) h ≡ true
  pub functions : list_all (is_formed_function (design_of a)) (design_of a).functions ≡ true
  -- each is formed where it stands
  pub expressions : (e : ℕ) → e < length a.nodes → is_formed (home_in (design_of a) (expression_header a e)) (tree_at (arena_trees a) e) ≡ true
  pub statements : (s : ℕ) → s < length a.statements → is_formed_statement (home_in (design_of a) (statement_header a s)) (statement_at (arena_statements a) s) ≡ true
  -- those that nothing names yet stand where the next one does
  pub rooted : Each (λ n. expression_header a n ≡ open_header a) roots
  pub embodied : Each (λ n. statement_header a n ≡ open_header a) bodies
  pub copies : list_all (λ (n : Placed Node). has_copies n.item) a.nodes ≡ true
  pub assign_targets : list_all (λ (p : Process). has_target (tree_at (arena_trees a)) p.kind) a.processes ≡ true
  pub statement_targets : list_all (λ (s : Placed Statement). assigns_target (tree_at (arena_trees a)) s.item) a.statements ≡ true
  -- each is named once, or stands once among those that nothing names yet, and is there
  pub expressions_once : (n : ℕ) → times n roots + times n (named_expressions a) ≤ 1
  pub expressions_there : (n : ℕ) → length a.nodes ≤ n → times n roots + times n (named_expressions a) ≡ 0
  pub statements_once : (n : ℕ) → times n bodies + times n (named_statements a) ≤ 1
  pub statements_there : (n : ℕ) → length a.statements ≤ n → times n bodies + times n (named_statements a) ≡ 0
  pub node_chains : are_chains (node_depths a.nodes) ≡ true
  pub statement_chains : are_chains (statement_depths (node_depths a.nodes) a.statements) ≡ true

-- ---- what it stands for

-- the longest chain from a node, and from a statement
abbrev pub node_levels : Arena → ℕ → ℕ
node_levels a n = slice_index_or (node_depths a.nodes) n 0

abbrev pub statement_levels : Arena → ℕ → ℕ
statement_levels a n = slice_index_or (statement_depths (node_depths a.nodes) a.statements) n 0

abbrev pub root_at : Arena → ℕ → Root
root_at a n = record { tree = tree_at (arena_trees a) n; levels = node_levels a n }

abbrev pub body_at : Arena → ℕ → Body
body_at a n = record { statement = statement_at (arena_statements a) n; levels = statement_levels a n }

abbrev pub draft_of : Arena → List ℕ → List ℕ → Draft
draft_of a roots bodies = record { design = design_of a; function = open_header a; expressions = map (root_at a) roots; statements = map (body_at a) bodies }

-- a flat design that grows, and the numbers of the expressions and statements that nothing in it names yet
pub record Growing : Type 0 where
  pub arena : Arena
  pub roots : List ℕ
  pub bodies : List ℕ

abbrev pub draft : Growing → Draft
draft g = draft_of g.arena g.roots g.bodies
