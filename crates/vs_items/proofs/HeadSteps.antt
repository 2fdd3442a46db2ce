-- The integers that head loops in a statement, as the code gathers them.
use Rattle.std.proofs.Common.{◌≡◌, ◌||◌, ◌+◌, ◌<◌, ℕ, Bool, true, false, List, [], ◌∷◌, ◌++◌, length, get_or, take, map, flat_map, Option, Some, None, Vec, Box, Global, if◌then◌else◌, refl, sym, ap, ◌∙◌, subst, append_assoc}
use Rattle.std.specs.Prelude.{is_some}
use Rattle.std.proofs.lemmas.List.{append-nil}
use Rattle.std.proofs.lemmas.Grind.{flat_map-append}
use Rattle.vs_base.specs.declared.events.CaseKind.{CaseKind}
use Rattle.vs_design.specs.Clocks.{same_name}
use Rattle.vs_grammar.specs.Trees as tree
use Rattle.vs_ast.specs.declared.expressions.Expr.{Expr}
use Rattle.vs_ast.specs.declared.types.BlockScope.{BlockScope}
use Rattle.vs_ast.specs.declared.types.LoopHead.{LoopHead}
use Rattle.vs_ast.specs.declared.statements.CaseArm.{CaseArm}
use Rattle.vs_ast.specs.declared.statements.Statement.{Statement, If, Case, Sequence, For}
use Rattle.vs_ast.specs.Views as view
use Rattle.vs_elaborated.specs.Environments as environment
use Rattle.vs_elaborated.specs.Environments.{Env}
use Rattle.vs_elaborated.specs.Heads as spec
use Rattle.vs_elaborated.specs.Statements as statements
use Rattle.vs_elaborated.specs.Statements.{find_local, scope_locals}
use Rattle.vs_maps.specs.Maps.{value_at}
use Rattle.vs_maps.specs.MapViews.{pairs}
use Rattle.vs_maps.specs.declared.maps.NameMap.{NameMap}
use Rattle.vs_bodies.specs.declared.layers.Local.{Local}
use Rattle.vs_bodies.specs.declared.layers.Layers.{Layers, End}
use Rattle.vs_bodies.specs.Layers.{AreLocals, local_of}
use Rattle.vs_bodies.proofs.Walking.{if_alone_view, if_else_view, case_alone_view, case_default_view, sequence_view, for_view}
use Rattle.vs_scope.specs.declared.names.Declared.{Declared}
use Rattle.vs_scope.specs.declared.names.Declared.TheVariants as states
use Rattle.vs_scope.specs.declared.names.Evaluated.TheVariants.{Value, Undefined}
use Rattle.vs_scope.specs.declared.names.Entry.{Entry}
use Rattle.vs_scope.specs.Seen.{Finds, StandsFor}
use Rattle.vs_items.specs.Heads.{AreAround, declares}
use Rattle.vs_items.specs.Loops.{head}
use Rattle.vs_items.specs.declared.loops.Head.{Head}
use Rattle.vs_items.proofs.Repeats.{one_more}

-- ---- what named blocks around declare

some_local : (o : Option statements.Local) → is_some (view.option local_of o) ≡ is_some o
some_local None = refl
some_local (Some v) = refl

local_behind : (own around : List statements.Local) (name : List ℕ) → is_some (find_local (own ++ around) name) ≡ (is_some (find_local own name) || is_some (find_local around name))
local_behind [] around name = refl
local_behind (v ∷ own) around name = by (same_name v.name.bytes name) (local_behind own around name)
  where
    by : (b : Bool) → is_some (find_local (own ++ around) name) ≡ (is_some (find_local own name) || is_some (find_local around name))
        → is_some (if b then Some v else find_local (own ++ around) name) ≡ (is_some (if b then Some v else find_local own name) || is_some (find_local around name))
    by true h = refl
    by false h = h

-- none
pub none_around : AreAround End []
none_around = record { each = λ name. refl }

-- one named block more
pub declared_within : (m : NameMap Local) (outer : Layers) (own around : List statements.Local) (name : List ℕ) → AreLocals m own → AreAround outer around
    → (is_some (value_at name (pairs m)) || declares outer name) ≡ is_some (find_local (own ++ around) name)
declared_within m outer own around name l a =
    ap (λ b. b || declares outer name) (ap is_some (l.each name) ∙ some_local (find_local own name)) ∙ ap (λ b. is_some (find_local own name) || b) (a.each name)
    ∙ sym (local_behind own around name)

-- ---- the integer that a name means

-- whether a named block around declares it
pub named_local : (layers : Layers) (locals : List statements.Local) (name slice : List ℕ) (b v : Bool) → AreAround layers locals → slice ≡ name → b ≡ declares layers slice → b ≡ v → is_some (find_local locals name) ≡ v
named_local layers locals name slice b v a e is h = sym (a.each name) ∙ ap (declares layers) (sym e) ∙ sym is ∙ h

pub local_heads : (v : Option statements.Local) (n : tree.Name) (env : Env) → is_some v ≡ true → spec.head_of v n env ≡ []
local_heads None n env h = cc
local_heads (Some v) n env h = refl

pub outer_heads : (v : Option statements.Local) (n : tree.Name) (env : Env) → is_some v ≡ false → spec.head_of v n env ≡ spec.head_of_entry n.place (environment.find_name env.frames n.bytes)
outer_heads None n env h = refl
outer_heads (Some v) n env h = cc

-- an integer of a scope
pub integer_heads : (found : Option environment.Entry) (name : List ℕ) (e : Entry) (scope at : ℕ) → Finds found name e → e.declared ≡ states.Integer scope
    → spec.head_of_entry at found ≡ record { integer = record { scope = scope; place = e.first.name.now.place }; at = at } ∷ []
integer_heads found name e scope at f h =
    ap (spec.head_of_entry at) f.found_is ∙ ap (spec.head_of_declared f.entry.place at) (subst (λ s. StandsFor s f.entry.declared) h f.declared_is)
    ∙ ap (λ p. spec.head_of_declared p at (environment.OfInteger (Some scope))) f.place_is

other_declared : (s : Declared) (d : environment.Declared) (place at : ℕ) → ((scope : ℕ) → s ≡ states.Integer scope → ⊥) → StandsFor s d → spec.head_of_declared place at d ≡ []
other_declared states.Later d place at k h = ap (spec.head_of_declared place at) h
other_declared states.Announced d place at k h = ap (spec.head_of_declared place at) h
other_declared (states.Signal s) d place at k h = ap (spec.head_of_declared place at) h
other_declared (states.Parameter (Value p)) d place at k h = ap (spec.head_of_declared place at) h
other_declared (states.Parameter (Undefined range)) d place at k h = ap (spec.head_of_declared place at) h
other_declared (states.Function None) d place at k h = ap (spec.head_of_declared place at) h
other_declared (states.Function (Some f)) d place at k h = ap (spec.head_of_declared place at) h.1
other_declared states.Genvar d place at k h = ap (spec.head_of_declared place at) h
other_declared (states.Integer scope) d place at k h = absurd (k scope refl)
other_declared states.Scope d place at k h = ap (spec.head_of_declared place at) h

-- anything else
pub other_heads : (found : Option environment.Entry) (name : List ℕ) (e : Entry) (at : ℕ) → Finds found name e → ((scope : ℕ) → e.declared ≡ states.Integer scope → ⊥) → spec.head_of_entry at found ≡ []
other_heads found name e at f k = ap (spec.head_of_entry at) f.found_is ∙ other_declared e.declared f.entry.declared f.entry.place at k f.declared_is

-- ---- what is gathered

-- these heads more
abbrev pub AreGathered : (old new : List Head) → List spec.Head → Type 0
AreGathered old new hs = map head new ≡ map head old ++ hs

pub none_gathered : (old : List Head) → AreGathered old old []
none_gathered old = sym (append-nil (map head old))

pub both_gathered : (old mid new : List Head) (a b : List spec.Head) → AreGathered old mid a → AreGathered mid new b → AreGathered old new (a ++ b)
both_gathered old mid new a b h k = k ∙ ap (λ hs. hs ++ b) h ∙ append_assoc (map head old) a b

pub gathered_as : (old new : List Head) (a b : List spec.Head) → a ≡ b → AreGathered old new a → AreGathered old new b
gathered_as old new a b e h = subst (AreGathered old new) e h

-- and those behind them
pub then_gathered : (old mid : List Head) (a b whole : List spec.Head) → AreGathered old mid a → a ++ b ≡ whole → map head mid ++ b ≡ map head old ++ whole
then_gathered old mid a b whole h e = ap (λ hs. hs ++ b) h ∙ append_assoc (map head old) a b ∙ ap (λ hs. map head old ++ hs) e

-- ---- the heads in each kind of statement

module _ (locals : List statements.Local) (env : Env) (s : Statement) where
  abbrev headed : tree.Statement → List spec.Head
  headed t = spec.headed t locals env

  pub if_alone_heads : (place : ℕ) (c : Expr) (p : Box Statement Global) (o : Option (Box Statement Global)) → s ≡ If place c p o → o ≡ None → headed (view.statement p.value) ++ [] ≡ headed (view.statement s)
  if_alone_heads place c p o e h = sym (ap headed (ap view.statement e ∙ ap (λ q. view.statement (If place c p q)) h ∙ if_alone_view place c p))

  pub if_else_heads : (place : ℕ) (c : Expr) (p q : Box Statement Global) (o : Option (Box Statement Global)) → s ≡ If place c p o → o ≡ Some q
      → headed (view.statement p.value) ++ headed (view.statement q.value) ≡ headed (view.statement s)
  if_else_heads place c p q o e h = sym (ap headed (ap view.statement e ∙ ap (λ r. view.statement (If place c p r)) h ∙ if_else_view place c p q))

  pub case_alone_heads : (place : ℕ) (kind : CaseKind) (e : Expr) (list : Vec CaseArm Global) (o : Option (Box Statement Global)) → s ≡ Case place kind e list o → o ≡ None
      → spec.headed_arms (view.arms list.items) locals env ++ [] ≡ headed (view.statement s)
  case_alone_heads place kind e list o h k = sym (ap headed (ap view.statement h ∙ ap (λ q. view.statement (Case place kind e list q)) k ∙ case_alone_view place kind e list))

  pub case_default_heads : (place : ℕ) (kind : CaseKind) (e : Expr) (list : Vec CaseArm Global) (q : Box Statement Global) (o : Option (Box Statement Global)) → s ≡ Case place kind e list o → o ≡ Some q
      → spec.headed_arms (view.arms list.items) locals env ++ headed (view.statement q.value) ≡ headed (view.statement s)
  case_default_heads place kind e list q o h k = sym (ap headed (ap view.statement h ∙ ap (λ r. view.statement (Case place kind e list r)) k ∙ case_default_view place kind e list q))

  pub plain_heads : (place : ℕ) (scope : Option BlockScope) (list : Vec Statement Global) → s ≡ Sequence place scope list → scope ≡ None
      → spec.headed_sequence (view.statements list.items) locals env ≡ headed (view.statement s)
  plain_heads place scope list e h =
      sym (ap headed (ap view.statement e ∙ sequence_view place scope list ∙ ap (λ o. tree.Sequence place (view.option view.block_scope o) (view.statements list.items)) h))

  pub block_heads : (place : ℕ) (scope : Option BlockScope) (x : BlockScope) (list : Vec Statement Global) → s ≡ Sequence place scope list → scope ≡ Some x
      → spec.headed_sequence (view.statements list.items) (scope_locals (Some (view.block_scope x)) ++ locals) env ≡ headed (view.statement s)
  block_heads place scope x list e h =
      sym (ap headed (ap view.statement e ∙ sequence_view place scope list ∙ ap (λ o. tree.Sequence place (view.option view.block_scope o) (view.statements list.items)) h))

  pub for_heads : (h : LoopHead) (p : Box Statement Global) → s ≡ For h p
      → spec.head_of (find_local locals h.variable.text) (view.name h.variable) env ++ headed (view.statement p.value) ≡ headed (view.statement s)
  for_heads h p e = sym (ap headed (ap view.statement e ∙ for_view h p))

-- ---- lists

-- one more
pub flat_more : {A B : Type 0} (f : A → List B) (xs : List A) (i : ℕ) (x : A) → i < length xs → x ≡ get_or xs i x → flat_map f (take i xs) ++ f x ≡ flat_map f (take (i + 1) xs)
flat_more f xs i x h e =
    ap (λ ys. flat_map f (take i xs) ++ ys) (sym (append-nil (f x))) ∙ sym (flat_map-append f (take i xs) (x ∷ [])) ∙ ap (flat_map f) (sym (taken xs i x h e))
  where
    same : {A : Type 0} (xs : List A) → map (λ x. x) xs ≡ xs
    same [] = refl
    same (x ∷ xs) = ap (λ r. x ∷ r) (same xs)

    taken : {A : Type 0} (xs : List A) (i : ℕ) (x : A) → i < length xs → x ≡ get_or xs i x → take (i + 1) xs ≡ take i xs ++ x ∷ []
    taken xs i x h e = sym (same (take (i + 1) xs)) ∙ one_more (λ x. x) xs i x h e ∙ ap (λ r. r ++ x ∷ []) (same (take i xs))

module _ (locals : List statements.Local) (env : Env) where
  abbrev pub part_heads : Statement → List spec.Head
  part_heads s = spec.headed (view.statement s) locals env

  abbrev pub arm_heads : CaseArm → List spec.Head
  arm_heads a = spec.headed (view.statement a.statement) locals env

  pub parts_headed : (ss : List Statement) → flat_map part_heads ss ≡ spec.headed_sequence (view.statements ss) locals env
  parts_headed [] = refl
  parts_headed (s ∷ ss) = ap (λ hs. part_heads s ++ hs) (parts_headed ss)

  pub arms_headed : (list : List CaseArm) → flat_map arm_heads list ≡ spec.headed_arms (view.arms list) locals env
  arms_headed [] = refl
  arms_headed (a ∷ rest) = ap (λ hs. arm_heads a ++ hs) (arms_headed rest)
