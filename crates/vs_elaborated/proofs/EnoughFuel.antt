-- Scopes stand no deeper within one another than elaboration can read.
use Rattle.std.proofs.Common.{◌≡◌, ℕ, zero, suc, ◌+◌, ◌-◌, ◌*◌, ◌≤◌, ◌<◌, Bool, true, false, ◌&&◌, ◌||◌, ◌==◌, List, [], ◌∷◌, ◌++◌, map, Some, if◌then◌else◌, nat_lt, ◌⊎◌, inl, inr, refl, sym, ap, ◌∙◌, subst, arith}
use Rattle.std.specs.Prelude.{Result, Ok, Err}
use Rattle.std.proofs.lemmas.Bool.{lt-ltb, ltb-true, ltb-false}
use Rattle.vs_grammar.specs.Trees.{Module, Source, items_list}
use Rattle.vs_grammar.specs.Shapes.{Each, IsShaped}
use Rattle.vs_const.specs.declared.faults.Fault.{Fault}
use Rattle.vs_const.specs.Faults.{fault_if, comes_before}
use Rattle.vs_const.specs.declared.rules.Rule.TheVariants.{InstanceDepth, TooManyInstances}
use Rattle.vs_elaborated.specs.Limits.{Limits}
use Rattle.vs_elaborated.specs.Ports.{find_module}
use Rattle.vs_elaborated.specs.Pieces.{Task, Piece, Own, OfScopes, Initially, Instance, Within, is_instance}
use Rattle.vs_elaborated.specs.Surveys.{items_of, Totals, no_totals, Survey, survey}
use Rattle.vs_elaborated.specs.Elaborated.{both_designs, of_processes, then_do, unless_fault, port_assign, Read, ReadPieces, read_piece, read_pieces, counted, limit_faults, scope_design, read_scope, top_task, scope_depth}
use Rattle.vs_elaborated.proofs.LowBlocks.{levels, AreLowModules, IsLowInstance, IsLowPiece, AreLowPieces, modules_low, found_low, survey_low}

-- ---- reading by two functions that agree

abbrev Agree : (Task → Totals → Result Read Fault) → (Task → Totals → Result Read Fault) → Piece → Type 0
Agree f g (Own p) = Unit {0}
Agree f g (OfScopes b) = Unit {0}
Agree f g (Initially place statement) = Unit {0}
Agree f g (Instance connections task) = (t : Totals) → f task t ≡ g task t
Agree f g (Within task) = (t : Totals) → f task t ≡ g task t

piece_same : (limits : Limits) (f g : Task → Totals → Result Read Fault) (p : Piece) → Agree f g p → (t : Totals) → read_piece limits f p t ≡ read_piece limits g p t
piece_same limits f g (Own p) h t = refl
piece_same limits f g (OfScopes b) h t = refl
piece_same limits f g (Initially place statement) h t = refl
piece_same limits f g (Instance connections task) h t = ap onward (h t)
  where
    onward : Result Read Fault → Result ReadPieces Fault
    onward q = then_do q λ r. Ok (record { design = both_designs (of_processes (map (port_assign task.place r.entries) connections)) r.design; totals = r.totals })
piece_same limits f g (Within task) h t = ap onward (h t)
  where
    onward : Result Read Fault → Result ReadPieces Fault
    onward q = then_do q λ r. Ok (record { design = r.design; totals = r.totals })

pieces_same : (limits : Limits) (f g : Task → Totals → Result Read Fault) (ps : List Piece) → Each (Agree f g) ps → (t : Totals) → read_pieces limits f ps t ≡ read_pieces limits g ps t
pieces_same limits f g [] h t = refl
pieces_same limits f g (p ∷ ps) h t = ap (onward f) (piece_same limits f g p h.0 t) ∙ of (read_piece limits g p t) (λ u. pieces_same limits f g ps h.1 u)
  where
    last : ReadPieces → Result ReadPieces Fault → Result ReadPieces Fault
    last a q = then_do q λ b. Ok (record { design = both_designs a.design b.design; totals = b.totals })

    onward : (Task → Totals → Result Read Fault) → Result ReadPieces Fault → Result ReadPieces Fault
    onward read q = then_do q λ a. last a (read_pieces limits read ps a.totals)

    of : (q : Result ReadPieces Fault) → ((u : Totals) → read_pieces limits f ps u ≡ read_pieces limits g ps u) → onward f q ≡ onward g q
    of (Err e) k = refl
    of (Ok a) k = ap (last a) (k a.totals)

-- ---- an instance too deep is refused at once

not_before : (p : ℕ) → comes_before (record { rule = TooManyInstances; place = p }) (record { rule = InstanceDepth; place = p }) ≡ false
not_before p = of (nat_lt p p) (p == p) refl
  where
    of : (a b : Bool) → nat_lt p p ≡ a → (a || (b && false)) ≡ false
    of true b e = absurd (omega (arith, ltb-true p p e))
    of false true e = refl
    of false false e = refl

too_deep : (limits : Limits) (k : Task) (t : Totals) (f : ℕ → Result Read Fault) → is_instance k.contents ≡ true → limits.depth < k.depth → unless_fault (limit_faults limits k t) f ≡ Err (record { rule = InstanceDepth; place = k.place })
too_deep limits k t f i h = of (is_instance k.contents && nat_lt limits.depth k.depth) (is_instance k.contents && nat_lt limits.instances t.instances) (both (is_instance k.contents) (nat_lt limits.depth k.depth) i (lt-ltb limits.depth k.depth h))
  where
    both : (a b : Bool) → a ≡ true → b ≡ true → (a && b) ≡ true
    both true true g j = refl
    both true false g j = cc
    both false b g j = cc

    of : (a b : Bool) → a ≡ true → unless_fault (fault_if a InstanceDepth k.place ++ fault_if b TooManyInstances k.place) f ≡ Err (record { rule = InstanceDepth; place = k.place })
    of true false e = refl
    of true true e = ap refused (not_before k.place)
      where
        refused : Bool → Result Read Fault
        refused c = Err (if c then (record { rule = TooManyInstances; place = k.place }) else (record { rule = InstanceDepth; place = k.place }))
    of false b e = cc

deep_scope : (left : ℕ) (limits : Limits) (source : Source) (k : Task) (t : Totals) → is_instance k.contents ≡ true → limits.depth < k.depth → read_scope (suc left) limits source k t ≡ Err (record { rule = InstanceDepth; place = k.place })
deep_scope left limits source k t i h = too_deep limits k (counted k t) inside i h
  where
    y : Survey
    y = survey limits source k (counted k t)

    inside : ℕ → Result Read Fault
    inside u = unless_fault y.faults λ v. then_do (read_pieces limits (read_scope left limits source) y.pieces y.totals) λ r. Ok (record { entries = y.entries; design = scope_design k y r.design; totals = r.totals })

-- ---- fuel

-- this many levels are enough for this scope, or it is an instance too deep
abbrev IsEnough : Limits → ℕ → Task → Type 0
IsEnough limits left k = (suc ((limits.depth - k.depth) * 201 + levels (items_of k.contents)) ≤ left) ⊎ ((is_instance k.contents ≡ true) × (limits.depth < k.depth))

block_enough : (most depth l left inner : ℕ) (d : ℕ) → suc ((most - depth) * 201 + l) ≤ suc left → suc inner ≤ l → d ≡ depth → suc ((most - d) * 201 + inner) ≤ left
block_enough most depth l left inner d h k e = subst (λ n. suc ((most - n) * 201 + inner) ≤ left) (sym e) (omega (arith, h, k))

instance_enough : (most depth l left inner : ℕ) → suc ((most - depth) * 201 + l) ≤ suc left → inner ≤ 200 → depth + 1 ≤ most → suc ((most - (depth + 1)) * 201 + inner) ≤ left
instance_enough most depth l left inner h k e = let s : most - depth ≡ suc (most - (depth + 1)) = omega (arith, e) in omega (arith, h, k, s)

instance_or : (limits : Limits) (depth l left : ℕ) (k : Task) → suc ((limits.depth - depth) * 201 + l) ≤ suc left → IsLowInstance depth k → IsEnough limits left k
instance_or limits depth l left k h i = by (nat_lt limits.depth k.depth) refl
  where
    by : (b : Bool) → nat_lt limits.depth k.depth ≡ b → IsEnough limits left k
    by true e = inr (i.instance, ltb-true limits.depth k.depth e)
    by false e = inl (subst (λ n. suc ((limits.depth - n) * 201 + levels (items_of k.contents)) ≤ left) (sym i.deeper) (instance_enough limits.depth depth l left (levels (items_of k.contents)) h i.low (omega (arith, i.deeper, ltb-false limits.depth k.depth e))))

scope_same : (left more : ℕ) (limits : Limits) (source : Source) → AreLowModules source.modules → left ≤ more → (k : Task) (t : Totals) → IsEnough limits left k → read_scope more limits source k t ≡ read_scope left limits source k t
scope_same zero zero limits source x b k t e = refl
scope_same zero (suc more) limits source x b k t (inl h) = absurd (omega (arith, h))
scope_same zero (suc more) limits source x b k t (inr h) = deep_scope more limits source k t h.0 h.1
scope_same (suc left) zero limits source x b k t e = absurd (omega (arith, b))
scope_same (suc left) (suc more) limits source x b k t (inr h) = deep_scope more limits source k t h.0 h.1 ∙ sym (deep_scope left limits source k t h.0 h.1)
scope_same (suc left) (suc more) limits source x b k t (inl h) =
    ap onward (pieces_same limits (read_scope more limits source) (read_scope left limits source) y.pieces (all y.pieces (survey_low limits source k (counted k t) x) (λ j u i. scope_same left more limits source x (omega (arith, b)) j u i)) y.totals)
  where
    y : Survey
    y = survey limits source k (counted k t)

    onward : Result ReadPieces Fault → Result Read Fault
    onward q = unless_fault (limit_faults limits k (counted k t)) λ u. unless_fault y.faults λ v. then_do q λ r. Ok (record { entries = y.entries; design = scope_design k y r.design; totals = r.totals })

    all : (ps : List Piece) → AreLowPieces k.depth (levels (items_of k.contents)) ps → ((j : Task) (u : Totals) → IsEnough limits left j → read_scope more limits source j u ≡ read_scope left limits source j u) → Each (Agree (read_scope more limits source) (read_scope left limits source)) ps
    all [] g r = tt
    all (p ∷ ps) g r = (one p g.0, all ps g.1 r)
      where
        one : (p : Piece) → IsLowPiece k.depth (levels (items_of k.contents)) p → Agree (read_scope more limits source) (read_scope left limits source) p
        one (Own p) i = tt
        one (OfScopes b) i = tt
        one (Initially place statement) i = tt
        one (Instance connections task) i = λ u. r task u (instance_or limits k.depth (levels (items_of k.contents)) left task h i)
        one (Within task) i = λ u. r task u (inl (block_enough limits.depth k.depth (levels (items_of k.contents)) left (levels (items_of task.contents)) task.depth h i.low i.same))

top_enough : (limits : Limits) (m : Module) → levels (items_list m.items) ≤ 200 → IsEnough limits (scope_depth limits) (top_task m)
top_enough limits m h = by (nat_lt limits.depth 1) refl
  where
    by : (b : Bool) → nat_lt limits.depth 1 ≡ b → IsEnough limits (scope_depth limits) (top_task m)
    by true e = inr (refl, ltb-true limits.depth 1 e)
    by false e = inl (omega (arith, h, ltb-false limits.depth 1 e))

-- with more levels to go, the same is read
pub fuel_enough : (limits : Limits) (source : Source) (top : List ℕ) (m : Module) (left : ℕ) → IsShaped source → find_module source top ≡ Some m → scope_depth limits ≤ left
    → read_scope left limits source (top_task m) no_totals ≡ read_scope (scope_depth limits) limits source (top_task m) no_totals
fuel_enough limits source top m left x e h =
    let low = modules_low source.modules x.shallow in
    scope_same (scope_depth limits) left limits source low h (top_task m) no_totals (top_enough limits m (found_low source.modules top m low e))
