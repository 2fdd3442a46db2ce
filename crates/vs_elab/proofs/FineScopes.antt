-- A scope without a fault: its header and its items break no rule, what they make neither, and its parts are its pieces.
use Rattle.std.proofs.Common.{◌≡◌, ◌≤◌, ℕ, ◌+◌, List, [], ◌∷◌, ◌++◌, length, map, Option, Some, None, refl, sym, ap, ◌∙◌, subst, arith}
use Rattle.vs_grammar.specs.Trees as tree
use Rattle.vs_grammar.specs.Shapes.{Each}
use Rattle.vs_grammar.specs.Depths.{deepest, header_depth, item_depth}
use Rattle.vs_grammar.specs.Spelled.{depth_limit}
use Rattle.vs_const.specs.declared.faults.Fault.{Fault}
use Rattle.vs_const.specs.Faults.{least, better}
use Rattle.vs_const.proofs.Formed.{both_nil}
use Rattle.vs_elaborated.specs.Limits.{the_limits}
use Rattle.vs_elaborated.specs.Environments.{Entry, Env, named, within}
use Rattle.vs_elaborated.specs.Generate.{Nested, Made}
use Rattle.vs_elaborated.specs.Pieces.{Task, Piece, Said}
use Rattle.vs_elaborated.specs.Instances.{Around}
use Rattle.vs_elaborated.specs.Surveys.{Totals, Survey, contents_said, contents_unheard, counts_of, header_said, items_of, items_said, ports_said, processes_over}
use Rattle.vs_elaborated.specs.Sound.{BlocksAreLower}
use Rattle.vs_scope.specs.declared.frames.Frame.{Frame}
use Rattle.vs_scope.specs.declared.made.Nested as blocks
use Rattle.vs_scope.specs.declared.made.Made as constructs
use Rattle.vs_scope.specs.Frames.{env_at, envs}
use Rattle.vs_scope.specs.Made as code
use Rattle.vs_scope.specs.Surveys.{scope_env, IsOfParts, declared_in, faults_in, items_faults, loops_in, made_in, said_in, start_at}
use Rattle.vs_items.specs.Stated.{AreStated, IsStatedHeader}
use Rattle.vs_elab.specs.declared.pending.Part.{Part}
use Rattle.vs_elab.specs.Fine.{AreFineInside, AreFineItems, IsFineHeader, MakesFine, plains_said, scope_plain}
use Rattle.vs_elab.specs.Pending.{parts_pieces, scope_around}
use Rattle.vs_elab.proofs.FineItems.{header_fine}
use Rattle.vs_elab.proofs.PartItems.{heads, tails, alike_length}
use Rattle.vs_elab.proofs.PlainItems.{plains_clean}
use Rattle.vs_elab.proofs.ScopeItems.{one_made_each}

-- ---- faults

pub none_left : (fs : List Fault) → least fs ≡ None → fs ≡ []
none_left [] h = refl
none_left (f ∷ fs) h = cc

pub second_none : (a b : Option Fault) → better a b ≡ None → b ≡ None
second_none None b h = h
second_none (Some a) b h = cc

first_none : (xs ys : List Fault) → xs ++ ys ≡ [] → xs ≡ []
first_none [] ys h = refl
first_none (x ∷ xs) ys h = cc

-- ---- what items make

abbrev AreLow : List Nested → Type 0
AreLow bs = Each (λ (b : Nested). deepest item_depth b.items + 1 ≤ depth_limit) bs

abbrev AreFine : List Nested → Type 0
AreFine bs = Each (λ (b : Nested). AreFineInside b.items) bs

fine_blocks : (bs : List blocks.Nested) → Each code.IsShapedNested bs → AreLow (map code.nested bs) → AreFine (map code.nested bs)
fine_blocks [] h k = tt
fine_blocks (b ∷ bs) h k = (record { shaped = h.0; shallow = omega (arith, k.0) }, fine_blocks bs h.1 k.1)

fine_made : (ks : List constructs.Made) (ms : List Made) → map code.made ks ≡ map code.kept ms → Each code.AreShapedBlocks ks → Each (λ (m : Made). AreLow m.blocks) ms → Each MakesFine ms
fine_made ks [] e h k = tt
fine_made [] (m ∷ ms) e h k = absurd (let no : ⊥ = cc in no)
fine_made (c ∷ ks) (m ∷ ms) e h k =
    let same : map code.nested c.blocks.items ≡ m.blocks = ap (λ (x : code.Kept). x.blocks) (heads (code.made c) (code.kept m) (map code.made ks) (map code.kept ms) e) in
    (subst AreFine same (fine_blocks c.blocks.items h.0 (subst AreLow (sym same) k.0)), fine_made ks ms (tails (code.made c) (code.kept m) (map code.made ks) (map code.kept ms) e) h.1 k.1)

-- ---- the header and the items

-- where they stand
abbrev pub items_around : Task → Totals → List Entry → Around
items_around t totals es = record { scope = totals.scopes; depth = t.depth; env = within t.env es }

-- what each of them makes
abbrev pub items_made : Task → Totals → List Made
items_made t totals = made_in t.env t.contents (start_at t totals) (counts_of totals) totals.turns

-- one thing each
pub made_each : (t : Task) (totals : Totals) (ks : List constructs.Made) (items : List tree.Item) → items_of t.contents ≡ items → map code.made ks ≡ map code.kept (items_made t totals) → length ks ≡ length items
made_each t totals ks items e h =
    sym (alike_length code.made code.kept ks (items_made t totals) h) ∙ one_made_each the_limits (items_of t.contents) (within t.env (declared_in t.env t.contents (start_at t totals) (counts_of totals))) 1 totals.turns ∙ ap length e

-- what they say
abbrev scope_says : tree.Source → Task → Totals → List Entry → Said
scope_says source t totals es = contents_said the_limits source (items_around t totals es) (loops_in t totals) t.contents (items_made t totals)

scope_clean : (source : tree.Source) (t : Task) (totals : Totals) (s : Survey) → IsOfParts source t totals s → least s.faults ≡ None → (scope_says source t totals s.entries).faults ≡ []
scope_clean source t totals s p h =
    ap (λ (es : List Entry). (scope_says source t totals es).faults) p.entries
    ∙ first_none (said_in source t totals).faults (processes_over the_limits.processes totals.processes (said_in source t totals).pieces ++ contents_unheard (named (scope_env t totals)) t.contents)
    (none_left (items_faults source t totals) (second_none (least (faults_in t.env t.contents (start_at t totals) (counts_of totals) totals.turns)) (least (items_faults source t totals)) (sym p.fault ∙ h)))

header_clean : (source : tree.Source) (t : Task) (totals : Totals) (s : Survey) → IsOfParts source t totals s → least s.faults ≡ None → (header_said (within t.env s.entries) t.contents).faults ≡ []
header_clean source t totals s p h =
    (both_nil (header_said (within t.env s.entries) t.contents).faults (items_said the_limits source (items_around t totals s.entries) (loops_in t totals) (items_of t.contents) (items_made t totals)).faults (scope_clean source t totals s p h)).0

items_clean : (source : tree.Source) (t : Task) (totals : Totals) (s : Survey) → IsOfParts source t totals s → least s.faults ≡ None
    → (items_said the_limits source (items_around t totals s.entries) (loops_in t totals) (items_of t.contents) (items_made t totals)).faults ≡ []
items_clean source t totals s p h =
    (both_nil (header_said (within t.env s.entries) t.contents).faults (items_said the_limits source (items_around t totals s.entries) (loops_in t totals) (items_of t.contents) (items_made t totals)).faults (scope_clean source t totals s p h)).1

-- the header of a scope without a fault
pub scope_header : (source : tree.Source) (t : Task) (totals : Totals) (s : Survey) (header : tree.Header) → IsOfParts source t totals s → least s.faults ≡ None → ((env : Env) → header_said env t.contents ≡ ports_said env header)
    → IsStatedHeader header → header_depth header ≤ depth_limit → IsFineHeader (within t.env s.entries) header
scope_header source t totals s header p h are stated shallow =
    let env = within t.env s.entries in
    header_fine env header stated shallow (ap (λ (x : Said). x.faults) (sym (are env)) ∙ header_clean source t totals s p h)

-- the items of a scope without a fault
pub scope_fine : (source : tree.Source) (t : Task) (totals : Totals) (s : Survey) (ks : List constructs.Made) (items : List tree.Item) → BlocksAreLower → IsOfParts source t totals s → least s.faults ≡ None
    → items_of t.contents ≡ items → map code.made ks ≡ map code.kept (items_made t totals) → Each code.AreShapedBlocks ks → AreStated items → deepest item_depth items ≤ depth_limit
    → AreFineItems source (items_around t totals s.entries) items (items_made t totals)
scope_fine source t totals s ks items lower p h e same shaped =
    subst (λ (is : List tree.Item). AreStated is → deepest item_depth is ≤ depth_limit → AreFineItems source (items_around t totals s.entries) is (items_made t totals)) e
    (λ stated shallow. record {
      stated = stated;
      shallow = shallow;
      made = fine_made ks (items_made t totals) same shaped (lower depth_limit the_limits (items_of t.contents) (within t.env (declared_in t.env t.contents (start_at t totals) (counts_of totals))) 1 totals.turns shallow);
      clean = (plains_clean source (items_around t totals s.entries) (items_of t.contents) (items_made t totals) (loops_in t totals) (items_clean source t totals s p h)).0;
    })

-- its parts are its pieces
pub scope_pieces : (source : tree.Source) (t : Task) (totals : Totals) (s : Survey) (frames : List Frame) (n : ℕ) (header : tree.Header) (items : List tree.Item) (ps : List Part) → IsOfParts source t totals s → least s.faults ≡ None
    → ((env : Env) → header_said env t.contents ≡ ports_said env header) → items_of t.contents ≡ items → n ≡ totals.scopes
    → env_at (envs frames) (Some n) ≡ within t.env s.entries → parts_pieces source (items_around t totals s.entries) ps ≡ (scope_plain source (items_around t totals s.entries) header items (items_made t totals)).pieces
    → parts_pieces source (scope_around frames n t.depth) ps ≡ s.pieces
scope_pieces source t totals s frames n header items ps p none h e scopes seen are =
    ap (λ (x : Env). parts_pieces source (record { scope = n; depth = t.depth; env = x }) ps) seen
    ∙ ap (λ m. parts_pieces source (record { scope = m; depth = t.depth; env = within t.env s.entries }) ps) scopes
    ∙ are
    ∙ ap (λ (is : List tree.Item). (scope_plain source (items_around t totals s.entries) header is (items_made t totals)).pieces) (sym e)
    ∙ ap (λ (x : Said). x.pieces ++ (plains_said source (items_around t totals s.entries) (items_of t.contents) (items_made t totals)).pieces) (sym (h (within t.env s.entries)))
    ∙ ap (λ (qs : List Piece). (header_said (within t.env s.entries) t.contents).pieces ++ qs) (plains_clean source (items_around t totals s.entries) (items_of t.contents) (items_made t totals) (loops_in t totals) (items_clean source t totals s p none)).1
    ∙ ap (λ (es : List Entry). (scope_says source t totals es).pieces) p.entries
    ∙ sym p.pieces
