-- What items say that break no rule: the loops of their blocks are unrolled, whatever loops did before (IEEE 1364-2005, 9.6).
use Rattle.std.proofs.Common.{◌≡◌, ◌-◌, List, [], ◌∷◌, ◌++◌, refl, sym, ap, ◌∙◌}
use Rattle.vs_design.specs.Designs.{Always}
use Rattle.vs_grammar.specs.Trees as tree
use Rattle.vs_const.specs.declared.faults.Fault.{Fault}
use Rattle.vs_const.proofs.Formed.{both_nil}
use Rattle.vs_elaborated.specs.Limits.{the_limits}
use Rattle.vs_elaborated.specs.Environments.{named}
use Rattle.vs_elaborated.specs.Generate.{Made}
use Rattle.vs_elaborated.specs.Heads.{shared_heads}
use Rattle.vs_elaborated.specs.Instances.{Around}
use Rattle.vs_elaborated.specs.NamedBlocks.{NamedBlock, named_blocks}
use Rattle.vs_elaborated.specs.Pieces.{Own, Initially, Piece}
use Rattle.vs_elaborated.specs.Statements.{TypedStatement, typed_control, typed_statement}
use Rattle.vs_elaborated.specs.Surveys.{Loops, block_body, block_by, block_heads, plain_block_said, block_statement, initial_body, initial_heads, initial_said, initial_statement, item_said, items_said, loops_after}
use Rattle.vs_build.proofs.Unrolled.{unrolled_is}
use Rattle.vs_elab.specs.Fine.{plain_block, plain_said, plains_said}

-- an always block
module _ (source : tree.Source) (around : Around) (loops : Loops) (b : tree.AlwaysBlock) (clean : (plain_block_said the_limits around.env loops b).faults ≡ []) where
  abbrev said : TypedStatement
  said = block_statement the_limits around.env loops b

  parts_clean : ((typed_control b.control (named around.env)).faults ≡ []) × (said.faults ≡ [])
  parts_clean =
      let p = both_nil (typed_control b.control (named around.env)).faults (said.faults ++ shared_heads loops.headed (block_heads around.env b)) clean in
      (p.0, (both_nil said.faults (shared_heads loops.headed (block_heads around.env b)) p.1).0)

  statement_is : said ≡ typed_statement b.statement (block_body b) (named around.env)
  statement_is = unrolled_is (the_limits.copies - loops.copies) b.statement (block_body b) (named around.env) parts_clean.1

  none : (xs ys : List Fault) → xs ≡ [] → ys ≡ [] → xs ++ ys ≡ []
  none [] ys h k = k
  none (x ∷ xs) ys h k = cc

  block_clean : (plain_block [] around b).faults ≡ []
  block_clean =
      none (typed_control b.control (named around.env)).faults (typed_statement b.statement (block_body b) (named around.env)).faults parts_clean.0
      (ap (λ (t : TypedStatement). t.faults) (sym statement_is) ∙ parts_clean.1)

  block_pieces : (plain_block [] around b).pieces ≡ (plain_block_said the_limits around.env loops b).pieces
  block_pieces =
      let e = typed_control b.control (named around.env) in
      ap (λ (t : TypedStatement). let ps : List Piece = Own (Always b.place e.star e.events t.statement) ∷ [] in ps) (sym statement_is)

-- by its named blocks that are scopes
blocks_plain : (source : tree.Source) (around : Around) (loops : Loops) (b : tree.AlwaysBlock) (ns : List NamedBlock) → (block_by ns the_limits around loops b).faults ≡ []
    → ((plain_block ns around b).faults ≡ []) × ((plain_block ns around b).pieces ≡ (block_by ns the_limits around loops b).pieces)
blocks_plain source around loops b [] h = (block_clean source around loops b h, block_pieces source around loops b h)
blocks_plain source around loops b (n ∷ ns) h = ((both_nil (typed_control b.control (named around.env)).faults (shared_heads loops.headed (block_heads around.env b)) h).0, refl)

-- an initial block
module _ (source : tree.Source) (around : Around) (loops : Loops) (b : tree.InitialBlock) (clean : (initial_said the_limits around.env loops b).faults ≡ []) where
  abbrev begun_said : TypedStatement
  begun_said = initial_statement the_limits around.env loops b

  begun_clean : begun_said.faults ≡ []
  begun_clean = (both_nil begun_said.faults (shared_heads loops.headed (initial_heads around.env b)) clean).0

  begun_is : begun_said ≡ typed_statement b.statement initial_body (named around.env)
  begun_is = unrolled_is (the_limits.copies - loops.copies) b.statement initial_body (named around.env) begun_clean

  pub initial_clean : (made : Made) → (plain_said source around (tree.InitialItem b) made).faults ≡ []
  initial_clean made = ap (λ (t : TypedStatement). t.faults) (sym begun_is) ∙ begun_clean

  pub initial_pieces : (made : Made) → (plain_said source around (tree.InitialItem b) made).pieces ≡ (initial_said the_limits around.env loops b).pieces
  initial_pieces made = ap (λ (t : TypedStatement). let ps : List Piece = Initially b.place t.statement ∷ [] in ps) (sym begun_is)

-- an item
plain_is : (source : tree.Source) (around : Around) (loops : Loops) (i : tree.Item) (made : Made) → (item_said the_limits source around loops i made).faults ≡ []
    → ((plain_said source around i made).faults ≡ []) × ((plain_said source around i made).pieces ≡ (item_said the_limits source around loops i made).pieces)
plain_is source around loops (tree.SignalsItem t) made h = (h, refl)
plain_is source around loops (tree.ParametersItem t) made h = (h, refl)
plain_is source around loops (tree.AssignsItem place assigns) made h = (h, refl)
plain_is source around loops (tree.AlwaysItem b) made h = blocks_plain source around loops b (named_blocks b.statement) h
plain_is source around loops (tree.InitialItem b) made h = (initial_clean source around loops b h made, initial_pieces source around loops b h made)
plain_is source around loops (tree.GenvarsItem place names) made h = (h, refl)
plain_is source around loops (tree.IntegersItem place names) made h = (h, refl)
plain_is source around loops (tree.InstancesItem t) made h = (h, refl)
plain_is source around loops (tree.FunctionItem f) made h = (h, refl)
plain_is source around loops (tree.GenerateFor head block) made h = (h, refl)
plain_is source around loops (tree.GenerateIf place c taken other) made h = (h, refl)
plain_is source around loops (tree.GenerateCase place subject arms other) made h = (h, refl)

nothing : (xs ys : List Fault) → xs ≡ [] → ys ≡ [] → xs ++ ys ≡ []
nothing [] ys h k = k
nothing (x ∷ xs) ys h k = cc

-- items
pub plains_clean : (source : tree.Source) (around : Around) (items : List tree.Item) (ms : List Made) (loops : Loops) → (items_said the_limits source around loops items ms).faults ≡ []
    → ((plains_said source around items ms).faults ≡ []) × ((plains_said source around items ms).pieces ≡ (items_said the_limits source around loops items ms).pieces)
plains_clean source around [] ms loops h = (refl, refl)
plains_clean source around (i ∷ is) [] loops h = (refl, refl)
plains_clean source around (i ∷ is) (m ∷ ms) loops h =
    let after = loops_after the_limits around.env loops i in
    let p = both_nil (item_said the_limits source around loops i m).faults (items_said the_limits source around after is ms).faults h in
    let one = plain_is source around loops i m p.0 in
    let rest = plains_clean source around is ms after p.1 in (
      nothing (plain_said source around i m).faults (plains_said source around is ms).faults one.0 rest.0,
      ap (λ (ps : List Piece). ps ++ (plains_said source around is ms).pieces) one.1 ∙ ap (λ (ps : List Piece). (item_said the_limits source around loops i m).pieces ++ ps) rest.1,
    )
