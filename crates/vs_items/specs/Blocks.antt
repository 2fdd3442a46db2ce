-- What is found of the statements of always blocks (IEEE 1364-2005, 9.6, 9.8.2 and 9.9.2).
use Rattle.std.specs.Prelude.{ℕ, ◌-◌, ◌++◌, List, [], ◌∷◌}
use Rattle.vs_grammar.specs.Trees as tree
use Rattle.vs_const.specs.declared.faults.Fault.{Fault}
use Rattle.vs_const.specs.Meanings.{Meaning, Find}
use Rattle.vs_elaborated.specs.Limits.{Limits, the_limits}
use Rattle.vs_elaborated.specs.Environments.{Env, named}
use Rattle.vs_elaborated.specs.Statements.{TypedStatement, typed_control, unrolled_within}
use Rattle.vs_elaborated.specs.Heads.{shared_heads}
use Rattle.vs_elaborated.specs.NamedBlocks.{NamedBlock, named_blocks}
use Rattle.vs_elaborated.specs.Surveys.{Loops, block_heads, block_statement, body_with}

-- of the statement where it stands, by its named blocks that are scopes
abbrev pub faults_by : List NamedBlock → Limits → Env → Loops → tree.AlwaysBlock → List Fault
faults_by [] limits env loops b = (block_statement limits env loops b).faults
faults_by (n ∷ ns) limits env loops b = []

-- of the whole block there
abbrev pub block_faults : Limits → Env → Loops → tree.AlwaysBlock → List Fault
block_faults limits env loops b = (typed_control b.control (named env)).faults ++ (faults_by (named_blocks b.statement) limits env loops b ++ shared_heads loops.headed (block_heads env b))

-- where the variables of its named blocks mean this, behind these loops
abbrev pub statement_within : Loops → (declared : ℕ → Meaning) → Find → tree.AlwaysBlock → TypedStatement
statement_within loops declared find b = unrolled_within (the_limits.copies - loops.copies) b.statement (body_with declared b) find
