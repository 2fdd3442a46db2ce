-- The faults of an always block whose named blocks are scopes, as they are found.
use Rattle.std.proofs.Common.{◌≡◌, ℕ, List, ◌++◌, map, flat_map, Option, sym, ap, ◌∙◌}
use mathlib.Core.Path.{fun_ext}
use Rattle.vs_grammar.specs.Trees as tree
use Rattle.vs_const.specs.declared.faults.Fault.{Fault}
use Rattle.vs_const.specs.Faults.{least, better}
use Rattle.vs_const.specs.Meanings.{Meaning, Find}
use Rattle.vs_const.proofs.Least.{least_append}
use Rattle.vs_elaborated.specs.Limits.{the_limits}
use Rattle.vs_elaborated.specs.Environments.{Env, named as names_of}
use Rattle.vs_elaborated.specs.Statements.{TypedStatement}
use Rattle.vs_elaborated.specs.Functions.{LocalSignal, signal_at, meaning_or}
use Rattle.vs_elaborated.specs.NamedBlocks as spec
use Rattle.vs_elaborated.specs.NamedBlocks.{named_blocks, named_signals, clashes_within}
use Rattle.vs_elaborated.specs.Surveys.{Loops, scoped_signals, scoped_statement}
use Rattle.vs_elaborated.specs.Elaborated.{scoped_faults, variables_over}
use Rattle.vs_scope.specs.declared.signals.Start.{Start}
use Rattle.vs_scope.specs.declared.block_scopes.NamedBlock.{NamedBlock}
use Rattle.vs_scope.specs.declared.block_scopes.SaidBlocks.{SaidBlocks}
use Rattle.vs_scope.specs.Bits.{over}
use Rattle.vs_scope.specs.Locals.{inside_declared, inside_names, placed_local}
use Rattle.vs_scope.specs.LocalLists.{local_faults}
use Rattle.vs_scope.specs.NamedBlocks.{IsSaidBlocks, blocks_start, named}
use Rattle.vs_scope.specs.Signalled.{Placed}
use Rattle.vs_scope.proofs.NamedSignals.{over_is}
use Rattle.vs_items.specs.Blocks.{statement_within}
use Rattle.vs_elab.specs.Scoped.{block_at, totals_at}

-- its statement, by what names mean in it
pub statement_is : (frame : ℕ) (env : Env) (start : Start) (loops : Loops) (b : tree.AlwaysBlock) (bs : List spec.NamedBlock) (declared : ℕ → Meaning) (find : Find) → bs ≡ named_blocks b.statement
    → ((place : ℕ) → declared place ≡ meaning_or (signal_at (named_signals env (blocks_start start) bs) place)) → find ≡ names_of env
    → statement_within loops declared find b ≡ scoped_statement the_limits (block_at frame env b) (totals_at start loops)
statement_is frame env start loops b bs declared find e d f =
    let means : List spec.NamedBlock → ℕ → Meaning = λ xs place. meaning_or (signal_at (named_signals env (blocks_start start) xs) place) in
    ap (λ (g : ℕ → Meaning). statement_within loops g find b) (fun_ext (λ place. d place))
    ∙ ap (λ (xs : List spec.NamedBlock). statement_within loops (means xs) find b) e
    ∙ ap (λ (g : Find). statement_within loops (means (named_blocks b.statement)) g b) f

both_found : (x y o : Option Fault) (a b : List Fault) → x ≡ least a → y ≡ least b → o ≡ better x y → o ≡ least (a ++ b)
both_found x y o a b h k e = e ∙ ap (λ (q : Option Fault). better q y) h ∙ ap (better (least a)) k ∙ sym (least_append a b)

-- what is found in turn is the first of all
pub faults_found : (frame : ℕ) (env : Env) (start : Start) (loops : Loops) (b : tree.AlwaysBlock) (blocks : List NamedBlock) (said : SaidBlocks) (names found most last later first : Option Fault)
    → map named blocks ≡ named_blocks b.statement → inside_names said.inside ≡ names_of env → IsSaidBlocks said env start (map named blocks) → names ≡ least (flat_map clashes_within (map named blocks))
    → found ≡ least (statement_within loops (inside_declared said.inside) (inside_names said.inside) b).faults → most ≡ least (over the_limits.bits start.bit (map placed_local said.inside.locals.signals.items))
    → last ≡ better found most → later ≡ better said.fault last → first ≡ better names later → first ≡ least (scoped_faults the_limits (block_at frame env b) (totals_at start loops))
faults_found frame env start loops b blocks said names found most last later first e n s a f o x y z =
    let bs = named_blocks b.statement in
    let before = named_signals env (blocks_start start) (map named blocks) in
    let ss = scoped_signals (block_at frame env b) (totals_at start loops) in
    let same : before ≡ ss = ap (named_signals env (blocks_start start)) e in
    let t = scoped_statement the_limits (block_at frame env b) (totals_at start loops) in
    let bits = variables_over the_limits.bits start.bit ss in
    let clash : names ≡ least (flat_map clashes_within bs) = a ∙ ap (λ (xs : List spec.NamedBlock). least (flat_map clashes_within xs)) e in
    let ranges : said.fault ≡ least (local_faults ss) = s.fault ∙ ap (λ (xs : List LocalSignal). least (local_faults xs)) same in
    let statement : found ≡ least t.faults = f ∙ ap (λ (q : TypedStatement). least q.faults) (statement_is frame env start loops b (map named blocks) (inside_declared said.inside) (inside_names said.inside) e s.declared n) in
    let few : most ≡ least bits =
    o ∙ ap (λ (ps : List Placed). least (over the_limits.bits start.bit ps)) s.signals ∙ ap least (over_is the_limits.bits start.bit before) ∙ ap (λ (xs : List LocalSignal). least (variables_over the_limits.bits start.bit xs)) same in
    both_found names later first (flat_map clashes_within bs) (local_faults ss ++ (t.faults ++ bits)) clash (both_found said.fault last later (local_faults ss) (t.faults ++ bits) ranges (both_found found most last t.faults bits statement few x) y) z
