-- The faults of an always block, and of an initial one.
use Rattle.std.proofs.Common.{◌≡◌, ℕ, Bool, true, false, ◌-◌, List, [], ◌∷◌, ◌++◌, map, length, Option, refl, ap, sym, ◌∙◌, subst, arith}
use Rattle.vs_grammar.specs.Trees as tree
use Rattle.vs_const.specs.declared.faults.Fault.{Fault}
use Rattle.vs_const.specs.declared.rules.Rule.TheVariants.{LoopVariable}
use Rattle.vs_const.specs.Faults.{least, better}
use Rattle.vs_const.specs.Meanings.{Meaning, Barred, Find}
use Rattle.vs_const.proofs.Least.{least_append}
use Rattle.vs_elaborated.specs.Environments.{Env, named}
use Rattle.vs_elaborated.specs.Limits.{Limits, the_limits}
use Rattle.vs_elaborated.specs.Statements.{Body, unrolled_within, is_clocked_by}
use Rattle.vs_elaborated.specs.NamedBlocks as spec
use Rattle.vs_scope.specs.declared.block_scopes.NamedBlock.{NamedBlock}
use Rattle.vs_scope.specs.NamedBlocks.{named as named_block}
use Rattle.vs_elaborated.specs.Surveys.{Loops, block_statement, initial_body, initial_statement}
use Rattle.vs_bodies.specs.declared.said.StatementSaid.{StatementSaid}
use Rattle.vs_bodies.specs.Said.{IsSaid}
use Rattle.vs_items.specs.Blocks.{statement_within}

-- an always block, which is clocked or not
abbrev pub alone_body : (clocked : Bool) → Body
alone_body clocked = record { declared = λ place. Barred LoopVariable; in_function = false; takes_variables = true; clocked = clocked; unrolls = true }

-- its statement, with so many copies left
pub statement_said : (limits : Limits) (env : Env) (loops : Loops) (b : tree.AlwaysBlock) (said : StatementSaid) (left : ℕ) (clocked : Bool) → left ≡ limits.copies - loops.copies → clocked ≡ is_clocked_by b.control
    → IsSaid said (unrolled_within left b.statement (alone_body clocked) (named env)) → IsSaid said (block_statement limits env loops b)
statement_said limits env loops b said left clocked h k s =
    subst (λ (n : ℕ). IsSaid said (unrolled_within n b.statement (alone_body (is_clocked_by b.control)) (named env))) h
    (subst (λ (c : Bool). IsSaid said (unrolled_within left b.statement (alone_body c) (named env))) k s)

-- and where the variables of its named blocks mean this
abbrev pub named_body : (declared : ℕ → Meaning) (clocked : Bool) → Body
named_body declared clocked = record { declared = declared; in_function = false; takes_variables = true; clocked = clocked; unrolls = true }

pub within_said : (loops : Loops) (declared : ℕ → Meaning) (find : Find) (b : tree.AlwaysBlock) (said : StatementSaid) (left : ℕ) (clocked : Bool) → left ≡ the_limits.copies - loops.copies → clocked ≡ is_clocked_by b.control
    → IsSaid said (unrolled_within left b.statement (named_body declared clocked) find) → IsSaid said (statement_within loops declared find b)
within_said loops declared find b said left clocked h k s =
    subst (λ (n : ℕ). IsSaid said (unrolled_within n b.statement (named_body declared (is_clocked_by b.control)) find)) h
    (subst (λ (c : Bool). IsSaid said (unrolled_within left b.statement (named_body declared c) find)) k s)

-- the statement of an initial block
pub initial_statement_said : (limits : Limits) (env : Env) (loops : Loops) (b : tree.InitialBlock) (said : StatementSaid) (left : ℕ) → left ≡ limits.copies - loops.copies
    → IsSaid said (unrolled_within left b.statement initial_body (named env)) → IsSaid said (initial_statement limits env loops b)
initial_statement_said limits env loops b said left h s = subst (λ (n : ℕ). IsSaid said (unrolled_within n b.statement initial_body (named env))) h s

-- the first of three lists
pub first_of_three : (a b c later both : Option Fault) (fs gs hs : List Fault) → both ≡ better a later → later ≡ better b c → a ≡ least fs → b ≡ least gs → c ≡ least hs → both ≡ least (fs ++ (gs ++ hs))
first_of_three a b c later both fs gs hs k h e f g =
    k ∙ ap (better a) (h ∙ ap (λ x. better x c) f ∙ ap (better (least gs)) g ∙ sym (least_append gs hs)) ∙ ap (λ x. better x (least (gs ++ hs))) e ∙ sym (least_append fs (gs ++ hs))

-- named blocks that are scopes: none, and some
pub none_named : (xs : List NamedBlock) (ns : List spec.NamedBlock) → map named_block xs ≡ ns → length xs ≡ 0 → ns ≡ []
none_named [] ns h e = sym h
none_named (x ∷ xs) ns h e = absurd (let no : ⊥ = omega (arith, e) in no)

pub some_named : (xs : List NamedBlock) (ns : List spec.NamedBlock) → map named_block xs ≡ ns → (length xs ≡ 0 → ⊥) → (n : spec.NamedBlock) × (rest : List spec.NamedBlock) × (ns ≡ n ∷ rest)
some_named [] ns h e = absurd (e refl)
some_named (x ∷ xs) ns h e = (named_block x, map named_block xs, sym h)
