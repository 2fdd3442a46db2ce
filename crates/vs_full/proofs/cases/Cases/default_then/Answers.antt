use Rattle.std.proofs.Common.{◌≡◌, Bool, true, List, Option, ℕ, length, if◌then◌else◌, sym, ap, ◌∙◌, subst, arith}
use Rattle.vs_design.specs.Sets.{Set4}
use Rattle.vs_design.specs.Statements as T
use Rattle.vs_design.specs.Within.{arms_within, names_within}
use Rattle.vs_flat.specs.DesignOf.{design_of}
use Rattle.vs_flat.specs.Lawful.{IsLawful}
use Rattle.vs_sets.specs.Completing.{last_arm}
use Rattle.vs_sets.specs.Nodes.{tree_of}
use Rattle.vs_sets.specs.StatementParts.{arms_of, statement_of}
use Rattle.vs_sets.specs.Tables.{known_of}
use Rattle.vs_sets.proofs.Fit.{and_right}
use Rattle.vs_full.proofs.Forming.{form_constant}
use Rattle.vs_full.proofs.Noting.{case_formed}
use Rattle.vs_full.proofs.Reading.{full_form, read_below}
use Rattle.vs_full.proofs.cases.Cases.default_then.Goals as goal

abbrev chosen : Bool → Option ℕ → Option ℕ → Option ℕ
chosen c x y = if c then x else y

pub last_arm-requires-clause-known : goal.last_arm-requires-clause-known
last_arm-requires-clause-known c = subst known_of (sym c.known.ensures) c.requires.sound.known

pub last_arm-requires-clause-reads : goal.last_arm-requires-clause-reads
last_arm-requires-clause-reads c = λ b r.
    let a = c.args.shapes.now in
    let d = design_of a in
    let lawful = subst IsLawful c.flat.ensures.same c.flat.ensures.lawful in
    let formed = case_formed d c.args.kind (tree_of a c.args.of) (arms_of a c.args.other c.args.arms.now) c.requires.formed in
    let below = read_below d lawful.design.bits_numbered (tree_of a c.args.of) b formed.0 r in
    omega (arith, below, c.requires.sound.count, ap (λ (t : List Set4). length t) c.known.ensures)

pub last_arm-requires-clause-constant : goal.last_arm-requires-clause-constant
last_arm-requires-clause-constant c =
    let a = c.args.shapes.now in
    form_constant (design_of a) (tree_of a c.args.of) (tree_of a) (statement_of a) c.args.other c.args.arms.now (full_form (design_of a) c.args.kind (tree_of a c.args.of) (arms_of a c.args.other c.args.arms.now) (sym c.requires.full ∙ c.if-not-full.false))

pub last_arm-requires-clause-of_within : goal.last_arm-requires-clause-of_within
last_arm-requires-clause-of_within c =
    let a = c.args.shapes.now in
    let d = design_of a in
    let lawful = subst IsLawful c.flat.ensures.same c.flat.ensures.lawful in
    let formed = case_formed d c.args.kind (tree_of a c.args.of) (arms_of a c.args.other c.args.arms.now) c.requires.formed in
    subst (λ (n : ℕ). names_within n (tree_of a c.args.of) ≡ true) (sym (ap (λ (t : List Set4). length t) c.known.ensures ∙ c.requires.sound.count)) (c.within_law.ensures.expressions d lawful.design.bits_numbered (tree_of a c.args.of) formed.0)

pub last_arm-requires-clause-names : goal.last_arm-requires-clause-names
last_arm-requires-clause-names c =
    let a = c.args.shapes.now in
    let d = design_of a in
    let lawful = subst IsLawful c.flat.ensures.same c.flat.ensures.lawful in
    let arms = arms_of a c.args.other c.args.arms.now in
    let whole = c.within_law.ensures.statements d lawful.design.bits_numbered (T.Case c.args.kind (tree_of a c.args.of) arms) c.requires.formed in
    subst (λ (n : ℕ). arms_within n arms ≡ true) (sym (ap (λ (t : List Set4). length t) c.known.ensures ∙ c.requires.sound.count)) (and_right (names_within _ (tree_of a c.args.of)) (arms_within _ arms) whole)

pub returns-then-not-full : goal.returns-then-not-full
returns-then-not-full c =
    let a = c.args.shapes.now in
    sym (ap (λ (t : Bool). chosen t (last_arm a c.args.kind c.args.of c.args.arms.now c.args.other) c.args.other) (sym c.requires.full ∙ c.if-not-full.true))

pub returns : goal.returns
returns c =
    let a = c.args.shapes.now in
    c.in_ok-last.ensures ∙ sym (ap (λ (t : Bool). chosen t (last_arm a c.args.kind c.args.of c.args.arms.now c.args.other) c.args.other) (sym c.requires.full ∙ c.if-not-full.false))
