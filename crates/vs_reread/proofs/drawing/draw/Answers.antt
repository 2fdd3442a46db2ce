use Rattle.std.proofs.Common.{◌≡◌, List, Option, Ok, IfSome, option_map, sym, ap, ◌∙◌, subst}
use Rattle.vs_lexer.specs.declared.token.Token.{Token}
use Rattle.vs_pre.specs.Reads.{ReadsAs}
use Rattle.vs_grammar.specs.Trees as tree
use Rattle.vs_grammar.specs.Spelled.{SpelledBy}
use Rattle.vs_ast.specs.Views as view
use Rattle.vs_tops.specs.Designs.{elaborated_by, elaborated_from}
use Rattle.vs_design.specs.Designs.{Design}
use Rattle.vs_flat.specs.Arena.{Arena}
use Rattle.vs_flat.specs.DesignOf.{design_of}
use Rattle.vs_flat.specs.Lawful.{IsLawful}
use Rattle.vs_names.specs.Drawn as D
use Rattle.vs_reread.specs.Drawings.{IsDesignOf}
use Rattle.vs_reread.proofs.Drawn.{none_of, some_of, same_tokens}
use Rattle.vs_reread.proofs.drawing.draw.Goals as goal

pub returns-in_default-clause-drawing : goal.returns-in_default-clause-drawing
returns-in_default-clause-drawing c = λ tokens design d.
    none_of ((ts : List Token) → ReadsAs c.args.text.now ts → ⊥) (λ v. ReadsAs c.args.text.now v.items) c.in_ok-tokens.field-0 c.in_default.is c.in_ok-tokens.ensures tokens d.reads

pub returns-in_default-2-clause-drawing : goal.returns-in_default-2-clause-drawing
returns-in_default-2-clause-drawing c = λ tokens design d.
    let text = c.args.text.now in
    let ts = c.as_slice.result.now in
    let reads : ReadsAs text ts = subst (λ (xs : List Token). ReadsAs text xs) (sym c.as_slice.ensures.value)
    (some_of ((ts : List Token) → ReadsAs text ts → ⊥) (λ v. ReadsAs text v.items) c.in_ok-tokens.field-0 c.in-Some.tokens c.in-Some.is c.in_ok-tokens.ensures) in
    none_of ((s : tree.Source) → SpelledBy text ts s → ⊥) (λ v. SpelledBy text ts (view.source v) × ((s : tree.Source) → SpelledBy text ts s → view.source v ≡ s)) c.in_ok-source.field-0 c.in_default-2.is c.in_ok-source.ensures
    d.source (subst (λ (xs : List Token). SpelledBy text xs d.source) (same_tokens text tokens ts d.reads reads) d.spelled)

pub flat_of-requires : goal.flat_of-requires
flat_of-requires c =
    let text = c.args.text.now in
    let ts = c.as_slice.result.now in
    let reads : ReadsAs text ts = subst (λ (xs : List Token). ReadsAs text xs) (sym c.as_slice.ensures.value)
    (some_of ((ts : List Token) → ReadsAs text ts → ⊥) (λ v. ReadsAs text v.items) c.in_ok-tokens.field-0 c.in-Some.tokens c.in-Some.is c.in_ok-tokens.ensures) in
    let spelled = some_of ((s : tree.Source) → SpelledBy text ts s → ⊥) (λ v. SpelledBy text ts (view.source v) × ((s : tree.Source) → SpelledBy text ts s → view.source v ≡ s)) c.in_ok-source.field-0 c.in-Some-2.source c.in-Some-2.is c.in_ok-source.ensures in
    c.shaped_law.ensures text ts (view.source c.in-Some-2.source) (c.kept_law.ensures text reads.written ts (c.tokens_law.ensures text reads.written reads.cut) reads.resolved) spelled.0

pub returns-in_default-3-clause-drawing : goal.returns-in_default-3-clause-drawing
returns-in_default-3-clause-drawing c = λ tokens design d.
    let text = c.args.text.now in
    let top = option_map (λ t. t.now) c.args.top in
    let ts = c.as_slice.result.now in
    let source = view.source c.in-Some-2.source in
    let reads : ReadsAs text ts = subst (λ (xs : List Token). ReadsAs text xs) (sym c.as_slice.ensures.value)
    (some_of ((ts : List Token) → ReadsAs text ts → ⊥) (λ v. ReadsAs text v.items) c.in_ok-tokens.field-0 c.in-Some.tokens c.in-Some.is c.in_ok-tokens.ensures) in
    let spelled = some_of ((s : tree.Source) → SpelledBy text ts s → ⊥) (λ v. SpelledBy text ts (view.source v) × ((s : tree.Source) → SpelledBy text ts s → view.source v ≡ s)) c.in_ok-source.field-0 c.in-Some-2.source c.in-Some-2.is c.in_ok-source.ensures in
    let same : source ≡ d.source = spelled.1 d.source (subst (λ (xs : List Token). SpelledBy text xs d.source) (same_tokens text tokens ts d.reads reads) d.spelled) in
    let name = option_map (λ n. n.now) c.in_ok-name.name in
    none_of ((e : Design) → elaborated_by source name ≡ Ok e → ⊥) (λ f. elaborated_by source name ≡ Ok (design_of f)) c.in_ok-flat.field-0 c.in_default-3.is c.in_ok-flat.ensures.design
    design (ap (elaborated_by source) c.in_ok-name.ensures ∙ ap (λ s. elaborated_from s top) same ∙ d.elaborates)

pub returns-clause-drawing : goal.returns-clause-drawing
returns-clause-drawing c =
    let text = c.args.text.now in
    let top = option_map (λ t. t.now) c.args.top in
    let ts = c.as_slice.result.now in
    let source = view.source c.in-Some-2.source in
    let items = c.in-Some.tokens.items in
    let reads : ReadsAs text items =
    some_of ((ts : List Token) → ReadsAs text ts → ⊥) (λ v. ReadsAs text v.items) c.in_ok-tokens.field-0 c.in-Some.tokens c.in-Some.is c.in_ok-tokens.ensures in
    let spelled = some_of ((s : tree.Source) → SpelledBy text ts s → ⊥) (λ v. SpelledBy text ts (view.source v) × ((s : tree.Source) → SpelledBy text ts s → view.source v ≡ s)) c.in_ok-source.field-0 c.in-Some-2.source c.in-Some-2.is c.in_ok-source.ensures in
    let name = option_map (λ n. n.now) c.in_ok-name.name in
    let elaborates = some_of ((e : Design) → elaborated_by source name ≡ Ok e → ⊥) (λ f. elaborated_by source name ≡ Ok (design_of f)) c.in_ok-flat.field-0 c.in-Some-3.flat c.in-Some-3.is c.in_ok-flat.ensures.design in
    subst (λ (d : D.Drawn). IsDesignOf text top d.tokens (design_of d.flat)) (sym c.of.ensures) (record {
      source = source;
      reads = reads;
      spelled = subst (λ (xs : List Token). SpelledBy text xs source) c.as_slice.ensures.value spelled.0;
      elaborates = ap (elaborated_by source) (sym c.in_ok-name.ensures) ∙ elaborates;
    })

pub returns-clause-lawful : goal.returns-clause-lawful
returns-clause-lawful c =
    let lawful = subst (λ (o : Option Arena). IfSome o IsLawful) c.in-Some-3.is c.in_ok-flat.ensures.lawful in
    subst (λ (d : D.Drawn). IsLawful d.flat) (sym c.of.ensures) lawful
