use Rattle.std.proofs.Common.{◌≡◌, ◌++◌, List, [], map, Option, sym, ap, ◌∙◌, subst}
use Rattle.vs_const.specs.declared.faults.Fault.{Fault}
use Rattle.vs_const.specs.Faults.{least}
use Rattle.vs_elaborated.specs.Environments.{Entry}
use Rattle.vs_elaborated.specs.Generate.{BlockName}
use Rattle.vs_elaborated.specs.Surveys.{block_entries, block_faults}
use Rattle.vs_scope.specs.declared.clashes.NamedBlock.{NamedBlock}
use Rattle.vs_scope.specs.declared.made.BlockName.{BlockName as BlockNameOf}
use Rattle.vs_scope.specs.Clashes.{AreNew, NameAt, block_of, block_text, blocks_of, clash_faults}
use Rattle.vs_scope.specs.Made.{block_name}
use Rattle.vs_scope.specs.Surveys.{MeanTheSame}
use Rattle.vs_scope.specs.Views.{entries}
use Rattle.vs_scope.proofs.ClashSteps.{clash_is, none_clash, texts_are}
use Rattle.vs_scope.proofs.names.Names.add_blocks.Goals as goal

-- what is found of their texts is what is said of the names
first_fault : (es : List Entry) (texts : List NamedBlock) (names : List BlockNameOf) (all : List BlockName) (f : Option Fault) → f ≡ least (clash_faults es [] (map block_of texts)) → map block_of texts ≡ map block_text (map block_name names) → map block_name names ≡ all
    → f ≡ least (block_faults es [] all)
first_fault es texts names all f h e k =
    h ∙ ap (λ (x : List NameAt). least (clash_faults es [] x)) e ∙ ap least (clash_is es [] (map block_name names)) ∙ ap (λ (x : List BlockName). least (block_faults es [] x)) k

pub returns-clause-fault : goal.returns-clause-fault
returns-clause-fault c =
    let names = c.in_ok-names.names.items in
    first_fault (entries c.args.self.now) c.in_ok-blocks.blocks.items names (blocks_of c.args.made.now) c.in_ok-fault.fault
    (c.in_ok-fault.ensures ∙ ap (λ (x : List NamedBlock). least (clash_faults (entries c.args.self.now) [] (map block_of x))) c.as_slice-2.ensures.value)
    (c.in_ok-blocks.ensures ∙ texts_are c.as_slice.result.now ∙ ap (λ (x : List BlockNameOf). map block_text (map block_name x)) c.as_slice.ensures.value) c.in_ok-names.ensures

pub returns-clause-same : goal.returns-clause-same
returns-clause-same c =
    subst (λ (x : List BlockName). MeanTheSame (entries c.declare_blocks.new.self) (entries c.args.self.now ++ block_entries x)) (ap (map block_name) c.as_slice-3.ensures.value ∙ c.in_ok-names.ensures) c.in_ok-declare_blocks.ensures.same

pub returns-clause-new : goal.returns-clause-new
returns-clause-new c = λ none.
    let es = entries c.args.self.now in
    let is = ap (map block_name) c.as_slice-3.ensures.value ∙ c.in_ok-names.ensures in
    let fault =
    first_fault es c.in_ok-blocks.blocks.items c.in_ok-names.names.items (blocks_of c.args.made.now) c.in_ok-fault.fault
    (c.in_ok-fault.ensures ∙ ap (λ (x : List NamedBlock). least (clash_faults es [] (map block_of x))) c.as_slice-2.ensures.value)
    (c.in_ok-blocks.ensures ∙ texts_are c.as_slice.result.now ∙ ap (λ (x : List BlockNameOf). map block_text (map block_name x)) c.as_slice.ensures.value) c.in_ok-names.ensures in
    subst (λ (x : List BlockName). AreNew es (block_entries x) → entries c.declare_blocks.new.self ≡ es ++ block_entries x) is c.in_ok-declare_blocks.ensures.new (none_clash es (blocks_of c.args.made.now) (sym fault ∙ none))
