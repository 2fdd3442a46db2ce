use Rattle.std.proofs.Common.{◌≡◌, Bool, ap, ap₂, ◌∙◌}
use Rattle.vs_four.specs.Logic.{BitList}
use Rattle.vs_four.specs.Selects.{Part, select}
use Rattle.vs_design.specs.Expressions as E
use Rattle.vs_design.specs.Values as V
use Rattle.vs_sets.specs.Nodes.{signal_of, tree_of}
use Rattle.vs_shape.specs.declared.shape.Shape.{Shape}
use Rattle.vs_writes.specs.Held.{state_of}
use Rattle.vs_interpret.proofs.evaluator.Evaluator.word_part.Goals as goal

pub returns-clause-value : goal.returns-clause-value
returns-clause-value c =
    let a = c.args.self.now.shapes.now in
    let s = signal_of a c.args.signal in
    let address = tree_of a c.args.address in
    let index = tree_of a c.args.index in
    let bits : BitList = V.read (state_of c.args.self.now.values.now) (V.bits_of_signal s) in
    let word : c.word_value-word.result ≡ V.select_word s (E.sign address) bits c.args.address_value =
    c.word_value-word.ensures.value ∙ ap (λ (g : Bool). V.select_word s g bits c.args.address_value) (ap (λ (x : Shape). x.signed) c.shape-signed.ensures) in
    c.selected.ensures.value
    ∙ ap (λ (p : Part). select p c.shape-signed-2.result.signed c.word_value-word.result c.args.index_value) c.part.view_is
    ∙ ap₂ (λ (g : Bool) (v : BitList). select c.args.part g v c.args.index_value) (ap (λ (x : Shape). x.signed) c.shape-signed-2.ensures) word
