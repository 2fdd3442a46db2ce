use Rattle.std.proofs.Common.{◌+◌, ◌*◌, sym, ap, ◌∙◌, arith}
use Rattle.std.proofs.lemmas.Bool.{cond-true, cond-false}
use Rattle.vs_four.specs.Selects.{places}
use Rattle.vs_design.specs.Expressions as E
use Rattle.vs_design.specs.LiftedBodies.{put_each, widen}
use Rattle.vs_design.specs.Values.{count_from}
use Rattle.vs_sets.specs.Nodes.{tree_of}
use Rattle.vs_sets.specs.Tables.{bits_from, family_of}
use Rattle.vs_shape.specs.declared.shape.Shape.{Shape}
use Rattle.vs_sets.proofs.targets.write_in_word.Goals as goal

pub put_places-requires-clause-inside : goal.put_places-requires-clause-inside
put_places-requires-clause-inside c k m h = omega (arith, c.places_of-places.ensures.inside k m h, c.requires.long, c.requires.inside)

pub put_places-requires-clause-same_length : goal.put_places-requires-clause-same_length
put_places-requires-clause-same_length c = c.requires.many ∙ sym c.places_of-places.ensures.length

pub widen_run-requires : goal.widen_run-requires
widen_run-requires c = omega (arith, c.requires.inside)

pub returns-then-by : goal.returns-then-by
returns-then-by c =
    let index = tree_of c.args.shapes.now c.args.index in
    let first = c.args.memory.first + c.args.n * c.args.memory.len in
    let places_are = c.places_of-places.ensures.value ∙ ap (λ (s : Shape). places c.args.part s.signed c.constant_value.result) c.shape-by.ensures ∙ ap (places c.args.part (E.sign index)) c.constant_value.ensures.value in
    c.put_places.ensures ∙ ap (λ qs. put_each (bits_from first qs) c.args.sets.now (family_of c.args.table.now)) places_are ∙ sym (cond-true (E.is_constant index) _ _ (sym (ap (λ (s : Shape). s.constant) c.shape-by.ensures) ∙ c.if-by.true))

pub returns-else-by : goal.returns-else-by
returns-else-by c =
    let index = tree_of c.args.shapes.now c.args.index in
    let first = c.args.memory.first + c.args.n * c.args.memory.len in
    c.widen_run.ensures ∙ ap (λ x. widen (count_from first c.args.memory.len) x (family_of c.args.table.now)) c.all_of.ensures ∙ sym (cond-false (E.is_constant index) _ _ (sym (ap (λ (s : Shape). s.constant) c.shape-by.ensures) ∙ c.if-by.false))
