use Rattle.std.proofs.Common.{◌≡◌, ◌∙◌, ℕ, Vec, Global, map, slice_index, replicate, length, sym, ap, arith}
use Rattle.std.proofs.lemmas.Result.{IfOk-weaker}
use Rattle.vs_design.specs.Expressions.{OfSignal}
use Rattle.vs_design.specs.Values.{count_from}
use Rattle.vs_flat.specs.DesignOf.{arena_signals}
use Rattle.vs_flat.specs.Trees.{signal_at}
use Rattle.vs_values.specs.Constants.{constant_bits, word_slots}
use Rattle.vs_values.specs.Made.{source_slots}
use Rattle.vs_values.proofs.Named.{signal_within, within_is}
use Rattle.vs_values.proofs.Wording.{slots_of_word, slots_of_none}
use Rattle.vs_values.proofs.words.fixed_word.Goals as goal

pub run-requires-clause-inside : goal.run-requires-clause-inside
run-requires-clause-inside c = omega (arith, c.in_ok-first.ensures.inside c.in-Some.bit c.in-Some.is, c.word_width-width.ensures, within_is (length c.args.env.now) (signal_at (arena_signals c.args.templates.now.arena) c.args.signal) c.requires.within)

pub run-requires-clause-few : goal.run-requires-clause-few
run-requires-clause-few c =
    let few = c.flat.ensures.lawful.design.few_bits in
    let count = (c.trees_law.ensures.counts c.args.templates.now.arena).bits in
    let within = signal_within c.args.templates.now.arena c.args.signal c.flat.ensures.lawful.design.bits_numbered c.requires.signal in
    omega (arith, c.in_ok-first.ensures.inside c.in-Some.bit c.in-Some.is, c.word_width-width.ensures, within, few, count)

pub returns-in-Some : goal.returns-in-Some
returns-in-Some c =
    let signal = signal_at (arena_signals c.args.templates.now.arena) c.args.signal in
    let env = c.args.env.now in
    let address = constant_bits c.args.address.now in
    IfOk-weaker c.run.result
    (λ (to : Vec ℕ Global). to.items ≡ map (slice_index env) (count_from c.in-Some.bit c.word_width-width.result))
    (λ (to : Vec ℕ Global). to.items ≡ word_slots signal c.args.signed (source_slots env (OfSignal signal)) address)
    (λ to h.
    h ∙ ap (λ (k : ℕ). map (slice_index env) (count_from c.in-Some.bit k)) c.word_width-width.ensures
    ∙ sym (slots_of_word env signal c.args.signed address c.in-Some.bit (sym c.in_ok-first.ensures.value ∙ c.in-Some.is)))
    c.run.ensures

pub returns-in-None : goal.returns-in-None
returns-in-None c =
    let signal = signal_at (arena_signals c.args.templates.now.arena) c.args.signal in
    let env = c.args.env.now in
    let address = constant_bits c.args.address.now in
    IfOk-weaker c.repeated.result
    (λ (to : Vec ℕ Global). to.items ≡ replicate c.word_width-width.result 2)
    (λ (to : Vec ℕ Global). to.items ≡ word_slots signal c.args.signed (source_slots env (OfSignal signal)) address)
    (λ to h. h ∙ ap (λ (k : ℕ). replicate k 2) c.word_width-width.ensures ∙ sym (slots_of_none env signal c.args.signed address (sym c.in_ok-first.ensures.value ∙ c.in-None.is)))
    c.repeated.ensures
