use Rattle.std.proofs.Common.{◌≡◌, ◌∙◌, ℕ, List, Vec, Global, ap, subst, sym, refl, inl, inr, true≢false}
use Rattle.std.proofs.lemmas.Result.{IfOk-weaker}
use Rattle.vs_design.specs.Expressions.{OfSignal}
use Rattle.vs_flat.specs.DesignOf.{arena_signals}
use Rattle.vs_flat.specs.Trees.{signal_at}
use Rattle.vs_values.specs.Constants.{AreConstant, constant_bits, extended_slots, word_slots}
use Rattle.vs_values.specs.Made.{IsWord, source_slots}
use Rattle.vs_values.proofs.words.chosen_word.Goals as goal

pub returns-then-are_constant : goal.returns-then-are_constant
returns-then-are_constant c =
    let signal = signal_at (arena_signals c.args.templates.now.arena) c.args.signal in
    let from = source_slots c.args.env.now (OfSignal signal) in
    let w = c.args.context.width in
    let s = c.args.context.signed in
    let fixed : AreConstant c.args.address.items = subst AreConstant c.as_slice.ensures.value (c.are_constant.ensures.0 c.if-are_constant.true) in
    IfOk-weaker c.extended.result
    (λ (to : Vec ℕ Global). to.items ≡ extended_slots w s c.in_ok-fixed.fixed.items)
    (λ (to : Vec ℕ Global). IsWord signal c.args.signed w s from c.args.address.items c.args.code.now c.args.code.now to.items)
    (λ to h.
    inl (
      fixed,
      record {
        same = refl;
        are = h ∙ ap (extended_slots w s) c.in_ok-fixed.ensures ∙ ap (λ (x : List ℕ). extended_slots w s (word_slots signal c.args.signed from (constant_bits x))) c.as_slice-then-are_constant.ensures.value;
      },
    ))
    c.extended.ensures

pub returns : goal.returns
returns c =
    let signal = signal_at (arena_signals c.args.templates.now.arena) c.args.signal in
    let from = source_slots c.args.env.now (OfSignal signal) in
    let w = c.args.context.width in
    let s = c.args.context.signed in
    IfOk-weaker c.extended-2.result
    (λ (to : Vec ℕ Global). to.items ≡ extended_slots w s c.in_ok-read.read.items)
    (λ (to : Vec ℕ Global). IsWord signal c.args.signed w s from c.args.address.items c.args.code.now c.called_word.new.code to.items)
    (λ to h.
    inr (record {
      variable = λ fixed. true≢false (sym (c.are_constant.ensures.1 (subst AreConstant (sym c.as_slice.ensures.value) fixed)) ∙ c.if-are_constant.false);
      call = c.in_ok-read.ensures.ok;
      are = h ∙ ap (extended_slots w s) c.in_ok-read.ensures.to;
    }))
    c.extended-2.ensures
