use Rattle.std.proofs.Common.{ℕ, ◌<◌, List, ◌++◌, length, sym, ap, ◌∙◌, subst, append_assoc, append-nil, arith}
use Rattle.std.specs.Prelude.{Option}
use Rattle.std.proofs.lemmas.Option.{slice_get_within}
use Rattle.vs_flat.specs.DesignOf.{design_of}
use Rattle.vs_flat.specs.Trees.{signal_of}
use Rattle.vs_vcd.specs.Scopes.{variable_line}
use Rattle.vs_vcd.specs.Shared.{code_at, coded_by}
use Rattle.vs_vcd.specs.Steps.{signal_keys}
use Rattle.vs_vcd.proofs.Arenas.{coded-at, coded-keys, length-coded, linked_coded}
use Rattle.vs_vcd.proofs.Grouping.{numbers_left}
use Rattle.vs_vcd.proofs.Outline.{variables_at, variables_at-none, first_variable, next_variable, length-signal_keys, found_shown}
use Rattle.vs_vcd.proofs.declarations.push_variables.Goals as goal

pub loop-link-init : goal.loop-link-init
loop-link-init c =
    let code = code_at c.args.codes.now in
    let signals = (coded_by code (design_of c.args.flat.now)).signals in
    let first = first_variable signals c.args.scope _ c.args.groups.now.first.items c.args.groups.now.next.items c.first-link.result (linked_coded code (design_of c.args.flat.now) _ _ _ c.requires.linked) c.requires.scope c.first-link.ensures in
    record { text = ap (λ (t : List ℕ). c.args.text.now.items ++ t) first.text; linked = first.linked }

pub signal-requires : goal.signal-requires
signal-requires c =
    let code = code_at c.args.codes.now in
    let signals = (coded_by code (design_of c.args.flat.now)).signals in
    let within = slice_get_within (signal_keys signals) c.in-Some.number _ (c.loop-link.invariant.linked.found c.in-Some.number c.in-Some.is) in
    omega (arith, within, length-signal_keys signals, length-coded c.args.flat.now code)

pub push_variable-requires : goal.push_variable-requires
push_variable-requires c =
    let code = code_at c.args.codes.now in
    let signals = (coded_by code (design_of c.args.flat.now)).signals in
    let number = c.in-Some.number in
    let here = coded-at c.args.flat.now code number c.signal.result.now c.signal.ensures in
    (found_shown signals number c.args.scope (signal_of (code number) c.signal.result.now) (c.loop-link.invariant.linked.found number c.in-Some.is) here).shown

pub next-link-requires : goal.next-link-requires
next-link-requires c =
    let code = code_at c.args.codes.now in
    let signals = (coded_by code (design_of c.args.flat.now)).signals in
    let within = slice_get_within (signal_keys signals) c.in-Some.number _ (c.loop-link.invariant.linked.found c.in-Some.number c.in-Some.is) in
    omega (arith, within, c.requires.linked.numbers_long, ap length (coded-keys code (design_of c.args.flat.now)))

pub loop-link-smaller : goal.loop-link-smaller
loop-link-smaller c =
    let code = code_at c.args.codes.now in
    let signals = (coded_by code (design_of c.args.flat.now)).signals in
    let number = c.in-Some.number in
    let here = coded-at c.args.flat.now code number c.signal.result.now c.signal.ensures in
    let next = next_variable signals c.args.scope _ number (signal_of (code number) c.signal.result.now) c.args.groups.now.first.items c.args.groups.now.next.items c.next-link.result (linked_coded code (design_of c.args.flat.now) _ _ _ c.requires.linked) c.requires.scope (c.loop-link.invariant.linked.found number c.in-Some.is) here c.next-link.ensures in
    subst (λ (o : Option ℕ). numbers_left (length signals) c.next-link.result < numbers_left (length signals) o) (sym c.in-Some.is) next.smaller

pub loop-link-preserved : goal.loop-link-preserved
loop-link-preserved c =
    let code = code_at c.args.codes.now in
    let signals = (coded_by code (design_of c.args.flat.now)).signals in
    let number = c.in-Some.number in
    let here = coded-at c.args.flat.now code number c.signal.result.now c.signal.ensures in
    let next = next_variable signals c.args.scope _ number (signal_of (code number) c.signal.result.now) c.args.groups.now.first.items c.args.groups.now.next.items c.next-link.result (linked_coded code (design_of c.args.flat.now) _ _ _ c.requires.linked) c.requires.scope (c.loop-link.invariant.linked.found number c.in-Some.is) here c.next-link.ensures in
    let after = variables_at signals c.args.scope c.next-link.result in
    record {
      text = ap (λ (t : List ℕ). t ++ after) (c.in_ok-push_variable.ensures ∙ ap (λ (k : ℕ). c.loop-link.text.items ++ variable_line (signal_of k c.signal.result.now)) c.code.ensures)
          ∙ append_assoc c.loop-link.text.items _ after
          ∙ ap (λ (t : List ℕ). c.loop-link.text.items ++ t) (sym next.text ∙ ap (variables_at signals c.args.scope) (sym c.in-Some.is))
          ∙ c.loop-link.invariant.text;
      linked = next.linked;
    }

pub returns : goal.returns
returns c =
    let code = code_at c.args.codes.now in
    let signals = (coded_by code (design_of c.args.flat.now)).signals in
    sym (append-nil c.loop-link.text.items)
    ∙ ap (λ (t : List ℕ). c.loop-link.text.items ++ t) (sym (variables_at-none signals c.args.scope c.loop-link.link c.in_default.is))
    ∙ c.loop-link.invariant.text
