use Rattle.std.proofs.Common.{◌≡◌, ◌∙◌, ◌<◌, ℕ, List, Option, Some, map, length, sym, ap, subst, arith}
use Rattle.std.specs.Prelude.{OnOk}
use Rattle.std.specs.List.{All}
use Rattle.vs_design.specs.Bodies.{bits_at}
use Rattle.vs_design.specs.Values.{count_from, word_places}
use Rattle.vs_flat.specs.DesignOf.{arena_signals}
use Rattle.vs_flat.specs.Trees.{signal_at, signal_of}
use Rattle.vs_design.specs.Expressions.{Signal, signal_length}
use Rattle.vs_values.specs.Constants.{constant_bits}
use Rattle.vs_values.specs.Environments.{placed}
use Rattle.vs_values.proofs.Named.{all_run, length_count}
use Rattle.vs_lower.proofs.Reaching.{within_is}
use Rattle.vs_lower.proofs.Wordwise.{word_run, no_word}
use Rattle.vs_lower.proofs.writes.place_word.Goals as goal

pub numbers-requires : goal.numbers-requires
numbers-requires c =
    let inside = c.in_ok-first.ensures.inside c.in-Some.bit c.in-Some.is in
    let a = c.args.templates.now.arena in
    let s = signal_at (arena_signals a) c.args.signal in
    let is : s ≡ signal_of c.args.signal c.declared.result.now = c.declared.ensures.is in
    let long : signal_length s ≡ signal_length (signal_of c.args.signal c.declared.result.now) = ap signal_length is in
    let first : s.first ≡ c.declared.result.now.first_bit = ap (λ (x : Signal). x.first) is in
    omega (arith, inside, c.requires.alike, long, first, c.declared.ensures.few)

pub place-requires-clause-inside : goal.place-requires-clause-inside
place-requires-clause-inside c =
    let inside = c.in_ok-first.ensures.inside c.in-Some.bit c.in-Some.is in
    let P : ℕ → Type 0 = λ b. b < length c.args.env.now in
    subst (All P) (sym (c.as_slice.ensures.value ∙ c.in_ok-bits-in-Some.ensures)) (all_run c.in-Some.bit (length c.args.value.now) (length c.args.env.now) (omega (arith, inside, c.requires.alike, within_is (length c.args.env.now) (signal_at (arena_signals c.args.templates.now.arena) c.args.signal) c.requires.within)))

pub place-requires-clause-alike : goal.place-requires-clause-alike
place-requires-clause-alike c = ap length (c.as_slice.ensures.value ∙ c.in_ok-bits-in-Some.ensures) ∙ length_count c.in-Some.bit (length c.args.value.now)

pub returns-in_ok-bits-in-Some : goal.returns-in_ok-bits-in-Some
returns-in_ok-bits-in-Some c =
    let signal = signal_at (arena_signals c.args.templates.now.arena) c.args.signal in
    let env = c.args.env.now in
    let value = c.args.value.now in
    let are : map Some c.as_slice.result.now ≡ bits_at signal (word_places signal c.args.signed (constant_bits c.args.address.now)) =
    ap (λ (bs : List ℕ). map Some bs) (c.as_slice.ensures.value ∙ c.in_ok-bits-in-Some.ensures)
    ∙ ap (λ (n : ℕ). map Some (count_from c.in-Some.bit n)) c.requires.alike
    ∙ sym (word_run signal c.args.signed (constant_bits c.args.address.now) c.in-Some.bit (sym c.in_ok-first.ensures.value ∙ c.in-Some.is)) in
    subst (λ (ps : List (Option ℕ)). OnOk c.place.result (c.place.new.env ≡ placed env ps value)) are c.place.ensures

pub returns-in-None : goal.returns-in-None
returns-in-None c =
    let signal = signal_at (arena_signals c.args.templates.now.arena) c.args.signal in
    sym (no_word signal c.args.signed (constant_bits c.args.address.now) c.args.env.now c.args.value.now (sym c.in_ok-first.ensures.value ∙ c.in-None.is))
