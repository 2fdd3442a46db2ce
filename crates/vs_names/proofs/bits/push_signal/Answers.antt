use Rattle.std.proofs.Common.{◌≡◌, ℕ, ◌<◌, ◌++◌, List, length, Option, Some, codes, decimal, sym, ap, arith}
use Rattle.std.specs.List.{slice_get}
use Rattle.std.specs.Option.{option_map_or}
use Rattle.std.proofs.lemmas.Option.{slice_get-get_or}
use Rattle.vs_design.specs.Expressions as E
use Rattle.vs_flat.specs.DesignOf.{arena_signals, design_of}
use Rattle.vs_flat.specs.Trees.{signal_of, no_signal}
use Rattle.vs_names.specs.Names as spec
use Rattle.vs_names.proofs.Added.{then_ok, as_ok}
use Rattle.vs_names.proofs.bits.push_signal.Goals as goal

there : (f : E.Signal → List ℕ) (none : List ℕ) (o : Option E.Signal) (s r : E.Signal) → o ≡ Some s → s ≡ r → f r ≡ option_map_or f o none
there f none o s r h k = rw h (ap f (sym k))

pub returns : goal.returns
returns c =
    let a = c.args.flat.now in
    let n = c.args.signal in
    let s = c.signal-known.result.now in
    let d = design_of a in
    let within : n < length (arena_signals a) = omega (arith, (c.trees_law.ensures.counts a).signals, c.signal_count.ensures.count, c.if-signal-signal_count.false) in
    as_ok c.push_address.result _ _ _ _
    (there (λ (s : E.Signal). spec.kind_text s ++ (spec.signal_text d s ++ spec.address_text s)) (codes "signal " ++ decimal n) (slice_get (arena_signals a) n) _ (signal_of n s) (slice_get-get_or (arena_signals a) n no_signal within)
    (c.trees_law.ensures.signals a n s c.signal-known.ensures))
    (then_ok c.push_address.result _ _ _ (spec.kind_text (signal_of n s)) _ (c.in_ok-push_kind.ensures n)
    (then_ok c.push_address.result _ _ _ (spec.signal_text d (signal_of n s)) _ (c.in_ok-push_name.ensures n) (c.push_address.ensures n)))
