-- The shape of a call, by its function's result.
use Rattle.std.proofs.Common.{◌≡◌, ℕ, List, map, false, sym, ap, ◌∙◌, Some}
use Rattle.std.specs.Prelude.{min, slice_get}
use Rattle.vs_design.specs.Expressions as E
use Rattle.vs_design.specs.Statements as T
use Rattle.vs_flat.specs.declared.processes.Signal.{Signal}
use Rattle.vs_flat.specs.declared.functions.Declared.{Declared}
use Rattle.vs_flat.specs.declared.expressions.Node.{Node}
use Rattle.vs_flat.specs.declared.expressions.Node.TheVariants as N
use Rattle.vs_flat.specs.Arena.{Arena, signal_length, declared_at}
use Rattle.vs_flat.specs.Named.{locals_in}
use Rattle.vs_flat.specs.Laws.{EachLocal}
use Rattle.vs_flat.specs.Trees.{signal_of, signal_at, signals_from}
use Rattle.vs_flat.specs.DesignOf.{header_in, callee_of}
use Rattle.vs_shape.specs.declared.shape.Shape.{Shape}
use Rattle.vs_shape.specs.Shapes.{shape_of}
use Rattle.vs_shape.specs.Nodes.{tree_of, place_of, tree_of_node}
use Rattle.vs_shape.proofs.Gathering.{tree_is}

-- a function's result
pub result_is : EachLocal → (a : Arena) (f : ℕ) (d : Declared) (s : Signal) → declared_at a f ≡ Some d → slice_get d.function.signals d.function.inputs ≡ Some s → (header_in (declared_at a f)).result ≡ signal_of d.function.inputs s
result_is each a f d s at there =
    ap (λ o. (header_in o).result) at
    ∙ ap (λ o. signal_at (signals_from 0 (locals_in o)) d.function.inputs) (sym at)
    ∙ each a f d.function.inputs d s at there

shape_by : ℕ → Signal → Shape
shape_by w s = record { width = w; signed = s.signed; constant = false }

abbrev of_signal : E.Signal → Shape
of_signal x = record { width = min (E.signal_length x) 65; signed = x.signed; constant = false }

pub shape_is : (w n : ℕ) (s : Signal) (h : E.Header) (st : T.Statement) (es : E.Items) → w ≡ min (signal_length s) 65 → h.result ≡ signal_of n s → record { width = w; signed = s.signed; constant = false } ≡ shape_of (E.Call h st es)
unfolding shape_by
shape_is w n s h st es width result = ap (λ v. shape_by v s) width ∙ ap of_signal (sym result)

pub shape_of_call : (a kept : Arena) (e f : ℕ) (arguments : List ℕ) (n : Node) (result : Shape) → kept ≡ a → tree_of kept e ≡ E.At (place_of kept e) (tree_of_node kept n) → n ≡ N.Call f arguments
    → ((st : T.Statement) (es : E.Items) → result ≡ shape_of (E.Call (header_in (declared_at kept f)) st es)) → result ≡ shape_of (tree_of a e)
shape_of_call a kept e f arguments n result same tree is h =
    h (callee_of kept (tree_of kept) f).statement (E.items_of (map (tree_of kept) arguments)) ∙ ap (λ (x : Arena). shape_of (tree_of_node x (N.Call f arguments))) same ∙ ap shape_of (sym (tree_is a kept e n (N.Call f arguments) same tree is))
