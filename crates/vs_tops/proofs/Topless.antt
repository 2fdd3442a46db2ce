-- A text without a top.
use Rattle.std.proofs.Common.{◌≡◌, [], Option, None, Some, refl, sym, ◌∙◌}
use Rattle.std.specs.Prelude.{Result, Err}
use Rattle.vs_grammar.specs.Trees.{Source}
use Rattle.vs_const.specs.declared.faults.Fault.{Fault}
use Rattle.vs_const.specs.declared.rules.Rule.TheVariants.{NoTop}
use Rattle.vs_const.specs.Faults.{least}
use Rattle.vs_design.specs.Designs.{Design}
use Rattle.vs_elaborated.specs.Elaborated.{repeated_modules}
use Rattle.vs_tops.specs.Designs.{elaborated_by}

-- a module is declared twice
pub repeated_first : (source : Source) (o : Option Fault) (f : Fault) → o ≡ least (repeated_modules [] source.modules) → o ≡ Some f → elaborated_by source None ≡ Err f
repeated_first source o f h e = by (least (repeated_modules [] source.modules)) (sym h ∙ e)
  where
    by : (l : Option Fault) → l ≡ Some f → (let r : Result Design Fault = elim l [ None ↦ Err (record { rule = NoTop; place = 0 }) | Some a ↦ Err a ] in r) ≡ Err f
    by None i = cc
    by (Some a) i = cc

-- none is
pub topless : (source : Source) (o : Option Fault) → o ≡ least (repeated_modules [] source.modules) → o ≡ None → elaborated_by source None ≡ Err (record { rule = NoTop; place = 0 })
topless source o h e = by (least (repeated_modules [] source.modules)) (sym h ∙ e)
  where
    by : (l : Option Fault) → l ≡ None → (let r : Result Design Fault = elim l [ None ↦ Err (record { rule = NoTop; place = 0 }) | Some a ↦ Err a ] in r) ≡ Err (record { rule = NoTop; place = 0 })
    by None i = refl
    by (Some a) i = cc
