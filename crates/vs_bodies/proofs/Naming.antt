-- What names mean within loops and named blocks.
use Rattle.std.proofs.Common.{◌≡◌, ℕ, Bool, true, false, List, Option, Some, None, length, if◌then◌else◌, refl, sym, ap, ◌∙◌, arith}
use mathlib.Core.Path.{fun_ext}
use Rattle.vs_four.specs.Logic.{BitList}
use Rattle.vs_design.specs.Clocks.{same_name}
use Rattle.vs_ast.specs.Views as view
use Rattle.vs_const.specs.Meanings.{Meaning, Find, turn_value, turning, IsFairMeaning, IsFair}
use Rattle.vs_elaborated.specs.Statements as statements
use Rattle.vs_maps.specs.Maps.{value_at}
use Rattle.vs_maps.specs.MapViews.{pairs}
use Rattle.vs_maps.specs.declared.maps.NameMap.{NameMap}
use Rattle.vs_bodies.specs.declared.layers.Local.{Local}
use Rattle.vs_bodies.specs.Layers.{meaning_or, local_of, AreLocals}

-- a value of 32 bits is fair
pub fair_turn : (find : Find) (integer : List ℕ) (bits : BitList) → length bits ≡ 32 → IsFair find → IsFair (turning find integer bits)
fair_turn find integer bits e f = λ name. by name (same_name integer name)
  where
    by : (name : List ℕ) (b : Bool) → IsFairMeaning (if b then turn_value bits else find name)
    by name true = record { some = omega (arith, e); most = omega (arith, e); range = sym e }
    by name false = f name

of_locals : (declared : ℕ → Meaning) (o : Option statements.Local) (m : Meaning) → meaning_or declared (view.option local_of o) m ≡ statements.local_or declared o m
of_locals declared None m = refl
of_locals declared (Some v) m = refl

-- within a named block
pub block_names : (declared : ℕ → Meaning) (m : NameMap Local) (vs : List statements.Local) (find : Find) → AreLocals m vs
    → (let within : Find = λ name. meaning_or declared (value_at name (pairs m)) (find name) in within) ≡ statements.scoped declared vs find
block_names declared m vs find a = fun_ext (λ name. ap (λ o. meaning_or declared o (find name)) (a.each name) ∙ of_locals declared (statements.find_local vs name) (find name))

-- each meaning of a named block is fair
fair_or : (declared : ℕ → Meaning) (o : Option statements.Local) (m : Meaning) → ((place : ℕ) → IsFairMeaning (declared place)) → IsFairMeaning m → IsFairMeaning (statements.local_or declared o m)
fair_or declared None m d f = f
fair_or declared (Some v) m d f = d v.name.place

pub fair_block : (declared : ℕ → Meaning) (vs : List statements.Local) (find : Find) → ((place : ℕ) → IsFairMeaning (declared place)) → IsFair find → IsFair (statements.scoped declared vs find)
fair_block declared vs find d f = λ name. fair_or declared (statements.find_local vs name) (find name) d (f name)
