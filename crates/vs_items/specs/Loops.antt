-- What is found of loops: the statements that they copied, and the integers that head those of blocks (IEEE 1364-2005, 9.6).
use Rattle.std.specs.Prelude.{◌≡◌, ◌++◌, [], ◌∷◌, ℕ, List, map}
use Rattle.std.specs.List.{list_any}
use Rattle.vs_elaborated.specs.Environments.{Env, find_name, named}
use Rattle.vs_elaborated.specs.Heads as spec
use Rattle.vs_elaborated.specs.Heads.{same_integer}
use Rattle.vs_elaborated.specs.Surveys.{Loops}
use Rattle.vs_items.specs.declared.loops.Integer.{Integer}
use Rattle.vs_items.specs.declared.loops.Head.{Head}

abbrev pub integer_of : Integer → spec.Integer
integer_of i = record { scope = i.scope; place = i.place }

abbrev pub head : Head → spec.Head
head h = record { integer = integer_of h.integer; at = h.at }

-- of these integers each is known once
pub record AreKnown (known headed : List Integer) : Type 0 where
  pub each : (i : spec.Integer) → list_any (same_integer i) (map integer_of known) ≡ list_any (same_integer i) (map integer_of headed)

-- with one integer more, and with those of these heads
abbrev pub and_head : Loops → Integer → Loops
and_head l i = record l { headed = l.headed ++ integer_of i ∷ [] }

abbrev pub and_heads : Loops → List spec.Head → Loops
and_heads l hs = record l { headed = l.headed ++ map (λ (h : spec.Head). h.integer) hs }

-- each name means the same in two scopes, and is the same declaration
pub record SeeTheSame (a b : Env) : Type 0 where
  pub names : named a ≡ named b
  pub finds : (name : List ℕ) → find_name a.frames name ≡ find_name b.frames name
