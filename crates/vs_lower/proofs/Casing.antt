-- What the lowering of a case's arms gives, from the default and the last arm to the first.
use Rattle.std.proofs.Common.{ℕ, ◌<◌, ◌≤◌, Bool, List, ◌++◌, length, arith}
use Rattle.std.specs.List.{All}
use Rattle.vs_four.specs.Logic.{BitList}
use Rattle.vs_net.specs.Network as N
use Rattle.vs_design.specs.Expressions.{Expression, items_of}
use Rattle.vs_design.specs.Statements.{CaseKind, Statement, Arms, Arm, Default}
use Rattle.vs_values.specs.Added.{IsEnv}
use Rattle.vs_values.specs.Coded.{Coding}
use Rattle.vs_lower.specs.Tested.{AddsTests}
use Rattle.vs_lower.specs.Stated.{AddsStatement, AddsArms}
use Rattle.vs_lower.proofs.Bodies.{default_done, arm_done}
use Rattle.vs_lower.proofs.Conditional.{BothMerge, five_added}

pub adds_default : (now ahead subject : List ℕ) (sv : N.State → BitList) (old new : Coding) (kind : CaseKind) (w : ℕ) (s : Bool) (written : ℕ) (st : Statement) (now1 ahead1 : List ℕ)
    → AddsStatement now ahead old new st now1 ahead1 → AddsArms now ahead subject sv old new kind w s written (Default st) now1 ahead1
adds_default now ahead subject sv old new kind w s written st now1 ahead1 d = record {
  calls = d.calls;
  is = d.is;
  done = default_done now ahead subject old.next kind w s sv written st d.calls now1 ahead1 new.next d.done;
}

-- an arm before what stands behind it
pub adds_arm : (now later subject : List ℕ) (sv : N.State → BitList) (c0 c1 c2 c3 c4 : Coding) (kind : CaseKind) (w : ℕ) (s : Bool) (written : ℕ) (items : List Expression) (st : Statement) (rest : Arms) (ms bits now1 later1 now2 later2 now3 later3 : List ℕ)
    → IsEnv now c0.next → IsEnv later c0.next → All (λ slot. slot < c0.next) subject
    → AddsArms now later subject sv c0 c1 kind w s written rest now2 later2
    → AddsTests now subject c1 c2 kind w s items ms
    → AddsStatement now later c2 c3 st now1 later1
    → BothMerge bits now1 later1 now2 later2 ms c3 c4 now3 later3 → length bits ≤ written
    → AddsArms now later subject sv c0 c4 kind w s written (Arm (items_of items) st rest) now3 later3
adds_arm now later subject sv c0 c1 c2 c3 c4 kind w s written items st rest ms bits now1 later1 now2 later2 now3 later3 e f low o x t m most = record {
  calls = (((o.calls ++ x.calls) ++ t.calls) ++ m.now.calls) ++ m.later.calls;
  is = five_added c0.calls o.calls x.calls t.calls m.now.calls m.later.calls c1.calls c2.calls c3.calls m.mid.calls c4.calls o.is x.is t.is m.now.is m.later.is;
  done = arm_done now later subject c0.next kind w s sv written items st rest x.calls ms c2.next t.calls now1 later1 c3.next o.calls now2 later2 c1.next m.now.calls now3 m.mid.next m.more m.later.calls later3 c4.next m.extra
      e f low (x.condition sv) t.done o.done m.now.merged m.later.merged (omega (arith, m.few, most));
}
