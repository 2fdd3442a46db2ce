-- Assigns: their target, and then their expression.
use Rattle.std.proofs.Common.{◌≡◌, ℕ, ◌<◌, ◌^◌, true, false, [], length, None, unwrap_or, Result, OnOk, refl, sym, ap, ◌∙◌, subst, arith}
use Rattle.std.specs.Prelude.{is_some}
use Rattle.vs_design.specs.Expressions as E
use Rattle.vs_design.specs.Expressions.{Expression}
use Rattle.vs_design.specs.Statements.{Whole}
use Rattle.vs_design.specs.Designs.{Design, Written, Continuous}
use Rattle.vs_design.specs.Elaborated.{is_plain}
use Rattle.vs_grammar.specs.Trees as tree
use Rattle.vs_grammar.specs.Trees.{target_place}
use Rattle.vs_const.specs.Meanings.{Find}
use Rattle.vs_const.specs.Expressions.{typed}
use Rattle.vs_const.proofs.Formed.{both_nil}
use Rattle.vs_flat.specs.declared.processes.Port.TheVariants as P
use Rattle.vs_flat.specs.Targets.{place_of}
use Rattle.vs_flat.specs.Trees.{signal_at, target_tree}
use Rattle.vs_elaborated.specs.Targets.{typed_target}
use Rattle.vs_build.specs.Drafts.{Draft, home_in, home, and_process, EndsInAssign, AddsExpression}
use Rattle.vs_build.specs.Buildable.{IsBuildable, IsNameable}
use Rattle.vs_build.specs.Writable.{target_expression, IsWritable, IsAssignable, wire_assign, assign_process}
use Rattle.vs_build.proofs.Arms.{same_design, same_home}
use Rattle.vs_build.proofs.Steps.{added_two}
use Rattle.vs_build.proofs.TargetFacts.{written, begins_there, named_target}

pub assign_target : (d : Design) (find : Find) (a : tree.Assign) → IsAssignable d find a → IsWritable d find false a.target
assign_target d find a w = record { shaped = w.shaped.0; sound = w.sound; numbered = w.numbered; clean = (both_nil (typed_target a.target find false).faults (typed a.e find false).faults w.clean).0; shallow = omega (arith, w.shallow) }

pub assign_value : (d : Design) (find : Find) (a : tree.Assign) → IsAssignable d find a → IsBuildable d find false a.e
assign_value d find a w = record { shaped = w.shaped.1; sound = w.sound; numbered = w.numbered; clean = (both_nil (typed_target a.target find false).faults (typed a.e find false).faults w.clean).1; shallow = omega (arith, w.shallow) }

pub value_after : (s v : Draft) (t : Expression) (m : ℕ) (find : Find) (e : tree.Expr) → AddsExpression s v t m → IsBuildable (home s) find false e → IsBuildable (home v) find false e
value_after s v t m find e h b = subst (λ d. IsBuildable d find false e) (same_home s v t m h) b

pub room_after : (s r v : Draft) (t u : Expression) (m n : ℕ) → AddsExpression s r t m → AddsExpression r v u n → length s.design.processes < 2 ^ 16 → length v.design.processes < 2 ^ 16
room_after s r v t u m n h k room = subst (λ (d : Design). length d.processes < 2 ^ 16) (same_design s r t m h ∙ same_design r v u n k) room

-- ---- outside of functions an expression stands in the design

pub home_outside : (s : Draft) → s.function ≡ None → home s ≡ s.design
home_outside s e = ap (home_in s.design) e

pub there_outside : (s : Draft) (n : ℕ) → s.function ≡ None → n < length s.design.signals → n < length (home s).signals
there_outside s n e h = subst (λ (d : Design). n < length d.signals) (sym (home_outside s e)) h

pub plain_outside : (s : Draft) (n : ℕ) → s.function ≡ None → is_plain s.design (signal_at s.design.signals n) ≡ true → is_plain (home s) (signal_at (home s).signals n) ≡ true
plain_outside s n e h = subst (λ (d : Design). is_plain d (signal_at d.signals n) ≡ true) (sym (home_outside s e)) h

pub name_outside : (s v : Draft) (n place : ℕ) → s.function ≡ None → AddsExpression s v (E.At place (E.Name (signal_at (home s).signals n))) 1 → AddsExpression s v (E.At place (E.Name (signal_at s.design.signals n))) 1
name_outside s v n place e h = subst (λ (d : Design). AddsExpression s v (E.At place (E.Name (signal_at d.signals n))) 1) (home_outside s e) h

pub assign_ends : (s r v : Draft) (find : Find) (a : tree.Assign) (u : Expression) (m n : ℕ) → IsAssignable (home s) find a → AddsExpression s r (target_expression a.target find false) m → AddsExpression r v u n → EndsInAssign P.Written v
assign_ends s r v find a u m n w h k =
    let t = target_expression a.target find false in
    let clean = (both_nil (typed_target a.target find false).faults (typed a.e find false).faults w.clean).0 in
    record {
      before = s;
      target = record { tree = t; levels = h.levels };
      value = record { tree = u; levels = k.levels };
      is = added_two s r v t u m n h k;
      written = ap is_some (written (home s) find false a.target w.shaped.0 w.sound clean);
    }

pub assign_is : (s : Draft) (find : Find) (place : ℕ) (a : tree.Assign) → IsAssignable (home s) find a
    → and_process s (Continuous place Written (place_of (target_expression a.target find false)) (target_tree (target_expression a.target find false)) (typed a.e find false).expression) ≡ and_process s (assign_process place a find)
assign_is s find place a w =
    let clean = (both_nil (typed_target a.target find false).faults (typed a.e find false).faults w.clean).0 in
    ap (λ p. and_process s (Continuous place Written p (target_tree (target_expression a.target find false)) (typed a.e find false).expression)) (begins_there a.target find false)
    ∙ ap (λ o. and_process s (Continuous place Written (target_place a.target) (unwrap_or o (Whole no)) (typed a.e find false).expression)) (written (home s) find false a.target w.shaped.0 w.sound clean)
  where
    no : E.Signal
    no = record { name = []; scope = 0; number = 0; net = true; input = false; range = None; signed = false; first = 0; words = None; integer = false }

pub ok_is : {U F : Type 0} (r : Result U F) (v a b : Draft) → a ≡ b → OnOk r (v ≡ a) → OnOk r (v ≡ b)
ok_is r v a b e h = subst (λ x. OnOk r (v ≡ x)) e h

pub input_ends : (s r v : Draft) (place : ℕ) (x : E.Signal) (u : Expression) (m n : ℕ) → AddsExpression s r (E.At place (E.Name x)) m → AddsExpression r v u n → EndsInAssign P.Input v
input_ends s r v place x u m n h k =
    record { before = s; target = record { tree = E.At place (E.Name x); levels = h.levels }; value = record { tree = u; levels = k.levels }; is = added_two s r v (E.At place (E.Name x)) u m n h k; written = refl }

pub wire_name : (d : Design) (find : Find) (name : tree.Name) (e : tree.Expr) → IsAssignable d find (wire_assign name e) → IsNameable d false name.place (find name.bytes)
wire_name d find name e w =
    let clean = (both_nil (typed_target (tree.NamedTarget name tree.Whole) find false).faults (typed e find false).faults w.clean).0 in
    record { sound = w.sound name.bytes; good = (named_target d find false name tree.Whole tt w.sound clean).good }
