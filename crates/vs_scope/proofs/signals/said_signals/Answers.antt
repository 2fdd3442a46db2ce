use Rattle.std.proofs.Common.{◌≡◌, ◌≤◌, ℕ, suc, List, [], ◌∷◌, ◌++◌, Option, drop, length, map, refl, sym, ap, ◌∙◌, subst, add-one}
use Rattle.vs_elaborated.specs.Signals as spec
use Rattle.vs_scope.specs.declared.signals.SaidSignal.{SaidSignal as SignalFound}
use Rattle.vs_maps.specs.MapViews.{pairs}
use Rattle.vs_scope.specs.Declares.{entry_named, named_list, named_of}
use Rattle.vs_scope.specs.Frames.{view_env}
use Rattle.vs_scope.specs.Signalled.{start_of, IsSignalAt}
use Rattle.vs_scope.proofs.SignalLoops.{IsSignalled, named_from, shaped_name, signalled_skip, signalled_more, signalled_as, signalled_next}
use Rattle.vs_scope.proofs.signals.said_signals.Goals as goal
use Rattle.vs_scope.proofs.signals.said_signals.Goals.{in-Some+in_ok-next-in-Some+in_ok-push-in-Some, in-None}

pub signal_at-requires-clause-first : goal.signal_at-requires-clause-first
signal_at-requires-clause-first c = (shaped_name (pairs c.args.names.now.map) c.loop-i.i c.at.result.now c.requires c.at.ensures).0

pub signal_at-requires-clause-second : goal.signal_at-requires-clause-second
signal_at-requires-clause-second c = (shaped_name (pairs c.args.names.now.map) c.loop-i.i c.at.result.now c.requires c.at.ensures).1

pub loop-i-preserved : goal.loop-i-preserved
loop-i-preserved c =
    let ns = named_list c.args.names.now in
    let env = view_env c.args.here.now in
    let i = c.loop-i.i in
    let n = entry_named c.at.result.now in
    let here = named_from (pairs c.args.names.now.map) i c.at.result.now c.at.ensures in
    subst (λ (k : ℕ). IsSignalled env (start_of c.args.start) (start_of c.match-branch-2.next) (drop k ns) ns c.match-branch-2.signals.items c.match-branch-2.fault) (sym (add-one i))
    (elim c.match-branch-2.branch [
      | in-None w ↦
          signalled_as env (start_of c.args.start) (start_of c.loop-i.next) (start_of c.match-branch-2.next) (drop (suc i) ns) ns c.loop-i.signals.items c.match-branch-2.signals.items c.loop-i.fault c.match-branch-2.fault
          (ap start_of w.next-is) (ap (λ v. v.items) w.signals-is) w.fault-is
          (signalled_skip env (start_of c.args.start) (start_of c.loop-i.next) n (drop (suc i) ns) (drop i ns) ns c.loop-i.signals.items c.loop-i.fault here c.loop-i.invariant
          (subst (λ (o : Option SignalFound). IsSignalAt o (spec.said_signals env (start_of c.loop-i.next) (n ∷ []))) w.in-None.is c.in_ok-signal_at.ensures))
      | in-Some+in_ok-next-in-Some+in_ok-push-in-Some w ↦
          let s = subst (λ (o : Option SignalFound). IsSignalAt o (spec.said_signals env (start_of c.loop-i.next) (n ∷ []))) w.in-Some.is c.in_ok-signal_at.ensures in
          signalled_as env (start_of c.args.start) (start_of w.in_ok-next-in-Some.next) (start_of c.match-branch-2.next) (drop (suc i) ns) ns (c.loop-i.signals.items ++ w.in-Some.one.signal ∷ []) c.match-branch-2.signals.items w.first_of-fault.result c.match-branch-2.fault
          (ap start_of w.next-is) (ap (λ v. v.items) w.signals-is ∙ w.in_ok-push-in-Some.ensures.items) w.fault-is
          (signalled_more env (start_of c.args.start) (start_of c.loop-i.next) (start_of w.in_ok-next-in-Some.next) n (drop (suc i) ns) (drop i ns) ns c.loop-i.signals.items c.loop-i.fault w.first_of-fault.result w.in-Some.one s.0
          here c.loop-i.invariant s.1 s.2 (w.in_ok-next-in-Some.ensures ∙ ap (spec.after (start_of c.loop-i.next)) s.2.meaning) w.first_of-fault.ensures)
    ])

len_map : {A B : Type 0} (f : A → B) (xs : List A) → length (map f xs) ≡ length xs
len_map f [] = refl
len_map f (x ∷ xs) = ap suc (len_map f xs)

pub returns-clause-next : goal.returns-clause-next
returns-clause-next c =
    let ns = named_list c.args.names.now in
    let all : length ns ≤ c.loop-i.i = subst (λ (n : ℕ). n ≤ c.loop-i.i) (c.len-i-end.ensures ∙ sym (len_map named_of (pairs c.args.names.now.map))) c.loop-i-test.false in
    signalled_next (view_env c.args.here.now) (start_of c.args.start) (start_of c.loop-i.next) ns c.loop-i.i c.loop-i.signals.items c.loop-i.fault all c.loop-i.invariant
