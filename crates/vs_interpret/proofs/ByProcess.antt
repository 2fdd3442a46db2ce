-- What a process of a lawful design names, and what it does in the design's network.
use Rattle.std.proofs.Common.{◌≡◌, ℕ, Bool, true, false, ◌&&◌, List, map, refl, sym, ap, ◌∙◌, subst, Option, Some, None}
use Rattle.std.specs.Prelude.{slice_get, is_some, unwrap_or, Result, Ok, Err, IfOk}
use Rattle.std.proofs.lemmas.Bool.{and_parts}
use Rattle.vs_net.specs.Network as N
use Rattle.vs_net.specs.Network.{State}
use Rattle.vs_design.specs.Bodies as B
use Rattle.vs_design.specs.Expressions as E
use Rattle.vs_design.specs.Designs as D
use Rattle.vs_design.specs.Footprints.{is_net}
use Rattle.vs_design.specs.Statements as T
use Rattle.vs_design.specs.Elaborated.{IsLawfulDesign, is_formed_process, is_formed_target, has_constant_selects, is_formed, is_formed_port, are_formed_events, is_formed_statement}
use Rattle.vs_design.specs.Networks.{process_of, block_process}
use Rattle.vs_design.specs.Within.{names_within, target_within, statement_within, FormedIsWithin, TargetIsWithin, StatementIsWithin}
use Rattle.vs_design.proofs.Parts.{all_at}
use Rattle.vs_flat.specs.declared.processes.Event.{Event}
use Rattle.vs_flat.specs.declared.processes.Process.{Process}
use Rattle.vs_flat.specs.declared.processes.Port.{Port}
use Rattle.vs_flat.specs.declared.processes.Kind.{Kind}
use Rattle.vs_flat.specs.declared.processes.Kind.TheVariants as K
use Rattle.vs_flat.specs.Arena.{Arena}
use Rattle.vs_flat.specs.Lawful.{IsLawful}
use Rattle.vs_flat.specs.Ports.{port_of}
use Rattle.vs_flat.specs.Targets.{place_of, target_of}
use Rattle.vs_flat.specs.Trees.{no_signal, signal_at, target_tree}
use Rattle.vs_flat.specs.DesignOf.{kind_of, event_of, arena_signals, design_of}
use Rattle.vs_flat.specs.Laws.{EachProcess, LawfulIsDesign}
use Rattle.vs_sets.specs.Nodes.{tree_of}
use Rattle.vs_shape.specs.Walked as W
use Rattle.vs_reads.specs.Named.{AssignIsFit, BlockIsFit, IsFitKind}
use Rattle.vs_sets.specs.StatementParts.{statement_of}
use Rattle.vs_sets.specs.TargetsOf.{IsTarget}

some_is : {A : Type 0} (x y : A) → Some x ≡ Some y → x ≡ y
some_is x y h = cc

-- what fits in it
pub assign_fits : (a : Arena) (k : Kind) (target e : ℕ) (port : Port) → IsFitKind a k → k ≡ K.Assign target e port → AssignIsFit a target e
assign_fits a k target e port fit is = subst (IsFitKind a) is fit

pub block_fits : (a : Arena) (k : Kind) (star : Bool) (events : List Event) (s : ℕ) → IsFitKind a k → k ≡ K.Block star events s → BlockIsFit a events s
block_fits a k star events s fit is = subst (IsFitKind a) is fit

pub the_target : (e : E.Expression) → W.IsTarget e → IsTarget e
the_target e t = record { is = some (target_of e) (T.Whole no_signal) t.target; fits = t.fits }
  where
    some : (o : Option T.Target) (d : T.Target) → is_some o ≡ true → o ≡ Some (unwrap_or o d)
    some None d h = cc
    some (Some x) d h = refl

pub if_ok : {V W : Type 0} {P Q : V → Type 0} (r : Result V W) → IfOk r P → ((v : V) → P v → Q v) → IfOk r Q
if_ok (Ok v) h k = k v h
if_ok (Err e) h k = h

module _ (trees : EachProcess) (lawful : LawfulIsDesign) (a : Arena) (L : IsLawful a) (p : ℕ) (q : Process) (at : slice_get a.processes p ≡ Some q) where
  abbrev pub d : D.Design
  d = design_of a

  D0 : IsLawfulDesign d
  D0 = lawful a L

  plain : (k : Kind) → q.kind ≡ k → slice_get d.processes p ≡ Some (kind_of (signal_at (arena_signals a)) (tree_of a) (statement_of a) q.at k)
  plain k is = subst (λ (j : Kind). slice_get d.processes p ≡ Some (kind_of (signal_at (arena_signals a)) (tree_of a) (statement_of a) q.at j)) is (trees a p q at)

  formed : (x : D.Process) → slice_get d.processes p ≡ Some x → is_formed_process d x ≡ true
  formed x h = all_at (is_formed_process d) d.processes p x D0.formed h

  pub target_inside : TargetIsWithin → (target e : ℕ) (port : Port) → q.kind ≡ K.Assign target e port → target_within (D.bit_count d) (target_tree (tree_of a target)) ≡ true
  target_inside within target e port is =
      let t = target_tree (tree_of a target) in
      let whole = formed (D.Continuous q.at (port_of port) (place_of (tree_of a target)) t (tree_of a e)) (plain (K.Assign target e port) is) in
      let three = and_parts (is_formed_target d is_net t && has_constant_selects t && is_formed d (tree_of a e)) (is_formed_port (port_of port) t (tree_of a e)) whole in
      let two = and_parts (is_formed_target d is_net t && has_constant_selects t) (is_formed d (tree_of a e)) three.0 in
      within d D0.bits_numbered is_net t (and_parts (is_formed_target d is_net t) (has_constant_selects t) two.0).0

  pub names_inside : FormedIsWithin → (target e : ℕ) (port : Port) → q.kind ≡ K.Assign target e port → names_within (D.bit_count d) (tree_of a e) ≡ true
  names_inside within target e port is =
      let t = target_tree (tree_of a target) in
      let whole = formed (D.Continuous q.at (port_of port) (place_of (tree_of a target)) t (tree_of a e)) (plain (K.Assign target e port) is) in
      let three = and_parts (is_formed_target d is_net t && has_constant_selects t && is_formed d (tree_of a e)) (is_formed_port (port_of port) t (tree_of a e)) whole in
      within d D0.bits_numbered (tree_of a e) (and_parts (is_formed_target d is_net t && has_constant_selects t) (is_formed d (tree_of a e)) three.0).1

  pub statement_inside : StatementIsWithin → (star : Bool) (events : List Event) (s : ℕ) → q.kind ≡ K.Block star events s → statement_within (D.bit_count d) (statement_of a s) ≡ true
  statement_inside within star events s is =
      let es = map (event_of (signal_at (arena_signals a))) events in
      within d D0.bits_numbered (statement_of a s) (and_parts (are_formed_events d star es) (is_formed_statement d (statement_of a s)) (formed (D.Always q.at star es (statement_of a s)) (plain (K.Block star events s) is))).1

  -- ---- in the network

  pub assign_made : (clocks : List ℕ) (x : D.Process) (s : State) (target e : ℕ) (port : Port) → q.kind ≡ K.Assign target e port → slice_get d.processes p ≡ Some x → B.assignment_writes (target_tree (tree_of a target)) (tree_of a e) s ≡ N.made (process_of d clocks x) s
  assign_made clocks x s target e port is h =
      let same = some_is (D.Continuous q.at (port_of port) (place_of (tree_of a target)) (target_tree (tree_of a target)) (tree_of a e)) x (sym (plain (K.Assign target e port) is) ∙ h) in
      ap (λ (y : D.Process). N.made (process_of d clocks y) s) same

  pub not_assign : (x : D.Process) (target e : ℕ) (port : Port) → q.kind ≡ K.Assign target e port → slice_get d.processes p ≡ Some x → D.is_assign x ≡ false → ⊥
  not_assign x target e port is h f =
      let same = some_is (D.Continuous q.at (port_of port) (place_of (tree_of a target)) (target_tree (tree_of a target)) (tree_of a e)) x (sym (plain (K.Assign target e port) is) ∙ h) in
      let k : true ≡ false = ap D.is_assign same ∙ f in
      cc

  block_x : (x : D.Process) (star : Bool) (events : List Event) (s : ℕ) → q.kind ≡ K.Block star events s → slice_get d.processes p ≡ Some x → D.Always q.at star (map (event_of (signal_at (arena_signals a))) events) (statement_of a s) ≡ x
  block_x x star events s is h = some_is (D.Always q.at star (map (event_of (signal_at (arena_signals a))) events) (statement_of a s)) x (sym (plain (K.Block star events s) is) ∙ h)

  pub not_block : (x : D.Process) (star : Bool) (events : List Event) (s : ℕ) → q.kind ≡ K.Block star events s → slice_get d.processes p ≡ Some x → D.is_assign x ≡ true → ⊥
  not_block x star events s is h f = let k : false ≡ true = ap D.is_assign (block_x x star events s is h) ∙ f in cc

  both_made : (clocks : List ℕ) (c : Bool) (x : D.Process) (events : List D.Event) (st : T.Statement) (s : State) → N.made (block_process d clocks c x events st) s ≡ (B.body st s).writes
  both_made clocks true x events st s = refl
  both_made clocks false x events st s = refl

  both_updates : (clocks : List ℕ) (c : Bool) (x : D.Process) (events : List D.Event) (st : T.Statement) (s : State) → N.delayed (block_process d clocks c x events st) s ≡ (B.body st s).updates
  both_updates clocks true x events st s = refl
  both_updates clocks false x events st s = refl

  pub block_made : (clocks : List ℕ) (x : D.Process) (s : State) (star : Bool) (events : List Event) (st : ℕ) → q.kind ≡ K.Block star events st → slice_get d.processes p ≡ Some x → (B.body (statement_of a st) s).writes ≡ N.made (process_of d clocks x) s
  block_made clocks x s star events st is h =
      let es = map (event_of (signal_at (arena_signals a))) events in
      let y = D.Always q.at star es (statement_of a st) in
      sym (both_made clocks (D.is_clocked y) y es (statement_of a st) s) ∙ ap (λ (y : D.Process). N.made (process_of d clocks y) s) (block_x x star events st is h)

  pub block_updates : (clocks : List ℕ) (x : D.Process) (s : State) (star : Bool) (events : List Event) (st : ℕ) → q.kind ≡ K.Block star events st → slice_get d.processes p ≡ Some x → (B.body (statement_of a st) s).updates ≡ N.delayed (process_of d clocks x) s
  block_updates clocks x s star events st is h =
      let es = map (event_of (signal_at (arena_signals a))) events in
      let y = D.Always q.at star es (statement_of a st) in
      sym (both_updates clocks (D.is_clocked y) y es (statement_of a st) s) ∙ ap (λ (y : D.Process). N.delayed (process_of d clocks y) s) (block_x x star events st is h)
