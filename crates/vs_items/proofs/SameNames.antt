-- What items say depends on what names mean there, and on nothing else of the scopes around.
use Rattle.std.proofs.Common.{◌≡◌, ℕ, suc, Bool, true, false, List, [], ◌∷◌, ◌++◌, length, Option, Some, None, refl, ap, ◌∙◌}
use Rattle.std.specs.Prelude.{slice_get}
use Rattle.vs_grammar.specs.Trees as tree
use Rattle.vs_grammar.specs.Trees.{expr_place, target_place}
use Rattle.vs_const.specs.Faults.{fault, fault_if}
use Rattle.vs_const.specs.declared.rules.Rule.TheVariants.{PortCount, WrongKind}
use Rattle.vs_const.specs.Meanings.{Find}
use Rattle.vs_const.specs.Expressions.{typed, constant}
use Rattle.vs_elaborated.specs.Environments.{Env, named}
use Rattle.vs_elaborated.specs.Targets.{typed_target, as_target}
use Rattle.vs_elaborated.specs.Ports.{Port, find_port}
use Rattle.vs_elaborated.specs.Pieces.{FromOutput, IntoInput}
use Rattle.vs_elaborated.specs.Instances.{Overrides, and_override, overrides_by_order, overrides_by_name, module_overridable, is_overridable, has_too_many, connected_names, said_overrides, Connected, output_target, directed, connected, and_connected, connected_by_order, connected_by_name, module_ports, is_port, has_wrong_count, in_port_order, said_connections}

module _ (e1 e2 : Env) (h : named e1 ≡ named e2) where
  -- ---- overrides

  override_alike : (name : Option (List ℕ)) (e : Option tree.Expr) (a b : Overrides) → a ≡ b → and_override name e e1 a ≡ and_override name e e2 b
  override_alike name None a b r = r
  override_alike None (Some e) a b r =
      ap (λ (find : Find). let o : Overrides = record a { faults = (constant e find).faults ++ a.faults } in o) h
      ∙ ap (λ (x : Overrides). let o : Overrides = record x { faults = (constant e (named e2)).faults ++ x.faults } in o) r
  override_alike (Some name) (Some e) a b r =
      ap (λ (find : Find). let o : Overrides = record { overrides = record { name = name; typed = constant e find } ∷ a.overrides; faults = (constant e find).faults ++ a.faults } in o) h
      ∙ ap (λ (x : Overrides). let o : Overrides = record { overrides = record { name = name; typed = constant e (named e2) } ∷ x.overrides; faults = (constant e (named e2)).faults ++ x.faults } in o) r

  ordered_alike : (names : List (List ℕ)) (n : ℕ) (es : List (Option tree.Expr)) → overrides_by_order names n es e1 ≡ overrides_by_order names n es e2
  ordered_alike names n [] = refl
  ordered_alike names n (e ∷ es) = override_alike (slice_get names n) e (overrides_by_order names (suc n) es e1) (overrides_by_order names (suc n) es e2) (ordered_alike names (suc n) es)

  by_name_alike : (cs : List tree.NamedConnection) → overrides_by_name cs e1 ≡ overrides_by_name cs e2
  by_name_alike [] = refl
  by_name_alike (c ∷ cs) = override_alike (Some c.name.bytes) c.e (overrides_by_name cs e1) (overrides_by_name cs e2) (by_name_alike cs)

  pub overrides_alike : (of : tree.Name) (m : Option tree.Module) (c : tree.Connections) → said_overrides of m c e1 ≡ said_overrides of m c e2
  overrides_alike of m tree.Unconnected = refl
  overrides_alike of m (tree.ByOrder parts) =
      ap (λ (r : Overrides). let o : Overrides = record r { faults = fault_if (has_too_many m (length parts)) PortCount of.place ++ r.faults } in o) (ordered_alike (module_overridable m) 0 parts)
  overrides_alike of m (tree.ByName parts) =
      ap (λ (r : Overrides). let o : Overrides = record r { faults = connected_names (is_overridable m) [] parts ++ r.faults } in o) (by_name_alike parts)

  -- ---- connections

  output_alike : (name : List ℕ) (e : tree.Expr) (t : Option tree.Target) → output_target name e e1 t ≡ output_target name e e2 t
  output_alike name e None = ap (λ (find : Find). let c : Connected = record { connections = []; faults = fault WrongKind (expr_place e) ++ (typed e find false).faults } in c) h
  output_alike name e (Some t) =
      ap (λ (find : Find). let c : Connected = record { connections = FromOutput name (target_place t) (typed_target t find false).target ∷ []; faults = (typed_target t find false).faults } in c) h

  directed_alike : (name : List ℕ) (input : Option Bool) (e : tree.Expr) → directed name input e e1 ≡ directed name input e e2
  directed_alike name (Some false) e = output_alike name e (as_target e)
  directed_alike name (Some true) e = ap (λ (find : Find). let c : Connected = record { connections = IntoInput name (typed e find false).expression ∷ []; faults = (typed e find false).faults } in c) h
  directed_alike name None e = ap (λ (find : Find). let c : Connected = record { connections = []; faults = (typed e find false).faults } in c) h

  connected_alike : (p : Option Port) (e : Option tree.Expr) → connected p e e1 ≡ connected p e e2
  connected_alike p None = refl
  connected_alike None (Some e) = directed_alike [] None e
  connected_alike (Some p) (Some e) = directed_alike p.name p.input e

  both_alike : (a b c d : Connected) → a ≡ b → c ≡ d → and_connected a c ≡ and_connected b d
  both_alike a b c d r s = ap (λ x. and_connected x c) r ∙ ap (and_connected b) s

  order_alike : (ps : List Port) (n : ℕ) (es : List (Option tree.Expr)) → connected_by_order ps n es e1 ≡ connected_by_order ps n es e2
  order_alike ps n [] = refl
  order_alike ps n (e ∷ es) = both_alike (connected (slice_get ps n) e e1) (connected (slice_get ps n) e e2) (connected_by_order ps (suc n) es e1) (connected_by_order ps (suc n) es e2) (connected_alike (slice_get ps n) e) (order_alike ps (suc n) es)

  name_alike : (ps : List Port) (cs : List tree.NamedConnection) → connected_by_name ps cs e1 ≡ connected_by_name ps cs e2
  name_alike ps [] = refl
  name_alike ps (c ∷ cs) = both_alike (connected (find_port ps c.name.bytes) c.e e1) (connected (find_port ps c.name.bytes) c.e e2) (connected_by_name ps cs e1) (connected_by_name ps cs e2) (connected_alike (find_port ps c.name.bytes) c.e) (name_alike ps cs)

  pub connections_alike : (m : Option tree.Module) (name : tree.Name) (c : tree.Connections) → said_connections m name c e1 ≡ said_connections m name c e2
  connections_alike m name tree.Unconnected = refl
  connections_alike m name (tree.ByOrder parts) =
      ap (λ (r : Connected). let c : Connected = record r { faults = fault_if (has_wrong_count m (length parts)) PortCount name.place ++ r.faults } in c) (order_alike (module_ports m) 0 parts)
  connections_alike m name (tree.ByName parts) =
      ap (λ (r : Connected). let c : Connected = record { connections = in_port_order (module_ports m) r.connections; faults = connected_names (is_port m) [] parts ++ r.faults } in c) (name_alike (module_ports m) parts)
