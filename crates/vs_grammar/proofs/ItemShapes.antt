-- What is derived from tokens that are what they seem has the shape of a syntax tree: items and modules.
use Rattle.std.proofs.Common.{◌≡◌, ℕ, zero, suc, ◌<◌, ◌≤◌, Bool, true, false, List, [], ◌∷◌, refl, arith}
use Rattle.std.specs.Prelude.{Option, Some, None}
use Rattle.vs_lexer.specs.declared.token.TokenKind.TheVariants as kind
use Rattle.vs_grammar.specs.Kinds.{number_of}
use Rattle.vs_grammar.specs.Grammars.{Phrase, Terminal, opt, star}
use Rattle.vs_grammar.specs.Grammars.Phrase.{last}
use Rattle.vs_grammar.specs.Grammars.Tree.{leaf, both, former, latter, without, within, start, grown, nested, named}
use Rattle.vs_grammar.specs.Verilog.{◌⨾◌, ◌∣◌, t, r, phrase_of, separated, signed_range, sign_and_range, declared_name, valued_name, assignment, named_connection, overrides, reg_item, wire_item, local_item, assign_item, always_item, initial_item, genvar_item, integer_item, instance_item, input_declaration, for_item, if_item, generate_case, port_item, Rule as rule}
use Rattle.vs_grammar.specs.Trees.{Name, Variables, Declarator, Signals, Setting, Parameters, AndItem}
use Rattle.vs_grammar.specs.Trees as tree
use Rattle.vs_grammar.specs.Meaning.{D, each_onto, behind_sign, list_of, option_of}
use Rattle.vs_grammar.specs.Meaning as meaning
use Rattle.vs_grammar.specs.Shapes.{IsName, IsLiteral, Each, OneOrMore, Given, IsExpr, IsRange, AreVariables, IsStored, IsPort, IsVariablePort, is_port_kind, AreNames, AreSignals, IsSetting, AreParameters, IsAssign, IsEvent, IsControl, IsConnection, AreConnections, IsInstance, IsFunction, IsGenerateItem, IsBlock, IsBlockFallback, AreGenerateArms, HasGenerateArm, AreGenerateItems, IsItem, AreItems, ArePorts, AreHeaderParameters, IsHeader, IsModule}
use Rattle.vs_grammar.proofs.DepthFacts.{size}
use Rattle.vs_grammar.proofs.ShapeFacts.{Sound, name_ok, each_ok, behind_ok, list_ok, option_ok, expr_ok, labels_ok, range_ok, value_type_ok, input_type_ok, variables_ok, setting_ok, head_ok, target_ok, statement_ok}

each_of_some : {A : Type 0} (P : A → Type 0) (l : List A) → OneOrMore P l → Each P l
each_of_some P [] h = absurd h
each_of_some P (x ∷ l) h = h

module _ (bytes : ℕ → List ℕ) (numbers : (a : Terminal) → IsLiteral (meaning.literal_at bytes a)) where
  -- ---- declarations

  plain_ok : (d : D (t kind.Identifier)) → Sound bytes d → IsPort (meaning.plain_name bytes d)
  plain_ok n p = ((name_ok bytes n p, refl), refl)

  value_ok : (d : D (t kind.Assign ⨾ r rule.Expression)) → Sound bytes d → IsExpr (behind_sign (meaning.expr_of bytes) d)
  value_ok d p = behind_ok bytes (meaning.expr_of bytes) IsExpr (expr_ok bytes numbers) d p

  option_value_ok : (v : D (opt (t kind.Assign ⨾ r rule.Expression))) → Sound bytes v → Given IsExpr (meaning.value_of bytes v)
  option_value_ok v p = option_ok bytes (behind_sign (meaning.expr_of bytes)) IsExpr value_ok v p

  valued_ok : (d : D valued_name) → Sound bytes d → IsVariablePort (meaning.valued_of bytes d)
  valued_ok (both n v) p = ((name_ok bytes n p.0, option_value_ok v p.1), refl)

  declarator_ok : (d : D declared_name) → Sound bytes d → IsStored (meaning.declarator_of bytes d)
  declarator_ok (both n (former g)) p = ((name_ok bytes n p.0, tt), range_ok bytes numbers g p.1, tt)
  declarator_ok (both n (latter v)) p = ((name_ok bytes n p.0, option_value_ok v p.1), tt, tt)

  declarators_ok : (d : D (separated declared_name)) → Sound bytes d → OneOrMore IsStored (list_of (meaning.declarator_of bytes) d)
  declarators_ok d p = list_ok bytes (meaning.declarator_of bytes) IsStored declarator_ok d p

  valued_names_ok : (d : D (separated valued_name)) → Sound bytes d → OneOrMore IsVariablePort (list_of (meaning.valued_of bytes) d)
  valued_names_ok d p = list_ok bytes (meaning.valued_of bytes) IsVariablePort valued_ok d p

  names_ok : (d : D (r rule.Names)) → Sound bytes d → OneOrMore IsPort (meaning.names_of bytes d)
  names_ok (named l) p = list_ok bytes (meaning.plain_name bytes) IsPort plain_ok l p

  settings_ok : (d : D (separated (r rule.Setting))) → Sound bytes d → OneOrMore IsSetting (list_of (meaning.setting_of bytes) d)
  settings_ok d p = list_ok bytes (meaning.setting_of bytes) IsSetting (setting_ok bytes numbers) d p

  parameters_ok : (place : ℕ) (is_local : Bool) (y : D (r rule.ValueType)) (settings : List Setting) → Sound bytes y → OneOrMore IsSetting settings → AreParameters (meaning.parameters_of bytes place is_local y settings)
  parameters_ok place is_local y settings p q = record { value_type = value_type_ok bytes numbers y p; settings = q }

  signals_ok : {x : Phrase} (place : ℕ) (k : tree.SignalKind) (f : D x → List Declarator) → ((d : D x) → Sound bytes d → AreNames k (f d)) → (d : D (signed_range x)) → Sound bytes d → AreSignals (meaning.signals_of bytes place k f d)
  signals_ok place k f h (both s (both g l)) p = record { range = option_ok bytes (meaning.range_of bytes) IsRange (range_ok bytes numbers) g p.1.0; names = h l p.1.1 }

  kind_is : {x : Phrase} (place : ℕ) (k : tree.SignalKind) (f : D x → List Declarator) (d : D (signed_range x)) → (meaning.signals_of bytes place k f d).kind ≡ k
  kind_is place k f (both s (both g l)) = refl

  ended_names : (d : D (r rule.Names ⨾ t kind.Semicolon)) → Sound bytes d → OneOrMore IsPort (meaning.ended bytes (meaning.names_of bytes) d)
  ended_names (both l z) p = names_ok l p.0

  ended_declarators : (d : D (separated declared_name ⨾ t kind.Semicolon)) → Sound bytes d → OneOrMore IsStored (meaning.ended bytes (list_of (meaning.declarator_of bytes)) d)
  ended_declarators (both l z) p = declarators_ok l p.0

  ended_valued : (d : D (separated valued_name ⨾ t kind.Semicolon)) → Sound bytes d → OneOrMore IsVariablePort (meaning.ended bytes (list_of (meaning.valued_of bytes)) d)
  ended_valued (both l z) p = valued_names_ok l p.0

  -- ---- items without blocks

  assign_ok : (d : D assignment) → Sound bytes d → IsAssign (meaning.assign_of bytes d)
  assign_ok (both x (both o e)) p = (target_ok bytes numbers x p.0, expr_ok bytes numbers e p.1.1)

  event_ok : (d : D (r rule.Event)) → Sound bytes d → IsEvent (meaning.event_of bytes d)
  event_ok (named (both e n)) p = name_ok bytes n p.1

  control_ok : (d : D (r rule.EventControl)) → Sound bytes d → IsControl (meaning.control_of bytes d)
  control_ok (named (both a (former n))) p = (name_ok bytes n p.1, tt)
  control_ok (named (both a (latter (former z)))) p = tt
  control_ok (named (both a (latter (latter (both o (both (former c) z)))))) p = tt
  control_ok (named (both a (latter (latter (both o (both (latter (both e l)) z)))))) p =
      (event_ok e p.1.1.0.0, each_ok bytes (behind_sign (meaning.event_of bytes)) IsEvent (behind_ok bytes (meaning.event_of bytes) IsEvent event_ok) l [] p.1.1.0.1 tt)

  connection_ok : (d : D named_connection) → Sound bytes d → IsConnection (meaning.connection_of bytes d)
  connection_ok (both c (both n (both o (both e z)))) p = (name_ok bytes n p.1.0, option_ok bytes (meaning.expr_of bytes) IsExpr (expr_ok bytes numbers) e p.1.1.1.0)

  by_order_ok : (parts : List (Option tree.Expr)) → OneOrMore (Given IsExpr) parts → AreConnections (meaning.by_order bytes parts)
  by_order_ok [] p = p
  by_order_ok (None ∷ []) p = tt
  by_order_ok (None ∷ (q ∷ qs)) p = (p.0, p.1)
  by_order_ok (Some e ∷ ps) p = (p.0, p.1)

  connections_ok : (d : D (r rule.Connections)) → Sound bytes d → AreConnections (meaning.connections_of bytes d)
  connections_ok (named (former l)) p = list_ok bytes (meaning.connection_of bytes) IsConnection connection_ok l p
  connections_ok (named (latter l)) p =
      by_order_ok (list_of (option_of (meaning.expr_of bytes)) l) (
      list_ok bytes (option_of (meaning.expr_of bytes)) (Given IsExpr) (option_ok bytes (meaning.expr_of bytes) IsExpr (expr_ok bytes numbers)) l p)

  overrides_ok : (d : D overrides) → Sound bytes d → AreConnections (meaning.overrides_of bytes d)
  overrides_ok (former (both h (both o (both c z)))) p = connections_ok c p.1.1.0
  overrides_ok (latter z) p = tt

  instance_ok : (d : D (r rule.Instance)) → Sound bytes d → IsInstance (meaning.instance_of bytes d)
  instance_ok (named (both n (both o (both c z)))) p = (name_ok bytes n p.0, connections_ok c p.1.1.0)

  reg_ok : (d : D reg_item) → Sound bytes d → IsGenerateItem (meaning.reg_item_of bytes d)
  reg_ok (both (leaf a) (both s (both g l))) p =
      (signals_ok a.place tree.Reg (meaning.ended bytes (list_of (meaning.declarator_of bytes))) ended_declarators (both s (both g l)) p.1, refl)

  wire_item_ok : (d : D wire_item) → Sound bytes d → IsGenerateItem (meaning.wire_item_of bytes d)
  wire_item_ok (both (leaf a) (both s (both g l))) p =
      (signals_ok a.place tree.Wire (meaning.ended bytes (list_of (meaning.declarator_of bytes))) ended_declarators (both s (both g l)) p.1, refl)

  local_ok : (d : D local_item) → Sound bytes d → IsGenerateItem (meaning.local_item_of bytes d)
  local_ok (both (leaf a) (both y (both l z))) p =
      (parameters_ok a.place true y (list_of (meaning.setting_of bytes) l) p.1.0 (settings_ok l p.1.1.0), refl)

  assigns_ok : (d : D assign_item) → Sound bytes d → IsGenerateItem (meaning.assign_item_of bytes d)
  assigns_ok (both (leaf a) (both l z)) p = list_ok bytes (meaning.assign_of bytes) IsAssign assign_ok l p.1.0

  always_ok : (d : D always_item) → Sound bytes d → IsGenerateItem (meaning.always_item_of bytes d)
  always_ok (both (leaf a) (both c d)) p = (control_ok c p.1.0, statement_ok bytes numbers d p.1.1)

  initial_ok : (d : D initial_item) → Sound bytes d → IsGenerateItem (meaning.initial_item_of bytes d)
  initial_ok (both (leaf a) d) p = statement_ok bytes numbers d p.1

  genvar_ok : (d : D genvar_item) → Sound bytes d → IsGenerateItem (meaning.genvar_item_of bytes d)
  genvar_ok (both (leaf a) (both (named l) z)) p = list_ok bytes (meaning.name_of bytes) IsName (name_ok bytes) l p.1.0

  integer_ok : (d : D integer_item) → Sound bytes d → IsGenerateItem (meaning.integer_item_of bytes d)
  integer_ok (both (leaf a) (both (named l) z)) p = list_ok bytes (meaning.name_of bytes) IsName (name_ok bytes) l p.1.0

  instances_ok : (d : D instance_item) → Sound bytes d → IsGenerateItem (meaning.instance_item_of bytes d)
  instances_ok (both n (both o (both l z))) p =
      record { of = name_ok bytes n p.0; overrides = overrides_ok o p.1.0; instances = list_ok bytes (meaning.instance_of bytes) IsInstance instance_ok l p.1.1.0 }

-- ---- items and blocks, where it holds of all items that are smaller than s
module _ (bytes : ℕ → List ℕ) (numbers : (a : Terminal) → IsLiteral (meaning.literal_at bytes a)) (s : ℕ) (smaller : (d : D (r rule.GenerateItem)) → size d < s → Sound bytes d → IsGenerateItem (meaning.item_of bytes d)) where
  items_onto_ok : (l : D (star (r rule.GenerateItem))) (rest : tree.Items) → size l ≤ s → Sound bytes l → AreGenerateItems rest → AreGenerateItems (meaning.generate_items_onto bytes l rest)
  items_onto_ok (start z) rest w p q = q
  items_onto_ok (grown l d) rest w p q = items_onto_ok l (AndItem (meaning.item_of bytes d) rest) (omega arith) p.0 (smaller d (omega arith) p.1, q)

  block_ok : (d : D (r rule.GenerateBlock)) → size d ≤ s → Sound bytes d → IsBlock (meaning.block_of bytes d)
  block_ok (named (nested (former (both (leaf a) (both n (both l z)))))) w p =
      (option_ok bytes (behind_sign (meaning.name_of bytes)) IsName (behind_ok bytes (meaning.name_of bytes) IsName (name_ok bytes)) n p.1.0, items_onto_ok l tree.NoItem (omega arith) p.1.1.0 tt)
  block_ok (named (nested (latter (former i)))) w p = smaller i (omega arith) p
  block_ok (named (nested (latter (latter (leaf a))))) w p = tt

  else_ok : (d : D (last (number_of kind.KeywordElse) (r rule.GenerateBlock))) → size d ≤ s → Sound bytes d → IsBlockFallback (meaning.else_block bytes d)
  else_ok without w p = tt
  else_ok (within a d) w p = block_ok d (omega arith) p

  arm_onto_ok : (d : D (r rule.GenerateCaseItem)) (rest : tree.GenerateArms) → size d ≤ s → Sound bytes d → AreGenerateArms rest → AreGenerateArms (meaning.generate_arm_onto bytes d rest)
  arm_onto_ok (named (both l (both c d))) rest w p q = (labels_ok bytes numbers l p.0, block_ok d (omega arith) p.1.1, q)

  arms_onto_ok : (l : D (star (r rule.GenerateCaseItem))) (rest : tree.GenerateArms) → size l ≤ s → Sound bytes l → AreGenerateArms rest → AreGenerateArms (meaning.generate_arms_onto bytes l rest)
  arms_onto_ok (start z) rest w p q = q
  arms_onto_ok (grown l a) rest w p q = arms_onto_ok l (meaning.generate_arm_onto bytes a rest) (omega arith) p.0 (arm_onto_ok a rest (omega arith) p.1 q)

  default_ok : (d : D (r rule.GenerateCaseDefault)) → size d ≤ s → Sound bytes d → IsBlockFallback (meaning.default_block_of bytes d)
  default_ok (named (both k (both c d))) w p = block_ok d (omega arith) p.1.1

  arms_ok : (d : D (r rule.GenerateCases)) → size d ≤ s → Sound bytes d → AreGenerateArms (meaning.generate_arms bytes d)
  arms_ok (named (former (both d l))) w p = arms_onto_ok l tree.NoGenerateArm (omega arith) p.1 tt
  arms_ok (named (latter (both a (both l (latter z))))) w p = arm_onto_ok a (meaning.generate_arms_onto bytes l tree.NoGenerateArm) (omega arith) p.0 (arms_onto_ok l tree.NoGenerateArm (omega arith) p.1.0 tt)
  arms_ok (named (latter (both a (both l (former (both d m)))))) w p =
      arm_onto_ok a (meaning.generate_arms_onto bytes l (meaning.generate_arms_onto bytes m tree.NoGenerateArm)) (omega arith) p.0 (
      arms_onto_ok l (meaning.generate_arms_onto bytes m tree.NoGenerateArm) (omega arith) p.1.0 (arms_onto_ok m tree.NoGenerateArm (omega arith) p.1.1.1 tt))

  other_ok : (d : D (r rule.GenerateCases)) → size d ≤ s → Sound bytes d → IsBlockFallback (meaning.default_block bytes d)
  other_ok (named (former (both d l))) w p = default_ok d (omega arith) p.0
  other_ok (named (latter (both a (both l (latter z))))) w p = tt
  other_ok (named (latter (both a (both l (former (both d m)))))) w p = default_ok d (omega arith) p.1.1.0

  given_has : (arms : tree.GenerateArms) (d : D (r rule.GenerateCaseDefault)) → HasGenerateArm arms (meaning.default_block_of bytes d)
  given_has tree.NoGenerateArm (named (both k (both c d))) = tt
  given_has (tree.AndGenerateArm labels x rest) (named (both k (both c d))) = tt

  arm_has : (d : D (r rule.GenerateCaseItem)) (rest : tree.GenerateArms) (other : tree.BlockFallback) → HasGenerateArm (meaning.generate_arm_onto bytes d rest) other
  arm_has (named (both l (both c d))) rest other = tt

  has_ok : (d : D (r rule.GenerateCases)) → HasGenerateArm (meaning.generate_arms bytes d) (meaning.default_block bytes d)
  has_ok (named (former (both d l))) = given_has (meaning.generate_arms_onto bytes l tree.NoGenerateArm) d
  has_ok (named (latter (both a (both l (latter z))))) = arm_has a (meaning.generate_arms_onto bytes l tree.NoGenerateArm) tree.NoBlockFallback
  has_ok (named (latter (both a (both l (former (both d m)))))) = arm_has a (meaning.generate_arms_onto bytes l (meaning.generate_arms_onto bytes m tree.NoGenerateArm)) (meaning.default_block_of bytes d)

  for_ok : (d : D for_item) → size d ≤ s → Sound bytes d → IsGenerateItem (meaning.for_item_of bytes d)
  for_ok (both u x) w p = (head_ok bytes numbers u p.0, block_ok x (omega arith) p.1)

  if_ok : (d : D if_item) → size d ≤ s → Sound bytes d → IsGenerateItem (meaning.if_item_of bytes d)
  if_ok (both (leaf a) (both o (both e (both c (both x f))))) w p = (expr_ok bytes numbers e p.1.1.0, block_ok x (omega arith) p.1.1.1.1.0, else_ok f (omega arith) p.1.1.1.1.1)

  case_ok : (d : D generate_case) → size d ≤ s → Sound bytes d → IsGenerateItem (meaning.generate_case_of bytes d)
  case_ok (both (leaf a) (both o (both e (both c (both x z))))) w p = (expr_ok bytes numbers e p.1.1.0, arms_ok x (omega arith) p.1.1.1.1.0, other_ok x (omega arith) p.1.1.1.1.0, has_ok x)

  item_next : (d : D (r rule.GenerateItem)) → size d ≤ s → Sound bytes d → IsGenerateItem (meaning.item_of bytes d)
  item_next (named (former i)) w p = reg_ok bytes numbers i p
  item_next (named (latter (former i))) w p = wire_item_ok bytes numbers i p
  item_next (named (latter (latter (former i)))) w p = local_ok bytes numbers i p
  item_next (named (latter (latter (latter (former i))))) w p = assigns_ok bytes numbers i p
  item_next (named (latter (latter (latter (latter (former i)))))) w p = always_ok bytes numbers i p
  item_next (named (latter (latter (latter (latter (latter (former i))))))) w p = initial_ok bytes numbers i p
  item_next (named (latter (latter (latter (latter (latter (latter (former i)))))))) w p = genvar_ok bytes numbers i p
  item_next (named (latter (latter (latter (latter (latter (latter (latter (former i))))))))) w p = integer_ok bytes numbers i p
  item_next (named (latter (latter (latter (latter (latter (latter (latter (latter (former i)))))))))) w p = instances_ok bytes numbers i p
  item_next (named (latter (latter (latter (latter (latter (latter (latter (latter (latter (former i))))))))))) w p = for_ok i (omega arith) p
  item_next (named (latter (latter (latter (latter (latter (latter (latter (latter (latter (latter (former i)))))))))))) w p = if_ok i (omega arith) p
  item_next (named (latter (latter (latter (latter (latter (latter (latter (latter (latter (latter (latter i)))))))))))) w p = case_ok i (omega arith) p

module _ (bytes : ℕ → List ℕ) (numbers : (a : Terminal) → IsLiteral (meaning.literal_at bytes a)) where
  item_below : (s : ℕ) (d : D (r rule.GenerateItem)) → size d < s → Sound bytes d → IsGenerateItem (meaning.item_of bytes d)
  item_below zero d h p = absurd (omega arith)
  item_below (suc s) d h p = item_next bytes numbers s (item_below s) d (omega arith) p

  -- an item that a generate block may have, a module may have too
  item_in_module : (i : tree.Item) → IsGenerateItem i → IsItem i
  item_in_module (tree.SignalsItem signals) p = p.0
  item_in_module (tree.ParametersItem parameters) p = p.0
  item_in_module (tree.AssignsItem place assigns) p = p
  item_in_module (tree.AlwaysItem block) p = p
  item_in_module (tree.InitialItem block) p = p
  item_in_module (tree.GenvarsItem place names) p = p
  item_in_module (tree.IntegersItem place names) p = p
  item_in_module (tree.InstancesItem instances) p = p
  item_in_module (tree.FunctionItem function) p = absurd p
  item_in_module (tree.GenerateFor head block) p = p
  item_in_module (tree.GenerateIf place c taken other) p = p
  item_in_module (tree.GenerateCase place subject arms other) p = p

  item_ok : (d : D (r rule.GenerateItem)) → Sound bytes d → IsItem (meaning.item_of bytes d)
  item_ok d p = item_in_module (meaning.item_of bytes d) (item_below (suc (size d)) d (omega arith) p)

  generate_items_ok : (l : D (star (r rule.GenerateItem))) (rest : tree.Items) → Sound bytes l → AreItems rest → AreItems (meaning.generate_items_onto bytes l rest)
  generate_items_ok (start z) rest p q = q
  generate_items_ok (grown l d) rest p q = generate_items_ok l (AndItem (meaning.item_of bytes d) rest) p.0 (item_ok d p.1, q)

  -- ---- functions

  input_ok : (p : D (r rule.FunctionInput)) (others : List Name) → Sound bytes p → Each IsName others → AreVariables (meaning.input_of bytes p others)
  input_ok (named (both (leaf a) (both y n))) others p q = record { value_type = input_type_ok bytes numbers y p.1.0; names = (name_ok bytes n p.1.1, q) }

  inputs_onto_ok : (p : D (r rule.FunctionInput)) (l : D (star (t kind.Comma ⨾ (r rule.FunctionInput ∣ t kind.Identifier)))) (names : List Name) (inputs : List Variables) → Sound bytes p → Sound bytes l → Each IsName names → Each AreVariables inputs → Each AreVariables (meaning.inputs_onto bytes p l names inputs)
  inputs_onto_ok p (start z) names inputs u v w x = (input_ok p names u w, x)
  inputs_onto_ok p (grown l (both c (former q))) names inputs u v w x = inputs_onto_ok p l [] (meaning.input_of bytes q names ∷ inputs) u v.0 tt (input_ok q names v.1.1 w, x)
  inputs_onto_ok p (grown l (both c (latter n))) names inputs u v w x = inputs_onto_ok p l (meaning.name_of bytes n ∷ names) inputs u v.0 (name_ok bytes n v.1.1, w) x

  inputs_ok : (d : D (r rule.FunctionInputs)) → Sound bytes d → Each AreVariables (meaning.inputs_of bytes d)
  inputs_ok (named (both p l)) q = inputs_onto_ok p l [] [] q.0 q.1 tt tt

  input_declaration_ok : (d : D input_declaration) → Sound bytes d → AreVariables (meaning.input_declaration_of bytes d)
  input_declaration_ok (both (leaf a) (both y (both (named l) z))) p = record { value_type = input_type_ok bytes numbers y p.1.0; names = list_ok bytes (meaning.name_of bytes) IsName (name_ok bytes) l p.1.1.0 }

  declared_inputs_ok : (l : D (star (r rule.FunctionDeclaration))) (rest : List Variables) → Sound bytes l → Each AreVariables rest → Each AreVariables (meaning.declared_inputs bytes l rest)
  declared_inputs_ok (start z) rest p q = q
  declared_inputs_ok (grown l (named (former i))) rest p q = declared_inputs_ok l (meaning.input_declaration_of bytes i ∷ rest) p.0 (input_declaration_ok i p.1, q)
  declared_inputs_ok (grown l (named (latter v))) rest p q = declared_inputs_ok l rest p.0 q

  declared_variables_of : (l : D (star (r rule.FunctionDeclaration))) (rest : List Variables) → Sound bytes l → Each AreVariables rest → Each AreVariables (meaning.declared_variables bytes l rest)
  declared_variables_of (start z) rest p q = q
  declared_variables_of (grown l (named (former i))) rest p q = declared_variables_of l rest p.0 q
  declared_variables_of (grown l (named (latter v))) rest p q = declared_variables_of l (meaning.variables_of bytes v ∷ rest) p.0 (variables_ok bytes numbers v p.1, q)

  head_inputs_ok : (d : D (r rule.FunctionHead)) → Sound bytes d → Each AreVariables (meaning.head_inputs bytes d)
  head_inputs_ok (named (former (both o (both l (both c (both s v)))))) p = inputs_ok l p.1.0
  head_inputs_ok (named (latter (both s l))) p = declared_inputs_ok l [] p.1 tt

  head_variables_ok : (d : D (r rule.FunctionHead)) → Sound bytes d → Each AreVariables (meaning.head_variables bytes d)
  head_variables_ok (named (former (both o (both l (both c (both s v)))))) p = each_ok bytes (meaning.variables_of bytes) AreVariables (variables_ok bytes numbers) v [] p.1.1.1.1 tt
  head_variables_ok (named (latter (both s l))) p = declared_variables_of l [] p.1 tt

  function_ok : (d : D (r rule.Function)) → Sound bytes d → IsFunction (meaning.function_of bytes d)
  function_ok (named (both (leaf a) (both y (both n (both h (both d z)))))) p =
      record {
        name = name_ok bytes n p.1.1.0;
        value_type = value_type_ok bytes numbers y p.1.0;
        inputs = head_inputs_ok h p.1.1.1.0;
        variables = head_variables_ok h p.1.1.1.0;
        statement = statement_ok bytes numbers d p.1.1.1.1.0;
      }

  -- ---- modules

  -- what a direction says, with or without the word `wire`
  input_names : (w : D (opt (t kind.KeywordWire))) (names : List Declarator) → OneOrMore IsPort names → AreNames (meaning.input_kind w) names
  input_names (former w) names p = p
  input_names (latter z) names p = p

  output_names : (w : D (opt (t kind.KeywordWire))) (names : List Declarator) → OneOrMore IsPort names → AreNames (meaning.output_kind w) names
  output_names (former w) names p = p
  output_names (latter z) names p = p

  input_port : (w : D (opt (t kind.KeywordWire))) → is_port_kind (meaning.input_kind w) ≡ true
  input_port (former w) = refl
  input_port (latter z) = refl

  output_port : (w : D (opt (t kind.KeywordWire))) → is_port_kind (meaning.output_kind w) ≡ true
  output_port (former w) = refl
  output_port (latter z) = refl

  port_item_ok : (d : D port_item) → Sound bytes d → IsItem (meaning.port_item_of bytes d)
  port_item_ok (former (both (leaf a) (both w l))) p =
      signals_ok bytes numbers a.place (meaning.input_kind w) (meaning.ended bytes (meaning.names_of bytes)) (λ u v. input_names w (meaning.ended bytes (meaning.names_of bytes) u) (ended_names bytes numbers u v)) l p.1.1
  port_item_ok (latter (both (leaf a) (former (both w l)))) p =
      signals_ok bytes numbers a.place tree.OutputReg (meaning.ended bytes (list_of (meaning.valued_of bytes))) (ended_valued bytes numbers) l p.1.1
  port_item_ok (latter (both (leaf a) (latter (both w l)))) p =
      signals_ok bytes numbers a.place (meaning.output_kind w) (meaning.ended bytes (meaning.names_of bytes)) (λ u v. output_names w (meaning.ended bytes (meaning.names_of bytes) u) (ended_names bytes numbers u v)) l p.1.1

  item_onto_ok : (d : D (r rule.Item)) (rest : tree.Items) → Sound bytes d → AreItems rest → AreItems (meaning.item_onto bytes d rest)
  item_onto_ok (named (former d)) rest p q = (port_item_ok d p, q)
  item_onto_ok (named (latter (former (both (leaf a) (both y (both l z)))))) rest p q =
      (parameters_ok bytes numbers a.place false y (list_of (meaning.setting_of bytes) l) p.1.0 (settings_ok bytes numbers l p.1.1.0), q)
  item_onto_ok (named (latter (latter (former (both g (both l z)))))) rest p q = generate_items_ok l rest p.1.0 q
  item_onto_ok (named (latter (latter (latter (former d))))) rest p q = (function_ok d p, q)
  item_onto_ok (named (latter (latter (latter (latter i))))) rest p q = (item_ok i p, q)

  items_ok : (l : D (star (r rule.Item))) (rest : tree.Items) → Sound bytes l → AreItems rest → AreItems (meaning.items_onto bytes l rest)
  items_ok (start z) rest p q = q
  items_ok (grown l d) rest p q = items_ok l (meaning.item_onto bytes d rest) p.0 (item_onto_ok d rest p.1 q)

  declared_by_ok : (place : ℕ) (k : tree.SignalKind) (d : D sign_and_range) (names : List Declarator) → Sound bytes d → AreNames k names → is_port_kind k ≡ true → ArePorts (meaning.declared_by bytes place k d names)
  declared_by_ok place k (both s g) names p q e = (record { range = option_ok bytes (meaning.range_of bytes) IsRange (range_ok bytes numbers) g p.1; names = q }, e)

  mutual
    ports_ok : (p : D (r rule.Port)) → Sound bytes p → OneOrMore ArePorts (meaning.ports_from bytes p)
    ports_ok (named (former (both (leaf a) (both w l)))) q = nets_ok a.place (meaning.input_kind w) l (input_names w) (input_port w) q.1.1
    ports_ok (named (latter (both (leaf a) (former (both w l))))) q = variables_from_ok a.place l q.1.1
    ports_ok (named (latter (both (leaf a) (latter (both w l))))) q = nets_ok a.place (meaning.output_kind w) l (output_names w) (output_port w) q.1.1

    nets_ok : (place : ℕ) (k : tree.SignalKind) (d : D (signed_range (t kind.Identifier ⨾ r rule.NetPorts))) → ((names : List Declarator) → OneOrMore IsPort names → AreNames k names) → is_port_kind k ≡ true → Sound bytes d → OneOrMore ArePorts (meaning.nets_from bytes place k d)
    nets_ok place k (both s (both g (both n l))) f e p = (
      declared_by_ok place k (both s g) (meaning.plain_name bytes n ∷ meaning.net_names bytes l) (p.0, p.1.0) (f (meaning.plain_name bytes n ∷ meaning.net_names bytes l) (plain_ok bytes numbers n p.1.1.0, net_names_ok l p.1.1.1)) e,
      net_ports_ok l p.1.1.1,
    )

    variables_from_ok : (place : ℕ) (d : D (signed_range (valued_name ⨾ r rule.VariablePorts))) → Sound bytes d → OneOrMore ArePorts (meaning.variables_from bytes place d)
    variables_from_ok place (both s (both g (both n l))) p = (
      declared_by_ok place tree.OutputReg (both s g) (meaning.valued_of bytes n ∷ meaning.variable_names bytes l) (p.0, p.1.0) (valued_ok bytes numbers n p.1.1.0, variable_names_ok l p.1.1.1) refl,
      variable_ports_ok l p.1.1.1,
    )

    net_names_ok : (d : D (r rule.NetPorts)) → Sound bytes d → Each IsPort (meaning.net_names bytes d)
    net_names_ok (named (former (both c (former p)))) q = tt
    net_names_ok (named (former (both c (latter (both n l))))) q = (plain_ok bytes numbers n q.1.0, net_names_ok l q.1.1)
    net_names_ok (named (latter z)) q = tt

    net_ports_ok : (d : D (r rule.NetPorts)) → Sound bytes d → Each ArePorts (meaning.net_ports bytes d)
    net_ports_ok (named (former (both c (former p)))) q = each_of_some ArePorts (meaning.ports_from bytes p) (ports_ok p q.1)
    net_ports_ok (named (former (both c (latter (both n l))))) q = net_ports_ok l q.1.1
    net_ports_ok (named (latter z)) q = tt

    variable_names_ok : (d : D (r rule.VariablePorts)) → Sound bytes d → Each IsVariablePort (meaning.variable_names bytes d)
    variable_names_ok (named (former (both c (former p)))) q = tt
    variable_names_ok (named (former (both c (latter (both n l))))) q = (valued_ok bytes numbers n q.1.0, variable_names_ok l q.1.1)
    variable_names_ok (named (latter z)) q = tt

    variable_ports_ok : (d : D (r rule.VariablePorts)) → Sound bytes d → Each ArePorts (meaning.variable_ports bytes d)
    variable_ports_ok (named (former (both c (former p)))) q = each_of_some ArePorts (meaning.ports_from bytes p) (ports_ok p q.1)
    variable_ports_ok (named (former (both c (latter (both n l))))) q = variable_ports_ok l q.1.1
    variable_ports_ok (named (latter z)) q = tt

  port_list_ok : (d : D (r rule.Ports)) → Sound bytes d → IsHeader (meaning.ports_of bytes d)
  port_list_ok (named (former l)) p = list_ok bytes (meaning.name_of bytes) IsName (name_ok bytes) l p
  port_list_ok (named (latter q)) p = ports_ok q p

  header_ok : (d : D (opt (t kind.OpenParen ⨾ opt (r rule.Ports) ⨾ t kind.CloseParen))) → Sound bytes d → IsHeader (meaning.header_of bytes d)
  header_ok (former (both o (both (former q) z))) p = port_list_ok q p.1.0
  header_ok (former (both o (both (latter n) z))) p = tt
  header_ok (latter z) p = tt

  header_parameters_at : (place : ℕ) (y : D (r rule.ValueType)) (settings : List Setting) → Sound bytes y → OneOrMore IsSetting settings → AreHeaderParameters (meaning.parameters_of bytes place false y settings)
  header_parameters_at place y settings p q = (parameters_ok bytes numbers place false y settings p q, refl)

  parameters_onto_ok : (place : ℕ) (y : D (r rule.ValueType)) (u : D (r rule.Setting)) (l : D (star (t kind.Comma ⨾ ((t kind.KeywordParameter ⨾ r rule.ValueType ⨾ r rule.Setting) ∣ r rule.Setting)))) (settings : List Setting) (others : List Parameters) → Sound bytes y → Sound bytes u → Sound bytes l → Each IsSetting settings → Each AreHeaderParameters others → Each AreHeaderParameters (meaning.parameters_onto bytes place y u l settings others)
  parameters_onto_ok place y u (start z) settings others p q v w x = (header_parameters_at place y (meaning.setting_of bytes u ∷ settings) p (setting_ok bytes numbers u q, w), x)
  parameters_onto_ok place y u (grown l (both c (former (both (leaf a) (both m n))))) settings others p q v w x =
      parameters_onto_ok place y u l [] (meaning.parameters_of bytes a.place false m (meaning.setting_of bytes n ∷ settings) ∷ others) p q v.0 tt (
        header_parameters_at a.place m (meaning.setting_of bytes n ∷ settings) v.1.1.1.0 (setting_ok bytes numbers n v.1.1.1.1, w),
        x,
      )
  parameters_onto_ok place y u (grown l (both c (latter n))) settings others p q v w x =
      parameters_onto_ok place y u l (meaning.setting_of bytes n ∷ settings) others p q v.0 (setting_ok bytes numbers n v.1.1, w) x

  header_parameters_ok : (d : D (r rule.HeaderParameters)) → Sound bytes d → Each AreHeaderParameters (meaning.header_parameters bytes d)
  header_parameters_ok (named (both (leaf a) (both y (both u l)))) p = parameters_onto_ok a.place y u l [] [] p.1.0 p.1.1.0 p.1.1.1 tt tt

  module_parameters_ok : (d : D (opt (t kind.Hash ⨾ t kind.OpenParen ⨾ r rule.HeaderParameters ⨾ t kind.CloseParen))) → Sound bytes d → Each AreHeaderParameters (meaning.module_parameters bytes d)
  module_parameters_ok (former (both h (both o (both q z)))) p = header_parameters_ok q p.1.1.0
  module_parameters_ok (latter z) p = tt

  module_ok : (d : D (r rule.Module)) → Sound bytes d → IsModule (meaning.module_of bytes d)
  module_ok (named (both (leaf a) (both n (both q (both h (both m (both l z))))))) p =
      record {
        name = name_ok bytes n p.1.0;
        parameters = module_parameters_ok q p.1.1.0;
        header = header_ok h p.1.1.1.0;
        items = items_ok l tree.NoItem p.1.1.1.1.1.0 tt;
      }

  pub modules_ok : (d : D (phrase_of rule.Text)) → Sound bytes d → OneOrMore IsModule (meaning.text_of bytes d).modules
  modules_ok (both (named (both m l)) z) p = (module_ok m p.0.0, each_ok bytes (meaning.module_of bytes) IsModule module_ok l [] p.0.1 tt)
