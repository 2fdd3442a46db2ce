-- A function that is added: it can be built, and what is built is what was said (IEEE 1364-2005, 10.4).
use Rattle.std.proofs.Common.{◌≡◌, ℕ, true, false, List, [], ◌∷◌, ◌++◌, Option, Some, None, sym, ap, ◌∙◌, subst}
use Rattle.std.specs.Prelude.{IsTrue}
use Rattle.vs_design.specs.Expressions as design
use Rattle.vs_design.specs.Statements as T
use Rattle.vs_design.specs.Elaborated.{is_formed_header}
use Rattle.vs_grammar.specs.Trees as tree
use Rattle.vs_flat.specs.declared.functions.Function.{Function}
use Rattle.vs_flat.specs.DesignOf.{header_of}
use Rattle.vs_flat.specs.Lawful.{has_locals}
use Rattle.vs_const.specs.Meanings.{Find, Meaning}
use Rattle.vs_elaborated.specs.Environments.{Env}
use Rattle.vs_elaborated.specs.Statements.{Body, Local, typed_statement}
use Rattle.vs_elaborated.specs.Functions as spec
use Rattle.vs_elaborated.specs.Functions.{declared_locals, locals_in, function_names, function_body}
use Rattle.vs_bodies.specs.Bodies.{body_of}
use Rattle.vs_scope.specs.declared.inside.Inside.{Inside}
use Rattle.vs_scope.specs.Locals.{AreLocals, inside_declared, inside_names}
use Rattle.vs_build.specs.Drafts.{Draft, and_function, home_in}
use Rattle.vs_build.specs.Executable.{IsExecutable}
use Rattle.vs_elab.specs.Functions.{CanBuild, IsHeader, and_functions, function_in, header_in}
use Rattle.vs_elab.proofs.Headers.{declared_is, formed_parts, header_is, locals_held}

-- the body of a function, where its variables of named blocks mean this
abbrev body_with : (ℕ → Meaning) → Body
body_with declared = body_of (record { in_function = true; takes_variables = true; clocked = false }) true declared

module _ (s : Draft) (scope : ℕ) (env : Env) (f : tree.Function) (h : Function) (i : Inside) (is : IsHeader h f.place i.locals)
    (locals : AreLocals i.locals (locals_in scope env f) (declared_locals f)) (names : inside_names i ≡ function_names scope env f) (can : CanBuild s.design scope env f) where
  abbrev l : spec.Locals
  l = locals_in scope env f

  abbrev vs : List Local
  vs = declared_locals f

  the_header : header_of h ≡ header_in scope env f
  the_header = header_is h f i.locals l vs is locals (formed_parts s.design (header_in scope env f) can.formed).0

  pub has : IsTrue (has_locals h)
  has =
      let parts = formed_parts s.design (header_in scope env f) can.formed in
      locals_held h f i.locals l vs is locals parts.0 parts.1 can.few

  pub formed : is_formed_header s.design (header_of h) ≡ true
  formed = ap (is_formed_header s.design) the_header ∙ can.formed

  body : body_with (inside_declared i) ≡ function_body l
  body = ap body_with (declared_is i.locals l vs locals)

  pub executable : IsExecutable (home_in s.design (Some (header_of h))) (body_with (inside_declared i)) (inside_names i) f.statement
  executable =
      subst (λ (x : design.Header). IsExecutable (home_in s.design (Some x)) (body_with (inside_declared i)) (inside_names i) f.statement) (sym the_header)
      (subst (λ (b : Body). IsExecutable (home_in s.design (Some (header_in scope env f))) b (inside_names i) f.statement) (sym body)
      (subst (λ (n : Find). IsExecutable (home_in s.design (Some (header_in scope env f))) (function_body l) n f.statement) (sym names) can.executable))

  pub added : s.function ≡ None → and_function s (header_of h) (typed_statement f.statement (body_with (inside_declared i)) (inside_names i)).statement ≡ and_functions s (function_in scope env f ∷ [])
  added outside =
      let made : design.Header → Body → Find → T.Function = λ x b n. record { header = x; statement = (typed_statement f.statement b n).statement } in
      let with : T.Function → Option design.Header → Draft = λ g o. record s { design = record s.design { functions = s.design.functions ++ g ∷ [] }; function = o } in
      ap (λ x. with (made x (body_with (inside_declared i)) (inside_names i)) None) the_header
      ∙ ap (λ b. with (made (header_in scope env f) b (inside_names i)) None) body
      ∙ ap (λ n. with (made (header_in scope env f) (function_body l) n) None) names
      ∙ ap (with (function_in scope env f)) (sym outside)
