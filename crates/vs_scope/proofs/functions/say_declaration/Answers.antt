use Rattle.std.proofs.Common.{◌∷◌, subst}
use Rattle.vs_elaborated.specs.Declarations.{Declaration}
use Rattle.vs_scope.specs.Functions.{IsSaying}
use Rattle.vs_scope.specs.Frames.{around_env}
use Rattle.vs_scope.specs.Views.{declaration}
use Rattle.vs_scope.proofs.Saying.{function_is, function_shaped, no_function, saying_skip}
use Rattle.vs_scope.proofs.functions.say_declaration.Goals as goal

pub say_function-requires-clause-shaped : goal.say_function-requires-clause-shaped
say_function-requires-clause-shaped c = (function_shaped c.args.d.now c.in-Function.f c.in-Function.is c.requires.shaped).0

pub returns-in_ok-said-in-Function-clause-said : goal.returns-in_ok-said-in-Function-clause-said
returns-in_ok-said-in-Function-clause-said c = λ rest all called h.
    c.in_ok-said-in-Function.ensures.said rest all called
    (subst (λ (x : Declaration). IsSaying (around_env c.args.around) c.args.names.now c.args.said (x ∷ rest) all called) (function_is c.args.d.now c.in-Function.f c.in-Function.is c.requires.shaped) h)

pub returns-in_default-clause-said : goal.returns-in_default-clause-said
returns-in_default-clause-said c = λ rest all called h.
    saying_skip (around_env c.args.around) c.args.names.now c.args.said (declaration c.args.d.now) rest all called (no_function c.args.d.now c.in_default.not-Function) h
