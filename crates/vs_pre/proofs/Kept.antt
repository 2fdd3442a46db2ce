-- What holds of each token of a text, wherever it is found, holds of each token that they become.
use Rattle.std.proofs.Common.{◌≡◌, ℕ, zero, suc, ◌+◌, ◌-◌, ◌<◌, ◌≤◌, Bool, true, false, cond, List, [], ◌∷◌, ◌++◌, refl, ◌∙◌, ap, subst, length, map, take, drop, get_or, arith, length-append}
use Rattle.std.specs.Prelude.{Option, Some, None, Result, Ok, Err, slice_range, slice_index, nat_lt, ◌==◌, ◌&&◌, not}
use Rattle.std.specs.Str.{bytes_eq}
use Rattle.std.proofs.lemmas.Bool.{and_parts}
use Rattle.std.proofs.lemmas.Bool.Decides.{nat_tests}
use Rattle.vs_lexer.specs.declared.token.Token.{Token}
use Rattle.vs_lexer.specs.declared.token.TokenKind.{TokenKind}
use Rattle.vs_lexer.specs.declared.token.TokenKind.TheVariants as kind
use Rattle.vs_lexer.specs.Spellings.{is_among}
use Rattle.vs_lexer.specs.Laws.{StandsIn, AreTokens}
use Rattle.vs_pre.specs.declared.branch.Branch.{Branch}
use Rattle.vs_pre.specs.declared.budget.Budget.{Budget}
use Rattle.vs_pre.specs.declared.error.Reason.{Reason}
use Rattle.vs_pre.specs.declared.error.Reason.TheVariants.{BadDirective as OfDirective, UnknownMacro, MacroLoop, MacroArguments, MacroLimit}
use Rattle.vs_pre.specs.declared.error.PreError.{PreError}
use Rattle.vs_pre.specs.declared.error.PreError.TheVariants as error
use Rattle.vs_pre.specs.declared.roles.Role.{Role}
use Rattle.vs_pre.specs.declared.roles.Role.TheVariants as role
use Rattle.vs_pre.specs.Words.{bytes_of, name_of, is_word, is_close, is_comma, is_decimal, is_based}
use Rattle.vs_pre.specs.Sizes.{lacks_size, is_size_of, is_fitting, with_size}
use Rattle.vs_pre.specs.Lines.{same_line, line_of}
use Rattle.vs_pre.specs.Roles.{role_of, is_plain, is_use, is_directive_name}
use Rattle.vs_pre.specs.Macros.{Macro, Macros, no_macros, with_macro, is_formal, formals_of, slot_of, own_in, Definition, Defined, Defines, Misplaced, Misformed, with_body, behind_bracket, defined_by}
use Rattle.vs_pre.specs.Arguments.{value_of, part_of, filled, arguments_from, tokens_taken}
use Rattle.vs_pre.specs.Expansion.{Made, Answer, behind, Used, Valued, with_value, Expander, User, charged, counted, stopped, fits, fitting_ends, total, body_of, placed, read_one, walk, expanded, values_of, replaced, filled_in, used_with, used_plain, used, used_too_deep, nested}
use Rattle.vs_pre.specs.Conditions.{is_kept, word_behind, Turned, opened, turned, turned_last, closed}
use Rattle.vs_pre.specs.Attributes.{attribute, outside, without_attributes}
use Rattle.vs_pre.specs.Preprocessing.{State, Step, fault_at, unmade, turns, defines, undefines, keeps, replaces, kept_step, other_step, step, behind as put_behind, ended, read, first_state, the_limits, resolved, sized, finished, pre}

some_room : (n : ℕ) → (n == 0) ≡ false → 1 ≤ n
some_room n e = grind (arith, nat_tests)

module _ (P : Token → Type 0) (moved : (t : Token) (at : ℕ) → P t → P (record t { at = at })) where
  abbrev Every : List Token → Type 0
  Every [] = Unit {0}
  Every (t ∷ ts) = P t × Every ts

  every_append : (xs ys : List Token) → Every xs → Every ys → Every (xs ++ ys)
  every_append [] ys h g = g
  every_append (x ∷ xs) ys h g = (h.0, every_append xs ys h.1 g)

  every_take : (n : ℕ) (xs : List Token) → Every xs → Every (take n xs)
  every_take zero [] h = tt
  every_take zero (x ∷ xs) h = tt
  every_take (suc n) [] h = tt
  every_take (suc n) (x ∷ xs) h = (h.0, every_take n xs h.1)

  every_drop : (n : ℕ) (xs : List Token) → Every xs → Every (drop n xs)
  every_drop zero [] h = h
  every_drop zero (x ∷ xs) h = h
  every_drop (suc n) [] h = h
  every_drop (suc n) (x ∷ xs) h = every_drop n xs h.1

  every_range : (xs : List Token) (from to : ℕ) → Every xs → Every (slice_range xs from to)
  every_range xs from to h = every_take (to - from) (drop from xs) (every_drop from xs h)

  pub every_of : (xs : List Token) → ((n : ℕ) (d : Token) → n < length xs → P (get_or xs n d)) → Every xs
  every_of [] h = tt
  every_of (x ∷ xs) h = (h 0 x (omega arith), every_of xs (λ n d l. h (suc n) d (omega arith)))

  pub each_of : (xs : List Token) → Every xs → (n : ℕ) (d : Token) → n < length xs → P (get_or xs n d)
  each_of [] h n d l = absurd (omega arith)
  each_of (x ∷ xs) h zero d l = h.0
  each_of (x ∷ xs) h (suc n) d l = each_of xs h.1 n d (omega arith)

  -- ---- arguments

  abbrev EachEvery : List (List Token) → Type 0
  EachEvery [] = Unit {0}
  EachEvery (v ∷ vs) = Every v × EachEvery vs

  value_every : (vs : List (List Token)) (k : ℕ) → EachEvery vs → Every (value_of vs k)
  value_every [] zero h = tt
  value_every [] (suc k) h = tt
  value_every (v ∷ vs) zero h = h.0
  value_every (v ∷ vs) (suc k) h = value_every vs k h.1

  part_every : (vs : List (List Token)) (s : Option ℕ) (t : Token) → EachEvery vs → P t → Every (part_of vs s t)
  part_every vs None t h g = (g, tt)
  part_every vs (Some k) t h g = value_every vs k h

  filled_every : (vs : List (List Token)) (ss : List (Option ℕ)) (ts : List Token) → EachEvery vs → Every ts → Every (filled vs ss ts)
  filled_every vs [] ts h g = tt
  filled_every vs (s ∷ ss) [] h g = tt
  filled_every vs (s ∷ ss) (t ∷ ts) h g = every_append (part_of vs s t) (filled vs ss ts) (part_every vs s t h g.0) (filled_every vs ss ts h g.1)

  arguments_every : (from : ℕ) (ts : List Token) (es : List ℕ) → Every ts → EachEvery (arguments_from from ts es)
  arguments_every from ts [] h = tt
  arguments_every from ts (e ∷ es) h = (every_range ts from e h, arguments_every (e + 1) ts es h)

  -- ---- what is made: such tokens, and no more than there is room for

  abbrev IsMade : ℕ → Answer → Type 0
  IsMade room (Ok m) = Every m.list × (length m.list ≤ room)
  IsMade room (Err r) = Unit {0}

  abbrev IsUsed : ℕ → Result Used Reason → Type 0
  IsUsed room (Ok u) = Every u.list × (length u.list ≤ room)
  IsUsed room (Err r) = Unit {0}

  abbrev AreValues : Result Valued Reason → Type 0
  AreValues (Ok v) = EachEvery v.values
  AreValues (Err r) = Unit {0}

  abbrev IsBody : Answer → Type 0
  IsBody (Ok m) = Every m.list
  IsBody (Err r) = Unit {0}

  abbrev AreMacros : Macros → Type 0
  AreMacros macros = (name : List ℕ) (m : Macro) → macros name ≡ Some m → Every m.body

  abbrev Expands : Expander → Type 0
  Expands expand = (active : List (List ℕ)) (room : ℕ) (b : Budget) (ts : List Token) → Every ts → IsMade room (expand active room b ts)

  abbrev Uses : User → Type 0
  Uses user = (active : List (List ℕ)) (room : ℕ) (b : Budget) (t : Token) (ts : List Token) → P t → Every ts → IsUsed room (user active room b t ts)

  behind_made : (ts : List Token) (a : Answer) (room : ℕ) → Every ts → length ts ≤ room → IsMade (room - length ts) a → IsMade room (behind ts a)
  behind_made ts (Ok m) room h l g = (every_append ts m.list h g.0, let n = length-append ts m.list in let b = g.1 in omega arith)
  behind_made ts (Err r) room h l g = tt

  used_within : (n room : ℕ) (r : Result Used Reason) → n ≤ room → IsUsed n r → IsUsed room r
  used_within n room (Ok u) l h = (h.0, let b = h.1 in omega arith)
  used_within n room (Err r) l h = tt

  with_value_every : (v : List Token) (r : Result Valued Reason) → Every v → AreValues r → AreValues (with_value v r)
  with_value_every v (Ok vs) h g = (h, g)
  with_value_every v (Err r) h g = tt

  module _ (text : List ℕ) (macros : Macros) (at : ℕ) (kept : AreMacros macros) where
    one_used : (user : User) → Uses user → Uses (read_one text macros at user)
    one_used user good active room b t ts h g = by (is_plain (role_of text t))
      where
        plain : (z : Bool) → (room == 0) ≡ z → IsUsed room (elim z as (λ _. Result Used Reason) [ true ↦ Err MacroLimit | false ↦ Ok (record { list = placed text macros at t ∷ []; taken = 0; left = b }) ])
        plain true e = tt
        plain false e = ((moved t at h, tt), some_room room e)

        use_of : (z : Bool) → IsUsed room (elim z as (λ _. Result Used Reason) [ false ↦ Err OfDirective | true ↦ user active room b t ts ])
        use_of true = good active room b t ts h g
        use_of false = tt

        by : (z : Bool) → IsUsed room (elim z as (λ _. Result Used Reason) [
          | true ↦ elim (room == 0) [ true ↦ Err MacroLimit | false ↦ Ok (record { list = placed text macros at t ∷ []; taken = 0; left = b }) ]
          | false ↦ elim (is_use (role_of text t)) [ false ↦ Err OfDirective | true ↦ user active room b t ts ]
        ])
        by true = plain (room == 0) refl
        by false = use_of (is_use (role_of text t))

    walk_step : (user : User) (active : List (List ℕ)) (room : ℕ) (ts : List Token) (r : Result Used Reason) → IsUsed room r → ((skip free : ℕ) (left : Budget) → IsMade free (walk text macros at user active skip free left ts))
        → IsMade room (elim r as (λ _. Answer) [ Err e ↦ Err e | Ok u ↦ behind u.list (walk text macros at user active u.taken (room - length u.list) u.left ts) ])
    walk_step user active room ts (Ok u) h g = behind_made u.list (walk text macros at user active u.taken (room - length u.list) u.left ts) room h.0 h.1 (g u.taken (room - length u.list) u.left)
    walk_step user active room ts (Err e) h g = tt

    walk_made : (user : User) → Uses user → (active : List (List ℕ)) (skip room : ℕ) (b : Budget) (ts : List Token) → Every ts → IsMade room (walk text macros at user active skip room b ts)
    walk_made user good active skip room b [] h = (tt, omega arith)
    walk_made user good active (suc skip) room b (t ∷ ts) h = walk_made user good active skip room b ts h.1
    walk_made user good active zero room b (t ∷ ts) h =
        walk_step user active room ts (read_one text macros at user active room b t ts) (one_used user good active room b t ts h.0 h.1) (λ skip free left. walk_made user good active skip free left ts h.1)

    expanded_made : (user : User) → Uses user → Expands (expanded text macros at user)
    expanded_made user good active room b ts h = by (charged (length ts) b)
      where
        by : (o : Option Budget) → IsMade room (elim o as (λ _. Answer) [ None ↦ Err MacroLimit | Some left ↦ walk text macros at user active 0 room left ts ])
        by None = tt
        by (Some left) = walk_made user good active 0 room left ts h

    values_step : (expand : Expander) (active : List (List ℕ)) (room : ℕ) (rest : List (List Token)) (r : Answer) → IsMade room r → ((free : ℕ) (left : Budget) → AreValues (values_of text macros at expand active free left rest))
        → AreValues (elim r as (λ _. Result Valued Reason) [ Err e ↦ Err e | Ok m ↦ with_value m.list (values_of text macros at expand active (room - length m.list) m.left rest) ])
    values_step expand active room rest (Ok m) h g = with_value_every m.list (values_of text macros at expand active (room - length m.list) m.left rest) h.0 (g (room - length m.list) m.left)
    values_step expand active room rest (Err e) h g = tt

    values_every : (expand : Expander) → Expands expand → (active : List (List ℕ)) (room : ℕ) (b : Budget) (vs : List (List Token)) → EachEvery vs → AreValues (values_of text macros at expand active room b vs)
    values_every expand good active room b [] h = tt
    values_every expand good active room b (v ∷ vs) h =
        values_step expand active room vs (expand active room b v) (good active room b v h.0) (λ free left. values_every expand good active free left vs h.1)

    replaced_used : (expand : Expander) → Expands expand → (active : List (List ℕ)) (room : ℕ) (b : Budget) (name : List ℕ) (taken : ℕ) (body : List Token) → Every body
        → IsUsed room (replaced text macros at expand active room b name taken body)
    replaced_used expand good active room b name taken body h = by (expand (active ++ name ∷ []) room b body) (good (active ++ name ∷ []) room b body h)
      where
        by : (r : Answer) → IsMade room r → IsUsed room (elim r as (λ _. Result Used Reason) [ Err e ↦ Err e | Ok m ↦ Ok (record { list = m.list; taken = taken; left = m.left }) ])
        by (Ok m) g = g
        by (Err e) g = tt

    filled_in_used : (expand : Expander) → Expands expand → (active : List (List ℕ)) (room : ℕ) (name : List ℕ) (taken : ℕ) (body : Answer) → IsBody body
        → IsUsed room (filled_in text macros at expand active room name taken body)
    filled_in_used expand good active room name taken (Ok m) h =
        used_within (room - length m.list) room (replaced text macros at expand active (room - length m.list) m.left name taken m.list) (omega arith)
        (replaced_used expand good active (room - length m.list) m.left name taken m.list h)
    filled_in_used expand good active room name taken (Err e) h = tt

    body_every : (room : ℕ) (m : Macro) (vs : List (List Token)) (b : Budget) → EachEvery vs → Every m.body → IsBody (body_of room m vs b)
    body_every room m vs b h g = by (charged (length m.body) b)
      where
        fit : (z : Bool) (left : Budget) → IsBody (elim z as (λ _. Answer) [ true ↦ Err MacroLimit | false ↦ Ok (record { list = filled vs m.slots m.body; left = left }) ])
        fit true left = tt
        fit false left = filled_every vs m.slots m.body h g

        by : (o : Option Budget) → IsBody (elim o as (λ _. Answer) [
          | None ↦ Err MacroLimit
          | Some left ↦ elim (nat_lt (room - total vs) (length (filled vs m.slots m.body))) [ true ↦ Err MacroLimit | false ↦ Ok (record { list = filled vs m.slots m.body; left = left }) ]
        ])
        by None = tt
        by (Some left) = fit (nat_lt (room - total vs) (length (filled vs m.slots m.body))) left

    used_plain_used : (expand : Expander) → Expands expand → (active : List (List ℕ)) (room : ℕ) (b : Budget) (over : Bool) (name : List ℕ) (m : Macro) → Every m.body
        → IsUsed room (used_plain text macros at expand active room b over name m)
    used_plain_used expand good active room b over name m h = by (stopped active name over)
      where
        by : (o : Option Reason) → IsUsed room (elim o as (λ _. Result Used Reason) [ Some r ↦ Err r | None ↦ replaced text macros at expand active room b name 0 m.body ])
        by (Some r) = tt
        by None = replaced_used expand good active room b name 0 m.body h

    used_with_used : (expand : Expander) → Expands expand → (active : List (List ℕ)) (room : ℕ) (b : Budget) (over : Bool) (name : List ℕ) (m : Macro) (ts : List Token) (ends : List ℕ) → Every m.body → Every ts
        → IsUsed room (used_with text macros at expand active room b over name m ts ends)
    used_with_used expand good active room b over name m ts ends h g =
        by (values_of text macros at expand active room b (arguments_from 1 ts ends)) (values_every expand good active room b (arguments_from 1 ts ends) (arguments_every 1 ts ends g))
      where
        go : (v : Valued) (o : Option Reason) → EachEvery v.values → IsUsed room (elim o as (λ _. Result Used Reason) [ Some r ↦ Err r | None ↦ filled_in text macros at expand active room name (tokens_taken ends) (body_of room m v.values v.left) ])
        go v (Some r) k = tt
        go v None k = filled_in_used expand good active room name (tokens_taken ends) (body_of room m v.values v.left) (body_every room m v.values v.left k h)

        by : (r : Result Valued Reason) → AreValues r → IsUsed room (elim r as (λ _. Result Used Reason) [
          | Err e ↦ Err e
          | Ok v ↦ elim (stopped active name over) [ Some r ↦ Err r | None ↦ filled_in text macros at expand active room name (tokens_taken ends) (body_of room m v.values v.left) ]
        ])
        by (Ok v) k = go v (stopped active name over) k
        by (Err e) k = tt

    used_used : (expand : Expander) → Expands expand → Uses (used text macros at expand)
    used_used expand good active room b t ts h g = by (macros (name_of text t)) refl
      where
        given : (m : Macro) (o : Option (List ℕ)) → Every m.body → IsUsed room (elim o as (λ _. Result Used Reason) [ None ↦ Err MacroArguments | Some ends ↦ used_with text macros at expand active room (counted b) (b.uses == 0) (name_of text t) m ts ends ])
        given m None k = tt
        given m (Some ends) k = used_with_used expand good active room (counted b) (b.uses == 0) (name_of text t) m ts ends k g

        formed : (m : Macro) (o : Option ℕ) → Every m.body → IsUsed room (elim o as (λ _. Result Used Reason) [
          | None ↦ used_plain text macros at expand active room (counted b) (b.uses == 0) (name_of text t) m
          | Some n ↦ elim (fitting_ends n ts) [ None ↦ Err MacroArguments | Some ends ↦ used_with text macros at expand active room (counted b) (b.uses == 0) (name_of text t) m ts ends ]
        ])
        formed m None k = used_plain_used expand good active room (counted b) (b.uses == 0) (name_of text t) m k
        formed m (Some n) k = given m (fitting_ends n ts) k

        by : (o : Option Macro) → macros (name_of text t) ≡ o → IsUsed room (elim o as (λ _. Result Used Reason) [
          | None ↦ Err UnknownMacro
          | Some m ↦ elim m.formals [
            | None ↦ used_plain text macros at expand active room (counted b) (b.uses == 0) (name_of text t) m
            | Some n ↦ elim (fitting_ends n ts) [ None ↦ Err MacroArguments | Some ends ↦ used_with text macros at expand active room (counted b) (b.uses == 0) (name_of text t) m ts ends ]
          ]
        ])
        by None e = tt
        by (Some m) e = formed m m.formals (kept (name_of text t) m e)

    too_deep_used : Uses (used_too_deep text macros at)
    too_deep_used active room b t ts h g = by (macros (name_of text t))
      where
        last : (z : Bool) → IsUsed room (cond z (Err MacroLoop) (Err MacroLimit))
        last true = tt
        last false = tt

        fit : (z : Bool) → IsUsed room (elim z as (λ _. Result Used Reason) [ false ↦ Err MacroArguments | true ↦ cond (is_among active (name_of text t)) (Err MacroLoop) (Err MacroLimit) ])
        fit true = last (is_among active (name_of text t))
        fit false = tt

        by : (o : Option Macro) → IsUsed room (elim o as (λ _. Result Used Reason) [
          | None ↦ Err UnknownMacro
          | Some m ↦ elim (fits m ts) [ false ↦ Err MacroArguments | true ↦ cond (is_among active (name_of text t)) (Err MacroLoop) (Err MacroLimit) ]
        ])
        by None = tt
        by (Some m) = fit (fits m ts)

    nested_made : (levels : ℕ) → Expands (nested text macros at levels)
    unfolding nested
    nested_made zero = expanded_made (used_too_deep text macros at) too_deep_used
    nested_made (suc levels) = expanded_made (used text macros at (nested text macros at levels)) (used_used (nested text macros at levels) (nested_made levels))

  -- ---- macros

  some_same : {A : Type 0} {a b : A} → Some a ≡ Some b → a ≡ b
  some_same e = cc

  defined_macros : (name : List ℕ) (m : Macro) (macros : Macros) → Every m.body → AreMacros macros → AreMacros (with_macro name (Some m) macros)
  defined_macros name m macros h g other n e = by (bytes_eq name other) e
    where
      by : (b : Bool) → cond b (Some m) (macros other) ≡ Some n → Every n.body
      by true q = subst (λ (x : Macro). Every x.body) (some_same q) h
      by false q = g other n q

  undefined_macros : (name : List ℕ) (macros : Macros) → AreMacros macros → AreMacros (with_macro name None macros)
  undefined_macros name macros g other n e = by (bytes_eq name other) e
    where
      by : (b : Bool) → cond b None (macros other) ≡ Some n → Every n.body
      by true q = cc
      by false q = g other n q

  abbrev HasRest : Option (List (List ℕ) × List Token) → Type 0
  HasRest None = Unit {0}
  HasRest (Some f) = Every f.1

  abbrev IsDefined : Defined → Type 0
  IsDefined (Defines d) = Every d.is.body
  IsDefined (Misplaced at) = Unit {0}
  IsDefined Misformed = Unit {0}

  module _ (text : List ℕ) where
    rest_every : (names : List (List ℕ)) (ts : List Token) → Every ts → HasRest (formals_of text names ts)
    rest_every names [] h = tt
    rest_every names (n ∷ []) h = tt
    rest_every names (n ∷ s ∷ rest) h = by (is_formal text names n) (rest_every (names ++ bytes_of text n ∷ []) rest h.1.1)
      where
        more : (z : Bool) → HasRest (formals_of text (names ++ bytes_of text n ∷ []) rest) → HasRest (elim z as (λ _. Option (List (List ℕ) × List Token)) [ true ↦ formals_of text (names ++ bytes_of text n ∷ []) rest | false ↦ None ])
        more true g = g
        more false g = tt

        last : (z : Bool) → HasRest (formals_of text (names ++ bytes_of text n ∷ []) rest) → HasRest (elim z as (λ _. Option (List (List ℕ) × List Token)) [
          | true ↦ Some (names ++ bytes_of text n ∷ [], rest)
          | false ↦ elim (is_comma s.kind) [ true ↦ formals_of text (names ++ bytes_of text n ∷ []) rest | false ↦ None ]
        ])
        last true g = h.1.1
        last false g = more (is_comma s.kind) g

        by : (z : Bool) → HasRest (formals_of text (names ++ bytes_of text n ∷ []) rest) → HasRest (elim z as (λ _. Option (List (List ℕ) × List Token)) [
          | false ↦ None
          | true ↦ elim (is_close s.kind) [
            | true ↦ Some (names ++ bytes_of text n ∷ [], rest)
            | false ↦ elim (is_comma s.kind) [ true ↦ formals_of text (names ++ bytes_of text n ∷ []) rest | false ↦ None ]
          ]
        ])
        by true g = last (is_close s.kind) g
        by false g = tt

    body_defined : (name : List ℕ) (formals : Option (List (List ℕ))) (body : List Token) → Every body → IsDefined (with_body text name formals body)
    body_defined name None body h = by (own_in text body)
      where
        by : (o : Option Token) → IsDefined (elim o as (λ _. Defined) [ Some t ↦ Misplaced t.at | None ↦ Defines (record { name = name; is = record { formals = None; body = body; slots = [] } }) ])
        by (Some t) = tt
        by None = h
    body_defined name (Some names) body h = by (own_in text body)
      where
        by : (o : Option Token) → IsDefined (elim o as (λ _. Defined) [ Some t ↦ Misplaced t.at | None ↦ Defines (record { name = name; is = record { formals = Some (length names); body = body; slots = map (slot_of text names) body } }) ])
        by (Some t) = tt
        by None = h

    bracket_defined : (name : List ℕ) (ts : List Token) → Every ts → IsDefined (behind_bracket text name ts)
    bracket_defined name [] h = tt
    bracket_defined name (b ∷ rest) h = by (formals_of text [] rest) (rest_every [] rest h.1)
      where
        by : (o : Option (List (List ℕ) × List Token)) → HasRest o → IsDefined (elim o as (λ _. Defined) [ None ↦ Misformed | Some f ↦ with_body text name (Some f.0) f.1 ])
        by None g = tt
        by (Some f) g = body_defined name (Some f.0) f.1 g

    line_defined : (line : List Token) → Every line → IsDefined (defined_by text line)
    line_defined [] h = tt
    line_defined (w ∷ rest) h = by (is_word w.kind && not (is_directive_name (bytes_of text w)))
      where
        next : (z : Bool) → IsDefined (elim z as (λ _. Defined) [ true ↦ behind_bracket text (bytes_of text w) rest | false ↦ with_body text (bytes_of text w) None rest ])
        next true = bracket_defined (bytes_of text w) rest h.1
        next false = body_defined (bytes_of text w) None rest h.1

        by : (z : Bool) → IsDefined (elim z as (λ _. Defined) [
          | false ↦ Misformed
          | true ↦ elim (slice_index text w.end == 40) [ true ↦ behind_bracket text (bytes_of text w) rest | false ↦ with_body text (bytes_of text w) None rest ]
        ])
        by true = next (slice_index text w.end == 40)
        by false = tt

    line_every : (t : Token) (us : List Token) → Every us → Every (line_of text t us)
    line_every t [] h = tt
    line_every t (u ∷ us) h = by (same_line text t u) (line_every u us h.1)
      where
        by : (z : Bool) → Every (line_of text u us) → Every (elim z as (λ _. List Token) [ true ↦ u ∷ line_of text u us | false ↦ [] ])
        by true g = (h.0, g)
        by false g = tt

    -- ---- the tokens of a text

    abbrev IsStep : ℕ → Result Step PreError → Type 0
    IsStep room (Ok d) = Every d.list × AreMacros d.state.macros × (length d.list + d.state.room ≤ room)
    IsStep room (Err e) = Unit {0}

    abbrev IsList : ℕ → Result (List Token) PreError → Type 0
    IsList room (Ok l) = Every l × (length l ≤ room)
    IsList room (Err e) = Unit {0}

    turns_step : (s : State) (at : ℕ) (o : Option Turned) → AreMacros s.macros → IsStep s.room (turns s at o)
    turns_step s at None h = tt
    turns_step s at (Some t) h = (tt, h, omega arith)

    defines_step : (s : State) (t : Token) (line : List Token) → AreMacros s.macros → Every line → IsStep s.room (defines text s t line)
    defines_step s t line h g = by (defined_by text line) (line_defined line g)
      where
        by : (o : Defined) → IsDefined o → IsStep s.room (elim o as (λ _. Result Step PreError) [
          | Misformed ↦ Err (error.BadDirective t.at)
          | Misplaced at ↦ Err (error.BadDirective at)
          | Defines d ↦ Ok (unmade (length line) (record s { macros = with_macro d.name (Some d.is) s.macros }))
        ])
        by Misformed k = tt
        by (Misplaced at) k = tt
        by (Defines d) k = (tt, defined_macros d.name d.is s.macros k h, omega arith)

    undefines_step : (s : State) (t : Token) (word : Option (List ℕ)) → AreMacros s.macros → IsStep s.room (undefines s t word)
    undefines_step s t None h = tt
    undefines_step s t (Some w) h = (tt, undefined_macros w s.macros h, omega arith)

    keeps_step : (s : State) (t : Token) → AreMacros s.macros → P t → IsStep s.room (keeps s t)
    keeps_step s t h g = by s.room
      where
        by : (n : ℕ) → IsStep n (elim n as (λ _. Result Step PreError) [ zero ↦ Err (error.MacroLimit t.at) | suc rest ↦ Ok (record { list = t ∷ []; taken = 0; state = record s { room = rest } }) ])
        by zero = tt
        by (suc n) = ((g, tt), h, omega arith)

    replaces_step : (s : State) (at : ℕ) (r : Result Used Reason) → AreMacros s.macros → IsUsed s.room r → IsStep s.room (replaces s at r)
    replaces_step s at (Ok u) h g = (g.0, h, let l = g.1 in omega arith)
    replaces_step s at (Err e) h g = tt

    kept_is : (levels : ℕ) (s : State) (t : Token) (ts : List Token) (r : Role) → AreMacros s.macros → P t → Every ts → IsStep s.room (kept_step text levels s t ts r)
    kept_is levels s t ts role.Plain h g k = keeps_step s t h g
    kept_is levels s t ts role.Use h g k =
        replaces_step s t.at (used text s.macros t.at (nested text s.macros t.at levels) [] s.room s.left t ts) h
        (used_used text s.macros t.at h (nested text s.macros t.at levels) (nested_made text s.macros t.at h levels) [] s.room s.left t ts g k)
    kept_is levels s t ts role.Define h g k = defines_step s t (line_of text t ts) h (line_every t ts k)
    kept_is levels s t ts role.Undef h g k = undefines_step s t (word_behind text ts) h
    kept_is levels s t ts role.Ifdef h g k = (tt, h, omega arith)
    kept_is levels s t ts role.Ifndef h g k = (tt, h, omega arith)
    kept_is levels s t ts role.Elsif h g k = (tt, h, omega arith)
    kept_is levels s t ts role.Else h g k = (tt, h, omega arith)
    kept_is levels s t ts role.Endif h g k = (tt, h, omega arith)

    other_is : (levels : ℕ) (s : State) (t : Token) (ts : List Token) (r : Role) → AreMacros s.macros → P t → Every ts → IsStep s.room (other_step text levels s t ts r)
    other_is levels s t ts r h g k = by (is_kept s.branches)
      where
        by : (z : Bool) → IsStep s.room (elim z as (λ _. Result Step PreError) [ true ↦ kept_step text levels s t ts r | false ↦ Ok (unmade 0 s) ])
        by true = kept_is levels s t ts r h g k
        by false = (tt, h, omega arith)

    step_is : (levels : ℕ) (s : State) (t : Token) (ts : List Token) (r : Role) → AreMacros s.macros → P t → Every ts → IsStep s.room (step text levels s t ts r)
    step_is levels s t ts role.Ifdef h g k = turns_step s t.at (opened s.macros s.branches t.at true (word_behind text ts)) h
    step_is levels s t ts role.Ifndef h g k = turns_step s t.at (opened s.macros s.branches t.at false (word_behind text ts)) h
    step_is levels s t ts role.Elsif h g k = turns_step s t.at (turned s.macros s.branches (word_behind text ts)) h
    step_is levels s t ts role.Else h g k = turns_step s t.at (turned_last s.branches) h
    step_is levels s t ts role.Endif h g k = turns_step s t.at (closed s.branches) h
    step_is levels s t ts role.Plain h g k = other_is levels s t ts role.Plain h g k
    step_is levels s t ts role.Use h g k = other_is levels s t ts role.Use h g k
    step_is levels s t ts role.Define h g k = other_is levels s t ts role.Define h g k
    step_is levels s t ts role.Undef h g k = other_is levels s t ts role.Undef h g k

    behind_list : (ts : List Token) (r : Result (List Token) PreError) (n room : ℕ) → Every ts → length ts + n ≤ room → IsList n r → IsList room (put_behind ts r)
    behind_list ts (Ok us) n room h l g = (every_append ts us h g.0, let e = length-append ts us in let b = g.1 in omega arith)
    behind_list ts (Err e) n room h l g = tt

    ended_list : (room : ℕ) (bs : List Branch) → IsList room (ended bs)
    ended_list room [] = (tt, omega arith)
    ended_list room (b ∷ bs) = tt

    read_step : (levels : ℕ) (s : State) (ts : List Token) (r : Result Step PreError) → IsStep s.room r → ((skip : ℕ) (next : State) → AreMacros next.macros → IsList next.room (read text levels skip next ts))
        → IsList s.room (elim r as (λ _. Result (List Token) PreError) [ Err e ↦ Err e | Ok d ↦ put_behind d.list (read text levels d.taken d.state ts) ])
    read_step levels s ts (Ok d) h g = behind_list d.list (read text levels d.taken d.state ts) d.state.room s.room h.0 h.2 (g d.taken d.state h.1)
    read_step levels s ts (Err e) h g = tt

    read_list : (levels skip : ℕ) (s : State) (ts : List Token) → AreMacros s.macros → Every ts → IsList s.room (read text levels skip s ts)
    read_list levels skip s [] h k = ended_list s.room s.branches
    read_list levels (suc skip) s (t ∷ ts) h k = read_list levels skip s ts h k.1
    read_list levels zero s (t ∷ ts) h k =
        read_step levels s ts (step text levels s t ts (role_of text t)) (step_is levels s t ts (role_of text t) h k.0 k.1) (λ skip next g. read_list levels skip next ts g k.1)

    none_are : AreMacros no_macros
    none_are name m e = cc

    resolved_list : (tokens : List Token) → Every tokens → IsList 1048576 (resolved text tokens)
    unfolding resolved the_limits
    resolved_list tokens h = read_list 63 0 (first_state the_limits) tokens none_are h

    -- ---- attributes

    left_every : (t : Token) (ts : List Token) (o : Option ℕ) → P t → ((k : ℕ) → Every (outside k ts) × (length (outside k ts) ≤ length ts))
        → let l : List Token = elim o [ None ↦ t ∷ outside 0 ts | Some more ↦ outside more ts ] in Every l × (length l ≤ suc (length ts))
    left_every t ts None p f = let r = f 0 in ((p, r.0), let n = r.1 in omega arith)
    left_every t ts (Some more) p f = let r = f more in (r.0, let n = r.1 in omega arith)

    outside_every : (skip : ℕ) (ts : List Token) → Every ts → Every (outside skip ts) × (length (outside skip ts) ≤ length ts)
    outside_every skip [] h = (tt, omega arith)
    outside_every (suc skip) (t ∷ ts) h = let r = outside_every skip ts h.1 in (r.0, let n = r.1 in omega arith)
    outside_every zero (t ∷ ts) h = left_every t ts (attribute (t ∷ ts)) h.0 (λ k. outside_every k ts h.1)

    -- ---- sizes

    -- where a number with its size is such a token too
    module _ (sizes : (t u : Token) → P t → P u → is_size_of text t u ≡ true → is_fitting text t u ≡ true → P (with_size t u)) where
      pair_every : (t u : Token) (ts : List Token) (b f : Bool) → is_size_of text t u ≡ b → is_fitting text t u ≡ f → P t → P u → IsList (suc (length ts)) (sized text (u ∷ ts)) → IsList (length ts) (sized text ts)
          → IsList (suc (suc (length ts))) (elim b as (λ _. Result (List Token) PreError) [
            | false ↦ put_behind (t ∷ []) (sized text (u ∷ ts))
            | true ↦ elim f [ false ↦ Err (error.BadLiteral t.at) | true ↦ put_behind (with_size t u ∷ []) (sized text ts) ]
          ])
      pair_every t u ts false f e g p q r s = behind_list (t ∷ []) (sized text (u ∷ ts)) (suc (length ts)) (suc (suc (length ts))) (p, tt) (omega arith) r
      pair_every t u ts true false e g p q r s = tt
      pair_every t u ts true true e g p q r s = behind_list (with_size t u ∷ []) (sized text ts) (length ts) (suc (suc (length ts))) (sizes t u p q e g, tt) (omega arith) s

      sized_every : (ts : List Token) → Every ts → IsList (length ts) (sized text ts)
      sized_every [] h = (tt, omega arith)
      sized_every (t ∷ []) h = (h, omega arith)
      sized_every (t ∷ u ∷ ts) h = pair_every t u ts (is_size_of text t u) (is_fitting text t u) refl refl h.0 h.1.0 (sized_every (u ∷ ts) h.1) (sized_every ts h.1.1)

      finished_every : (r : Result (List Token) PreError) (list : List Token) → IsList 1048576 r → finished text r ≡ Ok list → Every list × (length list ≤ 1048576)
      finished_every (Ok ts) list h e =
          let k = outside_every 0 ts h.0 in
          let s = subst (λ r. IsList (length (without_attributes ts)) r) e (sized_every (without_attributes ts) k.0) in
          (s.0, let a = k.1 in let b = h.1 in let d = s.1 in omega arith)
      finished_every (Err x) list h e = cc

      pub kept : (tokens list : List Token) → Every tokens → pre text tokens ≡ Ok list → Every list × (length list ≤ 1048576)
      unfolding pre
      kept tokens list h e = finished_every (resolved text tokens) list (resolved_list tokens h) e

found_elsewhere : (text : List ℕ) (t : Token) (at : ℕ) → StandsIn text t → StandsIn text (record t { at = at })
found_elsewhere text t at s = record { some = s.some; inside = s.inside; taken = s.taken; sized = s.sized }

decimal_is : (k : TokenKind) → is_decimal k ≡ true → k ≡ kind.Decimal
decimal_is kind.Decimal e = refl
decimal_is _ e = cc

based_is : (k : TokenKind) → is_based k ≡ true → k ≡ kind.Based
based_is kind.Based e = refl
based_is _ e = cc

is_byte : (b c : ℕ) → (b == c) ≡ true → b ≡ c
is_byte b c e = grind (arith, nat_tests)

sized_stands : (text : List ℕ) (t u : Token) → StandsIn text t → StandsIn text u → is_size_of text t u ≡ true → is_fitting text t u ≡ true → StandsIn text (with_size t u)
sized_stands text t u s n e f =
    let p = and_parts (is_decimal t.kind) (lacks_size text u) e in
    let q = and_parts (is_based u.kind) (slice_index (bytes_of text u) 0 == 39) p.1 in
    record {
      some = n.some;
      inside = n.inside;
      taken = n.taken;
      sized = record {
        some = s.some;
        inside = s.inside;
        decimal = s.taken ∙ ap (λ k. Ok (record { kind = k; length = t.end - t.start })) (decimal_is t.kind p.0);
        based = based_is u.kind q.0;
        quote = is_byte (slice_index (bytes_of text u) 0) 39 q.1;
        in_range = f;
      };
    }

pub kept_are_tokens : (text : List ℕ) (tokens list : List Token) → AreTokens text tokens → pre text tokens ≡ Ok list → AreTokens text list
kept_are_tokens text tokens list a e =
    let k = kept (StandsIn text) (found_elsewhere text) text (sized_stands text) tokens list (every_of (StandsIn text) (found_elsewhere text) tokens a.each) e in
    record { few = k.1; each = each_of (StandsIn text) (found_elsewhere text) list k.0 }
