use Rattle.std.proofs.Common.{◌≡◌, ◌∙◌, ◌+◌, ◌<◌, ℕ, List, [], ◌∷◌, drop, get_or, length, map, refl, sym, ap, subst, arith}
use Rattle.std.proofs.lemmas.List.{drop_more}
use Rattle.vs_values.specs.Coded.{Coding}
use Rattle.vs_lower.specs.Unless.{AddsMade, AddsUnlessWrite, HasTargetNode, IsUnlessWriteReady, Note, note_of}
use Rattle.vs_lower.specs.declared.unless.Update.{Update}
use Rattle.vs_lower.proofs.Making.{AreMakeReady, made_none, made_then, note_ready, rest_ready}
use Rattle.vs_lower.proofs.unless.make_updates.Goals as goal

-- what is left, with its first
next_is : (f : Update → Note) (us : List Update) (k : ℕ) (u : Update) → u ≡ get_or us k u → k < length us → map f (drop k us) ≡ f u ∷ map f (drop (k + 1) us)
next_is f us k u is l = ap (map f) (drop_more us k u l) ∙ ap (λ (x : Update). f x ∷ map f (drop (k + 1) us)) (sym is)

none_left : (f : Update → Note) (us : List Update) (k : ℕ) → k ≡ length us → map f (drop k us) ≡ []
none_left f us k e = ap (λ (n : ℕ). map f (drop n us)) e ∙ whole us
  where
    whole : (xs : List Update) → map f (drop (length xs) xs) ≡ []
    whole [] = refl
    whole (x ∷ xs) = whole xs

pub loop-k-init : goal.loop-k-init
loop-k-init c = (
  record {
    is_env = c.requires.env;
    long = refl;
    noted = c.requires.notes;
    light = c.requires.light;
    slots = c.requires.slots;
    few = c.requires.few;
  },
  λ last env m. m,
)

pub write_unless-requires-clause-target : goal.write_unless-requires-clause-target
write_unless-requires-clause-target c = (subst (HasTargetNode c.args.templates.now) (sym c.index-updates-k.is) (c.requires.nodes c.loop-k.k c.index-updates-k.result c.loop-k-test.true)).0

pub write_unless-requires-clause-is_target : goal.write_unless-requires-clause-is_target
write_unless-requires-clause-is_target c = (subst (HasTargetNode c.args.templates.now) (sym c.index-updates-k.is) (c.requires.nodes c.loop-k.k c.index-updates-k.result c.loop-k-test.true)).1

-- the arguments of the write, in the words of the note
noted : (env : List ℕ) (code : Coding) (n : Note) (at : List (List ℕ)) (value : List ℕ) → at ≡ n.at → value ≡ n.value → IsUnlessWriteReady env code n.target n.at n.value n.bar → IsUnlessWriteReady env code n.target at value n.bar
noted env code n at value ea ev r =
    subst (λ (x : List (List ℕ)). IsUnlessWriteReady env code n.target x value n.bar) (sym ea) (subst (λ (x : List ℕ). IsUnlessWriteReady env code n.target n.at x n.bar) (sym ev) r)

made : (env env1 : List ℕ) (code code1 : Coding) (n : Note) (at : List (List ℕ)) (value : List ℕ) → at ≡ n.at → value ≡ n.value → AddsUnlessWrite env env1 code code1 n.target at value n.bar → AddsUnlessWrite env env1 code code1 n.target n.at n.value n.bar
made env env1 code code1 n at value ea ev w =
    subst (λ (x : List (List ℕ)). AddsUnlessWrite env env1 code code1 n.target x n.value n.bar) ea (subst (λ (x : List ℕ). AddsUnlessWrite env env1 code code1 n.target at x n.bar) ev w)

pub write_unless-requires-clause-ready : goal.write_unless-requires-clause-ready
write_unless-requires-clause-ready c =
    let f = note_of c.args.templates.now.arena in
    let us = c.args.updates.now in
    let k = c.loop-k.k in
    let count = length c.args.env.now in
    let rest = map f (drop (k + 1) us) in
    let r = subst (AreMakeReady count c.loop-k.env c.loop-k.code) (next_is f us k c.index-updates-k.result c.index-updates-k.is c.loop-k-test.true) c.loop-k.invariant.0 in
    noted c.loop-k.env c.loop-k.code (f c.index-updates-k.result) c.as_slice.result.now c.as_slice-in-loop-k.result.now c.as_slice.ensures.value c.as_slice-in-loop-k.ensures.value (note_ready count c.loop-k.env c.loop-k.code (f c.index-updates-k.result) rest r)

pub loop-k-preserved : goal.loop-k-preserved
loop-k-preserved c =
    let f = note_of c.args.templates.now.arena in
    let us = c.args.updates.now in
    let k = c.loop-k.k in
    let count = length c.args.env.now in
    let env = c.loop-k.env in
    let code = c.loop-k.code in
    let env1 = c.write_unless.new.env in
    let code1 = c.write_unless.new.code in
    let rest = map f (drop (k + 1) us) in
    let next = next_is f us k c.index-updates-k.result c.index-updates-k.is c.loop-k-test.true in
    let r = subst (AreMakeReady count env code) next c.loop-k.invariant.0 in
    let w = made env env1 code code1 (f c.index-updates-k.result) c.as_slice.result.now c.as_slice-in-loop-k.result.now c.as_slice.ensures.value c.as_slice-in-loop-k.ensures.value c.in_ok-write_unless.ensures in (
      rest_ready count env env1 code code1 (f c.index-updates-k.result) rest r w,
      λ last final m. c.loop-k.invariant.1 last final (subst (AddsMade env final code last) (sym next) (made_then count env env1 final code code1 last (f c.index-updates-k.result) rest r w m)),
    )

pub returns : goal.returns
returns c =
    let f = note_of c.args.templates.now.arena in
    let us = c.args.updates.now in
    let end : c.loop-k.k ≡ length us = omega (arith, c.loop-k.auto.k-end, c.loop-k-test.false) in
    let none = none_left f us c.loop-k.k end in
    let env = c.loop-k.env in
    let code = c.loop-k.code in
    c.loop-k.invariant.1 code env (subst (AddsMade env env code code) (sym none) (made_none (length c.args.env.now) env code (subst (AreMakeReady (length c.args.env.now) env code) none c.loop-k.invariant.0)))
