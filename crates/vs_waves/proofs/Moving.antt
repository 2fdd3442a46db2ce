-- Texts that are moved one behind the other are moved as one text.
use Rattle.std.proofs.Common.{◌≡◌, ℕ, Bool, List, ◌++◌, IsTrue, Result, Ok, Err, IsErr, refl, ap, ◌∙◌, subst}
use Rattle.vs_desk.specs.Desk.{Register, Told, Fails, PutsPart, PutsAll}
use Rattle.vs_desk.specs.Laws.{PutsInParts, PutsNothing}
use Rattle.vs_waves.specs.Puts.{Moves, PutsFront}
use Rattle.vs_waves.proofs.Draining.{Drained, drained-part, front-none, front-after, front-all, part_after, part-all, part-more}

-- an equal text is moved
pub moves_as : {tells : Bool} {V E : Type 0} (old new : Told tells) (place : ℕ) (text other : List ℕ) (others : V → List ℕ) (result : Result V E) → text ≡ other
    → Moves old new place text others result → Moves old new place other others result
moves_as old new place text other others result e m = subst (λ (xs : List ℕ). Moves old new place xs others result) e m

-- nothing was put, and the whole text stands in the block
pub moves_none : {tells : Bool} {V E : Type 0} → PutsNothing → (desk : Told tells) (place : ℕ) (text : List ℕ) (others : V → List ℕ) (v : V) → others v ≡ text
    → Moves {E = E} desk desk place text others (Ok v)
moves_none nothing desk place text others v e = record {
  same = refl;
  put = λ t. subst (λ (xs : List ℕ). PutsFront desk.register desk.contents desk.contents place xs (others v)) e (front-none desk.register desk.contents place (others v) nothing);
  failed = tt;
  part = λ t. tt;
}

-- a call failed
pub moves_err : {tells : Bool} {V E : Type 0} (old new : Told tells) (place : ℕ) (text : List ℕ) (others : V → List ℕ) (result : Result V E) → IsErr result
    → Fails old.register new.register place old.register.asked → (IsTrue tells → PutsPart old.register old.contents new.contents place text) → Moves old new place text others result
moves_err old new place text others (Ok v) h failed part = cc
moves_err old new place text others (Err e) h failed part = record { same = tt; put = λ t. tt; failed = failed; part = part }

-- the last text failed
pub moves_failed : {tells : Bool} {V W E F : Type 0} (old new : Told tells) (place : ℕ) (text : List ℕ) (others : V → List ℕ) (rest : W → List ℕ) (e : E) (result : Result W F)
    → IsErr result → Moves old new place text others (Err e) → Moves old new place text rest result
moves_failed old new place text others rest e result h m = moves_err old new place text rest result h m.failed m.part

-- the first text failed, so what is behind it wasn't moved
pub moves_before : {tells : Bool} {V W E F : Type 0} (old new : Told tells) (place : ℕ) (text more : List ℕ) (others : V → List ℕ) (rest : W → List ℕ) (e : E) (result : Result W F)
    → IsErr result → Moves old new place text others (Err e) → Moves old new place (text ++ more) rest result
moves_before old new place text more others rest e result h m =
    moves_err old new place (text ++ more) rest result h m.failed (λ t. part-more old.register old.contents new.contents place text more (m.part t))

-- the first text was moved, and then the second was tried
pub moves_then : {tells : Bool} {V W E F : Type 0} → PutsInParts → (old now new : Told tells) (place : ℕ) (text more : List ℕ) (others : V → List ℕ) (rest : W → List ℕ) (v : V) (result : Result W E)
    → Moves {E = F} old now place text others (Ok v) → Moves now new place (others v ++ more) rest result → Moves old new place (text ++ more) rest result
moves_then parts old now new place text more others rest v (Ok w) a b = record {
  same = b.same ∙ a.same;
  put = λ t. front-after old.register now.register old.contents now.contents new.contents place text (others v) more (rest w) parts a.same (a.put t) (b.put t);
  failed = tt;
  part = λ t. tt;
}
moves_then parts old now new place text more others rest v (Err e) a b = record {
  same = tt;
  put = λ t. tt;
  failed = subst (λ (r : Register). Fails r new.register place r.asked) a.same b.failed;
  part = λ t. part_after old.register now.register old.contents now.contents new.contents place text (others v) more parts a.same (a.put t) (b.part t);
}

-- a text was moved, and then all was put that stood in the block
pub moves_all : {tells : Bool} {V W E F : Type 0} → PutsInParts → (old now new : Told tells) (place : ℕ) (text : List ℕ) (others : V → List ℕ) (v : V) (result : Result W E)
    → Moves {E = F} old now place text others (Ok v) → PutsAll now new place (others v) result → PutsAll old new place text result
moves_all parts old now new place text others v (Ok w) a b = record {
  same = b.same ∙ a.same;
  put = λ t. front-all old.register now.register old.contents now.contents new.contents place text (others v) parts a.same (a.put t) (b.put t);
  places = b.places ∙ ap (λ (r : Register). r.attached) a.same;
  failed = tt;
  part = λ t. tt;
}
moves_all parts old now new place text others v (Err e) a b = record {
  same = tt;
  put = λ t. tt;
  places = b.places ∙ ap (λ (r : Register). r.attached) a.same;
  failed = subst (λ (r : Register). Fails r new.register place r.asked) a.same b.failed;
  part = λ t. part-all old.register now.register old.contents now.contents new.contents place text (others v) parts a.same (a.put t) (b.part t);
}

-- a text wasn't moved whole, so it wasn't put
pub moves_lost : {tells : Bool} {V W E F : Type 0} (old new : Told tells) (place : ℕ) (text : List ℕ) (others : V → List ℕ) (e : E) (result : Result W F)
    → IsErr result → Moves old new place text others (Err e) → PutsAll old new place text result
moves_lost old new place text others e (Ok w) h m = cc
moves_lost old new place text others e (Err f) h m = record { same = tt; put = λ t. tt; places = m.failed.attached; failed = m.failed; part = m.part }

-- the first text wasn't moved whole, so it wasn't put with what is behind it
pub lost_before : {tells : Bool} {V W E F : Type 0} (old new : Told tells) (place : ℕ) (text more : List ℕ) (others : V → List ℕ) (e : E) (result : Result W F)
    → IsErr result → Moves old new place text others (Err e) → PutsAll old new place (text ++ more) result
lost_before old new place text more others e (Ok w) h m = cc
lost_before old new place text more others e (Err f) h m = record {
  same = tt;
  put = λ t. tt;
  places = m.failed.attached;
  failed = m.failed;
  part = λ t. part-more old.register old.contents new.contents place text more (m.part t);
}

-- the next piece of a text failed
pub drained_failed : {tells : Bool} {V W E F : Type 0} → PutsInParts → (start now next : Told tells) (place : ℕ) (text rest piece later : List ℕ) (others : W → List ℕ) (e : E) (result : Result W F)
    → IsErr result → Drained start now place text rest → piece ++ later ≡ rest → PutsAll {V = V} now next place piece (Err e) → Moves start next place text others result
drained_failed parts start now next place text rest piece later others e result h before split p =
    moves_err start next place text others result h
    (subst (λ (r : Register). Fails r next.register place r.asked) before.same p.failed)
    (drained-part start now next place text rest piece later parts before split p.part)
