-- A tree that tokens spell has the shape of one.
use Rattle.std.proofs.Common.{List, [], subst, sym}
use Rattle.vs_lexer.specs.Cuts.{spelling_of}
use Rattle.vs_lexer.specs.Laws.{LongestIsTaken}
use Rattle.vs_grammar.specs.Grammars.{Terminal, onto}
use Rattle.vs_grammar.specs.Trees.{Source}
use Rattle.vs_grammar.specs.Shapes.{IsModule, OneOrMore, Each, SpelledIsShaped}
use Rattle.vs_grammar.proofs.ShapeFacts.{IsWell, sound_by}
use Rattle.vs_grammar.proofs.ItemShapes.{modules_ok}
use Rattle.vs_grammar.proofs.TokenFacts.{literals_are, terminals_are}
use Rattle.vs_grammar.proofs.SpelledFacts.{spelled_is_shallow}

pub spelled_is_shaped : LongestIsTaken → SpelledIsShaped
spelled_is_shaped law text tokens source are p =
    let d = p.derivation in
    let well : Each (IsWell (spelling_of text tokens)) (onto d []) = subst (λ (ts : List Terminal). Each (IsWell (spelling_of text tokens)) ts) (sym p.derived.0) (terminals_are law text tokens are) in
    let sound = sound_by (spelling_of text tokens) d [] p.derived.1 well in
    record {
      modules = subst (λ (s : Source). OneOrMore IsModule s.modules) p.stands (modules_ok (spelling_of text tokens) (literals_are law text tokens are) d sound);
      shallow = spelled_is_shallow text tokens source p;
    }
