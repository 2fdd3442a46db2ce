-- Attributes (IEEE 1364-2005, 3.8), which say nothing of what a design does: they are skipped wherever they stand.
use Rattle.std.specs.Prelude.{ℕ, zero, suc, Bool, true, false, not, ◌&&◌, List, [], ◌∷◌, drop, Option, Some, None}
use Rattle.vs_lexer.specs.declared.token.Token.{Token}
use Rattle.vs_lexer.specs.LeftOut.{kind_at, is_open, is_star, is_close}

-- `(` and `*` as the next token: an attribute begins, unless `)` follows, as in `@(*)`
abbrev pub begins_attribute : List Token → Bool
begins_attribute ts = elim (kind_at ts 0) [ None ↦ false | Some k ↦ is_open k && is_star (kind_at ts 1) && not (is_close (kind_at ts 2)) ]

-- `*` and `)` as the next token: an attribute ends with them
abbrev pub ends_attribute : List Token → Bool
ends_attribute ts = is_star (kind_at ts 0) && is_close (kind_at ts 1)

-- how many tokens there are up to the first such end and with it
abbrev pub to_end : List Token → Option ℕ
to_end [] = None
to_end (t ∷ ts) = elim (ends_attribute (t ∷ ts)) [ true ↦ Some 2 | false ↦ elim (to_end ts) [ None ↦ None | Some n ↦ Some (suc n) ] ]

-- how many tokens behind the first one belong to the attribute that begins with it, up to the first end behind its `*`; nothing where none begins, or
-- one without an end
abbrev pub attribute : List Token → Option ℕ
attribute ts = elim (begins_attribute ts) [ false ↦ None | true ↦ elim (to_end (drop 2 ts)) [ None ↦ None | Some n ↦ Some (suc n) ] ]

-- what is left; the next `skip` tokens belong to an attribute
abbrev pub outside : ℕ → List Token → List Token
outside skip [] = []
outside (suc skip) (t ∷ ts) = outside skip ts
outside zero (t ∷ ts) = elim (attribute (t ∷ ts)) [ None ↦ t ∷ outside zero ts | Some more ↦ outside more ts ]

-- the tokens without those of attributes
abbrev pub without_attributes : List Token → List Token
without_attributes ts = outside 0 ts
