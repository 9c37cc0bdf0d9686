-- What a written type begins with.
use Rattle.std.proofs.Common.{◌≡◌, List, ◌∷◌, ◌++◌, sym, ◌∙◌, ap, subst}
use Rattle.oc_source.specs.declared.parsed.BaseName.{BaseName}
use Rattle.oc_lexer.specs.declared.token.Token.{Token}
use Rattle.oc_lexer.specs.declared.token.TokenKind.{TokenKind}
use Rattle.oc_grammar.specs.declared.tables.Opening.TheVariants as o
use Rattle.oc_grammar.specs.Tokens.{Is}
use Rattle.oc_grammar.specs.Tables.{opening}
use Rattle.oc_grammar.specs.Parsing.{then, By, first}
use Rattle.oc_grammar.specs.WrittenTypes.{Base}
use Rattle.oc_declarators.specs.Continuations.{base_after}
use Rattle.oc_declarators.proofs.Marks.{base_out}
use Rattle.oc_expressions.specs.Continuations.{BeginsType}

pub base_first : {b : BaseName} {x : List Token} (zs : List Token) → Base b x → BeginsType (x ++ zs)
base_first {b} {x} zs d = go (base_out b x d)
  where
    go : {x : List Token} → By (λ t. base_after t.spot (opening t.kind)) b x → BeginsType (x ++ zs)
    go (first {t} {ys = ys} q) = λ h. none_other ys (rw h at q)
      where
        none_other : (ys : List Token) → base_after t.spot o.Other b ys → ⊥
        none_other _ (then d q) = d

-- a token that begins no written type
pub not_type_first : (k : TokenKind) (t : Token) (us vs : List Token) → opening k ≡ o.Other → t ∷ us ≡ vs → BeginsType vs → Is k t → ⊥
not_type_first k t us vs h e b i = let c = subst (λ vs. BeginsType vs) (sym e) b in c (ap opening i.kind ∙ h)
