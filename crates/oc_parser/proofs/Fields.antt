-- Fields of a struct definition.
use Rattle.std.proofs.Common.{◌≡◌, List, [], ◌∷◌, ◌++◌, refl, append_assoc, subst}
use Rattle.oc_source.specs.declared.parsed.BaseName.{BaseName}
use Rattle.oc_source.specs.declared.parsed.FieldDef.{FieldDef}
use Rattle.oc_lexer.specs.declared.token.Token.{Token}
use Rattle.oc_lexer.specs.declared.token.TokenKind.TheVariants.{Name, Sign}
use Rattle.oc_lexer.specs.declared.token.Sign.TheVariants as s
use Rattle.oc_grammar.specs.Tokens.{Is, Starts, NotNext}
use Rattle.oc_grammar.specs.Parsing.{SameNext, Found, Refused, Leaves, Any, End, ended, Then, then}
use Rattle.oc_grammar.specs.Calls.{One, one}
use Rattle.oc_grammar.specs.WrittenTypes.{Base, no_star, star, Declr, declr, no_dim, Commas, last, more}
use Rattle.oc_grammar.specs.Headings.{Fields, fields}
use Rattle.oc_grammar.proofs.Parsing.{start, turned, also, read, fails, ends, Goes, Closes, close_end, close_then, sure, taken}
use Rattle.oc_grammar.proofs.Calls.{made, is_made, not_next, close_one, after_one}
use Rattle.oc_declarators.specs.Continuations.{NoWord, BeforeNoWord}
use Rattle.oc_declarators.proofs.Marks.{base_in, some_base}
use Rattle.oc_expressions.specs.Continuations.{BeginsType}
use Rattle.oc_parser.proofs.Firsts.{base_first, not_type_first}
use Rattle.oc_parser.specs.Continuations.{DeclaratorsEnd, FieldRun, run_end, run_more, closed_fields}

-- ---- names of one base

-- a comma is no bracket
pub comma_bracket : (t : Token) (zs : List Token) → Is (Sign s.Comma) t → NotNext (Sign s.LeftBracket) (t ∷ zs)
comma_bracket t zs i = λ j. let e = i.kind in let g = j.kind in cc

some_declr : (b : BaseName) → Closes (Declr b)
some_declr b = (_, made (Name []) ∷ [], declr no_star (is_made (Name [])) no_dim)

some_declrs : (b : BaseName) → Closes (Commas (Declr b))
some_declrs b = let (f, x, d) = some_declr b in (f ∷ [], x, last d)

-- a declared name begins with no keyword
declr_first : (b : BaseName) (f : FieldDef) (x zs : List Token) → Declr b f x → NoWord (x ++ zs)
declr_first b f _ zs (declr (star i d) j k) = λ word l. let e = i.kind in let g = l.kind in cc
declr_first b f _ zs (declr no_star j k) = λ word l. let e = j.kind in let g = l.kind in cc

declrs_first : (b : BaseName) (fs : List FieldDef) (x zs : List Token) → Commas (Declr b) fs x → NoWord (x ++ zs)
declrs_first b fs x zs (last {v = f} d) = declr_first b f x zs d
declrs_first b fs _ zs (more {t = t} {v = f} {x = x} {y = y} d i q) = rw (append_assoc x (t ∷ y) zs) (declr_first b f x (t ∷ (y ++ zs)) d)

-- ---- fields of one base

fields_left : List FieldDef → List Token → Type 0
fields_left = Then Base (λ b. Then (Commas (Declr b)) (λ fs. Then (One (Sign s.Semicolon)) (λ _. End fs)))

fields_out : (fs : List FieldDef) (x : List Token) → Fields fs x → fields_left fs x
unfolding fields_left
fields_out fs _ (fields d q i) = then d (then q (then (one i) ended))

fields_in : (fs : List FieldDef) (x : List Token) → fields_left fs x → Fields fs x
unfolding fields_left
fields_in fs _ (then d (then q (then (one i) ended))) = fields d q i

some_end : (fs : List FieldDef) → Closes (Then (One (Sign s.Semicolon)) (λ _. End fs))
some_end fs = close_one (Sign s.Semicolon) close_end

some_names : (b : BaseName) → Closes (Then (Commas (Declr b)) (λ fs. Then (One (Sign s.Semicolon)) (λ _. End fs)))
some_names b = let (fs, x, d) = some_declrs b in close_then fs x d (some_end fs)

base_goes : Goes BeforeNoWord Any (λ b. Then (Commas (Declr b)) (λ fs. Then (One (Sign s.Semicolon)) (λ _. End fs)))
base_goes = record { follow = λ b v ys zs q s. go b v ys zs q; closes = some_names }
  where
    go : (b : BaseName) (v : List FieldDef) (ys zs : List Token) → Then (Commas (Declr b)) (λ fs. Then (One (Sign s.Semicolon)) (λ _. End fs)) v ys → NoWord (ys ++ zs)
    go b v _ zs (then {w = fs} {xs = x} {zs = y} d q) = rw (append_assoc x y zs) (declrs_first b fs x (y ++ zs) d)

names_goes : Goes DeclaratorsEnd Any (λ (fs : List FieldDef). Then (One (Sign s.Semicolon)) (λ _. End fs))
names_goes = after_one (Sign s.Semicolon) (λ fs t zs i. (λ j. let e = i.kind in let g = j.kind in cc, λ j. let e = i.kind in let g = j.kind in cc)) (λ fs. close_end)

module _ {ts : List Token} where
  fields_opened : Leaves Fields Any ts fields_left ts
  fields_opened = turned (start Fields Any ts) fields_in fields_out

  pub base_fails : {r : List Token} → Refused Base BeforeNoWord ts r → Refused Fields Any ts r
  unfolding fields_left
  base_fails f = fails fields_opened f base_goes

  module _ {b : BaseName} {r1 : List Token} (f : Found Base BeforeNoWord ts b r1) where
    names_left : Leaves Fields Any ts (Then (Commas (Declr b)) (λ fs. Then (One (Sign s.Semicolon)) (λ _. End fs))) r1
    unfolding fields_left
    names_left = read fields_opened f base_goes

    pub names_fail : {r : List Token} → Refused (Commas (Declr b)) DeclaratorsEnd r1 r → Refused Fields Any ts r
    names_fail g = fails names_left g names_goes

    module _ {fs : List FieldDef} {r2 : List Token} (g : Found (Commas (Declr b)) DeclaratorsEnd r1 fs r2) where
      end_left : Leaves Fields Any ts (Then (One (Sign s.Semicolon)) (λ _. End fs)) r2
      end_left = read names_left g names_goes

      pub end_fails : {r : List Token} → Refused (One (Sign s.Semicolon)) Any r2 r → Refused Fields Any ts r
      end_fails h = fails end_left h (sure (λ u. close_end))

      pub fields_read : {r : List Token} → Found (One (Sign s.Semicolon)) Any r2 tt r → Found Fields Any ts fs r
      fields_read h = ends (read end_left h (sure (λ u. close_end)))

-- ---- all fields

pub some_run : (l : List FieldDef) → Closes (FieldRun l)
some_run l = (l, made (Sign s.RightBrace) ∷ [], run_end (is_made (Sign s.RightBrace)))

pub some_fields : Closes Fields
some_fields =
    let (b, x, d) = some_base in
    let (fs, y, q) = some_declrs b in
    (fs, x ++ (y ++ made (Sign s.Semicolon) ∷ []), fields (base_in b x d) q (is_made (Sign s.Semicolon)))

pub some_closed : Closes closed_fields
some_closed = let (fs, x, d) = some_fields in close_then fs x d (some_run fs)

fields_first : {fs : List FieldDef} {x : List Token} (zs : List Token) → Fields fs x → BeginsType (x ++ zs)
fields_first zs (fields {t = t} {x = x} {y = y} d q i) = rw (append_assoc x (y ++ t ∷ []) zs) (base_first ((y ++ t ∷ []) ++ zs) d)

module _ {ts : List Token} where
  pub first_fails : {r : List Token} → Refused Fields Any ts r → Refused closed_fields Any ts r
  first_fails f = fails (start closed_fields Any ts) f (sure some_run)

  pub first_read : {fs : List FieldDef} {r : List Token} → Found Fields Any ts fs r → Leaves closed_fields Any ts (FieldRun fs) r
  first_read f = read (start closed_fields Any ts) f (sure some_run)

  module _ {l : List FieldDef} {rest : List Token} (run : Leaves closed_fields Any ts (FieldRun l) rest) where
    pub run_done : {rest' : List Token} → Starts (Sign s.RightBrace) rest rest' → Found closed_fields Any ts l rest'
    run_done {rest'} i = ends (taken run i.whole into (λ v us ys zs q e. out v us ys zs q e))
      where
        into : (v : List FieldDef) (ys : List Token) → End l v ys → FieldRun l v (i.token ∷ ys)
        into v _ ended = run_end i.is

        out : (v : List FieldDef) (us ys zs : List Token) → FieldRun l v ys → i.token ∷ us ≡ ys ++ zs → (xs : List Token) × End l v xs × (us ≡ xs ++ zs)
        out v us _ zs (run_end j) e = ([], ended, cc)
        out v us _ zs (run_more {x = x} {y = y} d q) e = absurd (not_type_first (Sign s.RightBrace) i.token us ((x ++ y) ++ zs) refl e (rw (append_assoc x y zs) (fields_first (y ++ zs) d)) i.is)

    module _ (out : NotNext (Sign s.RightBrace) rest) where
      more_left : Leaves closed_fields Any ts (Then Fields (λ fs. FieldRun (l ++ fs))) rest
      more_left = also run into (λ v us ys zs a q s e. go v us ys zs a q e)
        where
          into : (v : List FieldDef) (ys : List Token) → Then Fields (λ fs. FieldRun (l ++ fs)) v ys → FieldRun l v ys
          into v _ (then d q) = run_more d q

          go : (v : List FieldDef) (us ys zs : List Token) → SameNext rest us → FieldRun l v ys → us ≡ ys ++ zs → Then Fields (λ fs. FieldRun (l ++ fs)) v ys
          go v us _ zs a (run_end {t = t} i) e = absurd (not_next (Sign s.RightBrace) t rest zs out (subst (λ us. SameNext rest us) e a) i)
          go v us _ zs a (run_more d q) e = then d q

      pub run_fails : {r : List Token} → Refused Fields Any rest r → Refused closed_fields Any ts r
      run_fails f = fails more_left f (sure (λ fs. some_run (l ++ fs)))

      pub run_read : {fs : List FieldDef} {r : List Token} → Found Fields Any rest fs r → Leaves closed_fields Any ts (FieldRun (l ++ fs)) r
      run_read f = read more_left f (sure (λ fs. some_run (l ++ fs)))
