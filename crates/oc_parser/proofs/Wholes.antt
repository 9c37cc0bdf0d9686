-- Parts of a program one after the other.
use Rattle.std.proofs.Common.{◌≡◌, ◌==◌, Bool, true, false, List, [], ◌∷◌, ◌++◌, length, refl, sym, ◌∙◌, append-nil, append_assoc, subst}
use Rattle.std.proofs.lemmas.Bool.{eqb-true}
use Rattle.std.proofs.lemmas.List.{nil_from_length}
use Rattle.oc_source.specs.declared.spot.Spot.{Spot}
use Rattle.oc_source.specs.declared.parsed.StructDef.{StructDef}
use Rattle.oc_source.specs.declared.parsed.Function.{Function}
use Rattle.oc_source.specs.declared.parsed.Program.{Program}
use Rattle.oc_lexer.specs.declared.token.Token.{Token}
use Rattle.oc_grammar.specs.Parsing.{SameNext, Found, Refused, Leaves, Any, End, ended, Then, then}
use Rattle.oc_grammar.specs.WrittenTypes.{type_named}
use Rattle.oc_grammar.specs.Headings.{Struct, struct, void, typed, FunctionSpelled, a_function, Parts, no_part, struct_part, function_part}
use Rattle.oc_grammar.proofs.Parsing.{start, turned, also, read, fails, ends, Closes, sure}
use Rattle.oc_expressions.specs.Continuations.{BeginsType}
use Rattle.oc_parser.specs.declared.parts.Part.{Part}
use Rattle.oc_parser.specs.Continuations.{APart, a_struct_part, a_function_part}
use Rattle.oc_parser.proofs.Firsts.{base_first}
use Rattle.oc_parser.specs.Programs.{program_of, Whole, whole, AtEnd, with_part}

-- parts after those of a program
pub data Further : Program → Program → List Token → Type 0 where
  further : {p : Program} {ds : List StructDef} {fs : List Function} {x : List Token} → Parts ds fs x → Further p (program_of (p.structs ++ ds) (p.functions ++ fs) p.end) x

some_further : (p : Program) → Closes (Further p)
some_further p = (program_of (p.structs ++ []) (p.functions ++ []) p.end, [], further no_part)

further_parts : {p v : Program} {x : List Token} → Further p v x → (ds : List StructDef) × (fs : List Function) × Parts ds fs x × (v ≡ program_of (p.structs ++ ds) (p.functions ++ fs) p.end)
further_parts (further {ds = ds} {fs = fs} q) = (ds, fs, q, refl)

-- a part has tokens
struct_filled : {d : StructDef} {x : List Token} (y : List Token) → Struct d x → x ++ y ≡ [] → ⊥
struct_filled y (struct i j k a l m) e = cc

function_filled : {f : Function} {x : List Token} (y : List Token) → FunctionSpelled f x → x ++ y ≡ [] → ⊥
function_filled y (a_function (void i) a) e = cc
function_filled y (a_function {y = c} (typed (type_named {x = a} {y = b} d s)) q) e =
    let h : BeginsType (a ++ (b ++ (c ++ y))) = base_first (b ++ (c ++ y)) d in
    let g : a ++ (b ++ (c ++ y)) ≡ [] = sym (append_assoc a b (c ++ y)) ∙ (sym (append_assoc (a ++ b) c y) ∙ e) in
    subst (λ ts. BeginsType ts) g h

not_end : (rest us : List Token) → (rest ≡ [] → ⊥) → SameNext rest us → us ≡ [] → ⊥
not_end [] us n a e = n refl
not_end (t ∷ rest) us n (more, h) e = cc

module _ (end : Spot) (ts : List Token) where
  whole_further : (v : Program) (x : List Token) → Whole end v x → Further (program_of [] [] end) v x
  whole_further v x (whole q) = further q

  further_whole : (v : Program) (x : List Token) → Further (program_of [] [] end) v x → Whole end v x
  further_whole v x (further q) = whole q

  pub program_opened : Leaves (Whole end) AtEnd ts (Further (program_of [] [] end)) ts
  program_opened = turned (start (Whole end) AtEnd ts) further_whole whole_further

  module _ {p : Program} {rest : List Token} (l : Leaves (Whole end) AtEnd ts (Further p) rest) where
    part_left : (rest ≡ [] → ⊥) → Leaves (Whole end) AtEnd ts (Then APart (λ q. Further (with_part p q))) rest
    part_left some = also l into (λ v us ys zs a q s e. out v us ys zs a q s e)
      where
        into : (v : Program) (ys : List Token) → Then APart (λ q. Further (with_part p q)) v ys → Further p v ys
        into v _ (then (a_struct_part {d = d} i) r) = let (ds, fs, q, e) = further_parts r in rw (e, append_assoc p.structs (d ∷ []) ds) (further (struct_part i q))
        into v _ (then (a_function_part {f = f} i) r) = let (ds, fs, q, e) = further_parts r in rw (e, append_assoc p.functions (f ∷ []) fs) (further (function_part i q))

        out : (v : Program) (us ys zs : List Token) → SameNext rest us → Further p v ys → AtEnd v zs → us ≡ ys ++ zs → Then APart (λ q. Further (with_part p q)) v ys
        out v us _ zs a (further no_part) s e = absurd (not_end rest us some a (e ∙ s))
        out v us _ zs a (further (struct_part {d = d} {ds = ds} i q)) s e = rw (← append_assoc p.structs (d ∷ []) ds) (then (a_struct_part i) (further q))
        out v us _ zs a (further (function_part {f = f} {fs = fs} i q)) s e = rw (← append_assoc p.functions (f ∷ []) fs) (then (a_function_part i) (further q))

    pub part_fails : (rest ≡ [] → ⊥) → {r : List Token} → Refused APart Any rest r → Refused (Whole end) AtEnd ts r
    part_fails some f = fails (part_left some) f (sure (λ q. some_further (with_part p q)))

    pub part_read : (rest ≡ [] → ⊥) → {q : Part} {r : List Token} → Found APart Any rest q r → Leaves (Whole end) AtEnd ts (Further (with_part p q)) r
    part_read some f = read (part_left some) f (sure (λ q. some_further (with_part p q)))

    pub program_read : rest ≡ [] → Found (Whole end) AtEnd ts p []
    program_read none = subst (λ r. Found (Whole end) AtEnd ts p r) none (ends (also l into (λ v us ys zs a q s e. out v us ys zs a q e)))
      where
        into : (v : Program) (ys : List Token) → End p v ys → Further p v ys
        into v _ ended = let h : Further p (program_of (p.structs ++ []) (p.functions ++ []) p.end) [] = further no_part in rw (append-nil p.structs, append-nil p.functions) at h

        out : (v : Program) (us ys zs : List Token) → SameNext rest us → Further p v ys → us ≡ ys ++ zs → End p v ys
        out v us _ zs a (further no_part) e = rw (append-nil p.structs, append-nil p.functions) ended
        out v us _ zs a (further (struct_part {x = x} {y = y} i q)) e = let h : us ≡ [] = subst (λ r. SameNext r us) none a in absurd (struct_filled (y ++ zs) i (sym (append_assoc x y zs) ∙ (sym e ∙ h)))
        out v us _ zs a (further (function_part {x = x} {y = y} i q)) e = let h : us ≡ [] = subst (λ r. SameNext r us) none a in absurd (function_filled (y ++ zs) i (sym (append_assoc x y zs) ∙ (sym e ∙ h)))

-- ---- whether a token is left

pub some_left : {X : Type 0} (xs : List X) (b : Bool) → b ≡ (length xs == 0) → b ≡ false → xs ≡ [] → ⊥
some_left [] b h e g = cc
some_left (x ∷ xs) b h e g = cc

pub none_left : {X : Type 0} (xs : List X) (b : Bool) → b ≡ (length xs == 0) → b ≡ true → xs ≡ []
none_left xs b h e = nil_from_length xs (eqb-true (length xs) 0 (sym h ∙ e))
