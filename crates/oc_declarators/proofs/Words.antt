-- The words of an integer type.
use Rattle.std.proofs.Common.{◌≡◌, List, [], ◌∷◌, ◌++◌, Bool, true, false, refl, sym, ◌∙◌, ap, append-nil, subst}
use Rattle.oc_values.specs.declared.integers.IntKind.{IntKind}
use Rattle.oc_values.specs.declared.integers.IntKind.TheVariants as kind
use Rattle.oc_lexer.specs.declared.token.Token.{Token}
use Rattle.oc_lexer.specs.declared.token.TokenKind.{TokenKind}
use Rattle.oc_lexer.specs.declared.token.TokenKind.TheVariants.{Keyword}
use Rattle.oc_lexer.specs.declared.token.Keyword.{Keyword as Word}
use Rattle.oc_lexer.specs.declared.token.Keyword.TheVariants as w
use Rattle.oc_grammar.specs.declared.tables.Width.{Width}
use Rattle.oc_grammar.specs.declared.tables.Width.TheVariants as width
use Rattle.oc_grammar.specs.declared.tables.Opening.{Opening}
use Rattle.oc_grammar.specs.declared.tables.Opening.TheVariants as o
use Rattle.oc_grammar.specs.Tokens.{Starts, NotNext}
use Rattle.oc_grammar.specs.Tables.{opening, int_kind}
use Rattle.oc_grammar.specs.Parsing.{SameNext, Found, Refused, Leaves, End, ended, Then, then, By, first, stays, goes}
use Rattle.oc_grammar.specs.WrittenTypes.{Optional, absent, present, Core, char, short, int, long, Ints, bool, underscore_bool, plain, signed, unsigned, signed_alone, unsigned_alone}
use Rattle.oc_grammar.proofs.Parsing.{no_token, same_token, start, turned, read, ends, stuck_by, token, token_on, alone, through, Closes, close_end, close_then, after_end, then_end, maybe_of_by}
use Rattle.oc_grammar.proofs.Calls.{not_next, made, is_made}
use Rattle.oc_grammar.proofs.Views.{OpeningView, opening_view, is_frozen, is_obliv, is_struct, is_bool, is_underscore_bool, is_signed, is_unsigned, is_char, is_short, is_int, is_long, is_other}
use Rattle.oc_declarators.specs.Continuations.{NoWord, BeforeNoWord, NotWord, tail, width_after, int_after}

pub optional_found : {word : Word} (ts rest : List Token) → Starts (Keyword word) ts rest → Found (Optional word) (NotWord word) ts tt rest
optional_found {word} ts rest s = record {
  front = s.token ∷ [];
  whole = s.whole;
  derives = present s.is;
  only = λ us xs zs u a f n e. go us xs zs u f n e;
}
  where
    go : (us xs zs : List Token) (u : Unit {0}) → Optional word u xs → NotNext (Keyword word) zs → s.token ∷ us ≡ xs ++ zs → (u ≡ tt) × (zs ≡ us)
    go us _ zs _ absent n e = let h = subst (λ zs. NotNext (Keyword word) zs) (sym e) n in absurd (h s.is)
    go us _ zs _ (present i) n e = (refl, cc)

pub optional_absent : {word : Word} (ts : List Token) → NotNext (Keyword word) ts → Found (Optional word) (NotWord word) ts tt ts
optional_absent {word} ts n = record {
  front = [];
  whole = refl;
  derives = absent;
  only = λ us xs zs u a f s e. go us xs zs u a f e;
}
  where
    go : (us xs zs : List Token) (u : Unit {0}) → SameNext ts us → Optional word u xs → us ≡ xs ++ zs → (u ≡ tt) × (zs ≡ us)
    go us _ zs _ a absent e = (refl, sym e)
    go us _ zs _ a (present {t} i) e = absurd (not_next (Keyword word) t ts zs n (subst (λ us. SameNext ts us) e a) i)

pub no_word : (word : Word) (zs : List Token) → NoWord zs → NotNext (Keyword word) zs
no_word word [] h = tt
no_word word (t ∷ zs) h = h word

-- ---- after the word that the type is named after

pub tail_char : (u : Bool) (ts : List Token) → Found (tail u width.Char) BeforeNoWord ts (int_kind u width.Char) ts
tail_char u ts = ends (start (tail u width.Char) BeforeNoWord ts)

pub tail_int : (u : Bool) (ts : List Token) → Found (tail u width.Int) BeforeNoWord ts (int_kind u width.Int) ts
tail_int u ts = ends (start (tail u width.Int) BeforeNoWord ts)

pub tail_short : (u : Bool) (ts rest : List Token) → Found (Optional w.Int) (NotWord w.Int) ts tt rest → Found (tail u width.Short) BeforeNoWord ts (int_kind u width.Short) rest
tail_short u ts rest f = ends (read (start (tail u width.Short) BeforeNoWord ts) f (after_end (λ _. int_kind u width.Short) (λ b zs s. no_word w.Int zs s)))

pub tail_long : (u : Bool) (ts mid rest : List Token) → Found (Optional w.Long) (NotWord w.Long) ts tt mid → Found (Optional w.Int) (NotWord w.Int) mid tt rest → Found (tail u width.Long) BeforeNoWord ts (int_kind u width.Long) rest
tail_long u ts mid rest f g = ends (read (read (start (tail u width.Long) BeforeNoWord ts) f (record { follow = follow; closes = λ b. close_then tt [] absent close_end })) g (after_end (λ _. int_kind u width.Long) (λ b zs s. no_word w.Int zs s)))
  where
    follow : (b : Unit {0}) (v : IntKind) (ys zs : List Token) → Then (Optional w.Int) (λ _. End (int_kind u width.Long)) v ys → BeforeNoWord v zs → NotNext (Keyword w.Long) (ys ++ zs)
    follow b v _ zs (then absent ended) s = no_word w.Long zs s
    follow b v _ zs (then (present i) ended) s = λ j. let h = i.kind in let g = j.kind in cc

-- ---- after `signed` or `unsigned`

named_word : {k : TokenKind} {op : Opening} {c : Width} → OpeningView k op → op ≡ o.Named c → (word : Word) × (k ≡ Keyword word)
named_word is_char e = (w.Char, refl)
named_word is_short e = (w.Short, refl)
named_word is_int e = (w.Int, refl)
named_word is_long e = (w.Long, refl)
named_word is_frozen e = cc
named_word is_obliv e = cc
named_word is_struct e = cc
named_word is_bool e = cc
named_word is_underscore_bool e = cc
named_word is_signed e = cc
named_word is_unsigned e = cc
named_word is_other e = cc

named_by : (u : Bool) (op : Opening) (v : IntKind) (ys : List Token) → width_after u op v ys → (c : Width) × (op ≡ o.Named c)
named_by u (o.Named c) v ys q = (c, refl)
named_by u o.Frozen v ys q = absurd q
named_by u o.Obliv v ys q = absurd q
named_by u o.Struct v ys q = absurd q
named_by u o.Bool v ys q = absurd q
named_by u (o.Signs b) v ys q = absurd q
named_by u o.Other v ys q = absurd q

module _ (u : Bool) (ts : List Token) where
  pub sign_on : {c : Width} {t : Token} {rest rest' : List Token} {k : IntKind} → ts ≡ t ∷ rest → opening t.kind ≡ o.Named c → Found (tail u c) BeforeNoWord rest k rest' → Found (int_after (o.Signs u)) BeforeNoWord ts k rest'
  sign_on {c} {t} {rest} is e f = through (token_on (start (int_after (o.Signs u)) BeforeNoWord ts) is (λ zs s. let (word, k) = named_word (opening_view t.kind) e in s word (record { kind = k }))) (rw e f)

  pub sign_other : {t : Token} {rest : List Token} → ts ≡ t ∷ rest → ((c : Width) → opening t.kind ≡ o.Named c → ⊥) → Found (int_after (o.Signs u)) BeforeNoWord ts (int_kind u width.Int) ts
  sign_other {t} {rest} is out = alone (start (int_after (o.Signs u)) BeforeNoWord ts) (λ t' us v ys a q. let e = same_token t t' ts rest us is a in let (c, g) = named_by u (opening t'.kind) v ys q in out c (ap (λ (t : Token). opening t.kind) (sym e) ∙ g))

  pub sign_end : ts ≡ [] → Found (int_after (o.Signs u)) BeforeNoWord ts (int_kind u width.Int) ts
  sign_end is = alone (start (int_after (o.Signs u)) BeforeNoWord ts) (λ t' us v ys a q. no_token t' ts us is a)

-- ---- integer types

core_out : (u : Bool) {c : Width} {x : List Token} → Core c x → By (λ t. width_after u (opening t.kind)) (int_kind u c) x
core_out u (char i) = first (rw i.kind ended)
core_out u (short {x = x} i p) = first (rw i.kind (then_end (λ _. int_kind u width.Short) tt x p))
core_out u (int i) = first (rw i.kind ended)
core_out u (long {y = y} i p q) = first (rw i.kind (then p (then_end (λ _. int_kind u width.Long) tt y q)))

core_in : (u : Bool) {t : Token} {k : TokenKind} {op : Opening} {v : IntKind} {ys : List Token} → OpeningView k op → t.kind ≡ k → width_after u op v ys → (c : Width) × (v ≡ int_kind u c) × Core c (t ∷ ys)
core_in u is_char e ended = (width.Char, refl, char (record { kind = e }))
core_in u is_short e (then p ended) = (width.Short, refl, rw append-nil (short (record { kind = e }) p))
core_in u is_int e ended = (width.Int, refl, int (record { kind = e }))
core_in u is_long e (then p (then q ended)) = (width.Long, refl, rw append-nil (long (record { kind = e }) p q))
core_in u is_frozen e q = absurd q
core_in u is_obliv e q = absurd q
core_in u is_struct e q = absurd q
core_in u is_bool e q = absurd q
core_in u is_underscore_bool e q = absurd q
core_in u is_signed e q = absurd q
core_in u is_unsigned e q = absurd q
core_in u is_other e q = absurd q

plain_after : (op : Opening) (v : IntKind) (ys : List Token) → width_after false op v ys → int_after op v ys
plain_after (o.Named c) v ys q = q
plain_after o.Frozen v ys q = absurd q
plain_after o.Obliv v ys q = absurd q
plain_after o.Struct v ys q = absurd q
plain_after o.Bool v ys q = absurd q
plain_after (o.Signs b) v ys q = absurd q
plain_after o.Other v ys q = absurd q

plain_out : {v : IntKind} {x : List Token} → By (λ t. width_after false (opening t.kind)) v x → By (λ t. int_after (opening t.kind)) v x
plain_out (first {t} q) = first (plain_after (opening t.kind) _ _ q)

pub ints_out : (v : IntKind) (x : List Token) → Ints v x → By (λ t. int_after (opening t.kind)) v x
ints_out v _ (bool i) = first (rw i.kind ended)
ints_out v _ (underscore_bool i) = first (rw i.kind ended)
ints_out v _ (plain d) = plain_out (core_out false d)
ints_out v _ (signed i d) = first (rw i.kind (maybe_of_by (core_out false d)))
ints_out v _ (unsigned i d) = first (rw i.kind (maybe_of_by (core_out true d)))
ints_out v _ (signed_alone i) = first (rw i.kind stays)
ints_out v _ (unsigned_alone i) = first (rw i.kind stays)

ints_by : {t : Token} {k : TokenKind} {op : Opening} {v : IntKind} {ys : List Token} → OpeningView k op → t.kind ≡ k → int_after op v ys → Ints v (t ∷ ys)
ints_by is_bool e ended = bool (record { kind = e })
ints_by is_underscore_bool e ended = underscore_bool (record { kind = e })
ints_by is_signed e stays = signed_alone (record { kind = e })
ints_by is_signed e (goes {t} q) = let (c, h, d) = core_in false (opening_view t.kind) refl q in rw h (signed (record { kind = e }) d)
ints_by is_unsigned e stays = unsigned_alone (record { kind = e })
ints_by is_unsigned e (goes {t} q) = let (c, h, d) = core_in true (opening_view t.kind) refl q in rw h (unsigned (record { kind = e }) d)
ints_by is_char e q = let (c, h, d) = core_in false is_char e q in rw h (plain d)
ints_by is_short e q = let (c, h, d) = core_in false is_short e q in rw h (plain d)
ints_by is_int e q = let (c, h, d) = core_in false is_int e q in rw h (plain d)
ints_by is_long e q = let (c, h, d) = core_in false is_long e q in rw h (plain d)
ints_by is_frozen e q = absurd q
ints_by is_obliv e q = absurd q
ints_by is_struct e q = absurd q
ints_by is_other e q = absurd q

pub ints_in : (v : IntKind) (x : List Token) → By (λ t. int_after (opening t.kind)) v x → Ints v x
ints_in v _ (first {t} q) = ints_by (opening_view t.kind) refl q

module _ (ts : List Token) where
  ints_opened : Leaves Ints BeforeNoWord ts (By (λ t. int_after (opening t.kind))) ts
  ints_opened = turned (start Ints BeforeNoWord ts) ints_in ints_out

  pub ints_read : {t : Token} {rest rest' : List Token} {v : IntKind} → ts ≡ t ∷ rest → Found (int_after (opening t.kind)) BeforeNoWord rest v rest' → Found Ints BeforeNoWord ts v rest'
  ints_read is f = through (token ints_opened is) f

  pub some_ints : Closes (By (λ t. int_after (opening t.kind)))
  some_ints = (kind.Bool, made (Keyword w.Bool) ∷ [], first (let i = is_made (Keyword w.Bool) in rw i.kind ended))

  pub ints_end : ts ≡ [] → Refused Ints BeforeNoWord ts ts
  ints_end is = stuck_by ints_opened (λ t us v ys a q. no_token t ts us is a) some_ints

  pub ints_other : {t : Token} {rest : List Token} → ts ≡ t ∷ rest → ((v : IntKind) (ys : List Token) → int_after (opening t.kind) v ys → ⊥) → Refused Ints BeforeNoWord ts ts
  ints_other {t} {rest} is out = stuck_by ints_opened (λ t' us v ys a q. let e = same_token t t' ts rest us is a in out v ys (subst (λ (t : Token). int_after (opening t.kind) v ys) e q)) some_ints
