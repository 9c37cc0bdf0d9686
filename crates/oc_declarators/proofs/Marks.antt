-- What a written type begins with.
use Rattle.std.proofs.Common.{◌≡◌, ℕ, List, [], ◌∷◌, Bool, true, false, refl, ap, append-nil}
use Rattle.oc_values.specs.declared.integers.IntKind.{IntKind}
use Rattle.oc_values.specs.declared.integers.IntKind.TheVariants as kind
use Rattle.oc_source.specs.declared.spot.Spot.{Spot}
use Rattle.oc_source.specs.declared.parsed.BaseName.{BaseName}
use Rattle.oc_lexer.specs.declared.token.Token.{Token}
use Rattle.oc_lexer.specs.declared.token.TokenKind.{TokenKind}
use Rattle.oc_lexer.specs.declared.token.TokenKind.TheVariants.{Name, Keyword}
use Rattle.oc_lexer.specs.declared.token.Keyword.TheVariants as w
use Rattle.oc_grammar.specs.declared.taking.Named.{Named}
use Rattle.oc_grammar.specs.declared.tables.Opening.{Opening}
use Rattle.oc_grammar.specs.declared.tables.Opening.TheVariants as o
use Rattle.oc_grammar.specs.Tokens.{Is, spot_at}
use Rattle.oc_grammar.specs.Tables.{opening}
use Rattle.oc_source.specs.Parsed.{int_base}
use Rattle.oc_grammar.specs.Trees.{struct_base}
use Rattle.oc_grammar.specs.Parsing.{Found, Refused, Leaves, Any, End, ended, Then, then, By, first}
use Rattle.oc_grammar.specs.Calls.{ANamed, a_named}
use Rattle.oc_grammar.specs.WrittenTypes.{Ints, Base, plain_int, obliv_int, frozen_int, frozen_obliv, obliv_frozen, a_struct, frozen_struct}
use Rattle.oc_grammar.proofs.Parsing.{start, turned, read, fails, ends, Goes, Closes, close_end, after_end, then_end, sure}
use Rattle.oc_grammar.proofs.Calls.{made, is_made}
use Rattle.oc_grammar.proofs.Views.{OpeningView, opening_view, is_frozen, is_obliv, is_struct, is_bool, is_underscore_bool, is_signed, is_unsigned, is_char, is_short, is_int, is_long, is_other}
use Rattle.oc_declarators.specs.Continuations.{BeforeNoWord, int_after, marked, named_struct, after_obliv, after_frozen, base_after}
use Rattle.oc_declarators.proofs.Words.{ints_out, ints_in}

-- ---- the marks and the words

marked_goes : {spot : Spot} {f b : Bool} → Goes BeforeNoWord BeforeNoWord (λ k. End (int_base spot f b k))
marked_goes {spot} {f} {b} = after_end (int_base spot f b) (λ k zs s. s)

pub marked_read : (op : Opening) (spot : Spot) (f b : Bool) (ts rest : List Token) (k : IntKind) → Found (int_after op) BeforeNoWord ts k rest → Found (marked op spot f b) BeforeNoWord ts (int_base spot f b k) rest
marked_read op spot f b ts rest k g = ends (read (start (marked op spot f b) BeforeNoWord ts) g marked_goes)

pub not_marked : (op : Opening) (spot : Spot) (f b : Bool) → ((k : IntKind) (ys : List Token) → int_after op k ys → ⊥) → (v : BaseName) (ys : List Token) → marked op spot f b v ys → ⊥
not_marked op spot f b out v ys q = go v ys q
  where
    go : (v : BaseName) (ys : List Token) → marked op spot f b v ys → ⊥
    go v _ (then {w = k} {xs = xs} d e) = out k xs d

pub ints_marked : (spot : Spot) (ts rest : List Token) (k : IntKind) → Found Ints BeforeNoWord ts k rest → Found (Then Ints (λ k. End (int_base spot true true k))) BeforeNoWord ts (int_base spot true true k) rest
ints_marked spot ts rest k g = ends (read (start (Then Ints (λ k. End (int_base spot true true k))) BeforeNoWord ts) g marked_goes)

pub ints_fail : (spot : Spot) (ts rest : List Token) → Refused Ints BeforeNoWord ts rest → Refused (Then Ints (λ k. End (int_base spot true true k))) BeforeNoWord ts rest
ints_fail spot ts rest g = fails (start (Then Ints (λ k. End (int_base spot true true k))) BeforeNoWord ts) g marked_goes

pub struct_read : (spot : Spot) (f : Bool) (ts rest : List Token) (n : Named) → Found ANamed Any ts n rest → Found (named_struct spot f) BeforeNoWord ts (struct_base spot f n.name) rest
struct_read spot f ts rest n g = ends (read (start (named_struct spot f) BeforeNoWord ts) g (sure (λ b. close_end)))

pub struct_fails : (spot : Spot) (f : Bool) (ts rest : List Token) → Refused ANamed Any ts rest → Refused (named_struct spot f) BeforeNoWord ts rest
struct_fails spot f ts rest g = fails (start (named_struct spot f) BeforeNoWord ts) g (sure (λ b. close_end))

-- ---- by the first token

-- a token that begins the words of an integer type begins them after marks too
module _ (spot : Spot) where
  plain_base : (op : Opening) (k : IntKind) (ys : List Token) → int_after op k ys → base_after spot op (int_base spot false false k) ys
  plain_base o.Bool k ys q = then_end (int_base spot false false) k ys q
  plain_base (o.Signs u) k ys q = then_end (int_base spot false false) k ys q
  plain_base (o.Named c) k ys q = then_end (int_base spot false false) k ys q
  plain_base o.Frozen k ys q = absurd q
  plain_base o.Obliv k ys q = absurd q
  plain_base o.Struct k ys q = absurd q
  plain_base o.Other k ys q = absurd q

  plain_obliv : (op : Opening) (k : IntKind) (ys : List Token) → int_after op k ys → after_obliv spot op (int_base spot false true k) ys
  plain_obliv o.Bool k ys q = then_end (int_base spot false true) k ys q
  plain_obliv (o.Signs u) k ys q = then_end (int_base spot false true) k ys q
  plain_obliv (o.Named c) k ys q = then_end (int_base spot false true) k ys q
  plain_obliv o.Frozen k ys q = absurd q
  plain_obliv o.Obliv k ys q = absurd q
  plain_obliv o.Struct k ys q = absurd q
  plain_obliv o.Other k ys q = absurd q

  plain_frozen : (op : Opening) (k : IntKind) (ys : List Token) → int_after op k ys → after_frozen spot op (int_base spot true false k) ys
  plain_frozen o.Bool k ys q = then_end (int_base spot true false) k ys q
  plain_frozen (o.Signs u) k ys q = then_end (int_base spot true false) k ys q
  plain_frozen (o.Named c) k ys q = then_end (int_base spot true false) k ys q
  plain_frozen o.Frozen k ys q = absurd q
  plain_frozen o.Obliv k ys q = absurd q
  plain_frozen o.Struct k ys q = absurd q
  plain_frozen o.Other k ys q = absurd q

  -- the other way: another token than those that are read apart
  pub only_marked_obliv : (op : Opening) → (op ≡ o.Frozen → ⊥) → (v : BaseName) (ys : List Token) → after_obliv spot op v ys → marked op spot false true v ys
  only_marked_obliv o.Frozen n v ys q = absurd (n refl)
  only_marked_obliv o.Bool n v ys q = q
  only_marked_obliv (o.Signs u) n v ys q = q
  only_marked_obliv (o.Named c) n v ys q = q
  only_marked_obliv o.Obliv n v ys q = q
  only_marked_obliv o.Struct n v ys q = q
  only_marked_obliv o.Other n v ys q = q

  pub marked_obliv : (op : Opening) → (op ≡ o.Frozen → ⊥) → (v : BaseName) (ys : List Token) → marked op spot false true v ys → after_obliv spot op v ys
  marked_obliv o.Frozen n v ys q = absurd (n refl)
  marked_obliv o.Bool n v ys q = q
  marked_obliv (o.Signs u) n v ys q = q
  marked_obliv (o.Named c) n v ys q = q
  marked_obliv o.Obliv n v ys q = q
  marked_obliv o.Struct n v ys q = q
  marked_obliv o.Other n v ys q = q

  pub only_marked_frozen : (op : Opening) → (op ≡ o.Obliv → ⊥) → (op ≡ o.Struct → ⊥) → (v : BaseName) (ys : List Token) → after_frozen spot op v ys → marked op spot true false v ys
  only_marked_frozen o.Obliv n m v ys q = absurd (n refl)
  only_marked_frozen o.Struct n m v ys q = absurd (m refl)
  only_marked_frozen o.Bool n m v ys q = q
  only_marked_frozen (o.Signs u) n m v ys q = q
  only_marked_frozen (o.Named c) n m v ys q = q
  only_marked_frozen o.Frozen n m v ys q = q
  only_marked_frozen o.Other n m v ys q = q

  pub marked_frozen : (op : Opening) → (op ≡ o.Obliv → ⊥) → (op ≡ o.Struct → ⊥) → (v : BaseName) (ys : List Token) → marked op spot true false v ys → after_frozen spot op v ys
  marked_frozen o.Obliv n m v ys q = absurd (n refl)
  marked_frozen o.Struct n m v ys q = absurd (m refl)
  marked_frozen o.Bool n m v ys q = q
  marked_frozen (o.Signs u) n m v ys q = q
  marked_frozen (o.Named c) n m v ys q = q
  marked_frozen o.Frozen n m v ys q = q
  marked_frozen o.Other n m v ys q = q

  pub only_marked_base : (op : Opening) → (op ≡ o.Frozen → ⊥) → (op ≡ o.Obliv → ⊥) → (op ≡ o.Struct → ⊥) → (v : BaseName) (ys : List Token) → base_after spot op v ys → marked op spot false false v ys
  only_marked_base o.Frozen n m l v ys q = absurd (n refl)
  only_marked_base o.Obliv n m l v ys q = absurd (m refl)
  only_marked_base o.Struct n m l v ys q = absurd (l refl)
  only_marked_base o.Bool n m l v ys q = q
  only_marked_base (o.Signs u) n m l v ys q = q
  only_marked_base (o.Named c) n m l v ys q = q
  only_marked_base o.Other n m l v ys q = q

  pub marked_base : (op : Opening) → (op ≡ o.Frozen → ⊥) → (op ≡ o.Obliv → ⊥) → (op ≡ o.Struct → ⊥) → (v : BaseName) (ys : List Token) → marked op spot false false v ys → base_after spot op v ys
  marked_base o.Frozen n m l v ys q = absurd (n refl)
  marked_base o.Obliv n m l v ys q = absurd (m refl)
  marked_base o.Struct n m l v ys q = absurd (l refl)
  marked_base o.Bool n m l v ys q = q
  marked_base (o.Signs u) n m l v ys q = q
  marked_base (o.Named c) n m l v ys q = q
  marked_base o.Other n m l v ys q = q

-- ---- the whole, and its first token

obliv_out : (spot : Spot) {k : IntKind} {x : List Token} → Ints k x → By (λ t. after_obliv spot (opening t.kind)) (int_base spot false true k) x
obliv_out spot {k} {x} d = go (ints_out k x d)
  where
    go : {x : List Token} → By (λ t. int_after (opening t.kind)) k x → By (λ t. after_obliv spot (opening t.kind)) (int_base spot false true k) x
    go (first {t} {ys = ys} q) = first (plain_obliv spot (opening t.kind) k ys q)

frozen_out : (spot : Spot) {k : IntKind} {x : List Token} → Ints k x → By (λ t. after_frozen spot (opening t.kind)) (int_base spot true false k) x
frozen_out spot {k} {x} d = go (ints_out k x d)
  where
    go : {x : List Token} → By (λ t. int_after (opening t.kind)) k x → By (λ t. after_frozen spot (opening t.kind)) (int_base spot true false k) x
    go (first {t} {ys = ys} q) = first (plain_frozen spot (opening t.kind) k ys q)

plain_out : {k : IntKind} {x : List Token} → By (λ t. int_after (opening t.kind)) k x → By (λ t. base_after t.spot (opening t.kind)) (int_base (spot_at x) false false k) x
plain_out {k} (first {t} {ys = ys} q) = first (plain_base t.spot (opening t.kind) k ys q)

struct_out : (spot : Spot) (f : Bool) {n : List ℕ} {t : Token} → Is (Name n) t → named_struct spot f (struct_base spot f n) (t ∷ [])
struct_out spot f {n} {t} i = then (a_named i) ended

frozen_first : (spot : Spot) {u : Token} {op : Opening} (v : BaseName) (ys : List Token) → opening u.kind ≡ op → after_frozen spot op v ys → By (λ t. after_frozen spot (opening t.kind)) v (u ∷ ys)
frozen_first spot v ys e q = first (rw e q)

obliv_first : (spot : Spot) {u : Token} {op : Opening} (v : BaseName) (ys : List Token) → opening u.kind ≡ op → after_obliv spot op v ys → By (λ t. after_obliv spot (opening t.kind)) v (u ∷ ys)
obliv_first spot v ys e q = first (rw e q)

pub base_out : (v : BaseName) (x : List Token) → Base v x → By (λ t. base_after t.spot (opening t.kind)) v x
base_out v _ (plain_int {k} {x} d) = plain_out (ints_out k x d)
base_out v _ (obliv_int {t = t} i d) = first (rw i.kind (obliv_out t.spot d))
base_out v _ (frozen_int {t = t} i d) = first (rw i.kind (frozen_out t.spot d))
base_out v _ (frozen_obliv {k = k} {t = t} {x = x} i j d) = first (rw i.kind (frozen_first t.spot _ x (ap opening j.kind) (then_end (int_base t.spot true true) k x d)))
base_out v _ (obliv_frozen {k = k} {t = t} {x = x} i j d) = first (rw i.kind (obliv_first t.spot _ x (ap opening j.kind) (then_end (int_base t.spot true true) k x d)))
base_out v _ (a_struct {t = t} i j) = first (rw i.kind (struct_out t.spot false j))
base_out v _ (frozen_struct {f = f} {u = u} i j l) = first (rw i.kind (frozen_first f.spot _ (u ∷ []) (ap opening j.kind) (struct_out f.spot true l)))

ints_first : {t : Token} {op : Opening} → opening t.kind ≡ op → (k : IntKind) (ys : List Token) → int_after op k ys → Ints k (t ∷ ys)
ints_first {t} e k ys q = ints_in k (t ∷ ys) (first (rw e q))

obliv_in : {a t : Token} {k : TokenKind} {op : Opening} → Is (Keyword w.Obliv) a → OpeningView k op → t.kind ≡ k → opening t.kind ≡ op → (v : BaseName) (ys : List Token) → after_obliv a.spot op v ys → Base v (a ∷ (t ∷ ys))
obliv_in i is_frozen e h v _ (then d ended) = rw append-nil (obliv_frozen i (record { kind = e }) d)
obliv_in i is_obliv e h v _ (then d ended) = absurd d
obliv_in i is_struct e h v _ (then d ended) = absurd d
obliv_in i is_other e h v _ (then d ended) = absurd d
obliv_in i is_bool e h v _ (then {w = k} {xs = xs} d ended) = rw append-nil (obliv_int i (ints_first h k xs d))
obliv_in i is_underscore_bool e h v _ (then {w = k} {xs = xs} d ended) = rw append-nil (obliv_int i (ints_first h k xs d))
obliv_in i is_signed e h v _ (then {w = k} {xs = xs} d ended) = rw append-nil (obliv_int i (ints_first h k xs d))
obliv_in i is_unsigned e h v _ (then {w = k} {xs = xs} d ended) = rw append-nil (obliv_int i (ints_first h k xs d))
obliv_in i is_char e h v _ (then {w = k} {xs = xs} d ended) = rw append-nil (obliv_int i (ints_first h k xs d))
obliv_in i is_short e h v _ (then {w = k} {xs = xs} d ended) = rw append-nil (obliv_int i (ints_first h k xs d))
obliv_in i is_int e h v _ (then {w = k} {xs = xs} d ended) = rw append-nil (obliv_int i (ints_first h k xs d))
obliv_in i is_long e h v _ (then {w = k} {xs = xs} d ended) = rw append-nil (obliv_int i (ints_first h k xs d))

frozen_in : {a t : Token} {k : TokenKind} {op : Opening} → Is (Keyword w.Frozen) a → OpeningView k op → t.kind ≡ k → opening t.kind ≡ op → (v : BaseName) (ys : List Token) → after_frozen a.spot op v ys → Base v (a ∷ (t ∷ ys))
frozen_in i is_obliv e h v _ (then d ended) = rw append-nil (frozen_obliv i (record { kind = e }) d)
frozen_in i is_struct e h v _ (then (a_named j) ended) = frozen_struct i (record { kind = e }) j
frozen_in i is_frozen e h v _ (then d ended) = absurd d
frozen_in i is_other e h v _ (then d ended) = absurd d
frozen_in i is_bool e h v _ (then {w = k} {xs = xs} d ended) = rw append-nil (frozen_int i (ints_first h k xs d))
frozen_in i is_underscore_bool e h v _ (then {w = k} {xs = xs} d ended) = rw append-nil (frozen_int i (ints_first h k xs d))
frozen_in i is_signed e h v _ (then {w = k} {xs = xs} d ended) = rw append-nil (frozen_int i (ints_first h k xs d))
frozen_in i is_unsigned e h v _ (then {w = k} {xs = xs} d ended) = rw append-nil (frozen_int i (ints_first h k xs d))
frozen_in i is_char e h v _ (then {w = k} {xs = xs} d ended) = rw append-nil (frozen_int i (ints_first h k xs d))
frozen_in i is_short e h v _ (then {w = k} {xs = xs} d ended) = rw append-nil (frozen_int i (ints_first h k xs d))
frozen_in i is_int e h v _ (then {w = k} {xs = xs} d ended) = rw append-nil (frozen_int i (ints_first h k xs d))
frozen_in i is_long e h v _ (then {w = k} {xs = xs} d ended) = rw append-nil (frozen_int i (ints_first h k xs d))

base_by : {t : Token} {k : TokenKind} {op : Opening} → OpeningView k op → t.kind ≡ k → opening t.kind ≡ op → (v : BaseName) (ys : List Token) → base_after t.spot op v ys → Base v (t ∷ ys)
base_by is_frozen e h v _ (first {t} {ys = ys} q) = frozen_in (record { kind = e }) (opening_view t.kind) refl refl v ys q
base_by is_obliv e h v _ (first {t} {ys = ys} q) = obliv_in (record { kind = e }) (opening_view t.kind) refl refl v ys q
base_by is_struct e h v _ (then (a_named j) ended) = a_struct (record { kind = e }) j
base_by is_other e h v _ (then d ended) = absurd d
base_by is_bool e h v _ (then {w = k} {xs = xs} d ended) = rw append-nil (plain_int (ints_first h k xs d))
base_by is_underscore_bool e h v _ (then {w = k} {xs = xs} d ended) = rw append-nil (plain_int (ints_first h k xs d))
base_by is_signed e h v _ (then {w = k} {xs = xs} d ended) = rw append-nil (plain_int (ints_first h k xs d))
base_by is_unsigned e h v _ (then {w = k} {xs = xs} d ended) = rw append-nil (plain_int (ints_first h k xs d))
base_by is_char e h v _ (then {w = k} {xs = xs} d ended) = rw append-nil (plain_int (ints_first h k xs d))
base_by is_short e h v _ (then {w = k} {xs = xs} d ended) = rw append-nil (plain_int (ints_first h k xs d))
base_by is_int e h v _ (then {w = k} {xs = xs} d ended) = rw append-nil (plain_int (ints_first h k xs d))
base_by is_long e h v _ (then {w = k} {xs = xs} d ended) = rw append-nil (plain_int (ints_first h k xs d))

pub base_in : (v : BaseName) (x : List Token) → By (λ t. base_after t.spot (opening t.kind)) v x → Base v x
base_in v _ (first {t} {ys = ys} q) = base_by (opening_view t.kind) refl refl v ys q

-- ---- steps

pub some_words : (spot : Spot) → Closes (By (λ t. after_obliv spot (opening t.kind)))
some_words spot = (int_base spot false true kind.Bool, made (Keyword w.Bool) ∷ [], first (let i = is_made (Keyword w.Bool) in rw i.kind (then ended ended)))

pub some_frozen : (spot : Spot) → Closes (By (λ t. after_frozen spot (opening t.kind)))
some_frozen spot = (int_base spot true false kind.Bool, made (Keyword w.Bool) ∷ [], first (let i = is_made (Keyword w.Bool) in rw i.kind (then ended ended)))

pub some_base : Closes (By (λ t. base_after t.spot (opening t.kind)))
some_base = (int_base (made (Keyword w.Bool)).spot false false kind.Bool, made (Keyword w.Bool) ∷ [], first (let i = is_made (Keyword w.Bool) in rw i.kind (then ended ended)))

pub base_opened : (ts : List Token) → Leaves Base BeforeNoWord ts (By (λ t. base_after t.spot (opening t.kind))) ts
base_opened ts = turned (start Base BeforeNoWord ts) base_in base_out

pub obliv_opened : (spot : Spot) (ts : List Token) → Leaves (By (λ t. after_obliv spot (opening t.kind))) BeforeNoWord ts (By (λ t. after_obliv spot (opening t.kind))) ts
obliv_opened spot ts = start (By (λ t. after_obliv spot (opening t.kind))) BeforeNoWord ts

pub frozen_opened : (spot : Spot) (ts : List Token) → Leaves (By (λ t. after_frozen spot (opening t.kind))) BeforeNoWord ts (By (λ t. after_frozen spot (opening t.kind))) ts
frozen_opened spot ts = start (By (λ t. after_frozen spot (opening t.kind))) BeforeNoWord ts
