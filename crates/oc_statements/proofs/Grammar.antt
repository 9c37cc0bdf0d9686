-- Statements and blocks, by their first tokens.
use Rattle.std.proofs.Common.{◌≡◌, List, [], ◌∷◌, ◌++◌, Option, Some, None, Bool, true, false, ◌⊎◌, inl, inr, refl, sym, ◌∙◌, ap, append-nil, append_assoc, subst}
use Rattle.oc_source.specs.declared.spot.Spot.{Spot}
use Rattle.oc_source.specs.declared.parsed.Expr.{Expr}
use Rattle.oc_source.specs.declared.parsed.ForInit.{ForInit}
use Rattle.oc_source.specs.declared.parsed.Stmt.{Stmt}
use Rattle.oc_source.specs.declared.parsed.StmtNode.TheVariants as st
use Rattle.oc_lexer.specs.declared.token.Token.{Token}
use Rattle.oc_lexer.specs.declared.token.TokenKind.{TokenKind}
use Rattle.oc_lexer.specs.declared.token.TokenKind.TheVariants.{Name, Number, Character, Text, Keyword, Sign}
use Rattle.oc_lexer.specs.declared.token.Keyword.TheVariants as w
use Rattle.oc_lexer.specs.declared.token.Sign.TheVariants as s
use Rattle.oc_grammar.specs.declared.tables.Opening.TheVariants as o
use Rattle.oc_grammar.specs.Tokens.{Is, spot_at}
use Rattle.oc_grammar.specs.Tables.{opening}
use Rattle.oc_source.specs.Parsed.{stmt}
use Rattle.oc_grammar.specs.Parsing.{ended, Then, then, By, first, Maybe, stays, goes}
use Rattle.oc_grammar.specs.Calls.{One, one, a_named, placed}
use Rattle.oc_grammar.specs.Statements.{Declaration, Condition, Statement, Branches, Block, braces, Steps, no_step, a_declaration, a_statement}
use Rattle.oc_grammar.specs.Statements as g
use Rattle.oc_grammar.proofs.Parsing.{then_end, end_is}
use Rattle.oc_expressions.specs.Continuations.{begins, BeginsType}
use Rattle.oc_expressions.proofs.Levels.{Begun}
use Rattle.oc_statements.specs.declared.leads.Lead.{Lead}
use Rattle.oc_statements.specs.declared.leads.Lead.TheVariants as lead
use Rattle.oc_statements.specs.declared.simple.Header.{Header}
use Rattle.oc_statements.specs.declared.leads.SimpleLead.TheVariants as simple
use Rattle.oc_statements.specs.Continuations.{SimpleStatement, simple_lead, lead_at, header, header_form, if_node, ElseBy, else_by, if_after, while_after, for_after, always_after, Step, declares, states, Run, run_end, run_more, TildeAfter, by_always, by_simple, stmt_after}
use Rattle.oc_statements.specs.Continuations as shape
use Rattle.oc_statements.proofs.Headers.{before_begun, declaration_first}
use Rattle.oc_statements.proofs.Lone.{simple_begun}

-- ---- blocks

steps_run : (l : List Stmt) {vs : List Stmt} {x : List Token} {b : Token} → Steps vs x → Is (Sign s.RightBrace) b → Run l (l ++ vs) (x ++ b ∷ [])
steps_run l no_step j = rw append-nil (run_end j)
steps_run l {b = u} (a_declaration {b = b} {ds = ds} {vs = vs} {x = x} {y = y} d q) j =
    let v : Stmt = stmt b.spot (st.Declare ds) in
    rw (append_assoc x y (u ∷ [])) (run_more (declares d) (rw (append_assoc l (v ∷ []) vs) at (steps_run (l ++ v ∷ []) q j)))
steps_run l {b = u} (a_statement {v = v} {vs = vs} {x = x} {y = y} d q) j =
    rw (append_assoc x y (u ∷ [])) (run_more (states d) (rw (append_assoc l (v ∷ []) vs) at (steps_run (l ++ v ∷ []) q j)))

step_steps : {v : Stmt} {vs : List Stmt} {x y : List Token} → Step v x → Steps vs y → Steps (v ∷ vs) (x ++ y)
step_steps (declares d) q = a_declaration d q
step_steps (states d) q = a_statement d q

run_steps : {l vs : List Stmt} {y : List Token} → Run l vs y → (ws : List Stmt) × (x : List Token) × (b : Token) × (vs ≡ l ++ ws) × Steps ws x × Is (Sign s.RightBrace) b × (y ≡ x ++ b ∷ [])
run_steps {l} (run_end {t = t} i) = ([], [], t, sym (append-nil l), no_step, i, refl)
run_steps {l} (run_more {v = v} {x = x} d q) =
    let (ws, z, b, e, h, i, k) = run_steps q in
    (v ∷ ws, x ++ z, b, e ∙ append_assoc l (v ∷ []) ws, step_steps d h, i, ap (λ y. x ++ y) k ∙ sym (append_assoc x z (b ∷ [])))

pub block_out : (vs : List Stmt) (x : List Token) → Block vs x → Then (One (Sign s.LeftBrace)) (λ _. Run []) vs x
block_out vs _ (braces i d j) = then (one i) (steps_run [] d j)

brace_of : {a b : Token} {vs ws : List Stmt} {x y : List Token} → Is (Sign s.LeftBrace) a → vs ≡ ws → Steps ws x → Is (Sign s.RightBrace) b → y ≡ x ++ b ∷ [] → Block vs (a ∷ y)
brace_of i e h j k = rw (e, k) (braces i h j)

brace_in : {a : Token} {vs : List Stmt} {y : List Token} → Is (Sign s.LeftBrace) a → Run [] vs y → Block vs (a ∷ y)
brace_in i q = let (ws, x, b, e, h, j, k) = run_steps q in brace_of i e h j k

pub block_in : (vs : List Stmt) (x : List Token) → Then (One (Sign s.LeftBrace)) (λ _. Run []) vs x → Block vs x
block_in vs _ (then (one i) q) = brace_in i q

-- ---- the parts of an `if`

module _ (spot : Spot) (obliv : Bool) (c : Expr) where
  abbrev branched : Stmt → List Token → Type 0
  branched = Then Statement (λ y. Maybe (ElseBy spot obliv c y) (stmt spot (if_node obliv c y None)))

  branches_out : {y : Stmt} {n : Option Stmt} {x : List Token} → Branches y n x → branched (stmt spot (if_node obliv c y n)) x
  branches_out {y} {x = x} (g.one d) = let h : branched (stmt spot (if_node obliv c y None)) (x ++ []) = then d stays in rw append-nil at h
  branches_out {y} (g.two {n = n} {ys = ys} d h i e) = then d (goes (else_by i h (then_end (λ n. stmt spot (if_node obliv c y (Some n))) n ys e)))

  branches_in : {v : Stmt} {x : List Token} → branched v x → (y : Stmt) × (n : Option Stmt) × (v ≡ stmt spot (if_node obliv c y n)) × Branches y n x
  branches_in (then {w = y} d m) = go y d m
    where
      go : (y : Stmt) {v : Stmt} {x z : List Token} → Statement y x → Maybe (ElseBy spot obliv c y) (stmt spot (if_node obliv c y None)) v z → (y : Stmt) × (n : Option Stmt) × (v ≡ stmt spot (if_node obliv c y n)) × Branches y n (x ++ z)
      go y d stays = (y, None, refl, rw append-nil (g.one d))
      go y d (goes (else_by i h (then {w = n} e q))) = let p = end_is q in (y, Some n, p.0, rw (p.1, append-nil) (g.two d h i e))

-- ---- statements

begins_lead : (k : TokenKind) → begins k ≡ true → (lead_at k ≡ lead.Simple) ⊎ (lead_at k ≡ lead.Tilde)
begins_lead (Name n) h = inl refl
begins_lead (Number n) h = inl refl
begins_lead (Character c) h = inl refl
begins_lead (Text t) h = inl refl
begins_lead (Sign s.LeftBrace) h = cc
begins_lead (Sign s.Tilde) h = inr refl
begins_lead (Sign _) h = inl refl
begins_lead (Keyword w.If) h = cc
begins_lead (Keyword w.While) h = cc
begins_lead (Keyword w.For) h = cc
begins_lead (Keyword w.Obliv) h = cc
begins_lead (Keyword _) h = inl refl

express_out : (v : Stmt) (x : List Token) → Begun x → SimpleStatement v x → By (λ t. stmt_after t (lead_at t.kind)) v x
express_out v [] b q = absurd b
express_out v (t ∷ x) b q = go (begins_lead t.kind b)
  where
    go : (lead_at t.kind ≡ lead.Simple) ⊎ (lead_at t.kind ≡ lead.Tilde) → By (λ t. stmt_after t (lead_at t.kind)) v (t ∷ x)
    go (inl e) = first (rw e q)
    go (inr e) = first (rw e (by_simple q))

header_out : {p : Token} {i : ForInit} {c a : Option Expr} {ws xs ys : List Token} → Is (Sign s.LeftParen) p → g.Init i ws → g.Perhaps s.Semicolon c xs → g.Perhaps s.RightParen a ys → header_form (header i c a) (p ∷ (ws ++ (xs ++ ys)))
header_out {i = i} {c = c} {a = a} {ys = ys} j di dc da = then (one j) (then di (then dc (then_end (λ a. header i c a) a ys da)))

at_lead : {t : Token} {l : Lead} → lead_at t.kind ≡ l → (v : Stmt) (ys : List Token) → stmt_after t l v ys → By (λ t. stmt_after t (lead_at t.kind)) v (t ∷ ys)
at_lead {t} e v ys q = first (subst (λ l. stmt_after t l v ys) (sym e) q)

pub statement_out : (v : Stmt) (x : List Token) → Statement v x → By (λ t. stmt_after t (lead_at t.kind)) v x
statement_out v _ (g.empty i) = at_lead (ap lead_at i.kind) _ _ (shape.empty i)
statement_out v x (g.express d) = express_out v x (before_begun d) (shape.express d)
statement_out v _ (g.block (braces {a = a} {vs = vs} i d j)) = at_lead (ap lead_at i.kind) _ _ (then_end (λ vs. stmt a.spot (st.Block vs)) vs _ (steps_run [] d j))
statement_out v _ (g.returns i d) = at_lead (ap lead_at i.kind) _ _ (shape.returns i d)
statement_out v _ (g.breaks i j) = at_lead (ap lead_at i.kind) _ _ (shape.breaks i j)
statement_out v _ (g.continues i j) = at_lead (ap lead_at i.kind) _ _ (shape.continues i j)
statement_out v _ (g.if {t = t} {c = c} i d b) = at_lead (ap lead_at i.kind) _ _ (then d (branches_out t.spot false c b))
statement_out v _ (g.obliv_if {o = t} {c = c} i j d b) = at_lead (ap lead_at i.kind) _ _ (then (one j) (then d (branches_out t.spot true c b)))
statement_out v _ (g.always {a = a} {name = name} {vs = vs} {x = x} i j k l m d) =
    at_lead (ap lead_at i.kind) _ _ (by_always j (then (then (one k) (then (a_named l) (then (one m) ended))) (then_end (λ p. stmt a.spot (st.Always name (stmt p.0 (st.Block p.1)))) (spot_at x, vs) x (placed d))))
statement_out v _ (g.while {t = t} {c = c} {b = b} {ys = ys} i d e) = at_lead (ap lead_at i.kind) _ _ (then d (then_end (λ b. stmt t.spot (st.While c b)) b ys e))
statement_out v _ (g.for {t = t} {i = i} {c = c} {a = a} {b = b} {ws = ws} {xs = xs} {ys = ys} {zs = zs} j k di dc da e) =
    at_lead (ap lead_at j.kind) _ _ (rw (← append_assoc xs ys zs, ← append_assoc ws (xs ++ ys) zs) (then (header_out k di dc da) (then_end (λ b. stmt t.spot (st.For i c a b)) b zs e)))

data LeadView : TokenKind → Lead → Type 0 where
  is_block : LeadView (Sign s.LeftBrace) lead.Block
  is_tilde : LeadView (Sign s.Tilde) lead.Tilde
  is_if : LeadView (Keyword w.If) lead.If
  is_while : LeadView (Keyword w.While) lead.While
  is_for : LeadView (Keyword w.For) lead.For
  is_obliv : LeadView (Keyword w.Obliv) lead.Obliv
  is_simple : {k : TokenKind} → LeadView k lead.Simple

lead_view : (k : TokenKind) → LeadView k (lead_at k)
lead_view (Sign s.LeftBrace) = is_block
lead_view (Sign s.Tilde) = is_tilde
lead_view (Keyword w.If) = is_if
lead_view (Keyword w.While) = is_while
lead_view (Keyword w.For) = is_for
lead_view (Keyword w.Obliv) = is_obliv
lead_view _ = is_simple

pub tilde_kind : (k : TokenKind) → lead_at k ≡ lead.Tilde → k ≡ Sign s.Tilde
tilde_kind k e = go (lead_view k) e
  where
    go : {k : TokenKind} {l : Lead} → LeadView k l → l ≡ lead.Tilde → k ≡ Sign s.Tilde
    go is_tilde e = refl
    go is_block e = cc
    go is_if e = cc
    go is_while e = cc
    go is_for e = cc
    go is_obliv e = cc
    go is_simple e = cc

pub simple_in : {v : Stmt} {x : List Token} → SimpleStatement v x → Statement v x
simple_in (shape.empty i) = g.empty i
simple_in (shape.express d) = g.express d
simple_in (shape.returns i d) = g.returns i d
simple_in (shape.breaks i j) = g.breaks i j
simple_in (shape.continues i j) = g.continues i j

if_in : {t : Token} → Is (Keyword w.If) t → (v : Stmt) (ys : List Token) → if_after t.spot false v ys → Statement v (t ∷ ys)
if_in {t} i v _ (then {w = c} d q) = let (y, n, e, b) = branches_in t.spot false c q in rw e (g.if i d b)

pub obliv_in : {t u : Token} → Is (Keyword w.Obliv) t → Is (Keyword w.If) u → (v : Stmt) (ys : List Token) → if_after t.spot true v ys → Statement v (t ∷ (u ∷ ys))
obliv_in {t} i j v _ (then {w = c} d q) = let (y, n, e, b) = branches_in t.spot true c q in rw e (g.obliv_if i j d b)

always_in : {t u : Token} → Is (Sign s.Tilde) t → Is (Keyword w.Obliv) u → (v : Stmt) (ys : List Token) → always_after t.spot v ys → Statement v (t ∷ (u ∷ ys))
always_in i j v _ (then (then (one k) (then (a_named l) (then (one m) e1))) (then (placed d) e2)) = let p = end_is e1 in let q = end_is e2 in rw (q.0, q.1, p.0, p.1, append-nil) (g.always i j k l m d)

while_in : {t : Token} → Is (Keyword w.While) t → (v : Stmt) (ys : List Token) → while_after t.spot v ys → Statement v (t ∷ ys)
while_in i v _ (then d (then e q)) = let p = end_is q in rw (p.0, p.1, append-nil) (g.while i d e)

for_in : {t : Token} → Is (Keyword w.For) t → (v : Stmt) (ys : List Token) → for_after t.spot v ys → Statement v (t ∷ ys)
for_in {t} j v _ (then {w = h} (then {zs = zs1} (one k) (then {w = i} {xs = ws} di (then {w = c} {xs = xs} dc (then {w = a} {xs = ys} da e1)))) (then {w = b} {xs = zs} e e2)) =
    let p = end_is e1 in let q = end_is e2 in
    let f : stmt t.spot (st.For h.init h.cond h.advance b) ≡ stmt t.spot (st.For i c a b) = ap (λ (h : Header). stmt t.spot (st.For h.init h.cond h.advance b)) p.0 in
    rw (q.0, f, q.1, p.1, append_assoc ws (xs ++ (ys ++ [])) (zs ++ []), append_assoc xs (ys ++ []) (zs ++ []), append-nil ys, append-nil zs) (g.for j k di dc da e)

after_in : {t : Token} {k : TokenKind} {l : Lead} → LeadView k l → t.kind ≡ k → (v : Stmt) (ys : List Token) → stmt_after t l v ys → Statement v (t ∷ ys)
after_in is_block e v _ (then q z) = let p = end_is z in rw (p.0, p.1, append-nil) (g.block (brace_in (record { kind = e }) q))
after_in is_tilde e v _ (by_always {ys = ys} j q) = always_in (record { kind = e }) j v ys q
after_in is_tilde e v ys (by_simple q) = simple_in q
after_in is_if e v ys q = if_in (record { kind = e }) v ys q
after_in is_while e v ys q = while_in (record { kind = e }) v ys q
after_in is_for e v ys q = for_in (record { kind = e }) v ys q
after_in is_obliv e v _ (then {zs = ys} (one j) q) = obliv_in (record { kind = e }) j v ys q
after_in is_simple e v ys q = simple_in q

pub statement_in : (v : Stmt) (x : List Token) → By (λ t. stmt_after t (lead_at t.kind)) v x → Statement v x
statement_in v _ (first {t} {ys = ys} q) = after_in (lead_view t.kind) refl v ys q

-- ---- the tokens with which no statement begins

-- no declaration and no statement begins with the token
pub record Idle (k : TokenKind) : Type 0 where
  pub lead : lead_at k ≡ lead.Simple
  pub simple : simple_lead k ≡ simple.Express
  pub begins : begins k ≡ false
  pub opening : opening k ≡ o.Other

pub else_idle : Idle (Keyword w.Else)
else_idle = record { lead = refl; simple = refl; begins = refl; opening = refl }

pub brace_idle : Idle (Sign s.RightBrace)
brace_idle = record { lead = refl; simple = refl; begins = refl; opening = refl }

no_statement : {k : TokenKind} {v : Stmt} {x : List Token} (t : Token) (us zs : List Token) → Idle k → Is k t → Statement v x → t ∷ us ≡ x ++ zs → ⊥
no_statement {k} {v} {x} t us zs n i d e = go (statement_out v x d) e
  where
    go : {x : List Token} → By (λ t. stmt_after t (lead_at t.kind)) v x → t ∷ us ≡ x ++ zs → ⊥
    go (first {t = u} {ys = ys} q) e =
        let h : t ≡ u = cc in
        let f : u.kind ≡ k = rw (← h) i.kind in
        let a : lead_at u.kind ≡ lead.Simple = rw f n.lead in
        let c : SimpleStatement v (u ∷ ys) = rw a at q in
        let b : begins u.kind ≡ true = simple_begun c (rw f n.simple) in
        let b' : begins u.kind ≡ false = rw f n.begins in
        cc

pub no_step_begins : {k : TokenKind} {v : Stmt} {x : List Token} (t : Token) (us zs : List Token) → Idle k → Is k t → Step v x → t ∷ us ≡ x ++ zs → ⊥
no_step_begins {k} t us zs n i (declares {x = x} d) e = let h : BeginsType (x ++ zs) = declaration_first zs d in let g : BeginsType (t ∷ us) = subst (λ x. BeginsType x) (sym e) h in g (let j = i.kind in rw j n.opening)
no_step_begins t us zs n i (states d) e = no_statement t us zs n i d e
