-- Loops and blocks, as the Rust code makes them.
use Rattle.std.proofs.Common.{ℕ, ◌+◌, ◌≡◌, ◌<◌, ◌≤◌, List, [], ◌∷◌, ◌++◌, length, take, drop, get_or, Option, sym, ap, ◌∙◌, arith, length-append, append_assoc, append-nil, OnOk, Result, subst}
use Rattle.std.specs.Prelude.{slice_set}
use Rattle.std.proofs.lemmas.Result.{on_ok_weaker}
use Rattle.std.proofs.Math.Seq.{take-append_seam, drop-append_seam}
use Rattle.oc_cells.specs.declared.types.CType.{CType}
use Rattle.oc_source.specs.declared.spot.Spot.{Spot}
use Rattle.oc_typed.specs.declared.typed.TExpr.{TExpr}
use Rattle.oc_typed.specs.declared.typed.TStmt.{TStmt}
use Rattle.oc_code.specs.declared.code.Instr.TheVariants.{Jump}
use Rattle.oc_code.specs.declared.code.Line.{Line}
use Rattle.oc_code.specs.Lower.{Coding, line, declared, leave_code}
use Rattle.cond_lowering.specs.declared.ways.Exit.{Exit}
use Rattle.cond_lowering.specs.declared.ways.ExitKind.TheVariants.{Slot, Loop}
use Rattle.cond_lowering.specs.Pieces.{Piece, none, one, fixed, Adds}
use Rattle.cond_lowering.specs.Ways.{entered, outs}
use Rattle.cond_lowering.specs.Statements.{turn_of, part_of, body_of, test_of, test_or_of, advance_of, while_of, round_of, stmts_of, loop_of, head_of}
use Rattle.cond_lowering.proofs.Adding.{adds_as, adds_none, adds_length}
use Rattle.cond_lowering.proofs.Exits.{outs_entered}
use Rattle.cond_lowering.proofs.Parts.{loop_lands, stmts_next, stmts_end}

-- slots entered after others
entered_more : (p : Spot) (xs ys : List ℕ) → entered p (xs ++ ys) ≡ entered p ys ++ entered p xs
entered_more p [] ys = sym (append-nil (entered p ys))
entered_more p (n ∷ xs) ys =
    ap (λ l. l ++ record { spot = p; kind = Slot n } ∷ []) (entered_more p xs ys) ∙ append_assoc (entered p ys) (entered p xs) (record { spot = p; kind = Slot n } ∷ [])

-- a block so far: its slots are on the way out, and what is left makes its code whole
pub record BlockSoFar (k : Coding) (t : CType) (d : ℕ) (es fs : List Exit) (p : Spot) (c target : List Line) (ss : List TStmt) : Type 0 where
  pub mine : List ℕ
  pub exits : fs ≡ es ++ entered p mine
  pub code : c ++ stmts_of k t d es p mine ss (length c) ≡ target

-- a piece takes no line away
grows : (c0 c1 : List Line) (a : Piece) → Adds c0 a c1 → length c0 ≤ length c1
grows c0 c1 a x = let n = adds_length c0 c1 a x in omega (arith, n)

-- the head of a loop is within its code
pub loop_room : (c0 c1 c2 c3 c4 c5 : List Line) (b a t w : Piece) (p : Spot) (top : ℕ) → top ≡ length c0 → Adds c0 (fixed (head_of p)) c1 → Adds c1 b c2 → Adds c2 a c3 → Adds c3 t c4 → Adds c4 w c5 → top + 3 < length c5
loop_room c0 c1 c2 c3 c4 c5 b a t w p top m e1 e2 e3 e4 e5 =
    let n = adds_length c0 c1 (fixed (head_of p)) e1 in
    let g2 = grows c1 c2 b e2 in
    let g3 = grows c2 c3 a e3 in
    let g4 = grows c3 c4 t e4 in
    let g5 = grows c4 c5 w e5 in
    omega (arith, m, n, g2, g3, g4, g5)

module _ (k : Coding) (t : CType) (d : ℕ) (es : List Exit) where
  -- the body of a loop, whose way out was pushed
  pub body_so : (fs : List Exit) (p : Spot) (top end next : ℕ) (s : TStmt) (c0 c1 : List Line) → fs ≡ es ++ record { spot = p; kind = Loop end next } ∷ [] → end ≡ top + 1 → next ≡ top + 1 + 1
      → Adds c0 (part_of k t d fs s) c1 → Adds c0 (body_of k t d es p top s) c1
  body_so fs p top end next s c0 c1 q r u x =
      adds_as c0 c1 (part_of k t d fs s) (body_of k t d es p top s)
      (ap (λ gs. part_of k t d gs s (length c0)) (sym (q ∙ ap (λ m. es ++ record { spot = p; kind = Loop m next } ∷ []) r ∙ ap (λ m. es ++ record { spot = p; kind = Loop (top + 1) m } ∷ []) u))) x

  pub while_lands : (c0 c1 c2 c4 c5 c6 : List Line) (p : Spot) (e : TExpr) (s : TStmt) (top test to step : ℕ) → top ≡ length c0 → to ≡ top + 1 → step ≡ top + 3 → Adds c0 (fixed (head_of p)) c1
      → Adds c1 (body_of k t d es p top s) c2 → test ≡ length c2 → Adds c2 (test_of k d to e) c4 → Adds c4 (one p (Jump step)) c5
      → c6 ≡ slice_set (slice_set (slice_set c5 top (line p (Jump test))) (top + 1) (line p (Jump (length c5)))) (top + 1 + 1) (line p (Jump test)) → Adds c0 (while_of k t d es p e s) c6
  while_lands c0 c1 c2 c4 c5 c6 p e s top test to step m0 q r e1 e2 m2 e4 e5 h =
      adds_as c0 c6 (loop_of p (body_of k t d es p top s) none (test_of k d (top + 1) e)) (while_of k t d es p e s)
      (ap (λ n. loop_of p (body_of k t d es p n s) none (test_of k d (n + 1) e) (length c0)) (sym m0))
      (loop_lands c0 c1 c2 c2 c4 c5 c6 (body_of k t d es p top s) none (test_of k d (top + 1) e) p top test test m0 e1 e2 m2 (adds_none c2) m2
      (subst (λ to. Adds c2 (test_of k d to e) c4) q e4) (subst (λ step. Adds c4 (one p (Jump step)) c5) r e5) h)

  pub round_lands : (c0 c1 c2 c3 c4 c5 c6 : List Line) (p : Spot) (e a : Option TExpr) (s : TStmt) (top after test to step : ℕ) → top ≡ length c0 → to ≡ top + 1 → step ≡ top + 3 → Adds c0 (fixed (head_of p)) c1
      → Adds c1 (body_of k t d es p top s) c2 → after ≡ length c2 → Adds c2 (advance_of k d p a) c3 → test ≡ length c3 → Adds c3 (test_or_of k d to e) c4 → Adds c4 (one p (Jump step)) c5
      → c6 ≡ slice_set (slice_set (slice_set c5 top (line p (Jump test))) (top + 1) (line p (Jump (length c5)))) (top + 1 + 1) (line p (Jump after)) → Adds c0 (round_of k t d es p e a s) c6
  round_lands c0 c1 c2 c3 c4 c5 c6 p e a s top after test to step m0 q r e1 e2 m2 e3 m3 e4 e5 h =
      adds_as c0 c6 (loop_of p (body_of k t d es p top s) (advance_of k d p a) (test_or_of k d (top + 1) e)) (round_of k t d es p e a s)
      (ap (λ n. loop_of p (body_of k t d es p n s) (advance_of k d p a) (test_or_of k d (n + 1) e) (length c0)) (sym m0))
      (loop_lands c0 c1 c2 c3 c4 c5 c6 (body_of k t d es p top s) (advance_of k d p a) (test_or_of k d (top + 1) e) p top after test m0 e1 e2 m2 e3 m3
      (subst (λ to. Adds c3 (test_or_of k d to e) c4) q e4) (subst (λ step. Adds c4 (one p (Jump step)) c5) r e5) h)

  pub block_next : (fs gs hs : List Exit) (p : Spot) (c0 c1 target : List Line) (ss : List TStmt) (i : ℕ) (s : TStmt) → i < length ss → s ≡ get_or ss i s → BlockSoFar k t d es fs p c0 target (drop i ss)
      → Adds c0 (turn_of k t d fs s) c1 → gs ≡ fs → hs ≡ gs ++ entered p (declared s.node) → BlockSoFar k t d es hs p c1 target (drop (i + 1) ss)
  block_next fs gs hs p c0 c1 target ss i s h q b x e f = record {
    mine = declared s.node ++ b.mine;
    exits = f ∙ ap (λ l. l ++ entered p (declared s.node)) (e ∙ b.exits) ∙ append_assoc es (entered p b.mine) (entered p (declared s.node)) ∙ ap (λ l. es ++ l) (sym (entered_more p (declared s.node) b.mine));
    code = stmts_next k t d es fs p b.mine c0 c1 target ss i s h q b.exits b.code x;
  }

  pub block_marks : (fs : List Exit) (p : Spot) (c target : List Line) (ss : List TStmt) (mark : ℕ) → mark ≡ length es → BlockSoFar k t d es fs p c target ss → mark ≤ length fs
  block_marks fs p c target ss mark m b = let n : length fs ≡ length es + length (entered p b.mine) = ap length b.exits ∙ length-append es (entered p b.mine) in omega (arith, n, m)

  pub block_code : {T E : Type 0} (fs : List Exit) (p : Spot) (c c1 : List Line) (ss : List TStmt) (i mark : ℕ) (c0 : List Line) (r : Result T E) → length ss ≤ i → mark ≡ length es
      → BlockSoFar k t d es fs p c (c0 ++ stmts_of k t d es p [] ss (length c0)) (drop i ss) → OnOk r (Adds c (fixed (outs (drop mark fs))) c1) → OnOk r (Adds c0 (stmts_of k t d es p [] ss) c1)
  block_code fs p c c1 ss i mark c0 r h m b x =
      let o : outs (drop mark fs) ≡ leave_code p b.mine =
      ap (λ l. outs (drop mark l)) b.exits ∙ ap (λ n. outs (drop n (es ++ entered p b.mine))) m ∙ ap outs (drop-append_seam es (entered p b.mine)) ∙ outs_entered p b.mine in
      on_ok_weaker r (λ z. record { so = z.so ∙ ap (λ l. c ++ l) o ∙ stmts_end k t d es p b.mine c (c0 ++ stmts_of k t d es p [] ss (length c0)) ss i h b.code }) x

  pub block_exits : {T E : Type 0} (fs gs : List Exit) (p : Spot) (c target : List Line) (ss : List TStmt) (mark : ℕ) (r : Result T E) → mark ≡ length es
      → BlockSoFar k t d es fs p c target ss → OnOk r (gs ≡ take mark fs) → OnOk r (gs ≡ es)
  block_exits fs gs p c target ss mark r m b x =
      on_ok_weaker r (λ z. z ∙ ap (λ l. take mark l) b.exits ∙ ap (λ n. take n (es ++ entered p b.mine)) m ∙ take-append_seam es (entered p b.mine)) x
