-- A jump that doesn't go forward leads to a step, or to a jump that goes past it; and a call's reach is at least 2.
use Rattle.std.proofs.Common.{ℕ, zero, suc, ◌+◌, ◌≡◌, ◌<◌, ◌≤◌, List, [], ◌∷◌, ◌++◌, length, Option, Some, None, subst, arith, Bool, true, false, length-append}
use Rattle.std.specs.Prelude.{pos, slice_get, if◌then◌else◌}
use Rattle.oc_values.specs.declared.integers.IntKind.{IntKind}
use Rattle.oc_values.specs.declared.integers.IntKind.TheVariants.{Bool as KBool, I32}
use Rattle.oc_values.specs.declared.integers.BinaryOp.{BinaryOp}
use Rattle.oc_cells.specs.declared.types.CType.{CType, Int as CInt, Pointer' as CPointer', Array' as CArray', Struct, Nothing as CNothing}
use Rattle.oc_cells.specs.declared.types.SlotType.{SlotType}
use Rattle.oc_cells.specs.Types.{is_hidden, is_integer, is_pointer, is_struct}
use Rattle.oc_source.specs.declared.spot.Spot.{Spot}
use Rattle.oc_typed.specs.declared.typed.TExpr.{TExpr}
use Rattle.oc_typed.specs.declared.typed.TExprNode.{TExprNode, Number, NullPointer, Read', AddressOf', Decay', Unary', Binary', PointerStep', PointerSame', Logic', Choose', Assign', Update', Convert', Call', Builtin', Row_of-TExpr, end_of-TExpr, more_of-TExpr}
use Rattle.oc_typed.specs.declared.typed.TPlaceNode.{TPlaceNode, Slot, Deref', Index', Field', Row_of-TPlace, more_of-TPlace}
use Rattle.oc_typed.specs.declared.typed.PrintPiece.{PrintPiece}
use Rattle.oc_typed.specs.declared.typed.Builtin.{Builtin}
use Rattle.oc_typed.specs.declared.typed.Builtin.TheVariants.{Private, Feed as FeedCall, Reveal as RevealCall, Give as GiveCall, PrivateCount, PublicCount as PublicCountCall, PublicWord as PublicWordCall, Print as PrintCall, Calloc, Malloc, Free as FreeCall}
use Rattle.oc_typed.specs.declared.typed.TDeclared.{TDeclared}
use Rattle.oc_typed.specs.declared.typed.TForInit.{TForInit}
use Rattle.oc_typed.specs.declared.typed.TForInit.TheVariants.{Nothing as NoInit, Declare as InitDeclare, Express as InitExpress}
use Rattle.oc_typed.specs.declared.typed.TStmt.{TStmt}
use Rattle.oc_typed.specs.declared.typed.TStmtNode.{TStmtNode, Declare, Express, Block', If', OblivIf', Always' as AlwaysStmt', While', For', Return, Break, Continue, Empty, Row_of-TStmt, end_of-TStmt, more_of-TStmt, Held-TStmtNode-If-2, None', Some'}
use Rattle.oc_typed.specs.Static.{same_spot, spot_of, type_of}
use Rattle.oc_walk.specs.declared.run.Source.{Source}
use Rattle.oc_walk.specs.declared.run.Source.TheVariants.{Word, Public}
use Rattle.oc_walk.specs.Builtins.{source_of}
use Rattle.oc_code.specs.Lower.{line, count, below, if_code, if_none, if_one, if_two, if_some, read_code, turn_code, assign_code, convert_code, ready_code, renew_code, feed_code, print_code, perform_code, expr_code, place_code, place_one_code, one_code, exprs_code, Coding, whole_code, declared, header_slots, leave_code, init_code, start_code, declare_code, declares_code, express_code, header_code, advance_code, test_code, test_or_code, back_code, loop_code, node_code, part_code, stmts_code, other_code, end_code, listed_code, function_code, functions_code}
use Rattle.code_runs.specs.Jumps.{Leads, ahead, to_step, past, Good}
use Rattle.oc_typed.specs.declared.typed.TypedFunction.{TypedFunction}
use Rattle.oc_code.specs.declared.code.CodeFunction.{CodeFunction}
use Rattle.code_runs.proofs.Runs.{HasAt, has_front, has_back, has_all}
use Rattle.oc_code.specs.declared.code.Instr.TheVariants.{Push, Turn, Jump, JumpZero, Step, When, Otherwise, EndWhen, EndAlways}
use Rattle.oc_code.specs.declared.code.Line.{Line}

module _ (code : List Line) where
  along : (a b : List Line) (pc : ℕ) → Good code pc a → Good code (pc + length a) b → Good code pc (a ++ b)
  along [] b pc f g = let e : pc + 0 ≡ pc = omega arith in subst (λ i. Good code i b) e g
  along (l ∷ a) b pc f g = let e : pc + length (l ∷ a) ≡ pc + 1 + length a = omega arith in (f.0, along a b (pc + 1) f.1 (subst (λ i. Good code i b) e g))

  if_good : (p : Spot) (pc : ℕ) (t a b : List Line) → Good code pc t → Good code (pc + length t + 1) a → Good code (pc + length t + 1 + length a + 1) b → Good code pc (if_code p pc t a b)
  if_good p pc t a b f g h = along t _ pc f (ahead (omega arith), along a _ _ g (ahead (omega arith), h))

  turn_good : (b : Bool) (p : Spot) (k l : IntKind) (pc : ℕ) → Good code pc (turn_code b p k l)
  turn_good true p k l pc = tt
  turn_good false p k l pc = (tt, tt)

  then_turn : (p : Spot) (c : List Line) (pc : ℕ) → Good code pc c → Good code pc (c ++ line p (Turn KBool I32 false) ∷ [])
  then_turn p c pc f = along c _ pc f (tt, tt)

  read_good : (b : Bool) (q : Spot) (u : CType) (pc : ℕ) → Good code pc (read_code b q u)
  read_good true q u pc = tt
  read_good false q u pc = (tt, tt)

  assign_good : (q r : Spot) (u : CType) (pc : ℕ) → Good code pc (assign_code q r u)
  assign_good q r (Struct n) pc = (tt, tt)
  assign_good q r (CInt k o) pc = (tt, tt)
  assign_good q r (CPointer' f y t) pc = (tt, tt)
  assign_good q r (CArray' n y t) pc = (tt, tt)
  assign_good q r CNothing pc = (tt, tt)

  convert_good : (b : Bool) (p : Spot) (t u : CType) (pc : ℕ) → Good code pc (convert_code b p t u)
  convert_good true p t u pc = (tt, tt)
  convert_good false p t u pc = tt

  ready_good : (b : Bool) (p : Spot) (op : BinaryOp) (u t : CType) (pc : ℕ) → Good code pc (ready_code b p op u t)
  ready_good true p op u t pc = tt
  ready_good false p op u t pc = turn_good _ p _ _ pc

  renew_good : (b : Bool) (lss : List (List CType)) (p : Spot) (op : BinaryOp) (u t : CType) (pc : ℕ) → Good code pc (renew_code b lss p op u t)
  renew_good true lss p op u t pc = (tt, tt)
  renew_good false lss p op u t pc = (tt, turn_good _ p _ _ (pc + 1))

  none_good : (p : Spot) (n : ℕ) (c : List Line) (pc : ℕ) → Good code pc c → Good code pc (if_none p n c)
  none_good p zero c pc g = g
  none_good p (suc n) c pc g = (tt, tt)

  single_good : (p : Spot) (n : ℕ) (c : List Line) (pc : ℕ) → Good code pc c → Good code pc (if_one p n c)
  single_good p zero c pc g = (tt, tt)
  single_good p (suc zero) c pc g = g
  single_good p (suc (suc n)) c pc g = (tt, tt)

  double_good : (p : Spot) (n : ℕ) (c : List Line) (pc : ℕ) → Good code pc c → Good code pc (if_two p n c)
  double_good p zero c pc g = (tt, tt)
  double_good p (suc zero) c pc g = (tt, tt)
  double_good p (suc (suc zero)) c pc g = g
  double_good p (suc (suc (suc n))) c pc g = (tt, tt)

  some_good : (p : Spot) (n : ℕ) (c d : List Line) (pc : ℕ) → Good code pc c → Good code pc d → Good code pc (if_some p n c d)
  some_good p zero c d pc g h = g
  some_good p (suc zero) c d pc g h = h
  some_good p (suc (suc n)) c d pc g h = (tt, tt)

  feed_good : (s : Source) (k : IntKind) (party pc : ℕ) → Good code pc (feed_code s k party)
  feed_good (Word q) k party pc = (tt, tt)
  feed_good Public k party pc = tt

  print_good : (b : Bool) (p : Spot) (ps : List PrintPiece) (pc : ℕ) → Good code pc (print_code b p ps)
  print_good true p ps pc = (tt, tt)
  print_good false p ps pc = (tt, tt)

  perform_good : (w : Builtin) (p : Spot) (t : CType) (s : Source) (n pc : ℕ) → Good code pc (perform_code p t s w n)
  perform_good Private p t s n pc = single_good p n [] pc tt
  perform_good (FeedCall k party) p t s n pc = single_good p n _ pc (feed_good s k party pc)
  perform_good (RevealCall k) p t s n pc = double_good p n _ pc (tt, (tt, tt))
  perform_good (GiveCall k party) p t s n pc = single_good p n _ pc (tt, tt)
  perform_good (PrivateCount party) p t s n pc = none_good p n _ pc (tt, tt)
  perform_good PublicCountCall p t s n pc = none_good p n _ pc (tt, tt)
  perform_good PublicWordCall p t s n pc = single_good p n _ pc (tt, tt)
  perform_good (PrintCall ps) p t s n pc = print_good _ p ps pc
  perform_good Calloc p t s n pc = single_good p n _ pc (tt, tt)
  perform_good Malloc p t s n pc = some_good p n _ _ pc (tt, (tt, tt)) (tt, tt)
  perform_good FreeCall p t s n pc = single_good p n _ pc (tt, tt)

  by_mark : (b : Bool) (c d : List Line) (pc : ℕ) → Good code pc c → Good code pc d → Good code pc (if b then c else d)
  by_mark true c d pc g h = g
  by_mark false c d pc g h = h

  light : (b : Bool) (d : ℕ) → 1 ≤ d → 1 ≤ (if b then d else below d)
  light true d h = h
  light false d h = omega arith

  module _ (lss : List (List CType)) where
    mutual
      pub expr_good : (d : ℕ) → 1 ≤ d → (p : Spot) (t : CType) (e : TExprNode) (pc : ℕ) → Good code pc (expr_code lss d pc p t e)
      expr_good d h p t (Number n) pc = (tt, tt)
      expr_good d h p t NullPointer pc = (tt, tt)
      expr_good d h p t (Read' q u c) pc = along _ _ pc (place_good (below d) (omega arith) q u c pc) (read_good (is_struct u) q u _)
      expr_good d h p t (AddressOf' q u c) pc = place_good (below d) (omega arith) q u c pc
      expr_good d h p t (Decay' q u c) pc = place_good (below d) (omega arith) q u c pc
      expr_good d h p t (Unary' op _ e) pc = along _ _ pc (one_good (below d) (omega arith) e pc) (tt, tt)
      expr_good d h p t (Binary' op _ l _ r) pc = along _ _ pc (one_good (below d) (omega arith) l pc) (along _ _ _ (one_good (below d) (omega arith) r _) (tt, tt))
      expr_good d h p t (PointerStep' _ l _ r back false) pc = along _ _ pc (one_good (below d) (omega arith) l pc) (along _ _ _ (one_good (below d) (omega arith) r _) (tt, tt))
      expr_good d h p t (PointerStep' _ l _ r back true) pc = along _ _ pc (one_good (below d) (omega arith) r pc) (along _ _ _ (one_good (below d) (omega arith) l _) (tt, (tt, tt)))
      expr_good d h p t (PointerSame' _ l _ r negated) pc = along _ _ pc (one_good (below d) (omega arith) l pc) (along _ _ _ (one_good (below d) (omega arith) r _) (tt, tt))
      expr_good d h p t (Logic' true _ l _ r) pc =
          by_mark (is_hidden t) _ _ pc (along _ _ pc (one_good (below d) (omega arith) l pc) (along _ _ _ (one_good (below d) (omega arith) r _) (tt, tt)))
          (if_good p pc _ _ (line p (Push I32 (pos 0)) ∷ []) (one_good (below d) (omega arith) l pc) (then_turn p _ _ (one_good (below d) (omega arith) r _)) (tt, tt))
      expr_good d h p t (Logic' false _ l _ r) pc =
          by_mark (is_hidden t) _ _ pc (along _ _ pc (one_good (below d) (omega arith) l pc) (along _ _ _ (one_good (below d) (omega arith) r _) (tt, tt)))
          (if_good p pc _ (line p (Push I32 (pos 1)) ∷ []) _ (one_good (below d) (omega arith) l pc) (tt, tt) (then_turn p _ _ (one_good (below d) (omega arith) r _)))
      expr_good d h p t (Choose' _ c _ l _ r) pc = if_good p pc _ _ _ (one_good (below d) (omega arith) c pc) (one_good (below d) (omega arith) l _) (one_good (below d) (omega arith) r _)
      expr_good d h p t (Assign' q u c _ e) pc = along _ _ pc (place_good (below d) (omega arith) q u c pc) (along _ _ _ (one_good (below d) (omega arith) e _) (assign_good q (spot_of e) u _))
      expr_good d h p t (Update' op q u c _ e false) pc =
          along _ _ pc (place_good (below d) (omega arith) q u c pc) (tt, along _ _ _ (one_good (below d) (omega arith) e _) (tt, (tt, along _ _ _ (ready_good (is_pointer u) p op u (type_of e) _) (tt, along _ _ _ (renew_good (is_pointer u) lss p op u (type_of e) _) (tt, tt)))))
      expr_good d h p t (Update' op q u c _ e true) pc =
          along _ _ pc (place_good (below d) (omega arith) q u c pc) (tt, (tt, (tt, (tt, (tt, along _ _ _ (ready_good (is_pointer u) p op u (type_of e) _) (along _ _ _ (one_good (below d) (omega arith) e _) (along _ _ _ (renew_good (is_pointer u) lss p op u (type_of e) _) (tt, (tt, tt)))))))))
      expr_good d h p t (Convert' _ e) pc = along _ _ pc (one_good _ (light (same_spot p (spot_of e)) d h) e pc) (convert_good (is_integer t) p (type_of e) t _)
      expr_good d h p t (Call' f _ es) pc = along _ _ pc (all_good (below d) (omega arith) es pc) (let z : 2 ≤ d + 1 = omega arith in z, tt)
      expr_good d h p t (Builtin' w _ es) pc = along _ _ pc (all_good (below d) (omega arith) es pc) (perform_good w p t (source_of es) (count es) _)

      pub place_good : (d : ℕ) → 1 ≤ d → (p : Spot) (t : CType) (c : TPlaceNode) (pc : ℕ) → Good code pc (place_code lss d pc p t c)
      place_good d h p t (Slot n) pc = (tt, tt)
      place_good d h p t (Deref' _ e) pc = along _ _ pc (one_good (below d) (omega arith) e pc) (tt, tt)
      place_good d h p t (Index' _ l _ r) pc = along _ _ pc (one_good (below d) (omega arith) l pc) (along _ _ _ (one_good (below d) (omega arith) r _) (tt, tt))
      place_good d h p t (Field' _ b n) pc = along _ _ pc (place_one_good (below d) (omega arith) b pc) (tt, tt)

      pub place_one_good : (d : ℕ) → 1 ≤ d → (b : Row_of-TPlace 1) (pc : ℕ) → Good code pc (place_one_code lss d pc b)
      place_one_good d h (more_of-TPlace q u c rest) pc = place_good d h q u c pc

      pub one_good : (d : ℕ) → 1 ≤ d → (e : Row_of-TExpr 1) (pc : ℕ) → Good code pc (one_code lss d pc e)
      one_good d h (more_of-TExpr q u c rest) pc = expr_good d h q u c pc

      pub all_good : {m : _} (d : ℕ) → 1 ≤ d → (es : Row_of-TExpr m) (pc : ℕ) → Good code pc (exprs_code lss d pc es)
      all_good d h end_of-TExpr pc = tt
      all_good d h (more_of-TExpr q u c rest) pc = along _ _ pc (expr_good d h q u c pc) (all_good d h rest _)

  module _ (k : Coding) where
    whole_good : (d : ℕ) → 1 ≤ d → (e : TExpr) (pc : ℕ) → Good code pc (whole_code k d pc e)
    whole_good d h e pc = expr_good k.structs d h e.spot e.ty e.node pc

    leaves_good : (p : Spot) (ns : List ℕ) (pc : ℕ) → Good code pc (leave_code p ns)
    leaves_good p [] pc = tt
    leaves_good p (n ∷ ns) pc = (tt, leaves_good p ns (pc + 1))

    init_good : (d : ℕ) → 1 ≤ d → (p : Spot) (n : ℕ) (u : CType) (o : Option TExpr) (pc : ℕ) → Good code pc (init_code k d pc p n u o)
    init_good d h p n u None pc = tt
    init_good d h p n u (Some e) pc = (tt, along _ _ _ (whole_good d h e (pc + 1)) (tt, tt))

    start_good : (d : ℕ) → 1 ≤ d → (n : TDeclared) (o : Option SlotType) (pc : ℕ) → Good code pc (start_code k d pc n o)
    start_good d h n None pc = tt
    start_good d h n (Some t) pc = init_good d h n.spot n.slot t.ty n.init pc

    declares_good : (d : ℕ) → 1 ≤ d → (ns : List TDeclared) (pc : ℕ) → Good code pc (declares_code k d pc ns)
    declares_good d h [] pc = tt
    declares_good d h (n ∷ ns) pc = along (declare_code k d pc n) _ pc (tt, start_good d h n _ (pc + 1)) (declares_good d h ns _)

    express_good : (d : ℕ) → 1 ≤ d → (p : Spot) (e : TExpr) (pc : ℕ) → Good code pc (express_code k d pc p e)
    express_good d h p e pc = along _ _ pc (whole_good d h e pc) (tt, tt)

    header_good : (d : ℕ) → 1 ≤ d → (p : Spot) (i : TForInit) (pc : ℕ) → Good code pc (header_code k d pc p i)
    header_good d h p NoInit pc = tt
    header_good d h p (InitDeclare ns) pc = declares_good d h ns pc
    header_good d h p (InitExpress e) pc = express_good d h p e pc

    advance_good : (d : ℕ) → 1 ≤ d → (p : Spot) (o : Option TExpr) (pc : ℕ) → Good code pc (advance_code k d pc p o)
    advance_good d h p None pc = tt
    advance_good d h p (Some e) pc = express_good d h p e pc

    test_good : (d : ℕ) → 1 ≤ d → (z : ℕ) (e : TExpr) (pc : ℕ) → ((i : ℕ) → i < pc + length (test_code k d pc z e) → Leads code i z) → Good code pc (test_code k d pc z e)
    test_good d h z e pc f = along _ _ pc (whole_good d h e pc) (f _ (omega (arith, length-append (whole_code k d pc e) (line e.spot (JumpZero z) ∷ []))), tt)

    test_or_good : (d : ℕ) → 1 ≤ d → (z : ℕ) (o : Option TExpr) (pc : ℕ) → ((i : ℕ) → i < pc + length (test_or_code k d pc z o) → Leads code i z) → Good code pc (test_or_code k d pc z o)
    test_or_good d h z None pc f = tt
    test_or_good d h z (Some e) pc f = test_good d h z e pc f

    back_good : (d : ℕ) → 1 ≤ d → (p : Spot) (o : Option TExpr) (pc : ℕ) → Good code pc (back_code k d pc p o)
    back_good d h p None pc = (tt, tt)
    back_good d h p (Some e) pc = along _ _ pc (whole_good d h e pc) (tt, tt)

    -- the code of a way out is good wherever it stands before the end of its loop
    abbrev Exits : ℕ → List Line → Type 0
    Exits end x = (q : ℕ) → q + length x ≤ end → Good code q x

    loop_good : (p : Spot) (pc : ℕ) (b v t : List Line) → HasAt code pc (loop_code p pc b v t) → ((i : ℕ) → Leads code i (pc + 1 + 1 + 1)) → (((i : ℕ) → i < pc + 1 + 1 + 1 + 1 + length b + length v + length t → Leads code i (pc + 1)) → ((i : ℕ) → i < pc + 1 + 1 + 1 + 1 + length b → Leads code i (pc + 1 + 1)) → Good code (pc + 1 + 1 + 1 + 1) b × Good code (pc + 1 + 1 + 1 + 1 + length b) v × Good code (pc + 1 + 1 + 1 + 1 + length b + length v) t) → Good code pc (loop_code p pc b v t)
    loop_good p pc b v t has step f =
        let g = f (λ i less. past p _ has.1.0 (omega arith)) (λ i less. past p _ has.1.1.0 (omega arith)) in
        (ahead (omega arith), (ahead (omega arith), (ahead (omega arith), (tt, along b _ _ g.0 (along v _ _ g.1 (along t _ _ g.2 (step _, tt)))))))

    mutual
      pub node_good : (d : ℕ) → 1 ≤ d → (end : ℕ) (x y : List Line) → Exits end x → Exits end y → (p : Spot) (e : TStmtNode) (pc : ℕ) → pc + length (node_code k d x y pc p e) ≤ end → HasAt code pc (node_code k d x y pc p e) → Good code pc (node_code k d x y pc p e)
      node_good d h end x y gx gy p Empty pc le has = tt
      node_good d h end x y gx gy p (Declare ns) pc le has = declares_good d h ns pc
      node_good d h end x y gx gy p (Express e) pc le has = express_good d h p e pc
      node_good d h end x y gx gy p (Block' _ ss) pc le has = stmts_good d h end x y gx gy p [] ss pc le has
      node_good d h end x y gx gy p (If' c _ u o) pc le has =
          let t = whole_code k d pc c in let a = part_code k d x y (pc + length t + 1) u in
          let b = other_code k d x y (pc + length t + 1 + length a + 1) o in
          let has1 = has_back code pc t _ has in
          let has2 = has_back code (pc + length t + 1) a _ has1.1 in
          let l1 = length-append t (line c.spot (JumpZero (pc + length t + 1 + length a + 1)) ∷ (a ++ (line c.spot (Jump (pc + length t + 1 + length a + 1 + length b)) ∷ b))) in
          let l2 = length-append a (line c.spot (Jump (pc + length t + 1 + length a + 1 + length b)) ∷ b) in
          if_good c.spot pc t a b (whole_good d h c pc) (part_good d h end x y gx gy u (pc + length t + 1) (omega arith) (has_front code _ a _ has1.1)) (other_good d h end x y gx gy o (pc + length t + 1 + length a + 1) (omega arith) has2.1)
      node_good d h end x y gx gy p (OblivIf' c _ u o) pc le has =
          let t = whole_code k d pc c in let x1 = line p EndWhen ∷ x in let y1 = line p EndWhen ∷ y in
          let a = part_code k d x1 y1 (pc + length t + 1) u in
          let b = other_code k d x1 y1 (pc + length t + 1 + length a + 1) o in
          let has1 = has_back code pc t _ has in
          let has2 = has_back code (pc + length t + 1) a _ has1.1 in
          let l1 = length-append t (line c.spot When ∷ (a ++ (line c.spot Otherwise ∷ (b ++ line c.spot EndWhen ∷ [])))) in
          let l2 = length-append a (line c.spot Otherwise ∷ (b ++ line c.spot EndWhen ∷ [])) in
          let l3 = length-append b (line c.spot EndWhen ∷ []) in
          let g1 : Exits end x1 = λ q le. (tt, gx (q + 1) (omega arith)) in
          let g2 : Exits end y1 = λ q le. (tt, gy (q + 1) (omega arith)) in
          along t _ pc (whole_good d h c pc) (tt, along a _ _ (part_good d h end x1 y1 g1 g2 u (pc + length t + 1) (omega arith) (has_front code _ a _ has1.1)) (tt, along b _ _ (other_good d h end x1 y1 g1 g2 o (pc + length t + 1 + length a + 1) (omega arith) (has_front code _ b _ has2.1)) (tt, tt)))
      node_good d h end x y gx gy p (AlwaysStmt' n _ u) pc le has =
          let x1 = line p EndAlways ∷ x in let y1 = line p EndAlways ∷ y in let a = part_code k d x1 y1 (pc + 1) u in
          let l1 = length-append a (line p EndAlways ∷ []) in
          let g1 : Exits end x1 = λ q le. (tt, gx (q + 1) (omega arith)) in
          let g2 : Exits end y1 = λ q le. (tt, gy (q + 1) (omega arith)) in
          (tt, along a _ _ (part_good d h end x1 y1 g1 g2 u (pc + 1) (omega arith) (has_front code _ a _ has.1)) (tt, tt))
      node_good d h end x y gx gy p (While' c _ u) pc le has =
          let x1 = line p (Jump (pc + 1)) ∷ [] in let y1 = line p (Jump (pc + 1 + 1)) ∷ [] in
          let b = part_code k d x1 y1 (pc + 1 + 1 + 1 + 1) u in
          loop_good p pc b [] (test_code k d (pc + 1 + 1 + 1 + 1 + length b + 0) (pc + 1) c) has (λ i. to_step p has.1.1.1.0) (λ out on. (
            part_good d h (pc + 1 + 1 + 1 + 1 + length b) x1 y1 (λ q le. (out q (omega arith), tt)) (λ q le. (on q (omega arith), tt)) u (pc + 1 + 1 + 1 + 1) (omega arith) (has_front code _ b _ has.1.1.1.1),
            tt,
            test_good d h (pc + 1) c _ (λ i l. out i l),
          ))
      node_good d h end x y gx gy p (For' i c a _ u) pc le has =
          let o = header_code k d pc p i in let top = pc + length o in
          let x1 = line p (Jump (top + 1)) ∷ [] in let y1 = line p (Jump (top + 1 + 1)) ∷ [] in
          let b = part_code k d x1 y1 (top + 1 + 1 + 1 + 1) u in
          let v = advance_code k d (top + 1 + 1 + 1 + 1 + length b) p a in
          let t = test_or_code k d (top + 1 + 1 + 1 + 1 + length b + length v) (top + 1) c in
          let has1 = has_front code top (loop_code p top b v t) _ (has_back code pc o _ has) in
          along o _ pc (header_good d h p i pc) (along (loop_code p top b v t) _ top
          (loop_good p top b v t has1 (λ i. to_step p has1.1.1.1.0) (λ out on. (
            part_good d h (top + 1 + 1 + 1 + 1 + length b) x1 y1 (λ q le. (out q (omega arith), tt)) (λ q le. (on q (omega arith), tt)) u (top + 1 + 1 + 1 + 1) (omega arith) (has_front code _ b _ has1.1.1.1.1),
            advance_good d h p a _,
            test_or_good d h (top + 1) c _ (λ i l. out i l),
          )))
          (leaves_good p (header_slots i) _))
      node_good d h end x y gx gy p (Return o) pc le has = back_good d h p o pc
      node_good d h end x y gx gy p Break pc le has = gx pc le
      node_good d h end x y gx gy p Continue pc le has = gy pc le

      pub part_good : (d : ℕ) → 1 ≤ d → (end : ℕ) (x y : List Line) → Exits end x → Exits end y → (u : Row_of-TStmt 1) (pc : ℕ) → pc + length (part_code k d x y pc u) ≤ end → HasAt code pc (part_code k d x y pc u) → Good code pc (part_code k d x y pc u)
      part_good d h end x y gx gy (more_of-TStmt q e rest) pc le has =
          let a = node_code k (below d) x y (pc + 1) q e in
          let l1 = length-append a (leave_code q (declared e)) in
          (tt, along a _ _ (node_good (below d) (omega arith) end x y gx gy q e (pc + 1) (omega arith) (has_front code (pc + 1) a _ has.1)) (leaves_good q (declared e) _))

      pub stmts_good : {m : _} (d : ℕ) → 1 ≤ d → (end : ℕ) (x y : List Line) → Exits end x → Exits end y → (p : Spot) (mine : List ℕ) (u : Row_of-TStmt m) (pc : ℕ) → pc + length (stmts_code k d x y p mine pc u) ≤ end → HasAt code pc (stmts_code k d x y p mine pc u) → Good code pc (stmts_code k d x y p mine pc u)
      stmts_good d h end x y gx gy p mine end_of-TStmt pc le has = leaves_good p mine pc
      stmts_good d h end x y gx gy p mine (more_of-TStmt q e rest) pc le has =
          let x1 = leave_code p mine ++ x in let y1 = leave_code p mine ++ y in
          let b = node_code k (below d) x1 y1 (pc + 1) q e in
          let a = line q Step ∷ b in
          let l1 = length-append a (stmts_code k d x y p (declared e ++ mine) (pc + length a) rest) in
          let g1 : Exits end x1 = λ q le. along (leave_code p mine) x q (leaves_good p mine q) (gx (q + length (leave_code p mine)) (omega (arith, length-append (leave_code p mine) x))) in
          let g2 : Exits end y1 = λ q le. along (leave_code p mine) y q (leaves_good p mine q) (gy (q + length (leave_code p mine)) (omega (arith, length-append (leave_code p mine) y))) in
          along a _ pc (tt, node_good (below d) (omega arith) end x1 y1 g1 g2 q e (pc + 1) (omega arith) (has_front code (pc + 1) b _ has.1)) (stmts_good d h end x y gx gy p (declared e ++ mine) rest (pc + length a) (omega arith) (has_back code pc a _ has))

      pub other_good : (d : ℕ) → 1 ≤ d → (end : ℕ) (x y : List Line) → Exits end x → Exits end y → (o : Held-TStmtNode-If-2) (pc : ℕ) → pc + length (other_code k d x y pc o) ≤ end → HasAt code pc (other_code k d x y pc o) → Good code pc (other_code k d x y pc o)
      other_good d h end x y gx gy None' pc le has = tt
      other_good d h end x y gx gy (Some' _ u) pc le has = part_good d h end x y gx gy u pc le has

    end_good : (t : CType) (pc : ℕ) → Good code pc (end_code t)
    end_good (CInt i false) pc = (tt, (tt, tt))
    end_good (CInt i true) pc = (tt, (tt, (tt, tt)))
    end_good (CPointer' f y t) pc = (tt, (tt, tt))
    end_good (CArray' n y t) pc = (tt, tt)
    end_good (Struct n) pc = (tt, tt)
    end_good CNothing pc = (tt, tt)

    -- a function's code
    pub listed_good : (t : CType) (ss : List TStmt) (pc : ℕ) → HasAt code pc (listed_code k t pc ss) → Good code pc (listed_code k t pc ss)
    listed_good t [] pc has = end_good t pc
    listed_good t (s ∷ ss) pc has =
        let b = node_code k 1 (end_code t) (end_code t) (pc + 1) s.spot s.node in
        let a = line s.spot Step ∷ b in
        let one : 1 ≤ 1 = omega arith in
        along a _ pc (tt, node_good 1 one (pc + 1 + length b) (end_code t) (end_code t) (λ q le. end_good t q) (λ q le. end_good t q) s.spot s.node (pc + 1) (omega arith) (has_front code (pc + 1) b _ has.1)) (listed_good t ss (pc + length a) (has_back code pc a _ has))

-- each function of a program
pub functions_good : (lss : List (List CType)) (fs : List TypedFunction) (n : ℕ) (f : CodeFunction) → slice_get (functions_code lss fs) n ≡ Some f → Good f.code 0 f.code
functions_good lss [] n f e = (cc)
functions_good lss (t ∷ ts) zero f e =
    let k : Coding = record { structs = lss; slots = t.slots } in
    let c = listed_code k t.result 0 t.body in
    let q : function_code lss t ≡ f = cc in
    subst (λ f. Good f.code 0 f.code) q (listed_good c k t.result t.body 0 (has_all c []))
functions_good lss (t ∷ ts) (suc n) f e = functions_good lss ts n f e
