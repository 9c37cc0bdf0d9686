-- Why an assignment or an update at once is that of the walk.
use Rattle.std.proofs.Common.{◌≡◌, ℤ, List, Option, Some, None, Ok, refl, sym, ap, subst, ◌∙◌, Bool, true, false}
use Rattle.std.specs.Prelude.{◌&&◌, if◌then◌else◌}
use Rattle.oc_values.specs.declared.integers.IntKind.{IntKind}
use Rattle.oc_values.specs.declared.integers.BinaryOp.{BinaryOp}
use Rattle.oc_values.specs.Integers.{convert}
use Rattle.oc_values.specs.Kinds.{same_kind}
use Rattle.oc_source.specs.declared.spot.Spot.{Spot}
use Rattle.oc_cells.specs.declared.types.CType.{CType, Int as CInt}
use Rattle.oc_cells.specs.declared.memory.Address.{Address}
use Rattle.oc_cells.specs.declared.memory.CellValue.TheVariants.{Int as CellInt}
use Rattle.oc_cells.specs.Types.{kind_of}
use Rattle.oc_cells.specs.Memory.{load, store}
use Rattle.oc_typed.specs.declared.typed.TExpr.{TExpr}
use Rattle.oc_typed.specs.declared.typed.TExprNode.{Assign, Update}
use Rattle.oc_typed.specs.declared.typed.TPlace.{TPlace}
use Rattle.oc_walk.specs.declared.run.Value.{Value}
use Rattle.oc_walk.specs.declared.run.Value.TheVariants.{Int}
use Rattle.oc_walk.specs.Walking.{Site, Act, Res, Go, after, bind, pure, choose, still, stilled, answered, stores, keeps, deeper, odd}
use Rattle.oc_walk.specs.Cells.{Goal, Only, gets, sets, writes, valued, is_of_kind}
use Rattle.oc_walk.specs.Operations.{turns}
use Rattle.oc_walk.specs.Expressions.{Under, whole, assigns, readied, renewed, turned as walk_turned}
use Rattle.oc_walk.proofs.Views.{assign_at, update_at, old_at}
use Rattle.oc_meanings.specs.Clear.{clear}
use Rattle.clear_actions.specs.Acting.{ClearState, mem_of, state_of}
use Rattle.clear_actions.specs.declared.machine.Machine.{Machine}
use Rattle.clear_glances.specs.Glances.{Tells, TellsPlace, IsHeld, IsOperated}
use Rattle.clear_glances.specs.Writes.{with_blocks, DoesAtOnce, AssignsAtOnce, IsWritten, IsRenewed, turned, work}
use Rattle.clear_glances.proofs.Telling.{itself, alike, computed}

-- a value with the state of a machine
abbrev gives : Value ℤ → Machine → Res ClearState (Value ℤ)
gives v m = Go v (state_of m)

module _ (m new : Machine) where
  module _ (f s : List ℤ) where
    -- a write of an integer of the kind
    put : (p : Spot) (e : Bool) (k : IntKind) (a : Address) (n : ℤ) → is_of_kind k n ≡ true
        → store m.store.blocks.blocks a (CInt k false) (CellInt n) ≡ Ok new.store.blocks.blocks → new ≡ with_blocks m new.store.blocks.blocks
        → still (writes (clear f s) p e (CInt k false) a (Int k n)) (state_of m) ≡ Go (Int k n) (state_of new)
    put p e k a n i d g =
        ap (λ b. still (choose (b && is_of_kind k n) (bind (stores p a (CInt k false) (CellInt n)) (λ _. pure (Int k n))) (odd p)) (state_of m)) (itself k)
        ∙ ap (λ b. still (choose b (bind (stores p a (CInt k false) (CellInt n)) (λ _. pure (Int k n))) (odd p)) (state_of m)) i
        ∙ ap (λ r. stilled (state_of m) (after (after (answered p r (mem_of m.store)) keeps) (λ _. pure (Int k n)))) d
        ∙ ap (λ y. Go (Int k n) (state_of y)) (sym g)

    -- the integer that a cell of the kind holds
    got : (p : Spot) (k : IntKind) (a : Address) (n : ℤ) → load m.store.blocks.blocks a (CInt k false) ≡ Ok (CellInt n)
        → still (gets (clear f s) p (CInt k false) (Only a)) (state_of m) ≡ Go (Int k n) (state_of m)
    got p k a n l = ap (λ r. stilled (state_of m) (after (answered p r (mem_of m.store)) (valued (clear f s) p (CInt k false)))) l

    -- an integer of one kind as one of another
    turned_so : (p : Spot) (k l : IntKind) (n : ℤ) → walk_turned (clear f s) p k l (Int k n) (state_of m) ≡ Go (Int l (turned k l n)) (state_of m)
    turned_so p k l n = by_test (same_kind k l) refl
      where
        by_test : (b : Bool) → same_kind k l ≡ b
            → choose b (pure (Int k n)) (still (turns (clear f s) p k l false (Int k n))) (state_of m) ≡ Go (Int l (if b then n else convert n l)) (state_of m)
        by_test true h = ap (λ j. Go (Int j n) (state_of m)) (alike k l h)
        by_test false h = ap (λ b. still (choose b (pure (Int l (convert n l))) (odd p)) (state_of m)) (itself k)

  -- what the kind and the number are in the end
  ends : (t : CType) (k : IntKind) (n v : ℤ) → t ≡ CInt k false → v ≡ n → gives (Int k n) new ≡ gives (Int (kind_of t) v) new
  ends t k n v h e = ap (λ u. gives (Int (kind_of u) n) new) (sym h) ∙ ap (λ i. gives (Int (kind_of t) i) new) (sym e)

  assigned : (q : TPlace) (e : TExpr) (k l : IntKind) (a : Address) (n v : ℤ) → q.ty ≡ CInt k false → e.ty ≡ CInt l false → same_kind k l ≡ true
      → TellsPlace m q (Some a) → Tells m e (Some n) → IsWritten m q.ty k a n (Some v) new → DoesAtOnce m (Assign q e) q.ty v new
  assigned q e k l a n v h g j d c (i, o, r, t) = (
    λ f s x w p u y.
        let K : Value ℤ → Act ClearState (Value ℤ) = assigns (clear f s) x w.enable q.spot e.spot q.ty (Only a) in
        ap (λ act. act (state_of m)) (assign_at (clear f s) x w p u q e)
        ∙ ap (λ z. after z (λ b. bind (whole (clear f s) (deeper x) w e) (λ v. assigns (clear f s) x w.enable q.spot e.spot q.ty b v))) (d f s (deeper x) w y)
        ∙ ap (λ z. after z K) (c f s (deeper x) w y)
        ∙ ap (λ t. K (Int (kind_of t) n) (state_of m)) g
        ∙ ap (λ b. K (Int b n) (state_of m)) (sym (alike k l j))
        ∙ ap (λ t. assigns (clear f s) x w.enable q.spot e.spot t (Only a) (Int k n) (state_of m)) h
        ∙ put f s q.spot w.enable k a n o (subst (λ t. store m.store.blocks.blocks a t (CellInt n) ≡ Ok new.store.blocks.blocks) h r) t
        ∙ ends q.ty k n v h i,
    t,
  )

  -- the same, whatever the write gave
  pub assigned_so : (q : TPlace) (e : TExpr) (k l : IntKind) (a : Address) (n : ℤ) (r : Option ℤ) → q.ty ≡ CInt k false → e.ty ≡ CInt l false → same_kind k l ≡ true
      → TellsPlace m q (Some a) → Tells m e (Some n) → IsWritten m q.ty k a n r new → AssignsAtOnce m q e r new
  assigned_so q e k l a n None h g j d c w = w
  assigned_so q e k l a n (Some v) h g j d c w = assigned q e k l a n v h g j d c w

  module _ (op : BinaryOp) (q : TPlace) (e : TExpr) (k l : IntKind) (a : Address) (b y z n v : ℤ) (h : q.ty ≡ CInt k false) (g : e.ty ≡ CInt l false)
      (d : TellsPlace m q (Some a)) (c : Tells m e (Some y)) (o : IsHeld m q.ty k a (Some b))
      (j : IsOperated (work op k l) op (work op k l) l (turned k (work op k l) b) y (Some z)) (i : n ≡ turned (work op k l) k z) (r : IsWritten m q.ty k a n (Some v) new) where
    loaded : load m.store.blocks.blocks a (CInt k false) ≡ Ok (CellInt b)
    loaded = subst (λ t. load m.store.blocks.blocks a t ≡ Ok (CellInt b)) h o.1

    stored : store m.store.blocks.blocks a (CInt k false) (CellInt n) ≡ Ok new.store.blocks.blocks
    stored = subst (λ t. store m.store.blocks.blocks a t (CellInt n) ≡ Ok new.store.blocks.blocks) h r.2

    module _ (f s : List ℤ) (x : Site) (w : Under (clear f s)) (p : Spot) where
      -- the new value, of the old one and the operand
      renewed_so : renewed (clear f s) x p op (CInt k false) (CInt l false) (Int (work op k l) (turned k (work op k l) b)) (Int l y) (state_of m) ≡ Go (Int k n) (state_of m)
      renewed_so =
          ap (λ c. after c (λ z. walk_turned (clear f s) p (work op k l) k z)) (computed m f s p op (work op k l) (work op k l) l (turned k (work op k l) b) y z j.0 j.1 j.2)
          ∙ turned_so f s p (work op k l) k z
          ∙ ap (λ i. Go (Int k i) (state_of m)) (sym i)

      -- an update from its read on
      abbrev rest : CType → CType → Goal ℤ → Value ℤ → Act ClearState (Value ℤ)
      rest t u g v = bind (still (gets (clear f s) q.spot t g)) (λ o. bind (readied (clear f s) p op t u o) (λ y. bind (renewed (clear f s) x p op t u y v) (λ z. still (sets (clear f s) q.spot w.enable t g z))))

      -- one whose value is the old one
      abbrev reads_first : CType → CType → Goal ℤ → Act ClearState (Value ℤ)
      reads_first t u g =
          bind (still (gets (clear f s) q.spot t g)) (λ old. bind (still (gets (clear f s) q.spot t g)) (λ o. bind (readied (clear f s) p op t u o) (λ y. bind (whole (clear f s) (deeper x) w e) (λ v.
          bind (renewed (clear f s) x p op t u y v) (λ z. bind (still (sets (clear f s) q.spot w.enable t g z)) (λ _. pure old))))))

      abbrev last : Value ℤ → Act ClearState (Value ℤ)
      last z = still (sets (clear f s) q.spot w.enable (CInt k false) (Only a) z)

      rest_so : rest (CInt k false) (CInt l false) (Only a) (Int l y) (state_of m) ≡ Go (Int k n) (state_of new)
      rest_so =
          ap (λ c. after c (λ o. bind (readied (clear f s) p op (CInt k false) (CInt l false) o) (λ u. bind (renewed (clear f s) x p op (CInt k false) (CInt l false) u (Int l y)) last))) (got f s q.spot k a b loaded)
          ∙ ap (λ c. after c (λ u. bind (renewed (clear f s) x p op (CInt k false) (CInt l false) u (Int l y)) last)) (turned_so f s p k (work op k l) b)
          ∙ ap (λ c. after c last) renewed_so
          ∙ put f s q.spot w.enable k a n r.1 stored r.3

    updated : DoesAtOnce m (Update op q e false) q.ty n new
    updated = (
      λ f s x w p u t.
          ap (λ act. act (state_of m)) (update_at (clear f s) x w p u op q e)
          ∙ ap (λ z. after z (λ g. bind (whole (clear f s) (deeper x) w e) (λ v. rest f s x w p q.ty e.ty g v))) (d f s (deeper x) w t)
          ∙ ap (λ z. after z (λ v. rest f s x w p q.ty e.ty (Only a) v)) (c f s (deeper x) w t)
          ∙ ap (λ t. rest f s x w p t e.ty (Only a) (Int (kind_of e.ty) y) (state_of m)) h
          ∙ ap (λ t. rest f s x w p (CInt k false) t (Only a) (Int (kind_of t) y) (state_of m)) g
          ∙ rest_so f s x w p
          ∙ ends q.ty k n n h refl,
      r.3,
    )

    -- one whose value is the old one reads first
    updated_old : DoesAtOnce m (Update op q e true) q.ty b new
    updated_old = (
      λ f s x w p u t.
          let sets_last : Value ℤ → Act ClearState (Value ℤ) = (λ z. bind (still (sets (clear f s) q.spot w.enable (CInt k false) (Only a) z)) (λ _. pure (Int k b))) in
          let ready : Value ℤ → Act ClearState (Value ℤ) = (λ y. bind (whole (clear f s) (deeper x) w e) (λ v. bind (renewed (clear f s) x p op (CInt k false) (CInt l false) y v) sets_last)) in
          let moved : Value ℤ → Act ClearState (Value ℤ) = (λ v. bind (renewed (clear f s) x p op (CInt k false) (CInt l false) (Int (work op k l) (turned k (work op k l) b)) v) sets_last) in
          ap (λ act. act (state_of m)) (old_at (clear f s) x w p u op q e)
          ∙ ap (λ z. after z (λ g. reads_first f s x w p q.ty e.ty g)) (d f s (deeper x) w t)
          ∙ ap (λ t. reads_first f s x w p t e.ty (Only a) (state_of m)) h
          ∙ ap (λ t. reads_first f s x w p (CInt k false) t (Only a) (state_of m)) g
          ∙ ap (λ c. after c (λ old. bind (still (gets (clear f s) q.spot (CInt k false) (Only a))) (λ o. bind (readied (clear f s) p op (CInt k false) (CInt l false) o) (λ y. bind (whole (clear f s) (deeper x) w e) (λ v.
          bind (renewed (clear f s) x p op (CInt k false) (CInt l false) y v) (λ z. bind (still (sets (clear f s) q.spot w.enable (CInt k false) (Only a) z)) (λ _. pure old))))))) (got f s q.spot k a b loaded)
          ∙ ap (λ c. after c (λ o. bind (readied (clear f s) p op (CInt k false) (CInt l false) o) ready)) (got f s q.spot k a b loaded)
          ∙ ap (λ c. after c ready) (turned_so f s p k (work op k l) b)
          ∙ ap (λ c. after c moved) (c f s (deeper x) w t)
          ∙ ap (λ t. moved (Int (kind_of t) y) (state_of m)) g
          ∙ ap (λ c. after c sets_last) (renewed_so f s x w p)
          ∙ ap (λ c. after c (λ _. pure (Int k b))) (put f s q.spot w.enable k a n r.1 stored r.3)
          ∙ ends q.ty k b b h refl,
      r.3,
    )

  pub update_so : (op : BinaryOp) (q : TPlace) (e : TExpr) (k l : IntKind) (a : Address) (b y n v : ℤ) → q.ty ≡ CInt k false → e.ty ≡ CInt l false
      → TellsPlace m q (Some a) → Tells m e (Some y) → IsHeld m q.ty k a (Some b) → IsRenewed op k l b y (Some n) → IsWritten m q.ty k a n (Some v) new
      → (old : Bool) → DoesAtOnce m (Update op q e old) q.ty (if old then b else n) new
  update_so op q e k l a b y n v h g d c o (z, j, i) r true = updated_old op q e k l a b y z n v h g d c o j i r
  update_so op q e k l a b y n v h g d c o (z, j, i) r false = updated op q e k l a b y z n v h g d c o j i r
