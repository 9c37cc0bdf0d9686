-- What a glance at a node tells, from what glances at its parts tell.
use Rattle.std.proofs.Common.{ℕ, ◌≡◌, ℤ, List, Option, Some, None, Ok, refl, sym, ap, subst, ◌∙◌, Bool, true, false}
use Rattle.std.specs.Prelude.{◌||◌, ◌&&◌, if◌then◌else◌}
use Rattle.oc_values.specs.declared.integers.IntKind.{IntKind}
use Rattle.oc_values.specs.declared.integers.IntKind.TheVariants as kind
use Rattle.oc_values.specs.declared.integers.BinaryOp.{BinaryOp}
use Rattle.oc_values.specs.Integers.{operate_public, kind_of_result, convert}
use Rattle.oc_values.specs.Kinds.{same_kind, is_shift}
use Rattle.oc_source.specs.declared.spot.Spot.{Spot}
use Rattle.oc_cells.specs.declared.types.CType.{CType, Int as CInt, Pointer', Array', Struct, Nothing}
use Rattle.oc_cells.specs.declared.memory.Address.{Address}
use Rattle.oc_cells.specs.declared.memory.CellValue.TheVariants.{Int as CellInt, Pointer as CellPointer}
use Rattle.oc_cells.specs.Types.{kind_of, is_pointer}
use Rattle.oc_cells.specs.Layout.{size_of}
use Rattle.oc_cells.specs.Memory.{load, offset}
use Rattle.oc_typed.specs.declared.typed.TExpr.{TExpr}
use Rattle.oc_typed.specs.declared.typed.TExprNode.{TExprNode, Number, Read, Decay, Binary, Convert}
use Rattle.oc_typed.specs.declared.typed.TPlace.{TPlace}
use Rattle.oc_typed.specs.declared.typed.TPlaceNode.{TPlaceNode, Slot, Index, Field}
use Rattle.oc_typed.specs.Static.{same_spot}
use Rattle.oc_walk.specs.declared.run.Value.TheVariants.{Int, Pointer}
use Rattle.oc_walk.specs.Walking.{Site, Go, after, bind, pure, choose, still, stilled, answered, deeper, ahead, odd}
use Rattle.oc_walk.specs.Cells.{Only, fetches, moves, valued, variable}
use Rattle.oc_walk.specs.Operations.{operates, divided}
use Rattle.oc_walk.specs.Expressions.{Under, whole, converted, solely}
use Rattle.oc_walk.proofs.Views.{binary_at, convert_at, index_at, field_at}
use Rattle.oc_meanings.specs.Clear.{clear}
use Rattle.clear_actions.specs.Acting.{mem_of, state_of}
use Rattle.clear_actions.specs.declared.machine.Machine.{Machine}
use Rattle.clear_glances.specs.Glances.{Tells, TellsNode, TellsPointer, TellsLink, TellsPlace, TellsPlaceNode, Fits, IsOperated, IsEntered, IsHeld, IsLinked, IsMoved}

pub itself : (k : IntKind) → same_kind k k ≡ true
itself kind.Bool = refl
itself kind.I8 = refl
itself kind.U8 = refl
itself kind.I16 = refl
itself kind.U16 = refl
itself kind.I32 = refl
itself kind.U32 = refl
itself kind.I64 = refl
itself kind.U64 = refl

or_true : (a b : Bool) → b ≡ true → (a || b) ≡ true
or_true true b h = refl
or_true false b h = h

-- kinds that are the same
pub alike : (k l : IntKind) → same_kind k l ≡ true → k ≡ l
alike kind.Bool kind.Bool h = refl
alike kind.I8 kind.I8 h = refl
alike kind.U8 kind.U8 h = refl
alike kind.I16 kind.I16 h = refl
alike kind.U16 kind.U16 h = refl
alike kind.I32 kind.I32 h = refl
alike kind.U32 kind.U32 h = refl
alike kind.I64 kind.I64 h = refl
alike kind.U64 kind.U64 h = refl
alike _ _ h = cc

-- what an operator gives, where it fits
pub operated_so : (k : IntKind) (op : BinaryOp) (l r : IntKind) (x y n : ℤ) (o : Option ℤ) → same_kind l r ≡ true → same_kind (kind_of_result op l) k ≡ true → operate_public op l x y ≡ Ok n → Fits n o → IsOperated k op l r x y o
operated_so k op l r x y n None h g e d = tt
operated_so k op l r x y n (Some v) h g e d = (h, alike (kind_of_result op l) k g, e ∙ ap (λ i. Ok i) d)

module _ (m : Machine) where
  -- an expression of a public kind with this node
  pub tells_node : (e : TExpr) {n : TExprNode} {k : IntKind} (r : Option ℤ) → e.ty ≡ CInt k false → e.node ≡ n → TellsNode m k n r → Tells m e r
  tells_node e None t h d = tt
  tells_node e (Some v) t h d = λ f s x w q. rw (t, h) (d e.spot f s x w q)

  -- a place with this node
  pub tells_place : (q : TPlace) {n : TPlaceNode} (r : Option Address) → q.node ≡ n → TellsPlaceNode m q.ty n r → TellsPlace m q r
  tells_place q None h d = tt
  tells_place q (Some a) h d = λ f s x w g. rw h (d q.spot f s x w g)

  -- an expression with this node, of any type
  pub tells_link : (e : TExpr) {n : TExprNode} (r : Option Address) → e.node ≡ n → TellsLink m n r → TellsPointer m e r
  tells_link e None h d = tt
  tells_link e (Some a) h d = λ f s x w g. rw h (d e.spot e.ty f s x w g)

  pub number_tells : (k : IntKind) (n : ℤ) (r : Option ℤ) → Fits n r → TellsNode m k (Number n) r
  number_tells k n None d = tt
  number_tells k n (Some v) d = λ p f s x w g. ap (λ i. Go (Int k i) (state_of m)) d

  module _ (f s : List ℤ) where
    fetched : (p : Spot) (t : CType) (k : IntKind) (a : Address) (n : ℤ) → t ≡ CInt k false → load m.store.blocks.blocks a t ≡ Ok (CellInt n) → still (fetches (clear f s) p t (Only a)) (state_of m) ≡ Go (Int k n) (state_of m)
    fetched p t k a n h l =
        ap (λ u. still (fetches (clear f s) p u (Only a)) (state_of m)) h
        ∙ ap (λ r. stilled (state_of m) (after (answered p r (mem_of m.store)) (valued (clear f s) p (CInt k false)))) (subst (λ u. load m.store.blocks.blocks a u ≡ Ok (CellInt n)) h l)

    linked : (p : Spot) (t : CType) (a b : Address) → is_pointer t ≡ true → load m.store.blocks.blocks a t ≡ Ok (CellPointer b) → still (fetches (clear f s) p t (Only a)) (state_of m) ≡ Go (Pointer b) (state_of m)
    linked p (CInt k o) a b h l = cc
    linked p (Pointer' z y u) a b h l = ap (λ r. stilled (state_of m) (after (answered p r (mem_of m.store)) (valued (clear f s) p (Pointer' z y u)))) l
    linked p (Array' n y u) a b h l = cc
    linked p (Struct n) a b h l = cc
    linked p Nothing a b h l = cc

    -- an operator on two integers of one kind
    pub computed : (p : Spot) (op : BinaryOp) (k l r : IntKind) (v z n : ℤ) → same_kind l r ≡ true → kind_of_result op l ≡ k → operate_public op l v z ≡ Ok n
        → still (operates (clear f s) p op l false (Int l v) (Int r z)) (state_of m) ≡ Go (Int k n) (state_of m)
    computed p op k l r v z n h g e =
        ap (λ b. still (choose (b && (is_shift op || same_kind l r)) (divided (clear f s) p (kind_of_result op l) (operate_public op l v z)) (odd p)) (state_of m)) (itself l)
        ∙ ap (λ b. still (choose b (divided (clear f s) p (kind_of_result op l) (operate_public op l v z)) (odd p)) (state_of m)) (or_true (is_shift op) (same_kind l r) h)
        ∙ ap (λ o. still (divided (clear f s) p (kind_of_result op l) o) (state_of m)) e
        ∙ ap (λ i. Go (Int i n) (state_of m)) g

  pub read_tells : (k : IntKind) (q : TPlace) (a : Address) (r : Option ℤ) → TellsPlace m q (Some a) → IsHeld m q.ty k a r → TellsNode m k (Read q) r
  read_tells k q a None d g = tt
  read_tells k q a (Some n) d g = λ p f s x w h.
      ap (λ z. after z (λ c. still (fetches (clear f s) q.spot q.ty c))) (d f s (deeper x) w h) ∙ fetched f s q.spot q.ty k a n g.0 g.1

  pub link_tells : (q : TPlace) (a : Address) (r : Option Address) → TellsPlace m q (Some a) → IsLinked m q.ty a r → TellsLink m (Read q) r
  link_tells q a None d g = tt
  link_tells q a (Some b) d g = λ p t f s x w h.
      ap (λ z. after z (λ c. still (fetches (clear f s) q.spot q.ty c))) (d f s (deeper x) w h) ∙ linked f s q.spot q.ty a b g.0 g.1

  pub decay_tells : (q : TPlace) (r : Option Address) → TellsPlace m q r → TellsLink m (Decay q) r
  decay_tells q None d = tt
  decay_tells q (Some a) d = λ p t f s x w h.
      ap (λ z. after z (λ c. bind (solely (clear f s) q.spot c) (λ b. pure (Pointer b)))) (d f s (deeper x) w h)

  pub binary_tells : (k : IntKind) (op : BinaryOp) (a b : TExpr) (l r : IntKind) (v z : ℤ) (o : Option ℤ) → a.ty ≡ CInt l false → b.ty ≡ CInt r false
      → Tells m a (Some v) → Tells m b (Some z) → IsOperated k op l r v z o → TellsNode m k (Binary op a b) o
  binary_tells k op a b l r v z None t u d e g = tt
  binary_tells k op a b l r v z (Some n) t u d e g = λ p f s x w h.
      ap (λ act. act (state_of m)) (binary_at (clear f s) x w p (CInt k false) op a b)
      ∙ ap (λ c. after c (λ y. bind (whole (clear f s) (deeper x) w b) (λ c. still (operates (clear f s) p op (kind_of a.ty) false y c)))) (d f s (deeper x) w h)
      ∙ ap (λ c. after c (λ c. still (operates (clear f s) p op (kind_of a.ty) false (Int (kind_of a.ty) v) c))) (e f s (deeper x) w h)
      ∙ ap (λ y. still (operates (clear f s) p op (kind_of y) false (Int (kind_of y) v) (Int (kind_of b.ty) z)) (state_of m)) t
      ∙ ap (λ y. still (operates (clear f s) p op l false (Int l v) (Int (kind_of y) z)) (state_of m)) u
      ∙ computed f s p op k l r v z n g.0 g.1 g.2

  pub convert_tells : (k : IntKind) (a : TExpr) (v : ℤ) (o : Option ℤ) → Tells m a (Some v) → Fits (convert v k) o → TellsNode m k (Convert a) o
  convert_tells k a v None d g = tt
  convert_tells k a v (Some n) d g = λ p f s x w h.
      ap (λ act. act (state_of m)) (convert_at (clear f s) x w p (CInt k false) a)
      ∙ ap (λ c. after c (λ y. converted (clear f s) p a.ty (CInt k false) y)) (beside p f s x w h (same_spot p a.spot))
      ∙ ap (λ b. still (choose b (pure (Int k (convert v k))) (odd p)) (state_of m)) (itself (kind_of a.ty))
      ∙ ap (λ i. Go (Int k i) (state_of m)) g
    where
      beside : (p : Spot) (f s : List ℤ) (x : Site) (w : Under (clear f s)) → x.run.structs ≡ m.store.blocks.structs → (b : Bool)
          → whole (clear f s) (if b then x else deeper x) w a (state_of m) ≡ Go (Int (kind_of a.ty) v) (state_of m)
      beside p f s x w h true = d f s x w h
      beside p f s x w h false = d f s (deeper x) w h

  pub slot_tells : (t : CType) (n : ℕ) (r : Option Address) → IsEntered m n r → TellsPlaceNode m t (Slot n) r
  slot_tells t n None d = tt
  slot_tells t n (Some a) d = λ p f s x w h.
      ap (λ o. after (variable (clear f s) p o (state_of m)) (λ c. pure (Only c))) d.1 ∙ ap (λ c. Go (Only c) (state_of m)) (sym d.2)

  pub element_tells : (t : CType) (a b : TExpr) (k : IntKind) (from : Address) (n : ℤ) (r : Option Address) → b.ty ≡ CInt k false → TellsPointer m a (Some from) → Tells m b (Some n)
      → IsMoved m t k from n r → TellsPlaceNode m t (Index a b) r
  element_tells t a b k from n None u d e g = tt
  element_tells t a b k from n (Some to) u d e g = λ p f s x w h.
      ap (λ act. act (state_of m)) (index_at (clear f s) x w p t a b)
      ∙ ap (λ c. after c (λ y. bind (whole (clear f s) (deeper x) w b) (λ z. bind (still (moves (clear f s) p (size_of x.run.structs t) false y z)) (λ c. pure (Only c))))) (d f s (deeper x) w h)
      ∙ ap (λ c. after c (λ z. bind (still (moves (clear f s) p (size_of x.run.structs t) false (Pointer from) z)) (λ c. pure (Only c)))) (e f s (deeper x) w h)
      ∙ ap (λ y. bind (still (moves (clear f s) p (size_of x.run.structs t) false (Pointer from) (Int (kind_of y) n))) (λ c. pure (Only c)) (state_of m)) u
      ∙ ap (λ l. bind (still (moves (clear f s) p (size_of l t) false (Pointer from) (Int k n))) (λ c. pure (Only c)) (state_of m)) h
      ∙ ap (λ b. bind (still (λ z. choose b (answered p (offset z.blocks from n (size_of m.store.blocks.structs t))) (odd p) z)) (λ c. pure (Only c)) (state_of m)) g.0
      ∙ ap (λ o. after (stilled (state_of m) (answered p o (mem_of m.store))) (λ c. pure (Only c))) g.1

  pub field_tells : (t : CType) (q : TPlace) (n : ℕ) (a b : Address) → TellsPlace m q (Some a) → b ≡ ahead n a → TellsPlaceNode m t (Field q n) (Some b)
  field_tells t q n a b d e = λ p f s x w h.
      ap (λ act. act (state_of m)) (field_at (clear f s) x w p t q n)
      ∙ ap (λ z. after z (λ g. bind (solely (clear f s) p g) (λ c. pure (Only (ahead n c))))) (d f s (deeper x) w h)
      ∙ ap (λ c. Go (Only c) (state_of m)) (sym e)
