-- The operations of a walk on values: tests, operators and conversions, public and hidden.
use Rattle.std.specs.Prelude.{ℤ, Result, Ok, Err, Bool, true, false, not, ◌&&◌, ◌||◌}
use Rattle.oc_values.specs.declared.integers.IntKind.{IntKind}
use Rattle.oc_values.specs.declared.integers.IntKind.TheVariants.{Bool as KBool}
use Rattle.oc_values.specs.declared.integers.BinaryOp.{BinaryOp}
use Rattle.oc_values.specs.declared.integers.OneOp.{OneOp}
use Rattle.oc_values.specs.declared.integers.ZeroDivisor.{ZeroDivisor}
use Rattle.oc_values.specs.Integers.{operate_public, kind_of_result, is_zero, convert}
use Rattle.oc_values.specs.Kinds.{same_kind, is_shift, result_kind, operate_one, one_kind}
use Rattle.oc_cells.specs.declared.trap.TrapKind.TheVariants.{Z1}
use Rattle.oc_source.specs.declared.spot.Spot.{Spot}
use Rattle.oc_walk.specs.declared.run.Value.TheVariants.{Int, Hidden}
use Rattle.oc_walk.specs.Domain.{Domain}
use Rattle.oc_walk.specs.Walking.{Act, bind, pure, trap, odd, choose, own}
use Rattle.oc_walk.specs.Cells.{V, M}

module _ (D : Domain) where
  -- a public condition, which is true where its integer isn't 0
  abbrev pub tests : Spot → V D → Act (M D) Bool
  tests p (Int k n) = pure (not (is_zero n))
  tests p _ = odd p

  -- a hidden condition
  abbrev pub condition : Spot → V D → Act (M D) D.Hidden
  condition p (Hidden k h) = choose (same_kind KBool k) (pure h) (odd p)
  condition p _ = odd p

  -- what the domain makes, as a value of the kind
  abbrev pub hidden_of : IntKind → (D.Own → D.Hidden × D.Own) → Act (M D) (V D)
  hidden_of k f = bind (own f) (λ h. pure (Hidden k h))

  -- a public operator with one operand of the kind
  abbrev pub publicly_one : Spot → OneOp → IntKind → V D → Act (M D) (V D)
  publicly_one p op k (Int l n) = choose (same_kind k l) (pure (Int (one_kind op k) (operate_one op k n))) (odd p)
  publicly_one p op k _ = odd p

  -- a hidden operator with one operand of the kind
  abbrev pub hiddenly_one : Spot → OneOp → IntKind → V D → Act (M D) (V D)
  hiddenly_one p op k (Hidden l h) = choose (same_kind k l) (hidden_of k (D.one op k h)) (odd p)
  hiddenly_one p op k _ = odd p

  -- an operator with one operand of the kind, hidden or not
  abbrev pub unaries : Spot → OneOp → IntKind → Bool → V D → Act (M D) (V D)
  unaries p op k hidden v = choose hidden (hiddenly_one p op k v) (publicly_one p op k v)

  -- a public result, or trap Z1
  abbrev pub divided : Spot → IntKind → Result ℤ ZeroDivisor → Act (M D) (V D)
  divided p k (Ok n) = pure (Int k n)
  divided p k (Err z) = trap Z1 p

  -- a public operator with two operands of the kind; a shift's right one may have another
  abbrev pub publicly : Spot → BinaryOp → IntKind → V D → V D → Act (M D) (V D)
  publicly p op k (Int l x) (Int m y) =
      choose (same_kind k l && (is_shift op || same_kind k m)) (divided p (kind_of_result op k) (operate_public op k x y)) (odd p)
  publicly p op k _ _ = odd p

  -- a hidden operator with two operands of the kind; a shift's right one may have another, and may be public
  abbrev pub hiddenly : Spot → BinaryOp → IntKind → V D → V D → Act (M D) (V D)
  hiddenly p op k (Hidden l x) (Hidden m y) =
      choose (same_kind k l && (is_shift op || same_kind k m)) (hidden_of (result_kind op k) (D.binary op k x y)) (odd p)
  hiddenly p op k (Hidden l x) (Int m n) = choose (same_kind k l && is_shift op) (hidden_of k (D.shift op k x n)) (odd p)
  hiddenly p op k _ _ = odd p

  -- an operator with two operands of the kind, hidden or not
  abbrev pub operates : Spot → BinaryOp → IntKind → Bool → V D → V D → Act (M D) (V D)
  operates p op k hidden x y = choose hidden (hiddenly p op k x y) (publicly p op k x y)

  -- a public integer of the kind, or the hidden value that both parties know, where it is lifted
  abbrev pub lifted : IntKind → Bool → ℤ → V D
  lifted to true n = Hidden to (D.known to n)
  lifted to false n = Int to n

  -- a value of the first kind converted to the second; a public one is lifted where the second is hidden
  abbrev pub turns : Spot → IntKind → IntKind → Bool → V D → Act (M D) (V D)
  turns p from to lift (Int l n) = choose (same_kind from l) (pure (lifted to lift (convert n to))) (odd p)
  turns p from to lift (Hidden l h) = choose (same_kind from l) (hidden_of to (D.turn from to h)) (odd p)
  turns p from to lift _ = odd p
