-- What a call answers that found its cell, or met a trap.
use Rattle.std.proofs.Common.{◌≡◌, refl, sym, ap, ◌∙◌, List, Result, Ok, Err, true, false, arith}
use Rattle.oc_cells.specs.declared.types.CType.{CType}
use Rattle.oc_cells.specs.declared.memory.Address.{Address}
use Rattle.oc_cells.specs.declared.memory.Address.TheVariants.{Null, At}
use Rattle.oc_cells.specs.declared.memory.CellValue.{CellValue}
use Rattle.oc_cells.specs.declared.memory.Cell.{Cell}
use Rattle.oc_cells.specs.declared.memory.Block.{Block}
use Rattle.oc_cells.specs.declared.trap.TrapKind.{TrapKind}
use Rattle.oc_cells.specs.declared.trap.TrapKind.TheVariants.{M5}
use Rattle.oc_cells.specs.Types.{same, fits}
use Rattle.oc_cells.specs.Memory.{then, only, cell, load, storable, store, put}
use Rattle.block_memory.specs.Content.{further}

pub further_none : (at : Address) → further at 0 ≡ at
further_none Null = refl
further_none (At b i) = ap (At b) (omega arith)

module _ {H : Type 0} (bs now : List (Block H)) (at : Address) (e : bs ≡ now) where
  pub found : {r : Result (Cell H) TrapKind} → cell bs (further at 0) ≡ r → cell now at ≡ r
  found f = ap (cell now) (sym (further_none at)) ∙ ap (λ b. cell b (further at 0)) (sym e) ∙ f

  pub loaded : (leaf l : CType) (c : Cell H) (v : CellValue H) → cell bs (further at 0) ≡ Ok c → l ≡ c.leaf → fits leaf l ≡ true → v ≡ c.value → Ok v ≡ load now at leaf
  loaded leaf l c v f p q u = sym (ap (λ r. then r (λ c. only (fits leaf c.leaf) c.value)) (found f) ∙ ap (λ b. only b c.value) (ap (fits leaf) (sym p) ∙ q) ∙ ap Ok (sym u))

  pub misfit : (leaf l : CType) (c : Cell H) → cell bs (further at 0) ≡ Ok c → l ≡ c.leaf → fits leaf l ≡ false → Err M5 ≡ load now at leaf
  misfit leaf l c f p q = sym (ap (λ r. then r (λ c. only (fits leaf c.leaf) c.value)) (found f) ∙ ap (λ b. only b c.value) (ap (fits leaf) (sym p) ∙ q))

  pub not_loaded : (leaf : CType) (t : TrapKind) → cell bs (further at 0) ≡ Err t → Err t ≡ load now at leaf
  not_loaded leaf t f = sym (ap (λ r. then r (λ c. only (fits leaf c.leaf) c.value)) (found f))

  pub stored : (leaf l : CType) (c : Cell H) → cell bs (further at 0) ≡ Ok c → l ≡ c.leaf → same true leaf l ≡ true → storable now at leaf ≡ Ok tt
  stored leaf l c f p q = ap (λ r. then r (λ c. only (same true leaf c.leaf) tt)) (found f) ∙ ap (λ b. only b tt) (ap (same true leaf) (sym p) ∙ q)

  pub not_same : (leaf l : CType) (c : Cell H) → cell bs (further at 0) ≡ Ok c → l ≡ c.leaf → same true leaf l ≡ false → storable now at leaf ≡ Err M5
  not_same leaf l c f p q = ap (λ r. then r (λ c. only (same true leaf c.leaf) tt)) (found f) ∙ ap (λ b. only b tt) (ap (same true leaf) (sym p) ∙ q)

  pub not_stored : (leaf : CType) (t : TrapKind) → cell bs (further at 0) ≡ Err t → storable now at leaf ≡ Err t
  not_stored leaf t f = ap (λ r. then r (λ c. only (same true leaf c.leaf) tt)) (found f)

pub store_is : {H : Type 0} (bs : List (Block H)) (at : Address) (leaf : CType) (v : CellValue H) {r : Result (Unit {0}) TrapKind} → storable bs at leaf ≡ r → store bs at leaf v ≡ then r (λ _. Ok (put bs at v))
store_is bs at leaf v e = ap (λ r. then r (λ _. Ok (put bs at v))) e
