-- Frozen places and values: the facts of a scope, which places are frozen in it, and what may not be done with them.
use Rattle.std.specs.Prelude.{ℕ, List, [], ◌∷◌, Bool, true, false, ◌&&◌, ◌||◌, not, Option, Some, None, slice_get}
use Rattle.oc_cells.specs.declared.types.CType.{CType, Pointer', Struct}
use Rattle.oc_cells.specs.declared.types.SlotType.{SlotType}
use Rattle.oc_cells.specs.Types.{same, is_pointer, is_frozen_pointer, target, holds_public, holds_public_row, freeze}
use Rattle.oc_cells.specs.Layout.{leaves_in}
use Rattle.oc_typed.specs.declared.typed.TExprNode.{TExprNode, Read', AddressOf', Decay', PointerStep', Row_of-TExpr, more_of-TExpr}
use Rattle.oc_typed.specs.declared.typed.TPlaceNode.{TPlaceNode, Slot, Deref', Index', Field', Row_of-TPlace, more_of-TPlace}
use Rattle.oc_typed.specs.declared.typed.TypedFunction.{TypedFunction}
use Rattle.oc_typed.specs.Visible.{is_among}
use Rattle.oc_typing.specs.Rules.{is_null}
use Rattle.oc_typing.specs.Typed.{Context}

-- the facts of a scope
pub record Facts : Type 0 where
  -- whether it is hidden, and which slots are those of variables outside
  pub hidden : Bool
  pub outside : ℕ → Bool
  -- whether a part of an `obliv if` or a `~obliv` block holds it, and whether a loop does inside of the innermost one
  pub parted : Bool
  pub loop : Bool

-- those of a function's body, which is hidden where the function is marked, and has no variable outside
abbrev pub of_body : Bool → Facts
of_body marked = record { hidden = marked; outside = λ n. false; parted = false; loop = false }

-- those of a part of an `obliv if`: hidden, and all variables that are visible at its start are outside
abbrev pub of_part : List ℕ → Facts
of_part vis = record { hidden = true; outside = λ n. is_among vis n; parted = true; loop = false }

-- those of a `~obliv` block: not hidden, and no variable is outside
abbrev pub of_always : Facts
of_always = record { hidden = false; outside = λ n. false; parted = true; loop = false }

-- those of a loop's body: as around the loop
abbrev pub in_loop : Facts → Facts
in_loop w = record w { loop = true }

-- whether a variable was declared frozen, if it is there
abbrev pub declared_frozen : Option SlotType → Bool
declared_frozen None = false
declared_frozen (Some s) = s.frozen

-- the type of a value in a scope: the frozen form where it comes from a frozen place
abbrev pub type_here : List Bool → Bool → CType → CType
type_here public true t = freeze public t
type_here public false t = t

abbrev mutual
  -- whether a place is frozen in a scope: a variable that is outside of a hidden one or declared frozen, what a frozen
  -- pointer leads to, or a field of a frozen place; an element of a frozen array is reached through its decay
  pub is_frozen : Context → Facts → TPlaceNode → Bool
  is_frozen g w (Slot n) = (w.hidden && w.outside n) || declared_frozen (slice_get g.slots n)
  is_frozen g w (Deref' _ e) = leads_frozen g w e
  is_frozen g w (Index' _ l _ r) = leads_frozen g w l
  is_frozen g w (Field' _ b n) = is_frozen_one g w b

  -- the same of a row's only place
  pub is_frozen_one : Context → Facts → Row_of-TPlace 1 → Bool
  is_frozen_one g w (more_of-TPlace q u c rest) = is_frozen g w c

  -- whether a value comes from a frozen place: it is read from one, its address or its decay, or a step from such a pointer
  pub from_frozen : Context → Facts → TExprNode → Bool
  from_frozen g w (Read' q u c) = is_frozen g w c
  from_frozen g w (AddressOf' q u c) = is_frozen g w c
  from_frozen g w (Decay' q u c) = is_frozen g w c
  from_frozen g w (PointerStep' _ l _ r back first) = from_frozen_one g w l
  from_frozen g w _ = false

  -- the same of a row's only expression
  pub from_frozen_one : Context → Facts → Row_of-TExpr 1 → Bool
  from_frozen_one g w (more_of-TExpr q u c rest) = from_frozen g w c

  -- whether a row's only expression is a frozen pointer in a scope
  pub leads_frozen : Context → Facts → Row_of-TExpr 1 → Bool
  leads_frozen g w (more_of-TExpr q u c rest) = is_frozen_pointer (type_here g.public (from_frozen g w c) u)

-- whether a pointer of the first type becomes an unfrozen one, while it is frozen or what it leads to has another type
abbrev pub unfreezes : CType → CType → Bool
unfreezes from to =
    is_pointer from && not (is_null from) && is_pointer to && not (is_frozen_pointer to)
    && (is_frozen_pointer from || not (same true (target from) (target to)))

-- whether a type is an unfrozen pointer to public data
abbrev pub is_loose : List Bool → CType → Bool
is_loose public (Pointer' f u t) = not f && holds_public_row public t
is_loose public _ = false

-- whether one of these types is
abbrev pub some_loose : List Bool → List CType → Bool
some_loose public [] = false
some_loose public (t ∷ ts) = is_loose public t || some_loose public ts

-- whether a value of the first type loses its freezing where it comes to the second: a pointer is unfrozen, or a struct that
-- comes from a frozen place contains an unfrozen pointer to public data
abbrev pub loses : Context → Bool → CType → CType → Bool
loses g frozen from (Struct n) = frozen && some_loose g.public (leaves_in g.structs (Struct n))
loses g frozen from to = unfreezes (type_here g.public frozen from) to

-- whether a row's only expression loses its freezing where it comes to a type
abbrev pub loses_one : Context → Facts → Row_of-TExpr 1 → CType → Bool
loses_one g w (more_of-TExpr q u c rest) t = loses g (from_frozen g w c) u t

-- whether a place is frozen and its type holds public data, so that it is never written but by an initialiser
abbrev pub is_kept : Context → Facts → CType → TPlaceNode → Bool
is_kept g w u c = is_frozen g w c && holds_public g.public u

-- whether a function that is there has the mark `obliv`
abbrev pub is_marked : Option TypedFunction → Bool
is_marked None = false
is_marked (Some f) = f.obliv

-- whether a `break` or `continue` leaves a part: no loop stands inside of the innermost one
abbrev pub leaves_part : Facts → Bool
leaves_part w = w.parted && not w.loop
