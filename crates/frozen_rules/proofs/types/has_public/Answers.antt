use Rattle.std.proofs.Common.{◌∙◌}
use Rattle.oc_cells.specs.Types.{public_structs}
use Rattle.frozen_rules.proofs.Forms.{held_by, rest_public}
use Rattle.frozen_rules.proofs.types.has_public.Goals as goal

pub returns-in-Int : goal.returns-in-Int
returns-in-Int c = held_by (public_structs c.args.structs.now) c.args.ty.now _ _ c.strip.ensures c.in-Int.is

pub returns-in-Pointer : goal.returns-in-Pointer
returns-in-Pointer c = held_by (public_structs c.args.structs.now) c.args.ty.now _ _ c.strip.ensures c.in-Pointer.is

pub returns-in-Struct : goal.returns-in-Struct
returns-in-Struct c = c.struct_has_public.ensures ∙ held_by (public_structs c.args.structs.now) c.args.ty.now _ _ c.strip.ensures c.in-Struct.is

pub returns-in_default : goal.returns-in_default
returns-in_default c = rest_public (public_structs c.args.structs.now) c.args.ty.now _ c.strip.ensures c.in_default.not-Int c.in_default.not-Pointer c.in_default.not-Struct
