use Rattle.std.proofs.Common.{ap}
use Rattle.std.specs.Prelude.{nat_le}
use Rattle.type_rules.specs.declared.judging.TypeRule.TheVariants.{T11}
use Rattle.type_rules.specs.Judging.{needs}
use Rattle.type_rules.specs.Written.{starred, arrays, are_lengths, cells_of}
use Rattle.type_steps.proofs.Steps.{said_as}
use Rattle.written_types.specs.Known.{lookup}
use Rattle.written_types.proofs.Room.{room_so, lengths_so}
use Rattle.written_types.proofs.written.need_room.Goals as goal

pub returns-clause-room : goal.returns-clause-room
returns-clause-room c =
    said_as (ap (λ b. needs c.args.field.now.base.spot T11 b) (room_so _ _ _ _ _ _ c.have_room-room.ensures c.as_slice.ensures c.element_cells-each.ensures)) c.needs.ensures

pub returns-clause-lengths : goal.returns-clause-lengths
returns-clause-lengths c =
    let f = c.args.field.now in
    lengths_so f.base.spot (are_lengths f.dims) (nat_le (cells_of (lookup c.args.known.now) (arrays f.dims (starred f.base.frozen f.stars c.args.base.now))) 65536) c.needs.result
    (said_as (ap (λ b. needs f.base.spot T11 b) (room_so _ _ _ _ _ _ c.have_room-room.ensures c.as_slice.ensures c.element_cells-each.ensures)) c.needs.ensures)
