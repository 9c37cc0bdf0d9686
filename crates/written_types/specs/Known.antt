-- What is known where types are written and expressions stand, as the rules see it.
use Rattle.std.specs.Prelude.{[]}
use Rattle.type_rules.specs.Lookup.{Lookup}
use Rattle.type_rules.specs.Written.{struct_names}
use Rattle.written_types.specs.declared.known.Known.{Known}
use Rattle.written_types.specs.Shapes.{types}

-- what the rules look names up in, where no variable is visible
abbrev pub lookup : Known → Lookup
lookup k =
    record {
      names = struct_names k.names.now.defs.now;
      public = k.names.now.public;
      structs = types k.shapes.now.list;
      above = k.above;
      bodies = k.bodies.now.headings;
      result = k.result.now;
      seen = [];
    }
