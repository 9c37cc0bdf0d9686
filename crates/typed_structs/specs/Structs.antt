-- What the rules look up while the structs of a program are judged.
use Rattle.std.specs.Prelude.{[], length}
use Rattle.oc_cells.specs.declared.types.CType.{Nothing}
use Rattle.type_rules.specs.Lookup.{Lookup}
use Rattle.type_rules.specs.Written.{struct_names}
use Rattle.written_types.specs.declared.names.Names.{Names}
use Rattle.written_types.specs.declared.shapes.Shapes.{Shapes}
use Rattle.written_types.specs.Shapes.{types}

-- what is known before the structs are judged
abbrev pub structs_lookup : Names → Lookup
structs_lookup n =
    record {
      names = struct_names n.defs.now;
      public = n.public;
      structs = [];
      above = 0;
      bodies = [];
      result = Nothing;
      seen = [];
    }

-- what is known where these structs were judged
abbrev pub after_structs : Names → Shapes → Lookup
after_structs n s = record (structs_lookup n) { structs = types s.list; above = length (types s.list) }
