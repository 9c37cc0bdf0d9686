-- Headings, judged one after another.
use Rattle.std.specs.Prelude.{List, [], ◌∷◌, ◌++◌, length, ◌&&◌, is_none, Ok}
use Rattle.oc_source.specs.declared.parsed.StructDef.{StructDef}
use Rattle.oc_source.specs.declared.parsed.Function.{Function}
use Rattle.oc_cells.specs.declared.types.CType.{CType, Nothing}
use Rattle.type_rules.specs.declared.judging.Heading.{Heading}
use Rattle.type_rules.specs.declared.judging.TypeRule.TheVariants.{T2}
use Rattle.type_rules.specs.Judging.{Judged, next, needs}
use Rattle.type_rules.specs.Lookup.{Lookup}
use Rattle.type_rules.specs.Calls.{own_call}
use Rattle.type_rules.specs.Written.{struct_names, heading, may_stand, at_function}
use Rattle.written_types.specs.declared.names.Names.{Names}
use Rattle.written_types.specs.declared.shapes.Shapes.{Shapes}
use Rattle.written_types.specs.Shapes.{types}
use Rattle.typed_headings.specs.declared.structs.Structs.{Structs}
use Rattle.typed_headings.specs.declared.list.Headings.{Headings}

-- what is known of a program's structs, beside these functions with a body and this result
abbrev pub with_structs : Names → Shapes → List Heading → CType → Lookup
with_structs n s hs ty =
    record {
      names = struct_names n.defs.now;
      public = n.public;
      structs = types s.list;
      above = length (types s.list);
      bodies = hs;
      result = ty;
      seen = [];
    }

-- what is known where headings stand
abbrev pub heading_lookup : Structs → Lookup
heading_lookup s = with_structs s.names.now s.shapes.now [] Nothing

-- a function's heading, after earlier ones
abbrev pub heading_judged : Lookup → List StructDef → List Heading → Function → Judged Heading
heading_judged g ds earlier f =
    next (heading (at_function g ds f) f) (λ h.
    next (needs f.spot T2 (is_none (own_call f.name) && may_stand earlier h)) (λ _. Ok h))

-- earlier headings with that of a function
abbrev pub heading_added : Lookup → List StructDef → List Heading → Function → Judged (List Heading)
heading_added g ds earlier f = next (heading_judged g ds earlier f) (λ h. Ok (earlier ++ h ∷ []))

-- headings, as the rules see them
abbrev pub listed : Headings → List Heading
listed hs = hs.list.items
