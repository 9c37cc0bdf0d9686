use Rattle.std.proofs.Common.{◌≡◌, [], take, min}
use Rattle.oc_cells.specs.Layout.{field_cells, struct_cells}
use Rattle.oc_typing.specs.Rules.{field_depth, field_names}
use Rattle.type_rules.specs.Written.{depths_after}
use Rattle.written_types.specs.Known.{lookup}
use Rattle.written_types.specs.Numbers.{Numbers, Has}
use Rattle.written_types.specs.Each.{state_after}
use Rattle.written_types.specs.Shapes.{types}
use Rattle.written_types.proofs.EachItem.{Left}
use Rattle.typed_structs.specs.Fields.{field_judged, with_field, unlaid, laid_within}
use Rattle.typed_structs.proofs.fields.struct_fields.Given as goal

abbrev pub invariant-loop-def : goal.invariant-loop-def
invariant-loop-def l =
    record {
      typed : Left (field_judged (lookup l.known)) with_field [] l.defs l.def-index (unlaid l.list);
      names : Has l.numbers (state_after with_field [] (take l.def-index l.defs));
      numbers : Numbers l.numbers (field_names l.list);
      laid : l.list ≡ laid_within (struct_cells (types l.known.shapes.now.list)) 0 (unlaid l.list);
      cells : l.cells ≡ min (field_cells (struct_cells (types l.known.shapes.now.list)) l.list) 65537;
      depth : l.depth ≡ field_depth (depths_after [] (types l.known.shapes.now.list)) l.list;
    }
