use Rattle.std.proofs.Common.{rules, arith}
use Rattle.std.proofs.lemmas.List.Sorted.{IsPartitionPoint-from_clause}
use Rattle.oc_source.specs.declared.parsed.StructDef.{StructDef}
use Rattle.type_rules.specs.Written.{is_before}
use Rattle.typed_headings.proofs.Ordered.{parted, counted}
use Rattle.typed_headings.proofs.structs.count_ordered.Goals as goal

pub returns : goal.returns
returns c =
    let point = IsPartitionPoint-from_clause (λ (d : StructDef). is_before d.spot c.args.spot) _ _ c.partition_point.ensures.partitioned (parted c.args.spot _ _ c.requires) (λ a r q k. search rules) in
    counted c.args.spot _ _ c.partition_point.ensures.bound (λ k d h. point.0 k d (omega arith) h) point.1
