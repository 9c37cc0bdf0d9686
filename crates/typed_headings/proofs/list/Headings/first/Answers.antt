use Rattle.std.proofs.Common.{◌≡◌, ℕ, List, Option, Some, None, sym, ap, ◌∙◌}
use Rattle.std.specs.Prelude.{slice_get}
use Rattle.std.specs.BTreeMap.{BTreeMap}
use denote.Ref.{Bor}
use Rattle.type_rules.specs.declared.judging.Heading.{Heading}
use Rattle.written_types.specs.Numbers.{get_at, Numbers, heading_names}
use Rattle.written_types.proofs.Firsts.{got}
use Rattle.typed_headings.specs.Beside.{first_named}
use Rattle.typed_headings.proofs.Numbered.{heading_number}
use Rattle.typed_headings.proofs.list.Headings.first.Goals as goal

by_number : (m : BTreeMap (Bor (List ℕ)) ℕ) (hs : List Heading) (x : List ℕ) (o : Option ℕ) → Numbers m (heading_names hs) → o ≡ get_at m x → got hs o ≡ first_named hs x
by_number m hs x o n e = ap (λ o. got hs o) (e ∙ n.at x) ∙ sym (heading_number hs x)

pub returns-in-None : goal.returns-in-None
returns-in-None c = by_number _ c.args.self.now.list.items c.args.name.now None c.args.self.now.first c.in-None.ensures

pub returns-in-Some : goal.returns-in-Some
returns-in-Some c =
    let hs = c.args.self.now.list.items in
    c.at.ensures ∙ ap (λ hs. slice_get hs c.in-Some.number) c.as_slice.ensures.value
    ∙ by_number _ hs c.args.name.now (Some c.in-Some.number) c.args.self.now.first c.in-Some.ensures
