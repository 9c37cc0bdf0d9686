-- A program's parts put together, and what typing promises of it.
use Rattle.std.proofs.Common.{ℕ, ◌≡◌, List, [], Bool, Result, Ok, Err, sym, ap, ◌∙◌, subst}
use Rattle.std.specs.Prelude.{IsTrue}
use Rattle.oc_source.specs.declared.spot.Spot.{Spot}
use Rattle.oc_source.specs.declared.parsed.StructDef.{StructDef}
use Rattle.oc_source.specs.declared.parsed.Function.{Function}
use Rattle.oc_source.specs.declared.parsed.Program.{Program}
use Rattle.oc_cells.specs.declared.types.CType.{Nothing}
use Rattle.oc_cells.specs.declared.types.StructType.{StructType}
use Rattle.oc_typed.specs.declared.typed.TypedFunction.{TypedFunction}
use Rattle.oc_typing.specs.declared.program.Typed.{Typed}
use Rattle.oc_typing.specs.Tree.{TypedTree, tree_of}
use Rattle.oc_typing.specs.Typed.{is_typed}
use Rattle.type_rules.specs.declared.judging.Heading.{Heading}
use Rattle.type_rules.specs.declared.judging.Refusal.{Refusal}
use Rattle.type_rules.specs.Judging.{Judged, next}
use Rattle.type_rules.specs.Lookup.{Lookup}
use Rattle.type_rules.specs.Written.{structs_from, struct_names, public_from, headings_from, bodies_of}
use Rattle.type_rules.specs.ProgramRules.{first_lookup, functions_from, entry_from, entry, typed_program}
use Rattle.type_steps.specs.declared.fault.TypeFault.{TypeFault}
use Rattle.type_steps.specs.declared.fault.TypeFault.TheVariants.{Refused, NoMemory}
use Rattle.type_steps.specs.Answering.{Answers}
use Rattle.type_steps.proofs.Steps.{said_as}
use Rattle.written_types.specs.Each.{mapped}
use Rattle.written_types.specs.declared.names.Names.{Names}
use Rattle.written_types.specs.declared.shapes.Shapes.{Shapes}
use Rattle.typed_structs.specs.Structs.{structs_lookup, after_structs}
use Rattle.typed_headings.specs.declared.structs.Structs.{Structs}
use Rattle.typed_headings.specs.InTurn.{in_turn}
use Rattle.typed_headings.specs.Judging.{with_structs, heading_lookup}
use Rattle.rules_typed.proofs.Programs.{programs_typed}
use Rattle.judged_programs.proofs.Judged.{programs}
use Rattle.obliv_types.specs.Functions.{function_added, functions_judged}
use Rattle.obliv_types.specs.Promise.{Promised}
use Rattle.obliv_types.proofs.Bodies.{Headed, headed, next_same, next_next, next_fine, functions_so}

-- what is known before the structs are judged
-- what is known of these names
abbrev made : List (List ℕ) → List Bool → Lookup
made ns bs = record (first_lookup []) { names = ns; public = bs }

pub first_is : (n : Names) (ds : List StructDef) → n.defs.now ≡ ds → n.public ≡ public_from (struct_names ds) [] ds → structs_lookup n ≡ first_lookup ds
first_is n ds e p =
    ap (λ ns. made ns n.public) (ap (λ ds. struct_names ds) e) ∙ ap (λ bs. made (struct_names ds) bs) p

module _ (s : Structs) (n : Names) (h : Shapes) (ds : List StructDef) (fs : List Function) (a : s.names.now ≡ n) (b : s.shapes.now ≡ h) (d : n.defs.now ≡ ds) where
  pub headings_as : {r : Result (List Heading) TypeFault} → Answers (headings_from (heading_lookup s) s.names.now.defs.now [] fs) r → Answers (headings_from (after_structs n h) ds [] fs) r
  headings_as x =
      said_as
      (ap (λ m. headings_from (with_structs m s.shapes.now [] Nothing) m.defs.now [] fs) a ∙ ap (λ h. headings_from (with_structs n h [] Nothing) n.defs.now [] fs) b
      ∙ ap (λ ds. headings_from (after_structs n h) ds [] fs) d) x

  -- what functions give in turn, where so many headings have a body
  abbrev turn : Names → Shapes → List StructDef → List Heading → Judged (List TypedFunction)
  turn m h ds bs = in_turn (function_added (with_structs m h bs Nothing) ds bs) [] fs

  pub functions_as : (bs hs : List Heading) {r : Result (List TypedFunction) TypeFault} → bs ≡ bodies_of hs → Headed fs hs → Answers (turn s.names.now s.shapes.now s.names.now.defs.now bs) r → Answers (functions_from (record (after_structs n h) { bodies = bodies_of hs }) ds [] fs hs) r
  functions_as bs hs e k x =
      said_as
      (ap (λ m. turn m s.shapes.now m.defs.now bs) a ∙ ap (λ h. turn n h n.defs.now bs) b ∙ ap (λ ds. turn n h ds bs) d ∙ ap (λ bs. turn n h ds bs) e
      ∙ sym (functions_so (record (after_structs n h) { bodies = bodies_of hs }) ds fs hs k)) x

pub entry_as : (p : Spot) (xs bs hs : List Heading) {r : Result ℕ TypeFault} → xs ≡ bs → bs ≡ bodies_of hs → Answers (entry p (entry_from 0 xs)) r → Answers (entry p (entry_from 0 (bodies_of hs))) r
entry_as p xs bs hs e f x = said_as (ap (λ hs. entry p (entry_from 0 hs)) (e ∙ f)) x

-- the headings that were judged belong to their functions
pub headed_so : (g : Lookup) (ds : List StructDef) (fs : List Function) (hs : List Heading) → headings_from g ds [] fs ≡ Ok hs → Headed fs hs
headed_so g ds fs hs e = let m = headed g ds [] fs hs e in subst (λ hs. Headed fs hs) (sym m.1) m.2

-- a tree of these structs, functions and entry
abbrev pub tree : Lookup → List TypedFunction × ℕ → Judged TypedTree
tree g t = Ok (record { structs = g.structs; functions = t.0; entry = t.1 })

module _ (p : Program) where
  program_parts : (g : Lookup) → (
      next (headings_from g p.structs [] p.functions) (λ hs.
      next (functions_from (record g { bodies = bodies_of hs }) p.structs [] p.functions hs) (λ ts.
      next (entry p.end (entry_from 0 (bodies_of hs))) (λ n. Ok (record { structs = g.structs; functions = ts; entry = n })))))
      ≡ next (functions_judged g p) (tree g)
  program_parts g =
      sym (next_next (headings_from g p.structs [] p.functions) _ (tree g)
      ∙ next_same (headings_from g p.structs [] p.functions) _ _ (λ hs.
      next_next (functions_from (record g { bodies = bodies_of hs }) p.structs [] p.functions hs) _ (tree g)
      ∙ next_same (functions_from (record g { bodies = bodies_of hs }) p.structs [] p.functions hs) _ _ (λ ts.
      next_next (entry p.end (entry_from 0 (bodies_of hs))) _ (tree g)
      ∙ next_same (entry p.end (entry_from 0 (bodies_of hs))) _ _ (λ n. next_fine (ts, n) (tree g)))))

  -- the rules of a program: its structs, and then its functions
  pub program_so : typed_program p ≡ next (structs_from (first_lookup p.structs) p.structs) (λ g. next (functions_judged g p) (tree g))
  unfolding typed_program
  program_so = next_same (structs_from (first_lookup p.structs) p.structs) _ (λ g. next (functions_judged g p) (tree g)) program_parts

  pub structs_as : (n : Names) (ds : List StructDef) {r : Result Lookup TypeFault} → n.defs.now ≡ ds → n.public ≡ public_from (struct_names ds) [] ds → ds ≡ p.structs → Answers (structs_from (structs_lookup n) n.defs.now) r → Answers (structs_from (first_lookup p.structs) p.structs) r
  structs_as n ds e f q x =
      said_as (ap (λ g. structs_from g n.defs.now) (first_is n ds e f) ∙ ap (λ es. structs_from (first_lookup ds) es) e ∙ ap (λ ds. structs_from (first_lookup ds) ds) q) x

  -- what the rules give passes the test of typed trees
  pub typed_so : (structs : List StructType) (functions : List TypedFunction) (n : ℕ) → typed_program p ≡ Ok (record { structs = structs; functions = functions; entry = n }) → IsTrue (is_typed structs functions n)
  typed_so structs functions n e = programs_typed p (record { structs = structs; functions = functions; entry = n }) e

fine_back : {A : Type 0} (a b : A) → ◌≡◌ {A = Judged A} (Ok a) (Ok b) → a ≡ b
fine_back a b e = cc

fault_back : {A : Type 0} (x y : Refusal) → ◌≡◌ {A = Judged A} (Err x) (Err y) → x ≡ y
fault_back x y e = cc

not_both : {A : Type 0} (a : A) (x : Refusal) → ◌≡◌ {A = Judged A} (Ok a) (Err x) → ⊥
not_both a x e = cc

-- what is answered to the rules of a program is what is promised
pub promised : (p : Program) (r : Result Typed TypeFault) → Answers (typed_program p) (mapped tree_of r) → Promised p r
promised p (Ok t) x =
    let l = programs p in
    record {
      typed = (l.0 (tree_of t)).0 x.said;
      alone = λ u h. fine_back u (tree_of t) (sym ((l.0 u).1 h) ∙ x.said);
    }
promised p (Err (Refused r q)) x =
    let l = programs p in
    let f : Refusal = record { rule = r; spot = q } in
    record {
      first = (l.1 f).0 x.said;
      alone = λ y h. fault_back {A = TypedTree} y f (sym ((l.1 y).1 h) ∙ x.said);
      untyped = λ t h. not_both t f (sym ((l.0 t).1 h) ∙ x.said);
    }
promised p (Err NoMemory) x = tt
