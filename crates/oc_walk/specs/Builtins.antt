-- The calls of the language's own, on the values of their arguments.
use Rattle.std.specs.Prelude.{pos, List, [], ◌∷◌, length, false}
use Rattle.oc_values.specs.declared.integers.IntKind.TheVariants.{I32}
use Rattle.oc_values.specs.Integers.{wrap}
use Rattle.oc_cells.specs.declared.types.CType.{CType, Int as CInt}
use Rattle.oc_cells.specs.Types.{target}
use Rattle.oc_source.specs.declared.spot.Spot.{Spot}
use Rattle.oc_typed.specs.declared.typed.TExprNode.{TExprNode, Builtin', Row_of-TExpr, end_of-TExpr, more_of-TExpr}
use Rattle.oc_typed.specs.declared.typed.Builtin.{Builtin}
use Rattle.oc_typed.specs.declared.typed.Builtin.TheVariants.{Private, Feed, Reveal, Give, PrivateCount, PublicCount, PublicWord, Print, Calloc, Malloc, Free}
use Rattle.oc_walk.specs.declared.run.Value.TheVariants.{Int}
use Rattle.oc_walk.specs.declared.run.Source.{Source}
use Rattle.oc_walk.specs.declared.run.Source.TheVariants.{Word, Public}
use Rattle.oc_walk.specs.Domain.{Domain}
use Rattle.oc_walk.specs.Walking.{bind, pure, odd, still, Site}
use Rattle.oc_walk.specs.Cells.{V, A, puts, addressed, allocates, frees}
use Rattle.oc_walk.specs.Exchange.{count_of, formatted, feeds, reveals, gives, public_word, prints}

-- what an argument is to a feed
abbrev pub source_at : Spot → TExprNode → Source
source_at q (Builtin' Private _ es) = Word q
source_at q _ = Public

-- what the first argument is to a feed
abbrev pub source_of : {m : _} → Row_of-TExpr m → Source
source_of (more_of-TExpr q u c rest) = source_at q c
source_of end_of-TExpr = Public

module _ (D : Domain) where
  -- what follows where there is no argument
  abbrev pub on_none : Spot → List (V D) → A D (V D) → A D (V D)
  on_none p [] k = k
  on_none p _ k = odd p

  -- what follows the value of the only argument
  abbrev pub on_one : Spot → List (V D) → (V D → A D (V D)) → A D (V D)
  on_one p (v ∷ []) k = k v
  on_one p _ k = odd p

  -- what follows the values of two arguments
  abbrev pub on_two : Spot → List (V D) → (V D → V D → A D (V D)) → A D (V D)
  on_two p (v ∷ y ∷ []) k = k v y
  on_two p _ k = odd p

  -- what follows the value of the only argument, which is 1 where there is none
  abbrev pub on_some : Spot → List (V D) → (V D → A D (V D)) → A D (V D)
  on_some p [] k = k (Int I32 (pos 1))
  on_some p (v ∷ []) k = k v
  on_some p _ k = odd p

  -- a call of the language's own: t is the node's type, s what a feed's argument is; a reveal is shown before its write
  abbrev pub performs : Site → Spot → CType → Source → Builtin → List (V D) → A D (V D)
  performs x p t s Private vs = on_one p vs (λ v. pure v)
  performs x p t s (Feed k party) vs = on_one p vs (λ v. still (feeds D x.run.known p s party k v))
  performs x p t s (Reveal k) vs =
      on_two p vs (λ a v. bind (still (reveals D p k v)) (λ y. bind (still (addressed D p a)) (λ b. still (puts D p (CInt k false) b y))))
  performs x p t s (Give k party) vs = on_one p vs (λ v. still (gives D p k party v))
  performs x p t s (PrivateCount party) vs = on_none p vs (pure (Int I32 (wrap I32 (pos (count_of x.run.known party)))))
  performs x p t s PublicCount vs = on_none p vs (pure (Int I32 (wrap I32 (pos (length x.run.known.public)))))
  performs x p t s PublicWord vs = on_one p vs (λ v. still (public_word D x.run.known p v))
  performs x p t s (Print ps) vs = still (prints D p (formatted ps vs))
  performs x p t s Calloc vs = on_one p vs (λ v. still (allocates D p x.run.structs (target t) v))
  performs x p t s Malloc vs = on_some p vs (λ v. still (allocates D p x.run.structs (target t) v))
  performs x p t s Free vs = on_one p vs (λ v. still (frees D p v))
