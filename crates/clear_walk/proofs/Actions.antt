-- How actions on the values of a node's parts are made of smaller ones.
use Rattle.std.proofs.Common.{◌≡◌, ℤ, Result, Ok, Err, refl, sym, ◌∙◌, subst, Bool, false, arith}
use Rattle.oc_values.specs.declared.integers.BinaryOp.{BinaryOp}
use Rattle.oc_source.specs.declared.spot.Spot.{Spot}
use Rattle.oc_cells.specs.declared.types.CType.{CType}
use Rattle.oc_cells.specs.declared.memory.Address.{Address}
use Rattle.oc_walk.specs.declared.run.Value.{Value}
use Rattle.oc_walk.specs.Walking.{Site, Act, after, bind, pure, choose, still}
use Rattle.oc_walk.specs.Cells.{Only, gets, sets}
use Rattle.oc_walk.specs.Expressions.{readied, renewed}
use Rattle.clear_actions.specs.Acting.{ClearMem, Gives, Does, bare, mem_of, state_of}
use Rattle.clear_actions.specs.declared.machine.Machine.{Machine}
use Rattle.clear_actions.specs.declared.machine.Store.{Store}
use Rattle.clear_actions.specs.declared.machine.Fault.{Fault}
use Rattle.clear_walk.specs.Runs.{Acts, updates, begins_update, ends_update}
use Rattle.clear_walk.proofs.Walked.{CAct, stops, same_later, still_gives}

abbrev V : Type 0
V = Value ℤ

-- what follows a first action: the rest, or the same fault
abbrev pub On : {T U : Type 0} (k : Site → T → CAct U) → Result T Fault → Machine → Result U Fault → Machine → Type 0
On k (Ok a) m1 r m2 = Acts (λ x. k x a) m1 r m2
On k (Err e) m1 r m2 = (r ≡ Err e) × (m2 ≡ m1)

both_acts : {T U : Type 0} (f : Site → CAct T) (k : Site → T → CAct U) {m m1 m2 : Machine} {a : T} {r : Result U Fault} → Acts f m (Ok a) m1 → Acts (λ x. k x a) m1 r m2 → Acts (λ x. bind (f x) (k x)) m r m2
both_acts f k {m} {m1} {m2} {a} {r} p q = record {
  does = λ x s l. subst (λ z. Gives (after z (k x)) r (state_of m2)) (sym (p.does x s l)) (q.does x (s ∙ sym p.kept.1) (p.kept.0 ∙ l));
  kept = same_later m.store m1.store m2.store p.kept q.kept;
  fewer = let b = p.fewer in let c = q.fewer in omega (arith, b, c);
}

stop_acts : {T U : Type 0} (f : Site → CAct T) (k : Site → T → CAct U) {m m1 : Machine} {e : Fault} → Acts f m (Err e) m1 → Acts (λ x. bind (f x) (k x)) m (Err e) m1
stop_acts f k {m} {m1} {e} p = record { does = λ x s l. stops (f x (state_of m)) (k x) e (state_of m1) (p.does x s l); kept = p.kept; fewer = p.fewer }

pub acts_then : {T U : Type 0} (f : Site → CAct T) (k : Site → T → CAct U) {m m1 m2 : Machine} (r1 : Result T Fault) {r : Result U Fault} → Acts f m r1 m1 → On k r1 m1 r m2 → Acts (λ x. bind (f x) (k x)) m r m2
acts_then f k (Ok a) p q = both_acts f k p q
acts_then f k {m} {m1} {m2} (Err e) {r} p q =
    subst (λ z. Acts (λ x. bind (f x) (k x)) m z m2) (sym q.0) (subst (λ n. Acts (λ x. bind (f x) (k x)) m (Err e) n) (sym q.1) (stop_acts f k p))

pub act_look : {T : Type 0} (act : Act ClearMem T) (m : Machine) {r : Result T Fault} → Gives (act (mem_of m.store)) r (mem_of m.store) → Acts (λ x. still act) m r m
act_look act m {r} d = record { does = λ x s l. still_gives (act (mem_of m.store)) r m m.store d; kept = (refl, refl); fewer = omega arith }

pub act_do : {T : Type 0} (act : Act ClearMem T) (m : Machine) (s : Store) {r : Result T Fault} → Does (act (mem_of m.store)) r m.store s → Acts (λ x. still act) m r (record m { store = s })
act_do act m s {r} d = record { does = λ x q l. still_gives (act (mem_of m.store)) r m s d.0; kept = d.1; fewer = omega arith }

pub act_once : {T : Type 0} (a : T) {m : Machine} {r : Result T Fault} → r ≡ Ok a → Acts (λ x. pure a) m r m
act_once a {m} h = subst (λ q. Acts (λ x. pure a) m q m) (sym h) (record { does = λ x s l. refl; kept = (refl, refl); fewer = omega arith })

pub act_second : {T : Type 0} {b : Bool} (f k : Site → CAct T) {m m1 : Machine} {r : Result T Fault} → b ≡ false → Acts k m r m1 → Acts (λ x. choose b (f x) (k x)) m r m1
act_second {T} {b} f k {m} {m1} {r} h p = record {
  does = λ x s l. subst (λ c. Gives (choose c (f x) (k x) (state_of m)) r (state_of m1)) (sym h) (p.does x s l);
  kept = p.kept;
  fewer = p.fewer;
}

module _ (p : Spot) (op : BinaryOp) (q : Spot) (u t : CType) (a : Address) where
  -- what follows an update's read
  abbrev pub then_ready : Bool → V → Site → V → CAct V
  then_ready e v x o = bind (readied bare p op u t o) (λ y. bind (renewed bare x p op u t y v) (λ z. still (sets bare q e u (Only a) z)))

  abbrev pub then_new : Bool → V → Site → V → CAct V
  then_new e v x y = bind (renewed bare x p op u t y v) (λ z. still (sets bare q e u (Only a) z))

  pub updates_so : (e : Bool) (v : V) (old : V) {m m1 : Machine} {r : Result V Fault} → Gives (gets bare q u (Only a) (mem_of m.store)) (Ok old) (mem_of m.store) → Acts (λ x. then_ready e v x old) m r m1 → Acts (λ x. updates x e p op q u t a v) m r m1
  updates_so e v old {m} d g = acts_then (λ x. still (gets bare q u (Only a))) (then_ready e v) (Ok old) (act_look (gets bare q u (Only a)) m d) g

  pub ready_so : (e : Bool) (v : V) (old : V) {m m1 m2 : Machine} (r1 : Result V Fault) {r : Result V Fault} → Acts (λ x. readied bare p op u t old) m r1 m1 → On (then_new e v) r1 m1 r m2 → Acts (λ x. then_ready e v x old) m r m2
  ready_so e v old r1 d g = acts_then (λ x. readied bare p op u t old) (then_new e v) r1 d g

  pub new_so : (e : Bool) (v y : V) {m m1 m2 : Machine} (r1 : Result V Fault) {r : Result V Fault} → Acts (λ x. renewed bare x p op u t y v) m r1 m1 → On (λ x z. still (sets bare q e u (Only a) z)) r1 m1 r m2 → Acts (λ x. then_new e v x y) m r m2
  new_so e v y r1 d g = acts_then (λ x. renewed bare x p op u t y v) (λ x z. still (sets bare q e u (Only a) z)) r1 d g

  abbrev pub pair : V → V → CAct (V × V)
  pair v z = pure (v, z)

  pub begins_so : (old : V) {m : Machine} (r1 : Result V Fault) {r : Result (V × V) Fault} → Gives (gets bare q u (Only a) (mem_of m.store)) (Ok old) (mem_of m.store) → Acts (λ x. readied bare p op u t old) m r1 m → On (λ x y. pair old y) r1 m r m → Acts (λ x. begins_update p op q u t a) m r m
  begins_so old {m} r1 d g h =
      acts_then (λ x. still (gets bare q u (Only a))) (λ x old. bind (still (gets bare q u (Only a))) (λ o. bind (readied bare p op u t o) (pair old))) (Ok old) (act_look (gets bare q u (Only a)) m d)
      (acts_then (λ x. still (gets bare q u (Only a))) (λ x o. bind (readied bare p op u t o) (pair old)) (Ok old) (act_look (gets bare q u (Only a)) m d)
      (acts_then (λ x. readied bare p op u t old) (λ x. pair old) r1 g h))

  pub paired : (old y : V) {m : Machine} {r : Result (V × V) Fault} → r ≡ Ok (old, y) → Acts (λ x. pair old y) m r m
  paired old y {m} h = subst (λ z. Acts (λ x. pair old y) m z m) (sym h) (record { does = λ x s l. refl; kept = (refl, refl); fewer = omega arith })

  pub ends_so : (e : Bool) (old y v : V) {m m1 m2 : Machine} (r1 : Result V Fault) {r : Result V Fault} → Acts (λ x. renewed bare x p op u t y v) m r1 m1 → On (λ x z. bind (still (sets bare q e u (Only a) z)) (λ _. pure old)) r1 m1 r m2 → Acts (λ x. ends_update x e p op q u t a old y v) m r m2
  ends_so e old y v r1 d g = acts_then (λ x. renewed bare x p op u t y v) (λ x z. bind (still (sets bare q e u (Only a) z)) (λ _. pure old)) r1 d g

  pub written_so : (e : Bool) (old z : V) {m m1 m2 : Machine} (r1 : Result V Fault) {r : Result V Fault} → Acts (λ x. still (sets bare q e u (Only a) z)) m r1 m1 → On (λ x _. pure old) r1 m1 r m2 → Acts (λ x. bind (still (sets bare q e u (Only a) z)) (λ _. pure old)) m r m2
  written_so e old z r1 d g = acts_then (λ x. still (sets bare q e u (Only a) z)) (λ x _. pure old) r1 d g
