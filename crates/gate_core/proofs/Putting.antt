-- Gates behind other gates, with the numbers of their operands put in.
use Rattle.std.proofs.Common.{◌≡◌, ℕ, zero, suc, ◌+◌, ◌-◌, List, [], ◌∷◌, ◌++◌, length, get_or, map, refl, ap, ◌∙◌, sym, arith, subst}
use Rattle.std.proofs.lemmas.List.{length-append, get_or_append_left, get_or-append-add, get_or_default, append_assoc, append-nil}
use Rattle.gate_core.specs.Circuit.{Calls}
use Rattle.gate_core.specs.Relations.{All2}
use Rattle.gate_core.specs.GateList.{Gate, gate_known, gate_not, gate_xor, gate_and, At, PlaysList, PlaysGates}
use Rattle.gate_core.specs.Wiring.{number_in, renumbered, PlaysOnward, PlaysPutIn}

-- one list of gates, and then another
pub list_then : {S W : Type 0} (m : Calls S W) (gs hs : List Gate) (ws us vs : List W) (s u t : S)
    → PlaysList m gs ws s us u → PlaysList m hs us u vs t → PlaysList m (gs ++ hs) ws s vs t
list_then m [] hs ws us vs s u t p q = subst (λ k. PlaysList m hs ws k vs t) (sym p.1) (subst (λ l. PlaysList m hs l u vs t) (sym p.0) q)
list_then m (gate_known b ∷ gs) hs ws us vs s u t p q = list_then m gs hs _ us vs s u t p q
list_then m (gate_not i ∷ gs) hs ws us vs s u t p q = (p.0, p.1, list_then m gs hs _ us vs s u t p.2 q)
list_then m (gate_xor i j ∷ gs) hs ws us vs s u t p q = (p.0, p.1, p.2, p.3, list_then m gs hs _ us vs s u t p.4 q)
list_then m (gate_and i j ∷ gs) hs ws us vs s u t p q = (p.0, p.1, p.2, p.3, p.4, p.5, p.6, list_then m gs hs _ us vs p.3 u t p.7 q)

-- and taken apart again
pub list_parts : {S W : Type 0} (m : Calls S W) (gs hs : List Gate) (ws vs : List W) (s t : S)
    → PlaysList m (gs ++ hs) ws s vs t → (us : List W) × (u : S) × PlaysList m gs ws s us u × PlaysList m hs us u vs t
list_parts m [] hs ws vs s t p = (ws, s, (refl, refl), p)
list_parts m (gate_known b ∷ gs) hs ws vs s t p = list_parts m gs hs _ vs s t p
list_parts m (gate_not i ∷ gs) hs ws vs s t p = let r = list_parts m gs hs _ vs s t p.2 in (r.0, r.1, (p.0, p.1, r.2), r.3)
list_parts m (gate_xor i j ∷ gs) hs ws vs s t p = let r = list_parts m gs hs _ vs s t p.4 in (r.0, r.1, (p.0, p.1, p.2, p.3, r.2), r.3)
list_parts m (gate_and i j ∷ gs) hs ws vs s t p = let r = list_parts m gs hs _ vs p.3 t p.7 in (r.0, r.1, (p.0, p.1, p.2, p.3, p.4, p.5, p.6, r.2), r.3)

pub plays_onward : {S W : Type 0} (m : Calls S W) → PlaysOnward m
plays_onward m gs hs ws vs s t = (λ us u p q. list_then m gs hs ws us vs s u t p q, λ p. list_parts m gs hs ws vs s t p)

-- a wire among the operands and the new ones has its number among all
pub At-in : {W : Type 0} (us new : List W) (ws : List W) (xs : List ℕ) (i : ℕ) (a : W)
    → All2 (λ w j. At us j w) ws xs → At (ws ++ new) i a → At (us ++ new) (number_in xs (length us) i) a
At-in us new [] [] i a h k =
    let l = length-append us new in
    let e : length us + (i - 0) ≡ length us + i = omega arith in
    (omega (arith, k.0, l), ap (λ n. get_or (us ++ new) n a) e ∙ get_or-append-add us new i a ∙ k.1)
At-in us new [] (x ∷ xs) i a h k = absurd h
At-in us new (w ∷ ws) [] i a h k = absurd h
At-in us new (w ∷ ws) (x ∷ xs) zero a h k =
    let l = length-append us new in
    (let q = h.0.0 in omega (arith, q, l), get_or_append_left us new a x h.0.0 ∙ get_or_default us x a w h.0.0 ∙ h.0.1 ∙ k.1)
At-in us new (w ∷ ws) (x ∷ xs) (suc i) a h k =
    let e : length us + (i - length xs) ≡ length us + (suc i - length (x ∷ xs)) = omega arith in
    subst (λ n. At (us ++ new) (get_or xs i n) a) e (At-in us new ws xs i a h.1 (let q = k.0 in omega (arith, q), k.1))

-- a play from one new wire more is a play behind that wire
one_more : {S W : Type 0} (m : Calls S W) (hs : List Gate) (us ws new : List W) (w : W) (vs : List W) (u t : S) (n : ℕ)
    → ((more : List W) × (length more ≡ n) × (vs ≡ ws ++ ((new ++ w ∷ []) ++ more)) × PlaysList m hs (us ++ (new ++ w ∷ [])) u (us ++ ((new ++ w ∷ []) ++ more)) t)
    → (more : List W) × (length more ≡ suc n) × (vs ≡ ws ++ (new ++ more)) × PlaysList m hs ((us ++ new) ++ w ∷ []) u (us ++ (new ++ more)) t
one_more m hs us ws new w vs u t n h = (
  w ∷ h.0,
  (let l = h.1 in omega (arith, l)),
  h.2 ∙ ap (λ l. ws ++ l) (append_assoc new (w ∷ []) h.0),
  subst (λ l. PlaysList m hs l u (us ++ (new ++ w ∷ h.0)) t) (sym (append_assoc us new (w ∷ [])))
      (subst (λ l. PlaysList m hs (us ++ (new ++ w ∷ [])) u (us ++ l) t) (append_assoc new (w ∷ []) h.0) h.3),
)

-- so the gates are played behind all wires, the operands' numbers put in
pub list_in : {S W : Type 0} (m : Calls S W) (gs : List Gate) (xs : List ℕ) (us ws : List W) → All2 (λ w i. At us i w) ws xs
    → (new vs : List W) (s t : S) → PlaysList m gs (ws ++ new) s vs t
    → (more : List W) × (length more ≡ length gs) × (vs ≡ ws ++ (new ++ more)) × PlaysList m (map (renumbered (number_in xs (length us))) gs) (us ++ new) s (us ++ (new ++ more)) t
list_in m [] xs us ws h new vs s t p =
    ([], refl, sym p.0 ∙ ap (λ l. ws ++ l) (sym (append-nil new)), (ap (λ l. us ++ l) (sym (append-nil new)), p.1))
list_in {S} {W} m (gate_known b ∷ gs) xs us ws h new vs s t p =
    let w = m.known_wire s b in
    one_more m (map (renumbered (number_in xs (length us))) gs) us ws new w vs s t (length gs)
    (list_in m gs xs us ws h (new ++ w ∷ []) vs s t (subst (λ l. PlaysList m gs l s vs t) (append_assoc ws new (w ∷ [])) p))
list_in {S} {W} m (gate_not i ∷ gs) xs us ws h new vs s t p =
    let w = m.not_wire s p.0 in
    let r = one_more m (map (renumbered (number_in xs (length us))) gs) us ws new w vs s t (length gs)
    (list_in m gs xs us ws h (new ++ w ∷ []) vs s t (subst (λ l. PlaysList m gs l s vs t) (append_assoc ws new (w ∷ [])) p.2)) in
    (r.0, r.1, r.2, (p.0, At-in us new ws xs i p.0 h p.1, r.3))
list_in {S} {W} m (gate_xor i j ∷ gs) xs us ws h new vs s t p =
    let w = m.xor_wire s p.0 p.1 in
    let r = one_more m (map (renumbered (number_in xs (length us))) gs) us ws new w vs s t (length gs)
    (list_in m gs xs us ws h (new ++ w ∷ []) vs s t (subst (λ l. PlaysList m gs l s vs t) (append_assoc ws new (w ∷ [])) p.4)) in
    (r.0, r.1, r.2, (p.0, p.1, At-in us new ws xs i p.0 h p.2, At-in us new ws xs j p.1 h p.3, r.3))
list_in {S} {W} m (gate_and i j ∷ gs) xs us ws h new vs s t p =
    let w = p.2 in
    let r = one_more m (map (renumbered (number_in xs (length us))) gs) us ws new w vs p.3 t (length gs)
    (list_in m gs xs us ws h (new ++ w ∷ []) vs p.3 t (subst (λ l. PlaysList m gs l p.3 vs t) (append_assoc ws new (w ∷ [])) p.7)) in
    (r.0, r.1, r.2, (p.0, p.1, p.2, p.3, At-in us new ws xs i p.0 h p.4, At-in us new ws xs j p.1 h p.5, p.6, r.3))

answers_in : {W : Type 0} (us new ws : List W) (xs : List ℕ) → All2 (λ w i. At us i w) ws xs → (r : List W) (is : List ℕ)
    → All2 (λ w i. At (ws ++ new) i w) r is → All2 (λ w i. At (us ++ new) i w) r (map (number_in xs (length us)) is)
answers_in us new ws xs h [] [] k = tt
answers_in us new ws xs h [] (i ∷ is) k = absurd k
answers_in us new ws xs h (w ∷ r) [] k = absurd k
answers_in us new ws xs h (w ∷ r) (i ∷ is) k = (At-in us new ws xs i w h k.0, answers_in us new ws xs h r is k.1)

pub plays_put_in : {S W : Type 0} (m : Calls S W) → PlaysPutIn m
unfolding PlaysGates
plays_put_in {S} {W} m f xs us ws r s t h p =
    let q = list_in m f.0 xs us ws h [] p.0 s t (subst (λ l. PlaysList m f.0 l s p.0 t) (sym (append-nil ws)) p.1) in (
      q.0,
      q.1,
      subst (λ l. PlaysList m (map (renumbered (number_in xs (length us))) f.0) l s (us ++ q.0) t) (append-nil us) q.3,
      answers_in us q.0 ws xs h r f.1 (subst (λ (l : List W). All2 (λ w i. At l i w) r f.1) q.2 p.2),
    )
