-- Gates behind other gates, read over any kind of wire.
use Rattle.std.proofs.Common.{◌≡◌, ℕ, zero, suc, ◌+◌, ◌-◌, false, List, [], ◌∷◌, ◌++◌, length, get_or, map, refl, ap, ◌∙◌, sym, arith}
use Rattle.std.proofs.lemmas.List.{get_or_append_left, get_or-append-add, get_or_default, append_assoc, append-nil}
use Rattle.gate_core.specs.Relations.{All2}
use Rattle.gate_core.specs.GateList.{Gate, gate_known, gate_not, gate_xor, gate_and, At}
use Rattle.gate_core.specs.Wiring.{Wiring, read_gate, read_gates, wires_at, number_in, renumbered, ReadsOnward, ReadsPutIn}

pub reads_onward : {W K : Type 0} (N : Wiring W K) → ReadsOnward N
reads_onward N [] hs ws k = refl
reads_onward N (g ∷ gs) hs ws k = reads_onward N gs hs (ws ++ (read_gate N g ws k).0 ∷ []) (read_gate N g ws k).1

-- a wire among the operands and the new ones is that of its number among all
get_in : {W : Type 0} (us new ws : List W) (xs : List ℕ) (i : ℕ) (d : W)
    → All2 (λ w j. At us j w) ws xs → get_or (us ++ new) (number_in xs (length us) i) d ≡ get_or (ws ++ new) i d
get_in us new [] [] i d h = (let e : length us + (i - 0) ≡ length us + i = omega arith in ap (λ n. get_or (us ++ new) n d) e ∙ get_or-append-add us new i d)
get_in us new [] (x ∷ xs) i d h = absurd h
get_in us new (w ∷ ws) [] i d h = absurd h
get_in us new (w ∷ ws) (x ∷ xs) zero d h = get_or_append_left us new d x h.0.0 ∙ get_or_default us x d w h.0.0 ∙ h.0.1
get_in us new (w ∷ ws) (x ∷ xs) (suc i) d h =
    let e : length us + (suc i - length (x ∷ xs)) ≡ length us + (i - length xs) = omega arith in
    ap (λ n. get_or (us ++ new) (get_or xs i n) d) e ∙ get_in us new ws xs i d h.1

module _ {W K : Type 0} (N : Wiring W K) (us ws : List W) (xs : List ℕ) (h : All2 (λ w i. At us i w) ws xs) where
  gate_in : (g : Gate) (new : List W) (k : K) → read_gate N (renumbered (number_in xs (length us)) g) (us ++ new) k ≡ read_gate N g (ws ++ new) k
  gate_in (gate_known b) new k = refl
  gate_in (gate_not i) new k = ap (λ w. N.not_wire w k) (get_in us new ws xs i (N.known_wire false k).0 h)
  gate_in (gate_xor i j) new k =
      let d = (N.known_wire false k).0 in
      ap (λ w. N.xor_wire w (get_or (us ++ new) (number_in xs (length us) j) d) k) (get_in us new ws xs i d h)
      ∙ ap (λ w. N.xor_wire (get_or (ws ++ new) i d) w k) (get_in us new ws xs j d h)
  gate_in (gate_and i j) new k =
      let d = (N.known_wire false k).0 in
      ap (λ w. N.and_wire w (get_or (us ++ new) (number_in xs (length us) j) d) k) (get_in us new ws xs i d h)
      ∙ ap (λ w. N.and_wire (get_or (ws ++ new) i d) w k) (get_in us new ws xs j d h)

  -- the new wires are the same ones, and so is what is kept
  gates_in : (gs : List Gate) (new : List W) (k : K) → (more : List W)
      × (read_gates N (map (renumbered (number_in xs (length us))) gs) (us ++ new) k ≡ (us ++ more, (read_gates N gs (ws ++ new) k).1))
      × (read_gates N gs (ws ++ new) k ≡ (ws ++ more, (read_gates N gs (ws ++ new) k).1))
  gates_in [] new k = (new, refl, refl)
  gates_in (g ∷ gs) new k =
      let r = read_gate N g (ws ++ new) k in
      let rest = gates_in gs (new ++ r.0 ∷ []) r.1 in
      let left = append_assoc ws new (r.0 ∷ []) in
      let all = append_assoc us new (r.0 ∷ []) in
      let kept = ap (λ l. (read_gates N gs l r.1).1) (sym left) in (
        rest.0,
        ap (λ (q : W × K). read_gates N (map (renumbered (number_in xs (length us))) gs) ((us ++ new) ++ q.0 ∷ []) q.1) (gate_in g new k)
            ∙ ap (λ l. read_gates N (map (renumbered (number_in xs (length us))) gs) l r.1) all ∙ rest.1 ∙ ap (λ e. (us ++ rest.0, e)) kept,
        ap (λ l. read_gates N gs l r.1) left ∙ rest.2 ∙ ap (λ e. (ws ++ rest.0, e)) kept,
      )

  answers_read : (more : List W) (k : K) (is : List ℕ) → wires_at N (us ++ more) k (map (number_in xs (length us)) is) ≡ wires_at N (ws ++ more) k is
  answers_read more k [] = refl
  answers_read more k (i ∷ is) =
      let d = (N.known_wire false k).0 in
      ap (λ w. w ∷ wires_at N (us ++ more) k (map (number_in xs (length us)) is)) (get_in us more ws xs i d h)
      ∙ ap (λ l. get_or (ws ++ more) i d ∷ l) (answers_read more k is)

pub reads_put_in : {W K : Type 0} (N : Wiring W K) → ReadsPutIn N
reads_put_in {W} {K} N f xs us ws k h =
    let r = gates_in N us ws xs h f.0 [] k in
    let end = (read_gates N f.0 (ws ++ []) k).1 in
    let put = map (renumbered (number_in xs (length us))) f.0 in
    let a : read_gates N put us k ≡ (us ++ r.0, end) = ap (λ l. read_gates N put l k) (sym (append-nil us)) ∙ r.1 in
    let b : read_gates N f.0 ws k ≡ (ws ++ r.0, end) = ap (λ l. read_gates N f.0 l k) (sym (append-nil ws)) ∙ r.2 in
    ap (λ (q : List W × K). (wires_at N q.0 q.1 (map (number_in xs (length us)) f.1), q.1)) a
    ∙ ap (λ (l : List W). (l, end)) (answers_read N us ws xs h r.0 end f.1)
    ∙ ap (λ (q : List W × K). (wires_at N q.0 q.1 f.1, q.1)) (sym b)
