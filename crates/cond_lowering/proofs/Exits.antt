-- The ways out of a statement: the newest of them, and those of the slots of a block.
use Rattle.std.proofs.Common.{ℕ, zero, suc, ◌+◌, ◌-◌, ◌≡◌, ◌<◌, ◌≤◌, List, [], ◌∷◌, ◌++◌, length, take, drop, get_or, Option, Some, None, Bool, true, false, refl, sym, ap, ◌∙◌, arith, append_assoc, append-nil, length-append, OnOk, Result, Ok, Err}
use Rattle.std.specs.Prelude.{if◌then◌else◌, MatchOption}
use Rattle.std.proofs.lemmas.List.{take_more, take_all, take-append-le, drop-append-le}
use Rattle.std.proofs.Math.Seq.{take-append_seam}
use Rattle.oc_source.specs.declared.spot.Spot.{Spot}
use Rattle.oc_typed.specs.declared.typed.TDeclared.{TDeclared}
use Rattle.oc_code.specs.declared.code.Instr.TheVariants.{Leave}
use Rattle.oc_code.specs.declared.code.Line.{Line}
use Rattle.oc_code.specs.Lower.{line, leave_code, named}
use Rattle.cond_lowering.specs.declared.ways.Exit.{Exit}
use Rattle.cond_lowering.specs.declared.ways.ExitKind.TheVariants.{Slot}
use Rattle.cond_lowering.specs.Ways.{exit_line, is_loop, way, outs, entered}

-- a fact that holds whether there was memory or not
pub anyway : {T E P : Type 0} (r : Result T E) → P → OnOk r P
anyway (Ok x) p = p
anyway (Err e) p = tt

-- the newest way out comes first
pub way_last : (again : Bool) (es : List Exit) (e : Exit) (x : List Line) → way again (es ++ e ∷ []) x ≡ exit_line again e ∷ (if is_loop e.kind then [] else way again es x)
way_last again [] e x = refl
way_last again (f ∷ es) e x = way_last again es e (exit_line again f ∷ (if is_loop f.kind then [] else x))

-- the slots of a block are left, and then the way goes on
pub way_entered : (again : Bool) (es : List Exit) (p : Spot) (ns : List ℕ) (x : List Line) → way again (es ++ entered p ns) x ≡ leave_code p ns ++ way again es x
way_entered again es p [] x = ap (λ fs. way again fs x) (append-nil es)
way_entered again es p (n ∷ ns) x =
    ap (λ fs. way again fs x) (sym (append_assoc es (entered p ns) (record { spot = p; kind = Slot n } ∷ [])))
    ∙ way_last again (es ++ entered p ns) (record { spot = p; kind = Slot n }) x
    ∙ ap (λ l. line p (Leave n) ∷ l) (way_entered again es p ns x)

pub outs_last : (es : List Exit) (e : Exit) → outs (es ++ e ∷ []) ≡ exit_line false e ∷ outs es
outs_last [] e = refl
outs_last (f ∷ es) e = ap (λ l. l ++ exit_line false f ∷ []) (outs_last es e)

pub outs_entered : (p : Spot) (ns : List ℕ) → outs (entered p ns) ≡ leave_code p ns
outs_entered p [] = refl
outs_entered p (n ∷ ns) = outs_last (entered p ns) (record { spot = p; kind = Slot n }) ∙ ap (λ l. line p (Leave n) ∷ l) (outs_entered p ns)

-- the way out, one step on in a loop from the newest to the oldest
module _ (again : Bool) (all : List Exit) (x : List Line) where
  first_way : (k : ℕ) (e : Exit) → 0 < k → k ≤ length all → e ≡ get_or all (k - 1) e → way again (take k all) x ≡ exit_line again e ∷ (if is_loop e.kind then [] else way again (take (k - 1) all) x)
  first_way k e h l q =
      let m : k - 1 < length all = omega (arith, h, l) in
      let i : (k - 1) + 1 ≡ k = omega (arith, h) in
      ap (λ i. way again (take i all) x) (sym i) ∙ ap (λ fs. way again fs x) (take_more all (k - 1) e m) ∙ ap (λ f. way again (take (k - 1) all ++ f ∷ []) x) (sym q)
      ∙ way_last again (take (k - 1) all) e x

  pub way_next : (k : ℕ) (e : Exit) (c0 c1 target : List Line) → 0 < k → k ≤ length all → e ≡ get_or all (k - 1) e → c0 ++ way again (take k all) x ≡ target → c1 ≡ c0 ++ exit_line again e ∷ [] → is_loop e.kind ≡ false
      → c1 ++ way again (take (k - 1) all) x ≡ target
  way_next k e c0 c1 target h l q inv s b =
      ap (λ c. c ++ way again (take (k - 1) all) x) s ∙ append_assoc c0 (exit_line again e ∷ []) (way again (take (k - 1) all) x)
      ∙ ap (λ b. c0 ++ exit_line again e ∷ (if b then [] else way again (take (k - 1) all) x)) (sym b)
      ∙ ap (λ l. c0 ++ l) (sym (first_way k e h l q)) ∙ inv

  pub way_stops : (k : ℕ) (e : Exit) (c0 c1 target : List Line) → 0 < k → k ≤ length all → e ≡ get_or all (k - 1) e → c0 ++ way again (take k all) x ≡ target → c1 ≡ c0 ++ exit_line again e ∷ [] → is_loop e.kind ≡ true
      → c1 ≡ target
  way_stops k e c0 c1 target h l q inv s b =
      s ∙ ap (λ b. c0 ++ exit_line again e ∷ (if b then [] else way again (take (k - 1) all) x)) (sym b)
      ∙ ap (λ l. c0 ++ l) (sym (first_way k e h l q)) ∙ inv

  pub way_ends : (k : ℕ) (c target : List Line) → k ≤ 0 → c ++ way again (take k all) x ≡ target → c ++ x ≡ target
  way_ends k c target h inv = let z : k ≡ 0 = omega (arith, h) in ap (λ i. c ++ way again (take i all) x) (sym z) ∙ inv

-- what was on the way before an exit that is on it no more
pub popped_back : {A : Type 0} (o : Option A) (xs ys zs : List A) (e : A) → ys ≡ xs ++ e ∷ [] → MatchOption o ((ys ≡ []) × (zs ≡ [])) (λ last. ys ≡ zs ++ last ∷ []) → zs ≡ xs
popped_back None xs ys zs e q m = let n : length ys ≡ length xs + 1 = ap length q ∙ length-append xs (e ∷ []) in let z : length ys ≡ 0 = ap length m.0 in absurd (omega (arith, n, z))
popped_back (Some last) xs ys zs e q m =
    let n : length ys ≡ length xs + 1 = ap length q ∙ length-append xs (e ∷ []) in
    let k : length ys ≡ length zs + 1 = ap length m ∙ length-append zs (last ∷ []) in
    let i : length zs ≡ length xs = omega (arith, n, k) in
    sym (take-append_seam zs (last ∷ [])) ∙ ap (λ l. take (length zs) l) (sym m) ∙ ap (λ i. take i ys) i ∙ ap (λ l. take (length xs) l) q ∙ take-append_seam xs (e ∷ [])

-- one more is left, of those entered since a mark
pub leaves_one : (mark : ℕ) (xs ys all : List Exit) (last : Exit) (c0 c1 target : List Line) → ys ≡ xs ++ last ∷ [] → mark < length ys → take mark ys ≡ all → c0 ++ outs (drop mark ys) ≡ target
    → c1 ≡ c0 ++ exit_line false last ∷ [] → (mark ≤ length xs) × (take mark xs ≡ all) × (c1 ++ outs (drop mark xs) ≡ target)
leaves_one mark xs ys all last c0 c1 target q h t inv s =
    let n : length ys ≡ length xs + 1 = ap length q ∙ length-append xs (last ∷ []) in
    let m : mark ≤ length xs = omega (arith, n, h) in (
      m,
      sym (take-append-le mark xs (last ∷ []) m) ∙ ap (λ l. take mark l) (sym q) ∙ t,
      ap (λ c. c ++ outs (drop mark xs)) s ∙ append_assoc c0 (exit_line false last ∷ []) (outs (drop mark xs)) ∙ ap (λ l. c0 ++ l) (sym (outs_last (drop mark xs) last))
          ∙ ap (λ l. c0 ++ outs l) (sym (drop-append-le mark xs (last ∷ []) m)) ∙ ap (λ l. c0 ++ outs (drop mark l)) (sym q) ∙ inv,
    )

-- the last of declared variables is the newest
named_last : (ds : List TDeclared) (d : TDeclared) (xs : List ℕ) → named (ds ++ d ∷ []) xs ≡ d.slot ∷ named ds xs
named_last [] d xs = refl
named_last (f ∷ ds) d xs = named_last ds d (f.slot ∷ xs)

pub leave_next : (p : Spot) (ds : List TDeclared) (k : ℕ) (d : TDeclared) (c0 c1 target : List Line) → 0 < k → k ≤ length ds → d ≡ get_or ds (k - 1) d → c0 ++ leave_code p (named (take k ds) []) ≡ target
    → c1 ≡ c0 ++ line p (Leave d.slot) ∷ [] → c1 ++ leave_code p (named (take (k - 1) ds) []) ≡ target
leave_next p ds k d c0 c1 target h l q inv s =
    let m : k - 1 < length ds = omega (arith, h, l) in
    let i : (k - 1) + 1 ≡ k = omega (arith, h) in
    let more = take_more ds (k - 1) d m in
    ap (λ c. c ++ leave_code p (named (take (k - 1) ds) [])) s ∙ append_assoc c0 (line p (Leave d.slot) ∷ []) (leave_code p (named (take (k - 1) ds) []))
    ∙ ap (λ l. c0 ++ leave_code p l) (sym (named_last (take (k - 1) ds) d []))
    ∙ ap (λ f. c0 ++ leave_code p (named (take (k - 1) ds ++ f ∷ []) [])) q
    ∙ ap (λ fs. c0 ++ leave_code p (named fs [])) (sym more)
    ∙ ap (λ i. c0 ++ leave_code p (named (take i ds) [])) i ∙ inv

pub leave_ends : (p : Spot) (ds : List TDeclared) (k : ℕ) (c target : List Line) → k ≤ 0 → c ++ leave_code p (named (take k ds) []) ≡ target → c ≡ target
leave_ends p ds k c target h inv = let z : k ≡ 0 = omega (arith, h) in sym (append-nil c) ∙ ap (λ i. c ++ leave_code p (named (take i ds) [])) (sym z) ∙ inv

-- one more is entered
pub enter_next : (p : Spot) (ds : List TDeclared) (i : ℕ) (d : TDeclared) (all e0 e1 : List Exit) → i < length ds → d ≡ get_or ds i d → e0 ≡ all ++ entered p (named (take i ds) []) → e1 ≡ e0 ++ record { spot = p; kind = Slot d.slot } ∷ []
    → e1 ≡ all ++ entered p (named (take (i + 1) ds) [])
enter_next p ds i d all e0 e1 h q inv s =
    s ∙ ap (λ l. l ++ record { spot = p; kind = Slot d.slot } ∷ []) inv ∙ append_assoc all (entered p (named (take i ds) [])) (record { spot = p; kind = Slot d.slot } ∷ [])
    ∙ ap (λ ns. all ++ entered p ns) (sym (named_last (take i ds) d []))
    ∙ ap (λ f. all ++ entered p (named (take i ds ++ f ∷ []) [])) q
    ∙ ap (λ fs. all ++ entered p (named fs [])) (sym (take_more ds i d h))

pub enter_ends : (p : Spot) (ds : List TDeclared) (i : ℕ) (all e : List Exit) → length ds ≤ i → e ≡ all ++ entered p (named (take i ds) []) → e ≡ all ++ entered p (named ds [])
enter_ends p ds i all e h inv = inv ∙ ap (λ fs. all ++ entered p (named fs [])) (take_all i ds h)

-- what stands at a place, whatever would stand past the end
any_default : {A : Type 0} (xs : List A) (i : ℕ) (a b : A) → i < length xs → get_or xs i a ≡ get_or xs i b
any_default [] i a b h = absurd (omega arith)
any_default (x ∷ xs) zero a b h = refl
any_default (x ∷ xs) (suc i) a b h = any_default xs i a b (omega arith)

pub one_below : {A : Type 0} (xs : List A) (k : ℕ) (a b : A) → 0 < k → k ≤ length xs → get_or xs (k - 1) a ≡ get_or xs (k - 1) b
one_below xs k a b h l = any_default xs (k - 1) a b (omega (arith, h, l))
