-- Pieces of lists, and fields of one length one after another.
use Rattle.std.proofs.Common.{ℕ, ◌+◌, ◌*◌, ◌^◌, ◌≡◌, ◌<◌, ◌≤◌, List, [], ◌∷◌, ◌++◌, length, take, drop, refl, sym, ap, ◌∙◌, arith, append-nil, length-append}
use Rattle.std.specs.List.{flat_map, AllByRecursion}
use Rattle.std.proofs.lemmas.List.{take-append-drop, length-drop, take_at, drop_at, drop-drop, take_all}
use Rattle.std.proofs.lemmas.List.Concat.{flat_map-append}
use Rattle.std.proofs.Math.Seq.{take-add}
use Rattle.dealt_transfer.specs.Halves.{IsLabel, IsPair}
use Rattle.dealt_transfer.specs.Files.{label_bytes, pair_bytes}
use Rattle.byteorder.specs.Endian.{little_number, little_bytes}
use Rattle.byteorder.specs.Numbers.{little_number-reads_back}
use Rattle.oc_values.proofs.Packs.{IsBytes, IsBytes-drop}
use Rattle.dealt_transfer.proofs.Bytes.{little_bytes-again}

-- what stands from a place on is a piece and what stands behind it
pub piece : (at n : ℕ) (bytes : List ℕ) → drop at bytes ≡ take n (drop at bytes) ++ drop (at + n) bytes
piece at n bytes = sym (take-append-drop n (drop at bytes)) ∙ ap (λ (t : List ℕ). take n (drop at bytes) ++ t) (drop-drop n at bytes)

-- one more field of a list of fields
pub one_more : (at n i : ℕ) (bytes : List ℕ) → take (n * (i + 1)) (drop at bytes) ≡ take (n * i) (drop at bytes) ++ take n (drop (at + n * i) bytes)
one_more at n i bytes =
    let more : n * (i + 1) ≡ n * i + n = grind arith in
    ap (λ (k : ℕ). take k (drop at bytes)) more ∙ take-add (n * i) n (drop at bytes) ∙ ap (λ (t : List ℕ). take (n * i) (drop at bytes) ++ take n t) (drop-drop (n * i) at bytes)

-- all the fields
pub all_fields : (at n : ℕ) (bytes : List ℕ) → length bytes ≡ at + n → take n (drop at bytes) ≡ drop at bytes
all_fields at n bytes e = take_all n (drop at bytes) (omega (arith, length-drop at bytes))

pub all_push : {X : Type 0} (P : X → Type 0) (xs : List X) (x : X) → AllByRecursion P xs → P x → AllByRecursion P (xs ++ x ∷ [])
all_push P [] x h p = (p, tt)
all_push P (y ∷ ys) x h p = (h.0, all_push P ys x h.1 p)

-- ---- labels

-- the label that sixteen bytes make has these bytes
pub label_of_bytes : (bytes : List ℕ) (at label : ℕ) → at + 16 ≤ length bytes → IsBytes bytes → label ≡ little_number 16 (drop at bytes) → label_bytes label ≡ take 16 (drop at bytes)
unfolding label_bytes
label_of_bytes bytes at label long fits e =
    ap (little_bytes 16) e ∙ little_bytes-again 16 0 (drop at bytes) (IsBytes-drop at bytes fits) (omega (arith, long, length-drop at bytes))

pub length-label_bytes : (label : ℕ) → length (label_bytes label) ≡ 16
unfolding label_bytes
length-label_bytes label = refl

label_again : (label : ℕ) → label < 2 ^ 128 → little_number 16 (label_bytes label ++ []) ≡ label
unfolding label_bytes
label_again label h = little_number-reads_back 16 label [] h

label_bytes-injective : (a b : ℕ) → IsLabel a → IsLabel b → label_bytes a ≡ label_bytes b → a ≡ b
label_bytes-injective a b ha hb e = sym (label_again a ha) ∙ ap (λ (t : List ℕ). little_number 16 (t ++ [])) e ∙ label_again b hb

-- two fronts of one length
pub peel : (a b x y : List ℕ) → length a ≡ length b → a ++ x ≡ b ++ y → (a ≡ b) × (x ≡ y)
peel a b x y size e = (
  sym (take_at a x (length a) refl) ∙ ap (take (length a)) e ∙ take_at b y (length a) (sym size),
  sym (drop_at a x (length a) refl) ∙ ap (drop (length a)) e ∙ drop_at b y (length a) (sym size),
)

-- labels with the same bytes are the same
pub labels_same : (xs ys : List ℕ) → AllByRecursion IsLabel xs → AllByRecursion IsLabel ys → flat_map label_bytes xs ≡ flat_map label_bytes ys → xs ≡ ys
labels_same [] [] hx hy e = refl
labels_same [] (y ∷ ys) hx hy e = let n = ap length e in absurd (omega (arith, n, length-append (label_bytes y) (flat_map label_bytes ys), length-label_bytes y))
labels_same (x ∷ xs) [] hx hy e = let n = ap length e in absurd (omega (arith, n, length-append (label_bytes x) (flat_map label_bytes xs), length-label_bytes x))
labels_same (x ∷ xs) (y ∷ ys) hx hy e =
    let p = peel (label_bytes x) (label_bytes y) (flat_map label_bytes xs) (flat_map label_bytes ys) (length-label_bytes x ∙ sym (length-label_bytes y)) e in
    let head : x ≡ y = label_bytes-injective x y hx.0 hy.0 p.0 in
    let rest : xs ≡ ys = labels_same xs ys hx.1 hy.1 p.1 in
    cc

pub length-pair_bytes : (pads : ℕ × ℕ) → length (pair_bytes pads) ≡ 32
length-pair_bytes pads = length-append (label_bytes pads.0) (label_bytes pads.1) ∙ rw (length-label_bytes pads.0, length-label_bytes pads.1) refl

pairs_equal : (p q : ℕ × ℕ) → p.0 ≡ q.0 → p.1 ≡ q.1 → p ≡ q
pairs_equal p q e f = λ i. (e i, f i)

pair_bytes-injective : (p q : ℕ × ℕ) → IsPair p → IsPair q → pair_bytes p ≡ pair_bytes q → p ≡ q
pair_bytes-injective p q hp hq e =
    let both = peel (label_bytes p.0) (label_bytes q.0) (label_bytes p.1) (label_bytes q.1) (length-label_bytes p.0 ∙ sym (length-label_bytes q.0)) e in
    pairs_equal p q (label_bytes-injective p.0 q.0 hp.0 hq.0 both.0) (label_bytes-injective p.1 q.1 hp.1 hq.1 both.1)

pub pairs_same : (xs ys : List (ℕ × ℕ)) → AllByRecursion IsPair xs → AllByRecursion IsPair ys → flat_map pair_bytes xs ≡ flat_map pair_bytes ys → xs ≡ ys
pairs_same [] [] hx hy e = refl
pairs_same [] (y ∷ ys) hx hy e = let n = ap length e in absurd (omega (arith, n, length-append (pair_bytes y) (flat_map pair_bytes ys), length-pair_bytes y))
pairs_same (x ∷ xs) [] hx hy e = let n = ap length e in absurd (omega (arith, n, length-append (pair_bytes x) (flat_map pair_bytes xs), length-pair_bytes x))
pairs_same (x ∷ xs) (y ∷ ys) hx hy e =
    let p = peel (pair_bytes x) (pair_bytes y) (flat_map pair_bytes xs) (flat_map pair_bytes ys) (length-pair_bytes x ∙ sym (length-pair_bytes y)) e in
    let head : x ≡ y = pair_bytes-injective x y hx.0 hy.0 p.0 in
    let rest : xs ≡ ys = pairs_same xs ys hx.1 hy.1 p.1 in
    cc

-- how many bytes labels and pairs have
pub length-labels : (xs : List ℕ) → length (flat_map label_bytes xs) ≡ 16 * length xs
length-labels [] = refl
length-labels (x ∷ xs) = length-append (label_bytes x) (flat_map label_bytes xs) ∙ (let r = length-labels xs in omega (arith, r, length-label_bytes x))

pub length-pairs : (xs : List (ℕ × ℕ)) → length (flat_map pair_bytes xs) ≡ 32 * length xs
length-pairs [] = refl
length-pairs (x ∷ xs) = length-append (pair_bytes x) (flat_map pair_bytes xs) ∙ (let r = length-pairs xs in omega (arith, r, length-pair_bytes x))

-- ---- steps of a loop over fields

-- one more label was read
pub labels_step : (at i label : ℕ) (bytes labels : List ℕ) → flat_map label_bytes labels ≡ take (16 * i) (drop at bytes) → label_bytes label ≡ take 16 (drop (at + 16 * i) bytes)
    → flat_map label_bytes (labels ++ label ∷ []) ≡ take (16 * (i + 1)) (drop at bytes)
labels_step at i label bytes labels e h =
    flat_map-append label_bytes labels (label ∷ []) ∙ ap (λ (t : List ℕ). flat_map label_bytes labels ++ t) (append-nil (label_bytes label))
    ∙ rw (e, h) (sym (one_more at 16 i bytes))

-- one more pair was read
pub pairs_step : (at i first second : ℕ) (bytes : List ℕ) (pairs : List (ℕ × ℕ)) → flat_map pair_bytes pairs ≡ take (32 * i) (drop at bytes)
    → label_bytes first ≡ take 16 (drop (at + 32 * i) bytes) → label_bytes second ≡ take 16 (drop (at + 32 * i + 16) bytes)
    → flat_map pair_bytes (pairs ++ (first, second) ∷ []) ≡ take (32 * (i + 1)) (drop at bytes)
pairs_step at i first second bytes pairs e h k =
    let both : label_bytes first ++ label_bytes second ≡ take 32 (drop (at + 32 * i) bytes) =
    rw (h, k) (ap (λ (t : List ℕ). take 16 (drop (at + 32 * i) bytes) ++ take 16 t) (sym (drop-drop 16 (at + 32 * i) bytes)) ∙ sym (take-add 16 16 (drop (at + 32 * i) bytes))) in
    flat_map-append pair_bytes pairs ((first, second) ∷ []) ∙ ap (λ (t : List ℕ). flat_map pair_bytes pairs ++ t) (append-nil (label_bytes first ++ label_bytes second))
    ∙ rw (e, both) (sym (one_more at 32 i bytes))
