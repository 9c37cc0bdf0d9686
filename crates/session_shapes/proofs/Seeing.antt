-- Known integers don't show in the shape of events.
use Rattle.std.proofs.Common.{◌≡◌, refl, ap, ◌∙◌, List, [], ◌∷◌}
use Rattle.std.specs.Prelude.{ℤ, ◌+◌, ◌++◌, map}
use Rattle.oc_values.specs.declared.integers.IntKind.{IntKind}
use Rattle.oc_meanings.specs.Events.{Entry, Feed, Op, One, Turn, ShiftBy, Pick, Reveal, Give, Print}
use Rattle.session_shapes.specs.Gates.{ands}
use Rattle.session_shapes.specs.Shapes.{frames_of, frames_of_all, ands_of_all, first_frames, last_frames}
use Rattle.session_shapes.specs.Laws.{blank, ShapesSeeNoValue}

module _ (f : IntKind → ℤ → ℤ) where
  same_frames : (e : Entry) → frames_of (blank f e) ≡ frames_of e
  same_frames (Feed party k i) = refl
  same_frames (Op op k x y) = refl
  same_frames (One op k x) = refl
  same_frames (Turn from to x) = refl
  same_frames (ShiftBy op k x n) = refl
  same_frames (Pick k e new old) = refl
  same_frames (Reveal k x) = refl
  same_frames (Give party k x) = refl
  same_frames (Print bytes) = refl

  same_ands : (e : Entry) → ands (blank f e) ≡ ands e
  same_ands (Feed party k i) = refl
  same_ands (Op op k x y) = refl
  same_ands (One op k x) = refl
  same_ands (Turn from to x) = refl
  same_ands (ShiftBy op k x n) = refl
  same_ands (Pick k e new old) = refl
  same_ands (Reveal k x) = refl
  same_ands (Give party k x) = refl
  same_ands (Print bytes) = refl

  pub all_frames : (es : List Entry) → frames_of_all (map (blank f) es) ≡ frames_of_all es
  all_frames [] = refl
  all_frames (e ∷ es) = ap (λ l. l ++ frames_of_all (map (blank f) es)) (same_frames e) ∙ ap (λ l. frames_of e ++ l) (all_frames es)

  pub all_ands : (es : List Entry) → ands_of_all (map (blank f) es) ≡ ands_of_all es
  all_ands [] = refl
  all_ands (e ∷ es) = ap (λ n. n + ands_of_all (map (blank f) es)) (same_ands e) ∙ ap (λ n. ands e + n) (all_ands es)

pub see_no_value : ShapesSeeNoValue
see_no_value = record {
  shapes = λ f es. ap (λ l. first_frames ++ l ++ last_frames) (all_frames f es);
  counts = λ f es. all_ands f es;
}
