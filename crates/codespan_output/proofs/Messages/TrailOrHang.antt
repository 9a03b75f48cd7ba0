-- For `each_message_trails_or_hangs`: each label with a message trails or hangs, and none does
-- both.
use Rattle.codespan_core.proofs.Std.{◌≡◌, ℕ, ◌+◌, Bool, true, false, cond, List, []}
use Rattle.codespan_core.proofs.Std.{◌∷◌, ◌++◌, filter, sum_by, Option, Some, None}
use Rattle.codespan_core.proofs.Std.{if◌then◌else◌, refl, ap, ap₂, sym, not, ◌∙◌}
use Rattle.codespan_core.proofs.Std.{arith, and_parts, filter-append, sum_by-cons, sum_by-append}
use Rattle.codespan_core.specs.Labels.{LabelModel, has_message}
use Rattle.codespan_output.specs.{max_label_end, TrailsOrHangs, with_first, trailing_label}
use Rattle.codespan_output.specs.{hanging_labels}
use Rattle.codespan_output.proofs.Messages.Pass.{Around, others, around_trails, around_rightmost}
use Rattle.codespan_output.proofs.Messages.Pass.{trailing_of, hanging_of, around_is, some_rightmost}
use Rattle.codespan_output.proofs.Messages.Rightmost.{trailing_is, hanging_is}
use Rattle.codespan_output.specs.Private.{overlaps_any}

-- ---- the trailing label among the hanging ones

pub trails_or_hangs : (labels : List LabelModel) → TrailsOrHangs labels
trails_or_hangs [] = record { before = []; after = []; hang = refl; with_message = refl }
trails_or_hangs (x ∷ xs) = by_rightmost (around_rightmost (x ∷ xs)) refl
  where
    with : List LabelModel → List LabelModel
    with = filter has_message

    by_test : (a : Around) → a.before ++ (a.here ∷ a.after) ≡ x ∷ xs → (b : Bool)
        → around_trails a ≡ b
        → trailing_label (x ∷ xs) ≡ (if b then Some a.here else None)
        → hanging_labels (x ∷ xs) ≡ with (if b then others a else x ∷ xs)
        → TrailsOrHangs (x ∷ xs)
    by_test a whole true is trails hangs =
        let has_one : has_message a.here ≡ true =
        (and_parts (has_message a.here) (not (overlaps_any a.here (others a))) is).0 in
        let from_here : with (a.here ∷ a.after) ≡ a.here ∷ with a.after =
        ap (λ b. cond b (a.here ∷ with a.after) (with a.after)) has_one in
        record {
          before = with a.before;
          after = with a.after;
          hang = hangs ∙ filter-append has_message a.before a.after;
          with_message =
              ap with (sym whole) ∙ filter-append has_message a.before (a.here ∷ a.after)
              ∙ ap (λ ys. with a.before ++ ys) from_here
              ∙ ap (λ o. with a.before ++ with_first o (with a.after)) (sym trails);
        }
    by_test a whole false is trails hangs = record {
      before = [];
      after = with (x ∷ xs);
      hang = hangs;
      with_message = ap (λ o. with_first o (with (x ∷ xs))) (sym trails);
    }

    by_rightmost : (r : Option Around) → around_rightmost (x ∷ xs) ≡ r
        → TrailsOrHangs (x ∷ xs)
    by_rightmost None none = absurd (some_rightmost x xs none)
    by_rightmost (Some a) is =
        by_test a (around_is (max_label_end (x ∷ xs)) (x ∷ xs) a is) (around_trails a) refl
        (trailing_is (x ∷ xs) ∙ ap trailing_of is)
        (hanging_is (x ∷ xs) ∙ ap (hanging_of (x ∷ xs)) is)

-- ---- sums over labels

-- the weight of an optional label, 0 where there is none
abbrev pub weight_of : (LabelModel → ℕ) → Option LabelModel → ℕ
weight_of weight None = 0
weight_of weight (Some x) = weight x

module _ (weight : LabelModel → ℕ)
    (only_messages : (x : LabelModel) → has_message x ≡ false → weight x ≡ 0) where
  sum_of-filter : (xs : List LabelModel)
      → sum_by weight (filter has_message xs) ≡ sum_by weight xs
  sum_of-filter [] = refl
  sum_of-filter (x ∷ xs) = by_test (sum_of-filter xs) (has_message x) refl
    where
      by_test : sum_by weight (filter has_message xs) ≡ sum_by weight xs → (b : Bool)
          → has_message x ≡ b
          → sum_by weight (cond b (x ∷ filter has_message xs) (filter has_message xs))
          ≡ sum_by
          weight (x ∷ xs)
      by_test rest true is =
          omega (arith, rest, sum_by-cons weight x (filter has_message xs), sum_by-cons weight x xs)
      by_test rest false is = omega (arith, rest, only_messages x is, sum_by-cons weight x xs)

  -- where a label without a message has the weight 0, the trailing label and the hanging ones have
  -- the weight of all labels
  pub trailing_and_hanging : (labels : List LabelModel)
      → weight_of weight (trailing_label labels) + sum_by weight (hanging_labels labels)
      ≡ sum_by
      weight labels
  trailing_and_hanging [] = refl
  trailing_and_hanging (x ∷ xs) =
      ap₂ (λ t h. weight_of weight t + sum_by weight h) (trailing_is (x ∷ xs))
      (hanging_is (x ∷ xs))
      ∙ by_rightmost (around_rightmost (x ∷ xs)) refl
    where
      by_test : (a : Around) → a.before ++ (a.here ∷ a.after) ≡ x ∷ xs → (b : Bool)
          → weight_of weight (if b then Some a.here else None) + sum_by weight
          (filter has_message (if b then others a else x ∷ xs)) ≡ sum_by weight (x ∷ xs)
      by_test a whole true =
          let all = ap (sum_by weight) whole in
          omega (
            arith,
            all,
            sum_of-filter (others a),
            sum_by-append weight a.before a.after,
            sum_by-append weight a.before (a.here ∷ a.after),
            sum_by-cons weight a.here a.after,
          )
      by_test a whole false = omega (arith, sum_of-filter (x ∷ xs))

      by_rightmost : (r : Option Around) → around_rightmost (x ∷ xs) ≡ r
          → weight_of weight (trailing_of r) + sum_by weight (hanging_of (x ∷ xs) r)
          ≡ sum_by weight
          (x ∷ xs)
      by_rightmost None none = absurd (some_rightmost x xs none)
      by_rightmost (Some a) is =
          by_test a (around_is (max_label_end (x ∷ xs)) (x ∷ xs) a is) (around_trails a)
