-- The product step and its reverse keep the laws of a step.
-- Assumes nothing.
use mathlib.Core.Path.{sym, ◌∙◌}
use Rattle.base.proofs.Bools.{and-no-left, and-no-right, pick_no, by-test}
use Rattle.rules.specs.Probabilities.{in_region, in_block, product_at, quotient_at}
use Rattle.probability_influence.specs.Step.{multiplied_by, divided_by, StepLaws}

pub product-laws : StepLaws product_at multiplied_by
unfolding product_at multiplied_by
product-laws =
    record {
      outside = λ g b p t r c e. pick_no _ _ _ e;
      by-factor = λ g a b p s t r c same f. by-test (in_block g b r c) (λ e. rw (same, e, f e)) (λ e. rw (same, e));
      by-row = λ g b factors p t r c j here same f. by-test (in_block g b r c) (λ e. rw (same, here, e, f e)) (λ e. rw (same, here, e));
    }

pub quotient-laws : StepLaws quotient_at divided_by
unfolding quotient_at divided_by
quotient-laws =
    record {
      outside = λ g b p t r c e. pick_no _ _ _ (and-no-left _ _ (and-no-left _ _ e));
      by-factor =
          λ g a b p s t r c same f.
          by-test (in_block g b r c)
          (λ e. rw (same, e, f e))
          (λ e.
          pick_no _ _ _ (and-no-left _ _ (and-no-right (in_region g r c) _ (same ∙ e)))
          ∙ sym (pick_no _ _ _ (and-no-left _ _ (and-no-right (in_region g r c) _ e))));
      by-row = λ g b factors p t r c j here same f. by-test (in_block g b r c) (λ e. rw (same, here, e, f e)) (λ e. rw (same, here, e));
    }
