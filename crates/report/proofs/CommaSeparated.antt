-- Values with commas between, one value longer. Assumes nothing.
use Rattle.std.proofs.Common.{◌≡◌, ℕ, List, [], ◌∷◌, ◌++◌, map, codes, refl, ap, ◌∙◌, append_assoc}
use Rattle.report.specs.Texts.{comma_separated_text}

-- what stands before the next value
abbrev pub separator_after : {X : Type 0} → List X → List ℕ
separator_after [] = []
separator_after (value ∷ values) = codes ", "

module _ {X : Type 0} (value : X) where
  pub separator_more : (values : List X) → codes ", " ≡ separator_after (values ++ value ∷ [])
  separator_more [] = refl
  separator_more (first ∷ values) = refl

  pub separated_more : (text : X → List ℕ) (values : List X) →
      comma_separated_text (map text values) ++ (separator_after values ++ text value) ≡ comma_separated_text (map text (values ++ value ∷ []))
  separated_more text [] = refl
  separated_more text (first ∷ []) = refl
  separated_more text (first ∷ next ∷ values) =
      (simp append_assoc refl) ∙ ap (λ rest. text first ++ (codes ", " ++ rest)) (separated_more text (next ∷ values))
