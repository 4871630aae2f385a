-- One induction over the rules of joining, for whatever respects them. Assumes nothing.
use Rattle.std.proofs.Common.{◌≡◌, ℕ, ◌<◌, ◌⊎◌, List, Some, sym, refl, ◌∙◌, inl, inr, arith}
use Rattle.std.specs.List.{slice_get}
use Rattle.theory.specs.Meaning.{Meaning}
use Rattle.theory.specs.States.{State, Term, Equation}
use Rattle.theory.specs.Joined.{PairTerm, ListTerm, Joined, equation, reflexive, symmetric, transitive, places, list_meets_pair_first, list_meets_pair_tail, ring, Reaches, next_pair, onward}

-- A function of cells respects the rules: it takes the cells that each rule joins to one value, and from a Pair to its second place the value
-- stays or its measure falls.
pub record Respects (m : Meaning) (s : State) {X : Type 0} (f : ℕ → X) (μ : X → ℕ) : Type 0 where
  pub of_equation : (a b : ℕ) → Equation s a b → f a ≡ f b
  pub of_places : (i j c d k p q : ℕ) (ps qs : List ℕ) → Term s i c ps → Term s j d qs → m.plain c ≡ m.plain d → f i ≡ f j →
      slice_get ps k ≡ Some p → slice_get qs k ≡ Some q → f p ≡ f q
  pub of_list_meets_pair : (i j element first tail : ℕ) → ListTerm m s i element → PairTerm m s j first tail → f i ≡ f j →
      (f element ≡ f first) × (f tail ≡ f j)
  pub of_tail : (i first tail : ℕ) → PairTerm m s i first tail → (f tail ≡ f i) ⊎ (μ (f tail) < μ (f i))

below : {X : Type 0} (μ : X → ℕ) (a b c : X) → (a ≡ b) ⊎ (μ b < μ a) → (b ≡ c) ⊎ (μ c < μ b) → (a ≡ c) ⊎ (μ c < μ a)
below μ a b c (inl p) (inl q) = inl (p ∙ q)
below μ a b c (inl p) (inr q) = inr (rw p q)
below μ a b c (inr p) (inl q) = inr (rw (← q) p)
below μ a b c (inr p) (inr q) = inr (omega arith)

around : {X : Type 0} (μ : X → ℕ) (a b : X) → (a ≡ b) ⊎ (μ b < μ a) → (b ≡ a) ⊎ (μ a < μ b) → a ≡ b
around μ a b (inl p) q = p
around μ a b (inr p) (inl q) = sym q
around μ a b (inr p) (inr q) = absurd (omega arith)

through_tail : {X : Type 0} (μ : X → ℕ) (i tail j : X) → (tail ≡ i) ⊎ (μ tail < μ i) → tail ≡ j → (i ≡ j) ⊎ (μ j < μ i)
through_tail μ i tail j (inl p) e = inl (sym p ∙ e)
through_tail μ i tail j (inr p) e = inr (rw (← e) p)

module _ {m : Meaning} {s : State} {X : Type 0} {f : ℕ → X} {μ : X → ℕ} (respects : Respects m s f μ) where
  mutual
    pub joined_same : {a b : ℕ} → Joined m s a b → f a ≡ f b
    joined_same (equation {a} {b} e) = respects.of_equation a b e
    joined_same reflexive = refl
    joined_same (symmetric j) = sym (joined_same j)
    joined_same (transitive j k) = joined_same j ∙ joined_same k
    joined_same (places k tc td e j hp hq) = respects.of_places _ _ _ _ k _ _ _ _ tc td e (joined_same j) hp hq
    joined_same (list_meets_pair_first l p j) = (respects.of_list_meets_pair _ _ _ _ _ l p (joined_same j)).0
    joined_same (list_meets_pair_tail l p j) = (respects.of_list_meets_pair _ _ _ _ _ l p (joined_same j)).1
    joined_same (ring {i} {j} p q) = around μ (f i) (f j) (reaches_down p) (reaches_down q)

    reaches_down : {i j : ℕ} → Reaches m s i j → (f i ≡ f j) ⊎ (μ (f j) < μ (f i))
    reaches_down (next_pair {i} {j} {first} {tail} p q e) = through_tail μ (f i) (f tail) (f j) (respects.of_tail i first tail p) (joined_same e)
    reaches_down (onward {i} {j} {k} p q) = below μ (f i) (f j) (f k) (reaches_down p) (reaches_down q)
