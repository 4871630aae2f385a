-- Whether a class of cells has a term. Assumes nothing.
use Rattle.std.proofs.Common.{◌≡◌, ℕ, zero, suc, List, [], ◌∷◌, Some, refl}
use Rattle.std.proofs.Math.Decide.{ℕ_discrete}
use Rattle.std.specs.List.{slice_get}
use Rattle.theory.specs.States.{Cell, unknown, term}
use Rattle.theory.proofs.Impossible.{impossible}

-- a term of the class r, among the cells `cs`
pub record ClassTerm (cs : List Cell) (label : ℕ → ℕ) (r : ℕ) : Type 0 where
  pub cell : ℕ
  pub code : ℕ
  pub places : List ℕ
  pub stands : slice_get cs cell ≡ Some (term code places)
  pub in_class : label cell ≡ r

later_term : (x : Cell) (cs : List Cell) (label : ℕ → ℕ) (r : ℕ) → ((c : ℕ) (ps : List ℕ) → x ≡ term c ps → label 0 ≡ r → ⊥) →
    Dec (ClassTerm cs (λ i. label (suc i)) r) → Dec (ClassTerm (x ∷ cs) label r)
later_term x cs label r n (yes h) = yes (record { cell = suc h.cell; code = h.code; places = h.places; stands = h.stands; in_class = h.in_class })
later_term x cs label r n (no h) = no (λ k. go k.cell k.code k.places k.stands k.in_class)
  where
    go : (i c : ℕ) (ps : List ℕ) → slice_get (x ∷ cs) i ≡ Some (term c ps) → label i ≡ r → ⊥
    go zero c ps e k = n c ps (cc) k
    go (suc i) c ps e k = h (record { cell = i; code = c; places = ps; stands = e; in_class = k })

pub decide_class_term : (cs : List Cell) (label : ℕ → ℕ) (r : ℕ) → Dec (ClassTerm cs label r)
decide_class_term [] label r = no (λ h. let e = h.stands in impossible (cc))
decide_class_term (unknown u ∷ cs) label r = later_term (unknown u) cs label r (λ c ps e k. impossible (cc)) (decide_class_term cs (λ i. label (suc i)) r)
decide_class_term (term c ps ∷ cs) label r = go (ℕ_discrete (label 0) r) (decide_class_term cs (λ i. label (suc i)) r)
  where
    go : Dec (label 0 ≡ r) → Dec (ClassTerm cs (λ i. label (suc i)) r) → Dec (ClassTerm (term c ps ∷ cs) label r)
    go (yes e) d = yes (record { cell = 0; code = c; places = ps; stands = refl; in_class = e })
    go (no n) d = later_term (term c ps) cs label r (λ c ps e k. n k) d
