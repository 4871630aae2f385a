-- Pairs whose second place is in their own class. Assumes nothing.
use Rattle.std.proofs.Common.{◌≡◌, ℕ, ◌<◌, ◌⊎◌, List, [], ◌∷◌, Some, refl, ap, ◌∙◌, inl, inr, arith}
use Rattle.std.proofs.Math.Decide.{ℕ_discrete}
use Rattle.std.specs.List.{slice_get}
use Rattle.theory.specs.Meaning.{Layering, flat, layered_by, Meaning}
use Rattle.theory.specs.States.{State, Term}
use Rattle.theory.proofs.Impossible.{impossible}
use Rattle.theory.proofs.Pairwise.{Loops, Pairwise}

-- the term of the code c over `ps` is a Pair whose second place stands in the class r
pub record Looping (m : Meaning) (label : ℕ → ℕ) (r c : ℕ) (ps : List ℕ) : Type 0 where
  pub list : ℕ
  pub first : ℕ
  pub rest : ℕ
  pub named : m.layering ≡ layered_by (m.plain c) list
  pub places : ps ≡ first ∷ rest ∷ []
  pub round : label rest ≡ r

decide_looping_two : (m : Meaning) (label : ℕ → ℕ) (r c pair list h t : ℕ) → m.layering ≡ layered_by pair list → Dec (pair ≡ m.plain c) →
    Dec (label t ≡ r) → Dec (Looping m label r c (h ∷ t ∷ []))
decide_looping_two m label r c pair list h t e (yes p) (yes q) = yes (record { list = list; first = h; rest = t; named = cc; places = refl; round = q })
decide_looping_two m label r c pair list h t e (yes p) (no q) = no (λ l. q (cc))
decide_looping_two m label r c pair list h t e (no p) q = no (λ l. p (cc))

pub decide_looping_in : (m : Meaning) (label : ℕ → ℕ) (r c : ℕ) (ps : List ℕ) (o : Layering) → m.layering ≡ o → Dec (Looping m label r c ps)
decide_looping_in m label r c ps flat e = no (λ l. impossible (cc))
decide_looping_in m label r c [] (layered_by pair list) e = no (λ l. impossible (cc))
decide_looping_in m label r c (h ∷ []) (layered_by pair list) e = no (λ l. impossible (cc))
decide_looping_in m label r c (h ∷ t ∷ []) (layered_by pair list) e = decide_looping_two m label r c pair list h t e (ℕ_discrete pair (m.plain c)) (ℕ_discrete (label t) r)
decide_looping_in m label r c (h ∷ t ∷ u ∷ ps) (layered_by pair list) e = no (λ l. impossible (cc))

module _ {m : Meaning} {s : State} {label rank : ℕ → ℕ} (pairwise : Pairwise m s label rank) where
  -- the classes of the places of any other term are below its own
  pub below_term : (r c : ℕ) (i : ℕ) (ps : List ℕ) → Term s i c ps → label i ≡ r → (Looping m label r c ps → ⊥) → (k p : ℕ) → slice_get ps k ≡ Some p →
      rank (label p) < rank r
  below_term r c i ps stands e n k p at = go (pairwise.falls i c ps stands k p at)
    where
      go : (rank (label p) < rank (label i)) ⊎ Loops m s label i k p → rank (label p) < rank r
      go (inl h) = rw (← e) h
      go (inr l) = absurd (n (record { list = l.pair.list; first = l.first; rest = p; named = l.pair.named ∙ ap (λ c. layered_by (m.plain c) l.pair.list) (cc); places = cc; round = l.round ∙ e }))

  -- and so is the class of the first place
  pub below_first : (r c : ℕ) (i h t : ℕ) → Term s i c (h ∷ t ∷ []) → label i ≡ r → rank (label h) < rank r
  below_first r c i h t stands e = go (pairwise.falls i c (h ∷ t ∷ []) stands 0 h refl)
    where
      go : (rank (label h) < rank (label i)) ⊎ Loops m s label i 0 h → rank (label h) < rank r
      go (inl h) = rw (← e) h
      go (inr l) = let q = l.place in absurd (omega arith)
