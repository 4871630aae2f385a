-- A text has exactly one longest front whose bytes have a property, if that can be told of each byte. Assumes nothing.
use Rattle.std.proofs.Common.{◌≡◌, ◌↔◌, ℕ, true, false, List, [], ◌∷◌, ◌++◌, IsTrue, All, IfSome, slice_get, sym, refl, subst}
use Rattle.std.proofs.lemmas.List.Elements.{All-nil, All-cons, All-head, All-tail}
use Rattle.words.specs.Reading.{Stops, Longest}

pub one_longest : (P : ℕ → Type 0) (v w t u : List ℕ) → v ++ t ≡ w ++ u → Longest P v t → Longest P w u → (v ≡ w) × (t ≡ u)
one_longest P [] [] t u e p q = (refl, e)
one_longest P [] (b ∷ w) t u e p q = absurd (subst (Stops P) e p.stops (All-head P b w q.all))
one_longest P (a ∷ v) [] t u e p q = absurd (subst (Stops P) (sym e) q.stops (All-head P a v p.all))
one_longest P (a ∷ v) (b ∷ w) t u e p q =
    let rest = one_longest P v w t u (cc) (record { all = All-tail P a v p.all; stops = p.stops }) (record { all = All-tail P b w q.all; stops = q.stops }) in
    (cc (rest.0, e), rest.1)

pub cut : (P : ℕ → Type 0) → ((b : ℕ) → Dec (P b)) → (text : List ℕ) → (front rest : List ℕ) × (text ≡ front ++ rest) × Longest P front rest
cut P has [] = ([], [], refl, record { all = All-nil P; stops = tt })
cut P has (b ∷ bs) =
    elim (has b) [
      | yes h ↦ let (front, rest, e, l) = cut P has bs in (b ∷ front, rest, (cc e), record { all = All-cons P b front h l.all; stops = l.stops })
      | no h ↦ ([], b ∷ bs, refl, record { all = All-nil P; stops = h })
    ]

-- a test of the property was true of each byte of the front, and false of the next
pub longest_by_test : (P : ℕ → Type 0) (front rest : List ℕ) → All (λ b. IsTrue true ↔ P b) front → IfSome (slice_get rest 0) (λ b. IsTrue false ↔ P b) → Longest P front rest
longest_by_test P front rest a s = record { all = λ k d l. (a k d l).0 refl; stops = go rest s }
  where
    go : (rest : List ℕ) → IfSome (slice_get rest 0) (λ b. IsTrue false ↔ P b) → Stops P rest
    go [] s = tt
    go (b ∷ rest) s = λ p. (cc (s.1 p))
