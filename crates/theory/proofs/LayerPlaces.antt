-- A term of Pair has two places, and a term of List one. Assumes nothing.
use Rattle.std.proofs.Common.{◌≡◌, ℕ, List, [], ◌∷◌, length, sym, refl, ◌∙◌, arith}
use Rattle.theory.specs.Meaning.{layered_by, Meaning, Lawful}
use Rattle.theory.specs.States.{State, Term, Formed}
use Rattle.theory.proofs.Layers.{layers_of}

pub two_places : (ps : List ℕ) → length ps ≡ 2 → (first : ℕ) × (tail : ℕ) × (ps ≡ first ∷ tail ∷ [])
two_places [] e = absurd (omega arith)
two_places (first ∷ []) e = absurd (omega arith)
two_places (first ∷ tail ∷ []) e = (first, tail, refl)
two_places (first ∷ tail ∷ p ∷ ps) e = absurd (omega arith)

pub one_place : (ps : List ℕ) → length ps ≡ 1 → (element : ℕ) × (ps ≡ element ∷ [])
one_place [] e = absurd (omega arith)
one_place (element ∷ []) e = (element, refl)
one_place (element ∷ p ∷ ps) e = absurd (omega arith)

module _ {m : Meaning} (lawful : Lawful m) {s : State} (formed : Formed m s) where
  pub term_width : (i c : ℕ) (ps : List ℕ) → Term s i c ps → length ps ≡ m.places (m.plain c)
  term_width i c ps t = formed.term_places i c ps t ∙ sym (lawful.plain_places c (formed.term_known i c ps t))

  pub pair_places : (i c list : ℕ) (ps : List ℕ) → Term s i c ps → m.layering ≡ layered_by (m.plain c) list →
      (first : ℕ) × (tail : ℕ) × (ps ≡ first ∷ tail ∷ [])
  pair_places i c list ps t named = two_places ps (term_width i c ps t ∙ (layers_of lawful (m.plain c) list named).pair_places)

  pub list_places : (i c pair : ℕ) (ps : List ℕ) → Term s i c ps → m.layering ≡ layered_by pair (m.plain c) → (element : ℕ) × (ps ≡ element ∷ [])
  list_places i c pair ps t named = one_place ps (term_width i c ps t ∙ (layers_of lawful pair (m.plain c) named).list_places)
