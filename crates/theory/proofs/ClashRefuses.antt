-- Two codes in one class, or a type inside itself, leave no assignment. Assumes nothing.
use Rattle.std.proofs.Common.{◌≡◌, ℕ, zero, suc, ◌<◌, ◌≤◌, Bool, true, false, ◌||◌, ◌⊎◌, List, [], ◌∷◌, Some, sym, refl, ap, ◌∙◌, inl, inr, arith}
use Rattle.std.specs.List.{slice_get}
use Rattle.theory.specs.Meaning.{layered_by, Meaning, Lawful}
use Rattle.theory.specs.Types.{Tree, size, two, types, list_of, build}
use Rattle.theory.specs.States.{State, Term}
use Rattle.theory.specs.Assignments.{AssignsUnclassed}
use Rattle.theory.specs.Refusals.{Inside, at_place, at_tail, at_joined, inner, Clash, two_codes, inside_itself}
use Rattle.theory.proofs.Impossible.{impossible}
use Rattle.theory.proofs.Builds.{Built, folds, stays, built, build_tail}
use Rattle.theory.proofs.TypesOfCells.{size_at}
use Rattle.theory.proofs.Soundness.{joined_cells_have_one_type, joined_terms_agree}

-- the sizes of the types that `Inside` speaks of
abbrev Falls : Bool → Tree → Tree → Type 0
Falls true t u = size u < size t
Falls false t u = size u ≤ size t

falls_inner : (a b : Bool) (t u v : Tree) → Falls a t u → Falls b u v → Falls (a || b) t v
falls_inner true true t u v p q = omega arith
falls_inner true false t u v p q = omega arith
falls_inner false true t u v p q = omega arith
falls_inner false false t u v p q = omega arith

module _ {m : Meaning} (lawful : Lawful m) {s : State} {type_of : ℕ → Tree} (assigns : AssignsUnclassed m s type_of) where
  place_falls : (i c k p : ℕ) (ps : List ℕ) → Term s i c ps → slice_get ps k ≡ Some p →
      ((list : ℕ) → m.layering ≡ layered_by (m.plain c) list → k ≡ 1 → ⊥) →
      size (type_of p) < size (type_of i)
  place_falls i c k p ps t at not_tail = rw (assigns.terms i c ps t) (go (built m (m.plain c) (types type_of ps)))
    where
      first_type : (qs : List ℕ) (j : ℕ) (h u : Tree) → types type_of qs ≡ two h u → slice_get qs j ≡ Some p → (j ≡ 1 → ⊥) → type_of p ≡ h
      first_type [] j h u e a n = impossible (cc)
      first_type (x ∷ qs) zero h u e a n = cc
      first_type (x ∷ []) (suc j) h u e a n = impossible (cc)
      first_type (x ∷ y ∷ qs) (suc zero) h u e a n = absurd (n refl)
      first_type (x ∷ y ∷ []) (suc (suc j)) h u e a n = impossible (cc)
      first_type (x ∷ y ∷ v ∷ qs) (suc (suc j)) h u e a n = impossible (cc)

      go : Built m (m.plain c) (types type_of ps) (build m (m.plain c) (types type_of ps)) →
          size (type_of p) < size (build m (m.plain c) (types type_of ps))
      go (folds list h e q r) = let a = first_type ps k h (list_of list h) q at (not_tail list e) in rw (r, a) (omega arith)
      go (stays o r) = let b = size_at type_of ps k p at in rw r (omega arith)

  inside_falls : {a : Bool} {i j : ℕ} → Inside m s a i j → Falls a (type_of i) (type_of j)
  inside_falls (at_place {i} {c} {p} {ps} k t at n) = place_falls i c k p ps t at n
  inside_falls (at_tail {i} {first} {tail} p) = go (build_tail lawful (m.plain p.code) (type_of first) (type_of tail))
    where
      go : (type_of tail ≡ build m (m.plain p.code) (two (type_of first) (type_of tail))) ⊎ (size (type_of tail) < size (build m (m.plain p.code) (two (type_of first) (type_of tail)))) →
          size (type_of tail) ≤ size (type_of i)
      go (inl e) = let x : size (type_of tail) ≡ size (type_of i) = ap size (e ∙ sym (assigns.terms i p.code _ p.stands)) in omega arith
      go (inr l) = let x = ap size (assigns.terms i p.code _ p.stands) in omega arith
  inside_falls (at_joined j) = let x = ap size (joined_cells_have_one_type lawful assigns j) in omega arith
  inside_falls (inner {a} {b} {i} {j} {k} x y) = falls_inner a b (type_of i) (type_of j) (type_of k) (inside_falls x) (inside_falls y)

  pub clash_refuses : Clash m s → ⊥
  clash_refuses (two_codes i j c d ps qs ti tj joined differ) = differ (joined_terms_agree lawful assigns i j c d ps qs ti tj joined)
  clash_refuses (inside_itself i h) = let x = inside_falls h in omega arith
