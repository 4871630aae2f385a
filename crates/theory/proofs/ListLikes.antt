-- Cells joined to a list-like cell are List over joined elements. Assumes nothing.
use Rattle.std.proofs.Common.{◌≡◌, ℕ, refl}
use Rattle.theory.specs.Meaning.{layered_by, Meaning}
use Rattle.theory.specs.States.{State}
use Rattle.theory.specs.Joined.{PairTerm, ListTerm, Joined, symmetric, transitive, places, list_meets_pair_first}
use Rattle.theory.specs.ListLike.{ListLike, joined_list, joined_loop}
use Rattle.theory.specs.Listings.{WithoutTerm}

module _ {m : Meaning} {s : State} where
  -- what is joined to a List is one
  pub list_like_along : {i i' list e : ℕ} → Joined m s i i' → ListLike m s i list e → ListLike m s i' list e
  list_like_along g (joined_list j pair c a t p l) = joined_list j pair c (transitive (symmetric g) a) t p l
  list_like_along g (joined_loop j u c a t l r) = joined_loop j u c (transitive (symmetric g) a) t l r

  -- and Lists that are joined are of one code, over joined elements
  pub list_like_one : {i i' list list' e e' : ℕ} → Joined m s i i' → ListLike m s i list e → ListLike m s i' list' e' →
      (list ≡ list') × Joined m s e e'
  list_like_one g (joined_list j pair c a t p l) (joined_list j' pair' c' a' t' p' l') = (cc, places 0 t t' (cc) (transitive (symmetric a) (transitive g a')) refl refl)
  list_like_one g (joined_list j pair c a t p l) (joined_loop j' u' c' a' t' l' r') =
      let x : ListTerm m s j _ = record { code = c; pair = pair; named = cc; stands = t } in
      let y : PairTerm m s j' _ u' = record { code = c'; list = _; named = l'; stands = t' } in
      (cc, list_meets_pair_first x y (transitive (symmetric a) (transitive g a')))
  list_like_one g (joined_loop j u c a t l r) (joined_list j' pair' c' a' t' p' l') =
      let x : ListTerm m s j' _ = record { code = c'; pair = pair'; named = cc; stands = t' } in
      let y : PairTerm m s j _ u = record { code = c; list = _; named = l; stands = t } in
      (cc, symmetric (list_meets_pair_first x y (symmetric (transitive (symmetric a) (transitive g a')))))
  list_like_one g (joined_loop j u c a t l r) (joined_loop j' u' c' a' t' l' r') = (cc, places 0 t t' (cc) (transitive (symmetric a) (transitive g a')) refl refl)

  pub list_like_not_without : {i i' list e : ℕ} → Joined m s i i' → ListLike m s i list e → WithoutTerm m s i' → ⊥
  list_like_not_without g (joined_list j pair c a t p l) n = n j c _ (transitive (symmetric g) a) t
  list_like_not_without g (joined_loop j u c a t l r) n = n j c _ (transitive (symmetric g) a) t

  pub list_like_named : {i list e : ℕ} → ListLike m s i list e → (pair : ℕ) × (m.layering ≡ layered_by pair list)
  list_like_named (joined_list j pair c a t p l) = (pair, l)
  list_like_named (joined_loop j u c a t l r) = (m.plain c, l)
