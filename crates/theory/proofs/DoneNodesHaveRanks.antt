-- The nodes that a walk is done with have a rank that falls along edges. Assumes nothing.
use Rattle.std.proofs.Common.{◌≡◌, ℕ, suc, ◌+◌, ◌<◌, ◌≤◌, ◌⊎◌, List, [], ◌∷◌, length, Some, sym, ap, ◌∙◌, inl, inr, arith}
use Rattle.std.specs.List.{slice_get}
use Rattle.theory.specs.IfSo.{if_so}
use Rattle.theory.specs.Walks.{In, DoneInOrder, none_done, done_with}
use Rattle.theory.proofs.IfSo.{if_so_yes, if_so_no}
use Rattle.theory.proofs.Members.{decide_in, in_rest, in_split, in_none}

-- how many nodes had been done with x, by its last place in the list
rank_in : List ℕ → ℕ → ℕ
rank_in [] x = 0
rank_in (d ∷ ds) x = if_so (decide_in x ds) (rank_in ds x) (suc (length ds))

rank_in_le : (ds : List ℕ) (x : ℕ) → rank_in ds x ≤ length ds
unfolding rank_in
rank_in_le [] x = omega arith
rank_in_le (d ∷ ds) x = go (rank_in_le ds x) (decide_in x ds)
  where
    go : rank_in ds x ≤ length ds → (p : Dec (In x ds)) → if_so p (rank_in ds x) (suc (length ds)) ≤ suc (length ds)
    go h (yes p) = rw (if_so_yes (yes p) (rank_in ds x) (suc (length ds)) p) (omega arith)
    go h (no p) = rw (if_so_no (no p) (rank_in ds x) (suc (length ds)) p) (omega arith)

module _ {edges : ℕ → List ℕ} where
  in_falls : {ds : List ℕ} → DoneInOrder edges ds → (x : ℕ) → In x ds → (k y : ℕ) → slice_get (edges x) k ≡ Some y →
      In y ds × (rank_in ds y < rank_in ds x)
  unfolding rank_in
  in_falls none_done x p k y e = in_none x p
  in_falls (done_with {x = d} {done = ds} f o) x p k y e = go (λ q. in_falls o x q k y e) (decide_in x ds)
    where
      go : (In x ds → In y ds × (rank_in ds y < rank_in ds x)) → (q : Dec (In x ds)) →
          In y (d ∷ ds) × (if_so (decide_in y ds) (rank_in ds y) (suc (length ds)) < if_so q (rank_in ds x) (suc (length ds)))
      go rec (yes q) =
          let r = rec q in
          let a = if_so_yes (decide_in y ds) (rank_in ds y) (suc (length ds)) r.0 in
          let b = if_so_yes (yes q) (rank_in ds x) (suc (length ds)) q in
          (in_rest y d ds r.0, let l = r.1 in omega arith)
      go rec (no q) = first (in_split x d ds p)
        where
          first : (x ≡ d) ⊎ In x ds →
              In y (d ∷ ds) × (if_so (decide_in y ds) (rank_in ds y) (suc (length ds)) < if_so (no q) (rank_in ds x) (suc (length ds)))
          first (inl s) =
              let i = f k y (ap (λ z. slice_get (edges z) k) (sym s) ∙ e) in
              let a = if_so_yes (decide_in y ds) (rank_in ds y) (suc (length ds)) i in
              let b = if_so_no (no q) (rank_in ds x) (suc (length ds)) q in
              let l = rank_in_le ds y in
              (in_rest y d ds i, omega arith)
          first (inr s) = absurd (q s)

  pub done_nodes_have_ranks : (done : List ℕ) (old : ℕ → ℕ) → DoneInOrder edges done →
      ((r k y : ℕ) → slice_get (edges r) k ≡ Some y → In r done ⊎ (In y done ⊎ (old y < old r))) →
      (rank : ℕ → ℕ) × ((r k y : ℕ) → slice_get (edges r) k ≡ Some y → rank y < rank r)
  done_nodes_have_ranks done old o h = ((λ x. if_so (decide_in x done) (rank_in done x) (suc (length done) + old x)), λ r k y e. go r k y e (decide_in r done) (decide_in y done) (h r k y e))
    where
      go : (r k y : ℕ) → slice_get (edges r) k ≡ Some y → (p : Dec (In r done)) (q : Dec (In y done)) → In r done ⊎ (In y done ⊎ (old y < old r)) →
          if_so q (rank_in done y) (suc (length done) + old y) < if_so p (rank_in done r) (suc (length done) + old r)
      go r k y e (yes p) q c =
          let f = in_falls o r p k y e in
          let a = if_so_yes q (rank_in done y) (suc (length done) + old y) f.0 in
          let b = if_so_yes (yes p) (rank_in done r) (suc (length done) + old r) p in
          let l = f.1 in
          omega arith
      go r k y e (no p) (yes q) c =
          let a = if_so_yes (yes q) (rank_in done y) (suc (length done) + old y) q in
          let b = if_so_no (no p) (rank_in done r) (suc (length done) + old r) p in
          let l = rank_in_le done y in
          omega arith
      go r k y e (no p) (no q) c =
          let a = if_so_no (no q) (rank_in done y) (suc (length done) + old y) q in
          let b = if_so_no (no p) (rank_in done r) (suc (length done) + old r) p in
          let l : old y < old r = last c in
          omega arith
        where
          last : In r done ⊎ (In y done ⊎ (old y < old r)) → old y < old r
          last (inl x) = absurd (p x)
          last (inr (inl x)) = absurd (q x)
          last (inr (inr x)) = x
