-- A walk that is done with the changed classes is enough for a new rank. Assumes nothing.
use Rattle.std.proofs.Common.{◌≡◌, ℕ, ◌<◌, ◌⊎◌, List, [], map, Some, sym, refl, ap, ◌∙◌, inl, inr, arith}
use Rattle.std.proofs.Math.Decide.{ℕ_discrete}
use Rattle.std.specs.List.{slice_get}
use Rattle.theory.specs.IfSo.{if_so}
use Rattle.theory.specs.Certificates.{Shape, no_term, over, Falling}
use Rattle.theory.specs.ClassGraph.{parts_of, class_edges}
use Rattle.theory.specs.Walks.{In, DoneInOrder, none_done, done_with}
use Rattle.theory.specs.Changes.{Changed}
use Rattle.theory.proofs.Impossible.{impossible}
use Rattle.theory.proofs.IfSo.{if_so_yes, if_so_no}
use Rattle.theory.proofs.Lookups.{nth_map, map_nth}
use Rattle.theory.proofs.DoneNodesHaveRanks.{done_nodes_have_ranks}
use Rattle.theory.proofs.AboveAll.{above_all, above_all_lt}

module _ {label label' rank : ℕ → ℕ} {shape shape' : ℕ → Shape} {changed done : List ℕ} (falling : Falling label shape rank) (changes : Changed label label' shape shape' changed)
    (is_done : (r : ℕ) → In r changed → label' r ≡ r → In r done) (in_order : DoneInOrder (class_edges label' shape') done) where
  own_label : (q r : ℕ) → label' q ≡ r → label' r ≡ r
  own_label q r e = ap label' (sym e) ∙ changes.label_fixed q ∙ e

  -- the edges of the labels that are their own
  own_edges : ℕ → List ℕ
  own_edges r = if_so (ℕ_discrete (label' r) r) (class_edges label' shape' r) []

  own_edge : (r k y : ℕ) → slice_get (own_edges r) k ≡ Some y → (label' r ≡ r) × (slice_get (class_edges label' shape' r) k ≡ Some y)
  unfolding own_edges
  own_edge r k y e = go (ℕ_discrete (label' r) r) e
    where
      go : (d : Dec (label' r ≡ r)) → slice_get (if_so d (class_edges label' shape' r) []) k ≡ Some y →
          (label' r ≡ r) × (slice_get (class_edges label' shape' r) k ≡ Some y)
      go (yes own) e = (own, ap (λ (xs : List ℕ). slice_get xs k) (sym (if_so_yes (yes own) (class_edges label' shape' r) [] own)) ∙ e)
      go (no n) e = let q = ap (λ (xs : List ℕ). slice_get xs k) (if_so_no (no n) (class_edges label' shape' r) [] n) in impossible (cc)

  edge_own : (r k y : ℕ) → label' r ≡ r → slice_get (class_edges label' shape' r) k ≡ Some y → slice_get (own_edges r) k ≡ Some y
  unfolding own_edges
  edge_own r k y own e = ap (λ (xs : List ℕ). slice_get xs k) (if_so_yes (ℕ_discrete (label' r) r) (class_edges label' shape' r) [] own) ∙ e

  own_in_order : {ds : List ℕ} → DoneInOrder (class_edges label' shape') ds → DoneInOrder own_edges ds
  own_in_order none_done = none_done
  own_in_order (done_with {x = x} f o) = done_with (λ k y e. f k y (own_edge x k y e).1) (own_in_order o)

  -- an edge from a label that is its own falls, or leads from a class that is done or to one
  edge_kind : (r k y : ℕ) → slice_get (own_edges r) k ≡ Some y → In r done ⊎ (In y done ⊎ (rank y < rank r))
  edge_kind r k y e = by_shape (changes.reshaped r (own_edge r k y e).0) (own_edge r k y e).1
    where
      by_shape : (shape' r ≡ shape r) ⊎ In r changed → slice_get (class_edges label' shape' r) k ≡ Some y → In r done ⊎ (In y done ⊎ (rank y < rank r))
      by_shape (inr p) h = inl (is_done r p (own_edge r k y e).0)
      by_shape (inl p) h = inr (by (shape r) refl (ap (λ this. slice_get (map label' (parts_of this)) k) (sym p) ∙ h))
        where
          by : (this : Shape) → shape r ≡ this → slice_get (map label' (parts_of this)) k ≡ Some y → In y done ⊎ (rank y < rank r)
          by no_term i e = impossible (cc)
          by (over d qs) i e = at (map_nth label' qs k y e)
            where
              at : (q : ℕ) × (slice_get qs k ≡ Some q) × (label' q ≡ y) → In y done ⊎ (rank y < rank r)
              at q = side (changes.relabelled q.0)
                where
                  side : (label' q.0 ≡ label q.0) ⊎ In (label' q.0) changed → In y done ⊎ (rank y < rank r)
                  side (inr p) = inl (is_done y (rw q.2 at p) (own_label q.0 y q.2))
                  side (inl p) =
                      let l = falling r d qs i k q.0 q.1 in
                      let s : label q.0 ≡ y = sym p ∙ q.2 in
                      inr (rw s at l)

  own_rank : (rank' : ℕ → ℕ) × ((r k y : ℕ) → slice_get (own_edges r) k ≡ Some y → rank' y < rank' r)
  own_rank = done_nodes_have_ranks done rank (own_in_order in_order) edge_kind

  -- any other label is above all that its shape names
  new_rank : ℕ → ℕ
  new_rank r = if_so (ℕ_discrete (label' r) r) (own_rank.0 r) (above_all (λ q. own_rank.0 (label' q)) (parts_of (shape' r)))

  pub changed_classes_have_ranks : (rank' : ℕ → ℕ) × Falling label' shape' rank'
  unfolding new_rank
  changed_classes_have_ranks = (new_rank, λ r d qs is k q h. go r d qs is k q h (ℕ_discrete (label' r) r))
    where
      there : (q : ℕ) → new_rank (label' q) ≡ own_rank.0 (label' q)
      there q = if_so_yes (ℕ_discrete (label' (label' q)) (label' q)) (own_rank.0 (label' q)) (above_all (λ q. own_rank.0 (label' q)) (parts_of (shape' (label' q)))) (changes.label_fixed q)

      go : (r d : ℕ) (qs : List ℕ) → shape' r ≡ over d qs → (k q : ℕ) → slice_get qs k ≡ Some q → Dec (label' r ≡ r) → new_rank (label' q) < new_rank r
      go r d qs is k q h (yes own) =
          let a = there q in
          let b = if_so_yes (ℕ_discrete (label' r) r) (own_rank.0 r) (above_all (λ q. own_rank.0 (label' q)) (parts_of (shape' r))) own in
          let l = own_rank.1 r k (label' q) (edge_own r k (label' q) own (ap (λ this. slice_get (map label' (parts_of this)) k) is ∙ nth_map label' qs k q h)) in
          omega arith
      go r d qs is k q h (no n) =
          let a = there q in
          let b = if_so_no (ℕ_discrete (label' r) r) (own_rank.0 r) (above_all (λ q. own_rank.0 (label' q)) (parts_of (shape' r))) n in
          let l = above_all_lt (λ q. own_rank.0 (label' q)) qs k q h in
          let c = ap (λ this. above_all (λ q. own_rank.0 (label' q)) (parts_of this)) is in
          omega arith
