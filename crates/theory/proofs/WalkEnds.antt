-- The walk comes to its end, or there is a cycle. Assumes nothing.
use Rattle.std.proofs.Common.{◌≡◌, ℕ, zero, suc, ◌+◌, ◌*◌, ◌<◌, ◌≤◌, ◌⊎◌, List, ◌∷◌, ◌++◌, length, Some, inl, inr, mul-le-mul_left, arith}
use Rattle.std.specs.List.{slice_get}
use Rattle.theory.specs.Walks.{In, Cycle, DoneInOrder, Stack, bottom, frame, nodes, Walking, Walked, walk_measure}
use Rattle.theory.proofs.Lookups.{nth_below, nth_or_past}
use Rattle.theory.proofs.Members.{decide_in, in_first, in_rest, in_split, in_none, in_front, in_back, in_either, outside, outside_more, outside_new}
use Rattle.theory.proofs.WalkMoves.{walk_pop, walk_advance, walk_push, walk_round}

module _ (edges : ℕ → List ℕ) (n most : ℕ) (low : (r k y : ℕ) → slice_get (edges r) k ≡ Some y → y < n) (few : (r : ℕ) → length (edges r) ≤ most) where
  abbrev measure : Stack → List ℕ → ℕ
  measure stack done = walk_measure most (outside (nodes stack ++ done) n) stack

  abbrev NodesBelow : Stack → Type 0
  NodesBelow stack = (x : ℕ) → In x (nodes stack) → x < n

  walk : (f : ℕ) (stack : Stack) (done : List ℕ) → NodesBelow stack → Walking edges done stack → DoneInOrder edges done → measure stack done < f →
      Walked edges stack done ⊎ Cycle edges n
  walk zero stack done st c o h = absurd (omega arith)
  walk (suc f) bottom done st c o h =
      inl (record { all_done = done; in_order = o; keeps_done = λ x p. p; stack_done = λ x p. in_none x p })
  walk (suc f) (frame x k below) done st c o h =
      at (λ stack done st c o h. walk f stack done st c o h) (nth_or_past (edges x) k)
    where
      popped : Walked edges below (x ∷ done) ⊎ Cycle edges n → Walked edges (frame x k below) done ⊎ Cycle edges n
      popped (inr r) = inr r
      popped (inl v) = inl (record { all_done = v.all_done; in_order = v.in_order; keeps_done = λ z p. v.keeps_done z (in_rest z x done p); stack_done = λ z p. side z (in_split z x (nodes below) p) })
        where
          side : (z : ℕ) → (z ≡ x) ⊎ In z (nodes below) → In z v.all_done
          side z (inl e) = v.keeps_done z (in_first z done e)
          side z (inr q) = v.stack_done z q

      advanced : Walked edges (frame x (suc k) below) done ⊎ Cycle edges n → Walked edges (frame x k below) done ⊎ Cycle edges n
      advanced (inr r) = inr r
      advanced (inl v) = inl (record { all_done = v.all_done; in_order = v.in_order; keeps_done = v.keeps_done; stack_done = v.stack_done })

      pushed : {y : ℕ} → Walked edges (frame y 0 (frame x k below)) done ⊎ Cycle edges n → Walked edges (frame x k below) done ⊎ Cycle edges n
      pushed (inr r) = inr r
      pushed (inl v) = inl (record { all_done = v.all_done; in_order = v.in_order; keeps_done = v.keeps_done; stack_done = λ z p. v.stack_done z (suc p.0, p.1) })

      moved : (z : ℕ) → In z (x ∷ (nodes below ++ done)) → In z (nodes below ++ (x ∷ done))
      moved z p = side (in_split z x (nodes below ++ done) p)
        where
          side : (z ≡ x) ⊎ In z (nodes below ++ done) → In z (nodes below ++ (x ∷ done))
          side (inl e) = in_back z (nodes below) (x ∷ done) (in_first z done e)
          side (inr q) = deep (in_either z (nodes below) done q)
            where
              deep : In z (nodes below) ⊎ In z done → In z (nodes below ++ (x ∷ done))
              deep (inl a) = in_front z (nodes below) (x ∷ done) a
              deep (inr b) = in_back z (nodes below) (x ∷ done) (in_rest z x done b)

      on_edge : ((stack : Stack) (done : List ℕ) → NodesBelow stack → Walking edges done stack → DoneInOrder edges done → measure stack done < f → Walked edges stack done ⊎ Cycle edges n) →
          (y : ℕ) → slice_get (edges x) k ≡ Some y → Dec (In y done) → Dec (In y (nodes (frame x k below))) →
          Walked edges (frame x k below) done ⊎ Cycle edges n
      on_edge rec y e (yes p) q = advanced (rec (frame x (suc k) below) done st (walk_advance c e p) o (let l = nth_below (edges x) k e in let b = few x in omega arith))
      on_edge rec y e (no p) (yes q) = inr (y, low x k y e, walk_round c e q)
      on_edge rec y e (no p) (no q) =
          pushed (rec (frame y 0 (frame x k below)) done stand (walk_push c e) o
          (let l = outside_new (x ∷ (nodes below ++ done)) y n none_of (low x k y e) in
          let t = times (outside (y ∷ (x ∷ (nodes below ++ done))) n) (outside (x ∷ (nodes below ++ done)) n) l in omega arith))
        where
          none_of : In y (x ∷ (nodes below ++ done)) → ⊥
          none_of r = side (in_either y (nodes (frame x k below)) done r)
            where
              side : In y (nodes (frame x k below)) ⊎ In y done → ⊥
              side (inl a) = q a
              side (inr b) = p b

          stand : NodesBelow (frame y 0 (frame x k below))
          stand z r = side (in_split z y (nodes (frame x k below)) r)
            where
              side : (z ≡ y) ⊎ In z (nodes (frame x k below)) → z < n
              side (inl s) = rw s (low x k y e)
              side (inr s) = st z s

          times : (a b : ℕ) → a < b → (most + 2) * a + (most + 2) ≤ (most + 2) * b
          times a b l = let h = mul-le-mul_left (most + 2) l in omega arith

      at : ((stack : Stack) (done : List ℕ) → NodesBelow stack → Walking edges done stack → DoneInOrder edges done → measure stack done < f → Walked edges stack done ⊎ Cycle edges n) →
          ((y : ℕ) × (slice_get (edges x) k ≡ Some y)) ⊎ (length (edges x) ≤ k) → Walked edges (frame x k below) done ⊎ Cycle edges n
      at rec (inl p) = on_edge rec p.0 p.1 (decide_in p.0 done) (decide_in p.0 (nodes (frame x k below)))
      at rec (inr l) =
          let both = walk_pop c l o in
          let s = outside_more (x ∷ (nodes below ++ done)) (nodes below ++ (x ∷ done)) moved n in
          let t = weigh (outside (nodes below ++ (x ∷ done)) n) (outside (x ∷ (nodes below ++ done)) n) s in
          popped (rec below (x ∷ done) (λ z p. st z (suc p.0, p.1)) both.1 both.0 (omega arith))
        where
          weigh : (a b : ℕ) → a ≤ b → (most + 2) * a ≤ (most + 2) * b
          weigh a b l = mul-le-mul_left (most + 2) l

  pub walk_ends : (stack : Stack) (done : List ℕ) → NodesBelow stack → Walking edges done stack → DoneInOrder edges done →
      Walked edges stack done ⊎ Cycle edges n
  walk_ends stack done below walking in_order = walk (suc (measure stack done)) stack done below walking in_order (omega arith)
