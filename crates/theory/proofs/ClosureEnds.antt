-- The closure comes to its end: with a certificate, or with a clash. Assumes nothing.
use Rattle.std.proofs.Common.{◌≡◌, ℕ, zero, suc, ◌+◌, ◌<◌, ◌≤◌, ◌⊎◌, List, [], ◌∷◌, map, length, Some, refl, ap, ◌∙◌, inl, inr, arith, length-append}
use Rattle.std.proofs.Math.Decide.{ℕ_discrete}
use Rattle.std.specs.List.{slice_get}
use Rattle.theory.specs.Meaning.{Meaning, Lawful}
use Rattle.theory.specs.States.{State, Formed}
use Rattle.theory.specs.Joined.{Joined, symmetric, transitive}
use Rattle.theory.specs.Certificates.{Shape, over, Falling, Backed, HasCertificate}
use Rattle.theory.specs.Refusals.{Clash}
use Rattle.theory.specs.ClassGraph.{parts_of, class_edges}
use Rattle.theory.specs.Walks.{Cycle}
use Rattle.theory.specs.Closures.{Closure, Closing, class_count, closure_measure, after_drop, after_merge, after_push}
use Rattle.theory.specs.Rings.{Settled}
use Rattle.theory.proofs.Lookups.{nth_map, each_first}
use Rattle.theory.proofs.LoopingShapes.{with_shapes, settled_shapes, settled_reshapes, settled_none}
use Rattle.theory.proofs.MergeFewerClasses.{merge_fewer_classes}
use Rattle.theory.proofs.ShapesMerge.{Merged, merge_or_clash}
use Rattle.theory.proofs.GraphsHaveRanks.{rank_or_cycle}
use Rattle.theory.proofs.ClassEdges.{class_edge_stands, class_edges_few}
use Rattle.theory.proofs.CyclesClashOrRing.{RingPair, cycle_clashes_or_ring}
use Rattle.theory.proofs.ClosureMoves.{drop_closing, drop_falls, label_a_stands, label_b_stands, merge_closing, reshape_closing, push_closing, closing_certificate}

-- a closure whose measure is below a bound
record Next (m : Meaning) (s : State) (bound : ℕ) : Type 0 where
  closure : Closure
  closing : Closing m s closure
  less : closure_measure s closure < bound

-- the closure ends here, or goes on
data Moved (m : Meaning) (s : State) (bound : ℕ) : Type 0 where
  clashed : Clash m s → Moved m s bound
  finished : HasCertificate m s → Moved m s bound
  goes_on : Next m s bound → Moved m s bound

module _ {m : Meaning} (lawful : Lawful m) {s : State} (formed : Formed m s) where
  -- the first pending pair is of two classes: they are merged, or clash
  record MergedClasses (v : Closure) (rest : List (ℕ × ℕ)) : Type 0 where
    closure : Closure
    closing : Closing m s closure
    fewer : class_count closure.label (length s.cells) < class_count v.label (length s.cells)
    pending_few : length closure.pending ≤ 9 + length rest

  merge_classes : (v : Closure) → Closing m s v → (a b : ℕ) (rest : List (ℕ × ℕ)) → v.pending ≡ (a, b) ∷ rest → (v.label a ≡ v.label b → ⊥) →
      Clash m s ⊎ MergedClasses v rest
  merge_classes v closing a b rest is apart =
      go (merge_or_clash lawful formed (label_a_stands lawful formed v closing a b rest is) joined (v.shape (v.label a)) (v.shape (v.label b))
      (closing.justified.shape_backed (v.label a)) (closing.justified.shape_backed (v.label b)))
    where
      joined : Joined m s (v.label a) (v.label b)
      joined = transitive (symmetric (closing.justified.label_joined a))
          (transitive (each_first (Joined m s) a b rest v.pending is closing.justified.pending_joined) (closing.justified.label_joined b))

      go : Clash m s ⊎ Merged m s (v.label a) (v.shape (v.label a)) (v.shape (v.label b)) → Clash m s ⊎ MergedClasses v rest
      go (inl c) = inl c
      go (inr u) = inr (record {
        closure = after_merge v a b rest u.shape u.new;
        closing = merge_closing lawful formed v closing a b rest is apart u.shape u.new u.merge;
        fewer = merge_fewer_classes v closing.covers a b rest apart u.shape u.new (length s.cells) (label_b_stands lawful formed v closing a b rest is);
        pending_few = unfold after_merge in (let l = length-append u.new rest in let f = u.few in omega arith);
      })

  -- nothing is pending: a rank falls, or there is a clash, or a ring, of which two classes are merged
  look_for_cycles : (v : Closure) → Closing m s v → v.pending ≡ [] → Moved m s (closure_measure s v)
  unfolding after_push
  look_for_cycles v closing none_pending =
      go (rank_or_cycle (class_edges v.label shapes) (length s.cells) 9 (class_edge_stands lawful formed v.label shapes backed closing.in_range.label_stands)
      (class_edges_few lawful formed v.label shapes backed))
    where
      shapes : ℕ → Shape
      shapes = settled_shapes m v

      settling : Closing m s (with_shapes v shapes)
      settling = reshape_closing lawful formed v closing shapes (settled_reshapes m v)

      backed : (r d : ℕ) (qs : List ℕ) → shapes r ≡ over d qs → Backed m s r d qs
      backed = settling.justified.shape_backed

      settled : Settled m s v.label shapes
      settled = record {
        label_fixed = closing.covers.label_fixed;
        label_joined = closing.justified.label_joined;
        shape_backed = backed;
        no_loop = λ r pair list first tail is named round.
            settled_none m v r (record { pair = pair; list = list; first = first; tail = tail; shape_is = is; named = named; round = round });
      }

      next : (r : RingPair m s v.label) → Clash m s ⊎ MergedClasses (after_push (with_shapes v shapes) r.here r.there) v.pending →
          Moved m s (closure_measure s v)
      next r (inl c) = clashed c
      next r (inr t) =
          goes_on (record { closure = t.closure; closing = t.closing; less = let a = t.fewer in let b = t.pending_few in let l = ap length none_pending in omega arith })

      ringed : Clash m s ⊎ RingPair m s v.label → Moved m s (closure_measure s v)
      ringed (inl c) = clashed c
      ringed (inr r) = next r (merge_classes (after_push (with_shapes v shapes) r.here r.there)
          (push_closing lawful formed (with_shapes v shapes) settling r.here r.there r.joined r.here_stands r.there_stands) r.here r.there v.pending
          refl r.apart)

      go : ((rank : ℕ → ℕ) × ((r k y : ℕ) → slice_get (class_edges v.label shapes r) k ≡ Some y → rank y < rank r)) ⊎ Cycle (class_edges v.label shapes) (length s.cells) →
          Moved m s (closure_measure s v)
      go (inl f) = finished (v.label, f.0, shapes, closing_certificate (with_shapes v shapes) f.0 settling none_pending falling)
        where
          falling : Falling v.label shapes f.0
          falling r d qs e k q h = f.1 r k (v.label q) (ap (λ this. slice_get (map v.label (parts_of this)) k) e ∙ nth_map v.label qs k q h)
      go (inr c) = ringed (cycle_clashes_or_ring lawful formed settled closing.in_range.label_stands c.1 c.2)

  move : (v : Closure) → Closing m s v → Moved m s (closure_measure s v)
  move v closing = go v.pending refl
    where
      merged : (rest : List (ℕ × ℕ)) (a b : ℕ) → v.pending ≡ (a, b) ∷ rest → Clash m s ⊎ MergedClasses v rest → Moved m s (closure_measure s v)
      merged rest a b e (inl c) = clashed c
      merged rest a b e (inr t) = goes_on (record { closure = t.closure; closing = t.closing; less = let f = t.fewer in let g = t.pending_few in let l = ap length e in omega arith })

      at : (a b : ℕ) (rest : List (ℕ × ℕ)) → v.pending ≡ (a, b) ∷ rest → Dec (v.label a ≡ v.label b) → Moved m s (closure_measure s v)
      at a b rest e (yes p) =
          goes_on (record { closure = after_drop v rest; closing = drop_closing lawful formed v closing a b rest e p; less = drop_falls lawful formed v closing a b rest e })
      at a b rest e (no p) = merged rest a b e (merge_classes v closing a b rest e p)

      go : (pending : List (ℕ × ℕ)) → v.pending ≡ pending → Moved m s (closure_measure s v)
      go [] e = look_for_cycles v closing e
      go (p ∷ rest) e = at p.0 p.1 rest e (ℕ_discrete (v.label p.0) (v.label p.1))

  run : (fuel : ℕ) (v : Closure) → Closing m s v → closure_measure s v < fuel → Clash m s ⊎ HasCertificate m s
  run zero v closing h = absurd (omega arith)
  run (suc fuel) v closing h = go (λ n. run fuel n.closure n.closing (let l = n.less in omega arith)) (move v closing)
    where
      go : (Next m s (closure_measure s v) → Clash m s ⊎ HasCertificate m s) → Moved m s (closure_measure s v) → Clash m s ⊎ HasCertificate m s
      go rec (clashed c) = inl c
      go rec (finished d) = inr d
      go rec (goes_on n) = rec n

  pub closure_ends : (v : Closure) → Closing m s v → Clash m s ⊎ HasCertificate m s
  closure_ends v closing = run (suc (closure_measure s v)) v closing (omega arith)
