-- What an edge from class to class says of the types: it is a second place of a Pair, or leads strictly inside. Assumes nothing.
use Rattle.std.proofs.Common.{◌≡◌, ℕ, zero, suc, ◌<◌, ◌≤◌, true, ◌⊎◌, List, [], ◌∷◌, map, length, Some, sym, refl, ap, ◌∙◌, inl, inr, arith}
use Rattle.std.proofs.Math.Decide.{ℕ_discrete}
use Rattle.std.specs.List.{slice_get}
use Rattle.theory.specs.Meaning.{Layering, flat, layered_by, Meaning, Lawful}
use Rattle.theory.specs.States.{State, Formed}
use Rattle.theory.specs.Joined.{Joined}
use Rattle.theory.specs.ListLike.{ListLike, joined_list, joined_loop}
use Rattle.theory.specs.Certificates.{Shape, no_term, over, Backed, by_term, by_list_like}
use Rattle.theory.specs.Refusals.{Inside, at_place, at_joined, inner}
use Rattle.theory.specs.ClassGraph.{parts_of, class_edges}
use Rattle.theory.specs.Walks.{Route, edge, further}
use Rattle.theory.specs.Rings.{Settled, TailEdge}
use Rattle.theory.proofs.Impossible.{impossible}
use Rattle.theory.proofs.Lookups.{map_nth}
use Rattle.theory.proofs.LayerPlaces.{pair_places}
use Rattle.theory.proofs.ShapesMerge.{shape_width, shape_stands}
use Rattle.theory.proofs.TailSteps.{TailStep, TailSteps, one_step, then_steps, tail_steps_inside}

decide_pair_named : (o : Layering) (c : ℕ) → Dec ((list : ℕ) × (o ≡ layered_by c list))
decide_pair_named flat c = no (λ h. let e = h.1 in impossible (cc))
decide_pair_named (layered_by pair list) c = go (ℕ_discrete pair c)
  where
    go : Dec (pair ≡ c) → Dec ((list' : ℕ) × (layered_by pair list ≡ layered_by c list'))
    go (yes e) = yes (list, ap (λ p. layered_by p list) e)
    go (no n) = no (λ h. let e = h.1 in n (cc))

module _ (m : Meaning) (shape : ℕ → Shape) where
  decide_tail_edge_in : (z j : ℕ) (this : Shape) → shape z ≡ this → Dec (j ≡ 1) → Dec (TailEdge m shape z j)
  decide_tail_edge_in z j this e (no n) = no (λ x. n x.place)
  decide_tail_edge_in z j no_term e (yes p) = no (λ x. impossible (cc))
  decide_tail_edge_in z j (over d []) e (yes p) = no (λ x. impossible (cc))
  decide_tail_edge_in z j (over d (h ∷ [])) e (yes p) = no (λ x. impossible (cc))
  decide_tail_edge_in z j (over d (h ∷ t ∷ [])) e (yes p) = go (decide_pair_named m.layering d)
    where
      go : Dec ((list : ℕ) × (m.layering ≡ layered_by d list)) → Dec (TailEdge m shape z j)
      go (yes l) = yes (record { pair = d; list = l.0; first = h; tail = t; shape_is = e; named = l.1; place = p })
      go (no n) = no (λ x. let q : x.pair ≡ d = cc in n (x.list, x.named ∙ ap (λ y. layered_by y x.list) q))
  decide_tail_edge_in z j (over d (h ∷ t ∷ u ∷ us)) e (yes p) = no (λ x. impossible (cc))

  pub decide_tail_edge : (r k : ℕ) → Dec (TailEdge m shape r k)
  decide_tail_edge r k = decide_tail_edge_in r k (shape r) refl (ℕ_discrete k 1)

-- edges lead to classes that stand
pub class_edge_stands : {m : Meaning} → Lawful m → {s : State} → Formed m s → (label : ℕ → ℕ) (shape : ℕ → Shape) →
    ((r d : ℕ) (qs : List ℕ) → shape r ≡ over d qs → Backed m s r d qs) →
    ((i : ℕ) → i < length s.cells → label i < length s.cells) → (r k y : ℕ) → slice_get (class_edges label shape r) k ≡ Some y → y < length s.cells
class_edge_stands {m} lawful {s} formed label shape backed stands r k y e = go (shape r) (backed r) e
  where
    go : (this : Shape) → ((d : ℕ) (qs : List ℕ) → this ≡ over d qs → Backed m s r d qs) → slice_get (map label (parts_of this)) k ≡ Some y →
        y < length s.cells
    go no_term f e = impossible (cc)
    go (over d qs) f e =
        let q = map_nth label qs k y e in
        rw (← q.2) (stands q.0 (shape_stands lawful formed (f d qs refl) k q.0 q.1))

-- and are no more than nine
pub class_edges_few : {m : Meaning} → Lawful m → {s : State} → Formed m s → (label : ℕ → ℕ) (shape : ℕ → Shape) →
    ((r d : ℕ) (qs : List ℕ) → shape r ≡ over d qs → Backed m s r d qs) →
    (r : ℕ) → length (class_edges label shape r) ≤ 9
class_edges_few {m} lawful {s} formed label shape backed r = go (shape r) (backed r)
  where
    map_length : (qs : List ℕ) → length (map label qs) ≡ length qs
    map_length [] = refl
    map_length (q ∷ qs) = ap suc (map_length qs)

    go : (this : Shape) → ((d : ℕ) (qs : List ℕ) → this ≡ over d qs → Backed m s r d qs) → length (map label (parts_of this)) ≤ 9
    go no_term f = omega arith
    go (over d qs) f = let a = map_length qs in let b = shape_width lawful formed (f d qs refl) in let c = lawful.few_places d in omega arith

module _ {m : Meaning} (lawful : Lawful m) {s : State} (formed : Formed m s) {label : ℕ → ℕ} {shape : ℕ → Shape} (settled : Settled m s label shape) where
  -- an edge that is the second place of a Pair
  pub tail_edge_step : {z j y : ℕ} → TailEdge m shape z j → slice_get (class_edges label shape z) j ≡ Some y → TailStep m s label z y
  tail_edge_step {z} {j} {y} e at = go (settled.shape_backed z e.pair (e.first ∷ e.tail ∷ []) e.shape_is)
    where
      here : Some (label e.tail) ≡ Some y
      here = ap (λ this. slice_get (map label (parts_of this)) 1) (sym e.shape_is) ∙ ap (slice_get (class_edges label shape z)) (sym e.place) ∙ at

      go : Backed m s z e.pair (e.first ∷ e.tail ∷ []) → TailStep m s label z y
      go (by_term i c a t p) = record {
        cell = i;
        first = e.first;
        tail = e.tail;
        pair = record { code = c; list = e.list; named = e.named ∙ ap (λ x. layered_by x e.list) (sym p); stands = t };
        joined = a;
        into = cc here;
        leaves = λ q. settled.no_loop z e.pair e.list e.first e.tail e.shape_is e.named (let h : label e.tail ≡ y = cc here in h ∙ q);
      }
      go (by_list_like f h q) = impossible (cc)

  -- any other edge leads strictly inside
  pub other_edge_inside : {z j y : ℕ} → (TailEdge m shape z j → ⊥) → slice_get (class_edges label shape z) j ≡ Some y → Inside m s true z y
  other_edge_inside {z} {j} {y} n at = by (shape z) refl at
    where
      by : (this : Shape) → shape z ≡ this → slice_get (map label (parts_of this)) j ≡ Some y → Inside m s true z y
      by no_term i e = impossible (cc)
      by (over d qs) i e = found (map_nth label qs j y e)
        where
          found : (q : ℕ) × (slice_get qs j ≡ Some q) × (label q ≡ y) → Inside m s true z y
          found q = rw q.2 at (go (settled.shape_backed z d qs i))
            where
              across_to : Joined m s q.0 (label q.0)
              across_to = settled.label_joined q.0

              go : Backed m s z d qs → Inside m s true z (label q.0)
              go (by_term k c a t p) = inner (at_joined a) (inner (at_place j t q.1 none_such) (at_joined across_to))
                where
                  none_such : (list : ℕ) → m.layering ≡ layered_by (m.plain c) list → j ≡ 1 → ⊥
                  none_such list l o =
                      let PairParts = pair_places lawful formed k c list qs t l in
                      n (record { pair = d; list = list; first = PairParts.0; tail = PairParts.1; shape_is = i ∙ ap (over d) PairParts.2; named = l ∙ ap (λ x. layered_by x list) p; place = o })
              go (by_list_like e h p) = one j h (ap (λ xs. slice_get xs j) (sym p) ∙ q.1)
                where
                  one : (j : ℕ) → ListLike m s z d e → slice_get (e ∷ []) j ≡ Some q.0 → Inside m s true z (label q.0)
                  one zero (joined_list k pair c a t p l) x = let r : e ≡ q.0 = cc in rw (← r) (inner (at_joined a) (inner (at_place 0 t refl (λ list e z. omega arith)) (at_joined (settled.label_joined e))))
                  one zero (joined_loop k u c a t l r) x = let r : e ≡ q.0 = cc in rw (← r) (inner (at_joined a) (inner (at_place 0 t refl (λ list e z. omega arith)) (at_joined (settled.label_joined e))))
                  one (suc j) h x = impossible (cc)

  pub route_inside : {x y : ℕ} → Route (class_edges label shape) x y → Inside m s true x y ⊎ TailSteps m s label x y
  route_inside (edge {x} {y} k e) = go (decide_tail_edge m shape x k)
    where
      go : Dec (TailEdge m shape x k) → Inside m s true x y ⊎ TailSteps m s label x y
      go (yes t) = inr (one_step (tail_edge_step t e))
      go (no n) = inl (other_edge_inside n e)
  route_inside (further {x} {y} {z} a b) = go (route_inside a) (route_inside b)
    where
      go : Inside m s true x y ⊎ TailSteps m s label x y → Inside m s true y z ⊎ TailSteps m s label y z →
          Inside m s true x z ⊎ TailSteps m s label x z
      go (inl a) (inl b) = inl (inner a b)
      go (inl a) (inr b) = inl (inner a (tail_steps_inside settled.label_joined b))
      go (inr a) (inl b) = inl (inner (tail_steps_inside settled.label_joined a) b)
      go (inr a) (inr b) = inr (then_steps a b)
