-- A looping Pair may get the shape of the List that it is: nothing is lost, and nothing is brought together. Assumes nothing.
use Rattle.std.proofs.Common.{◌≡◌, ℕ, List, [], ◌∷◌, sym, refl, ap, ◌∙◌}
use Rattle.std.proofs.Math.Decide.{ℕ_discrete}
use Rattle.theory.specs.Meaning.{Layering, flat, layered_by, Meaning, Lawful}
use Rattle.theory.specs.States.{State}
use Rattle.theory.specs.Joined.{transitive}
use Rattle.theory.specs.ListLike.{joined_loop}
use Rattle.theory.specs.Certificates.{Shape, no_term, over, Backed, by_term, by_list_like}
use Rattle.theory.specs.Updates.{replaced}
use Rattle.theory.specs.Closures.{Closure, by_label, TermLinked, Covers, Justified}
use Rattle.theory.proofs.Impossible.{impossible}
use Rattle.theory.proofs.Updates.{replaced_hit, replaced_miss}
use Rattle.theory.proofs.LinkedCells.{held_list}

-- the shape is that of a Pair whose second place is in the class r, its own
pub record LoopingShape (m : Meaning) (label : ℕ → ℕ) (r : ℕ) (shape : Shape) : Type 0 where
  pub pair : ℕ
  pub list : ℕ
  pub first : ℕ
  pub tail : ℕ
  pub shape_is : shape ≡ over pair (first ∷ tail ∷ [])
  pub named : m.layering ≡ layered_by pair list
  pub round : label tail ≡ r

-- a shape becomes that of the List, or stays
pub data Reshapes (m : Meaning) (label : ℕ → ℕ) (r : ℕ) (shape new : Shape) : Type 0 where
  to_list : (l : LoopingShape m label r shape) → new ≡ over l.list (l.first ∷ []) → Reshapes m label r shape new
  stays : new ≡ shape → Reshapes m label r shape new

abbrev pub with_shapes : Closure → (ℕ → Shape) → Closure
with_shapes v shapes = record { label = v.label; shape = shapes; pending = v.pending }

module _ {m : Meaning} (lawful : Lawful m) {s : State} (v : Closure) (shapes : ℕ → Shape) (reshapes : (r : ℕ) → Reshapes m v.label r (v.shape r) (shapes r)) where
  pub reshaped_covers : Covers m s v → Covers m s (with_shapes v shapes)
  reshaped_covers covers = record {
    label_fixed = covers.label_fixed;
    equations = covers.equations;
    terms_linked = λ i c ps t. go (v.label i) (covers.label_fixed i) c ps (covers.terms_linked i c ps t) (reshapes (v.label i));
  }
    where
      go : (q : ℕ) → v.label q ≡ q → (c : ℕ) (ps : List ℕ) → TermLinked m v q c ps → Reshapes m v.label q (v.shape q) (shapes q) →
          TermLinked m (with_shapes v shapes) q c ps
      go q own c ps o (to_list l e) =
          let here : over o.code o.parts ≡ over l.pair (l.first ∷ l.tail ∷ []) = sym o.shape_is ∙ l.shape_is in
          let code : o.code ≡ l.pair = cc here in
          let parts : o.parts ≡ l.first ∷ l.tail ∷ [] = cc here in
          record {
            code = l.list;
            parts = l.first ∷ [];
            shape_is = e;
            held = held_list lawful l.named (by_label refl) (by_label (l.round ∙ sym own)) (rw (code, parts) at o.held);
          }
      go q own c ps o (stays e) = record { code = o.code; parts = o.parts; shape_is = e ∙ o.shape_is; held = o.held }

  pub reshaped_justified : Justified m s v → Justified m s (with_shapes v shapes)
  reshaped_justified justified = record {
    label_joined = justified.label_joined;
    pending_joined = justified.pending_joined;
    shape_backed = λ q d qs x. go q d qs x (reshapes q);
  }
    where
      list_of_pair : (r pair list h t : ℕ) → m.layering ≡ layered_by pair list → v.label t ≡ r → Backed m s r pair (h ∷ t ∷ []) →
          Backed m s r list (h ∷ [])
      list_of_pair r pair list h t named round (by_term j c a u p) =
          by_list_like h (joined_loop j t c a u (cc) (transitive (rw round at (justified.label_joined t)) a)) refl
      list_of_pair r pair list h t named round (by_list_like e x q) = impossible (cc)

      go : (q d : ℕ) (qs : List ℕ) → shapes q ≡ over d qs → Reshapes m v.label q (v.shape q) (shapes q) → Backed m s q d qs
      go q d qs x (to_list l e) =
          let here : over l.list (l.first ∷ []) ≡ over d qs = sym e ∙ x in
          let code : d ≡ l.list = cc here in
          let parts : qs ≡ l.first ∷ [] = cc here in
          rw (code, parts) (list_of_pair q l.pair l.list l.first l.tail l.named l.round (justified.shape_backed q l.pair (l.first ∷ l.tail ∷ []) l.shape_is))
      go q d qs x (stays e) = justified.shape_backed q d qs (sym e ∙ x)

-- one class
pub replaced_reshapes : {m : Meaning} (v : Closure) (r : ℕ) (l : LoopingShape m v.label r (v.shape r)) (q : ℕ) →
    Reshapes m v.label q (v.shape q) (replaced v.shape r (over l.list (l.first ∷ [])) q)
replaced_reshapes {m} v r l q = go (ℕ_discrete q r)
  where
    go : Dec (q ≡ r) → Reshapes m v.label q (v.shape q) (replaced v.shape r (over l.list (l.first ∷ [])) q)
    go (yes e) =
        to_list (record { pair = l.pair; list = l.list; first = l.first; tail = l.tail; shape_is = ap v.shape e ∙ l.shape_is; named = l.named; round = l.round ∙ sym e })
        (replaced_hit v.shape r (over l.list (l.first ∷ [])) q e)
    go (no n) = stays (replaced_miss v.shape r (over l.list (l.first ∷ [])) q n)

decide_looping_two : (m : Meaning) (label : ℕ → ℕ) (r d h t pair list : ℕ) → m.layering ≡ layered_by pair list → Dec (pair ≡ d) → Dec (label t ≡ r) →
    Dec (LoopingShape m label r (over d (h ∷ t ∷ [])))
decide_looping_two m label r d h t pair list e (yes p) (yes q) = yes (record { pair = d; list = list; first = h; tail = t; shape_is = refl; named = cc; round = q })
decide_looping_two m label r d h t pair list e (yes p) (no q) = no (λ l. q (cc))
decide_looping_two m label r d h t pair list e (no p) q = no (λ l. p (cc))

decide_looping_in : (m : Meaning) (label : ℕ → ℕ) (r : ℕ) (shape : Shape) (o : Layering) → m.layering ≡ o → Dec (LoopingShape m label r shape)
decide_looping_in m label r no_term o e = no (λ l. impossible (cc))
decide_looping_in m label r (over d []) o e = no (λ l. impossible (cc))
decide_looping_in m label r (over d (h ∷ [])) o e = no (λ l. impossible (cc))
decide_looping_in m label r (over d (h ∷ t ∷ [])) flat e = no (λ l. impossible (cc))
decide_looping_in m label r (over d (h ∷ t ∷ [])) (layered_by pair list) e = decide_looping_two m label r d h t pair list e (ℕ_discrete pair d) (ℕ_discrete (label t) r)
decide_looping_in m label r (over d (h ∷ t ∷ u ∷ us)) o e = no (λ l. impossible (cc))

-- every class
settled_by : (m : Meaning) (label : ℕ → ℕ) (r : ℕ) (shape : Shape) → Dec (LoopingShape m label r shape) → Shape
settled_by m label r shape (yes l) = over l.list (l.first ∷ [])
settled_by m label r shape (no n) = shape

pub settled_shapes : Meaning → Closure → ℕ → Shape
settled_shapes m v r = settled_by m v.label r (v.shape r) (decide_looping_in m v.label r (v.shape r) m.layering refl)

settled_by_reshapes : (m : Meaning) (label : ℕ → ℕ) (r : ℕ) (shape : Shape) (d : Dec (LoopingShape m label r shape)) →
    Reshapes m label r shape (settled_by m label r shape d)
unfolding settled_by
settled_by_reshapes m label r shape (yes l) = to_list l refl
settled_by_reshapes m label r shape (no n) = stays refl

pub settled_reshapes : (m : Meaning) (v : Closure) (r : ℕ) → Reshapes m v.label r (v.shape r) (settled_shapes m v r)
unfolding settled_shapes
settled_reshapes m v r = settled_by_reshapes m v.label r (v.shape r) (decide_looping_in m v.label r (v.shape r) m.layering refl)

settled_by_none : (m : Meaning) (label : ℕ → ℕ) (r : ℕ) (shape : Shape) (d : Dec (LoopingShape m label r shape)) →
    LoopingShape m label r (settled_by m label r shape d) → ⊥
unfolding settled_by
settled_by_none m label r shape (yes k) l = impossible (cc)
settled_by_none m label r shape (no n) l = n l

-- then no class is left that has the shape of a looping Pair
pub settled_none : (m : Meaning) (v : Closure) (r : ℕ) → LoopingShape m v.label r (settled_shapes m v r) → ⊥
unfolding settled_shapes
settled_none m v r l = settled_by_none m v.label r (v.shape r) (decide_looping_in m v.label r (v.shape r) m.layering refl) l
