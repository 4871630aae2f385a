-- A closure in which one pair more is pending, or one less that is in one class, or one turned round. Assumes nothing.
use Rattle.std.proofs.Common.{◌≡◌, ℕ, suc, List, ◌∷◌, refl}
use Rattle.theory.specs.Meaning.{Meaning}
use Rattle.theory.specs.States.{State}
use Rattle.theory.specs.Joined.{Joined, symmetric}
use Rattle.theory.specs.Closures.{Closure, Linked, by_label, by_pending, linked_back, Covers, Justified, after_turn, after_drop, after_push}
use Rattle.theory.proofs.Lookups.{EachPair, each_next, each_rest, each_first}
use Rattle.theory.proofs.LinkedCells.{linked_into, held_into}

module _ {m : Meaning} {s : State} (v : Closure) where
  -- the pending pairs may change, where those that were pending stay linked
  covers_again : (pending : List (ℕ × ℕ)) → EachPair (Linked v.label pending) v.pending → Covers m s v →
      Covers m s (record { label = v.label; shape = v.shape; pending = pending })
  covers_again pending linked covers = record {
    label_fixed = covers.label_fixed;
    equations = λ x y e. into x y (covers.equations x y e);
    terms_linked = λ i c ps t.
        let o = covers.terms_linked i c ps t in
        record { code = o.code; parts = o.parts; shape_is = o.shape_is; held = held_into into (by_label refl) o.held };
  }
    where
      into : (x y : ℕ) → Linked v.label v.pending x y → Linked v.label pending x y
      into x y l = linked_into (λ x y e. e) linked l

  pub push_covers : (a b : ℕ) → Covers m s v → Covers m s (after_push v a b)
  unfolding after_push
  push_covers a b covers = covers_again ((a, b) ∷ v.pending) (λ k x y e. by_pending (suc k) e) covers

  pub push_justified : (a b : ℕ) → Joined m s a b → Justified m s v → Justified m s (after_push v a b)
  unfolding after_push
  push_justified a b joined justified = record {
    label_joined = justified.label_joined;
    pending_joined = each_next (Joined m s) a b v.pending joined justified.pending_joined;
    shape_backed = justified.shape_backed;
  }

  module _ (a b : ℕ) (rest : List (ℕ × ℕ)) (pending_is : v.pending ≡ (a, b) ∷ rest) where
    pub drop_covers : v.label a ≡ v.label b → Covers m s v → Covers m s (after_drop v rest)
    unfolding after_drop
    drop_covers same covers = covers_again rest linked covers
      where
        linked : EachPair (Linked v.label rest) v.pending
        linked = rw pending_is (each_next (Linked v.label rest) a b rest (by_label same) (λ k x y e. by_pending k e))

    pub drop_justified : Justified m s v → Justified m s (after_drop v rest)
    unfolding after_drop
    drop_justified justified = record {
      label_joined = justified.label_joined;
      pending_joined = each_rest (Joined m s) a b rest v.pending pending_is justified.pending_joined;
      shape_backed = justified.shape_backed;
    }

    pub turn_covers : Covers m s v → Covers m s (after_turn v a b rest)
    unfolding after_turn
    turn_covers covers = covers_again ((b, a) ∷ rest) linked covers
      where
        linked : EachPair (Linked v.label ((b, a) ∷ rest)) v.pending
        linked = rw pending_is (each_next (Linked v.label ((b, a) ∷ rest)) a b rest (linked_back (by_pending 0 refl)) (λ k x y e. by_pending (suc k) e))

    pub turn_justified : Justified m s v → Justified m s (after_turn v a b rest)
    unfolding after_turn
    turn_justified justified = record {
      label_joined = justified.label_joined;
      pending_joined = each_next (Joined m s) b a rest (symmetric (each_first (Joined m s) a b rest v.pending pending_is justified.pending_joined))
          (each_rest (Joined m s) a b rest v.pending pending_is justified.pending_joined);
      shape_backed = justified.shape_backed;
    }
