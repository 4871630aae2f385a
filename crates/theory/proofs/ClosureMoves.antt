-- Each move of a closure keeps its invariant, and the measure falls. Assumes nothing.
use Rattle.std.proofs.Common.{◌≡◌, ℕ, ◌<◌, List, [], ◌∷◌, length, ap, arith, length-append}
use Rattle.std.proofs.Math.Decide.{ℕ_discrete}
use Rattle.theory.specs.Meaning.{Meaning, Lawful}
use Rattle.theory.specs.States.{State, Formed}
use Rattle.theory.specs.Joined.{Joined}
use Rattle.theory.specs.Certificates.{Shape, over, Falling, Certificate}
use Rattle.theory.specs.Updates.{sent, replaced}
use Rattle.theory.specs.Closures.{Closure, Closing, closure_measure, Merges, after_turn, after_drop, after_merge, after_reshape, after_push, ClosureLaws}
use Rattle.theory.proofs.Lookups.{each_next, each_append, each_rest, each_first}
use Rattle.theory.proofs.Updates.{sent_hit, sent_miss}
use Rattle.theory.proofs.ClosureConsistent.{covers_consistent}
use Rattle.theory.proofs.MergeCovers.{merge_covers}
use Rattle.theory.proofs.MergeJustified.{merge_justified}
use Rattle.theory.proofs.LoopingShapes.{Reshapes, with_shapes, reshaped_covers, reshaped_justified, replaced_reshapes}
use Rattle.theory.proofs.MorePending.{push_covers, push_justified, drop_covers, drop_justified, turn_covers, turn_justified}
use Rattle.theory.proofs.MergeFewerClasses.{merge_fewer_classes}
use Rattle.theory.proofs.ShapesMerge.{BothStand, merge_few, merge_stands}

sent_stands : (x y i n : ℕ) → y < n → i < n → sent x y i < n
sent_stands x y i n y< i< = go (ℕ_discrete i x)
  where
    go : Dec (i ≡ x) → sent x y i < n
    go (yes e) = rw (sent_hit x y i e) y<
    go (no d) = rw (sent_miss x y i d) i<

module _ {m : Meaning} (lawful : Lawful m) {s : State} (formed : Formed m s) (v : Closure) (closing : Closing m s v) where
  module _ (a b : ℕ) (rest : List (ℕ × ℕ)) (pending_is : v.pending ≡ (a, b) ∷ rest) where
    pub drop_closing : v.label a ≡ v.label b → Closing m s (after_drop v rest)
    unfolding after_drop
    drop_closing same = record {
      covers = drop_covers v a b rest pending_is same closing.covers;
      justified = drop_justified v a b rest pending_is closing.justified;
      in_range = record {
        label_stands = closing.in_range.label_stands;
        pending_stands = each_rest (BothStand s) a b rest v.pending pending_is closing.in_range.pending_stands;
      };
    }

    pub drop_falls : closure_measure s (after_drop v rest) < closure_measure s v
    unfolding after_drop
    drop_falls = let l = ap length pending_is in omega arith

    -- the cells of the first pending pair stand, and their labels
    pub first_stands : BothStand s a b
    first_stands = each_first (BothStand s) a b rest v.pending pending_is closing.in_range.pending_stands

    pub label_a_stands : v.label a < length s.cells
    label_a_stands = closing.in_range.label_stands a first_stands.0

    pub label_b_stands : v.label b < length s.cells
    label_b_stands = closing.in_range.label_stands b first_stands.1

    pub turn_closing : Closing m s (after_turn v a b rest)
    unfolding after_turn
    turn_closing = record {
      covers = turn_covers v a b rest pending_is closing.covers;
      justified = turn_justified v a b rest pending_is closing.justified;
      in_range = record {
        label_stands = closing.in_range.label_stands;
        pending_stands = each_next (BothStand s) b a rest (first_stands.1, first_stands.0)
            (each_rest (BothStand s) a b rest v.pending pending_is closing.in_range.pending_stands);
      };
    }

    pub turn_measure : closure_measure s (after_turn v a b rest) ≡ closure_measure s v
    unfolding after_turn
    turn_measure = let l = ap length pending_is in omega arith

    module _ (apart : v.label a ≡ v.label b → ⊥) (merged : Shape) (new : List (ℕ × ℕ)) (merges : Merges m (v.label a) (v.shape (v.label a)) (v.shape (v.label b)) merged new) where
      pub merge_closing : Closing m s (after_merge v a b rest merged new)
      unfolding after_merge
      merge_closing = record {
        covers = merge_covers lawful v closing.covers a b rest pending_is apart merged new merges;
        justified = merge_justified lawful v closing.justified a b rest pending_is merged new merges;
        in_range = record {
          label_stands = λ i l. sent_stands (v.label b) (v.label a) (v.label i) (length s.cells) label_a_stands (closing.in_range.label_stands i l);
          pending_stands = each_append (BothStand s) new rest
              (merge_stands lawful formed label_a_stands merges (closing.justified.shape_backed (v.label a)) (closing.justified.shape_backed (v.label b)))
              (each_rest (BothStand s) a b rest v.pending pending_is closing.in_range.pending_stands);
        };
      }

      pub merge_falls : closure_measure s (after_merge v a b rest merged new) < closure_measure s v
      unfolding after_merge
      merge_falls =
          let fewer = merge_fewer_classes v closing.covers a b rest apart merged new (length s.cells) label_b_stands in
          let few = merge_few lawful formed merges (closing.justified.shape_backed (v.label a)) in
          let l = ap length pending_is in
          let n = length-append new rest in
          omega arith

  pub reshape_closing : (shapes : ℕ → Shape) → ((r : ℕ) → Reshapes m v.label r (v.shape r) (shapes r)) → Closing m s (with_shapes v shapes)
  reshape_closing shapes reshapes = record {
    covers = reshaped_covers lawful v shapes reshapes closing.covers;
    justified = reshaped_justified lawful v shapes reshapes closing.justified;
    in_range = record { label_stands = closing.in_range.label_stands; pending_stands = closing.in_range.pending_stands };
  }

  pub push_closing : (a b : ℕ) → Joined m s a b → a < length s.cells → b < length s.cells → Closing m s (after_push v a b)
  unfolding after_push
  push_closing a b joined a< b< = record {
    covers = push_covers v a b closing.covers;
    justified = push_justified v a b joined closing.justified;
    in_range = record {
      label_stands = closing.in_range.label_stands;
      pending_stands = each_next (BothStand s) a b v.pending (a<, b<) closing.in_range.pending_stands;
    };
  }

pub closing_certificate : {m : Meaning} {s : State} (v : Closure) (rank : ℕ → ℕ) → Closing m s v → v.pending ≡ [] →
    Falling v.label v.shape rank → Certificate m s v.label rank v.shape
closing_certificate v rank closing none_pending falling = record {
  consistent = covers_consistent v rank none_pending closing.covers falling;
  label_joined = closing.justified.label_joined;
  shape_backed = closing.justified.shape_backed;
  label_stands = closing.in_range.label_stands;
}

pub closure_laws : {m : Meaning} → Lawful m → {s : State} → Formed m s → ClosureLaws m s
closure_laws lawful {s} formed = record {
  drops = λ v closing a b rest is same. (drop_closing lawful formed v closing a b rest is same, drop_falls lawful formed v closing a b rest is);
  turns = λ v closing a b rest is. (turn_closing lawful formed v closing a b rest is, turn_measure lawful formed v closing a b rest is);
  merges = λ v closing a b rest is apart merged new merges.
      (merge_closing lawful formed v closing a b rest is apart merged new merges, merge_falls lawful formed v closing a b rest is apart merged new merges);
  reshapes = λ v closing r pair list first tail is named round.
      unfold after_reshape in reshape_closing lawful formed v closing (replaced v.shape r (over list (first ∷ [])))
      (replaced_reshapes v r (record { pair = pair; list = list; first = first; tail = tail; shape_is = is; named = named; round = round }));
  pushes = λ v closing a b joined a< b<. push_closing lawful formed v closing a b joined a< b<;
  ends = λ v rank closing none_pending falling. closing_certificate v rank closing none_pending falling;
}
