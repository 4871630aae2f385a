-- Steps from class to class through second places of Pairs. Assumes nothing.
use Rattle.std.proofs.Common.{◌≡◌, ℕ, false, ◌⊎◌, sym, refl, ap, ◌∙◌, inl, inr}
use Rattle.theory.specs.Meaning.{Meaning}
use Rattle.theory.specs.States.{State}
use Rattle.theory.specs.Joined.{PairTerm, Joined, symmetric, transitive, ring, Reaches, next_pair, onward}
use Rattle.theory.specs.Refusals.{Inside, at_tail, at_joined, inner}

-- the second place of a Pair of the class x is in the class y, another
pub record TailStep (m : Meaning) (s : State) (label : ℕ → ℕ) (x y : ℕ) : Type 0 where
  pub cell : ℕ
  pub first : ℕ
  pub tail : ℕ
  pub pair : PairTerm m s cell first tail
  pub joined : Joined m s x cell
  pub into : label tail ≡ y
  pub leaves : y ≡ x → ⊥

-- one after another
pub data TailSteps (m : Meaning) (s : State) (label : ℕ → ℕ) : ℕ → ℕ → Type 0 where
  one_step : {x y : ℕ} → TailStep m s label x y → TailSteps m s label x y
  then_steps : {x y z : ℕ} → TailSteps m s label x y → TailSteps m s label y z → TailSteps m s label x z

-- their first, and the others
pub record FirstStep (m : Meaning) (s : State) (label : ℕ → ℕ) (x z : ℕ) : Type 0 where
  pub next : ℕ
  pub head : TailStep m s label x next
  pub others : (next ≡ z) ⊎ TailSteps m s label next z

pub first_step : {m : Meaning} {s : State} {label : ℕ → ℕ} {x z : ℕ} → TailSteps m s label x z → FirstStep m s label x z
first_step (one_step {x} {y} e) = record { next = y; head = e; others = inl refl }
first_step {m} {s} {label} (then_steps {x} {y} {z} a b) = go (first_step a)
  where
    go : FirstStep m s label x y → FirstStep m s label x z
    go p = record { next = p.next; head = p.head; others = inr (more_of p.others) }
      where
        more_of : (p.next ≡ y) ⊎ TailSteps m s label p.next y → TailSteps m s label p.next z
        more_of (inl e) = rw e b
        more_of (inr c) = then_steps c b

module _ {m : Meaning} {s : State} {label : ℕ → ℕ} (label_joined : (i : ℕ) → Joined m s i (label i)) where
  pub tail_steps_inside : {x y : ℕ} → TailSteps m s label x y → Inside m s false x y
  tail_steps_inside (one_step e) = inner (at_joined e.joined) (inner (at_tail e.pair) (at_joined (rw e.into at (label_joined e.tail))))
  tail_steps_inside (then_steps a b) = inner (tail_steps_inside a) (tail_steps_inside b)

  pub tail_steps_label : ((i : ℕ) → label (label i) ≡ label i) → {x y : ℕ} → TailSteps m s label x y → label y ≡ y
  tail_steps_label label_fixed (one_step e) = ap label (sym e.into) ∙ label_fixed e.tail ∙ e.into
  tail_steps_label label_fixed (then_steps a b) = tail_steps_label label_fixed b

  -- from a Pair of the class x on to any Pair of the class y
  record ReachesPairs (x y : ℕ) : Type 0 where
    start : ℕ
    first : ℕ
    tail : ℕ
    pair : PairTerm m s start first tail
    joined : Joined m s x start
    reach : (j h t : ℕ) → Joined m s y j → PairTerm m s j h t → Reaches m s start j

  reaches_pairs : {x y : ℕ} → TailSteps m s label x y → ReachesPairs x y
  reaches_pairs (one_step e) = record {
    start = e.cell;
    first = e.first;
    tail = e.tail;
    pair = e.pair;
    joined = e.joined;
    reach = λ j h t g p. next_pair e.pair p (transitive (rw e.into at (label_joined e.tail)) g);
  }
  reaches_pairs (then_steps a b) =
      let x = reaches_pairs a in
      let y = reaches_pairs b in
      record {
        start = x.start;
        first = x.first;
        tail = x.tail;
        pair = x.pair;
        joined = x.joined;
        reach = λ j h t g p. onward (x.reach y.start y.first y.tail y.joined y.pair) (y.reach j h t g p);
      }

  -- two classes of a ring are joined
  pub tail_ring_joined : {x y : ℕ} → TailSteps m s label x y → TailSteps m s label y x → Joined m s x y
  tail_ring_joined a b =
      let p = reaches_pairs a in
      let q = reaches_pairs b in
      transitive p.joined (transitive (ring (p.reach q.start q.first q.tail q.joined q.pair) (q.reach p.start p.first p.tail p.joined p.pair)) (symmetric q.joined))
