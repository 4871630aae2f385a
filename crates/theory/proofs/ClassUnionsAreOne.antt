-- Joined cells have one union of classes, and it has 8 bits. Assumes nothing.
use Rattle.std.proofs.Common.{◌≡◌, ℕ, ◌<◌}
use Rattle.theory.specs.Meaning.{Meaning}
use Rattle.theory.specs.States.{State, Formed}
use Rattle.theory.specs.Joined.{Joined, symmetric, transitive}
use Rattle.theory.specs.ClassUnions.{HasClass, Union}
use Rattle.theory.proofs.SetsAsNumbers.{same_set, small_has_low, low_has_small}

module _ {m : Meaning} {s : State} where
  has_class_along : {i j k : ℕ} → Joined m s i j → HasClass m s i k → HasClass m s j k
  has_class_along g h = record { cell = h.cell; set = h.set; joined = transitive (symmetric g) h.joined; stands = h.stands; has_it = h.has_it }

  pub union_along : {i j set : ℕ} → Joined m s i j → Union m s i set → Union m s j set
  union_along g u = record { gathers = λ k h. u.gathers k (has_class_along (symmetric g) h); only = λ k h. has_class_along g (u.only k h) }

  pub union_one : {i j a b : ℕ} → Joined m s i j → Union m s i a → Union m s j b → a ≡ b
  union_one {a = a} {b = b} g x y =
      same_set a b (λ k h. y.gathers k (has_class_along g (x.only k h))) (λ k h. x.gathers k (has_class_along (symmetric g) (y.only k h)))

  pub union_small : Formed m s → {i set : ℕ} → Union m s i set → set < 256
  union_small formed {i} {set} u = low_has_small set (λ k h. let c = u.only k h in small_has_low c.set k (formed.unknown_set c.cell c.set c.stands) c.has_it)
