-- Searching the numbers below a bound. Assumes nothing.
use Rattle.std.proofs.Common.{◌≡◌, ℕ, zero, suc, ◌+◌, ◌^◌, ◌<◌, Bool, true, false, T, ◌⊎◌, refl, inl, inr, arith}
use Rattle.std.proofs.Math.Decide.{ℕ_discrete}
use Rattle.theory.specs.Meaning.{has, Meaning, Admits, Lawful}
use Rattle.theory.proofs.Impossible.{impossible}
use Rattle.theory.proofs.SetsAsNumbers.{has_below}

-- something holds of each, or one of them ends the search
pub each_below : {A : ℕ → Type 0} {C : Type 0} (n : ℕ) → ((r : ℕ) → r < n → A r ⊎ C) → ((r : ℕ) → r < n → A r) ⊎ C
each_below zero f = inl (λ r h. absurd (omega arith))
each_below {A} {C} (suc n) f = go (f n (omega arith)) (each_below n (λ r h. f r (omega arith)))
  where
    go : A n ⊎ C → ((r : ℕ) → r < n → A r) ⊎ C → ((r : ℕ) → r < suc n → A r) ⊎ C
    go (inr c) r = inr c
    go (inl a) (inr c) = inr c
    go (inl a) (inl r) = inl (λ q h. pick q h (ℕ_discrete q n))
      where
        pick : (q : ℕ) → q < suc n → Dec (q ≡ n) → A q
        pick q h (yes e) = rw e a
        pick q h (no d) = r q (omega arith)

-- each class of a set admits a code, or one of them does not
pub record NotAdmitting (m : Meaning) (set c : ℕ) : Type 0 where
  pub class : ℕ
  pub has_it : T (has set class)
  pub admits_not : T (has (m.classes c) class) → ⊥

pub admits_or_not : (m : Meaning) (set c : ℕ) → Admits m set c ⊎ NotAdmitting m set c
admits_or_not m set c = go (each_below (set + 1) (λ k h. at k (has set k) (has (m.classes c) k) refl refl))
  where
    at : (k : ℕ) (x y : Bool) → has set k ≡ x → has (m.classes c) k ≡ y → (T (has set k) → T (has (m.classes c) k)) ⊎ NotAdmitting m set c
    at k x true e f = inl (λ h. rw f tt)
    at k false false e f = inl (λ h. let h' : T false = rw e at h in absurd h')
    at k true false e f = inr (record { class = k; has_it = rw e tt; admits_not = λ h. let h' : T false = rw f at h in h' })

    go : ((k : ℕ) → k < set + 1 → T (has set k) → T (has (m.classes c) k)) ⊎ NotAdmitting m set c → Admits m set c ⊎ NotAdmitting m set c
    go (inl f) = inl (λ k h. f k (has_below set k h) h)
    go (inr f) = inr f

-- a known code that all classes of a set admit
abbrev pub CommonCode : Meaning → ℕ → Type 0
CommonCode m set = (c : ℕ) × (m.known c ≡ true) × Admits m set c

-- there is one, or there is none: codes are below a bound
pub common_code_or_none : {m : Meaning} → Lawful m → (set : ℕ) → CommonCode m set ⊎ ((c : ℕ) → m.known c ≡ true → Admits m set c → ⊥)
common_code_or_none {m} lawful set = go (each_below (2 ^ 24) (λ c h. at c (m.known c) refl (admits_or_not m set c)))
  where
    at : (c : ℕ) (known : Bool) → m.known c ≡ known → Admits m set c ⊎ NotAdmitting m set c →
        (m.known c ≡ true → Admits m set c → ⊥) ⊎ CommonCode m set
    at c false e f = inl (λ known admits. impossible (cc))
    at c true e (inl admits) = inr (c, e, admits)
    at c true e (inr n) = inl (λ known admits. n.admits_not (admits n.class n.has_it))

    go : ((c : ℕ) → c < 2 ^ 24 → m.known c ≡ true → Admits m set c → ⊥) ⊎ CommonCode m set →
        CommonCode m set ⊎ ((c : ℕ) → m.known c ≡ true → Admits m set c → ⊥)
    go (inl f) = inr (λ c known. f c (lawful.small_codes c known) known)
    go (inr f) = inl f
