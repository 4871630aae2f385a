-- What a result was before its error was mapped. Assumes nothing.
use Rattle.std.proofs.Common.{◌≡◌, ℕ, Ok, Err, Result, refl}
use Rattle.std.specs.Result.{MatchResult, IsErrAnd}
use Rattle.plan.specs.declared.refusal.PlanFault.{PlanFault}
use Rattle.plan.specs.declared.refusal.Refusal.{Refusal}

-- the fault of a refusal at a position
abbrev pub fault_at : ℕ → Refusal → PlanFault
fault_at position refusal = record { position = position; refusal = refusal }

module _ {T E D : Type 0} (Q : E → D → Type 0) where
  pub was_ok : (r : Result T E) (mapped : Result T D) (x : T) → MatchResult r (λ y. mapped ≡ Ok y) (λ e. IsErrAnd mapped (Q e)) → mapped ≡ Ok x → r ≡ Ok x
  was_ok (Ok y) mapped x h k = cc
  was_ok (Err e) mapped x h k = absurd (rw k at h)

  pub was_err : (r : Result T E) (mapped : Result T D) (d : D) → MatchResult r (λ y. mapped ≡ Ok y) (λ e. IsErrAnd mapped (Q e)) → mapped ≡ Err d → (e : E) × (r ≡ Err e) × Q e d
  was_err (Ok y) mapped d h k = absurd (cc)
  was_err (Err e) mapped d h k = (e, refl, rw k at h)
