-- From an equation that cannot be anything follows. Assumes nothing.
use Rattle.std.proofs.Common.{◌≡◌, ℕ, arith}

-- `impossible (cc)` closes a case whose equations cannot all hold
pub impossible : {A : Type 0} → ◌≡◌ {A = ℕ} 0 1 → A
impossible e = absurd (omega arith)
