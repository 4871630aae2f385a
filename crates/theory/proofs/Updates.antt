-- Labels and shapes with one class changed: at that class, and at any other. Assumes nothing.
use Rattle.std.proofs.Common.{◌≡◌, ℕ}
use Rattle.std.proofs.Math.Decide.{ℕ_discrete}
use Rattle.theory.specs.Certificates.{Shape}
use Rattle.theory.specs.Updates.{sent, replaced}
use Rattle.theory.proofs.IfSo.{if_so_yes, if_so_no}

pub sent_hit : (x y i : ℕ) → i ≡ x → sent x y i ≡ y
unfolding sent
sent_hit x y i e = if_so_yes (ℕ_discrete i x) y i e

pub sent_miss : (x y i : ℕ) → (i ≡ x → ⊥) → sent x y i ≡ i
unfolding sent
sent_miss x y i n = if_so_no (ℕ_discrete i x) y i n

pub replaced_hit : (f : ℕ → Shape) (x : ℕ) (new : Shape) (i : ℕ) → i ≡ x → replaced f x new i ≡ new
unfolding replaced
replaced_hit f x new i e = if_so_yes (ℕ_discrete i x) new (f i) e

pub replaced_miss : (f : ℕ → Shape) (x : ℕ) (new : Shape) (i : ℕ) → (i ≡ x → ⊥) → replaced f x new i ≡ f i
unfolding replaced
replaced_miss f x new i n = if_so_no (ℕ_discrete i x) new (f i) n
