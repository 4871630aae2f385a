-- A closure with nothing pending is consistent with the state. Assumes nothing.
use Rattle.std.proofs.Common.{◌≡◌, ℕ, []}
use Rattle.theory.specs.Meaning.{Meaning}
use Rattle.theory.specs.States.{State}
use Rattle.theory.specs.Certificates.{Falling, Consistent}
use Rattle.theory.specs.Closures.{Closure, Covers}
use Rattle.theory.proofs.LinkedCells.{linked_label, held_now}

-- where nothing is pending, a closure that has lost nothing is consistent
pub covers_consistent : {m : Meaning} {s : State} (v : Closure) (rank : ℕ → ℕ) → v.pending ≡ [] → Covers m s v → Falling v.label v.shape rank →
    Consistent m s v.label rank v.shape
covers_consistent v rank e g falling = record {
  label_fixed = g.label_fixed;
  equations = λ a b x. linked_label (rw e at (g.equations a b x));
  terms_held = λ i c ps t. let o = g.terms_linked i c ps t in record { code = o.code; parts = o.parts; shape_is = o.shape_is; held = held_now (g.label_fixed i) (rw e at o.held) };
  falling = falling;
}
