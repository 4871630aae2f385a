-- Every state comes to a verdict. Assumes nothing.
use Rattle.std.proofs.Common.{ℕ, ◌<◌, ◌⊎◌, [], ◌∷◌, length, inl, inr}
use Rattle.theory.specs.Meaning.{Meaning, Lawful}
use Rattle.theory.specs.Types.{Tree, IsType}
use Rattle.theory.specs.States.{State, Formed, with_equation}
use Rattle.theory.specs.Certificates.{Shape, Certificate, HasCertificate, ClassesAdmitted}
use Rattle.theory.specs.Refusals.{Clash, Barred}
use Rattle.theory.specs.Verdicts.{Verdict, certified, clashes, barred}
use Rattle.theory.proofs.Pairwise.{Pairwise}
use Rattle.theory.proofs.HeldPairwise.{consistent_pairwise}
use Rattle.theory.proofs.Completeness.{assigned, assigned_extends}
use Rattle.theory.proofs.SomeTypes.{leaf_type, leaf_is_type}
use Rattle.theory.proofs.ClashRefuses.{clash_refuses}
use Rattle.theory.proofs.BarredRefuses.{barred_refuses}
use Rattle.theory.proofs.ClosureEnds.{closure_ends}
use Rattle.theory.proofs.ClosureStarts.{start, start_closing, resumed_closing}
use Rattle.theory.proofs.ClassesAdmittedOrBarred.{classes_admitted_or_barred}
use Rattle.theory.proofs.StatesStayFormed.{with_equation_formed}

module _ {m : Meaning} (lawful : Lawful m) where
  certificate_verdict : {s : State} → Formed m s → {label rank : ℕ → ℕ} {shape : ℕ → Shape} → Certificate m s label rank shape → Verdict m s
  certificate_verdict {s} formed {label} {rank} {shape} certificate = go (classes_admitted_or_barred lawful formed certificate)
    where
      pairwise : Pairwise m s label rank
      pairwise = consistent_pairwise lawful certificate.consistent

      leaf : ℕ → Tree
      leaf r = leaf_type lawful

      leaf_is : (r : ℕ) → IsType m (leaf r)
      leaf_is r = leaf_is_type lawful

      go : ClassesAdmitted m s label ⊎ Barred m s → Verdict m s
      go (inl admitted) = certified label rank shape certificate admitted
      go (inr b) = barred (assigned lawful formed pairwise leaf leaf_is) (assigned_extends lawful formed pairwise leaf leaf_is).assigns (λ type_of assigns. barred_refuses lawful assigns b)

  verdict_of : {s : State} → Formed m s → Clash m s ⊎ HasCertificate m s → Verdict m s
  verdict_of formed (inl c) = clashes (λ type_of assigns. clash_refuses lawful assigns c)
  verdict_of formed (inr h) = certificate_verdict formed h.3

  pub every_state_has_a_verdict : {s : State} → Formed m s → Verdict m s
  every_state_has_a_verdict {s} formed = verdict_of formed (closure_ends lawful formed (start m s) (start_closing m s formed))

  pub next_equation_has_a_verdict : {s : State} {label rank : ℕ → ℕ} {shape : ℕ → Shape} → Formed m s → Certificate m s label rank shape → (a b : ℕ) →
      a < length s.cells → b < length s.cells →
      Verdict m (with_equation s a b)
  next_equation_has_a_verdict {s} {label} {rank} {shape} formed certificate a b a< b< =
      let formed' = with_equation_formed a b a< b< formed in
      verdict_of formed' (closure_ends lawful formed' (record { label = label; shape = shape; pending = (a, b) ∷ [] }) (resumed_closing certificate a b a< b<))
