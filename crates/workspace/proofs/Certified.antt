-- States that calls lead to are formed and have a certificate whose classes are met. Assumes nothing.
use Rattle.std.proofs.Common.{ℕ, ◌<◌, List, length, Result, arith}
use Rattle.theory.specs.Meaning.{Meaning, Lawful}
use Rattle.theory.specs.Types.{Tree}
use Rattle.theory.specs.States.{State, Cell, unknown, term, Formed, CellFormed, with_cell, with_equation}
use Rattle.theory.specs.Assignments.{Assigns}
use Rattle.theory.specs.Certificates.{Shape, Certificate, ClassesAdmitted}
use Rattle.theory.specs.Theorems.{CellAdmitted}
use Rattle.theory.specs.Verdicts.{Verdict, certified, clashes, barred}
use Rattle.theory.proofs.StatesStayFormed.{formed_laws, empty_certificate, empty_admitted}
use Rattle.theory.proofs.NewCell.{new_cell_keeps_certificate, new_cell_keeps_classes}
use Rattle.theory.proofs.HeldPairwise.{consistent_pairwise}
use Rattle.theory.proofs.FillingsAreRows.{certified_state_has_assignment}
use Rattle.theory.proofs.Verdicts.{every_state_has_a_verdict}
use Rattle.workspace.specs.declared.fault.Fault.{Fault}
use Rattle.workspace.specs.Calls.{UnknownCall, unknown_full, unknown_no_code, unknown_made, TermCall, term_no_code, term_wrong_count, term_no_cell, term_full, term_made, JoinCall, join_no_cell, join_no_types, join_no_classes, join_accepted}
use Rattle.workspace.specs.Promise.{Reached, opened, after_unknown, after_term, after_join}

pub record Certified (m : Meaning) (s : State) : Type 0 where
  pub formed : Formed m s
  pub label : ℕ → ℕ
  pub rank : ℕ → ℕ
  pub shape : ℕ → Shape
  pub certificate : Certificate m s label rank shape
  pub admitted : ClassesAdmitted m s label

module _ (m : Meaning) (lawful : Lawful m) where
  pub assigned : (s : State) → Certified m s → (type_of : ℕ → Tree) × Assigns m s type_of
  assigned s c = certified_state_has_assignment lawful c.formed (consistent_pairwise lawful c.certificate.consistent) c.certificate.label_joined c.admitted

  -- a formed state that has an assignment is certified
  certified_by : (s : State) → Formed m s → (type_of : ℕ → Tree) → Assigns m s type_of → Verdict m s → Certified m s
  certified_by s formed type_of a (certified label rank shape c k) = record { formed = formed; label = label; rank = rank; shape = shape; certificate = c; admitted = k }
  certified_by s formed type_of a (clashes none) = absurd (none type_of a.unclassed)
  certified_by s formed type_of a (barred other u none) = absurd (none type_of a)

  new_cell : (s : State) (c : Cell) → Certified m s → length s.cells < 2048 → CellFormed m s c → CellAdmitted m c → Certified m (with_cell s c)
  new_cell s c k room cell_formed cell_admitted =
      let formed' = (formed_laws m).cell s c k.formed (omega arith) cell_formed in
      let new = new_cell_keeps_certificate lawful c k.formed formed' k.certificate in
      record {
        formed = formed';
        label = k.label;
        rank = new.0;
        shape = _;
        certificate = new.1;
        admitted = new_cell_keeps_classes lawful c k.formed formed' k.certificate k.admitted cell_admitted;
      }

  after_unknown_call : (s t : State) (set : ℕ) (r : Result ℕ Fault) → set < 256 → Certified m s → UnknownCall m s set r t → Certified m t
  after_unknown_call s t set r small k (unknown_full h) = k
  after_unknown_call s t set r small k (unknown_no_code h n) = k
  after_unknown_call s t set r small k (unknown_made h code) = new_cell s (unknown set) k h small code

  after_term_call : (s t : State) (code : ℕ) (cells : List ℕ) (r : Result ℕ Fault) → Certified m s → TermCall m s code cells r t → Certified m t
  after_term_call s t code cells r k (term_no_code h) = k
  after_term_call s t code cells r k (term_wrong_count h n) = k
  after_term_call s t code cells r k (term_no_cell h n cell f) = k
  after_term_call s t code cells r k (term_full h n standing full) = k
  after_term_call s t code cells r k (term_made h n standing room) = new_cell s (term code cells) k room.for_cell (h, n, standing) tt

  after_join_call : (s t : State) (left right : ℕ) (r : Result (Unit {0}) Fault) → Certified m s → JoinCall m s left right r t → Certified m t
  after_join_call s t left right r k (join_no_cell cell f) = k
  after_join_call s t left right r k (join_no_types a b none) = k
  after_join_call s t left right r k (join_no_classes a b type_of u none) = k
  after_join_call s t left right r k (join_accepted a b type_of assigns) =
      let formed' = (formed_laws m).equation s left right k.formed a b in
      certified_by (with_equation s left right) formed' type_of assigns (every_state_has_a_verdict lawful formed')

  pub reached_certified : (s : State) → Reached m s → Certified m s
  reached_certified s opened = record { formed = (formed_laws m).empty; label = λ i. i; rank = λ i. 0; shape = _; certificate = empty_certificate m; admitted = empty_admitted lawful }
  reached_certified s (after_unknown {s = before} {r = r} set small h c) = after_unknown_call before s set r small (reached_certified before h) c
  reached_certified s (after_term {s = before} {r = r} code cells h c) = after_term_call before s code cells r (reached_certified before h) c
  reached_certified s (after_join {s = before} {r = r} left right h c) = after_join_call before s left right r (reached_certified before h) c
