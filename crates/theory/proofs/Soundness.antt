-- Joined cells have one type under every assignment. Assumes nothing.
use Rattle.std.proofs.Common.{◌≡◌, ℕ, List}
use Rattle.theory.specs.Meaning.{Meaning, Lawful}
use Rattle.theory.specs.Types.{Tree, size, types}
use Rattle.theory.specs.States.{State, Term}
use Rattle.theory.specs.Assignments.{AssignsUnclassed}
use Rattle.theory.specs.Joined.{Joined}
use Rattle.theory.specs.Codes.{CodesAgree}
use Rattle.theory.proofs.Builds.{build_injective, build_list_is_pair, build_tail, build_codes}
use Rattle.theory.proofs.TypesOfCells.{types_at}
use Rattle.theory.proofs.Respects.{Respects, joined_same}

module _ {m : Meaning} (lawful : Lawful m) {s : State} {type_of : ℕ → Tree} (assigns : AssignsUnclassed m s type_of) where
  types_respect : Respects m s type_of size
  types_respect = record {
    of_equation = assigns.equations;
    of_places = λ i j c d k p q ps qs ti tj e ij hp hq.
        let a = assigns.terms i c ps ti in
        let b = assigns.terms j d qs tj in
        types_at type_of ps qs k p q (build_injective lawful (m.plain c) (types type_of ps) (types type_of qs) (cc)) hp hq;
    of_list_meets_pair = λ i j element first tail l p ij.
        let a = assigns.terms i l.code _ l.stands in
        let b = assigns.terms j p.code _ p.stands in
        let both = build_list_is_pair lawful l.pair (m.plain l.code) (type_of element) (type_of first) (type_of tail) l.named (cc) in
        (both.0, cc both.1);
    of_tail = λ i first tail p. rw (assigns.terms i p.code _ p.stands) (build_tail lawful (m.plain p.code) (type_of first) (type_of tail));
  }

  pub joined_cells_have_one_type : {a b : ℕ} → Joined m s a b → type_of a ≡ type_of b
  joined_cells_have_one_type = joined_same types_respect

  -- and joined terms have codes that agree
  pub joined_terms_agree : (i j c d : ℕ) (ps qs : List ℕ) → Term s i c ps → Term s j d qs → Joined m s i j → CodesAgree m (m.plain c) (m.plain d)
  joined_terms_agree i j c d ps qs ti tj joined =
      let a = assigns.terms i c ps ti in
      let b = assigns.terms j d qs tj in
      let e = joined_cells_have_one_type joined in
      build_codes lawful (m.plain c) (m.plain d) (types type_of ps) (types type_of qs) (cc)
