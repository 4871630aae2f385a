-- Assignments that agree at the classes without a term agree everywhere. Assumes nothing.
use Rattle.std.proofs.Common.{◌≡◌, ℕ, zero, suc, ◌<◌, ◌≤◌, List, [], ◌∷◌, Some, sym, refl, ap, ◌∙◌, arith}
use Rattle.theory.specs.Meaning.{Meaning, Lawful}
use Rattle.theory.specs.Types.{Tree, list_of, build}
use Rattle.theory.specs.States.{term, State, Term}
use Rattle.theory.specs.Assignments.{AssignsUnclassed}
use Rattle.theory.specs.Joined.{Joined}
use Rattle.theory.specs.Certificates.{Termless}
use Rattle.theory.proofs.Builds.{build_own_tail}
use Rattle.theory.proofs.TypesOfCells.{types_agree}
use Rattle.theory.proofs.Soundness.{joined_cells_have_one_type}
use Rattle.theory.proofs.Pairwise.{Pairwise, same_label_joined}
use Rattle.theory.proofs.ClassTerms.{ClassTerm, decide_class_term}
use Rattle.theory.proofs.LoopingPairs.{Looping, decide_looping_in, below_term, below_first}

module _ {m : Meaning} (lawful : Lawful m) {s : State} {label rank : ℕ → ℕ} (pairwise : Pairwise m s label rank) (label_joined : (i : ℕ) → Joined m s i (label i))
    {f g : ℕ → Tree} (f_assigns : AssignsUnclassed m s f) (g_assigns : AssignsUnclassed m s g)
    (chosen : (r : ℕ) → label r ≡ r → Termless s label r → f r ≡ g r) where
  -- a looping Pair is the List over its first place
  loop_type : {h : ℕ → Tree} → AssignsUnclassed m s h → (i c : ℕ) (ps : List ℕ) → Term s i c ps → (l : Looping m label (label i) c ps) →
      h i ≡ list_of l.list (h l.first)
  loop_type {h} assigns i c ps t l =
      let here : Term s i c (l.first ∷ l.rest ∷ []) = t ∙ ap (λ xs. Some (term c xs)) l.places in
      let a = assigns.terms i c (l.first ∷ l.rest ∷ []) here in
      let b = joined_cells_have_one_type lawful assigns (same_label_joined label_joined l.rest i l.round) in
      sym b ∙ build_own_tail lawful (m.plain c) l.list (h l.first) (h l.rest) l.named (b ∙ a)

  module _ (n : ℕ) (below : (i : ℕ) → rank (label i) < n → f i ≡ g i) (r : ℕ) (own : label r ≡ r) (r≤ : rank r ≤ n) where
    by_term : (i c : ℕ) (ps : List ℕ) → Term s i c ps → label i ≡ r → Dec (Looping m label r c ps) → f i ≡ g i
    by_term i c ps t e (yes l) =
        let here : Term s i c (l.first ∷ l.rest ∷ []) = t ∙ ap (λ xs. Some (term c xs)) l.places in
        let low = below_first pairwise r c i l.first l.rest here e in
        let a = loop_type f_assigns i c ps t (record { list = l.list; first = l.first; rest = l.rest; named = l.named; places = l.places; round = l.round ∙ sym e }) in
        let b = loop_type g_assigns i c ps t (record { list = l.list; first = l.first; rest = l.rest; named = l.named; places = l.places; round = l.round ∙ sym e }) in
        a ∙ ap (list_of l.list) (below l.first (omega arith)) ∙ sym b
    by_term i c ps t e (no l) =
        let same = types_agree f g ps (λ k p at. let low = below_term pairwise r c i ps t e l k p at in below p (omega arith)) in
        f_assigns.terms i c ps t ∙ ap (build m (m.plain c)) same ∙ sym (g_assigns.terms i c ps t)

    by_class : Dec (ClassTerm s.cells label r) → f r ≡ g r
    by_class (no none_of) = chosen r own (λ i c ps t e. none_of (record { cell = i; code = c; places = ps; stands = t; in_class = e }))
    by_class (yes t) =
        let j = same_label_joined label_joined r t.cell (own ∙ sym t.in_class) in
        joined_cells_have_one_type lawful f_assigns j ∙ by_term t.cell t.code t.places t.stands t.in_class (decide_looping_in m label r t.code t.places m.layering refl) ∙
        sym (joined_cells_have_one_type lawful g_assigns j)

  by_rank : (n i : ℕ) → rank (label i) < n → f i ≡ g i
  by_rank zero i h = absurd (omega arith)
  by_rank (suc n) i h =
      joined_cells_have_one_type lawful f_assigns (label_joined i) ∙ by_class n (by_rank n) (label i) (pairwise.label_fixed i) (omega arith) (decide_class_term s.cells label (label i)) ∙
      sym (joined_cells_have_one_type lawful g_assigns (label_joined i))

  pub choice_fixes_assignment : (i : ℕ) → f i ≡ g i
  choice_fixes_assignment i = by_rank (suc (rank (label i))) i (omega arith)
