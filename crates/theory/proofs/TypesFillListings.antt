-- The types that an assignment gives the numbered unknowns fill a listing, and the row is the types of its cells. Assumes nothing.
use Rattle.std.proofs.Common.{◌≡◌, ℕ, ◌≤◌, List, [], ◌∷◌, ◌++◌, length, Some, sym, refl, ap, ◌∙◌, append_assoc, append-nil, arith}
use Rattle.std.specs.List.{slice_get}
use Rattle.theory.specs.Meaning.{Meaning, Admits, Lawful}
use Rattle.theory.specs.Types.{Tree, Trees, end, and, one, top, before, types, IsType, build}
use Rattle.theory.specs.States.{State, Formed}
use Rattle.theory.specs.Assignments.{AssignsUnclassed}
use Rattle.theory.specs.Joined.{Joined, reflexive}
use Rattle.theory.specs.ListLike.{ListLike, joined_list, joined_loop}
use Rattle.theory.specs.ClassUnions.{Union}
use Rattle.theory.specs.Listings.{unknown_word, Written, list_word, term_word, numbered_word, new_word, WrittenAll, no_more, next_cell}
use Rattle.theory.specs.Fillings.{Fills, no_words, unknown_filled, symbol_filled}
use Rattle.theory.proofs.Lookups.{nth_below, nth_pushed}
use Rattle.theory.proofs.Layers.{layers_of}
use Rattle.theory.proofs.Builds.{build_list, build_own_tail}
use Rattle.theory.proofs.TypesOfCells.{types_count}
use Rattle.theory.proofs.Soundness.{joined_cells_have_one_type}
use Rattle.theory.proofs.LayerPlaces.{term_width}
use Rattle.theory.proofs.ListLikes.{list_like_named}
use Rattle.theory.proofs.ClassUnionsAreOne.{union_along, union_small}
use Rattle.theory.proofs.NumberedUnknowns.{keeps_numbers}

-- the numbers of the unknowns `numbered` are filled with their types, and their classes admit them
pub record FilledBy (m : Meaning) (s : State) (numbered : List ℕ) (filling type_of : ℕ → Tree) : Type 0 where
  pub few : length numbered ≤ 65536
  pub filled : (k u : ℕ) → slice_get numbered k ≡ Some u → filling k ≡ type_of u
  pub are_types : (k u : ℕ) → slice_get numbered k ≡ Some u → IsType m (filling k)
  pub admitted : (k u set : ℕ) → slice_get numbered k ≡ Some u → Union m s u set → Admits m set (top (filling k))

module _ {m : Meaning} (lawful : Lawful m) {s : State} (formed : Formed m s) {type_of : ℕ → Tree} (assigns : AssignsUnclassed m s type_of) where
  list_like_type : {i list e : ℕ} → ListLike m s i list e → type_of i ≡ build m list (one (type_of e))
  list_like_type {i} {list} {e} (joined_list j pair c a t p l) =
      joined_cells_have_one_type lawful assigns a ∙ assigns.terms j c _ t ∙ ap (λ x. build m x (one (type_of e))) p
  list_like_type {i} {list} {e} (joined_loop j u c a t l r) =
      let x = joined_cells_have_one_type lawful assigns a in
      let y = assigns.terms j c _ t in
      let v = joined_cells_have_one_type lawful assigns r in
      let f = build_own_tail lawful (m.plain c) list (type_of e) (type_of u) l (cc) in
      let g = build_list lawful (m.plain c) list (one (type_of e)) l in
      cc

  module _ {filling : ℕ → Tree} {all : List ℕ} (filled_by : FilledBy m s all filling type_of) where
    -- the unknowns that have been numbered keep their numbers in the end
    abbrev Keeps : List ℕ → Type 0
    Keeps after = (k u : ℕ) → slice_get after k ≡ Some u → slice_get all k ≡ Some u

    unknown_fills : (k : ℕ) {i u set : ℕ} {ws : List ℕ} {ts : Trees} → slice_get all k ≡ Some u → Joined m s i u → Union m s i set → Fills m filling ws ts →
        Fills m filling (unknown_word k set ∷ ws) (and (type_of i) ts)
    unknown_fills k {i} {u} {set} at joined union rest =
        let p : type_of i ≡ filling k = joined_cells_have_one_type lawful assigns joined ∙ sym (filled_by.filled k u at) in
        let along : Union m s u set = union_along joined union in
        let low = nth_below all k at in
        let few = filled_by.few in
        rw p (unknown_filled k set refl (omega arith) (union_small formed union) (filled_by.are_types k u at) (filled_by.admitted k u set at along) rest)

    mutual
      fills_cell : {numbered after words ws : List ℕ} {i : ℕ} {ts : Trees} → Written m s numbered i words after → Keeps after →
          Fills m filling ws ts →
          Fills m filling (words ++ ws) (and (type_of i) ts)
      fills_cell (list_word {list = list} {element = e} h x) q rest =
          let named = list_like_named h in
          let layers = layers_of lawful named.0 list named.1 in
          rw (list_like_type h) (symbol_filled list (one (type_of e)) refl layers.list_known (sym layers.list_places) (fills_cell x q rest))
      fills_cell (term_word {ps = ps} {j = j} {c = c} n a t us) q rest =
          let k = formed.term_known j c ps t in
          rw (joined_cells_have_one_type lawful assigns a ∙ assigns.terms j c ps t)
          (symbol_filled (m.plain c) (types type_of ps) refl (lawful.plain_known c k) (types_count type_of ps ∙ term_width lawful formed j c ps t) (fills_cells us q rest))
      fills_cell (numbered_word {k = k} n f v) q rest = unknown_fills k (q k f.cell f.stands) f.joined v rest
      fills_cell (new_word {numbered} {i} n f v) q rest = unknown_fills (length numbered) (q (length numbered) i (nth_pushed numbered i)) reflexive v rest

      fills_cells : {numbered after ps words ws : List ℕ} {ts : Trees} → WrittenAll m s numbered ps words after → Keeps after →
          Fills m filling ws ts →
          Fills m filling (words ++ ws) (before (types type_of ps) ts)
      fills_cells no_more q rest = rest
      fills_cells {ws = ws} (next_cell {words = us} {words' = us'} x y) q rest =
          rw (append_assoc us us' ws) (fills_cell x (λ k u e. q k u (keeps_numbers y k u e)) (fills_cells y q rest))

    pub types_fill_listing : {cells words : List ℕ} → WrittenAll m s [] cells words all → Fills m filling words (types type_of cells)
    types_fill_listing {cells} {words} x = rw (before_end, append-nil) at (fills_cells x (λ k u e. e) no_words)
      where
        before_end : (ts : Trees) → before ts end ≡ ts
        before_end end = refl
        before_end (and t ts) = ap (and t) (before_end ts)
