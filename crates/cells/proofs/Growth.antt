-- A store with one cell more. Assumes nothing.
use Rattle.std.proofs.Common.{◌≡◌, ℕ, suc, ◌+◌, ◌<◌, ◌≤◌, List, [], ◌∷◌, ◌++◌, All, map, length, take, set, sym, refl, ap, ◌∙◌, subst, ⊎_elim, arith}
use Rattle.std.proofs.lemmas.List.{take_more_set, map_push, drop-take, take-take}
use Rattle.std.proofs.lemmas.List.Sums.{sum_by-append}
use Rattle.std.proofs.lemmas.List.Elements.{All-push, All-weaker}
use Rattle.theory.specs.States.{Cell}
use Rattle.theory.proofs.Lookups.{nth_pushed_split}
use Rattle.cells.specs.declared.storage.Cells.{Cells}
use Rattle.cells.specs.declared.storage.Entry.{Entry}
use Rattle.cells.specs.declared.storage.Entry.TheVariants.{Unknown, Term}
use Rattle.cells.specs.CellLists.{places_of, places_in, IsSound, AllSound}
use Rattle.cells.specs.Layout.{cell_in, cells_in, end_of}
use Rattle.cells.specs.Contents.{cells_of}

-- the cell of an entry whose places end in what was filled, where that is as it was
cell_kept : (ps qs : List ℕ) (f : ℕ) (e : Entry) → take f qs ≡ take f ps → end_of e ≤ f → cell_in qs e ≡ cell_in ps e
cell_kept ps qs f (Unknown _) kept ends = refl
cell_kept ps qs f (Term code plain start count) kept ends =
    rw (← drop-take start count qs, ← drop-take start count ps, ← take-take (start + count) f qs ends, ← take-take (start + count) f ps ends, kept)

-- the cells of such entries
cells_kept : (ps qs : List ℕ) (f : ℕ) (es : List Entry) → take f qs ≡ take f ps → All (λ e. end_of e ≤ f) es → map (cell_in qs) es ≡ map (cell_in ps) es
cells_kept ps qs f [] kept within = refl
cells_kept ps qs f (e ∷ es) kept within =
    let here = cell_kept ps qs f e kept (within 0 e (omega arith)) in
    let rest = cells_kept ps qs f es kept (λ k d h. within (suc k) d (omega arith)) in
    cc

-- one entry more, that keeps the cell c, where what was filled is as it was: the cells are those of before, and c
pub cells_more : (t : Cells) (qs : List ℕ) (e : Entry) (c : Cell) → t.count < length t.entries → take t.filled qs ≡ take t.filled t.places → cell_in qs e ≡ c
    → cells_in (set t.entries t.count e) qs (t.count + 1) ≡ cells_of t ++ (c ∷ [])
unfolding cells_of
cells_more t qs e c room kept is =
    rw (take_more_set t.entries t.count e room, map_push (cell_in qs) (take t.count t.entries) e, cells_kept t.places qs t.filled (take t.count t.entries) kept t.within, is)

-- then its places, as those of the others, lie in what is filled
pub within_more : (t : Cells) (e : Entry) (g : ℕ) → t.count < length t.entries → t.filled ≤ g → end_of e ≤ g → All (λ x. end_of x ≤ g) (take (t.count + 1) (set t.entries t.count e))
within_more t e g room le ends =
    rw (take_more_set t.entries t.count e room) (All-push (λ x. end_of x ≤ g) (take t.count t.entries) e
    (All-weaker (λ x. end_of x ≤ t.filled) (λ x. end_of x ≤ g) (λ x h. omega arith) (take t.count t.entries) t.within) ends)

-- then c, as each of the others, is sound where it stands
pub sound_more : (t : Cells) (qs : List ℕ) (e : Entry) (c : Cell) → t.count < length t.entries → take t.filled qs ≡ take t.filled t.places → cell_in qs e ≡ c
    → IsSound (length (cells_of t)) c → AllSound (cells_in (set t.entries t.count e) qs (t.count + 1))
unfolding cells_of
sound_more t qs e c room kept is new i x at =
    ⊎_elim (t.sound i x) (λ h. subst (λ j. IsSound j x) (sym h.0) (subst (IsSound (length (cells_of t))) (sym h.1) new))
    (nth_pushed_split (cells_of t) c i x (rw (cells_more t qs e c room kept is) at at))

-- then its places come on top of those of the others
pub places_more : (t : Cells) (qs : List ℕ) (e : Entry) (c : Cell) (g : ℕ) → t.count < length t.entries → take t.filled qs ≡ take t.filled t.places → cell_in qs e ≡ c
    → t.filled + length (places_of c) ≡ g → places_in (cells_in (set t.entries t.count e) qs (t.count + 1)) ≡ g
unfolding cells_of
places_more t qs e c g room kept is filled =
    let more = sum_by-append (λ x. length (places_of x)) (cells_of t) (c ∷ []) in
    let brim = t.brim in
    ap places_in (cells_more t qs e c room kept is) ∙ omega arith
