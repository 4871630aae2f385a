-- Cells that point to parents: the way up from a cell, and the facts that let every way end. Assumes nothing.
use Rattle.std.specs.Prelude.{◌≡◌, ℕ, zero, suc, ◌+◌, ◌<◌, ◌≤◌, ◌≢◌, ◌==◌, nat_lt, if◌then◌else◌}

-- the parent of a cell; a number that is not a cell is its own
unfoldable pub next_in : (parent : ℕ → ℕ) (count : ℕ) → ℕ → ℕ
next_in parent count i = if nat_lt i count then parent i else i

-- where that many steps lead
unfoldable pub follow : (ℕ → ℕ) → ℕ → ℕ → ℕ
follow f zero i = i
follow f (suc k) i = follow f k (f i)

-- The representative of a cell's class. There are at most 2,048 cells, so as many steps reach it.
unfoldable pub label_in : (parent : ℕ → ℕ) (count : ℕ) → ℕ → ℕ
label_in parent count i = follow (next_in parent count) 2048 i

-- how many cells have another cell for a parent
unfoldable pub lowered : (parent : ℕ → ℕ) (count : ℕ) → ℕ
lowered parent zero = 0
lowered parent (suc n) = if parent n == n then lowered parent n else lowered parent n + 1

-- the number of the link by which a cell got another parent, or 2,048 where it got none
unfoldable pub time_in : (lower : ℕ → ℕ) (links : ℕ) → ℕ → ℕ
time_in lower zero i = 2048
time_in lower (suc k) i = if lower k == i then k else time_in lower k i

-- Every way up ends: cells are linked one after another, each before its parent is.
pub record Forest (parent lower : ℕ → ℕ) (count links : ℕ) : Type 0 where
  pub few : count ≤ 2048
  -- each parent is a cell
  pub inside : (i : ℕ) → i < count → parent i < count
  -- as many cells have another parent as links were made
  pub counted : lowered parent count ≡ links
  -- a cell that is its own parent was not linked
  pub unlinked : (i : ℕ) → i < count → parent i ≡ i → time_in lower links i ≡ 2048
  -- a cell with another parent was linked, and before its parent was
  pub linked : (i : ℕ) → i < count → (parent i ≢ i) → time_in lower links i < links
  pub rising : (i : ℕ) → i < count → (parent i ≢ i) → time_in lower links i < time_in lower links (parent i)
  -- each link of the trail is of a cell that has another parent since
  pub trail_inside : (k : ℕ) → k < links → lower k < count
  pub trail_times : (k : ℕ) → k < links → time_in lower links (lower k) ≡ k
  pub trail_linked : (k : ℕ) → k < links → (parent (lower k) ≢ lower k)
