-- What the colors of a walk say, and what a write to them changes. Assumes nothing.
use Rattle.std.proofs.Common.{◌≡◌, ◌≢◌, ℕ, ◌<◌, ◌≤◌, List, length, cond, get_or, set, replicate, refl, arith, get_or-set_other, get_or-set_same}
use Rattle.std.proofs.Math.Decide.{ℕ_discrete}
use Rattle.std.proofs.lemmas.Bool.{cases_lt}
use Rattle.std.proofs.lemmas.Grind.{common_steps}
use Rattle.std.proofs.lemmas.List.{get_or_past}
use Rattle.std.proofs.lemmas.List.Sums.{sum_by-set}
use Rattle.std.specs.List.{count_by}
use Rattle.theory.specs.Walks.{In}
use Rattle.walk.specs.declared.state.Color.{Color}
use Rattle.walk.specs.declared.state.Color.TheVariants.{Untouched, OnStack, Done}
use Rattle.walk.specs.Progress.{Progress, on_stack}
use Rattle.walk.specs.Stands.{Colored, is_untouched}

-- in an array of one color every node has it
pub blank_everywhere : (size x : ℕ) → get_or (replicate size Untouched) x Untouched ≡ Untouched
blank_everywhere size x = grind (arith, common_steps, cases_lt x size, get_or_past (replicate size Untouched) x Untouched)

pub on_stack_not_done : (p : Progress) (x : ℕ) (c : Color) → Colored p x c → In x (on_stack p) → In x p.done → ⊥
on_stack_not_done p x Untouched h q r = h.0 r
on_stack_not_done p x OnStack h q r = h.1 r
on_stack_not_done p x Done h q r = h.1 q

pub else_untouched : (p : Progress) (x : ℕ) (c : Color) → Colored p x c → (In x (on_stack p) → ⊥) → (c ≡ Done → ⊥) → c ≡ Untouched
else_untouched p x Untouched h not_stacked not_done = refl
else_untouched p x OnStack h not_stacked not_done = absurd (not_stacked h.0)
else_untouched p x Done h not_stacked not_done = absurd (not_done refl)

-- a node whose places in the two lists have not changed keeps its color
pub same_color : (p p' : Progress) (x : ℕ) (c : Color) → (In x p.done → In x p'.done) × (In x p'.done → In x p.done) →
    (In x (on_stack p) → In x (on_stack p')) × (In x (on_stack p') → In x (on_stack p)) → Colored p x c → Colored p' x c
same_color p p' x Untouched d s h = (λ q. h.0 (d.1 q), λ q. h.1 (s.1 q))
same_color p p' x OnStack d s h = (s.0 h.0, λ q. h.1 (d.1 q))
same_color p p' x Done d s h = (d.0 h.0, λ q. h.1 (s.1 q))

module _ (colors : List Color) (y : ℕ) (fits : y < length colors) where
  -- what a written color says of its node and the others of theirs
  pub painted_anew : (c : Color) (P : ℕ → Color → Type 0) → P y c → ((x : ℕ) → x ≢ y → P x (get_or colors x Untouched)) → (x : ℕ) → P x (get_or (set colors y c) x Untouched)
  painted_anew c P here there x = elim (ℕ_discrete x y) [
    | yes e ↦ let f = get_or-set_same colors y c Untouched fits in rw (e, f) here
    | no ne ↦ let f = get_or-set_other colors y x c Untouched ne in rw f (there x ne)
  ]

  pub fewer_untouched : get_or colors y Untouched ≡ Untouched → count_by is_untouched (set colors y OnStack) < count_by is_untouched colors
  fewer_untouched blank = let h = rw blank at (sum_by-set (λ c. cond (is_untouched c) 1 0) colors y OnStack Untouched fits) in omega arith

  pub no_more_untouched : count_by is_untouched (set colors y Done) ≤ count_by is_untouched colors
  no_more_untouched = let h = sum_by-set (λ c. cond (is_untouched c) 1 0) colors y Done Untouched fits in omega arith
