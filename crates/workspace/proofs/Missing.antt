-- The first cell of a list that does not stand. Assumes nothing.
use Rattle.std.proofs.Common.{◌≡◌, ℕ, zero, suc, ◌⊎◌, List, [], ◌∷◌, ◌++◌, length, Some, sym, refl, ap, ◌∙◌, inl, inr, arith}
use Rattle.std.proofs.Math.Decide.{dec_lt}
use Rattle.std.specs.List.{slice_get}
use Rattle.theory.specs.States.{State, Standing}
use Rattle.theory.proofs.Lookups.{nth_later}
use Rattle.workspace.specs.Calls.{Stands, FirstMissing}

module _ (s : State) where
  pub standing_none : Standing s []
  standing_none zero c e = let z : ◌≡◌ {A = ℕ} 0 1 = cc in absurd (omega arith)
  standing_none (suc k) c e = let z : ◌≡◌ {A = ℕ} 0 1 = cc in absurd (omega arith)

  pub standing_next : (c : ℕ) (cs : List ℕ) → Stands s c → Standing s cs → Standing s (c ∷ cs)
  standing_next c cs h hs zero d e = let f : c ≡ d = cc in omega arith
  standing_next c cs h hs (suc k) d e = hs k d e

  pub standing_first : (c : ℕ) (cs : List ℕ) → Standing s (c ∷ cs) → Stands s c
  standing_first c cs h = h 0 c refl

  pub standing_rest : (c : ℕ) (cs : List ℕ) → Standing s (c ∷ cs) → Standing s cs
  standing_rest c cs h k d e = h (suc k) d e

  -- all stand, or there is a first that does not
  pub standing_or_missing : (cells : List ℕ) → Standing s cells ⊎ ((cell : ℕ) × FirstMissing s cells cell)
  standing_or_missing [] = inl standing_none
  standing_or_missing (c ∷ cs) = go (dec_lt c (length s.cells)) (standing_or_missing cs)
    where
      go : Dec (Stands s c) → Standing s cs ⊎ ((cell : ℕ) × FirstMissing s cs cell) → Standing s (c ∷ cs) ⊎ ((cell : ℕ) × FirstMissing s (c ∷ cs) cell)
      go (no n) r = inr (c, record { before = []; after = cs; split = refl; standing = standing_none; missing = omega arith })
      go (yes h) (inl hs) = inl (standing_next c cs h hs)
      go (yes h) (inr f) = inr (
        f.0,
        record {
          before = c ∷ f.1.before;
          after = f.1.after;
          split = ap (λ (x : List ℕ). c ∷ x) f.1.split;
          standing = standing_next c f.1.before h f.1.standing;
          missing = f.1.missing;
        },
      )

  -- where one does not stand, not all do
  pub missing_stands_not : (cells : List ℕ) (cell : ℕ) → FirstMissing s cells cell → Standing s cells → ⊥
  missing_stands_not cells cell f h =
      let p = nth_later f.before (cell ∷ f.after) 0 cell refl in
      let at : slice_get cells p.0 ≡ Some cell = rw f.split p.1 in
      let l = h p.0 cell at in let g = f.missing in omega arith

  -- there is one first
  pub missing_once : (cells : List ℕ) (c d : ℕ) → FirstMissing s cells c → FirstMissing s cells d → c ≡ d
  missing_once cells c d f g = go f.before g.before f.standing g.standing (sym f.split ∙ g.split)
    where
      go : (xs ys : List ℕ) → Standing s xs → Standing s ys → xs ++ (c ∷ f.after) ≡ ys ++ (d ∷ g.after) → c ≡ d
      go [] [] hx hy e = cc
      go [] (y ∷ ys) hx hy e = let l = standing_first y ys hy in let z : c ≡ y = cc in let m = f.missing in absurd (omega arith)
      go (x ∷ xs) [] hx hy e = let l = standing_first x xs hx in let z : x ≡ d = cc in let m = g.missing in absurd (omega arith)
      go (x ∷ xs) (y ∷ ys) hx hy e = go xs ys (standing_rest x xs hx) (standing_rest y ys hy) (cc)
