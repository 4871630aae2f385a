-- A filling gives written words one row, and has a type for each unknown of them. Assumes nothing.
use Rattle.std.proofs.Common.{◌≡◌, ℕ, zero, suc, ◌<◌, List, Some, Option, sym, refl, ap, ◌∙◌, ap₂, arith}
use Rattle.std.specs.List.{slice_get}
use Rattle.theory.specs.Meaning.{Meaning, Admits}
use Rattle.theory.specs.Types.{Tree, Trees, end, and, count, top, before, IsType, build}
use Rattle.theory.specs.Listings.{symbol_word, unknown_word}
use Rattle.theory.specs.Fillings.{Fills, no_words, unknown_filled, symbol_filled}
use Rattle.theory.proofs.Impossible.{impossible}

before_one : (xs ys ts us : Trees) → count xs ≡ count ys → before xs ts ≡ before ys us → (xs ≡ ys) × (ts ≡ us)
before_one end end ts us n e = (refl, e)
before_one end (and b ys) ts us n e = absurd (omega arith)
before_one (and a xs) end ts us n e = absurd (omega arith)
before_one (and a xs) (and b ys) ts us n e =
    let r = before_one xs ys ts us (omega arith) (cc) in
    let x : a ≡ b = cc in
    (ap₂ and x r.0, r.1)

-- the word of an unknown tells its number and its set, and is the word of no symbol
one_number : (n set n' set' : ℕ) → n < 65536 → n' < 65536 → unknown_word n set ≡ unknown_word n' set' → n ≡ n'
one_number n set n' set' a b e = omega arith

one_set : (n set n' set' : ℕ) → n < 65536 → n' < 65536 → unknown_word n set ≡ unknown_word n' set' → set ≡ set'
one_set n set n' set' a b e = omega arith

two_kinds : (n set c : ℕ) → n < 65536 → set < 256 → unknown_word n set ≡ symbol_word c → ⊥
two_kinds n set c a b e = omega arith

pub row_is_one : {m : Meaning} {filling : ℕ → Tree} {words : List ℕ} {ts us : Trees} → Fills m filling words ts → Fills m filling words us → ts ≡ us
row_is_one no_words no_words = refl
row_is_one {filling = filling} (unknown_filled n set e a b g x r) (unknown_filled n' set' e' a' b' g' x' r') =
    ap₂ and (ap filling (one_number n set n' set' a a' (sym e ∙ e'))) (row_is_one r r')
row_is_one (unknown_filled n set e a b g x r) (symbol_filled c args e' k n' r') = absurd (two_kinds n set c a b (sym e ∙ e'))
row_is_one (symbol_filled c args e' k n' r') (unknown_filled n set e a b g x r) = absurd (two_kinds n set c a b (sym e ∙ e'))
row_is_one {m} (symbol_filled {ts = ts} c args e k n r) (symbol_filled {ts = ts'} c' args' e' k' n' r') =
    let x : c ≡ c' = omega arith in
    let y = before_one args args' ts ts' (n ∙ ap m.places x ∙ sym n') (row_is_one r r') in
    ap₂ and (ap₂ (build m) x y.0) y.1

same_some : {x y : ℕ} → ◌≡◌ {A = Option ℕ} (Some x) (Some y) → x ≡ y
same_some p = cc

-- the number of a word is filled with a type that its classes admit
pub filling_at : {m : Meaning} {filling : ℕ → Tree} {words : List ℕ} {ts : Trees} → Fills m filling words ts → (j k set : ℕ) →
    slice_get words j ≡ Some (unknown_word k set) →
    k < 65536 → set < 256 → IsType m (filling k) × Admits m set (top (filling k))
filling_at no_words j k set at a b = impossible (cc)
filling_at {m} {filling} (unknown_filled n set' e a' b' g x r) zero k set at a b =
    let q : unknown_word n set' ≡ unknown_word k set = sym e ∙ same_some at in
    let p = one_number n set' k set a' a q in
    let p' = one_set n set' k set a' a q in
    (rw (← p) g, rw (← p, ← p') x)
filling_at (unknown_filled n set' e a' b' g x r) (suc j) k set at a b = filling_at r j k set at a b
filling_at (symbol_filled c args e kn n r) zero k set at a b = absurd (two_kinds k set c a b (sym (same_some at) ∙ e))
filling_at (symbol_filled c args e kn n r) (suc j) k set at a b = filling_at r j k set at a b
