-- A token spells at most one number, and whether it spells one can be told. Assumes nothing.
use Rattle.std.proofs.Common.{◌≡◌, ℕ, ◌^◌, ◌≤◌, ◌↔◌, Bool, true, false, nat_eq, List, [], ◌∷◌, take, drop, Some, None, Option, sym, subst, inl, inr, arith}
use Rattle.std.proofs.Math.Decide.{map_dec, dec_lt}
use Rattle.std.proofs.lemmas.Bool.{cases_Bool}
use Rattle.std.proofs.lemmas.List.{take-append-drop}
use Rattle.std.specs.Char.{digit_value}
use Rattle.std.specs.Cmp.Lexicographic.{pointwise, same_text}
use Rattle.std.specs.Str.Parse.{AllDigits, digits_value}
use Rattle.words.specs.Spelling.{Writes, Numeral, Spells, decimal, hexadecimal, Finds}
use Rattle.words.proofs.Numerals.{digits_of_writes, writes_value}

pub one_number : {base m n : ℕ} {bs : List ℕ} → Writes base bs m → Writes base bs n → m ≡ n
one_number v w = omega (arith, digits_of_writes v, digits_of_writes w)

no_decimal_0x : {bs : List ℕ} {n : ℕ} → Numeral 10 (48 ∷ 120 ∷ bs) n → ⊥
no_decimal_0x p = omega (arith, (digits_of_writes p.writes).0.1.0)

pub one_spelling : {w : List ℕ} {m n : ℕ} → Spells w m → Spells w n → m ≡ n
one_spelling (decimal p) (decimal q) = one_number p.writes q.writes
one_spelling (decimal p) (hexadecimal q) = absurd (no_decimal_0x p)
one_spelling (hexadecimal p) (decimal q) = absurd (no_decimal_0x q)
one_spelling (hexadecimal p) (hexadecimal q) = one_number p.writes q.writes

abbrev begins_0x : List ℕ → Bool
begins_0x w = pointwise nat_eq (take 2 w) (48 ∷ 120 ∷ [])

-- behind 0x only a hexadecimal numeral spells a number, and elsewhere only a decimal one
pub behind_0x : (w : List ℕ) → begins_0x w ≡ true → (n : ℕ) → Spells w n ↔ Numeral 16 (drop 2 w) n
behind_0x w x n =
    let front = same_text (take 2 w) _ (sym x) in
    subst (λ v. Spells v n ↔ Numeral 16 (drop 2 w) n) (rw front at (take-append-drop 2 w)) (only, hexadecimal)
  where
    only : {bs : List ℕ} → Spells (48 ∷ 120 ∷ bs) n → Numeral 16 bs n
    only (decimal p) = absurd (no_decimal_0x p)
    only (hexadecimal p) = p

pub elsewhere : (w : List ℕ) → begins_0x w ≡ false → (n : ℕ) → Spells w n ↔ Numeral 10 w n
elsewhere w x n = (only x, decimal)
  where
    only : {v : List ℕ} {m : ℕ} → begins_0x v ≡ false → Spells v m → Numeral 10 v m
    only y (decimal p) = p
    only y (hexadecimal p) = absurd (cc y)

pub finds_like : (P Q : ℕ → Type 0) (r : Option ℕ) → ((n : ℕ) → Q n ↔ P n) → Finds P r → Finds Q r
finds_like P Q None same f = λ n q. f n ((same n).0 q)
finds_like P Q (Some n) same f = ((same n).1 f.0, λ m q. f.1 m ((same m).0 q))

decide_digits : (base : ℕ) (bs : List ℕ) → Dec (AllDigits base bs)
decide_digits base [] = yes tt
decide_digits base (b ∷ bs) =
    elim (dec_lt (digit_value b) base) [
      | yes l ↦ map_dec (λ a. (l, a)) (λ a. a.1) (decide_digits base bs)
      | no h ↦ no (λ a. h a.0)
    ]

decide_numeral : (base : ℕ) → base ≤ 16 → (bs : List ℕ) → Dec ((n : ℕ) × Numeral base bs n)
decide_numeral base hex [] = no (λ p. omega (arith, p.1.some))
decide_numeral base hex (b ∷ bs) =
    elim (decide_digits base (b ∷ bs)) [
      | yes a ↦ map_dec
          (λ l. (digits_value base (b ∷ bs), record { some = omega arith; writes = writes_value (b ∷ bs) hex a; small = l }))
          (λ p. omega (arith, digits_of_writes p.1.writes, p.1.small))
          (dec_lt (digits_value base (b ∷ bs)) (2 ^ 32))
      | no h ↦ no (λ p. h (digits_of_writes p.1.writes).0)
    ]

pub decide_spells : (w : List ℕ) → Dec ((n : ℕ) × Spells w n)
decide_spells w =
    elim (cases_Bool (begins_0x w)) [
      | inl x ↦ like (decide_numeral 16 (omega arith) (drop 2 w)) (behind_0x w x)
      | inr x ↦ like (decide_numeral 10 (omega arith) w) (elsewhere w x)
    ]
  where
    like : {P : ℕ → Type 0} → Dec ((n : ℕ) × P n) → ((n : ℕ) → Spells w n ↔ P n) → Dec ((n : ℕ) × Spells w n)
    like d same = map_dec (λ p. (p.0, (same p.0).1 p.1)) (λ p. (p.0, (same p.0).0 p.1)) d
