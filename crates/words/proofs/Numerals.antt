-- What a numeral writes, in std's words for digits. Assumes nothing.
use Rattle.std.proofs.Common.{◌≡◌, ℕ, zero, suc, ◌+◌, ◌*◌, ◌^◌, ◌<◌, ◌≤◌, List, [], ◌∷◌, length, get_or, take, take_all, refl, sym, subst, inl, inr, arith, rules, pow-suc}
use Rattle.std.proofs.Math.Nat.{pow-zero}
use Rattle.std.proofs.lemmas.Bool.Decides.{nat_tests}
use Rattle.std.proofs.lemmas.Int.Digits.{digits_more, digits_value_more}
use Rattle.std.proofs.lemmas.Str.Parse.{digits_value-take-le}
use Rattle.std.specs.Char.{digit_value}
use Rattle.std.specs.Str.Parse.{AllDigits, digits_value, digits_value_after}
use Rattle.words.specs.Spelling.{Digit, Writes, nothing, digit}

-- a byte has the value that std gives it, and is a digit where that is below 16
digit_value-digit : (b d : ℕ) → Digit b d → digit_value b ≡ d
digit_value-digit b d p = grind (arith, nat_tests)

digit_of_value : (b d : ℕ) → digit_value b ≡ d → d < 16 → Digit b d
digit_of_value b d e l = grind (arith, nat_tests)

digits_value_after-writes : {base n : ℕ} {bs : List ℕ} (m : ℕ) → Writes base bs n → digits_value_after base m bs ≡ m * base ^ length bs + n
digits_value_after-writes m nothing = rw pow-zero (omega arith)
digits_value_after-writes {base} m (digit {b = b} {d = d} p l w) =
    rw (digit_value-digit b d p, pow-suc) (omega (arith, digits_value_after-writes (m * base + d) w))

-- the bytes that write a number are digits, and the number is their value; and the other way round
pub digits_of_writes : {base n : ℕ} {bs : List ℕ} → Writes base bs n → AllDigits base bs × (n ≡ digits_value base bs)
digits_of_writes w = (go w, omega (arith, digits_value_after-writes 0 w))
  where
    go : {base n : ℕ} {bs : List ℕ} → Writes base bs n → AllDigits base bs
    go nothing = tt
    go (digit {b = b} {d = d} p l w) = (rw (digit_value-digit b d p) l, go w)

pub writes_value : {base : ℕ} (bs : List ℕ) → base ≤ 16 → AllDigits base bs → Writes base bs (digits_value base bs)
writes_value [] m a = nothing
writes_value {base} (b ∷ bs) m a =
    let w = digit (digit_of_value b _ refl (omega arith)) a.0 (writes_value bs m a.1) in
    subst (Writes base (b ∷ bs)) (digits_of_writes w).1 w

-- all the digits write no less than the first i and the next
pub digits_value_more-le : {base n : ℕ} (bs : List ℕ) (i : ℕ) → 0 < base → i < length bs → Writes base bs n → digits_value base (take i bs) * base + digit_value (get_or bs i 0) ≤ n
digits_value_more-le {base} bs i some l w =
    omega (arith, digits_value_more base bs i l, digits_of_writes w, digits_value-take-le base bs (i + 1) some)

pub digit_value_below : {base : ℕ} (bs : List ℕ) (i : ℕ) → i < length bs → AllDigits base bs → digit_value (get_or bs i 0) < base
digit_value_below [] i l a = absurd (omega arith)
digit_value_below (b ∷ bs) zero l a = a.0
digit_value_below (b ∷ bs) (suc i) l a = digit_value_below bs i (omega arith) a.1

-- what the loop over the digits of a numeral needs
pub ruleset numerals = (digits_of_writes, writes_value, digit_value_below, digits_more, digits_value_more, take_all, digits_value_more-le)
