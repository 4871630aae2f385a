-- Hexadecimal digits with zeros before them, as a format writes them. Assumes nothing.
use Rattle.std.proofs.Common.{◌≡◌, ℕ, zero, suc, ◌+◌, ◌-◌, ◌/◌, ◌%◌, ◌^◌, ◌<◌, ◌≤◌, Bool, true, false, cond, List, [], ◌∷◌, ◌++◌, length, replicate, refl, ap, ◌∙◌, append_assoc, append-nil, add-zero, arith, ◌==◌}
use Rattle.std.specs.Char.{digit_char}
use Rattle.std.specs.Fmt.{digits_onto, digits, padded_integral, format_spec, char_count}
use Rattle.std.proofs.Math.Nat.{pow-suc, sub-zero}
use Rattle.std.proofs.lemmas.Bool.{eqb-true, eqb-false}
use Rattle.std.proofs.lemmas.List.{replicate_more}
use Rattle.report.specs.Texts.{hexadecimal}

-- the digits of 0 are zeros
zeros : (places : ℕ) → hexadecimal places 0 ≡ replicate places 48
zeros zero = refl
zeros (suc places) =
    let more : places + 1 ≡ suc places = omega arith in
    ap (λ digits. digits ++ 48 ∷ []) (zeros places) ∙ replicate_more places 48 ∙ ap (λ n. replicate n 48) more

-- with zeros before them, the digits of a number fill so many places before what is written already
abbrev Fills : ℕ → ℕ → ℕ → List ℕ → Type 0
Fills places limit number rest =
    let text = digits_onto limit 16 false number rest in
    replicate (places + length rest - length text) 48 ++ text ≡ hexadecimal places number ++ rest

-- a number of more than one digit has more than one place
several : (places number : ℕ) → number < 16 ^ suc places → (number / 16 ≡ 0 → ⊥) → 0 < places
several zero number fits more = absurd (omega arith)
several (suc places) number fits more = omega arith

filled : (places limit number : ℕ) (rest : List ℕ) → 0 < places → places ≤ limit → number < 16 ^ places → Fills places limit number rest
filled zero limit number rest some within fits = absurd (omega arith)
filled (suc places) zero number rest some within fits = absurd (omega arith)
filled (suc places) (suc limit) number rest some within fits =
    by (number / 16 == 0) refl (λ front. filled places limit (number / 16) (last ∷ rest) front (omega arith) (omega (arith, pow-suc 16 places)))
  where
    last : ℕ
    last = digit_char (number % 16)

    by : (done : Bool) → (number / 16 == 0) ≡ done → (0 < places → Fills places limit (number / 16) (last ∷ rest)) →
        let text = cond done (last ∷ rest) (digits_onto limit 16 false (number / 16) (last ∷ rest)) in
        replicate (suc places + length rest - length text) 48 ++ text ≡ (hexadecimal places (number / 16) ++ last ∷ []) ++ rest
    by true done front =
        let high : number / 16 ≡ 0 = eqb-true _ 0 done in
        let short : suc places + length rest - suc (length rest) ≡ places = omega arith in
        rw (short, append_assoc, high, zeros places) refl
    by false done front =
        let low : number / 16 ≡ 0 → ⊥ = eqb-false _ 0 done in
        let more : places + length (last ∷ rest) ≡ suc places + length rest = omega arith in
        rw append_assoc (rw more at (front (several places number fits low)))

digits_are : (number : ℕ) → digits 16 false number ≡ digits_onto 64 16 false number []
unfolding digits
digits_are number = refl

-- a format puts as many zeros before a text as it is short of the places
padded : (places : ℕ) (text : List ℕ) → padded_integral (format_spec 32 0 4 places (2 ^ 64 - 1)) false [] text ≡ replicate (places - length text) 48 ++ text
unfolding padded_integral char_count
padded places text = rw (append-nil, sub-zero, sub-zero) refl

pub hexadecimal_is_padded : (places number : ℕ) → 0 < places → places ≤ 64 → number < 16 ^ places →
    padded_integral (format_spec 32 0 4 places (2 ^ 64 - 1)) false [] (digits 16 false number) ≡ hexadecimal places number
hexadecimal_is_padded places number some within fits = padded places (digits 16 false number) ∙ rw (digits_are number) (rw append-nil at (rw add-zero at (filled places 64 number [] some within fits)))
