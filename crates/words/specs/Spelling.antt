-- Which number a token spells, in decimal or in hexadecimal. Assumes nothing.
use Rattle.std.specs.Prelude.{◌≡◌, ℕ, ◌+◌, ◌*◌, ◌^◌, ◌<◌, ◌≤◌, ◌⊎◌, List, [], ◌∷◌, length, Some, None, Option}

-- 0 to 9
abbrev pub Figure : (byte value : ℕ) → Type 0
Figure b d = (b ≡ 48 + d) × (d < 10)

-- one of six letters that stand for 10 to 15, of which the first is the byte a
abbrev pub Letter : (a byte value : ℕ) → Type 0
Letter a b d = (b + 10 ≡ a + d) × (10 ≤ d) × (d < 16)

-- the byte is a digit of that value: 0 to 9, a to f, A to F
abbrev pub Digit : (byte value : ℕ) → Type 0
Digit b d = Figure b d ⊎ (Letter 97 b d ⊎ Letter 65 b d)

-- the bytes write the number in the base: each is a digit below the base, worth its value times the base to the power
-- of how many digits follow
pub data Writes (base : ℕ) : (bytes : List ℕ) → (number : ℕ) → Type 0 where
  nothing : Writes base [] 0
  digit : {b d n : ℕ} {bs : List ℕ} → Digit b d → d < base → Writes base bs n → Writes base (b ∷ bs) (d * base ^ length bs + n)

-- the bytes, at least one, write a number of 32 bits in the base
pub record Numeral (base : ℕ) (bytes : List ℕ) (number : ℕ) : Type 0 where
  pub some : 0 < length bytes
  pub writes : Writes base bytes number
  pub small : number < 2 ^ 32

-- the token spells the number: in decimal, or in hexadecimal after 0x
pub data Spells : (token : List ℕ) → (number : ℕ) → Type 0 where
  decimal : {n : ℕ} {bs : List ℕ} → Numeral 10 bs n → Spells bs n
  hexadecimal : {n : ℕ} {bs : List ℕ} → Numeral 16 bs n → Spells (48 ∷ 120 ∷ bs) n

-- the answer is the one number with the property, and none only where no number has it
abbrev pub Finds : (P : ℕ → Type 0) (answer : Option ℕ) → Type 0
Finds P None = (n : ℕ) → P n → ⊥
Finds P (Some n) = P n × ((m : ℕ) → P m → m ≡ n)
