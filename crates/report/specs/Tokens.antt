-- The sentence about a word of a text that cannot be read. Assumes nothing.
use Rattle.std.specs.Prelude.{ℕ, Bool, cond, not, ◌&&◌, List, [], ◌∷◌, length, take, codes, decimal, ◌==◌, nat_le}
use Rattle.std.specs.List.{flat_map}
use Rattle.report.specs.Texts.{◌then◌, hexadecimal}

-- printable ASCII, but for the quotation mark and the backslash
abbrev pub plain : ℕ → Bool
plain byte = nat_le 32 byte && nat_le byte 126 && not (byte == 34) && not (byte == 92)

-- a byte as it stands, or as a backslash, an x and two hexadecimal digits
abbrev pub byte_text : ℕ → List ℕ
byte_text byte = cond (plain byte) (byte ∷ []) (codes "\\x" then hexadecimal 2 byte)

-- the most bytes of a token that are shown
abbrev pub most_shown : ℕ
most_shown = 40

-- a token, or its first bytes and three dots
abbrev pub token_text : List ℕ → List ℕ
token_text token = cond (nat_le (length token) most_shown) (flat_map byte_text token) (flat_map byte_text (take most_shown token) then codes "...")

-- a token of a line
abbrev pub unreadable_text : ℕ → List ℕ → List ℕ
unreadable_text line token = codes "line " then decimal line then codes ": cannot read \"" then token_text token then codes "\" as a word (decimal, or hexadecimal after 0x, below 4294967296)"
