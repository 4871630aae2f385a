-- The number and the two values of each refusal. Assumes nothing.
use Rattle.std.specs.Prelude.{ℕ}
use Rattle.plan.specs.declared.refusal.Refusal.{Refusal}
use Rattle.plan.specs.declared.refusal.Refusal.TheVariants.{TooLong, NotAnItem, NoSuchCode, CutShort}

-- the number by which a refusal is told
abbrev pub number : Refusal → ℕ
number TooLong = 10
number NotAnItem = 9
number (NoSuchCode c) = 3
number CutShort = 10

-- the two values that a fault holds beside it
abbrev pub values : Refusal → ℕ × ℕ
values TooLong = (0, 0)
values NotAnItem = (0, 0)
values (NoSuchCode c) = (c, 0)
values CutShort = (0, 0)
