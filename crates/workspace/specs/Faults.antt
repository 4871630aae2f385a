-- The number and the two values of each refusal of a workspace. Assumes nothing.
use Rattle.std.specs.Prelude.{ℕ}
use Rattle.workspace.specs.declared.fault.Fault.{Fault}
use Rattle.workspace.specs.declared.fault.Fault.TheVariants.{Full, NoCode, NoSuchCode, WrongCount, NoSuchCell, NoRoom, NoTypes, NoClasses}

abbrev pub number : Fault → ℕ
number Full = 1
number (NoCode set) = 2
number (NoSuchCode code) = 3
number (WrongCount code count) = 4
number (NoSuchCell cell) = 5
number NoRoom = 6
number (NoTypes left right) = 7
number (NoClasses left right) = 8

abbrev pub values : Fault → ℕ × ℕ
values Full = (0, 0)
values (NoCode set) = (set, 0)
values (NoSuchCode code) = (code, 0)
values (WrongCount code count) = (code, count)
values (NoSuchCell cell) = (cell, 0)
values NoRoom = (0, 0)
values (NoTypes left right) = (left, right)
values (NoClasses left right) = (left, right)
