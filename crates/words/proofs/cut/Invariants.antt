-- The bytes before the index belong.
use Rattle.std.proofs.Common.{take, true}
use Rattle.std.specs.Prelude.{All}
use Rattle.words.proofs.cut.Given as goal

abbrev pub invariant-loop-i : goal.invariant-loop-i
invariant-loop-i g l = All (λ b. g.F.Fn.post l.belongs (b, tt) true) (take l.i l.text)
