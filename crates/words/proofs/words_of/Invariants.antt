-- Each turn keeps what was read so far and shortens the rest.
use Rattle.std.proofs.Common.{length, vec_items}
use Rattle.words.proofs.ReadSoFar.{SoFar}
use Rattle.words.proofs.words_of.Given as goal

abbrev pub invariant-loop-rest : goal.invariant-loop-rest
invariant-loop-rest l = SoFar l.text (vec_items l.found) l.line l.rest

abbrev pub decreases-loop-rest : goal.decreases-loop-rest
decreases-loop-rest l = length l.rest
