-- One byte more belongs.
use Rattle.std.proofs.Common.{true, rules}
use Rattle.std.proofs.lemmas.List.Elements.{All-more}
use Rattle.words.proofs.cut.Goals as goal

pub loop-i-preserved : goal.loop-i-preserved
loop-i-preserved g c = All-more (λ b. g.F.Fn.post c.args.belongs (b, tt) true) c.args.text.now c.loop-i.i 0 c.loop-i-test.true c.loop-i.invariant (search rules)
