use Rattle.std.proofs.Common.{arith}
use Rattle.plan.proofs.Front.{short_link_front, link_front}
use Rattle.plan.proofs.reader.link_after.Goals as goal

pub returns-in_default : goal.returns-in_default
returns-in_default c = λ m. short_link_front m c.args.words.now c.requires (omega arith)

pub returns : goal.returns
returns c = λ m. link_front m c.args.words.now c.requires (omega arith)
