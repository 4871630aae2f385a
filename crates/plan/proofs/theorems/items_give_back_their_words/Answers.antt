use Rattle.plan.proofs.Back.{gives_back}
use Rattle.plan.proofs.theorems.items_give_back_their_words.Goals as goal

pub returns : goal.returns
returns c = gives_back
