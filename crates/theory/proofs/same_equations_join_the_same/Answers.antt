use Rattle.theory.proofs.SameEquationsListings.{same_joined}
use Rattle.theory.proofs.same_equations_join_the_same.Goals as goal

pub returns : goal.returns
returns c = λ m n s s' agree same a b joined. same_joined agree same joined
