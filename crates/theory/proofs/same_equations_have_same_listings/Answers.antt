use Rattle.theory.proofs.SameEquationsListings.{same_listing}
use Rattle.theory.proofs.same_equations_have_same_listings.Goals as goal

pub returns : goal.returns
returns c = λ m n s s' agree same cells words listing. same_listing agree same listing
