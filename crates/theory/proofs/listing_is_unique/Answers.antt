use Rattle.theory.proofs.Soundness.{joined_terms_agree}
use Rattle.theory.proofs.ListingIsUnique.{listing_is_unique}
use Rattle.theory.proofs.listing_is_unique.Goals as goal

pub returns : goal.returns
returns c = λ m s type_of lawful formed assigns cells cells' words words' joined x y. listing_is_unique lawful formed (joined_terms_agree lawful assigns) joined x y
