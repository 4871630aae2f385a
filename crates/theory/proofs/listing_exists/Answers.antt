use Rattle.theory.proofs.HeldPairwise.{consistent_pairwise}
use Rattle.theory.proofs.ListingExists.{listing_exists}
use Rattle.theory.proofs.listing_exists.Goals as goal

pub returns : goal.returns
returns c = λ m s label rank shape lawful formed certificate cells. listing_exists lawful formed (consistent_pairwise lawful certificate.consistent) certificate.label_joined cells
