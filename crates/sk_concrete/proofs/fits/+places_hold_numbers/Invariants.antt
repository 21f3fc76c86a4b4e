use Rattle.std.proofs.Common.{length}
use Rattle.sk_concrete.proofs.fits.+places_hold_numbers.Given as goal

abbrev pub decreases-places_hold_numbers : goal.decreases-places_hold_numbers
decreases-places_hold_numbers l = length l.places.now
