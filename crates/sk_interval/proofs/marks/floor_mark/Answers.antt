-- The last of the marks that are at most the low end.
use Rattle.std.proofs.Common.{◌∙◌, arith, w64}
use Rattle.std.proofs.lemmas.Int.{ints, to_z-of_z}
use Rattle.sk_interval.proofs.Searches.{floor_is}
use Rattle.sk_interval.specs.Ends.{number_above, number_below, is_number}
use Rattle.sk_interval.specs.Laws.Marks.{floor_least, floor_below}
use Rattle.sk_interval.proofs.marks.floor_mark.Goals as goal

pub returns : goal.returns
returns c =
    let n = c.args.b.low in
    let low = number_above n c.args.b.low_fits in
    let same = floor_is c.args.marks.now c.increase.ensures n c.count_at_most-count.result c.count_at_most-count.ensures.first c.get.result.now low c.get.ensures in
    let least = floor_least c.args.marks.now n in
    let below = floor_below c.args.marks.now n low in
    let greatest = number_below n c.args.b.low_fits in
    to_z-of_z w64 c.get.result.now (is_number c.get.result.now (omega (arith, ints)) (omega (arith, ints))) ∙ same
