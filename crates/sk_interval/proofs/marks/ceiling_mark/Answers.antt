-- The first of the marks that aren't below the high end.
use Rattle.std.proofs.Common.{◌∙◌, arith, w64}
use Rattle.std.proofs.lemmas.Int.{ints, to_z-of_z}
use Rattle.sk_interval.proofs.Searches.{ceiling_is}
use Rattle.sk_interval.specs.Ends.{number_above, number_below, is_number}
use Rattle.sk_interval.specs.Laws.Marks.{ceiling_greatest, ceiling_above}
use Rattle.sk_interval.proofs.marks.ceiling_mark.Goals as goal

pub returns : goal.returns
returns c =
    let n = c.args.b.high in
    let high = number_below n c.args.b.high_fits in
    let same = ceiling_is c.args.marks.now c.increase.ensures n c.count_below.result c.count_below.ensures.first c.get.result.now high c.get.ensures in
    let greatest = ceiling_greatest c.args.marks.now n in
    let above = ceiling_above c.args.marks.now n high in
    let least = number_above n c.args.b.high_fits in
    to_z-of_z w64 c.get.result.now (is_number c.get.result.now (omega (arith, ints)) (omega (arith, ints))) ∙ same
