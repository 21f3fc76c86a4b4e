use Rattle.std.proofs.Common.{refl}
use Rattle.sk_sort.proofs.WellSorted.{well_sorted}
use Rattle.sk_sort.proofs.RulesSorted.{rules_sorted}
use Rattle.sk_sort.proofs.checked.check_sorts.Goals as goal

pub invariant_of-result : goal.invariant_of-result
invariant_of-result c =
    let well = well_sorted c.args.def (c.if-not-definition_fits.ensures.fits.0 refl) c.in-Ok.ensures in
    record { well_sorted = well; rules_sorted = rules_sorted c.args.def well }
