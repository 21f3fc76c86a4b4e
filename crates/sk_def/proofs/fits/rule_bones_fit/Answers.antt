use Rattle.std.proofs.Common.{length, arith, ◌≤◌}
use Rattle.sk_def.specs.Fits.{bones_fit}
use Rattle.sk_def.proofs.FitTests.{fit, fit_test, same_test}
use Rattle.sk_def.proofs.fits.rule_bones_fit.Goals as goal

pub returns : goal.returns
returns c =
    let bones = c.args.rule.now.bones in
    let vars = length c.args.rule.now.vars in
    let whole : length bones ≤ length bones = omega arith in
    same_test c.bones_fit.result (bones_fit c.args.hooks vars (length bones) 8 bones) (rw (c.len.ensures, c.as_slice.ensures) at c.bones_fit.ensures)
    (λ h. fit (length bones) 8 bones whole h) (λ f. fit_test (length bones) 8 bones whole f)
