use Rattle.std.proofs.Common.{◌∙◌, sym}
use Rattle.sk_def.proofs.FitTests.{definition_fit, definition_test}
use Rattle.sk_def.proofs.fits.definition_fits.Goals as goal

pub returns-clause-fits : goal.returns-clause-fits
returns-clause-fits c = (
  (λ h. definition_fit c.args.def.now (sym c.parts_fit.ensures ∙ h)),
  (λ f. c.parts_fit.ensures ∙ definition_test c.args.def.now f),
)
