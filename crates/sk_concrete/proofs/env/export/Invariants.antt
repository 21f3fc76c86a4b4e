use Rattle.std.proofs.Common.{◌≡◌, drop}
use Rattle.sk_deriv.specs.Env.{export}
use Rattle.sk_concrete.proofs.env.export.Given as goal

abbrev pub invariant-loop-variable : goal.invariant-loop-variable
invariant-loop-variable l = export l.env l.end (drop l.variable-index l.exports) ≡ export l.fn.env l.end l.exports
