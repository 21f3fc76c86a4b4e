use Rattle.std.proofs.Common.{sym, subst}
use Rattle.sk_abswalk.specs.Proper.{IsProperEnv}
use Rattle.sk_abswalk.proofs.ProperEnvs.{nothing_proper}
use Rattle.sk_abswalk.proofs.env.AbsEnv.empty.Goals as goal

pub invariant_of-result : goal.invariant_of-result
invariant_of-result g c = subst (IsProperEnv g.D.NumDom.domain) (sym c.loop-variable.invariant) (nothing_proper _ g.D.NumDom.domain c.loop-variable._variable)
