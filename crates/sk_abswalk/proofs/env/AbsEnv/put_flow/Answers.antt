use Rattle.std.proofs.Common.{rules, ◌≡◌, Some, sym, subst}
use Rattle.std.specs.Prelude.{slice_set}
use Rattle.sk_deriv.specs.declared.entry.Entry.{Entry}
use Rattle.sk_abswalk.specs.Proper.{IsProperEnv}
use Rattle.sk_abswalk.proofs.ProperEnvs.{put_flow_proper}
use Rattle.sk_abswalk.proofs.env.AbsEnv.put_flow.Goals as goal

pub invariant_of-self : goal.invariant_of-self
invariant_of-self g c =
    let e : c.put.new.self ≡ slice_set c.self.inside.entries c.args.variable.0 (Some (Entry.Flow c.args.flow)) = search rules in
    subst (IsProperEnv g.D.NumDom.domain) (sym e) (put_flow_proper _ g.D.NumDom.domain c.self.inside.entries c.args.variable.0 c.args.flow c.self.invariant c.requires)
