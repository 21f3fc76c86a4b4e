use Rattle.std.proofs.Common.{rules, ◌≡◌, ◌∷◌, Some, subst}
use Rattle.std.specs.Prelude.{slice_get, slice_set, OnOk}
use Rattle.sk_deriv.specs.declared.entry.Entry.{Entry}
use Rattle.sk_abswalk.proofs.ProperEnvs.{flow_of_tuple, gain_step}
use Rattle.sk_abswalk.proofs.env.+gain_from.Goals as goal

pub put_flow-requires : goal.put_flow-requires
put_flow-requires g t c =
    let e : slice_get c.args.tuple.now c.args.place ≡ Some c.in_ok-copy.field-0 = search rules in
    flow_of_tuple _ g.D.NumDom.domain c.args.tuple.now c.args.place c.in_ok-copy.field-0 c.len.ensures.good e

pub returns : goal.returns
returns g t c =
    let e : slice_get c.args.tuple.now c.args.place ≡ Some c.in_ok-copy.field-0 = search rules in
    let v : c.args.variables.now ≡ c.in-Some.variable.now ∷ c.in-Some.variables.now = search rules in
    let p : c.put_flow.new.self ≡ slice_set c.args.env.now c.in-Some.variable.now.0 (Some (Entry.Flow c.in_ok-copy.field-0)) = search rules in
    subst (λ y. OnOk c.gain_from.result (c.gain_from.new.env ≡ y))
    (gain_step c.args.env.now c.put_flow.new.self c.args.variables.now c.in-Some.variables.now c.in-Some.variable.now c.args.tuple.now c.args.place c.in_ok-copy.field-0 v e p) c.gain_from.ensures
