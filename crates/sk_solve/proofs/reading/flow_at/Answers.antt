use Rattle.std.proofs.Common.{◌≡◌, ◌∙◌, ◌≤◌, Some, length, sym, ap, arith}
use Rattle.std.specs.Prelude.{slice_get}
use Rattle.std.specs.Option.{option_copied, option_and_then}
use Rattle.std.proofs.lemmas.Option.{slice_get_past}
use Rattle.sk_lattice.specs.Empty.{flow_is_proper}
use Rattle.sk_solve.specs.Solves.{value_at}
use Rattle.sk_solve.proofs.Places.{one_passes}
use Rattle.sk_solve.proofs.reading.flow_at.Goals as goal

pub returns-then-entry-len-clause-proper : goal.returns-then-entry-len-clause-proper
returns-then-entry-len-clause-proper g c = one_passes (flow_is_proper g.D.NumDom.domain) c.in-Some.tuple.now _ c.get.result.now c.len.ensures.good.proper c.get.ensures

pub returns-else-entry-len-clause-found : goal.returns-else-entry-len-clause-found
returns-else-entry-len-clause-found g c =
    let value : value_at c.args.positions.now c.args.position ≡ Some c.in-Some.tuple.now = sym c.value_at.ensures ∙ ap option_copied c.in-Some.is in
    let past : length c.in-Some.tuple.now ≤ c.args.entry = omega (arith, c.if-entry-len.false, c.len.ensures.value, c.from-entry.ensures) in
    sym (ap (option_and_then (λ flows. slice_get flows c.args.entry)) value ∙ slice_get_past c.in-Some.tuple.now c.args.entry past)
