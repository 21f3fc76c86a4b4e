use Rattle.std.proofs.Common.{rules, sym, subst}
use Rattle.sk_deriv.specs.Meets.{IsRead}
use Rattle.sk_deriv.specs.Reading.{Reading}
use Rattle.sk_deriv.proofs.read.read_tuple.Goals as goal

pub returns-in-Ok-clause-sorts : goal.returns-in-Ok-clause-sorts
returns-in-Ok-clause-sorts c =
    let P : Reading → Type 0 = λ state. IsRead c.args.sorts.now c.args.from c.in-Ok.at state in
    let values = subst P (sym c.reader.view_is) (rw c.in-Ok.is at c.read_with-end.ensures.values) in
    search (rules, values.sorted, c.in_ok-pad-in-Ok.ensures.ok, c.in_ok-tuple-in-Ok.ensures, c.count-count.ensures.count)
