use Rattle.sk_rounds.proofs.TupleWalks.{widen_laws}
use Rattle.sk_rounds.proofs.tuples.tuple_widening.Goals as goal

pub returns : goal.returns
returns g c = λ marks r are reading. widen_laws _ g.D.NumDom.domain g.met.D.NumDom.laws marks are g.D.NumDom.FINITE g.met.D.NumDom.finite _ r reading
