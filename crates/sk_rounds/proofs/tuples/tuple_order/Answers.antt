use Rattle.sk_rounds.proofs.TupleWalks.{order_laws}
use Rattle.sk_rounds.proofs.tuples.tuple_order.Goals as goal

pub returns : goal.returns
returns g c = λ marks r reading. order_laws _ g.D.NumDom.domain g.met.D.NumDom.laws _ g.D.NumDom.FINITE marks r reading
