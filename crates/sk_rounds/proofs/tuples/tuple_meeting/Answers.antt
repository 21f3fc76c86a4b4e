use Rattle.sk_rounds.proofs.TupleWalks.{meet_laws}
use Rattle.sk_rounds.proofs.tuples.tuple_meeting.Goals as goal

pub returns : goal.returns
returns g c = λ marks r. meet_laws _ g.D.NumDom.domain g.met.D.NumDom.laws _ g.D.NumDom.FINITE marks r
