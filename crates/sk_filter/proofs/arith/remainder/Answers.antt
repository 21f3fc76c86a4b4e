use Rattle.sk_filter.proofs.Arithmetic.{remainder}
use Rattle.sk_filter.proofs.arith.remainder.Goals as goal

pub returns : goal.returns
returns c = remainder c.args.a c.args.b c.wrapping_rem.result c.ranges.a c.ranges.b (record { sfits = c.wrapping_rem.type_inv }) c.if-b-eq0.false c.wrapping_rem.ensures
