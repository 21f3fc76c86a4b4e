use Rattle.sk_lattice.proofs.Tuples.{tuple_laws}
use Rattle.sk_analyse.proofs.Raising.{join_fits}
use Rattle.sk_analyse.proofs.side.stretch.Goals as goal

pub widen-requires : goal.widen-requires
widen-requires g c = join_fits _ g.D.NumDom.domain (tuple_laws _ _ g.met.D.NumDom.laws) c.args.old.now c.args.new.now c.in_ok-joined.joined c.requires c.in_ok-joined.ensures
