use Rattle.sk_lattice.proofs.Tuples.{tuple_laws}
use Rattle.sk_abswalk.proofs.Asking.{ask_laws}
use Rattle.sk_abswalk.proofs.round_laws.readings_ask.Goals as goal

pub returns : goal.returns
returns g c = λ def program covers marks sorted is_program.
    ask_laws _ g.D.NumDom.domain (tuple_laws _ _ g.met.D.NumDom.laws) c.walks_fit.ensures c.walks_are_proper.ensures c.walks_agree.ensures def program sorted is_program g.D.NumDom.FINITE marks covers
