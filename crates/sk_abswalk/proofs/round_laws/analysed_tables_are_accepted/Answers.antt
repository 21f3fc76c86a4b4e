use Rattle.sk_deriv.specs.Moves.{setting_of}
use Rattle.sk_lattice.proofs.SortLemmas.{shape_laws}
use Rattle.sk_lattice.proofs.Tuples.{tuple_laws}
use Rattle.sk_rounds.proofs.Ending.{analysed_fits, analysed_in_time}
use Rattle.sk_abswalk.proofs.Analysed.{triples_fit, table_accepted, table_least}
use Rattle.sk_abswalk.proofs.OnePerKey.{one_per_key}
use Rattle.sk_abswalk.proofs.round_laws.analysed_tables_are_accepted.Goals as goal

pub returns : goal.returns
returns g c = λ def program covers marks sorted is_program are covers_fit table rounds analysed.
    let d = g.D.NumDom.domain in
    let finite = g.D.NumDom.FINITE in
    let s = setting_of def program in
    let tuples = tuple_laws _ d g.met.D.NumDom.laws in
    let shapes = shape_laws _ d in
    let laws = c.readings_are_walks.ensures def program covers marks sorted is_program are covers_fit in
    let asks = c.readings_ask.ensures def program covers marks sorted is_program in
    record {
      in_time = analysed_in_time _ _ _ laws table rounds analysed;
      fits = triples_fit _ d s finite marks covers table (analysed_fits _ _ _ laws table rounds analysed);
      one_per_key = one_per_key _ table d s finite marks covers;
      accepted = table_accepted _ d s finite marks covers tuples shapes laws asks table rounds analysed;
      least = λ fin. table_least _ d s finite marks covers tuples shapes laws asks fin table rounds analysed;
    }
