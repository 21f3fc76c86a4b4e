use Rattle.std.proofs.Common.{◌≡◌, drop, map}
use Rattle.std.specs.Prelude.{filter}
use Rattle.sk_abswalk.specs.Tables.{is_above, meet_from, table_answer}
use Rattle.sk_abswalk.proofs.indexed.answer_among.Given as goal

abbrev pub invariant-loop-triple : goal.invariant-loop-triple
invariant-loop-triple g l =
    meet_from g.D.NumDom.domain l.met (map (λ triple. triple.outs) (filter (is_above g.D.NumDom.domain l.call) (map (λ triple. triple.now) (drop l.triple-index l.triples))))
    ≡ table_answer g.D.NumDom.domain (map (λ triple. triple.now) l.triples) l.call
