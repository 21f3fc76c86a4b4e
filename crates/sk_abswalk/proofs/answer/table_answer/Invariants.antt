use Rattle.std.proofs.Common.{◌≡◌, drop, map}
use Rattle.std.specs.Prelude.{filter}
use Rattle.sk_abswalk.specs.Tables.{is_above, meet_from, table_answer}
use Rattle.sk_abswalk.proofs.answer.table_answer.Given as goal

abbrev pub invariant-loop-triple : goal.invariant-loop-triple
invariant-loop-triple g l =
    meet_from g.D.NumDom.domain l.met (map (λ triple. triple.outs) (filter (is_above g.D.NumDom.domain l.call) (drop l.triple-index l.table))) ≡ table_answer g.D.NumDom.domain l.table l.call
