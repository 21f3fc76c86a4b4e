use Rattle.std.proofs.Common.{sym, ◌∙◌}
use Rattle.sk_bench.proofs.laws.solutions_are_analyses.Goals as goal

pub returns : goal.returns
returns g c = λ fin def program covers marks sorted is_program increase fit list are assignment least analysis is.
    c.solutions_agree.ensures fin def program covers marks sorted is_program increase fit list are assignment least is.table analysis.rounds is.analysed ∙ sym is.triples_are
