use Rattle.std.proofs.Common.{◌≡◌, ◌∙◌, Ok, Err, IfSome, ap, refl, subst, sym}
use Rattle.sk_bench.specs.Accepted.{accepted_table, refused_at, when_table}
use Rattle.sk_bench.specs.JobText.{seen}
use Rattle.sk_bench.specs.Refused.{refusal_of}
use Rattle.sk_bench.proofs.JobPrograms.{program_is}
use Rattle.sk_bench.proofs.accept.accept_table.Goals as goal

pub returns-in-Ok-clause-gives : goal.returns-in-Ok-clause-gives
returns-in-Ok-clause-gives g c =
    subst (λ program. accepted_table g.D.NumDom.domain g.D.NumDom.texts c.args.def.now program c.args.job.now.names c.args.text.now ≡ Ok c.in-Ok.table)
    (program_is c.args.def.now c.args.job.now.arena (seen c.args.job.now) c.requires.program refl c.requires.over)
    (ap when_table c.in-Ok.ensures.gives)

pub returns-in-Err-Bad-clause-gives : goal.returns-in-Err-Bad-clause-gives
returns-in-Err-Bad-clause-gives g c =
    subst
    (λ program. IfSome (refusal_of c.refused.result) (λ e. accepted_table g.D.NumDom.domain g.D.NumDom.texts c.args.def.now program c.args.job.now.names c.args.text.now ≡ Err e))
    (program_is c.args.def.now c.args.job.now.arena (seen c.args.job.now) c.requires.program refl c.requires.over)
    (rw c.refused.ensures (ap when_table (rw c.in-Err-Bad.field-0-is at c.in-Err-Bad.ensures.gives) ∙ ap (λ code. Err (refused_at code c.in-Err-Bad.place)) (sym c.table_code.ensures)))
