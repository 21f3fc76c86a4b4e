use Rattle.sk_interval.specs.Intervals.{interval_domain}
use Rattle.sk_interval.specs.Texts.{interval_texts}
use Rattle.sk_interval.specs.Laws.Texts.{interval_text_laws}
use Rattle.sk_sign.specs.Signs.{sign_domain}
use Rattle.sk_sign.specs.Texts.{sign_texts}
use Rattle.sk_sign.specs.Laws.Texts.{sign_text_laws}
use Rattle.sk_term.proofs.OnlyTerms.{only_terms_are_read}
use Rattle.sk_term.proofs.Spelled.{terms_are_read}
use Rattle.sk_spell.proofs.AbsTuples.{abs_tuples_are_read_exactly}
use Rattle.sk_spell.proofs.JobParts.{jobs_exactly}
use Rattle.sk_spell.proofs.TupleOnly.{only_tuples_are_read}
use Rattle.sk_spell.proofs.TextsSpelled.{job_texts}
use Rattle.sk_spell.proofs.TupleSpelled.{tuples_are_read}
use Rattle.sk_spell.proofs.laws.job_texts_are_read_exactly.Goals as goal

pub returns : goal.returns
returns c =
    job_texts
    (jobs_exactly only_terms_are_read
    (λ sorts names at symbols read end different. (only_tuples_are_read sorts names at symbols read end different, tuples_are_read sorts names at symbols read end different))
    (abs_tuples_are_read_exactly sign_domain sign_texts sign_text_laws) (abs_tuples_are_read_exactly interval_domain interval_texts interval_text_laws)
    (λ d names at symbols read end found different. (only_terms_are_read d names at symbols read end, terms_are_read d names at symbols read end found different)))
