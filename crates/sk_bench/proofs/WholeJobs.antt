-- The job that was read is that of its lines.
use Rattle.std.proofs.Common.{◌≡◌, ◌∙◌, ℕ, List, [], Ok, Option, ap, drop, refl, subst, sym}
use Rattle.sk_def.specs.declared.def.Def.{Def}
use Rattle.sk_interval.specs.declared.bounds.Interval.{Interval}
use Rattle.sk_lex.specs.Symbols.{Symbol}
use Rattle.sk_sign.specs.declared.sign.Sign.{Sign}
use Rattle.sk_table.specs.declared.triple.Cover.{Cover}
use Rattle.sk_term.specs.Reading.{ReadTerm, read_term}
use Rattle.sk_term.specs.declared.node.TermNode.{TermNode}
use Rattle.sk_bench.specs.declared.job.Start.{Start}
use Rattle.sk_bench.specs.JobMeets.{LinesFit}
use Rattle.sk_bench.specs.Jobs.{CallsFit, Lines, ReadJob, heading, job_of, read_lines, read_symbols, termed}
use Rattle.sk_bench.proofs.Padded.{calls_fit}

-- the heading, the program and the lines
pub reads : (d : Def) (symbols : List Symbol) (term : ReadTerm × ℕ) (state : Lines) (job : ReadJob) → heading symbols ≡ Ok tt → termed (read_term d [] 3 (drop 3 symbols)) ≡ Ok term
    → read_lines d symbols term ≡ Ok state → job ≡ job_of state → read_symbols d symbols ≡ Ok job
unfolding read_symbols
reads d symbols term state job head program lines same = rw (head, program, lines, same) refl

-- the lines' nodes are the program's
pub same_job : (d : Def) {job : ReadJob} {given : Def} {nodes now : List TermNode} {names : List (List ℕ)} {start : Option Start} {sign : List (Cover Sign)} {interval : List (Cover Interval)} {state : Lines}
    → job ≡ job_of (record { def = d; nodes = nodes; names = names; start = start; sign = sign; interval = interval })
    → record { def = given; nodes = now; names = names; start = start; sign = sign; interval = interval } ≡ state → state.nodes ≡ nodes → job ≡ job_of state
same_job d {job} {given} {nodes} {now} {names} {start} {sign} {interval} is view kept =
    let P : Lines → Type 0 = λ state. state.nodes ≡ nodes → job ≡ job_of state in
    subst P view (λ same. is ∙ ap (λ n. job_of (record { def = given; nodes = n; names = names; start = start; sign = sign; interval = interval })) (sym same)) kept

pub job_fits : (d : Def) (state : Lines) (job : ReadJob) → LinesFit state → state.def ≡ d → job ≡ job_of state → CallsFit d job
job_fits d state job fit same is = subst (CallsFit d) (sym is) (subst (λ e. CallsFit e (job_of state)) same (calls_fit state fit))
