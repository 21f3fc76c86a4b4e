use Rattle.std.proofs.Common.{ap, length, arith}
use Rattle.sk_lex.specs.Symbols.{symbols}
use Rattle.sk_bench.specs.Jobs.{Lines}
use Rattle.sk_bench.proofs.Kept.{grown_le}
use Rattle.sk_bench.proofs.WholeJobs.{job_fits, reads, same_job}
use Rattle.sk_bench.proofs.job_text.read_tokens.Goals as goal

pub whole_job-requires : goal.whole_job-requires
whole_job-requires c =
    let over = c.in_ok-arena.ensures.over in
    let more = grown_le c.in_ok-lines.ensures.kept.names in
    let names = ap (λ (l : Lines). length l.names) c.reader.view_is in
    omega (arith, over, more, names)

pub returns-clause-calls : goal.returns-clause-calls
returns-clause-calls c =
    let is = same_job c.args.def.now (c.in_ok-whole_job.ensures.seen c.args.def.now) c.reader.view_is c.in_ok-lines.ensures.kept.program in
    job_fits c.args.def.now c.lines.new.reader _ c.in_ok-lines.ensures.fit c.in_ok-lines.ensures.kept.definition is

pub returns-clause-read : goal.returns-clause-read
returns-clause-read c =
    let is = same_job c.args.def.now (c.in_ok-whole_job.ensures.seen c.args.def.now) c.reader.view_is c.in_ok-lines.ensures.kept.program in
    reads c.args.def.now (symbols c.args.text.now c.args.tokens.now) (record { nodes = c.in_ok-arena.arena.nodes; names = c.program.new.names }, c.in_ok-arena.at) c.lines.new.reader _
    c.in_ok-heading.ensures.gives (rw c.new-names.ensures at c.in_ok-arena.ensures.gives)
    (rw (c.new.ensures.items, c.new-2.ensures.items) at c.in_ok-lines.ensures.gives) is
