use Rattle.std.proofs.Common.{length, refl}
use Rattle.sk_sign.specs.Signs.{sign_domain}
use Rattle.sk_bench.specs.JobText.{seen}
use Rattle.sk_bench.proofs.Analysed.{solution_in, solution_means}
use Rattle.sk_bench.proofs.CoverCalls.{covers_fit, lines_fit}
use Rattle.sk_bench.proofs.solve_command.solution.Goals as goal

pub generate-requires-clause-fit : goal.generate-requires-clause-fit
generate-requires-clause-fit c =
    lines_fit c.args.checked.now c.args.job.now.arena (length c.args.job.now.names) c.args.job.now.sign c.requires.program c.requires.over c.requires.calls.sign

pub returns : goal.returns
returns c =
    let job = c.args.job.now in
    let proper = rw c.as_slice.ensures at c.lines_are_proper.ensures in
    let fit = covers_fit sign_domain c.args.checked.now job.arena (length job.names) job.sign c.requires.over c.requires.calls.sign proper in (
      refl,
      (
        (
          c.in_ok-table.table,
          solution_in c.args.checked.now job.arena (seen job) job.sign c.in_ok-list.list c.in_ok-assignment.assignment c.in_ok-table.table c.requires.program refl c.requires.over
              c.in_ok-list.ensures c.in_ok-assignment.ensures c.in_ok-table.ensures,
          rw c.def-def.ensures.is at c.in_ok-text.ensures.text,
        ),
        solution_means c.args.checked.now job.arena (seen job) job.sign c.solutions_agree.ensures c.def-def.ensures.sorted.well_sorted c.requires.program refl c.requires.over fit,
      ),
    )
