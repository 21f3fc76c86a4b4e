use Rattle.std.proofs.Common.{◌≤◌, arith, length, refl}
use Rattle.sk_deriv.specs.Moves.{setting_of}
use Rattle.sk_bench.specs.JobText.{seen}
use Rattle.sk_bench.proofs.Analysed.{analysis_in, analysis_means}
use Rattle.sk_bench.proofs.Bounds.{few_rounds}
use Rattle.sk_bench.proofs.CoverCalls.{covers_fit}
use Rattle.sk_bench.proofs.analyse_command.analysis.Goals as goal

pub analyse-requires-clause-bound : goal.analyse-requires-clause-bound
analyse-requires-clause-bound g c =
    let program = c.args.job.now.arena in
    let names : program.names ≤ 64 = omega (arith, c.requires.over, c.count-names.ensures.few) in
    few_rounds g.D.NumDom.domain g.D.NumDom.FINITE c.in_ok-marks.marks (setting_of c.args.checked.now program) c.args.covers.now c.requires.ranks c.increase.ensures
    c.def-def.ensures.sorted.well_sorted.fits.few_hooks c.requires.program.few names

pub returns : goal.returns
returns g c =
    let d = g.D.NumDom.domain in
    let job = c.args.job.now in
    let proper = rw c.as_slice.ensures at c.lines_are_proper.ensures in
    let fit = covers_fit d c.args.checked.now job.arena (length job.names) c.args.covers.now c.requires.over c.requires.calls proper in (
      refl,
      (
        (
          c.in_ok-analysis.analysis.table,
          analysis_in d g.D.NumDom.FINITE c.args.checked.now job.arena (seen job) c.args.covers.now c.in_ok-marks.marks c.in_ok-analysis.analysis c.requires.program refl
              c.requires.over c.increase.ensures c.in_ok-marks.ensures c.in_ok-analysis.ensures.analysed,
          rw c.def-def.ensures.is at c.in_ok-text.ensures.text,
        ),
        analysis_means d g.D.NumDom.FINITE c.args.checked.now job.arena (seen job) c.args.covers.now c.analysed_tables_are_accepted.ensures c.accepted_tables_are_sound.ensures
            c.def-def.ensures.sorted.well_sorted c.requires.program refl c.requires.over fit,
      ),
    )
