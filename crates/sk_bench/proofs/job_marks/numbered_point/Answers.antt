use Rattle.std.proofs.Common.{sym}
use Rattle.std.proofs.lemmas.Int.{to_z-of_z}
use Rattle.std.proofs.Common.{w64}
use Rattle.sk_bench.proofs.Points.{is_such_point, is_no_such_point, is_no_point}
use Rattle.sk_bench.proofs.job_marks.numbered_point.Goals as goal

pub returns-in_default-clause-found : goal.returns-in_default-clause-found
returns-in_default-clause-found c =
    let same = to_z-of_z w64 c.args.number c.ranges.number in
    let unfit = rw same at c.in_default.ensures in
    sym (is_no_point c.args.def.now c.args.program.now.nodes c.args.hook c.args.number c.requires.program.few unfit)

pub returns-then-is_point-clause-found : goal.returns-then-is_point-clause-found
returns-then-is_point-clause-found c =
    let same = to_z-of_z w64 c.args.number c.ranges.number in
    let fits = rw same at c.in-Ok.ensures in
    sym (is_such_point c.args.def.now c.args.program.now.nodes c.args.hook c.args.number c.in-Ok.point fits.0 fits.1 (sym c.if-is_point.ensures))

pub returns-else-is_point-clause-found : goal.returns-else-is_point-clause-found
returns-else-is_point-clause-found c =
    let same = to_z-of_z w64 c.args.number c.ranges.number in
    let fits = rw same at c.in-Ok.ensures in
    sym (is_no_such_point c.args.def.now c.args.program.now.nodes c.args.hook c.args.number c.in-Ok.point fits.0 fits.1 (sym c.if-is_point.ensures))
