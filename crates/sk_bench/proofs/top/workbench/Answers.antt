use Rattle.std.proofs.Common.{map, string_bytes, sym}
use Rattle.sk_base.specs.Files.{progress_of}
use Rattle.sk_bench.specs.Commands.{plan_of}
use Rattle.sk_bench.specs.Headline.{EndsAsTold, StopsAsTold, IsComplete, IsCompleteTooLong, IsFaultless}
use Rattle.sk_bench.proofs.Promises.{if_planned, written_exact, written_complete, made_limit, made_complete_too_long, failed_complete, stopped_exact, stopped_complete, stopped_complete_too_long, written_faultless, failed_faultless, stopped_faultless}
use Rattle.sk_bench.specs.declared.status.Status.TheVariants as status
use Rattle.sk_bench.proofs.top.workbench.Goals as goal

pub returns-in-Ok-write_all-clause-exact : goal.returns-in-Ok-write_all-clause-exact
returns-in-Ok-write_all-clause-exact g c =
    if_planned (map string_bytes c.args.words.now) c.in-Some.command
    (λ plan. EndsAsTold (g.F.Files.folder c.args.files.now) plan c.status.result)
    (sym c.in-Some.ensures)
    (rw c.status.ensures (written_exact (g.F.Files.folder c.args.files.now) (plan_of (map string_bytes c.args.words.now) c.in-Some.command) (progress_of (g.F.Files.selection c.produce.new.files)) (progress_of (g.F.Files.selection c.args.files.now)) c.in-Ok.output.ending c.in-Ok.output.text.items c.in-Ok.ensures.follows))

pub returns-in-Ok-write_all-clause-limit : goal.returns-in-Ok-write_all-clause-limit
returns-in-Ok-write_all-clause-limit g c =
    if_planned (map string_bytes c.args.words.now) c.in-Some.command
    (λ plan. StopsAsTold (g.F.Files.folder c.args.files.now) plan c.status.result)
    (sym c.in-Some.ensures)
    (made_limit (g.F.Files.folder c.args.files.now) (plan_of (map string_bytes c.args.words.now) c.in-Some.command) (progress_of (g.F.Files.selection c.produce.new.files)) (progress_of (g.F.Files.selection c.args.files.now)) c.in-Ok.output.ending c.in-Ok.output.text.items c.in-Ok.ensures.follows _)

pub returns-in-Ok-write_all-clause-complete : goal.returns-in-Ok-write_all-clause-complete
returns-in-Ok-write_all-clause-complete g c =
    if_planned (map string_bytes c.args.words.now) c.in-Some.command
    (λ plan. IsComplete (g.F.Files.folder c.args.files.now) plan (g.S.Sink.room c.args.sink.now) c.status.result)
    (sym c.in-Some.ensures)
    (rw c.status.ensures (written_complete (g.F.Files.folder c.args.files.now) (plan_of (map string_bytes c.args.words.now) c.in-Some.command) (progress_of (g.F.Files.selection c.produce.new.files)) (progress_of (g.F.Files.selection c.args.files.now)) c.in-Ok.output.ending c.in-Ok.output.text.items c.in-Ok.ensures.follows _))

pub returns-in-Ok-write_all-clause-complete_too_long : goal.returns-in-Ok-write_all-clause-complete_too_long
returns-in-Ok-write_all-clause-complete_too_long g c =
    if_planned (map string_bytes c.args.words.now) c.in-Some.command
    (λ plan. IsCompleteTooLong (g.F.Files.folder c.args.files.now) plan c.status.result)
    (sym c.in-Some.ensures)
    (made_complete_too_long (g.F.Files.folder c.args.files.now) (plan_of (map string_bytes c.args.words.now) c.in-Some.command) (progress_of (g.F.Files.selection c.produce.new.files)) (progress_of (g.F.Files.selection c.args.files.now)) c.in-Ok.output.ending c.in-Ok.output.text.items c.in-Ok.ensures.follows _)

pub returns-in-Ok-clause-limit : goal.returns-in-Ok-clause-limit
returns-in-Ok-clause-limit g c =
    if_planned (map string_bytes c.args.words.now) c.in-Some.command
    (λ plan. StopsAsTold (g.F.Files.folder c.args.files.now) plan status.WriteFault)
    (sym c.in-Some.ensures)
    (made_limit (g.F.Files.folder c.args.files.now) (plan_of (map string_bytes c.args.words.now) c.in-Some.command) (progress_of (g.F.Files.selection c.produce.new.files)) (progress_of (g.F.Files.selection c.args.files.now)) c.in-Ok.output.ending c.in-Ok.output.text.items c.in-Ok.ensures.follows _)

pub returns-in-Ok-clause-complete : goal.returns-in-Ok-clause-complete
returns-in-Ok-clause-complete g c =
    if_planned (map string_bytes c.args.words.now) c.in-Some.command
    (λ plan. IsComplete (g.F.Files.folder c.args.files.now) plan (g.S.Sink.room c.args.sink.now) status.WriteFault)
    (sym c.in-Some.ensures)
    (failed_complete (g.F.Files.folder c.args.files.now) (plan_of (map string_bytes c.args.words.now) c.in-Some.command) (progress_of (g.F.Files.selection c.produce.new.files)) (progress_of (g.F.Files.selection c.args.files.now)) c.in-Ok.output.ending c.in-Ok.output.text.items c.in-Ok.ensures.follows (g.S.Sink.room c.args.sink.now) (g.S.Sink.room c.write_all.new.sink) c.in-Err-write_all.field-0 (rw c.as_slice.ensures.value at c.in-Err-write_all.ensures.fits))

pub returns-in-Ok-clause-complete_too_long : goal.returns-in-Ok-clause-complete_too_long
returns-in-Ok-clause-complete_too_long g c =
    if_planned (map string_bytes c.args.words.now) c.in-Some.command
    (λ plan. IsCompleteTooLong (g.F.Files.folder c.args.files.now) plan status.WriteFault)
    (sym c.in-Some.ensures)
    (made_complete_too_long (g.F.Files.folder c.args.files.now) (plan_of (map string_bytes c.args.words.now) c.in-Some.command) (progress_of (g.F.Files.selection c.produce.new.files)) (progress_of (g.F.Files.selection c.args.files.now)) c.in-Ok.output.ending c.in-Ok.output.text.items c.in-Ok.ensures.follows _)

pub returns-clause-exact : goal.returns-clause-exact
returns-clause-exact g c =
    if_planned (map string_bytes c.args.words.now) c.in-Some.command
    (λ plan. EndsAsTold (g.F.Files.folder c.args.files.now) plan c.status-in-Err.result)
    (sym c.in-Some.ensures)
    (rw c.status-in-Err.ensures (stopped_exact (g.F.Files.folder c.args.files.now) (plan_of (map string_bytes c.args.words.now) c.in-Some.command) (g.F.Files.selection c.args.files.now) (g.F.Files.selection c.produce.new.files) (g.F.Files.faults c.args.files.now) (g.F.Files.faults c.produce.new.files) _ c.in-Err.ensures.follows))

pub returns-clause-complete : goal.returns-clause-complete
returns-clause-complete g c =
    if_planned (map string_bytes c.args.words.now) c.in-Some.command
    (λ plan. IsComplete (g.F.Files.folder c.args.files.now) plan (g.S.Sink.room c.args.sink.now) c.status-in-Err.result)
    (sym c.in-Some.ensures)
    (rw c.status-in-Err.ensures (stopped_complete (g.F.Files.folder c.args.files.now) (plan_of (map string_bytes c.args.words.now) c.in-Some.command) (g.F.Files.selection c.args.files.now) (g.F.Files.selection c.produce.new.files) (g.F.Files.faults c.args.files.now) (g.F.Files.faults c.produce.new.files) _ _ c.in-Err.ensures.follows))

pub returns-clause-complete_too_long : goal.returns-clause-complete_too_long
returns-clause-complete_too_long g c =
    if_planned (map string_bytes c.args.words.now) c.in-Some.command
    (λ plan. IsCompleteTooLong (g.F.Files.folder c.args.files.now) plan c.status-in-Err.result)
    (sym c.in-Some.ensures)
    (rw c.status-in-Err.ensures (stopped_complete_too_long (g.F.Files.folder c.args.files.now) (plan_of (map string_bytes c.args.words.now) c.in-Some.command) (g.F.Files.selection c.args.files.now) (g.F.Files.selection c.produce.new.files) (g.F.Files.faults c.args.files.now) (g.F.Files.faults c.produce.new.files) _ c.in-Err.ensures.follows))

pub returns-in-Ok-write_all-clause-faultless : goal.returns-in-Ok-write_all-clause-faultless
returns-in-Ok-write_all-clause-faultless g c =
    if_planned (map string_bytes c.args.words.now) c.in-Some.command
    (λ plan. IsFaultless (g.F.Files.folder c.args.files.now) plan (g.S.Sink.room c.args.sink.now) c.status.result)
    (sym c.in-Some.ensures)
    (rw c.status.ensures (written_faultless (g.F.Files.folder c.args.files.now) (plan_of (map string_bytes c.args.words.now) c.in-Some.command) (progress_of (g.F.Files.selection c.produce.new.files)) (progress_of (g.F.Files.selection c.args.files.now)) c.in-Ok.output.ending c.in-Ok.output.text.items c.in-Ok.ensures.follows _))

pub returns-in-Ok-clause-faultless : goal.returns-in-Ok-clause-faultless
returns-in-Ok-clause-faultless g c =
    if_planned (map string_bytes c.args.words.now) c.in-Some.command
    (λ plan. IsFaultless (g.F.Files.folder c.args.files.now) plan (g.S.Sink.room c.args.sink.now) status.WriteFault)
    (sym c.in-Some.ensures)
    (failed_faultless (g.F.Files.folder c.args.files.now) (plan_of (map string_bytes c.args.words.now) c.in-Some.command) (progress_of (g.F.Files.selection c.produce.new.files)) (progress_of (g.F.Files.selection c.args.files.now)) c.in-Ok.output.ending c.in-Ok.output.text.items c.in-Ok.ensures.follows (g.S.Sink.room c.args.sink.now) (g.S.Sink.room c.write_all.new.sink) c.in-Err-write_all.field-0 (rw c.as_slice.ensures.value at c.in-Err-write_all.ensures.fits))

pub returns-clause-faultless : goal.returns-clause-faultless
returns-clause-faultless g c =
    if_planned (map string_bytes c.args.words.now) c.in-Some.command
    (λ plan. IsFaultless (g.F.Files.folder c.args.files.now) plan (g.S.Sink.room c.args.sink.now) c.status-in-Err.result)
    (sym c.in-Some.ensures)
    (rw c.status-in-Err.ensures (stopped_faultless (g.F.Files.folder c.args.files.now) (plan_of (map string_bytes c.args.words.now) c.in-Some.command) (g.F.Files.selection c.args.files.now) (g.F.Files.selection c.produce.new.files) (g.F.Files.faults c.args.files.now) (g.F.Files.faults c.produce.new.files) _ _ c.in-Err.ensures.follows))
