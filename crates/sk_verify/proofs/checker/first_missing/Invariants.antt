use Rattle.std.proofs.Common.{◌≡◌, ◌+◌, drop}
use Rattle.sk_abswalk.specs.Tables.{is_covered}
use Rattle.sk_abswalk.specs.Verdict.{first_failing}
use Rattle.sk_verify.proofs.FirstFailing.{failing_from}
use Rattle.sk_verify.proofs.checker.first_missing.Given as goal

abbrev pub invariant-loop-place : goal.invariant-loop-place
invariant-loop-place g l =
    let test = is_covered g.D.NumDom.domain l.table in
    failing_from test (l.place + 1) (drop l.place l.covers) ≡ first_failing test l.covers
