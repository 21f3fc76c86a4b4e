use Rattle.std.proofs.Common.{◌≡◌, ◌+◌, drop}
use Rattle.sk_deriv.specs.Moves.{setting_of}
use Rattle.sk_abswalk.specs.Tables.{is_justified}
use Rattle.sk_abswalk.specs.Verdict.{first_failing}
use Rattle.sk_verify.proofs.FirstFailing.{failing_from}
use Rattle.sk_verify.proofs.checker.first_unjustified.Given as goal

abbrev pub invariant-loop-place : goal.invariant-loop-place
invariant-loop-place g l =
    let test = is_justified g.D.NumDom.domain (setting_of l.checked l.arena) l.table in
    failing_from test (l.place + 1) (drop l.place l.table) ≡ first_failing test l.table
