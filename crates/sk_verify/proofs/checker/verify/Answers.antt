use Rattle.std.proofs.Common.{rules, ◌≡◌, Some}
use Rattle.sk_deriv.specs.Moves.{setting_of}
use Rattle.sk_abswalk.specs.declared.verdict.Verdict.{Verdict}
use Rattle.sk_abswalk.specs.Verdict.{verdict_of}
use Rattle.sk_verify.proofs.checker.verify.Goals as goal

pub returns-clause-sound : goal.returns-clause-sound
returns-clause-sound g c =
    let setting = setting_of c.args.checked.now c.args.arena.now in
    let yes : verdict_of g.D.NumDom.domain setting c.args.covers.now c.args.table.now ≡ Some Verdict.Yes = search rules in
    λ _. c.accepted_tables_are_sound.ensures setting c.args.covers.now c.args.table.now ((c.verdicts_are_right.ensures setting c.args.covers.now c.args.table.now).0 yes)
