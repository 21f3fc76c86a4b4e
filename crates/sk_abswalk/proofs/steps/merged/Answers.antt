use Rattle.std.proofs.Common.{rules, ◌≡◌, true}
use Rattle.std.specs.List.{list_all}
use Rattle.sk_abswalk.specs.Branches.{is_gone}
use Rattle.sk_abswalk.proofs.BranchEnds.{gone_merge}
use Rattle.sk_abswalk.proofs.steps.merged.Goals as goal

pub returns-then-all_gone : goal.returns-then-all_gone
returns-then-all_gone g c =
    let e : list_all is_gone c.args.ends.now ≡ true = search rules in
    gone_merge _ g.D.NumDom.domain c.args.exports.now c.args.env c.args.ends.now e
