use Rattle.std.proofs.Common.{rules, ◌≡◌, Some}
use Rattle.std.specs.Prelude.{slice_get}
use Rattle.sk_term.proofs.Programs.{sort_is_declared}
use Rattle.sk_term.proofs.arena.Arena.sort_at.Goals as goal

pub returns-clause-declared : goal.returns-clause-declared
returns-clause-declared c d h =
    let listed : slice_get c.args.self.now.sorts c.args.point ≡ Some c.get.result.now = search rules in
    sort_is_declared d c.args.self.now c.args.point c.get.result.now h listed
