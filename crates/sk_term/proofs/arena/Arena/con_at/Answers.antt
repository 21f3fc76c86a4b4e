use Rattle.std.proofs.Common.{◌≡◌, Some, rules}
use Rattle.std.specs.Prelude.{slice_get}
use Rattle.sk_term.proofs.Entries.{entries_fit, as_many_entries}
use Rattle.sk_term.proofs.arena.Arena.con_at.Goals as goal

pub returns-clause-count : goal.returns-clause-count
returns-clause-count c d h =
    let e : slice_get c.args.self.now.nodes c.args.point ≡ Some c.get.result.now = search rules in
    as_many_entries d c.args.self.now c.args.point c.get.result.now h e

pub returns-clause-sorts : goal.returns-clause-sorts
returns-clause-sorts c d h =
    let e : slice_get c.args.self.now.nodes c.args.point ≡ Some c.get.result.now = search rules in
    entries_fit d c.args.self.now c.args.point c.get.result.now h e
