use Rattle.std.proofs.Common.{◌+◌}
use Rattle.sk_deriv.specs.Cursors.{cursor_size}
use Rattle.sk_deriv.proofs.forest.Forest.+words.Given as goal

abbrev pub decreases-is_before : goal.decreases-is_before
decreases-is_before l = cursor_size l.self.now l.a.now + cursor_size l.self.now l.b.now

abbrev pub decreases-pick_is_before : goal.decreases-pick_is_before
decreases-pick_is_before l = cursor_size l.self.now l.a.now + cursor_size l.self.now l.b.now
