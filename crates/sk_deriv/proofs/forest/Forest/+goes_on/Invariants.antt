use Rattle.sk_deriv.specs.Cursors.{cursor_size}
use Rattle.sk_deriv.proofs.forest.Forest.+goes_on.Given as goal

abbrev pub decreases-goes_on : goal.decreases-goes_on
decreases-goes_on l = cursor_size l.self.now l.cursor.now
