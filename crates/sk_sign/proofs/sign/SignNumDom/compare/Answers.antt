-- Each grid holds the union of the entries for single signs.
use Rattle.std.proofs.Common.{◌∙◌}
use Rattle.sk_sign.proofs.Grids.{lt_is, le_is, eq_is}
use Rattle.sk_sign.proofs.sign.SignNumDom.compare.Goals as goal

pub returns-in-Lt : goal.returns-in-Lt
returns-in-Lt c = rw c.in-Lt.is (c.look_up_truth.ensures ∙ lt_is c.args.a c.args.b)

pub returns-in-Le : goal.returns-in-Le
returns-in-Le c = rw c.in-Le.is (c.look_up_truth-in-Le.ensures ∙ le_is c.args.a c.args.b)

pub returns-in-Eq : goal.returns-in-Eq
returns-in-Eq c = rw c.in-Eq.is (c.look_up_truth-in-Eq.ensures ∙ eq_is c.args.a c.args.b)
