-- Each grid holds one side of the allowed pairs.
use Rattle.std.proofs.Common.{◌≡◌, ◌∙◌}
use Rattle.sk_sign.specs.declared.sign.Sign.{Sign}
use Rattle.sk_sign.proofs.Grids.{below_left_is, below_right_is, at_least_left_is, at_least_right_is, same_left_is, same_right_is, differ_left_is, differ_right_is}
use Rattle.sk_sign.proofs.sign.SignNumDom.refine.Goals as goal

same_pair : (a a2 b b2 : Sign) → a ≡ a2 → b ≡ b2 → ◌≡◌ {A = Sign × Sign} (a, b) (a2, b2)
same_pair a a2 b b2 h k = cc

pub returns-in-Below : goal.returns-in-Below
returns-in-Below c =
    rw c.in-Below.is (same_pair _ _ _ _ (c.look_up.ensures ∙ below_left_is c.args.a c.args.b) (c.look_up-in-Below.ensures ∙ below_right_is c.args.a c.args.b))

pub returns-in-AtLeast : goal.returns-in-AtLeast
returns-in-AtLeast c =
    rw c.in-AtLeast.is (same_pair _ _ _ _ (c.look_up-in-AtLeast.ensures ∙ at_least_left_is c.args.a c.args.b) (c.look_up-in-AtLeast-2.ensures ∙ at_least_right_is c.args.a c.args.b))

pub returns-in-Same : goal.returns-in-Same
returns-in-Same c =
    rw c.in-Same.is (same_pair _ _ _ _ (c.look_up-in-Same.ensures ∙ same_left_is c.args.a c.args.b) (c.look_up-in-Same-2.ensures ∙ same_right_is c.args.a c.args.b))

pub returns-in-Differ : goal.returns-in-Differ
returns-in-Differ c =
    rw c.in-Differ.is (same_pair _ _ _ _ (c.look_up-in-Differ.ensures ∙ differ_left_is c.args.a c.args.b) (c.look_up-in-Differ-2.ensures ∙ differ_right_is c.args.a c.args.b))
