-- Each grid holds the union of the entries for single signs.
use Rattle.std.proofs.Common.{◌∙◌}
use Rattle.sk_sign.proofs.Grids.{add_is, sub_is, mul_is, div_is, rem_is, pick_is}
use Rattle.sk_sign.proofs.sign.SignNumDom.arith.Goals as goal

pub returns-in-Add : goal.returns-in-Add
returns-in-Add c = rw c.in-Add.is (c.look_up.ensures ∙ add_is c.args.a c.args.b)

pub returns-in-Sub : goal.returns-in-Sub
returns-in-Sub c = rw c.in-Sub.is (c.look_up-in-Sub.ensures ∙ sub_is c.args.a c.args.b)

pub returns-in-Mul : goal.returns-in-Mul
returns-in-Mul c = rw c.in-Mul.is (c.look_up-in-Mul.ensures ∙ mul_is c.args.a c.args.b)

pub returns-in-Div : goal.returns-in-Div
returns-in-Div c = rw c.in-Div.is (c.look_up-in-Div.ensures ∙ div_is c.args.a c.args.b)

pub returns-in-Rem : goal.returns-in-Rem
returns-in-Rem c = rw c.in-Rem.is (c.look_up-in-Rem.ensures ∙ rem_is c.args.a c.args.b)

pub returns-in-Pick : goal.returns-in-Pick
returns-in-Pick c = rw c.in-Pick.is (c.look_up-in-Pick.ensures ∙ pick_is c.args.a c.args.b)
