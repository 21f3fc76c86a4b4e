use Rattle.std.proofs.Common.{◌≡◌, ◌∙◌, sym, Some, arith, slice_get}
use Rattle.sk_def.specs.Rules.{rule_of}
use Rattle.sk_concrete.proofs.RulesFound.{rule_fits, unfit, some_rule}
use Rattle.sk_concrete.proofs.start.rule_of_call.Goals as goal

pub get-hook-requires : goal.get-hook-requires
get-hook-requires c =
    let found : rule_of c.args.checked.now c.args.call.now.hook c.con_at-con.result ≡ Some c.in-Some.rule.now = rw c.def-def.ensures.is at (sym c.in-Some.ensures) in
    rw c.def-def.ensures.is (omega (arith, c.from-2.ensures, (rule_fits c.args.checked.now c.args.call.now.hook c.con_at-con.result c.in-Some.rule.now c.def-def.ensures.sorted found).hook_declared))

pub returns-then-not-have_sorts-clause-none : goal.returns-then-not-have_sorts-clause-none
returns-then-not-have_sorts-clause-none c =
    let found : rule_of c.args.checked.now c.args.call.now.hook c.con_at-con.result ≡ Some c.in-Some.rule.now = rw c.def-def.ensures.is at (sym c.in-Some.ensures) in
    let hook-is : slice_get c.args.checked.now.hooks c.in-Some.rule.now.hook.0 ≡ Some c.get-hook.result.now = rw (c.def-def.ensures.is, c.from-2.ensures) at c.get-hook.ensures in
    let tested = rw (c.names.ensures, c.as_slice.ensures, c.as_slice-2.ensures.flows) at c.have_sorts.ensures in
    unfit c.args.checked.now c.args.arena.now c.args.call.now c.con_at-con.result c.in-Some.rule.now c.get-hook.result.now found hook-is (sym c.if-not-have_sorts.true ∙ tested)

pub get-con-requires : goal.get-con-requires
get-con-requires c =
    let found : rule_of c.args.checked.now c.args.call.now.hook c.con_at-con.result ≡ Some c.in-Some.rule.now = rw c.def-def.ensures.is at (sym c.in-Some.ensures) in
    rw c.def-def.ensures.is (omega (arith, c.from-3.ensures, (rule_fits c.args.checked.now c.args.call.now.hook c.con_at-con.result c.in-Some.rule.now c.def-def.ensures.sorted found).con_declared))

pub returns-clause-some : goal.returns-clause-some
returns-clause-some c =
    let found : rule_of c.args.checked.now c.args.call.now.hook c.con_at-con.result ≡ Some c.in-Some.rule.now = rw c.def-def.ensures.is at (sym c.in-Some.ensures) in
    let hook-is : slice_get c.args.checked.now.hooks c.in-Some.rule.now.hook.0 ≡ Some c.get-hook.result.now = rw (c.def-def.ensures.is, c.from-2.ensures) at c.get-hook.ensures in
    let con-is : slice_get c.args.checked.now.cons c.in-Some.rule.now.con.0 ≡ Some c.get-con.result.now = rw (c.def-def.ensures.is, c.from-3.ensures) at c.get-con.ensures in
    let tested = rw (c.names.ensures, c.as_slice.ensures, c.as_slice-2.ensures.flows) at c.have_sorts.ensures in
    some_rule c.args.checked.now c.args.arena.now c.args.call.now c.con_at-con.result c.in-Some.rule.now c.get-hook.result.now found hook-is c.get-con.result.now
    c.def-def.ensures.sorted c.requires con-is c.con_at-con.ensures.con (c.con_at-con.ensures.count c.args.checked.now c.requires) (sym c.if-not-have_sorts.false ∙ tested)
