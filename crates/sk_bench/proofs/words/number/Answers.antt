use Rattle.std.proofs.Common.{◌≡◌, ◌<◌, ◌^◌, true, sym, ◌∙◌, arith}
use Rattle.sk_bench.specs.Words.{is_number}
use Rattle.sk_bench.proofs.Numbers.{none_up_to}
use Rattle.sk_bench.proofs.words.number.Goals as goal

pub returns-in_default-2 : goal.returns-in_default-2
returns-in_default-2 c =
    let few : c.args.most < 2 ^ 32 = omega arith in
    let digits : is_number c.args.word.now ≡ true = rw c.as_bytes.ensures.value at (sym c.is_number.ensures ∙ c.if-not-is_number.false) in
    sym (none_up_to c.args.most c.args.word.now few digits c.in_default.ensures.value.0)
