-- What was read so far, and the next token.
use Rattle.std.proofs.Common.{rules, sym, ◌∙◌, arith}
use Rattle.std.proofs.lemmas.Int.{ints}
use Rattle.sk_lex.specs.Symbols.{symbols}
use Rattle.sk_interval.specs.Ends.{le_test, le_false}
use Rattle.sk_interval.proofs.Taking.{low_stops, dots_stop, begun, high_stops, order_stops, last_stops, all_read}
use Rattle.sk_interval.proofs.text.take_bounds.Goals as goal

pub returns-in_err-low : goal.returns-in_err-low
returns-in_err-low c =
    let ss = symbols c.args.text.now c.args.tokens.now in
    let p = sym c.mark_at.ensures.value ∙ c.in_ok-mark_at.was in
    rw (low_stops c.args.from ss _ _ p (sym c.end_at.ensures.value ∙ c.in_err-low.was)) (search rules)

pub returns-in_err-mark_at-2 : goal.returns-in_err-mark_at-2
returns-in_err-mark_at-2 c =
    let ss = symbols c.args.text.now c.args.tokens.now in
    let p = sym c.mark_at.ensures.value ∙ c.in_ok-mark_at.was in
    let q = sym c.end_at.ensures.value ∙ c.in_ok-low.was in
    rw (dots_stop c.args.from ss _ _ _ p q (sym c.mark_at-2.ensures.value ∙ c.in_err-mark_at-2.was)) (search rules)

pub returns-in_err-high : goal.returns-in_err-high
returns-in_err-high c =
    let ss = symbols c.args.text.now c.args.tokens.now in
    let p = sym c.mark_at.ensures.value ∙ c.in_ok-mark_at.was in
    let q = sym c.end_at.ensures.value ∙ c.in_ok-low.was in
    let r = sym c.mark_at-2.ensures.value ∙ c.in_ok-mark_at-2.was in
    rw (high_stops c.args.from ss _ _ (begun c.args.from ss _ _ _ p q r) (sym c.end_at-2.ensures.value ∙ c.in_err-high.was)) (search rules)

pub returns-then-high-low : goal.returns-then-high-low
returns-then-high-low c =
    let ss = symbols c.args.text.now c.args.tokens.now in
    let p = sym c.mark_at.ensures.value ∙ c.in_ok-mark_at.was in
    let q = sym c.end_at.ensures.value ∙ c.in_ok-low.was in
    let r = sym c.mark_at-2.ensures.value ∙ c.in_ok-mark_at-2.was in
    let h = sym c.end_at-2.ensures.value ∙ c.in_ok-high.was in
    sym (order_stops c.args.from ss _ _ (begun c.args.from ss _ _ _ p q r) h (le_false c.in_ok-low.low c.in_ok-high.high (omega (arith, ints))))

pub returns-in_err-mark_at-3 : goal.returns-in_err-mark_at-3
returns-in_err-mark_at-3 c =
    let ss = symbols c.args.text.now c.args.tokens.now in
    let p = sym c.mark_at.ensures.value ∙ c.in_ok-mark_at.was in
    let q = sym c.end_at.ensures.value ∙ c.in_ok-low.was in
    let r = sym c.mark_at-2.ensures.value ∙ c.in_ok-mark_at-2.was in
    let h = sym c.end_at-2.ensures.value ∙ c.in_ok-high.was in
    let order = le_test c.in_ok-low.low c.in_ok-high.high (omega (arith, ints)) in
    rw (last_stops c.args.from ss _ _ _ (begun c.args.from ss _ _ _ p q r) h order (sym c.mark_at-3.ensures.value ∙ c.in_err-mark_at-3.was)) (search rules)

pub returns : goal.returns
returns c =
    let ss = symbols c.args.text.now c.args.tokens.now in
    let p = sym c.mark_at.ensures.value ∙ c.in_ok-mark_at.was in
    let q = sym c.end_at.ensures.value ∙ c.in_ok-low.was in
    let r = sym c.mark_at-2.ensures.value ∙ c.in_ok-mark_at-2.was in
    let h = sym c.end_at-2.ensures.value ∙ c.in_ok-high.was in
    let order = le_test c.in_ok-low.low c.in_ok-high.high (omega (arith, ints)) in
    let k = sym c.mark_at-3.ensures.value ∙ c.in_ok-mark_at-3.was in
    rw (all_read c.args.from ss _ _ _ (begun c.args.from ss _ _ _ p q r) h order k, c.cut.ensures) (search rules)
