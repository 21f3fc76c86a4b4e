use Rattle.std.proofs.Common.{◌∙◌, ◌≤◌, ◌<◌, Global, arith, length, string_bytes, sym}
use Rattle.sk_bench.proofs.CommandWords.{check_words, job_words, verify_words}
use Rattle.sk_bench.proofs.words.command.Goals as goal

pub returns-in-len5 : goal.returns-in-len5
returns-in-len5 c =
    let more : 5 ≤ length c.args.words.now = omega (arith, c.in-len5.len_at_least) in
    let less : length c.args.words.now < 6 = omega (arith, c.in-len5.len_below) in
    (rw c.as_str-in-len5.ensures.value at c.verify.ensures)
    ∙ sym (verify_words (string_bytes {Z = Global}) c.args.words.now c.word-item-then-words-lt6.result c.domain-item.result more less c.word-item-then-words-lt6.is
    c.domain-item.is (rw c.as_str-then-words-lt6.ensures.value at (sym c.eq-then-words-lt6.ensures ∙ c.if-eq-2.true)))

pub returns-in-len4 : goal.returns-in-len4
returns-in-len4 c =
    let more : 4 ≤ length c.args.words.now = omega (arith, c.in-len4.len_at_least) in
    let less : length c.args.words.now < 5 = omega (arith, c.in-len4.len_below) in
    (rw (c.as_str-in-len4.ensures.value, c.as_str-in-len4-2.ensures.value) at c.on_job.ensures)
    ∙ sym (job_words (string_bytes {Z = Global}) c.args.words.now c.word-item-then-words-lt5.result c.last-item.result more less c.word-item-then-words-lt5.is c.last-item.is)

pub returns-in-len2 : goal.returns-in-len2
returns-in-len2 c =
    let more : 2 ≤ length c.args.words.now = omega (arith, c.in-len2.len_at_least) in
    let less : length c.args.words.now < 3 = omega (arith, c.in-len2.len_below) in
    sym (check_words (string_bytes {Z = Global}) c.args.words.now c.word-item.result more less c.word-item.is
    (rw c.as_str.ensures.value at (sym c.eq.ensures ∙ c.if-eq.true)))
