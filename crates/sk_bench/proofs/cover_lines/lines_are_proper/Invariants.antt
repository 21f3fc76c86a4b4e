use Rattle.std.specs.List.{AllWithin}
use Rattle.sk_bench.specs.Analysing.{IsProperLine}
use Rattle.sk_bench.proofs.cover_lines.lines_are_proper.Given as goal

abbrev pub invariant-loop-place : goal.invariant-loop-place
invariant-loop-place g l = AllWithin (IsProperLine g.D.NumDom.domain) l.covers 0 l.place
