use Rattle.std.proofs.Common.{◌≡◌, ◌++◌, drop}
use Rattle.std.specs.List.{flat_map}
use Rattle.sk_constr.specs.Texts.{line_text}
use Rattle.sk_constr.proofs.print.put_lines.Given as goal

abbrev pub invariant-loop-line : goal.invariant-loop-line
invariant-loop-line l = l.out.items ++ flat_map (line_text l.def l.names) (drop l.line-index l.lines) ≡ l.fn.out.items ++ flat_map (line_text l.def l.names) l.lines
