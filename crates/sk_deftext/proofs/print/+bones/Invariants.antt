use Rattle.std.proofs.Common.{◌≡◌, ◌≤◌, ◌+◌, ◌*◌, ◌++◌, ℕ, suc, drop, sum, length}
use Rattle.sk_deftext.specs.Canonical.{or_line, bones_text}
use Rattle.sk_deftext.proofs.Lines.{more_branches}
use Rattle.sk_deftext.proofs.print.+bones.Given as goal

abbrev pub decreases-put_bones : goal.decreases-put_bones
decreases-put_bones l = 2 * length l.bones.now

abbrev pub decreases-put_branches : goal.decreases-put_branches
decreases-put_branches l = 2 * length l.bones.now + 1

abbrev pub invariant-put_branches-loop-count : goal.invariant-put_branches-loop-count
invariant-put_branches-loop-count l = record {
  text : (size : ℕ) → length l.bones ≤ size →
      l.out.items ++ more_branches (bones_text l.hooks l.vars size (suc l.level)) (or_line l.level) l.is_first (drop l.count-index l.counts) l.left
      ≡ l.fn.out.items ++ more_branches (bones_text l.hooks l.vars size (suc l.level)) (or_line l.level) l.initial.is_first l.counts l.bones;
  later : drop (sum (drop l.count-index l.counts)) l.left ≡ drop (sum l.counts) l.bones;
  few : length l.left ≤ length l.bones;
}
