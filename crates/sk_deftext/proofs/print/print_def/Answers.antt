use Rattle.std.proofs.Common.{rules, ◌≡◌, List, ℕ, subst, sym}
use Rattle.sk_deftext.specs.Canonical.{definition_text}
use Rattle.sk_deftext.specs.Written.{HasText, Says}
use Rattle.sk_deftext.proofs.Again.{said_again}
use Rattle.sk_deftext.proofs.Items.{canonical_says}
use Rattle.sk_deftext.proofs.print.print_def.Goals as goal

pub returns-clause-says : goal.returns-clause-says
returns-clause-says c = λ (h : HasText c.args.def.now).
    let text : c.put_rules.new.out.items ≡ definition_text c.args.def.now = search rules in
    let P : List ℕ → Type 0 = λ text. Says text c.args.def.now in
    subst P (sym text) (canonical_says c.args.def.now h)

pub returns-clause-again : goal.returns-clause-again
returns-clause-again c = λ (from : List ℕ) (said : Says from c.args.def.now).
    let text : c.put_rules.new.out.items ≡ definition_text c.args.def.now = search rules in
    let P : List ℕ → Type 0 = λ text. Says text c.args.def.now in
    subst P (sym text) (said_again from c.args.def.now said)
