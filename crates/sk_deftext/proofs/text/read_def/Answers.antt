use Rattle.std.proofs.Common.{rules, ◌≡◌, Ok, ap}
use Rattle.sk_lex.specs.Tokens.{tokens_of}
use Rattle.sk_def.specs.declared.def.Def.{Def}
use Rattle.sk_deftext.specs.declared.source.Source.{Source}
use Rattle.sk_deftext.proofs.Again.{read_has_text}
use Rattle.sk_deftext.proofs.Fulfilled.{read_stands, source_placed}
use Rattle.sk_deftext.proofs.Items.{canonical_says}
use Rattle.sk_deftext.proofs.text.read_def.Goals as goal

abbrev def_of : Source → Def
def_of source = source.def

pub returns-in-Ok-read_draft-clause-fits : goal.returns-in-Ok-read_draft-clause-fits
returns-in-Ok-read_draft-clause-fits c =
    let tokens : tokens_of c.args.text.now ≡ Ok c.as_slice.result.now = search rules in
    let has = read_has_text c.args.text.now c.as_slice.result.now c.in-Ok-read_draft.draft _ (ap def_of c.in_ok-with_places-in-Ok-read_draft.ensures) tokens c.in-Ok-read_draft.ensures in
    has.fits

pub returns-in-Ok-read_draft-clause-placed : goal.returns-in-Ok-read_draft-clause-placed
returns-in-Ok-read_draft-clause-placed c =
    source_placed c.args.text.now c.as_slice-in-Ok-read_draft.result.now c.in-Ok-read_draft.draft c.in_ok-with_places-in-Ok-read_draft.field-0 c.in_ok-with_places-in-Ok-read_draft.ensures
    (read_stands _ c.in-Ok-read_draft.draft c.in-Ok-read_draft.ensures)

pub returns-in-Ok-read_draft-clause-named : goal.returns-in-Ok-read_draft-clause-named
returns-in-Ok-read_draft-clause-named c =
    let tokens : tokens_of c.args.text.now ≡ Ok c.as_slice.result.now = search rules in
    let has = read_has_text c.args.text.now c.as_slice.result.now c.in-Ok-read_draft.draft _ (ap def_of c.in_ok-with_places-in-Ok-read_draft.ensures) tokens c.in-Ok-read_draft.ensures in
    has.named

pub returns-in-Ok-read_draft-clause-in_order : goal.returns-in-Ok-read_draft-clause-in_order
returns-in-Ok-read_draft-clause-in_order c =
    let tokens : tokens_of c.args.text.now ≡ Ok c.as_slice.result.now = search rules in
    let has = read_has_text c.args.text.now c.as_slice.result.now c.in-Ok-read_draft.draft _ (ap def_of c.in_ok-with_places-in-Ok-read_draft.ensures) tokens c.in-Ok-read_draft.ensures in
    has.in_order

pub returns-in-Ok-read_draft-clause-again : goal.returns-in-Ok-read_draft-clause-again
returns-in-Ok-read_draft-clause-again c =
    let tokens : tokens_of c.args.text.now ≡ Ok c.as_slice.result.now = search rules in
    canonical_says _ (read_has_text c.args.text.now c.as_slice.result.now c.in-Ok-read_draft.draft _ (ap def_of c.in_ok-with_places-in-Ok-read_draft.ensures) tokens c.in-Ok-read_draft.ensures)
