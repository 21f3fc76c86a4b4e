-- The rules of a definition that was read are in order, so that a text can say it.
use Rattle.std.proofs.Common.{◌≡◌, ℕ, List, [], ◌∷◌, ◌++◌, refl, subst, Ok, Err}
use Rattle.std.specs.Prelude.{All}
use Rattle.std.specs.List.{AllByRecursion}
use Rattle.std.proofs.lemmas.List.Elements.{All-nil}
use Rattle.sk_lex.specs.Run.{Turn}
use Rattle.sk_lex.specs.Symbols.{Symbol}
use Rattle.sk_def.specs.Fits.{HasFewBranches}
use Rattle.sk_deftext.specs.Met.{Met}
use Rattle.sk_deftext.specs.Reading.{nothing, read_symbols, step}
use Rattle.sk_deftext.specs.Written.{IsInOrder}
use Rattle.sk_deftext.specs.declared.draft.Draft.{Draft}
use Rattle.sk_deftext.specs.declared.expected.Expected.{Expected}
use Rattle.sk_deftext.specs.declared.expected.Expected.TheVariants.{Skel, Version, Item}
use Rattle.sk_deftext.proofs.Standing.{Standing}
use Rattle.sk_deftext.proofs.Kept.{Kept, step_keeps}
use Rattle.sk_deftext.proofs.Fulfilled.{at_first}
use Rattle.sk_deftext.proofs.Phases.{Phase, idle, Path, here, onto, at_skel, at_version, at_item, both_paths, In, Ordered}
use Rattle.sk_deftext.proofs.Orders.{Goes, step_goes}
use Rattle.sk_deftext.proofs.Reruns.{symbols_keep}

-- what holds of a draft where so much is expected
record Stays (awaited : List Expected) (draft : Draft) : Type 0 where
  now : Phase
  last : Phase
  is : In now draft
  path : Path now awaited last
  ordered : Ordered draft
  stands : Standing draft

turn_stays : (met : Met) (turn : Turn Expected Draft) (awaited : List Expected) {q last : Phase} → Goes met q → Kept met → Path q awaited last → met ≡ Ok turn → Stays (turn.expected ++ awaited) turn.state
turn_stays (Ok first) turn awaited {last = last} g k path e =
    let same : first ≡ turn = cc e in
    let P : Turn Expected Draft → Type 0 = λ t. Stays (t.expected ++ awaited) t.state in
    subst P same (record { now = g.is.0; last = last; is = g.is.1; path = both_paths awaited g.is.2 path; ordered = g.is.3; stands = k.is })
turn_stays (Err error) turn awaited g k path e = absurd (cc e)

step_stays : (one : Expected) (awaited : List Expected) (draft : Draft) (at : ℕ) (symbol : Symbol) (turn : Turn Expected Draft) → Stays (one ∷ awaited) draft →
    step draft one at symbol ≡ Ok turn → Stays (turn.expected ++ awaited) turn.state
step_stays one awaited draft at symbol turn s e = by s.path s.is where
  by : {p last : Phase} → Path p (one ∷ awaited) last → In p draft → Stays (turn.expected ++ awaited) turn.state
  by (onto t later) i = turn_stays (step draft one at symbol) turn awaited (step_goes draft s.stands s.ordered one t i at symbol) (step_keeps draft s.stands one at symbol) later e

-- each symbol will do
any_symbols : (symbols : List Symbol) → AllByRecursion (λ (symbol : Symbol). Unit {0}) symbols
any_symbols [] = tt
any_symbols (symbol ∷ symbols) = (tt, any_symbols symbols)

stays_first : Stays (Skel ∷ Version ∷ Item ∷ []) nothing
stays_first = record {
  now = idle;
  last = idle;
  is = (refl, refl, refl, refl, refl, refl);
  path = onto at_skel (onto at_version (onto at_item here));
  ordered = record { in_order = All-nil IsInOrder; appear = refl; few = All-nil HasFewBranches; unclosed_few = tt };
  stands = at_first;
}

pub symbols_in_order : (symbols : List Symbol) (draft : Draft) → read_symbols symbols ≡ Ok draft → All IsInOrder draft.def.rules
symbols_in_order symbols draft e =
    symbols_keep (λ (symbol : Symbol). Unit {0}) Stays (λ (d : Draft). All IsInOrder d.def.rules)
    (λ (awaited : List Expected) (d : Draft) (s : Stays awaited d). s.ordered.in_order)
    (λ (one : Expected) (awaited : List Expected) (d : Draft) (at : ℕ) (symbol : Symbol) (turn : Turn Expected Draft) (w : Unit {0}) (s : Stays (one ∷ awaited) d) (m : step d one at symbol ≡ Ok turn).
    step_stays one awaited d at symbol turn s m)
    symbols draft (any_symbols symbols) stays_first e
