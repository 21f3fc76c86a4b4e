-- Lists of triples as tables of the rounds, and the least accepted one.
use Rattle.std.specs.Prelude.{◌≡◌, Bool, true, ◌&&◌, List, Some, All}
use Rattle.std.specs.List.{AllByRecursion, list_any}
use Rattle.sk_deriv.specs.Moves.{Setting}
use Rattle.sk_lattice.specs.Domain.{Domain}
use Rattle.sk_lattice.specs.Empty.{is_proper}
use Rattle.sk_lattice.specs.Order.{tuple_leq}
use Rattle.sk_absfilter.specs.Laws.{outcome_leq}
use Rattle.sk_table.specs.declared.triple.Triple.{Triple}
use Rattle.sk_table.specs.declared.triple.Cover.{Cover}
use Rattle.sk_rounds.specs.Walks.{Inputs, Outputs, Table}
use Rattle.sk_abswalk.specs.Walk.{Flows}
use Rattle.sk_abswalk.specs.Order.{IsProperOutcome}
use Rattle.sk_abswalk.specs.Tables.{IsAccepted}
use Rattle.sk_abswalk.specs.Fits.{TripleFits}
use Rattle.sk_abswalk.specs.Reading.{Key, same_key}
pub use Rattle.sk_abswalk.specs.Keys.{key_of_triple, HasOnePerKey}

-- the triples are of keys of the program, and no part of their tuples is empty
abbrev pub TriplesFit : {D : Type 0} → Domain D → Setting → List (Triple D) → Type 0
TriplesFit d s table = All (λ triple. TripleFits s triple × (is_proper d triple.ins ≡ true) × IsProperOutcome d triple.outs) table

-- whether the second triple is of the first one's key, and both its sides lie above
abbrev pub lies_under : {D : Type 0} → Domain D → Triple D → Triple D → Bool
lies_under d triple above = same_key (key_of_triple above) (key_of_triple triple) && (tuple_leq d triple.ins above.ins && outcome_leq d triple.outs above.outs)

-- The table is accepted; and in every accepted table of triples that fit, one for each key, each of its triples has one
-- of its key that lies above.
pub record IsLeastTable {D : Type 0} (d : Domain D) (s : Setting) (covers : List (Cover D)) (table : List (Triple D)) : Type 0 where
  pub accepted : IsAccepted d s covers table
  pub least : (other : List (Triple D)) → TriplesFit d s other → HasOnePerKey other → IsAccepted d s covers other → All (λ triple. list_any (lies_under d triple) other ≡ true) table

-- the triples are those of the table, and it has one for each of its keys
pub record Lists {D : Type 0} (triples : List (Triple D)) (T : Table Key (Flows D)) : Type 0 where
  pub each : AllByRecursion (λ (t : Triple D). (T (key_of_triple t) Inputs ≡ Some t.ins) × (T (key_of_triple t) Outputs ≡ t.outs)) triples
  pub has : (k : Key) (ins : Flows D) → T k Inputs ≡ Some ins → list_any (λ t. same_key (key_of_triple t) k) triples ≡ true
