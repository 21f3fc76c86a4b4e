-- What holds of the triples of the table at the first round that changes nothing.
use Rattle.std.proofs.Common.{◌≡◌, ℕ, ℤ, ◌≤◌, Bool, true, List, map, flat_map, sym, ◌∙◌, ap, subst}
use Rattle.sk_def.specs.declared.def.Def.{Def}
use Rattle.sk_term.specs.Program.{Program}
use Rattle.sk_term.specs.Terms.{keys}
use Rattle.sk_deriv.specs.Moves.{setting_of}
use Rattle.sk_lattice.specs.Domain.{Domain}
use Rattle.sk_table.specs.declared.triple.Triple.{Triple}
use Rattle.sk_table.specs.declared.triple.Cover.{Cover}
use Rattle.sk_rounds.specs.Walks.{Inputs, Outputs, Table, Walks}
use Rattle.sk_rounds.specs.Rounds.{round_bound}
use Rattle.sk_rounds.specs.Accepted.{row_at}
use Rattle.sk_abswalk.specs.Walk.{Flows}
use Rattle.sk_abswalk.specs.Tables.{IsAccepted}
use Rattle.sk_abswalk.specs.RoundLaws.{AnalysedTables}
use Rattle.sk_abswalk.specs.Reading.{Key, triple_of, triples_of, walks_of}
use Rattle.sk_abswalk.specs.LeastTable.{HasOnePerKey, TriplesFit, IsLeastTable}

-- the triples that are listed by the keys are the table's
pub triples_are : {D : Type 0} (w : Walks Key (Flows D)) (T : Table Key (Flows D)) (list : List Key) (table : List (Triple D)) → list ≡ w.keys → table ≡ map triple_of (flat_map (λ k. row_at k (T k Inputs) (T k Outputs)) list) → table ≡ triples_of w T
triples_are w T list table keys_are e = e ∙ ap (λ l. map triple_of (flat_map (λ k. row_at k (T k Inputs) (T k Outputs)) l)) keys_are

pub record Concluded {D : Type 0} (d : Domain D) (finite : Bool) (def : Def) (program : Program) (covers : List (Cover D)) (marks : List ℤ) (table : List (Triple D)) (rounds : ℕ) : Type 0 where
  pub in_time : rounds ≤ round_bound (walks_of d finite marks (setting_of def program) covers)
  pub fits : TriplesFit d (setting_of def program) table
  pub one_per_key : HasOnePerKey table
  pub accepted : IsAccepted d (setting_of def program) covers table
  pub least : finite ≡ true → IsLeastTable d (setting_of def program) covers table

pub concluded : (D : Type 0) (d : Domain D) (finite : Bool) (def : Def) (program : Program) (covers : List (Cover D)) (marks : List ℤ) (T : Table Key (Flows D)) (rounds : ℕ) (list : List Key) (table : List (Triple D)) → AnalysedTables d finite def program covers marks T rounds → list ≡ keys def program.nodes →
    table ≡ map triple_of (flat_map (λ k. row_at k (T k Inputs) (T k Outputs)) list) → Concluded d finite def program covers marks table rounds
concluded D d finite def program covers marks T rounds list table a keys_are e =
    let is = sym (triples_are (walks_of d finite marks (setting_of def program) covers) T list table keys_are e) in
    record {
      in_time = a.in_time;
      fits = subst (TriplesFit d (setting_of def program)) is a.fits;
      one_per_key = subst HasOnePerKey is a.one_per_key;
      accepted = subst (IsAccepted d (setting_of def program) covers) is a.accepted;
      least = λ fin. subst (IsLeastTable d (setting_of def program) covers) is (a.least fin);
    }
