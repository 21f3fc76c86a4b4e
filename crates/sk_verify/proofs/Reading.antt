-- Triples that fit a program fit walks.
use Rattle.std.proofs.Common.{◌≡◌, ℕ, nat_lt, ◌==◌, true, false, length, List, Option, Some, None, ap}
use Rattle.std.specs.Prelude.{slice_get, IfSome}
use Rattle.std.specs.Option.{option_map_or}
use Rattle.std.proofs.lemmas.Bool.{and_parts, eqb-true, false≢true}
use Rattle.sk_def.specs.declared.ids.SortId.{SortId}
use Rattle.sk_def.specs.declared.def.Def.{Def}
use Rattle.sk_lattice.specs.declared.flow.AbsFlow.{AbsFlow}
use Rattle.sk_lattice.specs.Shapes.{has_sorts}
use Rattle.sk_term.specs.Program.{Program, IsProgramOf}
use Rattle.sk_term.proofs.Programs.{sort_is_declared}
use Rattle.sk_deriv.specs.Moves.{setting_of}
use Rattle.sk_table.specs.declared.triple.Triple.{Triple}
use Rattle.sk_table.specs.Fits as read
use Rattle.sk_abswalk.specs.Fits.{OutcomeFits, TripleFits}
use Rattle.sk_verify.specs.Reading.{ReadTablesFit}

sort_is : (wanted : SortId) (found : Option SortId) → option_map_or (λ (f : SortId). f.0 == wanted.0) found false ≡ true → found ≡ Some wanted
sort_is wanted None h = absurd (false≢true h)
sort_is wanted (Some f) h = ap (λ (n : ℕ). Some (record { 0 = n })) (eqb-true f.0 wanted.0 h)

module _ {D : Type 0} (def : Def) (program : Program) (is_program : IsProgramOf def program) (triple : Triple D)
    (fits : read.TripleFits def program program.names triple) where
  outs_fit : (outs : Option (List (AbsFlow D))) → IfSome outs (λ o. has_sorts program.names fits.hook.outputs o ≡ true) → OutcomeFits (setting_of def program) triple.hook outs
  outs_fit None h = tt
  outs_fit (Some outs) h = rw (fits.hook_is) h

  triple_fits : TripleFits (setting_of def program) triple
  triple_fits =
      let sorted = (and_parts (nat_lt triple.point (length program.nodes)) (option_map_or (λ (f : SortId). f.0 == fits.hook.sort.0) (slice_get program.sorts triple.point) false) fits.point_fits).1 in
      record {
        call_fits = record {
          hook = fits.hook;
          declared = fits.hook_is;
          point_fits = sort_is_declared def program triple.point fits.hook.sort is_program (sort_is fits.hook.sort (slice_get program.sorts triple.point) sorted);
          ins_fit = fits.ins_fit;
        };
        outs_fit = outs_fit triple.outs fits.outs_fit;
      }

pub read_tables_fit : (D : Type 0) → ReadTablesFit D
read_tables_fit D def program table is_program fit k d within = triple_fits def program is_program _ (fit k d within)
