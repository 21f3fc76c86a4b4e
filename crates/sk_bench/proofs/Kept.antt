-- What the reader of a job's lines keeps.
use Rattle.std.proofs.Common.{◌≡◌, ℕ, ◌≤◌, All, IfSome, List, length, Some, ap, refl, [], ◌∷◌, ◌++◌, subst, sym, arith, length-append}
use Rattle.std.proofs.lemmas.List.{append-nil}
use Rattle.std.proofs.lemmas.List.Elements.{All-append, All-cons, All-nil}
use Rattle.std.proofs.lemmas.Option.{IfSome_then}
use Rattle.sk_interval.specs.declared.bounds.Interval.{Interval}
use Rattle.sk_sign.specs.declared.sign.Sign.{Sign}
use Rattle.sk_table.specs.declared.triple.Cover.{Cover}
use Rattle.sk_term.specs.Meets.{HasGrown}
use Rattle.sk_bench.specs.declared.job.Start.{Start}
use Rattle.sk_bench.specs.Jobs.{Lines, StartFits, CoverFits}
use Rattle.sk_bench.specs.JobMeets.{Keeps, LinesFit, StartFitsOnce, CoverFitsOnce}

pub keeps_self : (state : Lines) → Keeps state state
keeps_self state = record { definition = refl; program = refl; names = record { added = []; is = sym (append-nil state.names) } }

-- names that were added are more
pub grown_le : {few more : List (List ℕ)} → HasGrown few more → length few ≤ length more
grown_le {few} {more} grown =
    let same = ap length grown.is in
    let long = length-append few grown.added in
    omega (arith, same, long)

within : {n few more : ℕ} → n ≤ few → few ≤ more → n ≤ more
within h le = omega (arith, h, le)

-- what fits over some of the names does so where there are more
module _ (state : Lines) (names : List (List ℕ)) (grown : HasGrown state.names names) where
  start_by_more : IfSome state.start (StartFitsOnce state) → IfSome state.start (StartFitsOnce (record state { names = names }))
  start_by_more h = IfSome_then state.start h (λ start fits. (fits.0, within fits.1 (grown_le grown), fits.2))

  covers_by_more : {D : Type 0} (covers : List (Cover D)) → All (CoverFitsOnce state) covers → All (CoverFitsOnce (record state { names = names })) covers
  covers_by_more covers h k cover at = let fits = h k cover at in (fits.0, within fits.1 (grown_le grown), fits.2)

  one_more : {D : Type 0} (covers : List (Cover D)) (cover : Cover D) → All (CoverFitsOnce state) covers → CoverFits state.def state.nodes (length names) cover
      → All (CoverFitsOnce (record state { names = names })) (covers ++ cover ∷ [])
  one_more {D} covers cover h fits =
      let P : Cover D → Type 0 = CoverFitsOnce (record state { names = names }) in
      All-append P covers (cover ∷ []) (covers_by_more covers h) (All-cons P cover [] (length names, omega arith, fits) (All-nil P))

-- after the start line
pub start_fits : {state : Lines} {names : List (List ℕ)} {start : Start} → LinesFit state → HasGrown state.names names → StartFits state.def state.nodes (length names) start
    → LinesFit (record state { names = names; start = Some start })
start_fits {state} {names} fit grown fits = record {
  start = (length names, omega arith, fits);
  sign = covers_by_more state names grown state.sign fit.sign;
  interval = covers_by_more state names grown state.interval fit.interval;
}

-- after a cover line
pub sign_fits : {state : Lines} {names : List (List ℕ)} {cover : Cover Sign} {covers : List (Cover Sign)} → LinesFit state → HasGrown state.names names
    → CoverFits state.def state.nodes (length names) cover → covers ≡ state.sign ++ cover ∷ [] → LinesFit (record state { names = names; sign = covers })
sign_fits {state} {names} {cover} fit grown fits is = record {
  start = start_by_more state names grown fit.start;
  sign = subst (All (CoverFitsOnce (record state { names = names }))) (sym is) (one_more state names grown state.sign cover fit.sign fits);
  interval = covers_by_more state names grown state.interval fit.interval;
}

pub interval_fits : {state : Lines} {names : List (List ℕ)} {cover : Cover Interval} {covers : List (Cover Interval)} → LinesFit state → HasGrown state.names names
    → CoverFits state.def state.nodes (length names) cover → covers ≡ state.interval ++ cover ∷ [] → LinesFit (record state { names = names; interval = covers })
interval_fits {state} {names} {cover} fit grown fits is = record {
  start = start_by_more state names grown fit.start;
  sign = covers_by_more state names grown state.sign fit.sign;
  interval = subst (All (CoverFitsOnce (record state { names = names }))) (sym is) (one_more state names grown state.interval cover fit.interval fits);
}
