-- The cover lines of a job are calls of keys of its program.
use Rattle.std.proofs.Common.{◌≡◌, ◌==◌, ◌+◌, ◌<◌, zero, suc, ℕ, Bool, true, false, List, [], ◌∷◌, length, get_or, map, Option, Some, None, refl, sym, ap, subst, ◌∙◌, arith}
use Rattle.std.specs.Prelude.{slice_get, All, option_map}
use Rattle.std.specs.Option.{option_map_or}
use Rattle.std.proofs.lemmas.Bool.{and_from, eqb-true, eq-eqb, lt-ltb}
use Rattle.std.proofs.lemmas.Option.{slice_get_within}
use Rattle.sk_base.specs.declared.flow.FlowSort.{FlowSort}
use Rattle.sk_def.specs.declared.def.Def.{Def}
use Rattle.sk_def.specs.declared.def.Hook.{Hook}
use Rattle.sk_def.specs.declared.ids.HookId.{HookId}
use Rattle.sk_def.specs.declared.ids.SortId.{SortId}
use Rattle.sk_term.specs.declared.node.TermNode.{TermNode}
use Rattle.sk_term.specs.Program.{Program, IsProgramOf}
use Rattle.sk_term.specs.Terms.{sort_of_node}
use Rattle.sk_deriv.specs.Moves.{Setting, setting_of}
use Rattle.sk_lattice.specs.Domain.{Domain}
use Rattle.sk_lattice.specs.Empty.{is_proper}
use Rattle.sk_lattice.specs.Shapes.{has_sorts}
use Rattle.sk_table.specs.declared.triple.Cover.{Cover}
use Rattle.sk_table.specs.Fits as table
use Rattle.sk_table.specs.Tables.{has_sort_at}
use Rattle.sk_abswalk.specs.Fits.{CallFits, TableFits}
use Rattle.sk_abswalk.specs.Reading.{CoversFit}
use Rattle.sk_bench.specs.Analysing.{IsProperLine}
use Rattle.sk_bench.specs.Jobs.{CoverFits, inputs_of}

sorts_same : (a b : SortId) → (a.0 == b.0) ≡ true → a ≡ b
sorts_same a b e = let h : a.0 ≡ b.0 = eqb-true a.0 b.0 e in λ i. record { 0 = h i }

-- a point with a sort stands in the program's list of sorts
module _ (d : Def) (program : Program) (is : IsProgramOf d program) (point : ℕ) (sort wanted : SortId) where
  moved : (sorts : List SortId) (nodes : List TermNode) (place : ℕ) → map Some sorts ≡ map (sort_of_node d) nodes
      → option_map (sort_of_node d) (slice_get nodes place) ≡ Some (Some sort) → slice_get sorts place ≡ Some sort
  moved [] [] place e found = absurd cc
  moved [] (n ∷ ns) place e found = absurd cc
  moved (s ∷ ss) [] place e found = absurd cc
  moved (s ∷ ss) (n ∷ ns) zero e found = let first : Some s ≡ sort_of_node d n = cc in cc
  moved (s ∷ ss) (n ∷ ns) (suc place) e found = let rest : map Some ss ≡ map (sort_of_node d) ns = cc in moved ss ns place rest found

  within : (node : Option TermNode) → slice_get program.nodes point ≡ node → option_map (sort_of_node d) node ≡ Some (Some sort) → point < length program.nodes
  within None e found = absurd cc
  within (Some node) e found = slice_get_within program.nodes point node e

  pub sort_is_at : option_map (sort_of_node d) (slice_get program.nodes point) ≡ Some (Some sort) → sort ≡ wanted → has_sort_at program wanted point ≡ true
  sort_is_at found same =
      let inside : point < length program.nodes = within (slice_get program.nodes point) refl found in
      rw (moved program.sorts program.nodes point is.sorts_are found, same) (and_from _ _ (lt-ltb point (length program.nodes) inside) (eq-eqb wanted.0 wanted.0 refl))

module _ {D : Type 0} (d : Def) (nodes : List TermNode) (names : ℕ) (c : Cover D) where
  with_parts : (hook : Option Hook) (sort : Option (Option SortId)) → slice_get d.hooks c.hook.0 ≡ hook → option_map (sort_of_node d) (slice_get nodes c.point) ≡ sort
      → CoverFits d nodes names c → CallFits (record { def = d; nodes = nodes; names = names }) c
  with_parts None None is found fit = absurd (let h = rw found at fit.point_is in cc)
  with_parts None (Some None) is found fit = absurd (let h = rw found at fit.point_is in cc)
  with_parts None (Some (Some sort)) is found fit = absurd (let h = rw (found, is) at fit.point_is in cc)
  with_parts (Some hook) None is found fit = absurd (let h = rw found at fit.point_is in cc)
  with_parts (Some hook) (Some None) is found fit = absurd (let h = rw found at fit.point_is in cc)
  with_parts (Some hook) (Some (Some sort)) is found fit =
      let same : sort ≡ hook.sort = sorts_same sort hook.sort (rw (found, is) at fit.point_is) in
      let inputs : inputs_of d c.hook ≡ hook.inputs = ap (λ (entry : Option Hook). option_map_or (λ (h : Hook). h.inputs) entry []) is in
      record {
        hook = hook;
        declared = is;
        point_fits = found ∙ ap (λ (s : SortId). Some (Some s)) same;
        ins_fit = subst (λ (sorts : List FlowSort). has_sorts names sorts c.ins ≡ true) inputs fit.ins_fit;
      }

-- what a job's cover line is to the constraints
line_fits : {D : Type 0} (d : Def) (program : Program) (names : ℕ) (c : Cover D) → IsProgramOf d program → CallFits (record { def = d; nodes = program.nodes; names = names }) c
    → table.CoverFits d program names c
line_fits d program names c is fit =
    record { hook = fit.hook; hook_is = fit.declared; point_fits = sort_is_at d program is c.point fit.hook.sort fit.hook.sort fit.point_fits refl; ins_fit = fit.ins_fit }

pub lines_fit : {D : Type 0} (d : Def) (program : Program) (names : ℕ) (covers : List (Cover D)) → IsProgramOf d program → program.names ≡ names
    → All (CoverFits d program.nodes names) covers → All (table.CoverFits d program program.names) covers
lines_fit d program names covers is same fit =
    λ k x l.
    line_fits d program program.names (get_or covers k x) is
    (with_parts d program.nodes program.names (get_or covers k x) _ _ refl refl (subst (λ (n : ℕ). CoverFits d program.nodes n (get_or covers k x)) (sym same) (fit k x l)))

pub covers_fit : {D : Type 0} (domain : Domain D) (d : Def) (program : Program) (names : ℕ) (covers : List (Cover D)) → program.names ≡ names
    → All (CoverFits d program.nodes names) covers → All (IsProperLine domain) covers → CoversFit domain (setting_of d program) covers
covers_fit domain d program names covers same fit proper =
    λ k x l.
    (with_parts d program.nodes program.names (get_or covers k x) _ _ refl refl (subst (λ (n : ℕ). CoverFits d program.nodes n (get_or covers k x)) (sym same) (fit k x l)), proper k x l)

-- a table without triples fits
pub no_triples_fit : {D : Type 0} (s : Setting) → TableFits {D = D} s []
no_triples_fit s = λ k x l. absurd (omega (arith, l))
