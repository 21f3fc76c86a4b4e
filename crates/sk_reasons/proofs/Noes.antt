-- Verdicts that aren't yes are right.
use Rattle.std.proofs.Common.{◌≡◌, ℕ, Bool, true, false, cond, List, [], ◌∷◌, map, Option, Some, None, refl, ap, subst, ◌∙◌}
use Rattle.std.specs.Prelude.{All, filter}
use Rattle.std.specs.Option.{option_map, option_map_or}
use Rattle.std.proofs.lemmas.List.Elements.{All-nil, All-cons}
use Rattle.sk_deriv.specs.Moves.{Setting}
use Rattle.sk_lattice.specs.Domain.{Domain}
use Rattle.sk_absfilter.specs.Abstract.{Outcome}
use Rattle.sk_table.specs.declared.triple.Triple.{Triple}
use Rattle.sk_table.specs.declared.triple.Cover.{Cover}
use Rattle.sk_abswalk.specs.declared.verdict.Why.{Why}
use Rattle.sk_abswalk.specs.declared.verdict.Verdict.{Verdict}
use Rattle.sk_abswalk.specs.Walk.{Flows, Ends, uncovered, ill, with, abstract_walk, abstract_outputs}
use Rattle.sk_abswalk.specs.Tables.{outcome_meet, meet_from, table_answer, call_of, lies_below, is_above, is_justified, is_covered}
use Rattle.sk_abswalk.specs.Verdict.{why_of, first_failing, covers_verdict, verdict_of}
use Rattle.sk_abswalk.proofs.Settled.{Settles, walk_settled}
use Rattle.sk_abswalk.proofs.Verdicts.{verdicts_are_right}
use Rattle.sk_reasons.specs.Noes.{Explains, IsUnjustified, IsMissing, UnjustifiedIsRight, CoverMissingIsRight}
use Rattle.sk_reasons.proofs.FirstFailing.{first_fails, fails_first}

module _ (D : Type 0) (d : Domain D) (s : Setting) (covers : List (Cover D)) (table : List (Triple D)) where
  -- a call without an answer has no triple above it

  met_is_some : (o : Outcome D) (os : List (Outcome D)) → meet_from d (Some o) os ≡ None → ⊥
  met_is_some o [] e = absurd (cc e)
  met_is_some o (p ∷ os) e = met_is_some (outcome_meet d o p) os e

  none_above : (c : Cover D) (triples : List (Triple D)) → meet_from d None (map (λ triple. triple.outs) (filter (is_above d c) triples)) ≡ None → All (λ other. is_above d c other ≡ false) triples
  none_above c [] e = All-nil (λ (other : Triple D). is_above d c other ≡ false)
  none_above c (t ∷ ts) e = by (is_above d c t) refl (none_above c ts) e where
    by : (b : Bool) → is_above d c t ≡ b → (meet_from d None (map (λ triple. triple.outs) (filter (is_above d c) ts)) ≡ None → All (λ other. is_above d c other ≡ false) ts) → meet_from d None (map (λ triple. triple.outs) (cond b (t ∷ filter (is_above d c) ts) (filter (is_above d c) ts))) ≡ None → All (λ other. is_above d c other ≡ false) (t ∷ ts)
    by true h inner e = absurd (met_is_some t.outs (map (λ triple. triple.outs) (filter (is_above d c) ts)) e)
    by false h inner e = All-cons (λ other. is_above d c other ≡ false) t ts h (inner e)

  -- the cause at the end of a triple's walk explains that it isn't justified
  explains : (triple : Triple D) (why : Why D) (ends : Ends D (Flows D)) → abstract_outputs d (table_answer d table) s (call_of triple) ≡ ends → lies_below d ends triple.outs ≡ false → why_of ends ≡ Some why →
      Explains d s table triple why
  explains triple why (uncovered c) e below w =
      let same : Why.Uncovered c.hook c.point c.ins ≡ why = cc w in
      let settled = subst (Settles (table_answer d table) (abstract_walk d (table_answer d table) s (call_of triple)).asked) e (walk_settled D (table_answer d table) d s (call_of triple)) in
      subst (Explains d s table triple) same (e, none_above c table settled)
  explains triple why ill e below w = absurd (cc w)
  explains triple why (with None) e below w = absurd (cc w)
  explains triple why (with (Some a)) e below w =
      let same : Why.Larger a ≡ why = cc w in
      subst (Explains d s table triple) same (e, below)

  -- and what explains it is that cause
  explained : (triple : Triple D) (why : Why D) → Explains d s table triple why → why_of (abstract_outputs d (table_answer d table) s (call_of triple)) ≡ Some why
  explained triple (Why.Uncovered hook point ins) h = ap why_of h.0
  explained triple (Why.Larger outs) h = ap why_of h.0

  abbrev judged : Option (ℕ × Triple D) → Option (Verdict D)
  judged o = option_map_or (λ e. option_map (Verdict.Unjustified e.0) (why_of (abstract_outputs d (table_answer d table) s (call_of e.1)))) o (Some (covers_verdict d covers table))

  abbrev lines : Option (ℕ × Cover D) → Verdict D
  lines o = option_map_or (λ e. Verdict.CoverMissing e.0) o Verdict.Yes

  -- a cover line's verdict is none on a triple

  lines_apart : (o : Option (ℕ × Cover D)) (number : ℕ) (why : Why D) → lines o ≡ Verdict.Unjustified number why → ⊥
  lines_apart None number why e = absurd (cc e)
  lines_apart (Some x) number why e = absurd (cc e)

  triple_apart : (k number : ℕ) (o : Option (Why D)) → option_map (Verdict.Unjustified k) o ≡ Some (Verdict.CoverMissing number) → ⊥
  triple_apart k number None e = absurd (cc e)
  triple_apart k number (Some why) e = absurd (cc e)

  cause_of : (k number : ℕ) (why : Why D) (o : Option (Why D)) → option_map (Verdict.Unjustified k) o ≡ Some (Verdict.Unjustified number why) → (k ≡ number) × (o ≡ Some why)
  cause_of k number why None e = absurd (cc e)
  cause_of k number why (Some w) e =
      let same : w ≡ why = cc e in
      (cc e, ap (λ w. Some w) same)

  unjustified : (number : ℕ) (why : Why D) → verdict_of d s covers table ≡ Some (Verdict.Unjustified number why) → IsUnjustified d s table number why
  unjustified number why e = by (first_failing (is_justified d s table) table) refl e where
    by : (o : Option (ℕ × Triple D)) → first_failing (is_justified d s table) table ≡ o → judged o ≡ Some (Verdict.Unjustified number why) → IsUnjustified d s table number why
    by None f e = let same : covers_verdict d covers table ≡ Verdict.Unjustified number why = cc e in absurd (lines_apart (first_failing (is_covered d table) covers) number why same)
    by (Some (k, triple)) f e =
        let parts = cause_of k number why (why_of (abstract_outputs d (table_answer d table) s (call_of triple))) e in
        let first = first_fails (is_justified d s table) table number triple (f ∙ ap (λ k. Some (k, triple)) parts.0) in
        record { triple = triple; first = first; cause = explains triple why (abstract_outputs d (table_answer d table) s (call_of triple)) refl first.fails parts.1 }

  unjustified_so : (number : ℕ) (why : Why D) → IsUnjustified d s table number why → verdict_of d s covers table ≡ Some (Verdict.Unjustified number why)
  unjustified_so number why u =
      ap judged (fails_first (is_justified d s table) table number u.triple u.first) ∙ ap (option_map (Verdict.Unjustified number)) (explained u.triple why u.cause)

  missing : (number : ℕ) → verdict_of d s covers table ≡ Some (Verdict.CoverMissing number) → IsMissing d s covers table number
  missing number e = by (first_failing (is_justified d s table) table) refl e where
    line_of : (o : Option (ℕ × Cover D)) → lines o ≡ Verdict.CoverMissing number → (line : Cover D) × (o ≡ Some (number, line))
    line_of None e = absurd (cc e)
    line_of (Some (k, line)) e = let same : k ≡ number = cc e in (line, ap (λ k. Some (k, line)) same)

    by : (o : Option (ℕ × Triple D)) → first_failing (is_justified d s table) table ≡ o → judged o ≡ Some (Verdict.CoverMissing number) → IsMissing d s covers table number
    by None f e =
        let same : covers_verdict d covers table ≡ Verdict.CoverMissing number = cc e in
        let found = line_of (first_failing (is_covered d table) covers) same in
        let none : verdict_of d s [] table ≡ Some Verdict.Yes = ap (λ o. option_map_or (λ e. option_map (Verdict.Unjustified e.0) (why_of (abstract_outputs d (table_answer d table) s (call_of e.1)))) o (Some (covers_verdict d [] table))) f in
        record { justified = ((verdicts_are_right D d s [] table).0 none).justified; line = found.0; first = first_fails (is_covered d table) covers number found.0 found.1 }
    by (Some (k, triple)) f e = absurd (triple_apart k number (why_of (abstract_outputs d (table_answer d table) s (call_of triple))) e)

  missing_so : (number : ℕ) → IsMissing d s covers table number → verdict_of d s covers table ≡ Some (Verdict.CoverMissing number)
  missing_so number m =
      let yes : verdict_of d s [] table ≡ Some Verdict.Yes = (verdicts_are_right D d s [] table).1 (record { justified = m.justified; covered = All-nil (λ (line : Cover D). is_covered d table line ≡ true) }) in
      by (first_failing (is_justified d s table) table) refl yes where
        by : (o : Option (ℕ × Triple D)) → first_failing (is_justified d s table) table ≡ o →
            option_map_or (λ e. option_map (Verdict.Unjustified e.0) (why_of (abstract_outputs d (table_answer d table) s (call_of e.1)))) o (Some (covers_verdict d [] table)) ≡ Some Verdict.Yes →
            verdict_of d s covers table ≡ Some (Verdict.CoverMissing number)
        by None f e = ap judged f ∙ ap (λ o. Some (lines o)) (fails_first (is_covered d table) covers number m.line m.first)
        by (Some (k, triple)) f e = absurd (not_yes k (why_of (abstract_outputs d (table_answer d table) s (call_of triple))) e) where
          not_yes : (k : ℕ) (o : Option (Why D)) → option_map (Verdict.Unjustified k) o ≡ Some Verdict.Yes → ⊥
          not_yes k None e = absurd (cc e)
          not_yes k (Some w) e = absurd (cc e)

pub unjustified_is_right : (D : Type 0) (d : Domain D) → UnjustifiedIsRight d
unjustified_is_right D d s covers table number why = (unjustified D d s covers table number why, unjustified_so D d s covers table number why)

pub cover_missing_is_right : (D : Type 0) (d : Domain D) → CoverMissingIsRight d
cover_missing_is_right D d s covers table number = (missing D d s covers table number, missing_so D d s covers table number)
