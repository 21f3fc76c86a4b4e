-- The verdict on a table.
use Rattle.std.specs.Prelude.{◌≡◌, ◌↔◌, ℕ, Bool, not, List, Option, Some, None, find}
use Rattle.std.specs.List.{enumerate_from}
use Rattle.std.specs.Option.{option_map, option_map_or}
use Rattle.sk_deriv.specs.Moves.{Setting}
use Rattle.sk_lattice.specs.Domain.{Domain}
use Rattle.sk_table.specs.declared.triple.Triple.{Triple}
use Rattle.sk_table.specs.declared.triple.Cover.{Cover}
use Rattle.sk_abswalk.specs.declared.verdict.Why.{Why}
use Rattle.sk_abswalk.specs.declared.verdict.Verdict.{Verdict}
use Rattle.sk_abswalk.specs.Walk.{Flows, Ends, uncovered, ill, with, abstract_outputs}
use Rattle.sk_abswalk.specs.Tables.{table_answer, call_of, is_justified, is_covered, IsAccepted}

-- the cause at a walk's end: its uncovered call, or the tuple that it gets to
abbrev pub why_of : {D : Type 0} → Ends D (Flows D) → Option (Why D)
why_of (uncovered c) = Some (Why.Uncovered c.hook c.point c.ins)
why_of ill = None
why_of (with None) = None
why_of (with (Some a)) = Some (Why.Larger a)

-- the first entry that fails a test, with its number from 1
abbrev pub first_failing : {A : Type 0} → (A → Bool) → List A → Option (ℕ × A)
first_failing test xs = find (λ e. not (test e.1)) (enumerate_from 1 xs)

-- the first cover line that lies below no triple, and else yes
abbrev pub covers_verdict : {D : Type 0} → Domain D → List (Cover D) → List (Triple D) → Verdict D
covers_verdict d covers table = option_map_or (λ e. Verdict.CoverMissing e.0) (first_failing (is_covered d table) covers) Verdict.Yes

-- The verdict on a table: the first triple that isn't justified, with its cause, and else that on the cover lines. There is
-- none where a triple's rule doesn't fit, which never is so in a well-sorted definition.
abbrev pub verdict_of : {D : Type 0} → Domain D → Setting → List (Cover D) → List (Triple D) → Option (Verdict D)
verdict_of d s covers table =
    option_map_or
    (λ e. option_map (Verdict.Unjustified e.0) (why_of (abstract_outputs d (table_answer d table) s (call_of e.1))))
    (first_failing (is_justified d s table) table)
    (Some (covers_verdict d covers table))

-- the law of verdicts: yes is the verdict exactly on accepted tables
abbrev pub VerdictsAreRight : {D : Type 0} → Domain D → Type 0
VerdictsAreRight {D} d =
    (s : Setting) (covers : List (Cover D)) (table : List (Triple D)) →
    verdict_of d s covers table ≡ Some Verdict.Yes ↔ IsAccepted d s covers table
