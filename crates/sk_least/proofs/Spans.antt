-- What arithmetic gives on intervals lies between any two ends between which all results lie.
use Rattle.std.proofs.Common.{◌≡◌, ◌≢◌, ℤ, pos, negsuc, ◌+ℤ◌, ◌-ℤ◌, ◌*ℤ◌, ◌≤ℤ◌, true, Option, Some, None, refl, arith, lit<}
use Rattle.std.specs.Prelude.{int_div}
use Rattle.std.specs.Int.{int_max, int_min}
use Rattle.std.proofs.lemmas.Int.{ints, clamps}
use Rattle.std.proofs.lemmas.Bool.{false≢true}
use Rattle.sk_value.specs.declared.arith.Arith.{Arith}
use Rattle.sk_value.specs.declared.arith.Arith.TheVariants.{Add, Sub, Mul, Div, Rem, Pick}
use Rattle.sk_value.specs.Numbers.{Gives, IsNumber}
use Rattle.sk_interval.specs.declared.bounds.Bounds.{Bounds}
use Rattle.sk_interval.specs.declared.bounds.Interval.{Interval}
use Rattle.sk_interval.specs.declared.bounds.Interval.TheVariants.{Empty, Range}
use Rattle.sk_interval.specs.declared.span.Span.{Span}
use Rattle.sk_interval.specs.Cuts.{interval_leq, cut, interval_holds}
use Rattle.sk_interval.specs.Arithmetic.{corners, join_spans, quotients, divide, bounds_arith}
use Rattle.sk_interval.specs.Laws.Arith.{arith_leq}
use Rattle.sk_interval.specs.Laws.Sets.{bound_laws, order, leq_at, in_cut, cut_within}
use Rattle.sk_interval.specs.Intervals.{interval_domain}
use Rattle.sk_least.specs.Domains.{Held, Between, SpansAreLeast, dividends}
use Rattle.sk_least.proofs.Ends.{held_in, of_corners, OfEnds, OfSpan, of_quotients}
use Rattle.sk_least.proofs.Intervals.{arith_below}

-- the numbers of spans of which the ends lie between
spans_between : (low high : ℤ) (s t : Option Span) → OfSpan (Between low high) s → OfSpan (Between low high) t → (n : ℤ) → interval_holds (join_spans s t) n ≡ true → Between low high n
spans_between low high (Some s) (Some t) h k n e =
    let w = cut_within (int_min s.low t.low) (int_max s.high t.high) n e in
    let p = h.low in
    let q = h.high in
    let r = k.low in
    let u = k.high in
    of_both s.low s.high t.low t.high p.0 q.1 r.0 u.1 w.above w.below
  where
    of_both : (a b c d : ℤ) → low ≤ℤ a → b ≤ℤ high → low ≤ℤ c → d ≤ℤ high → int_min a c ≤ℤ n → n ≤ℤ int_max b d → Between low high n
    of_both a b c d p q r u h k = (omega (arith, ints, clamps), omega (arith, ints, clamps))
spans_between low high (Some s) None h k n e =
    let w = cut_within s.low s.high n e in
    within s.low s.high h.low.0 h.high.1 w.above w.below
  where
    within : (a b : ℤ) → low ≤ℤ a → b ≤ℤ high → a ≤ℤ n → n ≤ℤ b → Between low high n
    within a b p q h k = (omega (arith, ints), omega (arith, ints))
spans_between low high None (Some t) h k n e =
    let w = cut_within t.low t.high n e in
    within t.low t.high k.low.0 k.high.1 w.above w.below
  where
    within : (a b : ℤ) → low ≤ℤ a → b ≤ℤ high → a ≤ℤ n → n ≤ℤ b → Between low high n
    within a b p q h k = (omega (arith, ints), omega (arith, ints))
spans_between low high None None h k n e = absurd (false≢true e)

abbrev Holds : Interval → ℤ → Type 0
Holds a n = Held interval_domain a n

at_start : (a : Bounds) → Holds (Range a) a.low
at_start a = held_in a a.low (omega (arith, ints)) a.ordered

at_end : (a : Bounds) → Holds (Range a) a.high
at_end a = held_in a a.high a.ordered (omega (arith, ints))

module _ (low high : ℤ) (a b : Bounds) where
  -- the numbers of a cut of which both ends lie between
  cut_between : (l h : ℤ) → Between low high l → Between low high h → (n : ℤ) → interval_holds (cut l h) n ≡ true → Between low high n
  cut_between l h p q n e =
      let w = cut_within l h n e in
      within p.0 q.1 w.above w.below
    where
      within : low ≤ℤ l → h ≤ℤ high → l ≤ℤ n → n ≤ℤ h → Between low high n
      within p q r u = (omega (arith, ints), omega (arith, ints))

  quotients_between : ((m n : ℤ) → Holds (Range a) m → Holds (Range b) n → n ≢ pos 0 → Between low high (int_div m n)) → (n : ℤ) → interval_holds (divide a b) n ≡ true → Between low high n
  quotients_between step =
      spans_between low high (quotients a b.low (int_min b.high (negsuc 0))) (quotients a (int_max b.low (pos 1)) b.high)
      (of_quotients (Between low high) a b.low (int_min b.high (negsuc 0)) (λ o.
      at_ends b.low (int_min b.high (negsuc 0)) (at_start b) (held_in b (int_min b.high (negsuc 0)) o (omega (arith, ints, clamps))) (λ e. omega (arith, ints, clamps)) (λ e. omega (arith, ints, clamps))))
      (of_quotients (Between low high) a (int_max b.low (pos 1)) b.high (λ o.
      at_ends (int_max b.low (pos 1)) b.high (held_in b (int_max b.low (pos 1)) (omega (arith, ints, clamps)) o) (at_end b) (λ e. omega (arith, ints, clamps)) (λ e. omega (arith, ints, clamps))))
    where
      at_ends : (l h : ℤ) → Holds (Range b) l → Holds (Range b) h → l ≢ pos 0 → h ≢ pos 0 → OfEnds (Between low high) (corners int_div a.low a.high l h)
      at_ends l h p q y z =
          of_corners (Between low high) int_div a.low a.high l h
          (step a.low l (at_start a) p y) (step a.low h (at_start a) q z) (step a.high l (at_end a) p y) (step a.high h (at_end a) q z)

-- what arithmetic gives lies between, where it lies below every interval that holds what lies between
least_between : (low high : ℤ) (x : Interval) → interval_leq x (cut low high) ≡ true → (n : ℤ) → interval_holds x n ≡ true → Between low high n
least_between low high x h n e = let w = cut_within low high n (leq_at x (cut low high) n h e) in (w.above, w.below)

held_between : (low high : ℤ) (r : ℤ) → Between low high r → IsNumber r → interval_holds (cut low high) r ≡ true
held_between low high r h f = in_cut low high r h.0 h.1 f

-- remainders of dividends with zero among them
remainders_between : (x b : Interval) (low high : ℤ) → interval_holds x (pos 0) ≡ true → ((m n r : ℤ) → Holds x m → Holds b n → Gives Rem m n r → Between low high r) → (n : ℤ) → interval_holds (interval_domain.arith Rem x b) n ≡ true → Between low high n
remainders_between x b low high zero step =
    least_between low high (interval_domain.arith Rem x b) (arith_below Rem x b (cut low high) zero (λ m n r h k g f. held_between low high r (step m n r h k g) f))

spans_at : (op : Arith) (a b : Bounds) (low high : ℤ) → ((m n r : ℤ) → Holds (dividends op (Range a)) m → Holds (Range b) n → Gives op m n r → Between low high r) → (n : ℤ) → interval_holds (bounds_arith op a b) n ≡ true → Between low high n
spans_at Mul a b low high step =
    let ends = of_corners (Between low high) (λ m n. m *ℤ n) a.low a.high b.low b.high
    (step a.low b.low (a.low *ℤ b.low) (at_start a) (at_start b) refl) (step a.low b.high (a.low *ℤ b.high) (at_start a) (at_end b) refl)
    (step a.high b.low (a.high *ℤ b.low) (at_end a) (at_start b) refl) (step a.high b.high (a.high *ℤ b.high) (at_end a) (at_end b) refl) in
    cut_between low high a b _ _ ends.low ends.high
spans_at Div a b low high step = quotients_between low high a b (λ m n h k z. step m n (int_div m n) h k (z, refl))
spans_at Add a b low high step = cut_between low high a b (a.low +ℤ b.low) (a.high +ℤ b.high) (step a.low b.low (a.low +ℤ b.low) (at_start a) (at_start b) refl) (step a.high b.high (a.high +ℤ b.high) (at_end a) (at_end b) refl)
spans_at Sub a b low high step = cut_between low high a b (a.low -ℤ b.high) (a.high -ℤ b.low) (step a.low b.high (a.low -ℤ b.high) (at_start a) (at_end b) refl) (step a.high b.low (a.high -ℤ b.low) (at_end a) (at_start b) refl)
spans_at Rem a b low high step = λ n e.
    let wide = interval_domain.join (Range a) (interval_domain.of (pos 0)) in
    let zero = leq_at (interval_domain.of (pos 0)) wide (pos 0) (bound_laws.join_right (Range a) (interval_domain.of (pos 0))) (order.of_holds (pos 0) (record { sfits = lit< tt })) in
    let below = arith_leq Rem (Range a) wide (Range b) (Range b) (bound_laws.join_left (Range a) (interval_domain.of (pos 0))) (order.leq_refl (Range b)) in
    remainders_between wide (Range b) low high zero step n (leq_at (bounds_arith Rem a b) (interval_domain.arith Rem wide (Range b)) n below e)
spans_at Pick a b low high step =
    least_between low high (bounds_arith Pick a b) (arith_below Pick (Range a) (Range b) (cut low high) refl (λ m n r h k g f. held_between low high r (step m n r h k g) f))

pub spans_least : SpansAreLeast
spans_least op (Range a) (Range b) low high step = spans_at op a b low high step
spans_least op (Range a) Empty low high step = λ n e. absurd (false≢true e)
spans_least op Empty b low high step = λ n e. absurd (false≢true e)
