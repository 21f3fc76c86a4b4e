-- The spellings of intervals, of which the printed text is one.
use Rattle.std.specs.Prelude.{◌≡◌, ◌↔◌, ℕ, ℤ, ◌≤ℤ◌, List, [], ◌∷◌, ◌++◌, length, codes, Some, Ok, Err}
use Rattle.sk_lex.specs.Symbols.{Symbol, Named, Plain}
use Rattle.sk_lex.specs.declared.token.TokenKind.TheVariants as kind
use Rattle.sk_interval.specs.declared.bounds.Interval.{Interval}
use Rattle.sk_interval.specs.declared.bounds.Interval.TheVariants.{Empty}
use Rattle.sk_interval.specs.Cuts.{cut}
use Rattle.sk_interval.specs.Texts.{end_of, interval_taken}

-- the word `none`, or two ends in order between brackets
pub data IsSpelling : List Symbol → Interval → Type 0 where
  Nothing : IsSpelling (Named (codes "none") ∷ []) Empty
  Between : (low high : Symbol) (least greatest : ℤ) → end_of low ≡ Some least → end_of high ≡ Some greatest → least ≤ℤ greatest → IsSpelling (Plain kind.LeftBracket ∷ low ∷ Plain kind.Dots ∷ high ∷ Plain kind.RightBracket ∷ []) (cut least greatest)

-- a spelling of so many symbols stands at the front
pub record BeginsWith (symbols : List Symbol) (a : Interval) (count : ℕ) : Type 0 where
  pub front : List Symbol
  pub rest : List Symbol
  pub parts : symbols ≡ front ++ rest
  pub counted : count ≡ length front
  pub spelling : IsSpelling front a

-- an interval is taken exactly where one of its spellings stands
abbrev pub SpellingsAreTaken : Type 0
SpellingsAreTaken = (symbols : List Symbol) (a : Interval) (count : ℕ) → (interval_taken symbols ≡ Ok (a, count)) ↔ BeginsWith symbols a count

-- symbols with which a spelling begins
pub record CanBegin (front : List Symbol) : Type 0 where
  pub rest : List Symbol
  pub interval : Interval
  pub spelling : IsSpelling (front ++ rest) interval

-- a spelling can begin with so many symbols, and not with the next one too
pub record IsFault (symbols : List Symbol) (count : ℕ) : Type 0 where
  pub front : List Symbol
  pub rest : List Symbol
  pub parts : symbols ≡ front ++ rest
  pub counted : count ≡ length front
  pub begins : CanBegin front
  pub ends : (next : Symbol) (more : List Symbol) → rest ≡ next ∷ more → ¬ CanBegin (front ++ next ∷ [])

-- where no interval is taken, the place is that of the first symbol that fits no spelling
abbrev pub FaultsAreFirst : Type 0
FaultsAreFirst = (symbols : List Symbol) (count : ℕ) → interval_taken symbols ≡ Err count → IsFault symbols count
