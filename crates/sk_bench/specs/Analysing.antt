-- What is made of analyses and solutions, with what that says.
use Rattle.std.specs.Prelude.{◌≡◌, Bool, true, ℕ, List}
use Rattle.sk_lattice.specs.Domain.{Domain}
use Rattle.sk_lattice.specs.Empty.{is_proper}
use Rattle.sk_lattice.specs.DomainTexts.{DomainTexts}
use Rattle.sk_sign.specs.Signs.{sign_domain}
use Rattle.sk_sign.specs.Texts.{sign_texts}
use Rattle.sk_sign.specs.declared.sign.Sign.{Sign}
use Rattle.sk_table.specs.declared.triple.Cover.{Cover}
use Rattle.sk_bench.specs.Surveys.{Survey, IsAnalysisText, IsSolutionText, AnalysisMeans, SolutionMeans}

-- no part of the inputs of a cover line is empty
abbrev pub IsProperLine : {D : Type 0} → Domain D → Cover D → Type 0
IsProperLine d cover = is_proper d cover.ins ≡ true

-- the text is that of the analysis, whose table is sound
abbrev pub SoundlyAnalyses : {D : Type 0} → Domain D → Bool → DomainTexts D → Survey D → List ℕ → Type 0
SoundlyAnalyses d finite t survey text = IsAnalysisText d finite t survey text × AnalysisMeans d finite survey

-- the text is that of the least solution, whose table is that of the analysis
abbrev pub AgreeablySolves : Survey Sign → List ℕ → Type 0
AgreeablySolves survey text = IsSolutionText sign_domain sign_texts survey text × SolutionMeans sign_domain survey
